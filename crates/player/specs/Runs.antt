-- What one step of a run does.
use Rattle.std.specs.Prelude.{◌≡◌, ℕ, ◌+◌, List, Ok, Err, Result, Some, None, Option}
use Rattle.codes.specs.declared.refusal.Refusal.{Refusal}
use Rattle.codes.specs.declared.refusal.Refusal.TheVariants.{Frame}
use Rattle.surface.specs.Meaning.{Meaning}
use Rattle.surface.specs.Rects.{Keep}
use Rattle.metafile.specs.Frames.{Lies, end}
use Rattle.metafile.specs.declared.record.Record.{Record}
use Rattle.playback.specs.Contexts.{initial}
use Rattle.playback.specs.Records.{Mark, untouched, Marks, Outcome, plays}
use Rattle.playback.specs.declared.answer.Answer.{Answer}
use Rattle.playback.specs.declared.answer.Answer.TheVariants as answer
use Rattle.playback.specs.declared.context.DeviceContext.{DeviceContext}
use Rattle.player.specs.Finding.{ShowsAt, BreaksAt}
use Rattle.player.specs.Views.{seen_record}
use Rattle.player.specs.declared.fault.StepFault.{StepFault}
use Rattle.player.specs.declared.fault.StepFault.TheVariants as fault
use Rattle.player.specs.declared.progress.Counts.{Counts}
use Rattle.player.specs.declared.progress.Phase.TheVariants.{Playing, Ended}
use Rattle.player.specs.declared.progress.Progress.{Progress}

-- how many records were counted
abbrev pub total : Counts → ℕ
total n = n.taken + n.refused + n.passed_over

-- where a run stands as it begins at a place, with a table of n slots
abbrev pub begun : ℕ → ℕ → Progress
begun place n = record { place = place; phase = Playing; counts = record { taken = 0; refused = 0; passed_over = 0 }; context = initial n }

-- Where a run stands after an answer to the record at its place, which ends at e: behind the record, and the answer is counted.
-- Only an end record stays where it is, and is not counted.
abbrev pub past : ℕ → Result Answer Refusal → Progress → Progress
past e (Ok answer.Taken) t = record { place = e; phase = t.phase; counts = record { taken = t.counts.taken + 1; refused = t.counts.refused; passed_over = t.counts.passed_over }; context = t.context }
past e (Ok answer.PassedOver) t = record { place = e; phase = t.phase; counts = record { taken = t.counts.taken; refused = t.counts.refused; passed_over = t.counts.passed_over + 1 }; context = t.context }
past e (Ok answer.Ended) t = record { place = t.place; phase = Ended; counts = t.counts; context = t.context }
past e (Err c) t = record { place = e; phase = t.phase; counts = record { taken = t.counts.taken; refused = t.counts.refused + 1; passed_over = t.counts.passed_over }; context = t.context }

abbrev pub with_context : DeviceContext → Progress → Progress
with_context c t = record { place = t.place; phase = t.phase; counts = t.counts; context = c }

-- a record's answer, with its place where it is refused
abbrev pub told : ℕ → Result Answer Refusal → Result Answer StepFault
told p (Ok a) = Ok a
told p (Err c) = Err (fault.Record (record { cause = c; place = p }))

-- One step of a run that stands at t, with colours seen through a view: its answer, where the run stands then, and its mark.
pub data Steps (view : ℕ → ℕ) (file : List ℕ) (t : Progress) (a : Result Answer StepFault) (t' : Progress) (m : Mark) : Type 0 where
  -- the run has ended
  over : t.phase ≡ Ended → a ≡ Ok answer.Ended → t' ≡ t → m ≡ untouched → Steps view file t a t' m
  -- no record lies at its place
  lost : t.phase ≡ Playing → (Lies file t.place → ⊥) → a ≡ Err (fault.File (record { cause = Frame; place = t.place })) → t' ≡ t → m ≡ untouched → Steps view file t a t' m
  -- the record breaks a rule
  broken : (c : Refusal) → t.phase ≡ Playing → BreaksAt file t.place c → a ≡ told t.place (Err c) → t' ≡ past (end file t.place) (Err c) t → m ≡ untouched → Steps view file t a t' m
  -- the record is played
  played : (r : Record) (o : Outcome) → t.phase ≡ Playing → ShowsAt file t.place r → o ≡ plays (seen_record view r) t.context →
      a ≡ told t.place o.answer → t' ≡ past (end file t.place) o.answer (with_context o.context t) → m ≡ o.mark → Steps view file t a t' m

-- a step of a run on a surface
abbrev pub Stepped : {S R : Type 0} → (S → Meaning) → (S → Keep) → (S → R) → (ℕ → ℕ) → List ℕ → Progress → S → Result Answer StepFault → Progress → S → Type 0
Stepped means keeps rest view file t s a t' s' = (m : Mark) × Steps view file t a t' m × Marks means keeps rest m s s'

-- the outcome of a record that ends at e happened to a run and a surface
pub record Obeys {S R : Type 0} (means : S → Meaning) (keeps : S → Keep) (rest : S → R) (e : ℕ) (o : Outcome) (a : Result Answer StepFault) (t t' : Progress) (s s' : S) : Type 0 where
  pub answer : a ≡ told t.place o.answer
  pub progress : t' ≡ past e o.answer (with_context o.context t)
  pub surface : Marks means keeps rest o.mark s s'

-- the outcome of what was found
abbrev pub found_outcome : Result Record Refusal → DeviceContext → Outcome
found_outcome (Ok r) c = plays r c
found_outcome (Err b) c = record { answer = Err b; context = c; mark = untouched }

-- what the file tells of the next step
abbrev pub Tells : List ℕ → Progress → Result (Option Record) StepFault → Type 0
Tells file t (Ok None) = t.phase ≡ Ended
Tells file t (Ok (Some r)) = (t.phase ≡ Playing) × ShowsAt file t.place r
Tells file t (Err (fault.File f)) = (t.phase ≡ Playing) × (Lies file t.place → ⊥) × (f.cause ≡ Frame) × (f.place ≡ t.place)
Tells file t (Err (fault.Record f)) = (t.phase ≡ Playing) × BreaksAt file t.place f.cause × (f.place ≡ t.place)

-- what the next step answers, by what was told
abbrev pub foretold : (ℕ → ℕ) → Progress → Result (Option Record) StepFault → Result Answer StepFault
foretold view t (Ok None) = Ok answer.Ended
foretold view t (Ok (Some r)) = told t.place (plays (seen_record view r) t.context).answer
foretold view t (Err f) = Err f

-- whatever the next step is, it answers so
abbrev pub Foretells : List ℕ → Progress → Result (Option Record) StepFault → Type 0
Foretells file t q = (view : ℕ → ℕ) (a : Result Answer StepFault) (t' : Progress) (m : Mark) → Steps view file t a t' m → a ≡ foretold view t q
