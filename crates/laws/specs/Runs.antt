-- Laws of whole runs.
use Rattle.std.specs.Prelude.{◌≡◌, ℕ, ◌+◌, ◌≤◌, Bool, true, false, cond, ◌⊎◌, List, [], ◌∷◌, length, ℤ, pos, negsuc, ◌≤ℤ◌, Ok, Err, Result}
use Rattle.std.specs.List.{AllByRecursion}
use Rattle.codes.specs.Refusals.{numbered}
use Rattle.codes.specs.declared.refusal.Refusal.TheVariants.{Frame}
use Rattle.surface.specs.Meaning.{Meaning}
use Rattle.surface.specs.Rects.{Keep}
use Rattle.metafile.specs.Frames.{Lies, function}
use Rattle.metafile.specs.Functions.{Listed}
use Rattle.metafile.specs.declared.record.Record.TheVariants as shown
use Rattle.playback.specs.Records.{Mark}
use Rattle.playback.specs.declared.answer.Answer.{Answer}
use Rattle.playback.specs.declared.answer.Answer.TheVariants as answer
use Rattle.metafile.specs.declared.logical.LogicalPoint.{LogicalPoint}
use Rattle.player.specs.Finding.{ShowsAt}
use Rattle.player.specs.Playing.{Plays, PlayedOut}
use Rattle.player.specs.Runs.{Steps, begun}
use Rattle.player.specs.declared.fault.StepFault.{StepFault}
use Rattle.player.specs.declared.fault.StepFault.TheVariants as fault
use Rattle.player.specs.declared.progress.Counts.{Counts}
use Rattle.player.specs.declared.progress.Phase.TheVariants.{Ended}
use Rattle.player.specs.declared.progress.Progress.{Progress}
use Rattle.player.specs.declared.whole.Step.{Step}

-- The tally of the answers.

abbrev pub was_taken : Result Answer StepFault → Bool
was_taken (Ok answer.Taken) = true
was_taken (Ok answer.PassedOver) = false
was_taken (Ok answer.Ended) = false
was_taken (Err f) = false

abbrev pub was_passed_over : Result Answer StepFault → Bool
was_passed_over (Ok answer.Taken) = false
was_passed_over (Ok answer.PassedOver) = true
was_passed_over (Ok answer.Ended) = false
was_passed_over (Err f) = false

-- a record was refused, and not the file
abbrev pub was_refused : Result Answer StepFault → Bool
was_refused (Ok a) = false
was_refused (Err (fault.File f)) = false
was_refused (Err (fault.Record f)) = true

-- how many steps were answered so
abbrev pub number : (Result Answer StepFault → Bool) → List Step → ℕ
number so [] = 0
number so (s ∷ ss) = cond (so s.answer) 1 0 + number so ss

pub record Tallied (before : Counts) (steps : List Step) (now : Counts) : Type 0 where
  pub taken : now.taken ≡ before.taken + number was_taken steps
  pub refused : now.refused ≡ before.refused + number was_refused steps
  pub passed_over : now.passed_over ≡ before.passed_over + number was_passed_over steps

-- the counts of a run grow by the tally of its answers
abbrev pub Tallies : Type 0
Tallies = (view : ℕ → ℕ) (file : List ℕ) (t : Progress) (m : Meaning) (steps : List Step) (t' : Progress) (m' : Meaning) (cells : ℤ → ℤ → Bool)
    → Plays view file t m steps t' m' cells → Tallied t.counts steps t'.counts

-- What a run's answers say of the places where they were given.

-- a number of 16 bits with its sign
pub record Short (z : ℤ) : Type 0 where
  pub least : negsuc 32767 ≤ℤ z
  pub most : z ≤ℤ pos 32767

pub record ShortPoint (p : LogicalPoint) : Type 0 where
  pub x : Short p.x
  pub y : Short p.y

-- what is so of every run: once it has ended it stands at a sound end record, and its coordinates are those of a file
pub record Standing (file : List ℕ) (t : Progress) : Type 0 where
  pub ended : t.phase ≡ Ended → ShowsAt file t.place shown.End
  pub position : ShortPoint t.context.position
  pub window : ShortPoint t.context.origins.window
  pub viewport : ShortPoint t.context.origins.viewport

-- Ended says that a sound end record lies at the place, passed over that an unlisted one does. A fault of the file, number 5, says that
-- no record lies there, and one of a record has a number from 6 to 11; both tell the place.
abbrev pub Says : List ℕ → ℕ → Result Answer StepFault → Type 0
Says file p (Ok answer.Taken) = Lies file p × Listed (function file p)
Says file p (Ok answer.PassedOver) = Lies file p × (Listed (function file p) → ⊥)
Says file p (Ok answer.Ended) = ShowsAt file p shown.End
Says file p (Err (fault.File f)) = (Lies file p → ⊥) × (f.cause ≡ Frame) × (f.place ≡ p)
Says file p (Err (fault.Record f)) = Lies file p × Listed (function file p) × (6 ≤ numbered f.cause) × (numbered f.cause ≤ 11) × (f.place ≡ p)

-- and it is answered wherever it is so
pub record Rightly (file : List ℕ) (s : Step) : Type 0 where
  pub says : Says file s.place s.answer
  pub ended : ShowsAt file s.place shown.End → s.answer ≡ Ok answer.Ended
  pub lost : (Lies file s.place → ⊥) → s.answer ≡ Err (fault.File (record { cause = Frame; place = s.place }))
  pub passed_over : Lies file s.place → (Listed (function file s.place) → ⊥) → s.answer ≡ Ok answer.PassedOver

abbrev pub Answers : Type 0
Answers = (view : ℕ → ℕ) (file : List ℕ) (t : Progress) (m : Meaning) (steps : List Step) (t' : Progress) (m' : Meaning) (cells : ℤ → ℤ → Bool)
    → Plays view file t m steps t' m' cells → Standing file t → AllByRecursion (Rightly file) steps × Standing file t'

-- a run that begins stands so
abbrev pub Starts : Type 0
Starts = (file : List ℕ) (place slots : ℕ) → Standing file (begun place slots)

-- From an end on, every step answers ended and nothing changes.
pub record Still (t : Progress) (m : Meaning) (steps : List Step) (t' : Progress) (m' : Meaning) (cells : ℤ → ℤ → Bool) : Type 0 where
  pub answers : AllByRecursion (λ s. s ≡ record { place = t.place; answer = Ok answer.Ended }) steps
  pub progress : t' ≡ t
  pub picture : m' ≡ m
  pub untouched : (x y : ℤ) → cells x y ≡ false

abbrev pub Stays : Type 0
Stays = (view : ℕ → ℕ) (file : List ℕ) (t : Progress) (m : Meaning) (steps : List Step) (t' : Progress) (m' : Meaning) (cells : ℤ → ℤ → Bool)
    → Plays view file t m steps t' m' cells → t.phase ≡ Ended → Still t m steps t' m' cells

-- ended is answered by a run that has ended, or at a sound end record
abbrev pub Ends : Type 0
Ends = (view : ℕ → ℕ) (file : List ℕ) (t t' : Progress) (m : Mark)
    → Steps view file t (Ok answer.Ended) t' m → (t.phase ≡ Ended) ⊎ ShowsAt file t.place shown.End

-- A step has one outcome, and so have as many steps as one likes.
pub record OneOutcome : Type 0 where
  pub some : (view : ℕ → ℕ) (file : List ℕ) (t : Progress) → (a : Result Answer StepFault) × (t' : Progress) × (m : Mark) × Steps view file t a t' m
  pub one : (view : ℕ → ℕ) (file : List ℕ) (t : Progress) (a b : Result Answer StepFault) (u v : Progress) (m n : Mark)
      → Steps view file t a u m → Steps view file t b v n → (a ≡ b) × (u ≡ v) × (m ≡ n)
  pub whole : (view : ℕ → ℕ) (file : List ℕ) (t : Progress) (m : Meaning) (ss : List Step) (u : Progress) (n : Meaning) (cells : ℤ → ℤ → Bool)
      (ss' : List Step) (u' : Progress) (n' : Meaning) (cells' : ℤ → ℤ → Bool)
      → Plays view file t m ss u n cells → Plays view file t m ss' u' n' cells' → length ss ≡ length ss'
      → (ss ≡ ss') × (u ≡ u') × (n ≡ n') × ((x y : ℤ) → cells x y ≡ cells' x y)

-- A checked file whose records begin at a place, with a table of so many slots, was played on a surface until it stopped.
pub record Performed {S R : Type 0} (means : S → Meaning) (keeps : S → Keep) (rest : S → R) (file : List ℕ) (place slots : ℕ) (s : S) (steps : List Step) (counts : Counts) (s' : S) : Type 0 where
  pub last : Progress
  pub played : PlayedOut means keeps rest file (begun place slots) s steps last s'
  pub finished : counts ≡ last.counts
  pub taken : counts.taken ≡ number was_taken steps
  pub refused : counts.refused ≡ number was_refused steps
  pub passed_over : counts.passed_over ≡ number was_passed_over steps
  pub rightly : AllByRecursion (Rightly file) steps
