-- What is heard of a run that is played until it stops.
use Rattle.std.specs.Prelude.{◌≡◌, ℕ, List, [], ◌∷◌, Some, None, Ok, Err, Option, Result}
use Rattle.std.specs.Option.{option_or}
use Rattle.surface.specs.Meaning.{Meaning}
use Rattle.surface.specs.Rects.{Keep}
use Rattle.playback.specs.declared.answer.Answer.{Answer}
use Rattle.player.specs.Playing.{PlayedOut}
use Rattle.player.specs.declared.fault.RecordFault.{RecordFault}
use Rattle.player.specs.declared.fault.StepFault.{StepFault}
use Rattle.player.specs.declared.fault.StepFault.TheVariants as fault
use Rattle.player.specs.declared.progress.Progress.{Progress}
use Rattle.player.specs.declared.whole.Step.{Step}
use Rattle.capi.specs.declared.listening.Heard.{Heard}

-- the fault of a record that an answer tells
abbrev pub record_fault : Result Answer StepFault → Option RecordFault
record_fault (Ok a) = None
record_fault (Err (fault.File f)) = None
record_fault (Err (fault.Record f)) = Some f

-- the first record refused among some steps
abbrev pub first_refused : List Step → Option RecordFault
first_refused [] = None
first_refused (s ∷ ss) = option_or (record_fault s.answer) (first_refused ss)

-- a run was played until it stopped: its last answer, and the first record refused
pub record Listened {S R : Type 0} (means : S → Meaning) (keeps : S → Keep) (rest : S → R) (file : List ℕ) (t : Progress) (s : S) (h : Heard) (t' : Progress) (s' : S) : Type 0 where
  pub steps : List Step
  pub out : PlayedOut means keeps rest file t s steps t' s'
  pub last : h.last ≡ out.stopped.last.answer
  pub first : h.first ≡ first_refused steps
