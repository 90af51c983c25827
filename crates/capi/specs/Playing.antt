-- What the calls for C tell and leave.
use Rattle.std.specs.Prelude.{◌≡◌, ℕ, Bool, ◌⊎◌, List, length, ℤ, Some, None, Ok, Err, Option, Result}
use Rattle.codes.specs.declared.refusal.Refusal.{Refusal}
use Rattle.surface.specs.Meaning.{Meaning}
use Rattle.surface.specs.Rects.{Keep}
use Rattle.metafile.specs.Header.{Accepted, Refused}
use Rattle.metafile.specs.declared.checked.Checked.{Checked}
use Rattle.metafile.specs.declared.fault.FileFault.{FileFault}
use Rattle.playback.specs.declared.answer.Answer.{Answer}
use Rattle.player.specs.Playing.{Plays, Stopped}
use Rattle.player.specs.Runs.{begun}
use Rattle.player.specs.declared.fault.RecordFault.{RecordFault}
use Rattle.player.specs.declared.fault.StepFault.{StepFault}
use Rattle.player.specs.declared.progress.Counts.{Counts}
use Rattle.player.specs.declared.progress.Progress.{Progress}
use Rattle.player.specs.declared.whole.Step.{Step}
use Rattle.capi.specs.Listening.{Listened, first_refused}
use Rattle.capi.specs.Reports.{no_fault, bare, of_file, of_record, of_step, unplayed}
use Rattle.capi.specs.declared.listening.Heard.{Heard}
use Rattle.capi.specs.declared.report.Fault.{Fault}
use Rattle.capi.specs.declared.report.Report.{Report}

-- the fault that stopped a run, and none where it ended
abbrev pub stop_of : Result Answer StepFault → Fault
stop_of (Ok a) = no_fault
stop_of (Err f) = of_step f

abbrev pub first_of : Option RecordFault → Fault
first_of None = no_fault
first_of (Some f) = of_record f

-- the report of a run
abbrev pub report_of : Result Answer StepFault → Option RecordFault → Counts → Report
report_of last first n = record { stop = stop_of last; first = first_of first; taken = n.taken; refused = n.refused; passed_over = n.passed_over }

-- the report of a run, or of what kept it from playing
abbrev pub reported : Result Report Fault → Report
reported (Ok r) = r
reported (Err f) = unplayed f

-- a checked file was played on a surface until it stopped
pub record Reported {S R : Type 0} (means : S → Meaning) (keeps : S → Keep) (rest : S → R) (file : List ℕ) (place slots : ℕ) (s : S) (r : Report) (s' : S) : Type 0 where
  pub end : Progress
  pub heard : Heard
  pub listened : Listened means keeps rest file (begun place slots) s heard end s'
  pub report : r ≡ report_of heard.last heard.first end.counts

-- The same on a picture in a memory, by what the memory shows and by the units of it that are no cell's.
pub record Onto (shows : List ℕ → Meaning) (spare : List ℕ → ℕ → ℕ) (file : List ℕ) (place slots : ℕ) (m : List ℕ) (r : Report) (m' : List ℕ) : Type 0 where
  pub end : Progress
  pub steps : List Step
  pub cells : ℤ → ℤ → Bool
  pub plays : Plays (λ w. w) file (begun place slots) (shows m) steps end (shows m') cells
  pub stopped : Stopped steps
  pub report : r ≡ report_of stopped.last.answer (first_refused steps) end.counts
  pub bytes : length m' ≡ length m
  pub spares : (i : ℕ) → spare m' i ≡ spare m i

-- A file was asked to be played on a picture that fits or is refused: the memory's cause, the file's fault, or the run.
abbrev pub Played : (List ℕ → Meaning) → (List ℕ → ℕ → ℕ) → Result (Unit {0}) Refusal → List ℕ → List ℕ → Report → List ℕ → Type 0
Played shows spare (Err c) file m r m' = (r ≡ unplayed (bare c)) × (m' ≡ m)
Played shows spare (Ok _) file m r m' =
    ((f : FileFault) × Refused file f × (r ≡ unplayed (of_file f)) × (m' ≡ m))
    ⊎ ((c : Checked) × Accepted file c × Onto shows spare c.bytes.now c.first c.objects m r m')

-- a file was asked to be checked
abbrev pub Checks : List ℕ → Report → Type 0
Checks file r = ((f : FileFault) × Refused file f × (r ≡ unplayed (of_file f))) ⊎ ((c : Checked) × Accepted file c × (r ≡ unplayed no_fault))
