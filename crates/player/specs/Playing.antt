-- Runs of steps.
use Rattle.std.specs.Prelude.{◌≡◌, ℕ, Bool, true, false, not, ◌&&◌, ◌||◌, List, [], ◌∷◌, ◌++◌, ℤ, Ok, Err, Result}
use Rattle.surface.specs.Meaning.{Meaning, drawn}
use Rattle.surface.specs.Rects.{Keep, Kept}
use Rattle.playback.specs.Records.{Mark, untouched, marked}
use Rattle.playback.specs.declared.answer.Answer.{Answer}
use Rattle.playback.specs.declared.answer.Answer.TheVariants as answer
use Rattle.player.specs.Runs.{Steps}
use Rattle.player.specs.declared.fault.StepFault.{StepFault}
use Rattle.player.specs.declared.fault.StepFault.TheVariants as fault
use Rattle.player.specs.declared.progress.Progress.{Progress}
use Rattle.player.specs.declared.whole.Step.{Step}

-- the picture after a mark
abbrev pub after : Mark → Meaning → Meaning
after untouched m = m
after (marked region new) m = drawn region (new m) m

-- the cells that a mark reaches
abbrev pub aimed : Mark → Meaning → ℤ → ℤ → Bool
aimed untouched m x y = false
aimed (marked region new) m x y = region x y && m.opens x y

-- From a run at t and a picture m, steps one after another: where the run stands after them, the picture, and the cells reached.
pub data Plays (view : ℕ → ℕ) (file : List ℕ) (t : Progress) (m : Meaning) : List Step → Progress → Meaning → (ℤ → ℤ → Bool) → Type 0 where
  none : Plays view file t m [] t m (λ _ _. false)
  next : {steps : List Step} {u v : Progress} {n : Meaning} {cells : ℤ → ℤ → Bool} (a : Result Answer StepFault) (k : Mark) →
      Plays view file t m steps u n cells → Steps view file u a v k →
      Plays view file t m (steps ++ (record { place = u.place; answer = a } ∷ [])) v (after k n) (λ x y. cells x y || aimed k n x y)

-- an answer after which no record can follow: ended, or a fault of the file
abbrev pub final : Result Answer StepFault → Bool
final (Ok answer.Taken) = false
final (Ok answer.PassedOver) = false
final (Ok answer.Ended) = true
final (Err (fault.File f)) = true
final (Err (fault.Record f)) = false

-- no answer among them is final
abbrev pub ongoing : List Step → Bool
ongoing [] = true
ongoing (s ∷ ss) = not (final s.answer) && ongoing ss

-- the last answer is final, and no earlier one
pub record Stopped (steps : List Step) : Type 0 where
  pub front : List Step
  pub last : Step
  pub split : steps ≡ front ++ (last ∷ [])
  pub before : ongoing front ≡ true
  pub end : final last.answer ≡ true

-- a run on a surface was played until it stopped
pub record PlayedOut {S R : Type 0} (means : S → Meaning) (keeps : S → Keep) (rest : S → R) (file : List ℕ) (t : Progress) (s : S) (steps : List Step) (t' : Progress) (s' : S) : Type 0 where
  pub cells : ℤ → ℤ → Bool
  pub plays : Plays (λ w. w) file t (means s) steps t' (means s') cells
  pub kept : Kept (keeps s) cells (keeps s')
  pub still : rest s' ≡ rest s
  pub stopped : Stopped steps
