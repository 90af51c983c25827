-- What a list of calls does, call by call. Every colour and every ink's word is seen through a view, a function of words: the player
-- sees them as they are, and the machine of bit plane k sees their bit k.
use Rattle.std.specs.Prelude.{◌≡◌, ℕ, Bool, false, ◌||◌, List, [], ◌∷◌, ℤ, Ok, Err, Result}
use Rattle.surface.specs.Meaning.{Meaning}
use Rattle.surface.specs.Rects.{Keep}
use Rattle.drawing.specs.Tasks.{Task, refuse, draw, line_task, paint_task, copy_task}
use Rattle.playback.specs.Records.{Mark, Marks, untouched, marked}
use Rattle.playback.specs.declared.answer.Answer.{Answer}
use Rattle.player.specs.Runs.{Steps}
use Rattle.player.specs.Playing.{after, aimed}
use Rattle.player.specs.declared.fault.StepFault.{StepFault}
use Rattle.player.specs.declared.progress.Progress.{Progress}
use Rattle.calls.specs.Seeing.{seen_pencil}
use Rattle.calls.specs.declared.call.Call.{Call}
use Rattle.calls.specs.declared.call.Call.TheVariants as call
use Rattle.calls.specs.declared.call.MeterCall.{MeterCall}
use Rattle.calls.specs.declared.call.MeterCall.TheVariants as act
use Rattle.calls.specs.declared.call.Reply.{Reply}
use Rattle.calls.specs.declared.call.Reply.TheVariants as reply

-- a drawing call's reply and mark, by its task; the run stays where it stands
abbrev pub Draughts : Task → Reply → Progress → Progress → Mark → Type 0
Draughts (refuse c) r t t' k = (r ≡ reply.Drawing (Err c)) × (t' ≡ t) × (k ≡ untouched)
Draughts (draw region new) r t t' k = (r ≡ reply.Drawing (Ok tt)) × (t' ≡ t) × (k ≡ marked region new)

-- where the machine stands: its run, its picture, the picture at the last clearing or at the start, and the cells reached since
pub record Standing : Type 0 where
  pub run : Progress
  pub picture : Meaning
  pub reference : Meaning
  pub reached : ℤ → ℤ → Bool

abbrev pub begun : Progress → Meaning → (ℤ → ℤ → Bool) → Standing
begun t m cells = record { run = t; picture = m; reference = m; reached = cells }

-- a call left a mark
abbrev pub onward : Standing → Progress → Mark → Standing
onward p t k = record { run = t; picture = after k p.picture; reference = p.reference; reached = λ x y. p.reached x y || aimed k p.picture x y }

-- a clearing changes neither run nor picture
abbrev pub cleared : Standing → Standing
cleared p = begun p.run p.picture (λ _ _. false)

module _ {I : Type 0} (view : ℕ → ℕ) (shade : I → ℤ → ℤ → ℕ) (file : List ℕ) where
  -- a call made by a run at t: its reply, where the run stands then, and its mark
  abbrev pub Makes : Progress → Call I → Reply → Progress → Mark → Type 0
  Makes t call.Step r t' k = (a : Result Answer StepFault) × (r ≡ reply.Step a) × Steps view file t a t' k
  Makes t (call.Line p from to) r t' k = Draughts (line_task (seen_pencil view p) from to) r t t' k
  Makes t (call.Paint p area code ink) r t' k = Draughts (paint_task (seen_pencil view p) area code (λ x y. view (shade ink x y))) r t t' k
  Makes t (call.Copy p area source code ink) r t' k = Draughts (copy_task (seen_pencil view p) area source code (λ x y. view (shade ink x y))) r t t' k

  -- one call or clearing
  abbrev pub Acts : Standing → MeterCall I → Reply → Standing → Type 0
  Acts p (act.Call c) r q = (t : Progress) × (k : Mark) × Makes p.run c r t k × (q ≡ onward p t k)
  Acts p act.Clear r q = (r ≡ reply.Cleared) × (q ≡ cleared p)

  -- a list of them
  pub data Machine : Standing → List (MeterCall I) → List Reply → Standing → Type 0 where
    none : {p : Standing} → Machine p [] [] p
    next : {p q s : Standing} {a : MeterCall I} {acts : List (MeterCall I)} {r : Reply} {rs : List Reply} →
        Acts p a r q → Machine q acts rs s → Machine p (a ∷ acts) (r ∷ rs) s

-- a call made on a surface
abbrev pub Made : {S R I : Type 0} → (S → Meaning) → (S → Keep) → (S → R) → (I → ℤ → ℤ → ℕ) → List ℕ → Progress → S → Call I → Reply → Progress → S → Type 0
Made means keeps rest shade file t s c r t' s' = (k : Mark) × Makes (λ w. w) shade file t c r t' k × Marks means keeps rest k s s'

-- every list of calls has one outcome, and no second
pub record Exactly {I : Type 0} (shade : I → ℤ → ℤ → ℕ) : Type 0 where
  pub some : (view : ℕ → ℕ) (file : List ℕ) (p : Standing) (acts : List (MeterCall I)) → (rs : List Reply) × (q : Standing) × Machine view shade file p acts rs q
  pub one : (view : ℕ → ℕ) (file : List ℕ) (p : Standing) (acts : List (MeterCall I)) (rs rs' : List Reply) (q q' : Standing)
      → Machine view shade file p acts rs q → Machine view shade file p acts rs' q' → (rs ≡ rs') × (q ≡ q')
