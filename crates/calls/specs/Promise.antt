-- What is promised of a list of calls on a surface.
use Rattle.std.specs.Prelude.{◌≡◌, ℕ, ◌<◌, Bool, false, T, List, ℤ, None, Option}
use Rattle.codes.specs.Bits.{bit}
use Rattle.surface.specs.Meaning.{Meaning}
use Rattle.surface.specs.Rects.{Keep, Kept, Within, holds, held}
use Rattle.surface.specs.declared.rect.Rect.{Rect}
use Rattle.player.specs.declared.progress.Progress.{Progress}
use Rattle.player.specs.Playing.{Plays}
use Rattle.player.specs.declared.whole.Step.{Step}
use Rattle.calls.specs.Machine.{begun, Machine}
use Rattle.calls.specs.Planes.{plane}
use Rattle.calls.specs.Seeing.{seen_progress}
use Rattle.calls.specs.declared.call.MeterCall.{MeterCall}
use Rattle.calls.specs.declared.call.Reply.{Reply}

-- size, depth and open cells are as they were, and so is the word of every closed cell
pub record Still (before after : Meaning) : Type 0 where
  pub width : after.width ≡ before.width
  pub height : after.height ≡ before.height
  pub depth : after.depth ≡ before.depth
  pub opens : after.opens ≡ before.opens
  pub closed : (x y : ℤ) → before.opens x y ≡ false → after.word x y ≡ before.word x y

-- From a run at t on a picture m, where some cells count as reached, a list of calls leads to a run at t' on a picture m' with these
-- replies. The reference is the picture at the last clearing or at the start, and the reached cells are the target cells since then.
pub record Led {I : Type 0} (shade : I → ℤ → ℤ → ℕ) (file : List ℕ) (acts : List (MeterCall I)) (t : Progress) (m : Meaning) (cells : ℤ → ℤ → Bool)
    (replies : List Reply) (t' : Progress) (m' reference : Meaning) (reached : ℤ → ℤ → Bool) : Type 0 where
  -- the player is the machine that sees all words as they are
  pub whole : Machine (λ w. w) shade file (begun t m cells) acts replies (record { run = t'; picture = m'; reference = reference; reached = reached })
  -- and on every plane k the machine that sees their bit k, started from plane k, gives the same replies and counts, and ends with plane k
  pub planes : (k : ℕ) → k < m.depth →
      Machine (bit k) shade file (begun (seen_progress (bit k) t) (plane k m) cells) acts replies
      (record { run = seen_progress (bit k) t'; picture = plane k m'; reference = plane k reference; reached = reached })
  pub still : Still m m'
  -- no other cell has changed since
  pub unreached : (x y : ℤ) → reached x y ≡ false → m'.word x y ≡ reference.word x y

-- The same of a run of steps: on every plane k the machine that sees bit k of every colour, started from plane k, takes the same
-- steps with the same answers and counts, reaches the same cells, and ends with plane k.
pub record PlayedApart (file : List ℕ) (t : Progress) (m : Meaning) (steps : List Step) (t' : Progress) (m' : Meaning) : Type 0 where
  pub cells : ℤ → ℤ → Bool
  pub planes : (k : ℕ) → k < m.depth → Plays (bit k) file (seen_progress (bit k) t) (plane k m) steps (seen_progress (bit k) t') (plane k m') cells
  pub still : Still m m'
  pub unreached : (x y : ℤ) → cells x y ≡ false → m'.word x y ≡ m.word x y

-- a surface on which a list of calls was made, of which no cell counted as reached before
pub record Performed {S R I : Type 0} (means : S → Meaning) (keeps : S → Keep) (rest : S → R) (shade : I → ℤ → ℤ → ℕ) (file : List ℕ)
    (acts : List (MeterCall I)) (t : Progress) (s : S) (replies : List Reply) (t' : Progress) (s' : S) : Type 0 where
  pub reached : ℤ → ℤ → Bool
  pub led : Led shade file acts t (means s) (λ _ _. false) replies t' (means s') (means s) reached
  pub kept : Kept (keeps s) reached (keeps s')
  pub others : rest s' ≡ rest s

-- the smallest rectangle that holds a set of cells, and none exactly where the set is empty
pub record Bounding (cells : ℤ → ℤ → Bool) (r : Option Rect) : Type 0 where
  pub all : Within cells (held r)
  pub least : (q : Rect) → Within cells (holds q) → Within (held r) (holds q)
  pub empty : ((x y : ℤ) → T (cells x y) → ⊥) → r ≡ None
  pub none : r ≡ None → (x y : ℤ) → T (cells x y) → ⊥

-- A meter with the rectangle r over a surface s, and the rectangle r' over s' after a list of calls and clearings. Before them the
-- cells of r count as reached, which a new meter has none of.
pub record Metered {S R I : Type 0} (means : S → Meaning) (rest : S → R) (shade : I → ℤ → ℤ → ℕ) (file : List ℕ)
    (acts : List (MeterCall I)) (t : Progress) (s : S) (r : Option Rect) (replies : List Reply) (t' : Progress) (s' : S) (r' : Option Rect) : Type 0 where
  pub reference : Meaning
  pub reached : ℤ → ℤ → Bool
  pub led : Led shade file acts t (means s) (held r) replies t' (means s') reference reached
  -- the rectangle is the smallest around the cells reached since it was made or last cleared
  pub bounds : Bounding reached r'
  -- and no cell outside it has changed since
  pub outside : (x y : ℤ) → held r' x y ≡ false → (means s').word x y ≡ reference.word x y
  pub others : rest s' ≡ rest s
