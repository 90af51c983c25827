-- What a drawing does to a surface.
use Rattle.std.specs.Prelude.{◌≡◌, ℕ, Bool, ◌&&◌, ℤ}
use Rattle.surface.specs.Meaning.{Meaning, drawn}
use Rattle.surface.specs.Rects.{Keep, Kept}

-- From meaning m, with k kept and the rest r, to m', k' and r': each open cell of a region took its new word and was reached,
-- and no other cell; the rest stayed as it was.
pub record Drawn {R : Type 0} (region : ℤ → ℤ → Bool) (new : ℤ → ℤ → ℕ) (m : Meaning) (k : Keep) (r : R) (m' : Meaning) (k' : Keep) (r' : R) : Type 0 where
  pub picture : m' ≡ drawn region new m
  pub kept : Kept k (λ x y. region x y && m.opens x y) k'
  pub rest : r' ≡ r

-- The same of a surface before and after, with the new words made from what it meant before.
abbrev pub Draws : {S R : Type 0} → (S → Meaning) → (S → Keep) → (S → R) → (ℤ → ℤ → Bool) → (Meaning → ℤ → ℤ → ℕ) → S → S → Type 0
Draws means keeps rest region new s s' = Drawn region (new (means s)) (means s) (keeps s) (rest s) (means s') (keeps s') (rest s')
