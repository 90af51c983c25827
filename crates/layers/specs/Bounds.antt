-- Rectangles that are not empty, and the smallest that holds two or a set of cells.
use Rattle.std.specs.Prelude.{◌≡◌, Bool, true, ◌&&◌, T, ℤ, pos, ◌-ℤ◌, Some, None, Option, int_lt}
use Rattle.std.specs.Int.{int_max, int_min}
use Rattle.surface.specs.Rects.{holds, Within, Keep, Kept}
use Rattle.surface.specs.declared.rect.Rect.{Rect}

-- not an empty rectangle
abbrev pub solid : Option Rect → Bool
solid (Some r) = int_lt r.left r.right && int_lt r.top r.bottom
solid None = true

-- the smallest rectangle that holds two that are not empty
abbrev pub hull : Rect → Rect → Rect
hull p q = record {
  left = int_min p.left q.left;
  top = int_min p.top q.top;
  right = int_max p.right q.right;
  bottom = int_max p.bottom q.bottom;
}

abbrev pub joined : Option Rect → Option Rect → Option Rect
joined (Some p) (Some q) = Some (hull p q)
joined (Some p) None = Some p
joined None q = q

-- q has a cell of the set in its first column and row, one in its last, and all cells of the set
pub record Ends (cells : ℤ → ℤ → Bool) (q : Rect) : Type 0 where
  pub first : T (cells q.left q.top)
  pub last : T (cells (q.right -ℤ pos 1) (q.bottom -ℤ pos 1))
  pub all : Within cells (holds q)

-- the same of the rectangle, if any, that a set of cells spans
abbrev pub Spanned : (ℤ → ℤ → Bool) → Option Rect → Type 0
Spanned cells (Some q) = Ends cells q
Spanned cells None = (x y : ℤ) → T (cells x y) → ⊥

-- What is kept once a set of cells was reached is one thing only.
abbrev pub OneSmallest : Type 0
OneSmallest = (k i j : Keep) (cells : ℤ → ℤ → Bool) → Kept k cells i → Kept k cells j → i ≡ j
