-- Rectangles as sets of cells, and what a surface keeps of the open cells that sets and fills reached.
use Rattle.std.specs.Prelude.{◌≡◌, ℕ, Bool, false, ◌&&◌, T, ℤ, List, ◌++◌, Some, None, Option, codes, int_le, int_lt}
use Rattle.std.specs.Fmt.{signed_decimal}
use Rattle.std.specs.Int.{int_max, int_min}
use Rattle.surface.specs.declared.rect.Rect.{Rect}

abbrev pub holds : Rect → ℤ → ℤ → Bool
holds r x y = (int_le r.left x && int_lt x r.right) && (int_le r.top y && int_lt y r.bottom)

-- the cells of a rectangle or of none
abbrev pub held : Option Rect → ℤ → ℤ → Bool
held (Some r) x y = holds r x y
held None x y = false

-- every cell of the first set is one of the second
abbrev pub Within : (ℤ → ℤ → Bool) → (ℤ → ℤ → Bool) → Type 0
Within a b = (x y : ℤ) → T (a x y) → T (b x y)

-- s is the smallest rectangle that holds the cells of r and those of a set, and is r itself where that set is empty
pub record Grown (r : Option Rect) (cells : ℤ → ℤ → Bool) (s : Option Rect) : Type 0 where
  pub before : Within (held r) (held s)
  pub reached : Within cells (held s)
  pub least : (t : Rect) → Within (held r) (holds t) → Within cells (holds t) → Within (held s) (holds t)
  pub same : ((x y : ℤ) → T (cells x y) → ⊥) → s ≡ r

-- What a surface keeps of the open cells reached: nothing, or a rectangle or none.
pub data Keep : Type 0 where
  nothing : Keep
  bounds : Option Rect → Keep

-- what is kept before and after the cells of a set were reached
pub data Kept : Keep → (ℤ → ℤ → Bool) → Keep → Type 0 where
  still : {cells : ℤ → ℤ → Bool} → Kept nothing cells nothing
  more : {r s : Option Rect} {cells : ℤ → ℤ → Bool} → Grown r cells s → Kept (bounds r) cells (bounds s)

-- the rectangle of the cells that two rectangles share
abbrev pub overlap : Rect → Rect → Rect
overlap p q = record {
  left = int_max p.left q.left;
  top = int_max p.top q.top;
  right = int_min p.right q.right;
  bottom = int_min p.bottom q.bottom;
}

-- the text of a rectangle: its four numbers with a space between each two
abbrev pub shown : Rect → List ℕ
shown r = signed_decimal r.left ++ codes " " ++ signed_decimal r.top ++ codes " " ++ signed_decimal r.right ++ codes " " ++ signed_decimal r.bottom
