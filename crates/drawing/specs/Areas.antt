-- Points and areas: which numbers may be given directly, and the cells of an area.
use Rattle.std.specs.Prelude.{ℕ, Bool, ◌&&◌, ℤ, pos, negsuc, ◌+ℤ◌, ◌≤ℤ◌, int_le, int_lt}
use Rattle.surface.specs.Meaning.{spans}
use Rattle.surface.specs.declared.rect.Rect.{Rect}
use Rattle.drawing.specs.declared.shape.Area.{Area}
use Rattle.drawing.specs.declared.shape.Point.{Point}

-- a ≤ x < b
abbrev pub between : ℤ → ℤ → ℤ → Bool
between a b x = int_le a x && int_lt x b

-- a coordinate is from −131,072 to 131,071
abbrev pub coordinate : ℤ → Bool
coordinate = between (negsuc 131071) (pos 131072)

-- a width or height is from 0 to 32,767
abbrev pub extent : ℤ → Bool
extent = between (pos 0) (pos 32768)

abbrev pub placed : Point → Bool
placed p = coordinate p.x && coordinate p.y

abbrev pub ranged : Area → Bool
ranged r = (coordinate r.x && coordinate r.y) && (extent r.w && extent r.h)

-- the cells of an area
abbrev pub covers : Area → ℤ → ℤ → Bool
covers r a b = between r.x (r.x +ℤ r.w) a && between r.y (r.y +ℤ r.h) b

-- the cells of a rectangle's columns in row y
abbrev pub row : Rect → ℤ → ℤ → ℤ → Bool
row r y a b = between r.left r.right a && spans y 1 b

-- a rectangle's columns lie in a picture of this width
pub record Across (width : ℕ) (r : Rect) : Type 0 where
  pub left : pos 0 ≤ℤ r.left
  pub right : pos 0 ≤ℤ r.right
  pub within : r.right ≤ℤ pos width
