-- Where the sources of copied cells lie.
use Rattle.std.specs.Prelude.{◌≡◌, Bool, true, ℤ, pos, negsuc, ◌+ℤ◌, ◌-ℤ◌}
use Rattle.drawing.specs.Areas.{between}
use Rattle.drawing.specs.declared.shape.Area.{Area}
use Rattle.drawing.specs.declared.shape.Point.{Point}
use Rattle.copies.specs.declared.shift.Shift.{Shift}

-- from an area's corner to a point
abbrev pub towards : Area → Point → Shift
towards r p = record { dx = p.x -ℤ r.x; dy = p.y -ℤ r.y }

-- where the sources of an area's cells may lie
abbrev pub near : ℤ → Bool
near = between (negsuc 131071) (pos 163840)

-- the cells a shift away from those of a region are near
pub record Reached (cells : ℤ → ℤ → Bool) (d : Shift) : Type 0 where
  pub across : (x y : ℤ) → cells x y ≡ true → near (x +ℤ d.dx) ≡ true
  pub down : (x y : ℤ) → cells x y ≡ true → near (y +ℤ d.dy) ≡ true
