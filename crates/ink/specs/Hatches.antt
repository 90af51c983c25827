-- Where a hatch has its lines.
use Rattle.std.specs.Prelude.{ℕ, ◌+◌, Bool, cond, ◌||◌, ℤ, pos, ◌==◌, unsigned_abs}
use Rattle.std.specs.Int.{int_rem_euclid}
use Rattle.ink.specs.declared.hatch.Hatch.{Hatch}
use Rattle.ink.specs.declared.hatch.HatchStyle.{HatchStyle}
use Rattle.ink.specs.declared.hatch.HatchStyle.TheVariants.{Horizontal, Vertical, ForwardDiagonal, BackwardDiagonal, Cross, DiagonalCross}

abbrev pub style_number : HatchStyle → ℕ
style_number Horizontal = 0
style_number Vertical = 1
style_number ForwardDiagonal = 2
style_number BackwardDiagonal = 3
style_number Cross = 4
style_number DiagonalCross = 5

-- a coordinate mod 8, never negative
abbrev pub eighth : ℤ → ℕ
eighth z = unsigned_abs (int_rem_euclid z (pos 8))

-- whether a hatch has its line in column a and row b of a block of eight by eight
abbrev pub lined : HatchStyle → ℕ → ℕ → Bool
lined Horizontal a b = b == 4
lined Vertical a b = a == 4
lined ForwardDiagonal a b = a == b
lined BackwardDiagonal a b = a + b == 7
lined Cross a b = b == 4 || a == 4
lined DiagonalCross a b = a == b || a + b == 7

abbrev pub hatched : Hatch → ℤ → ℤ → ℕ
hatched h x y = cond (lined h.style (eighth x) (eighth y)) h.line h.back
