-- The open cells of a row.
use Rattle.std.specs.Prelude.{◌≡◌, Bool, true, false, ℤ, pos, ◌+ℤ◌, ◌≤ℤ◌, ◌<ℤ◌}
use Rattle.surface.specs.Meaning.{Meaning}

abbrev pub row : ℤ → Meaning → ℤ → Bool
row y m x = m.opens x y

-- no cell in from..to is open
abbrev pub Shut : (ℤ → Bool) → ℤ → ℤ → Type 0
Shut cells from to = (z : ℤ) → from ≤ℤ z → z <ℤ to → cells z ≡ false

-- a is the first open cell in from..to
pub record First (cells : ℤ → Bool) (from to a : ℤ) : Type 0 where
  pub low : from ≤ℤ a
  pub high : a <ℤ to
  pub here : cells a ≡ true
  pub others : Shut cells from a

-- a is the last open cell in from..to
pub record Last (cells : ℤ → Bool) (from to a : ℤ) : Type 0 where
  pub low : from ≤ℤ a
  pub high : a <ℤ to
  pub here : cells a ≡ true
  pub others : Shut cells (a +ℤ pos 1) to
