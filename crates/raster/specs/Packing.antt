-- Packed pictures: one bit a cell, and whole bytes a row.
use Rattle.std.specs.Prelude.{◌≡◌, ℕ, ◌+◌, ◌*◌, ◌/◌, Bool, List, length, ℤ}
use Rattle.std.specs.Borrow.{GName}
use Rattle.surface.specs.Meaning.{Meaning}
use Rattle.raster.specs.Bits.{bit_of}
use Rattle.raster.specs.Layout.{laid, Redrawn, others, Untouched, rest_of, row_there}

-- the bytes of a row
abbrev pub stride : ℕ → ℕ
stride w = (w + 7) / 8

-- the bytes of a picture
abbrev pub packed_needs : ℕ → ℕ → ℕ
packed_needs w h = h * stride w

abbrev pub there : ℕ → List ℕ → ℤ → Bool
there w m = row_there (stride w) (length m)

abbrev pub packed : ℕ → ℕ → List ℕ → Meaning
packed w h m = laid w h (8 * stride w) 1 (there w m) (bit_of m)

-- the bits that are no cell's: the padding of the rows and all that is behind the picture
abbrev pub packed_spare : ℕ → ℕ → List ℕ → ℕ → ℕ
packed_spare w h m = others w h (8 * stride w) (there w m) (bit_of m)

-- what a draw leaves as it is
abbrev pub packed_rest : ℕ → ℕ → List ℕ → GName → Untouched
packed_rest = rest_of packed_spare

-- what a draw does to the memory
pub record PackedDrawn (w h : ℕ) (old : List ℕ) (region : ℤ → ℤ → Bool) (v : ℕ) (new : List ℕ) : Type 0 where
  pub long : length new ≡ length old
  pub bits : Redrawn w h (8 * stride w) 1 (there w old) region v (bit_of old) (bit_of new)
