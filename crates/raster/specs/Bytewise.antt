-- Pictures of one byte a cell.
use Rattle.std.specs.Prelude.{◌≡◌, ℕ, ◌*◌, ◌%◌, Bool, List, length, ℤ, slice_index}
use Rattle.std.specs.Borrow.{GName}
use Rattle.surface.specs.Meaning.{Meaning}
use Rattle.raster.specs.Layout.{laid, Redrawn, others, Untouched, rest_of, row_there}

-- the bytes of a picture
abbrev pub bytewise_needs : ℕ → ℕ → ℕ
bytewise_needs w h = h * w

-- a byte is below 256 in any memory: the remainder says so of any list of numbers too
abbrev pub bytewise : ℕ → ℕ → List ℕ → Meaning
bytewise w h m = laid w h w 8 (row_there w (length m)) (λ i. slice_index m i % 256)

-- the bytes that are no cell's: those behind the picture
abbrev pub bytes_spare : ℕ → ℕ → List ℕ → ℕ → ℕ
bytes_spare w h m = others w h w (row_there w (length m)) (λ i. slice_index m i)

-- what a draw leaves as it is
abbrev pub bytewise_rest : ℕ → ℕ → List ℕ → GName → Untouched
bytewise_rest = rest_of bytes_spare

-- what a draw does to the memory
pub record BytesDrawn (w h : ℕ) (old : List ℕ) (region : ℤ → ℤ → Bool) (v : ℕ) (new : List ℕ) : Type 0 where
  pub long : length new ≡ length old
  pub bytes : Redrawn w h w 8 (row_there w (length old)) region v (λ i. slice_index old i) (λ i. slice_index new i)
