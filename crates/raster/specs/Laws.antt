-- A picture and what no draw changes are together all of a memory.
use Rattle.std.specs.Prelude.{◌≡◌, ℕ, ◌%◌, List, slice_index}
use Rattle.std.specs.Borrow.{GName}
use Rattle.raster.specs.Bits.{bit_of}
use Rattle.raster.specs.Bytewise.{bytewise, bytewise_rest}
use Rattle.raster.specs.Packing.{packed, packed_rest}
use Rattle.raster.specs.Planar.{planar, planar_rest}

abbrev pub PackedWhole : Type 0
PackedWhole = (w h : ℕ) (m n : List ℕ) (l : GName) → packed w h m ≡ packed w h n → packed_rest w h m l ≡ packed_rest w h n l → (i : ℕ) → bit_of m i ≡ bit_of n i

abbrev pub BytewiseWhole : Type 0
BytewiseWhole = (w h : ℕ) (m n : List ℕ) (l : GName) → bytewise w h m ≡ bytewise w h n → bytewise_rest w h m l ≡ bytewise_rest w h n l → (i : ℕ) → slice_index m i % 256 ≡ slice_index n i % 256

abbrev pub PlanarWhole : Type 0
PlanarWhole = (w h : ℕ) (m n : List ℕ) (l : GName) → planar w h m ≡ planar w h n → planar_rest w h m l ≡ planar_rest w h n l → (i : ℕ) → bit_of m i ≡ bit_of n i
