-- Pictures of four bits a cell, in four packed pictures one after another, the lowest bit first.
use Rattle.std.specs.Prelude.{◌≡◌, ℕ, ◌+◌, ◌*◌, ◌/◌, ◌%◌, ◌^◌, Bool, true, cond, ◌&&◌, List, length, ℤ, pos, nat_le, nat_lt}
use Rattle.std.specs.Borrow.{GName}
use Rattle.surface.specs.Meaning.{Meaning}
use Rattle.raster.specs.Bits.{bit_of, among}
use Rattle.raster.specs.Layout.{laid, has, Untouched, rest_of}
use Rattle.raster.specs.Packing.{stride}

-- the bits of a plane
abbrev pub plane : ℕ → ℕ → ℕ
plane w h = h * (8 * stride w)

-- the bytes of a picture
abbrev pub planar_needs : ℕ → ℕ → ℕ
planar_needs w h = 4 * (h * stride w)

-- the memory has all four planes
abbrev pub planes_there : ℕ → ℕ → List ℕ → ℤ → Bool
planes_there w h m _ = nat_le (4 * (h * stride w)) (length m)

-- the four bits of place i in planes of n bits
abbrev pub four : ℕ → List ℕ → ℕ → ℕ
four n m i = cond (nat_lt i n) (bit_of m i + 2 * bit_of m (n + i) + 4 * bit_of m (2 * n + i) + 8 * bit_of m (3 * n + i)) 0

abbrev pub planar : ℕ → ℕ → List ℕ → Meaning
planar w h m = laid w h (8 * stride w) 4 (planes_there w h m) (four (plane w h) m)

-- The bits from a to b in each of the first k planes of n bits are those of v now, and every other bit is as it was.
pub record Planed (n a b v k : ℕ) (old new : List ℕ) : Type 0 where
  pub bits : (i : ℕ) → bit_of new i ≡ cond (nat_lt (i / n) k && among a b (i % n)) (v / 2 ^ (i / n) % 2) (bit_of old i)

-- bit i of the memory is one of the four of a cell in the region
abbrev pub celled : ℕ → ℕ → List ℕ → (ℤ → ℤ → Bool) → ℕ → Bool
celled w h m region i =
    let x = pos (i % plane w h % (8 * stride w)) in
    let y = pos (i % plane w h / (8 * stride w)) in
    nat_lt (i / plane w h) 4 && (region x y && has w h (planes_there w h m) x y)

-- Of all the bits of the memory, those of the picture's cells in the region are v's now, and every other one is as it was.
pub record PlanesDrawn (w h : ℕ) (old : List ℕ) (region : ℤ → ℤ → Bool) (v : ℕ) (new : List ℕ) : Type 0 where
  pub long : length new ≡ length old
  pub bits : (i : ℕ) → bit_of new i ≡ cond (celled w h old region i) (v / 2 ^ (i / plane w h) % 2) (bit_of old i)

-- the bits that are no cell's: the padding of the planes' rows and all that is behind the planes
abbrev pub planes_spare : ℕ → ℕ → List ℕ → ℕ → ℕ
planes_spare w h m i = cond (celled w h m (λ _ _. true) i) 0 (bit_of m i)

-- what a draw leaves as it is
abbrev pub planar_rest : ℕ → ℕ → List ℕ → GName → Untouched
planar_rest = rest_of planes_spare
