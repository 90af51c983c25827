-- A picture that lies in a memory row after row, in units that are bits or bytes: p units a row, of which the first w are
-- its cells, so that unit i stands in column i % p of row i / p.
use Rattle.std.specs.Prelude.{◌≡◌, ℕ, ◌+◌, ◌*◌, ◌/◌, ◌%◌, ◌^◌, Bool, cond, ◌&&◌, List, length, ℤ, pos, Ok, Err, Result, nat_le, unsigned_abs}
use Rattle.std.specs.Borrow.{GName}
use Rattle.codes.specs.declared.refusal.Refusal.{Refusal}
use Rattle.codes.specs.declared.refusal.Refusal.TheVariants.{Size, Memory}
use Rattle.surface.specs.Meaning.{Meaning, spans}

-- row y is one of the picture's, and one of those that the memory has
abbrev pub has_row : ℕ → (ℤ → Bool) → ℤ → Bool
has_row h there y = spans (pos 0) h y && there y

abbrev pub has : ℕ → ℕ → (ℤ → Bool) → ℤ → ℤ → Bool
has w h there x y = spans (pos 0) w x && has_row h there y

abbrev pub laid : ℕ → ℕ → ℕ → ℕ → (ℤ → Bool) → (ℕ → ℕ) → Meaning
laid w h p d there unit = record {
  width = w;
  height = h;
  depth = d;
  word = λ x y. cond (has w h there x y) (unit (unsigned_abs y * p + unsigned_abs x)) 0;
  opens = has w h there;
}

-- Of all the units of the memory, those of the picture's cells in the region hold v now, cut to the depth,
-- and every other one is as it was: so is one right of the width, and one behind the picture.
pub record Redrawn (w h p d : ℕ) (there : ℤ → Bool) (region : ℤ → ℤ → Bool) (v : ℕ) (old new : ℕ → ℕ) : Type 0 where
  pub units : (i : ℕ) → new i ≡ cond (region (pos (i % p)) (pos (i / p)) && has w h there (pos (i % p)) (pos (i / p))) (v % 2 ^ d) (old i)

-- the units that are no cell's of the picture, each in its place: right of the width, and behind the picture
abbrev pub others : ℕ → ℕ → ℕ → (ℤ → Bool) → (ℕ → ℕ) → ℕ → ℕ
others w h p there unit i = cond (has w h there (pos (i % p)) (pos (i / p))) 0 (unit i)

-- What no set and no fill changes: the size, the memory's length and lender, and its units that are no cell's.
pub record Untouched : Type 0 where
  pub width : ℕ
  pub height : ℕ
  pub bytes : ℕ
  pub lender : GName
  pub spare : ℕ → ℕ

-- what no draw changes, in a layout with these units that are no cell's
abbrev pub rest_of : (ℕ → ℕ → List ℕ → ℕ → ℕ) → ℕ → ℕ → List ℕ → GName → Untouched
rest_of spare w h m lender = record { width = w; height = h; bytes = length m; lender = lender; spare = spare w h m }

-- a memory of so many bytes has all of row y, where each row has r bytes
abbrev pub row_there : ℕ → ℕ → ℤ → Bool
row_there r bytes y = nat_le (unsigned_abs y * r + r) bytes

-- a picture may have this size
abbrev pub sized : ℕ → ℕ → Bool
sized w h = (nat_le 1 w && nat_le w 4096) && (nat_le 1 h && nat_le h 4096)

-- a picture may have this size, and the bytes that it needs are no more than there are
abbrev pub fit : ℕ → ℕ → ℕ → ℕ → Bool
fit w h needed bytes = sized w h && nat_le needed bytes

-- whether a picture may have this size, and then whether the bytes that it needs are no more than there are
abbrev pub fitting : ℕ → ℕ → ℕ → ℕ → Result (Unit {0}) Refusal
fitting w h needed bytes = cond (sized w h) (cond (nat_le needed bytes) (Ok tt) (Err Memory)) (Err Size)
