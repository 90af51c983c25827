-- The laws of packed pictures.
use Rattle.std.specs.Prelude.{◌≡◌, ℕ, ◌*◌, Bool, List, length, ℤ, refl}
use Rattle.std.proofs.Common.{sym, ap, subst, arith}
use Rattle.std.specs.Borrow.{GName}
use Rattle.surface.specs.Meaning.{Frame, frame, drawn}
use Rattle.raster.specs.Bits.{bit_of}
use Rattle.raster.specs.Layout.{has, laid, others, row_there, Untouched}
use Rattle.raster.specs.Lawful.{Lawful}
use Rattle.raster.specs.Laid.{all_open, laid_sound, redrawn_picture, redrawn_others, redrawn_alike}
use Rattle.raster.specs.Packing.{stride, there, packed, packed_needs, packed_spare, packed_rest, PackedDrawn}

module _ (w h : ℕ) (m n : List ℕ) (region : ℤ → ℤ → Bool) (v : ℕ) (d : PackedDrawn w h m region v n) where
  drawn_picture : packed w h n ≡ drawn region (λ _ _. v) (packed w h m)
  drawn_picture =
      subst (λ k. laid w h (8 * stride w) 1 (row_there (stride w) k) (bit_of n) ≡ drawn region (λ _ _. v) (packed w h m)) (sym d.long)
      (redrawn_picture w h (8 * stride w) 1 (there w m) (omega arith) (bit_of m) (bit_of n) region v d.bits)

  spared : (i : ℕ) → packed_spare w h n i ≡ packed_spare w h m i
  spared i =
      subst (λ k. others w h (8 * stride w) (row_there (stride w) k) (bit_of n) i ≡ packed_spare w h m i) (sym d.long)
      (redrawn_others w h (8 * stride w) 1 (there w m) (omega arith) (bit_of m) (bit_of n) region v d.bits i)

pub packed-lawful : Lawful 1 packed_needs packed packed_spare PackedDrawn
packed-lawful = record {
  empty = refl;
  framed = λ w h m fit i. record { width = w; height = h; depth = 1; opens = λ x y. all_open w h (stride w) (length m) fit x y i };
  sound = λ w h m sides. laid_sound w h (8 * stride w) 1 (there w m) (bit_of m) sides (omega arith) (omega arith) (omega arith) (λ i. omega arith);
  long = λ w h m n region v d. d.long;
  drawn = drawn_picture;
  spared = λ w h m n region v d i j. spared w h m n region v d j i;
  none = λ w h m v. record { long = refl; bits = record { units = λ i. refl } };
  alike = λ w h m n r s v same d. record { long = d.long; bits = redrawn_alike w h (8 * stride w) 1 (there w m) (bit_of m) (bit_of n) r s v same d.bits };
}

-- what no draw changes holds the frame, also where the memory is too short
pub packed_frame : (w h w' h' : ℕ) (m m' : List ℕ) (l l' : GName) → packed_rest w h m l ≡ packed_rest w' h' m' l' → frame (packed w h m) ≡ frame (packed w' h' m')
packed_frame w h w' h' m m' l l' e =
    let f : Untouched → Frame = λ r. record { width = r.width; height = r.height; depth = 1; opens = has r.width r.height (row_there (stride r.width) r.bytes) } in
    ap f e
