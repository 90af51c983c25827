-- The laws of pictures of one byte a cell.
use Rattle.std.specs.Prelude.{◌≡◌, ℕ, ◌%◌, Bool, true, false, cond, List, length, ℤ, slice_index, refl}
use Rattle.std.proofs.Common.{sym, ap, subst, arith}
use Rattle.std.specs.Borrow.{GName}
use Rattle.surface.specs.Meaning.{Frame, frame, drawn}
use Rattle.raster.specs.Layout.{has, laid, Redrawn, others, row_there, Untouched}
use Rattle.raster.specs.Lawful.{Lawful}
use Rattle.raster.specs.Laid.{all_open, laid_sound, redrawn_picture, redrawn_others, redrawn_alike}
use Rattle.raster.specs.Bytewise.{bytewise, bytewise_needs, bytes_spare, bytewise_rest, BytesDrawn}

cut : (t : Bool) (v x y : ℕ) → y ≡ cond t (v % 256) x → y % 256 ≡ cond t (v % 256) (x % 256)
cut true v x y e = omega arith
cut false v x y e = omega arith

module _ (w h : ℕ) (m n : List ℕ) (region : ℤ → ℤ → Bool) (v : ℕ) (d : BytesDrawn w h m region v n) where
  abbrev old : ℕ → ℕ
  old i = slice_index m i

  abbrev new : ℕ → ℕ
  new i = slice_index n i

  drawn_picture : bytewise w h n ≡ drawn region (λ _ _. v) (bytewise w h m)
  drawn_picture =
      let r : Redrawn w h w 8 (row_there w (length m)) region v (λ i. old i % 256) (λ i. new i % 256) = record { units = λ i. cut _ v _ _ (d.bytes.units i) } in
      subst (λ k. laid w h w 8 (row_there w k) (λ i. new i % 256) ≡ drawn region (λ _ _. v) (bytewise w h m)) (sym d.long)
      (redrawn_picture w h w 8 (row_there w (length m)) (omega arith) (λ i. old i % 256) (λ i. new i % 256) region v r)

  spared : (i : ℕ) → bytes_spare w h n i ≡ bytes_spare w h m i
  spared i =
      subst (λ k. others w h w (row_there w k) new i ≡ bytes_spare w h m i) (sym d.long)
      (redrawn_others w h w 8 (row_there w (length m)) (omega arith) old new region v d.bytes i)

pub bytewise-lawful : Lawful 8 bytewise_needs bytewise bytes_spare BytesDrawn
bytewise-lawful = record {
  empty = refl;
  framed = λ w h m fit i. record { width = w; height = h; depth = 8; opens = λ x y. all_open w h w (length m) fit x y i };
  sound = λ w h m sides. laid_sound w h w 8 (row_there w (length m)) (λ i. slice_index m i % 256) sides (omega arith) (omega arith) (omega arith) (λ i. omega arith);
  long = λ w h m n region v d. d.long;
  drawn = drawn_picture;
  spared = λ w h m n region v d i j. spared w h m n region v d j i;
  none = λ w h m v. record { long = refl; bytes = record { units = λ i. refl } };
  alike = λ w h m n r s v same d. record {
    long = d.long;
    bytes = redrawn_alike w h w 8 (row_there w (length m)) (λ i. slice_index m i) (λ i. slice_index n i) r s v same d.bytes;
  };
}

-- what no draw changes holds the frame, also where the memory is too short
pub bytewise_frame : (w h w' h' : ℕ) (m m' : List ℕ) (l l' : GName) → bytewise_rest w h m l ≡ bytewise_rest w' h' m' l' → frame (bytewise w h m) ≡ frame (bytewise w' h' m')
bytewise_frame w h w' h' m m' l l' e =
    let f : Untouched → Frame = λ r. record { width = r.width; height = r.height; depth = 8; opens = has r.width r.height (row_there r.width r.bytes) } in
    ap f e
