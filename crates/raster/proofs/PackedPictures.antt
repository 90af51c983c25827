-- From painted bits to a packed picture.
use Rattle.std.proofs.Common.{◌≡◌, ℕ, ◌+◌, ◌-◌, ◌*◌, ◌%◌, ◌<◌, ◌≤◌, Bool, true, cond, List, length, pos, subst, mul_left_comm, arith}
use Rattle.surface.specs.Meaning.{strip}
use Rattle.raster.specs.Bits.{bit_of, Painted}
use Rattle.raster.specs.Layout.{has_row}
use Rattle.raster.specs.Packing.{stride, there, packed_needs, PackedDrawn}
use Rattle.raster.proofs.Layouts.{row_here, redrawn_row}

module _ (w h : ℕ) (m : List ℕ) (y : ℕ) (fit : packed_needs w h ≤ length m) (low : y < h) where
  here : has_row h (there w m) (pos y) ≡ true
  here = row_here h (stride w) (length m) y fit low

  module _ (start : ℕ) (at : start ≡ y * stride w) where
    place : 8 * start ≡ y * (8 * stride w)
    place = omega (arith, mul_left_comm 8 y (stride w))

    pub packed_row : (new : List ℕ) (from to v : ℕ) (b : Bool) → from ≤ to → to ≤ w → cond b 1 0 ≡ v % 2 → length new ≡ length m
        → Painted m (8 * start + from) (8 * start + to) b new → PackedDrawn w h m (strip (pos from) (pos y) (to - from)) v new
    packed_row new from to v b ft tw bit len p =
        let e = place in
        record {
          long = len;
          bits = redrawn_row w h (8 * stride w) 1 (there w m) y here (omega arith) from to ft tw (bit_of m) (bit_of new) v (λ i. let t = p.bits i in cc);
        }

    -- one cell of the row
    pub packed_cell : (new : List ℕ) (x v : ℕ) (b : Bool) → x < w → cond b 1 0 ≡ v % 2 → length new ≡ length m
        → Painted m (8 * start + x) (8 * start + (x + 1)) b new → PackedDrawn w h m (strip (pos x) (pos y) 1) v new
    packed_cell new x v b lt bit len p =
        let e : x + 1 - x ≡ 1 = omega arith in
        subst (λ n. PackedDrawn w h m (strip (pos x) (pos y) n) v new) e (packed_row new x (x + 1) v b (omega arith) (omega arith) bit len p)
