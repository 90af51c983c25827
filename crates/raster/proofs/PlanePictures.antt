-- From painted planes to a picture of four bits a cell.
use Rattle.std.proofs.Common.{◌≡◌, ℕ, ◌+◌, ◌-◌, ◌*◌, ◌/◌, ◌%◌, ◌^◌, ◌<◌, ◌≤◌, Bool, true, false, cond, ◌&&◌, ltb, leb, List, length, pos, sym, ◌∙◌, ⊎_elim, mul_left_comm, arith}
use Rattle.std.proofs.lemmas.Bool.{and_right, cases_lt, le-leb}
use Rattle.std.proofs.lemmas.Bool.Decides.{nat_tests}
use Rattle.surface.specs.Meaning.{spans, strip}
use Rattle.raster.specs.Bits.{bit_of, among, Painted}
use Rattle.raster.specs.Laid.{in_row}
use Rattle.raster.specs.Layout.{has_row}
use Rattle.raster.specs.Packing.{stride}
use Rattle.raster.specs.Planar.{plane, planes_there, planar_needs, Planed, PlanesDrawn}
use Rattle.raster.proofs.Layouts.{row_of, reach}

-- one plane more
module _ (n a b v k : ℕ) (t : Bool) (old mid new : List ℕ) (bn : b ≤ n) (bit : cond t 1 0 ≡ v / 2 ^ k % 2) (p : Planed n a b v k old mid) (q : Painted mid (k * n + a) (k * n + b) t new) where
  abbrev More : ℕ → Type 0
  More i = bit_of new i ≡ cond (ltb (i / n) (k + 1) && among a b (i % n)) (v / 2 ^ (i / n) % 2) (bit_of old i)

  within : (i : ℕ) → k * n ≤ i → i < k * n + n → More i
  within i lo hi =
      let e = in_row n i k lo hi in
      let s : among (k * n + a) (k * n + b) i ≡ among a b (i % n) = grind (arith, nat_tests) in
      let l : ltb (i / n) k ≡ false = grind (arith, nat_tests) in
      let g : ltb (i / n) (k + 1) ≡ true = grind (arith, nat_tests) in
      let f = p.bits i in
      let h = q.bits i in
      cc

  beside : (i : ℕ) → among (k * n + a) (k * n + b) i ≡ false → (ltb (i / n) (k + 1) && among a b (i % n)) ≡ (ltb (i / n) k && among a b (i % n)) → More i
  beside i none e = let f = p.bits i in let h = q.bits i in cc

  other : (i : ℕ) → (i / n ≡ k → ⊥) → (ltb (i / n) (k + 1) && among a b (i % n)) ≡ (ltb (i / n) k && among a b (i % n))
  other i ne = let e : ltb (i / n) (k + 1) ≡ ltb (i / n) k = grind (arith, nat_tests) in rw e

  pub planed_more : Planed n a b v (k + 1) old new
  planed_more = record {
    bits = λ i.
        ⊎_elim
        (λ some. ⊎_elim
        (λ lt. beside i (grind (arith, nat_tests)) (other i (λ e. let o = row_of n i k some e in omega arith)))
        (λ lo. ⊎_elim (within i lo) (λ ge. beside i (grind (arith, nat_tests)) (other i (λ e. let o = row_of n i k some e in omega arith))) (cases_lt i (k * n + n)))
        (cases_lt i (k * n)))
        (λ none.
        let z : among a b (i % n) ≡ false = grind (arith, nat_tests) in
        beside i (grind (arith, nat_tests)) (and_right _ _ z ∙ sym (and_right _ _ z)))
        (cases_lt 0 n);
  }

module _ (w h : ℕ) (m : List ℕ) (y : ℕ) (fit : planar_needs w h ≤ length m) (low : y < h) where
  here : has_row h (planes_there w h m) (pos y) ≡ true
  here = let a : spans (pos 0) h (pos y) ≡ true = grind (arith, nat_tests) in let b : leb (4 * (h * stride w)) (length m) ≡ true = le-leb _ _ fit in cc

  pub planar_row : (new : List ℕ) (N start from to v k : ℕ) → N ≡ 8 * (h * stride w) → start ≡ y * stride w → k ≡ 4 → from ≤ to → to ≤ w
      → length new ≡ length m → Planed N (8 * start + from) (8 * start + to) v k m new → PlanesDrawn w h m (strip (pos from) (pos y) (to - from)) v new
  planar_row new N start from to v k whole at all ft tw len p = record {
    long = len;
    bits = λ i.
        let n : N ≡ plane w h = omega (arith, mul_left_comm 8 h (stride w)) in
        let s : 8 * start ≡ y * (8 * stride w) = omega (arith, mul_left_comm 8 y (stride w)) in
        let r = reach w h (8 * stride w) 4 (planes_there w h m) y here (omega arith) from to ft tw (i % plane w h) in
        let f = p.bits i in
        cc;
  }
