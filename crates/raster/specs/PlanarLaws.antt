-- The laws of pictures of four bits a cell, in four planes.
use Rattle.std.specs.Prelude.{◌≡◌, ℕ, ◌+◌, ◌*◌, ◌/◌, ◌%◌, ◌^◌, ◌<◌, ◌≤◌, Bool, true, false, cond, ◌&&◌, List, length, ℤ, pos, nat_le, refl}
use Rattle.std.proofs.Common.{ltb, leb, sym, ap, subst, ⊎_elim, arith}
use Rattle.std.specs.Borrow.{GName}
use Rattle.std.proofs.lemmas.Nat.{le-div, mod-pow-add}
use Rattle.std.proofs.lemmas.Bool.{cases_Bool, cases_lt, and_left, and_right, lt-ltb, le-ltb, le-leb}
use Rattle.std.proofs.lemmas.Bool.Decides.{nat_tests}
use Rattle.surface.specs.Meaning.{Frame, frame, spans, inside, drawn}
use Rattle.raster.specs.Bits.{bit_of}
use Rattle.raster.specs.Layout.{has, laid, Untouched}
use Rattle.raster.specs.Lawful.{Lawful}
use Rattle.raster.specs.Laid.{in_row, laid_sound, redrawn_picture}
use Rattle.raster.specs.Packing.{stride}
use Rattle.raster.specs.Planar.{plane, planes_there, four, planar, planar_needs, planes_spare, planar_rest, celled, PlanesDrawn}

four_below : (t : Bool) (a b c d : ℕ) → a < 2 → b < 2 → c < 2 → d < 2 → cond t (a + 2 * b + 4 * c + 8 * d) 0 < 16
four_below true a b c d p q r s = omega arith
four_below false a b c d p q r s = omega arith

sum : (t : Bool) (v a b c d a' b' c' d' : ℕ)
    → a' ≡ cond t (v / 1 % 2) a → b' ≡ cond t (v / 2 % 2) b → c' ≡ cond t (v / 4 % 2) c → d' ≡ cond t (v / 8 % 2) d
    → a' + 2 * b' + 4 * c' + 8 * d' ≡ cond t (v % 16) (a + 2 * b + 4 * c + 8 * d)
sum true v a b c d a' b' c' d' p q r s = omega (arith, mod-pow-add v 1 3, mod-pow-add v 1 2, mod-pow-add v 1 1)
sum false v a b c d a' b' c' d' p q r s = omega arith

narrower : (s t u : Bool) → (s && u) ≡ false → (s && (t && u)) ≡ false
narrower true true u e = e
narrower true false u e = refl
narrower false t u e = refl

planes_open : (w h : ℕ) (m : List ℕ) → planar_needs w h ≤ length m → (x y : ℤ) → has w h (planes_there w h m) x y ≡ inside w h x y
planes_open w h m fit x y =
    let l : leb (4 * (h * stride w)) (length m) ≡ true = le-leb _ _ fit in
    open_all (spans (pos 0) w x) (spans (pos 0) h y) _ l where
      open_all : (s t u : Bool) → u ≡ true → (s && (t && u)) ≡ (s && t)
      open_all true true u e = e
      open_all true false u e = refl
      open_all false t u e = refl

module _ (w h : ℕ) (m n : List ℕ) (region : ℤ → ℤ → Bool) (v : ℕ) (d : PlanesDrawn w h m region v n) where
  module _ (i : ℕ) where
    abbrev hit : Bool
    hit = region (pos (i % (8 * stride w))) (pos (i / (8 * stride w))) && has w h (planes_there w h m) (pos (i % (8 * stride w))) (pos (i / (8 * stride w)))

    bit-of_bits : (k j : ℕ) → k < 4 → i < plane w h → j ≡ k * plane w h + i → bit_of n j ≡ cond hit (v / 2 ^ k % 2) (bit_of m j)
    bit-of_bits k j k4 lt at =
        let e = in_row (plane w h) j k (omega arith) (omega arith) in
        let r : j % plane w h ≡ i = omega arith in
        let l = lt-ltb k 4 k4 in
        let b = d.bits j in
        cc

    unit_of : four (plane w h) n i ≡ cond hit (v % 16) (four (plane w h) m i)
    unit_of =
        let b = plane w h in
        ⊎_elim
        (λ lt.
        let t = lt-ltb i b lt in
        let s =
        sum hit v _ _ _ _ _ _ _ _
        (bit-of_bits 0 i (omega arith) lt (omega arith)) (bit-of_bits 1 (b + i) (omega arith) lt (omega arith))
        (bit-of_bits 2 (2 * b + i) (omega arith) lt (omega arith)) (bit-of_bits 3 (3 * b + i) (omega arith) lt (omega arith)) in
        cc)
        (λ ge.
        let t = le-ltb i b ge in
        let x = pos (i % (8 * stride w)) in
        let y = pos (i / (8 * stride w)) in
        let f : hit ≡ false =
        ⊎_elim
        (λ some.
        let g = le-div h i (8 * stride w) some ge in
        let z : spans (pos 0) h y ≡ false = grind (arith, nat_tests) in
        and_right (region x y) _ (and_right (spans (pos 0) w x) _ (and_left _ _ z)))
        (λ none.
        let z : spans (pos 0) w x ≡ false = grind (arith, nat_tests) in
        and_right (region x y) _ (and_left _ _ z))
        (cases_lt 0 (8 * stride w)) in
        cc)
        (cases_lt i b)

    left_bit : cond (celled w h m (λ _ _. true) i) 0 (bit_of n i) ≡ planes_spare w h m i
    left_bit =
        ⊎_elim
        (λ t. cc)
        (λ f.
        let z : celled w h m region i ≡ false = narrower (ltb (i / plane w h) 4) (region _ _) _ f in
        let u = d.bits i in
        cc)
        (cases_Bool (celled w h m (λ _ _. true) i))

    spared : planes_spare w h n i ≡ planes_spare w h m i
    spared =
        let at : ℕ → ℕ = λ k.
        cond (ltb (i / plane w h) 4 && has w h (λ _. leb (4 * (h * stride w)) k) (pos (i % plane w h % (8 * stride w))) (pos (i % plane w h / (8 * stride w)))) 0 (bit_of n i) in
        subst (λ k. at k ≡ planes_spare w h m i) (sym d.long) left_bit

  drawn_picture : planar w h n ≡ drawn region (λ _ _. v) (planar w h m)
  drawn_picture =
      let b = plane w h in
      subst (λ k. laid w h (8 * stride w) 4 (λ _. leb (4 * (h * stride w)) k) (four b n) ≡ drawn region (λ _ _. v) (planar w h m)) (sym d.long)
      (redrawn_picture w h (8 * stride w) 4 (planes_there w h m) (omega arith) (four b m) (four b n) region v (record { units = unit_of }))

-- a draw of no cell
no_cell : (t : Bool) (a b : ℕ) → b ≡ cond (t && false) a b
no_cell true a b = refl
no_cell false a b = refl

pub planar-lawful : Lawful 4 planar_needs planar planes_spare PlanesDrawn
planar-lawful = record {
  empty = refl;
  framed = λ w h m fit i. record { width = w; height = h; depth = 4; opens = λ x y. planes_open w h m fit x y i };
  sound = λ w h m sides.
      let n = plane w h in
      laid_sound w h (8 * stride w) 4 (planes_there w h m) (four n m) sides (omega arith) (omega arith) (omega arith)
      (λ i. four_below (ltb i n) (bit_of m i) (bit_of m (n + i)) (bit_of m (2 * n + i)) (bit_of m (3 * n + i)) (omega arith) (omega arith) (omega arith) (omega arith));
  long = λ w h m n region v d. d.long;
  drawn = drawn_picture;
  spared = λ w h m n region v d i j. spared w h m n region v d j i;
  none = λ w h m v. record { long = refl; bits = λ i. no_cell (ltb (i / plane w h) 4) _ _ };
  alike = λ w h m n r s v same d. record {
    long = d.long;
    bits = λ i. let e = same (pos (i % plane w h % (8 * stride w))) (pos (i % plane w h / (8 * stride w))) in let u = d.bits i in cc;
  };
}

-- what no draw changes holds the frame, also where the memory is too short
pub planar_frame : (w h w' h' : ℕ) (m m' : List ℕ) (l l' : GName) → planar_rest w h m l ≡ planar_rest w' h' m' l' → frame (planar w h m) ≡ frame (planar w' h' m')
planar_frame w h w' h' m m' l l' e =
    let f : Untouched → Frame = λ r. record { width = r.width; height = r.height; depth = 4; opens = has r.width r.height (λ _. nat_le (4 * (r.height * stride r.width)) r.bytes) } in
    ap f e
