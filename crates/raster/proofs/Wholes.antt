-- A picture and what no draw changes are together all of a memory.
use Rattle.std.proofs.Common.{◌≡◌, ℕ, ◌+◌, ◌*◌, ◌/◌, ◌%◌, ◌<◌, Bool, true, false, cond, ltb, List, length, get_or, ℤ, pos, sym, refl, ap, ◌∙◌, ⊎_elim, add-mul, arith}
use Rattle.std.proofs.lemmas.Nat.{div-add-mod', mul-le}
use Rattle.std.proofs.lemmas.Bool.{cases_Bool, cases_eq, and_parts, ltb-true, lt-ltb}
use Rattle.surface.specs.Meaning.{spans}
use Rattle.raster.specs.Bits.{bit_of}
use Rattle.raster.specs.Laws.{PackedWhole, BytewiseWhole, PlanarWhole}
use Rattle.raster.specs.Layout.{has_row, has, laid, others, row_there}
use Rattle.raster.specs.Packing.{stride, there}
use Rattle.raster.specs.Planar.{plane, planes_there, four, celled}
use Rattle.raster.specs.Laid.{natural}
use Rattle.raster.proofs.Layouts.{row_of}

-- a unit is a cell's, or one of the others
laid-whole : (w h p d : ℕ) (at at' : ℤ → Bool) (unit unit' : ℕ → ℕ) → laid w h p d at unit ≡ laid w h p d at' unit'
    → (i : ℕ) → others w h p at unit i ≡ others w h p at' unit' i → unit i ≡ unit' i
laid-whole w h p d at at' unit unit' e i o =
    let x = pos (i % p) in
    let y = pos (i / p) in
    let place : i / p * p + i % p ≡ i = div-add-mod' i p in
    let word = ap (λ m. m.word x y) e in
    let open' = ap (λ m. m.opens x y) e in
    ⊎_elim (λ t. cc) (λ f. cc) (cases_Bool (has w h at x y))

pub packed-whole : PackedWhole
packed-whole w h m n l e r i =
    laid-whole w h (8 * stride w) 1 (there w m) (there w n) (bit_of m) (bit_of n) e i (ap (λ t. t.spare i) r)

cut : (t u : Bool) (a b : ℕ) → cond t 0 a ≡ cond u 0 b → cond t 0 (a % 256) ≡ cond u 0 (b % 256)
cut true true a b e = refl
cut true false a b e = omega arith
cut false true a b e = omega arith
cut false false a b e = omega arith

pub bytewise-whole : BytewiseWhole
bytewise-whole w h m n l e r i =
    laid-whole w h w 8 (row_there w (length m)) (row_there w (length n)) (λ i. get_or m i 0 % 256) (λ i. get_or n i 0 % 256) e i
    (cut _ _ _ _ (ap (λ t. t.spare i) r))

sums : (a b c d a' b' c' d' : ℕ) → a < 2 → b < 2 → c < 2 → d < 2 → a' < 2 → b' < 2 → c' < 2 → d' < 2
    → a + 2 * b + 4 * c + 8 * d ≡ a' + 2 * b' + 4 * c' + 8 * d' → (a ≡ a') × (b ≡ b') × (c ≡ c') × (d ≡ d')
sums a b c d a' b' c' d' p q r s t u v w e = (omega arith, omega arith, omega arith, omega arith)

-- the bits of one place in four planes of N bits
planes_whole : (N i r k : ℕ) (m n : List ℕ) → i ≡ k * N + r → k < 4 → r < N → four N m r ≡ four N n r → bit_of m i ≡ bit_of n i
planes_whole N i r k m n at k4 rN e =
    let t = lt-ltb r N rN in
    let f : bit_of m r + 2 * bit_of m (N + r) + 4 * bit_of m (2 * N + r) + 8 * bit_of m (3 * N + r) ≡ bit_of n r + 2 * bit_of n (N + r) + 4 * bit_of n (2 * N + r) + 8 * bit_of n (3 * N + r) = rw t at e in
    let s = sums (bit_of m r) (bit_of m (N + r)) (bit_of m (2 * N + r)) (bit_of m (3 * N + r)) (bit_of n r) (bit_of n (N + r)) (bit_of n (2 * N + r)) (bit_of n (3 * N + r))
    (omega arith) (omega arith) (omega arith) (omega arith) (omega arith) (omega arith) (omega arith) (omega arith) f in
    ⊎_elim
    (λ z. let j : i ≡ r = rw z at at ∙ omega arith in rw j s.0)
    (λ n0. ⊎_elim
    (λ z. let j : i ≡ N + r = rw z at at ∙ omega arith in rw j s.1)
    (λ n1. ⊎_elim
    (λ z. let j : i ≡ 2 * N + r = rw z at at in rw j s.2)
    (λ n2. let z : k ≡ 3 = omega arith in let j : i ≡ 3 * N + r = rw z at at in rw j s.3)
    (cases_eq k 2))
    (cases_eq k 1))
    (cases_eq k 0)

pub planar-whole : PlanarWhole
planar-whole w h m n l e r i =
    let N = plane w h in
    let p = 8 * stride w in
    let q = i % N in
    let x = pos (q % p) in
    let y = pos (q / p) in
    let place : q / p * p + q % p ≡ q = div-add-mod' q p in
    let word = ap (λ t. t.word x y) e in
    let open' = ap (λ t. t.opens x y) e in
    let spare = ap (λ t. t.spare i) r in
    ⊎_elim
    (λ t.
    let k4 = ltb-true (i / N) 4 (and_parts (ltb (i / N) 4) (has w h (planes_there w h m) x y) t).0 in
    let c = (and_parts (ltb (i / N) 4) (has w h (planes_there w h m) x y) t).1 in
    let v = and_parts (spans (pos 0) w x) (has_row h (planes_there w h m) y) c in
    let a = (natural x w v.0).1 in
    let b = (natural y h (and_parts (spans (pos 0) h y) (planes_there w h m y) v.1).0).1 in
    let o = row_of p q (q / p) (omega arith) refl in
    let g = mul-le (q / p + 1) p h p (omega arith) (omega arith) in
    let small : q < N = omega (arith, add-mul (q / p) 1 p) in
    let u : four N m q ≡ four N n q = cc in
    planes_whole N i q (i / N) m n (sym (div-add-mod' i N)) k4 small u)
    (λ f. cc)
    (cases_Bool (celled w h m (λ _ _. true) i))
