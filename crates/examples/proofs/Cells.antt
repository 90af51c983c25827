-- The cells of a picture in the memory.
use Rattle.std.proofs.Common.{◌≡◌, ℕ, ◌+◌, ◌*◌, ◌/◌, ◌%◌, ◌<◌, true, ◌&&◌, ltb, List, [], ◌∷◌, ◌++◌, map, length, get_or, pos, Ok, Result, refl, ap, ◌∙◌, subst, arith}
use Rattle.std.proofs.lemmas.Int.{ints}
use Rattle.std.proofs.lemmas.List.FromFn.{fill_by_all}
use Rattle.std.proofs.lemmas.Bool.Decides.{nat_tests}
use Rattle.std.specs.List.{range_with_len}
use Rattle.codes.specs.declared.refusal.Refusal.{Refusal}
use Rattle.surface.specs.Meaning.{Meaning}
use Rattle.raster.specs.Bits.{bit_of}
use Rattle.raster.specs.Layout.{has, row_there}
use Rattle.raster.specs.Packing.{packed, there}
use Rattle.raster.specs.Bytewise.{bytewise}
use Rattle.pbm.specs.Bitmap.{answer, celled, octet, row, Wrote}

-- a byte of a row of five
pub cell_is : (m : List ℕ) (n : Meaning) → length m ≡ 5 → bytewise 5 1 m ≡ n → (x v : ℕ) → x < 5 → v ≡ get_or m x 0 → v < 256 → v ≡ n.word (pos x) (pos 0)
cell_is m n l p x v h e s =
    let o : has 5 1 (row_there 5 (length m)) (pos x) (pos 0) ≡ true = grind (arith, ints, nat_tests) in
    let q : 0 * 5 + x ≡ x = omega arith in
    let r : v % 256 ≡ v = omega arith in
    let a : v ≡ (bytewise 5 1 m).word (pos x) (pos 0) = cc in
    a ∙ ap (λ z. z.word (pos x) (pos 0)) p

-- and the row
pub row_of : (m : List ℕ) (n : Meaning) → length m ≡ 5 → bytewise 5 1 m ≡ n → ((k : ℕ) → get_or m k 0 < 256) → m ≡ map (λ x. n.word (pos x) (pos 0)) (range_with_len 0 5)
row_of m n l p b = fill_by_all _ m 5 0 l (λ x h. cell_is m n l p x (get_or m x 0) h refl (b x))

-- a bit of h rows of eight
pub bit_is : (h : ℕ) (m : List ℕ) (n : Meaning) → length m ≡ h → packed 8 h m ≡ n → (i : ℕ) → i < 8 * h → bit_of m i ≡ n.word (pos (i % 8)) (pos (i / 8))
bit_is h m n l p i b =
    let c : i % 8 < 8 = omega arith in
    let d : i / 8 < h = omega arith in
    let o : has 8 h (there 8 m) (pos (i % 8)) (pos (i / 8)) ≡ true = grind (arith, ints, nat_tests) in
    let q : i / 8 * 8 + i % 8 ≡ i = omega arith in
    let r : bit_of m i ≡ (packed 8 h m).word (pos (i % 8)) (pos (i / 8)) = cc in
    r ∙ ap (λ z. z.word (pos (i % 8)) (pos (i / 8))) p

-- a packed picture of four rows whose size and memory go by other names
pub same_picture : {w h : ℕ} {m n : List ℕ} → w ≡ 8 → h ≡ 4 → m ≡ n → packed w h m ≡ packed 8 4 n
same_picture w h e = λ i. packed (w i) (h i) (e i)

-- the byte of a row of eight cells in a buffer of one byte
pub row_is : (m : Meaning) (y : ℕ) (new : List ℕ) (r : Result ℕ Refusal) → m.width ≡ 8 → m.height ≡ 4 → y < 4
    → r ≡ answer (celled m && ltb y m.height) ((m.width + 7) / 8) 1 → Wrote (row m y) (0 ∷ []) new r → get_or new 0 0 ≡ octet m y 0
unfolding row
row_is m y new r w h l a b =
    let t : ltb y 4 ≡ true = grind (arith, nat_tests) in
    let e : r ≡ Ok 1 = a ∙ ap (λ z. answer (ltb 0 z && ltb 0 m.height && ltb y m.height) ((z + 7) / 8) 1) w
    ∙ ap (λ z. answer (ltb 0 z && ltb y z) 1 1) h ∙ ap (λ z. answer z 1 1) t in
    let o = subst (λ z. Wrote (row m y) (0 ∷ []) new z) e b in
    let p : map (octet m y) (range_with_len 0 ((m.width + 7) / 8)) ≡ octet m y 0 ∷ [] = ap (λ z. map (octet m y) (range_with_len 0 ((z + 7) / 8))) w in
    ap (λ z. get_or z 0 0) o ∙ ap (λ z. get_or (z ++ []) 0 0) p
