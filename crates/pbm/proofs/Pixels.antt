-- Bytes of eight pixels, and rows of such bytes.
use Rattle.std.proofs.Common.{◌≡◌, ℕ, zero, suc, ◌+◌, ◌-◌, ◌*◌, ◌/◌, ◌%◌, ◌^◌, ◌<◌, Bool, true, false, cond, ltb, List, [], ◌∷◌, ◌++◌, map, length, get_or, drop, set, pos, append_assoc, add-one, arith, pow_mono}
use Rattle.std.specs.List.{range_with_len}
use Rattle.std.proofs.lemmas.List.FromFn.{length-map-range_with_len, map-range_with_len_more}
use Rattle.std.proofs.lemmas.List.{append-nil, drop_all, drop_more, set_at}
use Rattle.surface.specs.Meaning.{Meaning}
use Rattle.pbm.specs.Bitmap.{pixel, binary, octet, row}

one_bit : (t : Bool) (n : ℕ) → cond t (1 - n % 2) 0 < 2
one_bit true n = omega arith
one_bit false n = omega arith

pub pixel-bit : (m : Meaning) (y x : ℕ) → pixel m y x < 2
pixel-bit m y x = one_bit (ltb x m.width) (m.word (pos x) (pos y))

pub binary_more : (f : ℕ → ℕ) (n : ℕ) → binary f (n + 1) ≡ 2 * binary f n + f n
unfolding binary
binary_more f n = rw add-one

pub binary_lt : (f : ℕ → ℕ) → ((k : ℕ) → f k < 2) → (n : ℕ) → binary f n < 2 ^ n
unfolding binary
binary_lt f b zero = omega arith
binary_lt f b (suc n) = omega (arith, binary_lt f b n, b n)

pub binary_small : (f : ℕ → ℕ) → ((k : ℕ) → f k < 2) → (n : ℕ) → n < 8 → binary f n < 128
binary_small f b n h = omega (arith, binary_lt f b n, pow_mono {i = n} {j = 7} (omega arith))

-- one byte more of a row
pub byte_more : (f : ℕ → ℕ) (old now : List ℕ) (i : ℕ) → i < length old → now ≡ map f (range_with_len 0 i) ++ drop i old
    → set now i (f i) ≡ map f (range_with_len 0 (i + 1)) ++ drop (i + 1) old
byte_more f old now i h e =
    let d = drop_more old i 0 h in
    let s = set_at (map f (range_with_len 0 i)) (get_or old i 0) (drop (i + 1) old) (f i) i (length-map-range_with_len f 0 i) in
    let m = map-range_with_len_more f 0 i i (omega arith) in
    let a = append_assoc (map f (range_with_len 0 i)) (f i ∷ []) (drop (i + 1) old) in
    cc

-- a row whose bytes are all written
pub row-all : (m : Meaning) (y i n : ℕ) (front now : List ℕ) → n ≡ (m.width + 7) / 8 → length front ≡ n → i ≡ n
    → now ≡ map (octet m y) (range_with_len 0 i) ++ drop i front → now ≡ row m y
unfolding row
row-all m y i n front now e l f h =
    let d = drop_all i front (omega arith) in
    let a = append-nil (map (octet m y) (range_with_len 0 i)) in
    cc
