-- A byte by its bits, the highest first.
use Rattle.std.proofs.Common.{◌≡◌, ℕ, zero, suc, ◌+◌, ◌-◌, ◌*◌, ◌/◌, ◌%◌, ◌^◌, ◌<◌, Bool, true, ◌&&◌, eqb, List, map, length, get_or, refl, arith, lit<}
use Rattle.std.proofs.lemmas.Bool.Decides.{Decides-below_and}
use Rattle.std.proofs.lemmas.Bool.{eqb-true}
use Rattle.std.proofs.lemmas.List.FromFn.{fill_by_all}
use Rattle.std.specs.List.{range_with_len}
use Rattle.raster.specs.Bits.{bit_of}

abbrev all : (ℕ → Bool) → ℕ → Bool
all p zero = true
all p (suc n) = p n && all p n

from_all : (p : ℕ → Bool) (n : ℕ) → all p n ≡ true → (k : ℕ) → k < n → p k ≡ true
from_all p n e =
    (Decides-below_and p (λ k. p k ≡ true) (all p) (λ k. ((λ h. h), (λ h. h))) refl (λ _. refl) n).0 e

-- the number of eight bits
abbrev pub eight : ℕ → ℕ → ℕ → ℕ → ℕ → ℕ → ℕ → ℕ → ℕ
eight a b c d e f g h = 128 * a + 64 * b + 32 * c + 16 * d + 8 * e + 4 * f + 2 * g + h

abbrev again : ℕ → ℕ
again v = eight (v / 128 % 2) (v / 64 % 2) (v / 32 % 2) (v / 16 % 2) (v / 8 % 2) (v / 4 % 2) (v / 2 % 2) (v / 1 % 2)

pub by_bits : (v : ℕ) → v < 256 → v ≡ again v
by_bits v h = eqb-true v (again v) (from_all (λ k. eqb k (again k)) 256 refl v h)

-- the number of the eight bits from 8 q on
abbrev pub octet : (ℕ → ℕ) → ℕ → ℕ
octet g q = eight (g (8 * q)) (g (8 * q + 1)) (g (8 * q + 2)) (g (8 * q + 3)) (g (8 * q + 4)) (g (8 * q + 5)) (g (8 * q + 6)) (g (8 * q + 7))

bit_at : (m : List ℕ) (q k : ℕ) → k < 8 → bit_of m (8 * q + k) ≡ get_or m q 0 / 2 ^ (7 - k) % 2
bit_at m q k h =
    let a : (8 * q + k) / 8 ≡ q = omega arith in
    let b : (8 * q + k) % 8 ≡ k = omega arith in
    cc

-- a byte of a memory whose bits are known
pub byte_is : (m : List ℕ) (g : ℕ → ℕ) (n : ℕ) → ((i : ℕ) → i < 8 * n → bit_of m i ≡ g i) → (q v : ℕ) → q < n → v ≡ get_or m q 0 → v < 256 → v ≡ octet g q
byte_is m g n f q v l e h =
    let s = by_bits v h in
    let z : 8 * q ≡ 8 * q + 0 = omega arith in
    let h0 = bit_at m q 0 (lit< tt) in
    let f0 = f (8 * q) (omega arith) in
    let h1 = bit_at m q 1 (lit< tt) in
    let f1 = f (8 * q + 1) (omega arith) in
    let h2 = bit_at m q 2 (lit< tt) in
    let f2 = f (8 * q + 2) (omega arith) in
    let h3 = bit_at m q 3 (lit< tt) in
    let f3 = f (8 * q + 3) (omega arith) in
    let h4 = bit_at m q 4 (lit< tt) in
    let f4 = f (8 * q + 4) (omega arith) in
    let h5 = bit_at m q 5 (lit< tt) in
    let f5 = f (8 * q + 5) (omega arith) in
    let h6 = bit_at m q 6 (lit< tt) in
    let f6 = f (8 * q + 6) (omega arith) in
    let h7 = bit_at m q 7 (lit< tt) in
    let f7 = f (8 * q + 7) (omega arith) in
    cc

-- a memory whose bits are known
pub bytes_are : (m : List ℕ) (g : ℕ → ℕ) (n : ℕ) → length m ≡ n → ((i : ℕ) → i < 8 * n → bit_of m i ≡ g i) → ((k : ℕ) → get_or m k 0 < 256) → m ≡ map (octet g) (range_with_len 0 n)
bytes_are m g n l f b = fill_by_all _ m n 0 l (λ q h. byte_is m g n f q (get_or m q 0) h refl (b q))
