-- Words by their bits.
use Rattle.std.proofs.Common.{◌≡◌, ℕ, zero, suc, ◌+◌, ◌-◌, ◌*◌, ◌/◌, ◌%◌, ◌^◌, ◌<◌, sym, refl, ap, ◌∙◌, div-one, arith}
use native.Mathlib.Nat.{pow-succ'}
use lib.Bits.{bit_and, bit_xor, and_shr, xor_shr, and_mod, xor_mod}
use Rattle.std.proofs.lemmas.Nat.Bits.{bit_at-suc}
use Rattle.codes.specs.Bits.{bit, of_bits}
use Rattle.codes.specs.Operations.{combined, mixed, OperationPlanes, ModePlanes}

pub bit-bit_and : (k a b : ℕ) → bit k (bit_and a b) ≡ bit_and (bit k a) (bit k b)
bit-bit_and k a b = rw and_shr (and_mod (a / 2 ^ k) (b / 2 ^ k) 1)

pub bit-bit_xor : (k a b : ℕ) → bit k (bit_xor a b) ≡ bit_xor (bit k a) (bit k b)
bit-bit_xor k a b = rw xor_shr (xor_mod (a / 2 ^ k) (b / 2 ^ k) 1)

pub bit_suc : (k n : ℕ) → bit (suc k) n ≡ bit k (n / 2)
bit_suc k n = bit_at-suc n k

-- by the cases of a bit
pub by_bit : (P : ℕ → Type 0) (n : ℕ) → n < 2 → P 0 → P 1 → P n
by_bit P zero h p q = p
by_bit P (suc zero) h p q = q
by_bit P (suc (suc n)) h p q = absurd (omega arith)

-- a word is given by its bits
pub word_is : (n r : ℕ) (f : ℕ → ℕ) → r < 2 ^ n → ((k : ℕ) → k < n → bit k r ≡ f k) → r ≡ of_bits n f
unfolding of_bits
word_is zero r f h e = omega arith
word_is (suc n) r f h e =
    let low : r % 2 ≡ f 0 = ap (λ q. q % 2) (sym (div-one r)) ∙ e 0 (omega arith) in
    let less : r / 2 < 2 ^ n = omega (arith, pow-succ' 2 n) in
    let high : r / 2 ≡ of_bits n (λ k. f (suc k)) = word_is n (r / 2) (λ k. f (suc k)) less (λ k l. sym (bit_suc k r) ∙ e (suc k) (omega arith)) in
    omega arith

pub bit-of_bits : (n : ℕ) (f : ℕ → ℕ) → ((k : ℕ) → f k < 2) → (k : ℕ) → k < n → bit k (of_bits n f) ≡ f k
unfolding of_bits
bit-of_bits zero f s k h = absurd (omega arith)
bit-of_bits (suc n) f s zero h = ap (λ q. q % 2) (div-one (f 0 + 2 * of_bits n (λ k. f (suc k)))) ∙ omega (arith, s 0)
bit-of_bits (suc n) f s (suc k) h =
    let X = of_bits n (λ k. f (suc k)) in
    let half : (f 0 + 2 * X) / 2 ≡ X = omega (arith, s 0) in
    bit_suc k (f 0 + 2 * X) ∙ ap (bit k) half ∙ bit-of_bits n (λ k. f (suc k)) (λ k. s (suc k)) k (omega arith)

pub by_bits : (P : ℕ → ℕ → ℕ → Type 0) (p s d : ℕ) → p < 2 → s < 2 → d < 2
    → P 0 0 0 → P 0 0 1 → P 0 1 0 → P 0 1 1 → P 1 0 0 → P 1 0 1 → P 1 1 0 → P 1 1 1 → P p s d
by_bits P p s d a b c x0 x1 x2 x3 x4 x5 x6 x7 =
    by_bit (λ p. P p s d) p a
    (by_bit (λ s. P 0 s d) s b (by_bit (P 0 0) d c x0 x1) (by_bit (P 0 1) d c x2 x3))
    (by_bit (λ s. P 1 s d) s b (by_bit (P 1 0) d c x4 x5) (by_bit (P 1 1) d c x6 x7))

-- which of eight rows three bits pick, and which of four two bits
pub tree : (f : ℕ → ℕ) (p s d : ℕ) → p < 2 → s < 2 → d < 2
    → s * (d * (p * f 7 + (1 - p) * f 3) + (1 - d) * (p * f 6 + (1 - p) * f 2)) + (1 - s) * (d * (p * f 5 + (1 - p) * f 1) + (1 - d) * (p * f 4 + (1 - p) * f 0))
    ≡ f (4 * p + 2 * s + d)
tree f p s d a b c =
    by_bits (λ p s d. s * (d * (p * f 7 + (1 - p) * f 3) + (1 - d) * (p * f 6 + (1 - p) * f 2)) + (1 - s) * (d * (p * f 5 + (1 - p) * f 1) + (1 - d) * (p * f 4 + (1 - p) * f 0)) ≡ f (4 * p + 2 * s + d)) p s d a b c
    (omega arith) (omega arith) (omega arith) (omega arith) (omega arith) (omega arith) (omega arith) (omega arith)

pub fork : (f : ℕ → ℕ) (p d : ℕ) → p < 2 → d < 2 → p * (d * f 3 + (1 - d) * f 2) + (1 - p) * (d * f 1 + (1 - d) * f 0) ≡ f (2 * p + d)
fork f p d a b =
    by_bits (λ _ p d. p * (d * f 3 + (1 - d) * f 2) + (1 - p) * (d * f 1 + (1 - d) * f 0) ≡ f (2 * p + d)) 0 p d (omega arith) a b
    (omega arith) (omega arith) (omega arith) (omega arith) (omega arith) (omega arith) (omega arith) (omega arith)

-- a bit is its own lowest bit
low_bit : (k n : ℕ) → bit 0 (bit k n) ≡ bit k n
low_bit k n = ap (λ q. q % 2) (div-one (bit k n)) ∙ omega arith

-- Bit planes: a bit of the result is the result of the bits.
pub operation_planes : OperationPlanes
unfolding combined
operation_planes c p s d k h =
    bit-of_bits 16 (λ k. bit (4 * bit k p + 2 * bit k s + bit k d) c) (λ k. omega arith) k h ∙ sym (bit-of_bits 16 (λ j. bit (4 * bit j (bit k p) + 2 * bit j (bit k s) + bit j (bit k d)) c) (λ k. omega arith) 0 (omega arith) ∙ simp low_bit)

pub mode_planes : ModePlanes
unfolding mixed
mode_planes m p q k h =
    bit-of_bits 16 (λ k. bit (2 * bit k p + bit k q) (m - 1)) (λ k. omega arith) k h ∙ sym (bit-of_bits 16 (λ j. bit (2 * bit j (bit k p) + bit j (bit k q)) (m - 1)) (λ k. omega arith) 0 (omega arith) ∙ simp low_bit)

pub chosen : (w o z : ℕ) → w < 2 → o < 2 → z < 2 → bit_xor z (bit_and w (bit_xor o z)) ≡ w * o + (1 - w) * z
chosen w o z a b c = by_bits (λ w o z. bit_xor z (bit_and w (bit_xor o z)) ≡ w * o + (1 - w) * z) w o z a b c refl refl refl refl refl refl refl refl

-- operation 0xF0 gives the pen's word
pub pen_only : (p s d : ℕ) → p < 2 ^ 16 → combined 0xF0 p s d ≡ p
unfolding combined
pen_only p s d h = sym (word_is 16 p _ h (λ k _. by_bits (λ p s d. p ≡ bit (4 * p + 2 * s + d) 0xF0) (bit k p) (bit k s) (bit k d) (omega arith) (omega arith) (omega arith) refl refl refl refl refl refl refl refl))
