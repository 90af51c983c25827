-- The words that raster operations and line modes make, bit by bit.
use Rattle.std.specs.Prelude.{◌≡◌, ℕ, ◌+◌, ◌-◌, ◌*◌, ◌<◌, Bool, not, ◌&&◌, ◌==◌}
use Rattle.codes.specs.Bits.{bit, of_bits}

-- ternary raster operation c: pattern, source and picture bits P, S and D give bit 4P + 2S + D of c
unfoldable pub combined : ℕ → ℕ → ℕ → ℕ → ℕ
combined c p s d = of_bits 16 (λ k. bit (4 * bit k p + 2 * bit k s + bit k d) c)

-- line mode m: pen and picture bits p and q give bit 2p + q of m - 1
unfoldable pub mixed : ℕ → ℕ → ℕ → ℕ
mixed m p q = of_bits 16 (λ k. bit (2 * bit k p + bit k q) (m - 1))

-- two rows of c that differ only in S differ
abbrev pub sourced : ℕ → Bool
sourced c = not (bit 0 c == bit 2 c && bit 1 c == bit 3 c && bit 4 c == bit 6 c && bit 5 c == bit 7 c)

-- two rows of c that differ only in D differ
abbrev pub pictured : ℕ → Bool
pictured c = not (bit 0 c == bit 1 c && bit 2 c == bit 3 c && bit 4 c == bit 5 c && bit 6 c == bit 7 c)

-- A bit of what a raster operation or a line mode gives is what it gives of the bits.
abbrev pub OperationPlanes : Type 0
OperationPlanes = (c p s d k : ℕ) → k < 16 → bit k (combined c p s d) ≡ bit 0 (combined c (bit k p) (bit k s) (bit k d))

abbrev pub ModePlanes : Type 0
ModePlanes = (m p q k : ℕ) → k < 16 → bit k (mixed m p q) ≡ bit 0 (mixed m (bit k p) (bit k q))
