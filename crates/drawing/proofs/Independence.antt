-- Raster operations that do not depend on the picture, or on a source.
use Rattle.std.proofs.Common.{◌≡◌, ℕ, ◌+◌, ◌*◌, false, eqb, sym, refl, ap, ◌∙◌, arith}
use mathlib.Core.Path.{fun_ext}
use Rattle.std.proofs.lemmas.Bool.{and_parts, eqb-true, not-false}
use Rattle.codes.specs.Bits.{bit, of_bits}
use Rattle.codes.specs.Operations.{combined, pictured, sourced}
use Rattle.codes.proofs.Words.{by_bits}

-- the rows that differ only in the picture's bit
record Paired (c : ℕ) : Type 0 where
  zeros : bit 0 c ≡ bit 1 c
  sources : bit 2 c ≡ bit 3 c
  patterns : bit 4 c ≡ bit 5 c
  all : bit 6 c ≡ bit 7 c

paired : (c : ℕ) → pictured c ≡ false → Paired c
paired c e =
    let h = and_parts _ (eqb (bit 6 c) (bit 7 c)) (not-false _ e) in
    let g = and_parts _ (eqb (bit 4 c) (bit 5 c)) h.0 in
    let f = and_parts (eqb (bit 0 c) (bit 1 c)) (eqb (bit 2 c) (bit 3 c)) g.0 in
    record { zeros = eqb-true _ _ f.0; sources = eqb-true _ _ f.1; patterns = eqb-true _ _ g.1; all = eqb-true _ _ h.1 }

alone : (c p s d : ℕ) → Paired c → (k : ℕ) → bit (4 * bit k p + 2 * bit k s + bit k d) c ≡ bit (4 * bit k p + 2 * bit k s + 0) c
alone c p s d h k =
    by_bits (λ p s d. bit (4 * p + 2 * s + d) c ≡ bit (4 * p + 2 * s + 0) c) (bit k p) (bit k s) (bit k d) (omega arith) (omega arith) (omega arith)
    refl (sym h.zeros) refl (sym h.sources) refl (sym h.patterns) refl (sym h.all)

pub unpictured : (c p s d d' : ℕ) → pictured c ≡ false → combined c p s d ≡ combined c p s d'
unfolding combined
unpictured c p s d d' e =
    let h = paired c e in
    ap (of_bits 16) (fun_ext λ k. alone c p s d h k ∙ sym (alone c p s d' h k))

-- one word for every cell
pub uniform_is : (c v p s p' s' d : ℕ) → pictured c ≡ false → v ≡ combined c p s 0 → p' ≡ p → s' ≡ s → v ≡ combined c p' s' d
uniform_is c v p s p' s' d e h ep es = h ∙ unpictured c p s 0 d e ∙ ap (λ p. combined c p s d) (sym ep) ∙ ap (λ s. combined c p' s d) (sym es)

-- the rows that differ only in the source's bit
record Doubled (c : ℕ) : Type 0 where
  zeros : bit 0 c ≡ bit 2 c
  pictures : bit 1 c ≡ bit 3 c
  patterns : bit 4 c ≡ bit 6 c
  all : bit 5 c ≡ bit 7 c

doubled : (c : ℕ) → sourced c ≡ false → Doubled c
doubled c e =
    let h = and_parts _ (eqb (bit 5 c) (bit 7 c)) (not-false _ e) in
    let g = and_parts _ (eqb (bit 4 c) (bit 6 c)) h.0 in
    let f = and_parts (eqb (bit 0 c) (bit 2 c)) (eqb (bit 1 c) (bit 3 c)) g.0 in
    record { zeros = eqb-true _ _ f.0; pictures = eqb-true _ _ f.1; patterns = eqb-true _ _ g.1; all = eqb-true _ _ h.1 }

without : (c p s d : ℕ) → Doubled c → (k : ℕ) → bit (4 * bit k p + 2 * bit k s + bit k d) c ≡ bit (4 * bit k p + bit k d) c
without c p s d h k =
    by_bits (λ p s d. bit (4 * p + 2 * s + d) c ≡ bit (4 * p + d) c) (bit k p) (bit k s) (bit k d) (omega arith) (omega arith) (omega arith)
    refl refl (sym h.zeros) (sym h.pictures) refl refl (sym h.patterns) (sym h.all)

pub unsourced : (c p s s' d : ℕ) → sourced c ≡ false → combined c p s d ≡ combined c p s' d
unfolding combined
unsourced c p s s' d e =
    let h = doubled c e in
    ap (of_bits 16) (fun_ext λ k. without c p s d h k ∙ sym (without c p s' d h k))
