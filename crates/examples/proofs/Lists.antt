-- Lines by the list of their cells, and a raster operation that does not read its pattern.
use Rattle.std.proofs.Common.{◌≡◌, ℕ, zero, suc, ◌+◌, ◌*◌, ◌/◌, ◌%◌, ◌^◌, ◌<◌, Bool, true, false, ◌||◌, List, [], ◌∷◌, ◌++◌, ℤ, sym, refl, ap, ◌∙◌, arith}
use Rattle.std.proofs.Math.Bool.{or-false, or_assoc}
use Rattle.codes.specs.Bits.{bit, of_bits}
use Rattle.codes.specs.Operations.{combined}
use Rattle.surface.specs.Meaning.{strip}
use Rattle.drawing.specs.Lines.{longer, spot, traced}
use Rattle.drawing.specs.declared.shape.Point.{Point}
use Rattle.lines.specs.Examples.{cells}
use Rattle.examples.specs.Worked.{listed, Line}

listed_++ : (ps qs : List Point) (a b : ℤ) → listed (ps ++ qs) a b ≡ (listed ps a b || listed qs a b)
listed_++ [] qs a b = refl
listed_++ (p ∷ ps) qs a b =
    ap (λ t. strip p.x p.y 1 a b || t) (listed_++ ps qs a b) ∙ sym (or_assoc (strip p.x p.y 1 a b) (listed ps a b) (listed qs a b))

traced-listed : (p q : Point) (n : ℕ) (a b : ℤ) → traced p q n a b ≡ listed (cells p q n) a b
traced-listed p q zero a b = refl
traced-listed p q (suc n) a b =
    let s = strip (spot p q n).x (spot p q n).y 1 a b in
    ap (λ t. t || s) (traced-listed p q n a b)
    ∙ ap (λ t. listed (cells p q n) a b || t) (sym (or-false s))
    ∙ sym (listed_++ (cells p q n) (spot p q n ∷ []) a b)

pub line_listed : (p q : Point) (list : List Point) → cells p q (longer p q) ≡ list → Line p q list
line_listed p q list e = record {
  order = e;
  all = λ a b. traced-listed p q (longer p q) a b ∙ ap (λ z. listed z a b) e;
}

by_two : (P : ℕ → Type 0) (n : ℕ) → n < 2 → P 0 → P 1 → P n
by_two P zero h z o = z
by_two P (suc zero) h z o = o
by_two P (suc (suc n)) h z o = absurd (omega arith)

by_bit : (P : ℕ → Type 0) (n : ℕ) → P 0 → P 1 → P (n % 2)
by_bit P n z o = by_two P (n % 2) (omega arith) z o

-- in the operation's table the rows with the pattern's bit are those without
same_rows : (a b c : ℕ) → bit (4 * (a % 2) + 2 * (b % 2) + c % 2) 0x66 ≡ bit (4 * 0 + 2 * (b % 2) + c % 2) 0x66
same_rows a b c =
    by_bit (λ x. bit (4 * x + 2 * (b % 2) + c % 2) 0x66 ≡ bit (4 * 0 + 2 * (b % 2) + c % 2) 0x66) a refl
    (by_bit (λ y. bit (4 * 1 + 2 * y + c % 2) 0x66 ≡ bit (4 * 0 + 2 * y + c % 2) 0x66) b
    (by_bit (λ z. bit (4 * 1 + 2 * 0 + z) 0x66 ≡ bit (4 * 0 + 2 * 0 + z) 0x66) c refl refl)
    (by_bit (λ z. bit (4 * 1 + 2 * 1 + z) 0x66 ≡ bit (4 * 0 + 2 * 1 + z) 0x66) c refl refl))

pub any_pattern : (p : ℕ) → combined 0x66 p 5 3 ≡ 6
unfolding combined of_bits
any_pattern p = λ i. of_bits 16 (λ k. same_rows (p / 2 ^ k) (5 / 2 ^ k) (3 / 2 ^ k) i)
