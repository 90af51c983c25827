-- Words that are alike, cell by cell.
use Rattle.std.proofs.Common.{◌≡◌, ℕ, false, ◌&&◌, ℤ, pos, ◌≤ℤ◌, ◌<ℤ◌, sym, ap, ◌∙◌, arith}
use mathlib.Core.Bool.{and-false}
use borrow.Author.Differences.{ints}
use Rattle.std.proofs.lemmas.Int.{by_lt_z}
use Rattle.surface.specs.Meaning.{Meaning, Sound, spans}
use Rattle.surface.specs.Sameness.{Same, SameRow}
use Rattle.surface.specs.Facts.{never, spans_out}

-- what holds of the numbers from 0 up to k
abbrev pub Upto : (ℤ → Type 0) → ℤ → Type 0
Upto P k = (z : ℤ) → pos 0 ≤ℤ z → z <ℤ k → P z

-- what holds of the numbers from 0 up to k and of those outside holds of all
everywhere : (P : ℤ → Type 0) (k : ℤ) (n : ℕ) → k ≡ pos n → Upto P k → ((z : ℤ) → spans (pos 0) n z ≡ false → P z) → (z : ℤ) → P z
everywhere P k n e h out z =
    by_lt_z z (pos 0) (λ lt. out z (never (spans (pos 0) n z) (λ t. let s = spans_out (pos 0) n z t in omega (arith, ints))))
    (λ le. by_lt_z z k (λ lt. h z le lt) (λ high. out z (never (spans (pos 0) n z) (λ t. let s = spans_out (pos 0) n z t in omega (arith, ints)))))

-- the words of a column or a row outside are 0
pub whole_row : (m n : Meaning) → Sound m → Sound n → m.width ≡ n.width → (y k : ℤ) → k ≡ pos m.width → Upto (λ x. m.word x y ≡ n.word x y) k → SameRow m n y
whole_row m n s t e y k end h =
    everywhere (λ x. m.word x y ≡ n.word x y) k m.width end h
    (λ x out. s.blank_outside x y (ap (λ b. b && spans (pos 0) m.height y) out)
    ∙ sym (t.blank_outside x y (ap (λ b. b && spans (pos 0) n.height y) (ap (λ w. spans (pos 0) w x) (sym e) ∙ out))))

pub whole-picture : (m n : Meaning) → Sound m → Sound n → m.width ≡ n.width → m.height ≡ n.height → (k : ℤ) → k ≡ pos m.height → Upto (SameRow m n) k → Same m n
whole-picture m n s t e f k end h = record {
  width = e;
  height = f;
  rows = everywhere (SameRow m n) k m.height end h
      (λ y out x. s.blank_outside x y (ap (λ b. spans (pos 0) m.width x && b) out ∙ and-false (spans (pos 0) m.width x))
      ∙ sym (t.blank_outside x y (ap (λ b. spans (pos 0) n.width x && b) (ap (λ w. spans (pos 0) w y) (sym f) ∙ out) ∙ and-false (spans (pos 0) n.width x))));
}
