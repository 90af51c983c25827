-- What `all` says over a range of signed numbers.
use Rattle.std.proofs.Common.{◌≡◌, ◌<◌, Bool, true, false, ℤ, pos, negsuc, ◌+ℤ◌, ◌≤ℤ◌, ◌<ℤ◌, Some, None, Option, List, [], ◌∷◌, sym, ap, ◌∙◌, subst, MatchOption, Decides, arith}
use borrow.Author.Differences.{ints}
use denote.Param.Members.{Mut, Called}
use Rattle.std.proofs.lemmas.Int.{by_lt_z}
use Rattle.std.proofs.lemmas.Bool.{both_ways}
use Rattle.std.specs.Int.{int_gap}
use Rattle.std.specs.Range.{range_steps}
use Rattle.std.specs.Iterator.{Yields, YieldsThen}
use Rattle.std.specs.List.{FoldsTo}
use Rattle.std.specs.declared.ops.Range.{Range}

pub gap-none : (a b : ℤ) → int_gap a b ≡ 0 → b ≤ℤ a
gap-none (pos a) (pos b) e = omega (arith, ints)
gap-none (pos a) (negsuc b) e = omega (arith, ints)
gap-none (negsuc a) (pos b) e = omega (arith, ints)
gap-none (negsuc a) (negsuc b) e = omega (arith, ints)

pub gap-some : (a b : ℤ) → 0 < int_gap a b → a <ℤ b
gap-some (pos a) (pos b) h = omega (arith, ints)
gap-some (pos a) (negsuc b) h = omega (arith, ints)
gap-some (negsuc a) (pos b) h = omega (arith, ints)
gap-some (negsuc a) (negsuc b) h = omega (arith, ints)

-- calls of `next` on a range
abbrev pub int_range_steps : Range ℤ → Option ℤ → Range ℤ → Type 0
int_range_steps = range_steps int_gap (λ a b. b ≡ (a +ℤ pos 1))

-- A range was worked from s to t, and the state is as it was; Q holds of each number passed.
pub record Passed {P : Type 0} (p q : P) (Q : ℤ → Type 0) (s t : Range ℤ) : Type 0 where
  pub state : q ≡ p
  pub end : t.end ≡ s.end
  pub start : s.start ≤ℤ t.start
  pub each : (k : ℤ) → s.start ≤ℤ k → k <ℤ t.start → Q k

module _ {P : Type 0} (R : P → ℤ → P → Type 0) (p : P) (Q : ℤ → Type 0) (still : (x : ℤ) (q : P) → R p x q → (q ≡ p) × Q x) where
  pub passed : (xs : List ℤ) (s t : Range ℤ) (q : P) → Yields int_range_steps s xs t → FoldsTo R p xs q → Passed p q Q s t
  passed [] s t q y f = record {
    state = sym f;
    end = ap (λ (r : Range ℤ). r.end) (sym y);
    start = let e = ap (λ (r : Range ℤ). r.start) y in omega (arith, ints);
    each = λ k a b. let e = ap (λ (r : Range ℤ). r.start) y in let no : ⊥ = omega (arith, ints) in absurd no;
  }
  passed (x ∷ xs) s t q (j, here, y) (i, r, f) =
      let one = still x i r in
      let rest = passed xs j t q y (subst (λ i. FoldsTo R i xs q) one.0 f) in
      record {
        state = rest.state;
        end = rest.end ∙ here.0;
        start = let a = rest.start in omega (arith, ints);
        each = λ k a b. by_lt_z k j.start (λ lt. let same : x ≡ k = omega (arith, ints) in subst Q same one.1) (λ le. rest.each k le b);
      }

-- `all` over a range, where the closure tests P
pub all_in_range : {F : Type 0} {g : Mut F (ℤ × Unit {0}) Bool} (s u : Range ℤ) (f : F) (r : Bool) (P : ℤ → Type 0)
    → (xs : List ℤ) × (o : Option ℤ) × (j : F) × YieldsThen int_range_steps s xs o u × FoldsTo (λ p x q. Called g p (x, tt) true q) f xs j
    × MatchOption o (r ≡ true) (λ x. (r ≡ false) × ((h : F) × Called g j (x, tt) false h))
    → ((x : ℤ) (q : F) → Called g f (x, tt) true q → (q ≡ f) × P x) → ((x : ℤ) (q : F) → Called g f (x, tt) false q → P x → ⊥)
    → Decides r ((k : ℤ) → s.start ≤ℤ k → k <ℤ s.end → P k)
all_in_range {F} {g} s u f r P (xs, o, j, ran, calls, last) hit miss = by o ran.2 last
  where
    before : Passed f j P s ran.0
    before = passed (λ p x q. Called g p (x, tt) true q) f P hit xs s ran.0 j ran.1 calls

    by : (o : Option ℤ) → int_range_steps ran.0 o u → MatchOption o (r ≡ true) (λ x. (r ≡ false) × ((h : F) × Called g j (x, tt) false h))
        → Decides r ((k : ℤ) → s.start ≤ℤ k → k <ℤ s.end → P k)
    by None step e = (λ _ k a b. before.each k a (let h = gap-none _ _ step.1.0 in let e = before.end in omega (arith, ints)), λ _. e)
    by (Some x) step e =
        let h = gap-some _ _ step.1.0 in
        let en = before.end in
        let st = before.start in
        let false : P x → ⊥ = miss x e.1.0 (subst (λ j. Called g j (x, tt) false e.1.0) before.state e.1.1) in
        (λ t. absurd (both_ways r e.0 t), λ all. absurd (false (all x (omega (arith, ints)) (omega (arith, ints)))))
