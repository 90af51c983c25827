-- What `find` says over a range of signed numbers.
use Rattle.std.proofs.Common.{◌≡◌, Bool, true, false, ℤ, pos, ◌+ℤ◌, ◌≤ℤ◌, ◌<ℤ◌, Some, None, Option, IfSome, List, [], ◌∷◌, sym, ap, ◌∙◌, subst, MatchOption, arith}
use borrow.Author.Differences.{ints}
use denote.Param.Members.{Mut}
use denote.Ref.{Bor}
use Rattle.std.proofs.lemmas.Int.{by_lt_z}
use Rattle.std.specs.Int.{int_gap}
use Rattle.std.specs.Fn.{CalledAt}
use Rattle.std.specs.Range.{range_steps_back}
use Rattle.std.specs.Iterator.{Yields, YieldsThen}
use Rattle.std.specs.Iterator.Adapters.{rev_source}
use Rattle.std.specs.List.{FoldsTo}
use Rattle.std.specs.declared.ops.Range.{Range}
use Rattle.std.specs.declared.iter.Rev.{Rev}
use Rattle.surface.proofs.Ranges.{gap-none, gap-some, int_range_steps, Passed, passed}
use Rattle.layers.specs.Rows.{Shut, First, Last}

-- `find` over a range
pub find_in_range : {F : Type 0} {g : Mut F (Bor ℤ × Unit {0}) Bool} (s u : Range ℤ) (f : F) (r : Option ℤ) (test : ℤ → Bool)
    → (xs : List ℤ) × (j : F) × YieldsThen int_range_steps s xs r u × FoldsTo (λ p x q. CalledAt g p x false q) f xs j × IfSome r (λ x. (h : F) × CalledAt g j x true h)
    → ((x : ℤ) (q : F) → CalledAt g f x true q → test x ≡ true) → ((x : ℤ) (q : F) → CalledAt g f x false q → (q ≡ f) × (test x ≡ false))
    → MatchOption r (Shut test s.start s.end) (First test s.start s.end)
find_in_range {F} {g} s u f r test (xs, j, ran, calls, last) hit miss = by r ran.2 last
  where
    before : Passed f j (λ x. test x ≡ false) s ran.0
    before = passed (λ p x q. CalledAt g p x false q) f (λ x. test x ≡ false) miss xs s ran.0 j ran.1 calls

    by : (r : Option ℤ) → int_range_steps ran.0 r u → IfSome r (λ x. (h : F) × CalledAt g j x true h) → MatchOption r (Shut test s.start s.end) (First test s.start s.end)
    by None step e = λ k a b. before.each k a (let h = gap-none _ _ step.1.0 in let e = before.end in omega (arith, ints))
    by (Some x) step e =
        let h = gap-some _ _ step.1.0 in
        let en = before.end in
        let st = before.start in
        record {
          low = omega (arith, ints);
          high = omega (arith, ints);
          here = hit x e.0 (subst (λ j. CalledAt g j x true e.0) before.state e.1);
          others = λ z p q. before.each z p (omega (arith, ints));
        }

-- calls of `next` on a range that is worked from its end
abbrev pub int_range_steps_back : Rev (Range ℤ) → Option ℤ → Rev (Range ℤ) → Type 0
int_range_steps_back s r t = range_steps_back int_gap (λ a b. b ≡ (a +ℤ pos 1)) (rev_source s) r (rev_source t)

record PassedBack {P : Type 0} (p q : P) (Q : ℤ → Type 0) (s t : Range ℤ) : Type 0 where
  state : q ≡ p
  start : t.start ≡ s.start
  end : t.end ≤ℤ s.end
  each : (k : ℤ) → t.end ≤ℤ k → k <ℤ s.end → Q k

module _ {P : Type 0} (R : P → ℤ → P → Type 0) (p : P) (Q : ℤ → Type 0) (still : (x : ℤ) (q : P) → R p x q → (q ≡ p) × Q x) where
  passed_back : (xs : List ℤ) (s t : Rev (Range ℤ)) (q : P) → Yields int_range_steps_back s xs t → FoldsTo R p xs q → PassedBack p q Q (rev_source s) (rev_source t)
  passed_back [] s t q y f =
      let e = ap (λ (r : Rev (Range ℤ)). (rev_source r).end) y in
      record {
        state = sym f;
        start = ap (λ (r : Rev (Range ℤ)). (rev_source r).start) (sym y);
        end = omega (arith, ints);
        each = λ k a b. let no : ⊥ = omega (arith, ints) in absurd no;
      }
  passed_back (x ∷ xs) s t q (j, here, y) (i, r, f) =
      let one = still x i r in
      let rest = passed_back xs j t q y (subst (λ i. FoldsTo R i xs q) one.0 f) in
      record {
        state = rest.state;
        start = rest.start ∙ here.0;
        end = let a = rest.end in omega (arith, ints);
        each = λ k a b. by_lt_z k (rev_source j).end (λ lt. rest.each k a lt) (λ le. let same : x ≡ k = omega (arith, ints) in subst Q same one.1);
      }

-- `rev` and then `find` over a range
pub find_back_in_range : {F : Type 0} {g : Mut F (Bor ℤ × Unit {0}) Bool} (s u : Rev (Range ℤ)) (f : F) (r : Option ℤ) (test : ℤ → Bool)
    → (xs : List ℤ) × (j : F) × YieldsThen int_range_steps_back s xs r u × FoldsTo (λ p x q. CalledAt g p x false q) f xs j × IfSome r (λ x. (h : F) × CalledAt g j x true h)
    → ((x : ℤ) (q : F) → CalledAt g f x true q → test x ≡ true) → ((x : ℤ) (q : F) → CalledAt g f x false q → (q ≡ f) × (test x ≡ false))
    → MatchOption r (Shut test (rev_source s).start (rev_source s).end) (Last test (rev_source s).start (rev_source s).end)
find_back_in_range {F} {g} s u f r test (xs, j, ran, calls, last) hit miss = by r ran.2 last
  where
    before : PassedBack f j (λ x. test x ≡ false) (rev_source s) (rev_source ran.0)
    before = passed_back (λ p x q. CalledAt g p x false q) f (λ x. test x ≡ false) miss xs s ran.0 j ran.1 calls

    by : (r : Option ℤ) → int_range_steps_back ran.0 r u → IfSome r (λ x. (h : F) × CalledAt g j x true h)
        → MatchOption r (Shut test (rev_source s).start (rev_source s).end) (Last test (rev_source s).start (rev_source s).end)
    by None step e = λ k a b. before.each k (let h = gap-none _ _ step.1.0 in let e = before.start in omega (arith, ints)) b
    by (Some x) step e =
        let h = gap-some _ _ step.1.0 in
        let en = before.end in
        let st = before.start in
        record {
          low = omega (arith, ints);
          high = omega (arith, ints);
          here = hit x e.0 (subst (λ j. CalledAt g j x true e.0) before.state e.1);
          others = λ z p q. before.each z (omega (arith, ints)) q;
        }
