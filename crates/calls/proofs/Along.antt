-- A machine that goes on, call by call.
use Rattle.std.proofs.Common.{◌≡◌, ℕ, ◌≤◌, Bool, false, ◌||◌, List, [], ◌∷◌, ◌++◌, ℤ, sym, refl, ap, ◌∙◌, subst}
use Rattle.std.proofs.lemmas.Bool.{and_right, or_parts}
use Rattle.surface.specs.Meaning.{Meaning}
use Rattle.surface.specs.Rects.{Keep, Kept}
use Rattle.surface.proofs.Keeping.{kept_none, kept_both}
use Rattle.playback.specs.Records.{Mark, untouched, marked}
use Rattle.player.specs.Playing.{after, aimed}
use Rattle.player.specs.declared.progress.Progress.{Progress}
use Rattle.calls.specs.Machine.{Standing, begun, Makes, Made, Acts, Machine, none, next}
use Rattle.calls.specs.Promise.{Still, Led, Performed}
use Rattle.player.proofs.Wholes.{marks_picture, marks_kept, marks_rest}
use Rattle.calls.specs.declared.call.Call.{Call}
use Rattle.calls.specs.declared.call.MeterCall.{MeterCall}
use Rattle.calls.specs.declared.call.MeterCall.TheVariants as act
use Rattle.calls.specs.declared.call.Reply.{Reply}
use Rattle.calls.proofs.Apart.{planes-apart}

pub still_here : (m : Meaning) → Still m m
still_here m = record { width = refl; height = refl; depth = refl; opens = refl; closed = λ x y h. refl }

pub still_then : (m n o : Meaning) → Still m n → Still n o → Still m o
still_then m n o a b = record {
  width = b.width ∙ a.width;
  height = b.height ∙ a.height;
  depth = b.depth ∙ a.depth;
  opens = b.opens ∙ a.opens;
  closed = λ x y h. b.closed x y (ap (λ f. f x y) a.opens ∙ h) ∙ a.closed x y h;
}

pub still_after : (k : Mark) (m : Meaning) → Still m (after k m)
still_after untouched m = still_here m
still_after (marked region new) m = record { width = refl; height = refl; depth = refl; opens = refl; closed = λ x y h. simp (and_right (region x y) (m.opens x y) h) refl }

-- a cell that a mark does not reach keeps its word
pub unaimed : (k : Mark) (m : Meaning) (x y : ℤ) → aimed k m x y ≡ false → (after k m).word x y ≡ m.word x y
unaimed untouched m x y e = refl
unaimed (marked region new) m x y e = simp e refl

module _ {I : Type 0} (view : ℕ → ℕ) (shade : I → ℤ → ℤ → ℕ) (file : List ℕ) where
  -- one more at the end
  pub machine_push : {p q : Standing} {acts : List (MeterCall I)} {rs : List Reply} (a : MeterCall I) (r : Reply) (s : Standing)
      → Machine view shade file p acts rs q → Acts view shade file q a r s → Machine view shade file p (acts ++ (a ∷ [])) (rs ++ (r ∷ [])) s
  machine_push a r s none x = next x none
  machine_push a r s (next y m) x = next y (machine_push a r s m x)

  act_still : (a : MeterCall I) (p q : Standing) (r : Reply) → Acts view shade file p a r q → Still p.picture q.picture
  act_still (act.Call c) p q r (t, k, m, e) = subst (λ (q : Standing). Still p.picture q.picture) (sym e) (still_after k p.picture)
  act_still act.Clear p q r (er, e) = subst (λ (q : Standing). Still p.picture q.picture) (sym e) (still_here p.picture)

  pub machine-still : {p q : Standing} {acts : List (MeterCall I)} {rs : List Reply} → Machine view shade file p acts rs q → Still p.picture q.picture
  machine-still {p} none = still_here p.picture
  machine-still (next {p} {q} {s} {a} {acts} {r} {rs} x m) = still_then p.picture q.picture s.picture (act_still a p q r x) (machine-still m)

  -- a cell that was not reached since has its word since
  KeptSince : Standing → Type 0
  KeptSince p = (x y : ℤ) → p.reached x y ≡ false → p.picture.word x y ≡ p.reference.word x y

  act_since : (a : MeterCall I) (p q : Standing) (r : Reply) → Acts view shade file p a r q → KeptSince p → KeptSince q
  unfolding KeptSince
  act_since (act.Call c) p q r (t, k, m, e) h =
      subst (λ (q : Standing). (x y : ℤ) → q.reached x y ≡ false → q.picture.word x y ≡ q.reference.word x y) (sym e)
      (λ x y n. let o = or_parts (p.reached x y) (aimed k p.picture x y) n in unaimed k p.picture x y o.1 ∙ h x y o.0)
  act_since act.Clear p q r (er, e) h =
      subst (λ (q : Standing). (x y : ℤ) → q.reached x y ≡ false → q.picture.word x y ≡ q.reference.word x y) (sym e) (λ x y n. refl)

  machine_since : {p q : Standing} {acts : List (MeterCall I)} {rs : List Reply} → Machine view shade file p acts rs q → KeptSince p → KeptSince q
  machine_since none h = h
  machine_since (next {p} {q} {s} {a} {acts} {r} {rs} x m) h = machine_since m (act_since a p q r x h)

  pub unreached : {q : Standing} {acts : List (MeterCall I)} {rs : List Reply} (t : Progress) (m : Meaning) (cells : ℤ → ℤ → Bool)
      → Machine view shade file (begun t m cells) acts rs q → (x y : ℤ) → q.reached x y ≡ false → q.picture.word x y ≡ q.reference.word x y
  unfolding KeptSince
  unreached t m cells h = machine_since h (λ x y n. refl)

module _ {I : Type 0} (shade : I → ℤ → ℤ → ℕ) (file : List ℕ) where
  -- all that is promised follows from the machine that sees words as they are
  pub leads : {acts : List (MeterCall I)} {rs : List Reply} (t : Progress) (m : Meaning) (cells : ℤ → ℤ → Bool) (q : Standing)
      → m.depth ≤ 16 → Machine (λ w. w) shade file (begun t m cells) acts rs q
      → Led shade file acts t m cells rs q.run q.picture q.reference q.reached
  leads t m cells q d h = record {
    whole = h;
    planes = λ k l. planes-apart k shade file l d h;
    still = machine-still (λ w. w) shade file h;
    unreached = unreached (λ w. w) shade file t m cells h;
  }

  module _ {S R : Type 0} (means : S → Meaning) (keeps : S → Keep) (rest : S → R) where
    -- a run at t on a surface s has made some calls
    pub record Along (acts : List (MeterCall I)) (t : Progress) (s : S) (replies : List Reply) (t' : Progress) (s' : S) : Type 0 where
      pub reached : ℤ → ℤ → Bool
      pub machine : Machine (λ w. w) shade file (begun t (means s) (λ _ _. false)) acts replies (record { run = t'; picture = means s'; reference = means s; reached = reached })
      pub kept : Kept (keeps s) reached (keeps s')
      pub others : rest s' ≡ rest s

    pub along_none : (t : Progress) (s : S) (replies : List Reply) → replies ≡ [] → Along [] t s replies t s
    along_none t s replies e = subst (λ rs. Along [] t s rs t s) (sym e) (record {
      reached = λ _ _. false;
      machine = none;
      kept = kept_none (keeps s) (λ _ _. false) (λ x y t. t);
      others = refl;
    })

    -- one call more
    pub along_next : (file' : List ℕ) (acts acts' : List (MeterCall I)) (t t₁ t₂ : Progress) (s s₁ s₂ : S) (replies replies' : List Reply) (c : Call I) (r : Reply)
        → Along acts t s replies t₁ s₁ → file' ≡ file → Made means keeps rest shade file' t₁ s₁ c r t₂ s₂
        → acts' ≡ acts ++ (act.Call c ∷ []) → replies' ≡ replies ++ (r ∷ []) → Along acts' t s replies' t₂ s₂
    along_next file' acts acts' t t₁ t₂ s s₁ s₂ replies replies' c r l f d ea er =
        let k = d.0 in
        let cells : ℤ → ℤ → Bool = λ x y. l.reached x y || aimed k (means s₁) x y in
        let here : Standing = record { run = t₂; picture = after k (means s₁); reference = means s; reached = cells } in
        let one : Machine (λ w. w) shade file (begun t (means s) (λ _ _. false)) (acts ++ (act.Call c ∷ [])) (replies ++ (r ∷ [])) here
        = machine_push (λ w. w) shade file (act.Call c) r here l.machine (t₂, k, subst (λ b. Makes (λ w. w) shade b t₁ c r t₂ k) f d.1, refl) in
        let there : Along (acts ++ (act.Call c ∷ [])) t s (replies ++ (r ∷ [])) t₂ s₂ = record {
          reached = cells;
          machine = subst (λ n. Machine (λ w. w) shade file (begun t (means s) (λ _ _. false)) (acts ++ (act.Call c ∷ [])) (replies ++ (r ∷ [])) (record { run = t₂; picture = n; reference = means s; reached = cells })) (marks_picture means keeps rest k s₁ s₂ d.2) one;
          kept = kept_both l.reached (aimed k (means s₁)) l.kept (marks_kept means keeps rest k s₁ s₂ d.2);
          others = marks_rest means keeps rest k s₁ s₂ d.2 ∙ l.others;
        } in
        subst (λ made. Along made t s replies' t₂ s₂) (sym ea) (subst (λ rs. Along (acts ++ (act.Call c ∷ [])) t s rs t₂ s₂) (sym er) there)

    pub along_performed : (acts : List (MeterCall I)) (t : Progress) (s : S) (replies : List Reply) (t' : Progress) (s' : S) → (means s).depth ≤ 16
        → Along acts t s replies t' s' → Performed means keeps rest shade file acts t s replies t' s'
    along_performed acts t s replies t' s' d l = record {
      reached = l.reached;
      led = leads t (means s) (λ _ _. false) (record { run = t'; picture = means s'; reference = means s; reached = l.reached }) d l.machine;
      kept = l.kept;
      others = l.others;
    }
