-- A meter's rectangle in the course of calls and clearings.
use Rattle.std.proofs.Common.{◌≡◌, ℕ, ◌≤◌, Bool, true, false, ◌||◌, T, List, [], ◌∷◌, ◌++◌, ℤ, Some, None, Option, sym, refl, ap, ◌∙◌, subst, arith}
use Rattle.std.proofs.lemmas.Int.{ints}
use Rattle.surface.specs.Meaning.{Meaning}
use Rattle.surface.specs.Rects.{Within, holds, held, bounds, Grown, Kept, more}
use Rattle.surface.specs.declared.rect.Rect.{Rect}
use Rattle.surface.proofs.Keeping.{or_left, or_right, or_out}
use Rattle.layers.specs.Bounds.{solid}
use Rattle.layers.specs.declared.meter.Meter.{Meter}
use Rattle.player.specs.Playing.{after, aimed}
use Rattle.player.specs.declared.progress.Progress.{Progress}
use Rattle.player.proofs.Wholes.{marks_picture, marks_kept, marks_rest}
use Rattle.calls.specs.Machine.{Standing, begun, Machine, none}
use Rattle.calls.specs.Metering.{Acted}
use Rattle.calls.specs.Promise.{Bounding, Metered}
use Rattle.calls.specs.declared.call.MeterCall.{MeterCall}
use Rattle.calls.specs.declared.call.MeterCall.TheVariants as act
use Rattle.calls.specs.declared.call.Reply.{Reply}
use Rattle.calls.proofs.Along.{machine_push, leads}

first_cell : (l t r b : ℤ) → (solid (Some (record { left = l; top = t; right = r; bottom = b })) ≡ true) → holds (record { left = l; top = t; right = r; bottom = b }) l t ≡ true
first_cell l t r b e = grind (arith, ints)

-- what a meter keeps is the smallest rectangle around its own cells
pub held_bounding : (r : Option Rect) → solid r ≡ true → Bounding (held r) r
held_bounding None e = record { all = λ x y h. h; least = λ q h. h; empty = λ h. refl; none = λ h x y t. t }
held_bounding (Some r) e = record {
  all = λ x y h. h;
  least = λ q h. h;
  empty = λ h. absurd (h r.left r.top (subst T (sym (first_cell r.left r.top r.right r.bottom e)) tt));
  none = λ h. cc;
}

-- more cells were reached
grown_bounding : (cells new : ℤ → ℤ → Bool) (r s : Option Rect) → Bounding cells r → Grown r new s → Bounding (λ x y. cells x y || new x y) s
grown_bounding cells new r s b g =
    let all : Within (λ x y. cells x y || new x y) (held s) = λ x y. or_out (cells x y) (new x y) (λ h. g.before x y (b.all x y h)) (λ h. g.reached x y h) in
    record {
      all = all;
      least = λ q h. g.least q (b.least q (λ x y c. h x y (or_left (cells x y) (new x y) c))) (λ x y n. h x y (or_right (cells x y) (new x y) n));
      empty = λ h. g.same (λ x y n. h x y (or_right (cells x y) (new x y) n)) ∙ b.empty (λ x y c. h x y (or_left (cells x y) (new x y) c));
      none = λ e x y h. subst (λ o. T (held o x y)) e (all x y h);
    }

grown_of : {r s : Option Rect} {cells : ℤ → ℤ → Bool} → Kept (bounds r) cells (bounds s) → Grown r cells s
grown_of (more g) = g

none_bounding : (r : Option Rect) → r ≡ None → Bounding (λ _ _. false) r
none_bounding r e = record {
  all = λ x y h. absurd h;
  least = λ q h x y i. absurd (subst (λ o. T (held o x y)) e i);
  empty = λ h. e;
  none = λ h x y t. t;
}

false_of : (a b : Bool) → (T a → T b) → b ≡ false → a ≡ false
false_of true b f e = absurd (subst T e (f tt))
false_of false b f e = refl

module _ {I : Type 0} (shade : I → ℤ → ℤ → ℕ) (file : List ℕ) {S R : Type 0} (means : S → Meaning) (rest : S → R) where
  -- a run at t over a meter has made some calls and clearings
  pub record Measured (acts : List (MeterCall I)) (t : Progress) (m : Meter S) (replies : List Reply) (t' : Progress) (m' : Meter S) : Type 0 where
    pub reference : Meaning
    pub reached : ℤ → ℤ → Bool
    pub machine : Machine (λ w. w) shade file (begun t (means m.below) (held m.kept)) acts replies (record { run = t'; picture = means m'.below; reference = reference; reached = reached })
    pub bounding : Bounding reached m'.kept
    pub others : rest m'.below ≡ rest m.below

  pub measured-none : (t : Progress) (m : Meter S) (replies : List Reply) → replies ≡ [] → Measured [] t m replies t m
  measured-none t m replies e = subst (λ rs. Measured [] t m rs t m) (sym e) (record {
    reference = means m.below;
    reached = held m.kept;
    machine = none;
    bounding = held_bounding m.kept m.full;
    others = refl;
  })

  module _ (acts : List (MeterCall I)) (t t₁ t₂ : Progress) (m m₁ m₂ : Meter S) (replies : List Reply) (r : Reply) where
    acted : (a : MeterCall I) → Measured acts t m replies t₁ m₁ → Acted means rest shade file t₁ m₁ a r t₂ m₂
        → Measured (acts ++ (a ∷ [])) t m (replies ++ (r ∷ [])) t₂ m₂
    acted (act.Call c) l d =
        let k = d.0 in
        let n = means m₁.below in
        let cells : ℤ → ℤ → Bool = λ x y. l.reached x y || aimed k n x y in
        let picture = marks_picture (λ (m : Meter S). means m.below) (λ (m : Meter S). bounds m.kept) (λ (m : Meter S). rest m.below) k m₁ m₂ d.2 in
        let kept = marks_kept (λ (m : Meter S). means m.below) (λ (m : Meter S). bounds m.kept) (λ (m : Meter S). rest m.below) k m₁ m₂ d.2 in
        let here : Standing = record { run = t₂; picture = after k n; reference = l.reference; reached = cells } in
        let one : Machine (λ w. w) shade file (begun t (means m.below) (held m.kept)) (acts ++ (act.Call c ∷ [])) (replies ++ (r ∷ [])) here
        = machine_push (λ w. w) shade file (act.Call c) r here l.machine (t₂, k, d.1, refl) in
        record {
          reference = l.reference;
          reached = cells;
          machine = subst (λ p. Machine (λ w. w) shade file (begun t (means m.below) (held m.kept)) (acts ++ (act.Call c ∷ [])) (replies ++ (r ∷ [])) (record { run = t₂; picture = p; reference = l.reference; reached = cells })) picture one;
          bounding = grown_bounding l.reached (aimed k n) m₁.kept m₂.kept l.bounding (grown_of kept);
          others = marks_rest (λ (m : Meter S). means m.below) (λ (m : Meter S). bounds m.kept) (λ (m : Meter S). rest m.below) k m₁ m₂ d.2 ∙ l.others;
        }
    acted act.Clear l d =
        let n = means m₁.below in
        let here : Standing = record { run = t₁; picture = n; reference = n; reached = λ _ _. false } in
        let one : Machine (λ w. w) shade file (begun t (means m.below) (held m.kept)) (acts ++ (act.Clear ∷ [])) (replies ++ (r ∷ [])) here
        = machine_push (λ w. w) shade file act.Clear r here l.machine (d.0, refl) in
        record {
          reference = n;
          reached = λ _ _. false;
          machine = subst (λ u. Machine (λ w. w) shade file (begun t (means m.below) (held m.kept)) (acts ++ (act.Clear ∷ [])) (replies ++ (r ∷ [])) (record { run = u; picture = means m₂.below; reference = n; reached = λ _ _. false })) (sym d.1)
              (subst (λ b. Machine (λ w. w) shade file (begun t (means m.below) (held m.kept)) (acts ++ (act.Clear ∷ [])) (replies ++ (r ∷ [])) (record { run = t₁; picture = means b; reference = n; reached = λ _ _. false })) (sym d.2) one);
          bounding = none_bounding m₂.kept d.3;
          others = ap rest d.2 ∙ l.others;
        }

  -- one more
  pub measured-next : (file' : List ℕ) (acts acts' : List (MeterCall I)) (t t₁ t₂ : Progress) (m m₁ m₂ : Meter S) (replies replies' : List Reply) (a : MeterCall I) (r : Reply)
      → Measured acts t m replies t₁ m₁ → file' ≡ file → Acted means rest shade file' t₁ m₁ a r t₂ m₂
      → acts' ≡ acts ++ (a ∷ []) → replies' ≡ replies ++ (r ∷ []) → Measured acts' t m replies' t₂ m₂
  measured-next file' acts acts' t t₁ t₂ m m₁ m₂ replies replies' a r l f d ea er =
      subst (λ made. Measured made t m replies' t₂ m₂) (sym ea) (subst (λ rs. Measured (acts ++ (a ∷ [])) t m rs t₂ m₂) (sym er)
      (acted acts t t₁ t₂ m m₁ m₂ replies r a l (subst (λ b. Acted means rest shade b t₁ m₁ a r t₂ m₂) f d)))

  pub measured_metered : (acts : List (MeterCall I)) (t : Progress) (m : Meter S) (replies : List Reply) (t' : Progress) (m' : Meter S) → (means m.below).depth ≤ 16
      → Measured acts t m replies t' m' → Metered means rest shade file acts t m.below m.kept replies t' m'.below m'.kept
  measured_metered acts t m replies t' m' d l =
      let led = leads shade file t (means m.below) (held m.kept) (record { run = t'; picture = means m'.below; reference = l.reference; reached = l.reached }) d l.machine in
      record {
        reference = l.reference;
        reached = l.reached;
        led = led;
        bounds = l.bounding;
        outside = λ x y e. led.unreached x y (false_of (l.reached x y) (held m'.kept x y) (l.bounding.all x y) e);
        others = l.others;
      }
