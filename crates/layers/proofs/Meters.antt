-- What a meter keeps.
use Rattle.std.proofs.Common.{◌≡◌, Bool, true, false, T, ℤ, pos, ◌-ℤ◌, ◌<ℤ◌, Some, None, Option, sym, refl, ap, ◌∙◌, subst, inl, inr, arith}
use lib.Signed.{lt_z}
use borrow.Author.Differences.{ints}
use Rattle.std.proofs.lemmas.Int.{clamps}
use Rattle.std.proofs.lemmas.Bool.{and_from, cases_Bool}
use Rattle.surface.specs.declared.rect.Rect.{Rect}
use Rattle.surface.specs.Facts.{and_out, and_in}
use Rattle.surface.specs.Rects.{Grown, Keep, bounds, Kept, still, more}
use Rattle.surface.proofs.Keeping.{grown_none, same-rect}
use Rattle.layers.specs.Bounds.{solid, hull, joined, Spanned, OneSmallest}
use Rattle.layers.proofs.Cells.{In, in_out, in_in}

-- rectangles as ranges of columns and rows

solid_out : (p : Rect) → solid (Some p) ≡ true → (p.left <ℤ p.right) × (p.top <ℤ p.bottom)
solid_out p e =
    let u = and_out (lt_z p.left p.right) (lt_z p.top p.bottom) (subst T (sym e) tt) in
    (record { lt = u.0 }, record { lt = u.1 })

first_cell : (p : Rect) → p.left <ℤ p.right → p.top <ℤ p.bottom → In p p.left p.top
first_cell p w h = record { left = omega (arith, ints); right = w; top = omega (arith, ints); bottom = h }

last_cell : (p : Rect) → p.left <ℤ p.right → p.top <ℤ p.bottom → In p (p.right -ℤ pos 1) (p.bottom -ℤ pos 1)
last_cell p w h = record { left = omega (arith, ints); right = omega (arith, ints); top = omega (arith, ints); bottom = omega (arith, ints) }

hull-left : (p q : Rect) (x y : ℤ) → In p x y → In (hull p q) x y
hull-left p q x y i = record { left = omega (arith, ints, clamps); right = omega (arith, ints, clamps); top = omega (arith, ints, clamps); bottom = omega (arith, ints, clamps) }

hull-right : (p q : Rect) (x y : ℤ) → In q x y → In (hull p q) x y
hull-right p q x y i = record { left = omega (arith, ints, clamps); right = omega (arith, ints, clamps); top = omega (arith, ints, clamps); bottom = omega (arith, ints, clamps) }

-- what lies between the first and the last cell of q
between : (q t : Rect) → In t q.left q.top → In t (q.right -ℤ pos 1) (q.bottom -ℤ pos 1) → (x y : ℤ) → In q x y → In t x y
between q t a b x y i = record { left = omega (arith, ints); right = omega (arith, ints); top = omega (arith, ints); bottom = omega (arith, ints) }

hull_least : (p q t : Rect) → In t p.left p.top → In t (p.right -ℤ pos 1) (p.bottom -ℤ pos 1) → In t q.left q.top → In t (q.right -ℤ pos 1) (q.bottom -ℤ pos 1) → (x y : ℤ) → In (hull p q) x y → In t x y
hull_least p q t a b c d x y i = record { left = omega (arith, ints, clamps); right = omega (arith, ints, clamps); top = omega (arith, ints, clamps); bottom = omega (arith, ints, clamps) }

-- what is kept once the cells that a rectangle spans were reached
pub grown_joined : (r q : Option Rect) (A : ℤ → ℤ → Bool) → solid r ≡ true → Spanned A q → Grown r A (joined r q)
grown_joined None None A s e = grown_none None A e
grown_joined (Some p) None A s e = grown_none (Some p) A e
grown_joined None (Some q) A s e = record {
  before = λ x y h. absurd h;
  reached = e.all;
  least = λ t h k x y i. in_in t x y (between q t (in_out t _ _ (k _ _ e.first)) (in_out t _ _ (k _ _ e.last)) x y (in_out q x y i));
  same = λ empty. absurd (empty _ _ e.first);
}
grown_joined (Some p) (Some q) A s e =
    let w = solid_out p s in
    record {
      before = λ x y h. in_in (hull p q) x y (hull-left p q x y (in_out p x y h));
      reached = λ x y h. in_in (hull p q) x y (hull-right p q x y (in_out q x y (e.all x y h)));
      least = λ t h k x y i. in_in t x y (hull_least p q t
          (in_out t _ _ (h _ _ (in_in p _ _ (first_cell p w.0 w.1))))
          (in_out t _ _ (h _ _ (in_in p _ _ (last_cell p w.0 w.1))))
          (in_out t _ _ (k _ _ e.first))
          (in_out t _ _ (k _ _ e.last))
          x y (in_out (hull p q) x y i));
      same = λ empty. absurd (empty _ _ e.first);
    }

pub solid-joined : (r q : Option Rect) (A : ℤ → ℤ → Bool) → solid r ≡ true → Spanned A q → solid (joined r q) ≡ true
solid-joined None None A s e = refl
solid-joined (Some p) None A s e = s
solid-joined None (Some q) A s e =
    let a = in_out q _ _ (e.all _ _ e.first) in
    and_from (lt_z q.left q.right) (lt_z q.top q.bottom) (sym (omega (arith, ints))) (sym (omega (arith, ints)))
solid-joined (Some p) (Some q) A s e =
    let w = solid_out p s in
    and_from (lt_z (hull p q).left (hull p q).right) (lt_z (hull p q).top (hull p q).bottom) (sym (omega (arith, ints, clamps))) (sym (omega (arith, ints, clamps)))

-- one outcome

-- two rectangles of the same cells, one of which has a cell
same-cells : (p q : Rect) → p.left <ℤ p.right → p.top <ℤ p.bottom → ((x y : ℤ) → In p x y → In q x y) → ((x y : ℤ) → In q x y → In p x y) → p ≡ q
same-cells p q w h to from =
    let a = to _ _ (first_cell p w h) in
    let b = to _ _ (last_cell p w h) in
    let w' : q.left <ℤ q.right = omega (arith, ints) in
    let h' : q.top <ℤ q.bottom = omega (arith, ints) in
    let c = from _ _ (first_cell q w' h') in
    let d = from _ _ (last_cell q w' h') in
    same-rect p q (omega (arith, ints)) (omega (arith, ints)) (omega (arith, ints)) (omega (arith, ints))

no_cell : (p : Rect) → solid (Some p) ≡ false → (x y : ℤ) → In p x y → ⊥
no_cell p e x y i = subst T e (and_in (lt_z p.left p.right) (lt_z p.top p.bottom) (omega (arith, ints)) (omega (arith, ints)))

grown_one : (r s t : Option Rect) (A : ℤ → ℤ → Bool) → Grown r A s → Grown r A t → s ≡ t
grown_one r None t A f g = f.same f.reached ∙ sym (g.same f.reached)
grown_one r (Some p) None A f g = f.same g.reached ∙ sym (g.same g.reached)
grown_one r (Some p) (Some q) A f g =
    elim (cases_Bool (solid (Some p))) [
      | inl e ↦ let w = solid_out p e in
          ap Some (same-cells p q w.0 w.1
          (λ x y i. in_out q x y (f.least q g.before g.reached x y (in_in p x y i)))
          (λ x y i. in_out p x y (g.least p f.before f.reached x y (in_in q x y i))))
      | inr e ↦ let empty : (x y : ℤ) → T (A x y) → ⊥ = λ x y a. no_cell p e x y (in_out p x y (f.reached x y a)) in
          f.same empty ∙ sym (g.same empty)
    ]

kept_one : {k i j : Keep} {A : ℤ → ℤ → Bool} → Kept k A i → Kept k A j → i ≡ j
kept_one still still = refl
kept_one (more f) (more g) = ap bounds (grown_one _ _ _ _ f g)

pub one-outcome : OneSmallest
one-outcome k i j cells = kept_one
