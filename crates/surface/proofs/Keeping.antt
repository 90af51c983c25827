-- What is kept, over several sets of cells.
use Rattle.std.proofs.Common.{◌≡◌, Bool, true, false, ◌&&◌, ◌||◌, T, ℤ, Option, refl, ◌∙◌, subst}
use mathlib.Core.Path.{fun_ext}
use Rattle.surface.specs.declared.rect.Rect.{Rect}
use Rattle.surface.specs.Rects.{Grown, Keep, nothing, bounds, Kept, still, more}

abbrev pub both : (ℤ → ℤ → Bool) → (ℤ → ℤ → Bool) → ℤ → ℤ → Bool
both a b x y = a x y || b x y

pub or_left : (a b : Bool) → T a → T (a || b)
or_left true b t = tt
or_left false b t = absurd t

pub or_right : (a b : Bool) → T b → T (a || b)
or_right true b t = tt
or_right false b t = t

pub or_out : {P : Type 0} (a b : Bool) → (T a → P) → (T b → P) → T (a || b) → P
or_out true b f g t = f tt
or_out false b f g t = g t

-- one set after another
pub grown_both : {r s t : Option Rect} (A B : ℤ → ℤ → Bool) → Grown r A s → Grown s B t → Grown r (both A B) t
grown_both A B f g = record {
  before = λ x y h. g.before x y (f.before x y h);
  reached = λ x y. or_out (A x y) (B x y) (λ h. g.before x y (f.reached x y h)) (λ h. g.reached x y h);
  least = λ u h k. g.least u (f.least u h (λ x y a. k x y (or_left (A x y) (B x y) a))) (λ x y b. k x y (or_right (A x y) (B x y) b));
  same = λ no. g.same (λ x y b. no x y (or_right (A x y) (B x y) b)) ∙ f.same (λ x y a. no x y (or_left (A x y) (B x y) a));
}

pub kept_both : {i j k : Keep} (A B : ℤ → ℤ → Bool) → Kept i A j → Kept j B k → Kept i (both A B) k
kept_both A B still still = still
kept_both A B (more f) (more g) = more (grown_both A B f g)

-- what is kept by a surface that keeps a rectangle
pub kept_grown : {r s : Option Rect} {A : ℤ → ℤ → Bool} → Kept (bounds r) A (bounds s) → Grown r A s
kept_grown (more g) = g

pub grown_none : (r : Option Rect) (A : ℤ → ℤ → Bool) → ((x y : ℤ) → T (A x y) → ⊥) → Grown r A r
grown_none r A empty = record {
  before = λ x y h. h;
  reached = λ x y h. absurd (empty x y h);
  least = λ t h k. h;
  same = λ _. refl;
}

-- nothing changes where no cell is reached
pub kept_none : (k : Keep) (A : ℤ → ℤ → Bool) → ((x y : ℤ) → T (A x y) → ⊥) → Kept k A k
kept_none nothing A empty = still
kept_none (bounds r) A empty = more (grown_none r A empty)

pub same-rect : (p q : Rect) → p.left ≡ q.left → p.top ≡ q.top → p.right ≡ q.right → p.bottom ≡ q.bottom → p ≡ q
same-rect p q l t r b = λ i. record { left = l i; top = t i; right = r i; bottom = b i }

-- only the cells count, and not how a set is written
pub kept_same : {i k : Keep} (A B : ℤ → ℤ → Bool) → ((x y : ℤ) → A x y ≡ B x y) → Kept i A k → Kept i B k
kept_same {i} {k} A B e h = subst (λ (c : ℤ → ℤ → Bool). Kept i c k) (fun_ext λ x. fun_ext λ y. e x y) h

or_and : (a b o : Bool) → ((a && o) || (b && o)) ≡ ((a || b) && o)
or_and true true true = refl
or_and true true false = refl
or_and true false true = refl
or_and true false false = refl
or_and false b o = refl

-- one drawing after another, where the same cells are open
pub kept_after : {i j k : Keep} (o o' A B : ℤ → ℤ → Bool) → o' ≡ o → Kept i (λ x y. A x y && o x y) j → Kept j (λ x y. B x y && o' x y) k → Kept i (λ x y. (A x y || B x y) && o x y) k
kept_after {i} {j} {k} o o' A B e f g =
    kept_same _ _ (λ x y. or_and (A x y) (B x y) (o x y))
    (kept_both (λ x y. A x y && o x y) (λ x y. B x y && o x y) f (subst (λ (c : ℤ → ℤ → Bool). Kept j (λ x y. B x y && c x y) k) e g))
