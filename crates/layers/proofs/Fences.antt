-- What a fence makes of sets and fills.
use Rattle.std.proofs.Common.{◌≡◌, ℕ, ◌%◌, ◌^◌, true, false, cond, ◌&&◌, T, ℤ, ◌≤ℤ◌, ◌<ℤ◌, sym, ap, ◌∙◌, subst, arith}
use mathlib.Core.Bool.{and_assoc}
use lib.Signed.{le_z, lt_z}
use borrow.Author.Differences.{ints}
use Rattle.surface.specs.Meaning.{Meaning, spans, strip, filled}
use Rattle.surface.specs.Rects.{holds}
use Rattle.layers.specs.Layers.{fenced}
use Rattle.surface.specs.declared.rect.Rect.{Rect}
use Rattle.layers.proofs.Cells.{cellwise, On, on_out, In, in_out, in_in}
use Rattle.surface.specs.Facts.{same, never, and_out, and_in, spans_out}

-- the cells below are those of the strip inside the fence
pub fence_fills : (r : Rect) (m m' : Meaning) (a b x y : ℤ) (k n v : ℕ) → m' ≡ filled a b k v m → ((p q : ℤ) → strip a b k p q ≡ (strip x y n p q && holds r p q)) → fenced r m' ≡ filled x y n v (fenced r m)
fence_fills r m m' a b x y k n v e f =
    ap (fenced r) e ∙ cellwise (fenced r m) (λ p q. rw (f p q) (ap (λ t. cond t (v % 2 ^ m.depth) (m.word p q)) (and_assoc (strip x y n p q) (holds r p q) (m.opens p q))))

-- no cell of the strip is inside the fence
pub fence_stays : (r : Rect) (m : Meaning) (x y : ℤ) (n v : ℕ) → ((p q : ℤ) → On x y n p q → In r p q → ⊥) → fenced r m ≡ filled x y n v (fenced r m)
fence_stays r m x y n v f =
    cellwise (fenced r m) (λ p q.
    let e : (strip x y n p q && (holds r p q && m.opens p q)) ≡ false = never _ (λ t. let u = and_out (strip x y n p q) (holds r p q && m.opens p q) t in let w = and_out (holds r p q) (m.opens p q) u.1 in f p q (on_out x y n p q u.0) (in_out r p q w.0)) in
    rw e)

pub one_inside : (r : Rect) (x y : ℤ) → true ≡ holds r x y → (p q : ℤ) → strip x y 1 p q ≡ (strip x y 1 p q && holds r p q)
one_inside r x y e p q =
    let h : In r x y = in_out r x y (subst T e tt) in
    same (strip x y 1 p q) (strip x y 1 p q && holds r p q)
    (λ t. let o = on_out x y 1 p q t in and_in (strip x y 1 p q) (holds r p q) t (in_in r p q (record { left = omega (arith, ints); right = omega (arith, ints); top = omega (arith, ints); bottom = omega (arith, ints) })))
    (λ t. (and_out (strip x y 1 p q) (holds r p q) t).0)

pub one_outside : (r : Rect) (x y : ℤ) → false ≡ holds r x y → (p q : ℤ) → On x y 1 p q → In r p q → ⊥
one_outside r x y e p q o h = subst T (sym e) (in_in r x y (record { left = omega (arith, ints); right = omega (arith, ints); top = omega (arith, ints); bottom = omega (arith, ints) }))

pub row_inside : (r : Rect) (a x y : ℤ) (k n : ℕ) → r.top ≤ℤ y → y <ℤ r.bottom → ((z : ℤ) → spans a k z ≡ (spans x n z && (le_z r.left z && lt_z z r.right))) → (p q : ℤ) → strip a y k p q ≡ (strip x y n p q && holds r p q)
row_inside r a x y k n top bottom e p q =
    let sides = le_z r.left p && lt_z p r.right in
    let ends = le_z r.top q && lt_z q r.bottom in
    rw (e p) (same (spans y 1 q && (spans x n p && sides)) (strip x y n p q && holds r p q)
    (λ t. let u = and_out (spans y 1 q) (spans x n p && sides) t in
    let w = and_out (spans x n p) sides u.1 in
    let o = spans_out y 1 q u.0 in
    and_in (strip x y n p q) (holds r p q) (and_in (spans y 1 q) (spans x n p) u.0 w.0)
    (and_in sides ends w.1 (and_in (le_z r.top q) (lt_z q r.bottom) (omega (arith, ints)) (omega (arith, ints)))))
    (λ t. let u = and_out (strip x y n p q) (holds r p q) t in
    let w = and_out (spans y 1 q) (spans x n p) u.0 in
    and_in (spans y 1 q) (spans x n p && sides) w.0 (and_in (spans x n p) sides w.1 (and_out sides ends u.1).0)))
