-- Cells of spans, strips and rectangles, and pictures that agree cell by cell.
use Rattle.std.proofs.Common.{◌≡◌, ℕ, ◌&&◌, T, ℤ, pos, ◌+ℤ◌, ◌≤ℤ◌, ◌<ℤ◌, sym, ap, subst, inl, inr, arith}
use mathlib.Core.Path.{fun_ext}
use lib.Signed.{le_z, lt_z}
use borrow.Author.Differences.{ints}
use Rattle.std.specs.Int.{int_max, int_min}
use Rattle.std.proofs.lemmas.Int.{clamps}
use Rattle.std.proofs.lemmas.Bool.{cases_Bool}
use Rattle.surface.specs.Meaning.{Meaning, spans, strip, Sound, inside}
use Rattle.surface.specs.Facts.{same, and_out, and_in, spans_out, spans_in}
use Rattle.surface.specs.Rects.{holds}
use Rattle.surface.specs.declared.rect.Rect.{Rect}

-- cell (x, y) is one of the n cells from (a, b) rightwards
pub record On (a b : ℤ) (n : ℕ) (x y : ℤ) : Type 0 where
  pub row : y ≡ b
  pub from : a ≤ℤ x
  pub to : x <ℤ (a +ℤ pos n)

pub on_out : (a b : ℤ) (n : ℕ) (x y : ℤ) → T (strip a b n x y) → On a b n x y
on_out a b n x y t =
    let p = and_out (spans b 1 y) (spans a n x) t in
    let q = and_out (le_z b y) (lt_z y (b +ℤ pos 1)) p.0 in
    let s = and_out (le_z a x) (lt_z x (a +ℤ pos n)) p.1 in
    record { row = omega (arith, ints); from = omega (arith, ints); to = omega (arith, ints) }

pub on_in : (a b : ℤ) (n : ℕ) (x y : ℤ) → On a b n x y → T (strip a b n x y)
on_in a b n x y h =
    and_in (spans b 1 y) (spans a n x)
    (and_in (le_z b y) (lt_z y (b +ℤ pos 1)) (omega (arith, ints)) (omega (arith, ints)))
    (and_in (le_z a x) (lt_z x (a +ℤ pos n)) (omega (arith, ints)) (omega (arith, ints)))

-- cell (x, y) is one of a rectangle's
pub record In (r : Rect) (x y : ℤ) : Type 0 where
  pub left : r.left ≤ℤ x
  pub right : x <ℤ r.right
  pub top : r.top ≤ℤ y
  pub bottom : y <ℤ r.bottom

pub in_out : (r : Rect) (x y : ℤ) → T (holds r x y) → In r x y
in_out r x y t =
    let p = and_out (le_z r.left x && lt_z x r.right) (le_z r.top y && lt_z y r.bottom) t in
    let q = and_out (le_z r.left x) (lt_z x r.right) p.0 in
    let s = and_out (le_z r.top y) (lt_z y r.bottom) p.1 in
    record { left = omega (arith, ints); right = omega (arith, ints); top = omega (arith, ints); bottom = omega (arith, ints) }

pub in_in : (r : Rect) (x y : ℤ) → In r x y → T (holds r x y)
in_in r x y h =
    and_in (le_z r.left x && lt_z x r.right) (le_z r.top y && lt_z y r.bottom)
    (and_in (le_z r.left x) (lt_z x r.right) h.left.le h.right.lt)
    (and_in (le_z r.top y) (lt_z y r.bottom) h.top.le h.bottom.lt)

-- pictures

abbrev pub with_word : Meaning → (ℤ → ℤ → ℕ) → Meaning
with_word m w = record { width = m.width; height = m.height; depth = m.depth; word = w; opens = m.opens }

pub cellwise : (m : Meaning) {w w' : ℤ → ℤ → ℕ} → ((x y : ℤ) → w x y ≡ w' x y) → with_word m w ≡ with_word m w'
cellwise m e = ap (with_word m) (fun_ext λ x. fun_ext λ y. e x y)

-- What is left of the n numbers from x between two bounds: k numbers from a up to e, or none.
pub cut_is : (x low high a e : ℤ) (k n : ℕ) → a ≡ int_max x low → e ≡ int_min (x +ℤ pos n) high → a +ℤ pos k ≡ e → (z : ℤ) → spans a k z ≡ (spans x n z && (le_z low z && lt_z z high))
cut_is x low high a e k n start end size z =
    same (spans a k z) (spans x n z && (le_z low z && lt_z z high))
    (λ t. let p = spans_out a k z t in
    and_in (spans x n z) (le_z low z && lt_z z high) (spans_in x n z (omega (arith, ints, clamps)) (omega (arith, ints, clamps)))
    (and_in (le_z low z) (lt_z z high) (omega (arith, ints, clamps)) (omega (arith, ints, clamps))))
    (λ t. let p = and_out (spans x n z) (le_z low z && lt_z z high) t in
    let s = spans_out x n z p.0 in
    let u = and_out (le_z low z) (lt_z z high) p.1 in
    spans_in a k z (omega (arith, ints, clamps)) (omega (arith, ints, clamps)))

pub none_left : (x low high s e a : ℤ) (n : ℕ) → s ≡ int_max x low → e ≡ int_min (x +ℤ pos n) high → e ≤ℤ s → (z : ℤ) → spans a 0 z ≡ (spans x n z && (le_z low z && lt_z z high))
none_left x low high s e a n start end size z =
    same (spans a 0 z) (spans x n z && (le_z low z && lt_z z high))
    (λ t. let p = spans_out a 0 z t in let no : ⊥ = omega (arith, ints) in absurd no)
    (λ t. let p = and_out (spans x n z) (le_z low z && lt_z z high) t in
    let s = spans_out x n z p.0 in
    let u = and_out (le_z low z) (lt_z z high) p.1 in
    let no : ⊥ = omega (arith, ints, clamps) in absurd no)

-- a stands before b, by at most 65535, and b at most at e
abbrev pub Few : ℤ → ℤ → ℤ → Type 0
Few a b e = (a ≤ℤ b) × (b ≤ℤ (a +ℤ pos 65535)) × (b ≤ℤ e)

-- an open cell lies inside the size
pub open_inside : (m : Meaning) → Sound m → (x y : ℤ) → T (m.opens x y) → T (inside m.width m.height x y)
open_inside m s x y t = elim (cases_Bool (inside m.width m.height x y)) [ inl e ↦ subst T (sym e) tt | inr e ↦ absurd (subst T (s.shut_outside x y e) t) ]
