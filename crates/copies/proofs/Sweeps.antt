-- Sweeps over places, and copies in their order.
use Rattle.std.proofs.Common.{◌≡◌, ℕ, Bool, true, false, not, ◌&&◌, ◌||◌, ℤ, pos, ◌+ℤ◌, ◌≤ℤ◌, ◌<ℤ◌, ap, ◌∙◌, refl, arith}
use lib.Signed.{le_z, lt_z}
use Rattle.std.proofs.Math.Bool.{and-or_distrib_right, and_comm}
use Rattle.std.proofs.lemmas.Int.{ints}
use Rattle.std.proofs.lemmas.Bool.{and_parts}
use Rattle.codes.specs.Operations.{combined}
use Rattle.surface.specs.Meaning.{Meaning, spans, strip}
use Rattle.surface.specs.Rects.{Keep}
use Rattle.surface.specs.Drawing.{Drawn}
use Rattle.surface.proofs.Strokes.{Cells, Shades, drawn-more, drawn-word}
use Rattle.drawing.specs.Areas.{between, row}
use Rattle.drawing.specs.Tasks.{copied}
use Rattle.surface.specs.declared.rect.Rect.{Rect}
use Rattle.copies.specs.declared.shift.Shift.{Shift}
use Rattle.copies.specs.Sweeps.{Takes}

-- of the places from l up to r those that are done, where those from s up to e are left
abbrev pub done : ℤ → ℤ → ℤ → ℤ → ℤ → Bool
done l r s e z = between l r z && not (between s e z)

-- a sweep over the places from l up to r that has left those from s up to e
pub record Sweeping (l r : ℤ) (backwards : Bool) (s e : ℤ) : Type 0 where
  pub first : l ≤ℤ s
  pub last : e ≤ℤ r
  pub forth : backwards ≡ false → e ≡ r
  pub back : backwards ≡ true → s ≡ l

-- Place x is done next: it is one that was left, and the place that lies u further is not done before it.
pub record Next (l r u s e x s' e' : ℤ) : Type 0 where
  pub here : between l r x ≡ true
  pub more : (z : ℤ) → done l r s' e' z ≡ (done l r s e z || spans x 1 z)
  pub fresh : (z : ℤ) → spans x 1 z ≡ true → done l r s e z ≡ false
  pub kept : (z : ℤ) → spans x 1 z ≡ true → done l r s e (z +ℤ u) ≡ false

pub sweeps : (l r s e : ℤ) (backwards : Bool) → s ≡ l → e ≡ r → Sweeping l r backwards s e
sweeps l r s e backwards f g = record { first = omega (arith, ints); last = omega (arith, ints); forth = λ _. g; back = λ _. f }

pub none_done : (l r s e z : ℤ) → s ≡ l → e ≡ r → done l r s e z ≡ false
none_done l r s e z f g = grind (arith, ints)

pub no_place : (l r z : ℤ) → le_z r l ≡ true → between l r z ≡ false
no_place l r z h = grind (arith, ints)

pub all_done : (l r s e z : ℤ) → e ≤ℤ s → done l r s e z ≡ between l r z
all_done l r s e z h = grind (arith, ints)

next_forth : (l r u s e x s' e' : ℤ) → pos 0 ≤ℤ u → l ≤ℤ s → e ≡ r → s <ℤ e → x ≡ s → s' ≡ s +ℤ pos 1 → e' ≡ e → Next l r u s e x s' e'
next_forth l r u s e x s' e' n f g h a b c = record {
  here = grind (arith, ints);
  more = λ z. grind (arith, ints);
  fresh = λ z t. grind (arith, ints);
  kept = λ z t. grind (arith, ints);
}

next_back : (l r u s e x s' e' : ℤ) → u <ℤ pos 0 → s ≡ l → e ≤ℤ r → s <ℤ e → s' ≡ s → e' ≡ x → e ≡ x +ℤ pos 1 → Next l r u s e x s' e'
next_back l r u s e x s' e' n f g h a b c = record {
  here = grind (arith, ints);
  more = λ z. grind (arith, ints);
  fresh = λ z t. grind (arith, ints);
  kept = λ z t. grind (arith, ints);
}

not_below : (u : ℤ) → false ≡ lt_z u (pos 0) → pos 0 ≤ℤ u
not_below u h = grind (arith, ints)

below : (u : ℤ) → true ≡ lt_z u (pos 0) → u <ℤ pos 0
below u h = grind (arith, ints)

pub next_is : (l r u s e x s' e' : ℤ) (backwards : Bool) → backwards ≡ lt_z u (pos 0) → Sweeping l r backwards s e → s <ℤ e
    → Takes backwards s e x s' e' → Next l r u s e x s' e'
next_is l r u s e x s' e' false d w h t = next_forth l r u s e x s' e' (not_below u d) w.first (w.forth refl) h t.0 t.1 t.2
next_is l r u s e x s' e' true d w h t = next_back l r u s e x s' e' (below u d) (w.back refl) w.last h t.0 t.1 t.2

pub sweeps_on : (l r s e x s' e' : ℤ) (backwards : Bool) → Sweeping l r backwards s e → s <ℤ e → Takes backwards s e x s' e' → Sweeping l r backwards s' e'
sweeps_on l r s e x s' e' false w h t =
    let f = w.first in
    let k = w.forth refl in
    record { first = omega (arith, ints); last = omega (arith, ints); forth = λ _. omega (arith, ints); back = λ b. absurd cc }
sweeps_on l r s e x s' e' true w h t =
    let f = w.last in
    let k = w.back refl in
    record { first = omega (arith, ints); last = omega (arith, ints); forth = λ b. absurd cc; back = λ _. omega (arith, ints) }

spread : (d p q : Bool) → ((d || p) && q) ≡ ((d && q) || (q && p))
spread d p q = and-or_distrib_right d p q ∙ ap (λ t. (d && q) || t) (and_comm p q)

module _ {R : Type 0} where
  -- a copy and then another, to other cells, from cells that the first left alone
  copied_more : (q r s : Cells) (code : ℕ) (ink : Shades) (u v : ℤ) (m m' m'' : Meaning) (k k' k'' : Keep) (z z' z'' : R)
      → ((a b : ℤ) → q a b ≡ (r a b || s a b)) → ((a b : ℤ) → s a b ≡ true → r a b ≡ false) → ((a b : ℤ) → s a b ≡ true → r (a +ℤ u) (b +ℤ v) ≡ false)
      → Drawn r (copied code ink u v m) m k z m' k' z' → Drawn s (copied code ink u v m') m' k' z' m'' k'' z'' → Drawn q (copied code ink u v m) m k z m'' k'' z''
  copied_more q r s code ink u v m m' m'' k k' k'' z z' z'' split fresh kept so_far =
      let same : (a b : ℤ) → r a b ≡ false → m'.word a b ≡ m.word a b = λ a b. drawn-word r _ m m' k k' z z' a b so_far in
      drawn-more q r s _ _ m m' m'' k k' k'' z z' z'' split
      (λ a b t. ap (λ w. combined code (ink a b) w (m'.word a b)) (same _ _ (kept a b t)) ∙ ap (combined code (ink a b) _) (same a b (fresh a b t))) so_far

  module _ (code : ℕ) (ink : Shades) (d : Shift) (m m' m'' : Meaning) (k k' k'' : Keep) (z z' z'' : R) where
    -- one cell of a row on
    pub cell_step : (l r y s e x s' e' : ℤ) → Next l r d.dx s e x s' e'
        → Drawn (λ a b. done l r s e a && spans y 1 b) (copied code ink d.dx d.dy m) m k z m' k' z' → Drawn (strip x y 1) (copied code ink d.dx d.dy m') m' k' z' m'' k'' z''
        → Drawn (λ a b. done l r s' e' a && spans y 1 b) (copied code ink d.dx d.dy m) m k z m'' k'' z''
    cell_step l r y s e x s' e' n = copied_more _ _ _ code ink d.dx d.dy m m' m'' k k' k'' z z' z''
        (λ a b. ap (λ t. t && spans y 1 b) (n.more a) ∙ spread (done l r s e a) (spans x 1 a) (spans y 1 b))
        (λ a b t. ap (λ t. t && spans y 1 b) (n.fresh a (and_parts (spans y 1 b) (spans x 1 a) t).1))
        (λ a b t. ap (λ t. t && spans y 1 (b +ℤ d.dy)) (n.kept a (and_parts (spans y 1 b) (spans x 1 a) t).1))

    -- one row of a rectangle on
    pub row_step : (q : Rect) (s e y s' e' : ℤ) → Next q.top q.bottom d.dy s e y s' e'
        → Drawn (λ a b. done q.top q.bottom s e b && between q.left q.right a) (copied code ink d.dx d.dy m) m k z m' k' z' → Drawn (row q y) (copied code ink d.dx d.dy m') m' k' z' m'' k'' z''
        → Drawn (λ a b. done q.top q.bottom s' e' b && between q.left q.right a) (copied code ink d.dx d.dy m) m k z m'' k'' z''
    row_step q s e y s' e' n = copied_more _ _ _ code ink d.dx d.dy m m' m'' k k' k'' z z' z''
        (λ a b. ap (λ t. t && between q.left q.right a) (n.more b) ∙ spread (done q.top q.bottom s e b) (spans y 1 b) (between q.left q.right a))
        (λ a b t. ap (λ t. t && between q.left q.right a) (n.fresh b (and_parts (between q.left q.right a) (spans y 1 b) t).1))
        (λ a b t. ap (λ t. t && between q.left q.right (a +ℤ d.dx)) (n.kept b (and_parts (between q.left q.right a) (spans y 1 b) t).1))
