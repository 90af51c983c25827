-- What a mirror makes of reads and fills.
use Rattle.std.proofs.Common.{◌≡◌, ℕ, ◌%◌, ◌^◌, false, cond, ◌&&◌, T, ℤ, pos, ◌-ℤ◌, sym, ap, ◌∙◌, subst, arith}
use lib.Signed.{le_z, lt_z}
use borrow.Author.Differences.{ints}
use Rattle.surface.specs.Meaning.{Meaning, Sound, spans, strip, inside, filled}
use Rattle.layers.specs.Layers.{across, mirrored}
use Rattle.layers.specs.Sounds.{across-inside}
use Rattle.layers.proofs.Cells.{cellwise, open_inside}
use Rattle.surface.specs.Facts.{same, and_out, and_in, spans_out, spans_in}

-- beside the size a mirror shows nothing
outside-inside : (w h : ℕ) (x y : ℤ) → spans (pos 0) w x ≡ false → inside w h (across w x) y ≡ false
outside-inside w h x y e = across-inside w h x y ∙ ap (λ t. t && spans (pos 0) h y) e

pub blank : (m : Meaning) → Sound m → (x y : ℤ) → spans (pos 0) m.width x ≡ false → 0 ≡ m.word (across m.width x) y
blank m s x y e = sym (s.blank_outside (across m.width x) y (outside-inside m.width m.height x y e))

pub shut : (m : Meaning) → Sound m → (x y : ℤ) → spans (pos 0) m.width x ≡ false → false ≡ m.opens (across m.width x) y
shut m s x y e = sym (s.shut_outside (across m.width x) y (outside-inside m.width m.height x y e))

-- Below, the k cells from a are those that show the cells of the strip inside the size.
pub mirror_fills : (m m' : Meaning) → Sound m → (a b x y : ℤ) (k n v : ℕ) → m' ≡ filled a b k v m → b ≡ y → ((p : ℤ) → spans a k (across m.width p) ≡ (spans x n p && (le_z (pos 0) p && lt_z p (pos m.width)))) → mirrored m' ≡ filled x y n v (mirrored m)
mirror_fills m m' s a b x y k n v e row f =
    ap mirrored (e ∙ ap (λ b. filled a b k v m) row) ∙ cellwise (mirrored m) (λ p q.
    let o = m.opens (across m.width p) q in
    let i = le_z (pos 0) p && lt_z p (pos m.width) in
    ap (λ t. cond t (v % 2 ^ m.depth) (m.word (across m.width p) q)) (rw (f p) (same ((spans y 1 q && (spans x n p && i)) && o) (strip x y n p q && o)
    (λ t. let u = and_out (spans y 1 q && (spans x n p && i)) o t in
    let w = and_out (spans y 1 q) (spans x n p && i) u.0 in
    and_in (strip x y n p q) o (and_in (spans y 1 q) (spans x n p) w.0 (and_out (spans x n p) i w.1).0) u.1)
    (λ t. let u = and_out (strip x y n p q) o t in
    let w = and_out (spans y 1 q) (spans x n p) u.0 in
    let inn : T (inside m.width m.height p q) = subst T (across-inside m.width m.height p q) (open_inside m s (across m.width p) q u.1) in
    let h = spans_out (pos 0) m.width p (and_out (spans (pos 0) m.width p) (spans (pos 0) m.height q) inn).0 in
    let in-width : T i = and_in (le_z (pos 0) p) (lt_z p (pos m.width)) (omega (arith, ints)) (omega (arith, ints)) in
    and_in (spans y 1 q && (spans x n p && i)) o (and_in (spans y 1 q) (spans x n p && i) w.0 (and_in (spans x n p) i w.1 (in-width))) u.1))))

-- the span that shows another
pub across_span : (w : ℕ) (a s : ℤ) (k : ℕ) → a ≡ ((pos w -ℤ s) -ℤ pos k) → (p : ℤ) → spans a k (across w p) ≡ spans s k p
across_span w a s k e p =
    same (spans a k (across w p)) (spans s k p)
    (λ t. let h = spans_out a k (across w p) t in spans_in s k p (omega (arith, ints)) (omega (arith, ints)))
    (λ t. let h = spans_out s k p t in spans_in a k (across w p) (omega (arith, ints)) (omega (arith, ints)))
