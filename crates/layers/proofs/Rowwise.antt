-- The open cells of a row, cell by cell.
use Rattle.std.proofs.Common.{◌≡◌, ℕ, Bool, true, ◌&&◌, T, ℤ, pos, ◌+ℤ◌, ◌-ℤ◌, ◌≤ℤ◌, ◌<ℤ◌, sym, refl, subst, arith}
use lib.Signed.{le_z, lt_z}
use borrow.Author.Differences.{ints}
use Rattle.std.proofs.lemmas.Int.{by_lt_z}
use Rattle.std.proofs.lemmas.Bool.{both_ways}
use Rattle.surface.specs.Meaning.{Meaning, Sound, spans, strip}
use Rattle.layers.specs.Bounds.{Ends}
use Rattle.layers.specs.Rows.{row, Shut, First, Last}
use Rattle.layers.proofs.Cells.{on_out, on_in, in_in, open_inside}
use Rattle.surface.specs.Facts.{and_out, and_in, T_true, spans_out, spans_in}

-- the open cells of a strip, where its part inside the size is the k cells from a
module _ (m : Meaning) (sound : Sound m) (x y : ℤ) (n : ℕ) (a : ℤ) (k : ℕ) (part : (z : ℤ) → spans a k z ≡ (spans x n z && (le_z (pos 0) z && lt_z z (pos m.width)))) (from to : ℤ) (low : from ≡ a) (high : to ≡ (a +ℤ pos k)) where
  in_part : (p q : ℤ) → T (strip x y n p q && m.opens p q) → (q ≡ y) × (from ≤ℤ p) × (p <ℤ to) × (m.opens p y ≡ true)
  in_part p q t =
      let u = and_out (strip x y n p q) (m.opens p q) t in
      let o = on_out x y n p q u.0 in
      let i = and_out (spans (pos 0) m.width p) (spans (pos 0) m.height q) (open_inside m sound p q u.1) in
      let w = spans_out (pos 0) m.width p i.0 in
      let z = spans_out a k p (subst T (sym (part p)) (and_in (spans x n p) (le_z (pos 0) p && lt_z p (pos m.width)) (spans_in x n p o.from o.to) (and_in (le_z (pos 0) p) (lt_z p (pos m.width)) (omega (arith, ints)) (omega (arith, ints))))) in
      (o.row, omega (arith, ints), omega (arith, ints), T_true (m.opens p y) (subst (λ q. T (m.opens p q)) o.row u.1))

  part_in : (p : ℤ) → from ≤ℤ p → p <ℤ to → m.opens p y ≡ true → T (strip x y n p y && m.opens p y)
  part_in p h l e =
      let u = spans_out x n p (and_out (spans x n p) (le_z (pos 0) p && lt_z p (pos m.width)) (subst T (part p) (spans_in a k p (omega (arith, ints)) (omega (arith, ints))))).0 in
      and_in (strip x y n p y) (m.opens p y) (on_in x y n p y (record { row = refl; from = u.0; to = u.1 })) (subst T (sym e) tt)

  pub reached-none : Shut (row y m) from to → (p q : ℤ) → T (strip x y n p q && m.opens p q) → ⊥
  reached-none s p q t = let h = in_part p q t in both_ways (m.opens p y) (s p h.1 h.2) h.3

  pub reached-some : (f l r b : ℤ) → First (row y m) from to f → Last (row y m) from to l → r ≡ (l +ℤ pos 1) → b ≡ (y +ℤ pos 1) → Ends (λ p q. strip x y n p q && m.opens p q) (record { left = f; top = y; right = r; bottom = b })
  reached-some f l r b first last right bottom =
      let er : l ≡ (r -ℤ pos 1) = omega (arith, ints) in
      let eb : y ≡ (b -ℤ pos 1) = omega (arith, ints) in
      let cells : ℤ → ℤ → Bool = λ p q. strip x y n p q && m.opens p q in
      record {
        first = part_in f first.low first.high first.here;
        last = subst (λ q. T (cells (r -ℤ pos 1) q)) eb (subst (λ p. T (cells p y)) er (part_in l last.low last.high last.here));
        all = λ p q t.
            let h = in_part p q t in
            let e = h.0 in
            let lo : f ≤ℤ p = by_lt_z p f (λ lt. absurd (both_ways (m.opens p y) (first.others p h.1 lt) h.3)) (λ le. le) in
            let hi : p ≤ℤ l = by_lt_z l p (λ lt. absurd (both_ways (m.opens p y) (last.others p (omega (arith, ints)) h.2) h.3)) (λ le. le) in
            in_in (record { left = f; top = y; right = r; bottom = b }) p q (record { left = lo; right = omega (arith, ints); top = omega (arith, ints); bottom = omega (arith, ints) });
      }

-- the row of an open cell is a small number
pub row_small : (m : Meaning) → Sound m → (x y : ℤ) → m.opens x y ≡ true → (pos 0 ≤ℤ y) × (y <ℤ pos 4096)
row_small m s x y e =
    let i = and_out (spans (pos 0) m.width x) (spans (pos 0) m.height y) (open_inside m s x y (subst T (sym e) tt)) in
    let h = spans_out (pos 0) m.height y i.1 in
    let k = s.high in
    (h.0, omega (arith, ints))
