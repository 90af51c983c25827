-- Modes, hatch styles and pen widths by their numbers.
use Rattle.std.proofs.Common.{◌≡◌, ℕ, ◌<◌, ◌≤◌, Bool, true, false, cond, eqb, ltb, ◌⊎◌, ℤ, pos, negsuc, refl, inr, arith}
use Rattle.std.proofs.lemmas.Bool.Decides.{nat_tests}
use Rattle.std.proofs.lemmas.Int.{ints}
use Rattle.codes.specs.Modes.{mode_number}
use Rattle.codes.specs.declared.mode.LineMode.{LineMode}
use Rattle.codes.specs.declared.mode.LineMode.TheVariants.{Black, NotMergePen, MaskNotPen, NotCopyPen, MaskPenNot, Not, XorPen, NotMaskPen, MaskPen, NotXorPen, Nop, MergeNotPen, CopyPen, MergePenNot, MergePen, White}
use Rattle.ink.specs.Hatches.{style_number}
use Rattle.ink.specs.declared.hatch.HatchStyle.{HatchStyle}
use Rattle.ink.specs.declared.hatch.HatchStyle.TheVariants.{Horizontal, Vertical, ForwardDiagonal, BackwardDiagonal, Cross, DiagonalCross}
use Rattle.pencil.specs.Tools.{Thin}

unfoldable pub mode_at : ℕ → LineMode
mode_at n =
    cond (eqb n 1) Black
    (cond (eqb n 2) NotMergePen
    (cond (eqb n 3) MaskNotPen
    (cond (eqb n 4) NotCopyPen
    (cond (eqb n 5) MaskPenNot
    (cond (eqb n 6) Not
    (cond (eqb n 7) XorPen
    (cond (eqb n 8) NotMaskPen
    (cond (eqb n 9) MaskPen
    (cond (eqb n 10) NotXorPen
    (cond (eqb n 11) Nop
    (cond (eqb n 12) MergeNotPen
    (cond (eqb n 13) CopyPen
    (cond (eqb n 14) MergePenNot
    (cond (eqb n 15) MergePen White))))))))))))))

pub mode_back : (m : LineMode) → mode_at (mode_number m) ≡ m
unfolding mode_at
mode_back m = grind (arith, nat_tests)

pub mode_least : (m : LineMode) → 1 ≤ mode_number m
mode_least m = grind arith

pub mode_most : (m : LineMode) → mode_number m ≤ 16
mode_most m = grind arith

pub mode_number-mode_at : (n : ℕ) → 1 ≤ n → n ≤ 16 → mode_number (mode_at n) ≡ n
unfolding mode_at
mode_number-mode_at n l m = grind (arith, nat_tests)

unfoldable pub style_at : ℕ → HatchStyle
style_at n =
    cond (eqb n 0) Horizontal
    (cond (eqb n 1) Vertical
    (cond (eqb n 2) ForwardDiagonal
    (cond (eqb n 3) BackwardDiagonal
    (cond (eqb n 4) Cross DiagonalCross))))

pub style_back : (s : HatchStyle) → style_at (style_number s) ≡ s
unfolding style_at
style_back m = grind (arith, nat_tests)

pub style_most : (s : HatchStyle) → style_number s < 6
style_most m = grind arith

pub style_number-style_at : (n : ℕ) → n < 6 → style_number (style_at n) ≡ n
unfolding style_at
style_number-style_at n h = grind (arith, nat_tests)

abbrev pub thin : ℤ → Bool
thin (pos n) = ltb n 2
thin (negsuc n) = false

pub thin_tells : (z : ℤ) → ((thin z ≡ true) × Thin z) ⊎ ((thin z ≡ false) × (Thin z → ⊥))
thin_tells (pos n) = grind (arith, nat_tests)
thin_tells (negsuc n) = inr (refl, λ h. omega (arith, ints))
