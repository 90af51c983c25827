-- What a meter keeps of the block.
use Rattle.std.proofs.Common.{◌≡◌, ◌+◌, ◌*◌, Bool, true, ◌&&◌, T, leb, [], ◌∷◌, ℤ, pos, nat_abs, Some, None, Option, sym, subst, arith}
use Rattle.std.proofs.lemmas.Int.{ints}
use Rattle.std.proofs.lemmas.Bool.Decides.{nat_tests}
use Rattle.surface.specs.Facts.{and_out, and_in, spans_out, spans_in}
use Rattle.surface.specs.Meaning.{spans}
use Rattle.surface.specs.Rects.{Kept, Grown, bounds, holds}
use Rattle.surface.specs.Rects.Kept.{more}
use Rattle.surface.specs.declared.rect.Rect.{Rect}
use Rattle.layers.specs.Bounds.{OneSmallest}
use Rattle.raster.specs.Packing.{packed}
use Rattle.pencil.specs.Pencils.{fresh}
use Rattle.examples.specs.Pictures.{block, rect}

-- what is kept from none on
pub grown_is : {k k' r : Option Rect} {cells : ℤ → ℤ → Bool} → k ≡ None → r ≡ k' → Kept (bounds k) cells (bounds k') → Grown None cells r
grown_is {k' = k'} {cells = cells} e f (more h) = subst (λ z. Grown None cells z) (sym f) (subst (λ z. Grown z cells k') e h)

-- the cells of the block that are open in a picture of zeros
abbrev pub reached : ℤ → ℤ → Bool
reached x y = block x y && (packed 8 4 (0 ∷ 0 ∷ 0 ∷ 0 ∷ [])).opens x y

-- all of its cells are
within_block : (x y : ℤ) → T (holds (rect 1 1 4 3) x y) → T (reached x y)
within_block x y h =
    let p = and_out (spans (pos 1) 3 x) (spans (pos 1) 2 y) h in
    let u = spans_out (pos 1) 3 x p.0 in
    let v = spans_out (pos 1) 2 y p.1 in
    let a : T (spans (pos 0) 4096 x) = spans_in (pos 0) 4096 x (omega (arith, ints)) (omega (arith, ints)) in
    let b : T (spans (pos 0) 4096 y) = spans_in (pos 0) 4096 y (omega (arith, ints)) (omega (arith, ints)) in
    let c : T (spans (pos 0) 8 x) = spans_in (pos 0) 8 x (omega (arith, ints)) (omega (arith, ints)) in
    let d : T (spans (pos 0) 4 y) = spans_in (pos 0) 4 y (omega (arith, ints)) (omega (arith, ints)) in
    let e : leb (nat_abs y * 1 + 1) 4 ≡ true = grind (arith, ints, nat_tests) in
    let clip = and_in (spans (pos 0) 4096 x) (spans (pos 0) 4096 y) a b in
    let there = and_in (spans (pos 0) 4 y) (leb (nat_abs y * 1 + 1) 4) d (subst T (sym e) tt) in
    and_in (block x y) _ (and_in (holds (rect 1 1 4 3) x y) _ h clip) (and_in (spans (pos 0) 8 x) _ c there)

-- the smallest rectangle that holds them
pub block_grown : Grown None reached (Some (rect 1 1 4 3))
block_grown = record {
  before = λ x y h. absurd h;
  reached = λ x y h. (and_out (holds (rect 1 1 4 3) x y) (holds fresh.clip x y) (and_out (block x y) ((packed 8 4 (0 ∷ 0 ∷ 0 ∷ 0 ∷ [])).opens x y) h).0).0;
  least = λ t h k x y i. k x y (within_block x y i);
  same = λ empty. absurd (empty (pos 1) (pos 1) tt);
}

-- what a meter keeps of the block is that rectangle
pub block_bounds : OneSmallest → (r : Option Rect) → Grown None reached r → r ≡ Some (rect 1 1 4 3)
block_bounds one r g =
    let e = one (bounds None) (bounds r) (bounds (Some (rect 1 1 4 3))) reached (more g) (more block_grown) in
    cc
