-- The sources of an area's cells.
use Rattle.std.proofs.Common.{◌≡◌, ℕ, true, false, ◌&&◌, ℤ, ◌+ℤ◌, ◌-ℤ◌, sym, ap, ◌∙◌, subst, arith, w32, SFits}
use mathlib.Core.Path.{fun_ext}
use Rattle.std.proofs.lemmas.Int.{ints}
use Rattle.std.proofs.lemmas.Bool.{and_parts, cond-true}
use Rattle.codes.specs.Operations.{combined, sourced}
use Rattle.codes.specs.declared.refusal.Refusal.TheVariants.{Range}
use Rattle.surface.specs.Rects.{Keep, holds}
use Rattle.surface.specs.Drawing.{Drawn}
use Rattle.surface.specs.Meaning.{Meaning}
use Rattle.surface.proofs.Strokes.{Cells, Shades}
use Rattle.drawing.specs.Areas.{between, coordinate, covers, extent, placed, ranged}
use Rattle.drawing.specs.Tasks.{blended, blend_task, copied, copy_task, draw, refuse}
use Rattle.drawing.proofs.Independence.{unsourced}
use Rattle.pencil.specs.declared.pencil_state.Pencil.{Pencil}
use Rattle.drawing.specs.declared.shape.Area.{Area}
use Rattle.drawing.specs.declared.shape.Point.{Point}
use Rattle.copies.specs.Shifts.{Reached, near, towards}
use Rattle.copies.specs.declared.shift.Shift.{Shift}

pub near_fits : (z : ℤ) → near z ≡ true → SFits w32 z
near_fits z h = grind (arith, ints)

pub way_fits : (s x : ℤ) → coordinate s ≡ true → coordinate x ≡ true → SFits w32 (s -ℤ x)
way_fits s x p q = grind (arith, ints)

near_source : (x n s a : ℤ) → coordinate x ≡ true → extent n ≡ true → coordinate s ≡ true → between x (x +ℤ n) a ≡ true → near (a +ℤ (s -ℤ x)) ≡ true
near_source x n s a p q r h = grind (arith, ints)

-- the numbers of an area and a point that are in range
pub record Parts (r : Area) (p : Point) : Type 0 where
  pub x : coordinate r.x ≡ true
  pub y : coordinate r.y ≡ true
  pub w : extent r.w ≡ true
  pub h : extent r.h ≡ true
  pub px : coordinate p.x ≡ true
  pub py : coordinate p.y ≡ true

pub parts : (r : Area) (p : Point) → (ranged r && placed p) ≡ true → Parts r p
parts r p e =
    let a = and_parts (ranged r) (placed p) e in
    let q = and_parts (coordinate p.x) (coordinate p.y) a.1 in
    let b = and_parts (coordinate r.x && coordinate r.y) (extent r.w && extent r.h) a.0 in
    let c = and_parts (coordinate r.x) (coordinate r.y) b.0 in
    let s = and_parts (extent r.w) (extent r.h) b.1 in
    record { x = c.0; y = c.1; w = s.0; h = s.1; px = q.0; py = q.1 }

-- the sources of an area's cells are near
pub area_reached : (r : Area) (p : Point) (cells : Cells) → (ranged r && placed p) ≡ true → ((a b : ℤ) → cells a b ≡ true → covers r a b ≡ true) → Reached cells (towards r p)
area_reached r p cells e h =
    let s = parts r p e in
    let cover = λ (a b : ℤ) (t : cells a b ≡ true). and_parts (between r.x (r.x +ℤ r.w) a) (between r.y (r.y +ℤ r.h) b) (h a b t) in
    record {
      across = λ a b t. near_source r.x r.w p.x a s.x s.w s.px (cover a b t).0;
      down = λ a b t. near_source r.y r.h p.y b s.y s.h s.py (cover a b t).1;
    }

pub combine_is : (code p s d p' s' d' v : ℕ) → v ≡ combined code p s d → p ≡ p' → s ≡ s' → d ≡ d' → v ≡ combined code p' s' d'
combine_is code p s d p' s' d' v e ep es ed = e ∙ ap (λ p. combined code p s d) ep ∙ ap (λ s. combined code p' s d) es ∙ ap (combined code p' s') ed

-- where the source makes no difference, a copy is a blend without one
pub sourceless : (p : Pencil) (r : Area) (s : Point) (code : ℕ) (shade : ℤ → ℤ → ℕ) → (ranged r && placed s) ≡ true → sourced code ≡ false
    → blend_task p r code shade (λ _ _. 0) ≡ copy_task p r s code shade
sourceless p r s code shade e n =
    let cells : Cells = λ a b. covers r a b && holds p.clip a b in
    let words : blended code shade (λ _ _. 0) ≡ copied code shade (s.x -ℤ r.x) (s.y -ℤ r.y) =
    fun_ext λ m. fun_ext λ a. fun_ext λ b. unsourced code (shade a b) 0 (m.word (a +ℤ (s.x -ℤ r.x)) (b +ℤ (s.y -ℤ r.y))) (m.word a b) n in
    cond-true (ranged r) (draw cells (blended code shade (λ _ _. 0))) (refuse Range) (and_parts (ranged r) (placed s) e).0
    ∙ ap (draw cells) words
    ∙ sym (cond-true (ranged r && placed s) (draw cells (copied code shade (s.x -ℤ r.x) (s.y -ℤ r.y))) (refuse Range) e)

module _ {R : Type 0} where
  pub copied_at : (r : Cells) (code : ℕ) (ink : Shades) (d d' : Shift) (m m' : Meaning) (k k' : Keep) (z z' : R) → d ≡ d'
      → Drawn r (copied code ink d.dx d.dy m) m k z m' k' z' → Drawn r (copied code ink d'.dx d'.dy m) m k z m' k' z'
  copied_at r code ink d d' m m' k k' z z' e = subst (λ d. Drawn r (copied code ink d.dx d.dy m) m k z m' k' z') e
