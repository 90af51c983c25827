-- What the drawing calls come to.
use Rattle.std.specs.Prelude.{◌≡◌, ℕ, Bool, true, false, cond, ◌&&◌, ℤ, ◌+ℤ◌, ◌-ℤ◌, Ok, Err, Result}
use Rattle.codes.specs.Modes.{mode_number}
use Rattle.codes.specs.Operations.{combined, mixed, sourced}
use Rattle.codes.specs.declared.mode.LineMode.{LineMode}
use Rattle.codes.specs.declared.refusal.Refusal.{Refusal}
use Rattle.codes.specs.declared.refusal.Refusal.TheVariants.{Operation, Range}
use Rattle.surface.specs.Meaning.{Meaning}
use Rattle.surface.specs.Rects.{Keep, holds}
use Rattle.surface.specs.Drawing.{Draws}
use Rattle.pencil.specs.declared.pen.Pen.{Pen}
use Rattle.pencil.specs.declared.pen.Pen.TheVariants as pen
use Rattle.pencil.specs.declared.pencil_state.Pencil.{Pencil}
use Rattle.drawing.specs.declared.shape.Area.{Area}
use Rattle.drawing.specs.declared.shape.Point.{Point}
use Rattle.drawing.specs.Areas.{covers, placed, ranged}
use Rattle.drawing.specs.Lines.{longer, traced}

-- What a drawing call comes to: it is refused, or each open cell of a region takes a new word made from the picture before the call.
pub data Task : Type 0 where
  refuse : Refusal → Task
  draw : (ℤ → ℤ → Bool) → (Meaning → ℤ → ℤ → ℕ) → Task

-- A surface before and after a call, and its answer.
abbrev pub Performs : {S R : Type 0} → (S → Meaning) → (S → Keep) → (S → R) → Task → Result (Unit {0}) Refusal → S → S → Type 0
Performs means keeps rest (refuse c) r s s' = (r ≡ Err c) × (s' ≡ s)
Performs means keeps rest (draw region new) r s s' = (r ≡ Ok tt) × Draws means keeps rest region new s s'

-- the words that a line mode gives, from a pen's word and those of the picture
abbrev pub mixing : LineMode → ℕ → Meaning → ℤ → ℤ → ℕ
mixing mode colour m a b = mixed (mode_number mode) colour (m.word a b)

-- the words that a raster operation gives, from a pattern's words, a source's and those of the picture
abbrev pub blended : ℕ → (ℤ → ℤ → ℕ) → (ℤ → ℤ → ℕ) → Meaning → ℤ → ℤ → ℕ
blended code pattern source m a b = combined code (pattern a b) (source a b) (m.word a b)

-- the same where the source is the picture, dx columns and dy rows further
abbrev pub copied : ℕ → (ℤ → ℤ → ℕ) → ℤ → ℤ → Meaning → ℤ → ℤ → ℕ
copied code pattern dx dy m a b = combined code (pattern a b) (m.word (a +ℤ dx) (b +ℤ dy)) (m.word a b)

abbrev pub draws : Pen → Bool
draws (pen.Solid c) = true
draws pen.Null = false

abbrev pub colour : Pen → ℕ
colour (pen.Solid c) = c
colour pen.Null = 0

-- a line from one point up to another, whose cell it leaves out
abbrev pub line_task : Pencil → Point → Point → Task
line_task p from to = cond (placed from && placed to)
    (draw (λ a b. draws p.pen && (traced from to (longer from to) a b && holds p.clip a b)) (mixing p.mode (colour p.pen)))
    (refuse Range)

-- an area, by a raster operation with the words of two inks, a pattern and a source
abbrev pub blend_task : Pencil → Area → ℕ → (ℤ → ℤ → ℕ) → (ℤ → ℤ → ℕ) → Task
blend_task p area code pattern source = cond (ranged area) (draw (λ a b. covers area a b && holds p.clip a b) (blended code pattern source)) (refuse Range)

-- an area, by a raster operation that does not depend on a source, with an ink's words
abbrev pub paint_task : Pencil → Area → ℕ → (ℤ → ℤ → ℕ) → Task
paint_task p area code shade = cond (sourced code) (refuse Operation) (blend_task p area code shade (λ _ _. 0))

-- an area, by a raster operation whose source is the area of the same size from another point
abbrev pub copy_task : Pencil → Area → Point → ℕ → (ℤ → ℤ → ℕ) → Task
copy_task p area source code shade = cond (ranged area && placed source)
    (draw (λ a b. covers area a b && holds p.clip a b) (copied code shade (source.x -ℤ area.x) (source.y -ℤ area.y)))
    (refuse Range)
