-- Pens and brushes by their published styles, and the words that a brush gives.
use Rattle.std.specs.Prelude.{◌≡◌, ℕ, ◌<◌, ◌⊎◌, ℤ, pos, ◌≢◌}
use Rattle.ink.specs.Hatches.{style_number, hatched}
use Rattle.pencil.specs.declared.brush.Brush.{Brush}
use Rattle.pencil.specs.declared.brush.Brush.TheVariants as brush
use Rattle.pencil.specs.declared.brush.BrushInk.{BrushInk}
use Rattle.pencil.specs.declared.brush.BrushInk.TheVariants as ink
use Rattle.pencil.specs.declared.pen.Pen.{Pen}
use Rattle.pencil.specs.declared.pen.Pen.TheVariants as pen

-- a pen's width may be 0 or 1
abbrev pub Thin : ℤ → Type 0
Thin width = (width ≡ pos 0) ⊎ (width ≡ pos 1)

-- the pen of a style, a width and a colour
abbrev pub PenIs : ℕ → ℤ → ℕ → Pen → Type 0
PenIs style width colour (pen.Solid c) = (style ≡ 0) × Thin width × (c ≡ colour)
PenIs style width colour pen.Null = (style ≡ 5) × Thin width

-- there is no pen of this style and width
abbrev pub NoPen : ℕ → ℤ → Type 0
NoPen style width = Thin width → (style ≢ 0) × (style ≢ 5)

-- the brush of a style, a colour and a hatch
abbrev pub BrushIs : ℕ → ℕ → ℕ → Brush → Type 0
BrushIs style colour hatch (brush.Solid c) = (style ≡ 0) × (c ≡ colour)
BrushIs style colour hatch (brush.Hatched s c) = (style ≡ 2) × (style_number s ≡ hatch) × (c ≡ colour)

-- there is no brush of this style and hatch
abbrev pub NoBrush : ℕ → ℕ → Type 0
NoBrush style hatch = (style ≢ 0) × (style ≡ 2 → hatch < 6 → ⊥)

-- the ink of a brush over a back colour
abbrev pub brushed : Brush → ℕ → BrushInk
brushed (brush.Solid c) back = ink.Solid (record { 0 = c })
brushed (brush.Hatched s c) back = ink.Hatched (record { style = s; line = c; back = back })

-- its word at each cell
abbrev pub inked : BrushInk → ℤ → ℤ → ℕ
inked (ink.Solid s) x y = s.0
inked (ink.Hatched h) x y = hatched h x y
