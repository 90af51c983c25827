-- What the drawings of the examples come to.
use Rattle.std.specs.Prelude.{ℕ, Bool, ◌&&◌, ℤ, pos, ◌-ℤ◌}
use Rattle.surface.specs.Meaning.{Meaning, drawn}
use Rattle.surface.specs.Rects.{holds}
use Rattle.surface.specs.declared.rect.Rect.{Rect}
use Rattle.codes.specs.declared.mode.LineMode.TheVariants.{CopyPen}
use Rattle.pencil.specs.Pencils.{fresh}
use Rattle.pencil.specs.declared.pen.Pen.TheVariants.{Solid}
use Rattle.pencil.specs.declared.pencil_state.Pencil.{Pencil}
use Rattle.drawing.specs.Areas.{covers}
use Rattle.drawing.specs.Tasks.{blended, copied, mixing}
use Rattle.drawing.specs.Lines.{longer, traced}
use Rattle.drawing.specs.declared.shape.Point.{Point}
use Rattle.lines.specs.Examples.{at}

-- the cells of an area inside the first clip
abbrev pub region : ℤ → ℤ → ℕ → ℕ → ℤ → ℤ → Bool
region x y w h a b = covers (record { x = x; y = y; w = pos w; h = pos h }) a b && holds fresh.clip a b

-- w cells of the first row, copied from column `from` to column `to`
abbrev pub moved : ℕ → ℤ → ℤ → Meaning → Meaning
moved w from to m = drawn (region to (pos 0) w 1) (copied 0xCC (λ _ _. 0) (from -ℤ to) (pos 0) m) m

-- three columns and two rows from (1, 1)
abbrev pub block : ℤ → ℤ → Bool
block = region (pos 1) (pos 1) 3 2

-- the block, painted by the operation that gives ones
abbrev pub painted : Meaning → Meaning
painted m = drawn block (blended 0xFF (λ _ _. 0) (λ _ _. 0) m) m

abbrev pub rect : ℕ → ℕ → ℕ → ℕ → Rect
rect left top right bottom = record { left = pos left; top = pos top; right = pos right; bottom = pos bottom }

-- the first pencil with a pen of colour 1
abbrev pub inked : Pencil
inked = record { clip = fresh.clip; pen = Solid 1; mode = fresh.mode; brush = fresh.brush; back = fresh.back }

-- a line from (0, 0) by that pencil
abbrev pub lined : Point → Meaning → Meaning
lined to m = drawn (λ a b. traced (at 0 0) to (longer (at 0 0) to) a b && holds fresh.clip a b) (mixing CopyPen 1 m) m
