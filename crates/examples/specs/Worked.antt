-- The worked examples, in one statement.
use Rattle.std.specs.Prelude.{◌≡◌, ℕ, Bool, false, ◌||◌, List, [], ◌∷◌, ℤ, Some}
use Rattle.codes.specs.Operations.{combined, mixed}
use Rattle.surface.specs.Meaning.{strip}
use Rattle.drawing.specs.Lines.{longer, traced}
use Rattle.drawing.specs.declared.shape.Point.{Point}
use Rattle.lines.specs.Examples.{at, cells}
use Rattle.examples.specs.Pictures.{rect}
use Rattle.examples.specs.declared.worked.Worked.{Worked}

-- a cell is one of a list
abbrev pub listed : List Point → ℤ → ℤ → Bool
listed [] a b = false
listed (p ∷ ps) a b = strip p.x p.y 1 a b || listed ps a b

-- the cells of the line from p to q, without its last one, are those of a list, in their order and no other ones
pub record Line (p q : Point) (list : List Point) : Type 0 where
  pub order : cells p q (longer p q) ≡ list
  pub all : (a b : ℤ) → traced p q (longer p q) a b ≡ listed list a b

pub record Examples (r : Worked) : Type 0 where
  -- the raster operation 0xB8 on the pattern, the source and the picture that name its rows
  pub all_rows : combined 0xB8 0xF0 0xCC 0xAA ≡ 0xB8
  pub all_rows_called : r.all_rows ≡ 0xB8
  -- the raster operation 0x66 on the source 5 and the picture 3, with any pattern
  pub exclusive : (p : ℕ) → combined 0x66 p 5 3 ≡ 6
  pub exclusive_called : r.exclusive ≡ 6
  -- line mode 7 on the pen 12 and the word 10
  pub line_exclusive : mixed 7 12 10 ≡ 6
  pub line_exclusive_called : r.line_exclusive ≡ 6
  -- a line, and one with ties; each was drawn in a packed picture of eight columns and three rows
  pub gentle : Line (at 0 0) (at 5 2) (at 0 0 ∷ at 1 0 ∷ at 2 1 ∷ at 3 1 ∷ at 4 2 ∷ [])
  pub gentle_called : r.gentle ≡ 0b1100_0000 ∷ 0b0011_0000 ∷ 0b0000_1000 ∷ []
  pub tied : Line (at 0 0) (at 4 2) (at 0 0 ∷ at 1 1 ∷ at 2 1 ∷ at 3 2 ∷ [])
  pub tied_called : r.tied ≡ 0b1000_0000 ∷ 0b0110_0000 ∷ 0b0001_0000 ∷ []
  -- three columns and two rows from (1, 1), painted in a packed picture of eight columns and four rows, with a meter on top
  pub memory : r.painted.memory ≡ 0x00 ∷ 0x70 ∷ 0x70 ∷ 0x00 ∷ []
  pub bounds : r.painted.bounds ≡ Some (rect 1 1 4 3)
  pub rows : r.painted.rows ≡ 0xFF ∷ 0x8F ∷ 0x8F ∷ 0xFF ∷ []
  -- the row 1 2 3 4 5, of which four cells were copied one to the right, and five cells from the third on to the left
  pub copied_right : r.copied_right ≡ 1 ∷ 1 ∷ 2 ∷ 3 ∷ 4 ∷ []
  pub copied_left : r.copied_left ≡ 3 ∷ 4 ∷ 5 ∷ 0 ∷ 0 ∷ []
  -- eight cells of four planes, of which the first was set to 5
  pub planes : r.planes ≡ 0x80 ∷ 0x00 ∷ 0x80 ∷ 0x00 ∷ []
