-- Lines cell by cell.
use Rattle.std.specs.Prelude.{◌≡◌, ℕ, zero, suc, List, [], ◌∷◌, ◌++◌, pos}
use Rattle.drawing.specs.Lines.{spot}
use Rattle.drawing.specs.declared.shape.Point.{Point}

-- the first n cells of the line from p to q, in their order
abbrev pub cells : Point → Point → ℕ → List Point
cells p q zero = []
cells p q (suc n) = cells p q n ++ (spot p q n ∷ [])

abbrev pub at : ℕ → ℕ → Point
at x y = record { x = pos x; y = pos y }

-- Ties go towards the end, also where the ends are exchanged, and rows and columns change places on a steep line.
abbrev pub Examples : Type 0
Examples =
    (cells (at 0 0) (at 5 2) 5 ≡ (at 0 0 ∷ at 1 0 ∷ at 2 1 ∷ at 3 1 ∷ at 4 2 ∷ []))
    × (cells (at 0 0) (at 4 2) 4 ≡ (at 0 0 ∷ at 1 1 ∷ at 2 1 ∷ at 3 2 ∷ []))
    × (cells (at 4 2) (at 0 0) 4 ≡ (at 4 2 ∷ at 3 1 ∷ at 2 1 ∷ at 1 0 ∷ []))
    × (cells (at 0 0) (at 2 4) 4 ≡ (at 0 0 ∷ at 1 1 ∷ at 1 2 ∷ at 2 3 ∷ []))
