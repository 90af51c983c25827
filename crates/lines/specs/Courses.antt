-- Lines, place by place.
use Rattle.std.specs.Prelude.{◌≡◌, ℕ, ◌+◌, ◌*◌, ◌<◌, ◌≤◌, true}
use Rattle.surface.specs.Rects.{holds}
use Rattle.surface.specs.declared.rect.Rect.{Rect}
use Rattle.drawing.specs.Lines.{longer, place}
use Rattle.drawing.specs.declared.shape.Point.{Point}

-- how far aside a line is, and the rest of the division
pub record Aside (short long along aside rest : ℕ) : Type 0 where
  pub sum : aside * (2 * long) + rest ≡ 2 * (along * short) + long
  pub small : rest < 2 * long
  pub near : aside ≤ along

-- a line's cells in a rectangle lie from one place along it up to another
pub record Meets (p q : Point) (r : Rect) (first last : ℕ) : Type 0 where
  pub places : (i aside : ℕ) → i < longer p q → holds r (place p q i aside).x (place p q i aside).y ≡ true → (first ≤ i) × (i < last)
  pub end : last ≤ longer p q
