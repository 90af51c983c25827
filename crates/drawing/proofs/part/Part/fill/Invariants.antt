use Rattle.std.proofs.Common.{◌&&◌, ◌≤ℤ◌}
use lib.Signed.{lt_z}
use Rattle.surface.specs.Rects.{holds}
use Rattle.surface.specs.Drawing.{Draws}
use Rattle.drawing.proofs.part.Part.fill.Given as goal

-- the rows above y are filled
abbrev pub invariant-loop-y : goal.invariant-loop-y
invariant-loop-y g l =
    (l.self.rect.top ≤ℤ l.y)
    × Draws g.S.Surface.means g.S.Surface.keeps g.S.Surface.rest (λ a b. holds l.self.rect a b && lt_z b l.y) (λ _ _ _. l.v) l.initial.surface l.surface
