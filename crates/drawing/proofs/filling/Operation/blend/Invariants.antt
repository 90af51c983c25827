use Rattle.std.proofs.Common.{◌&&◌, ◌≤ℤ◌}
use lib.Signed.{lt_z}
use Rattle.surface.specs.Rects.{holds}
use Rattle.surface.specs.Drawing.{Draws}
use Rattle.drawing.specs.Tasks.{blended}
use Rattle.drawing.proofs.filling.Operation.blend.Given as goal

-- the rows above y are done
abbrev pub invariant-loop-y : goal.invariant-loop-y
invariant-loop-y g l =
    (l.part.rect.top ≤ℤ l.y)
    × Draws g.S.Surface.means g.S.Surface.keeps g.S.Surface.rest (λ a b. holds l.part.rect a b && lt_z b l.y)
    (blended l.self.code (g.P.Ink.shade l.self.pattern.now) (g.Q.Ink.shade l.self.source.now)) l.initial.surface l.surface
