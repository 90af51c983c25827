use Rattle.std.proofs.Common.{◌&&◌, ◌≤ℤ◌}
use lib.Signed.{lt_z}
use Rattle.surface.specs.Meaning.{spans}
use Rattle.surface.specs.Drawing.{Draws}
use Rattle.drawing.specs.Areas.{between}
use Rattle.drawing.specs.Tasks.{blended}
use Rattle.drawing.proofs.filling.Operation.blend_row.Given as goal

-- the cells of the row left of x are done
abbrev pub invariant-loop-x : goal.invariant-loop-x
invariant-loop-x g l =
    (l.initial.x ≤ℤ l.x)
    × Draws g.S.Surface.means g.S.Surface.keeps g.S.Surface.rest (λ a b. (between l.initial.x l.x-end a && spans l.y 1 b) && lt_z a l.x)
    (blended l.self.code (g.P.Ink.shade l.self.pattern.now) (g.Q.Ink.shade l.self.source.now)) l.initial.surface l.surface
