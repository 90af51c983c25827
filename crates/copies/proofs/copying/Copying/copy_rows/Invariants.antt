use Rattle.std.proofs.Common.{◌≡◌, ◌&&◌, pos}
use lib.Signed.{lt_z}
use Rattle.surface.specs.Drawing.{Draws}
use Rattle.drawing.specs.Areas.{between}
use Rattle.drawing.specs.Tasks.{copied}
use Rattle.copies.proofs.Sweeps.{Sweeping, done}
use Rattle.copies.proofs.copying.Copying.copy_rows.Given as goal

abbrev pub invariant-loop-y : goal.invariant-loop-y
invariant-loop-y g l =
    record {
      can : (goal.iterator-loop-y g).can_next l.y-iterator;
      ends : (goal.iterator-loop-y g).is_finite l.y-iterator;
      way : l.y-iterator.backwards ≡ lt_z l.self.shift.dy (pos 0);
      sweeping : Sweeping l.self.target.top l.self.target.bottom l.y-iterator.backwards l.y-iterator.places.start l.y-iterator.places.end;
      drawn : Draws g.S.Surface.means g.S.Surface.keeps g.S.Surface.rest (λ a b. done l.self.target.top l.self.target.bottom l.y-iterator.places.start l.y-iterator.places.end b && between l.self.target.left l.self.target.right a)
          (copied l.self.code (g.I.Ink.shade l.self.ink.now) l.self.shift.dx l.self.shift.dy) l.initial.surface l.surface;
    }
