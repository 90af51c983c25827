use Rattle.std.proofs.Common.{◌≡◌, ◌&&◌, pos}
use lib.Signed.{lt_z}
use Rattle.surface.specs.Meaning.{spans}
use Rattle.surface.specs.Drawing.{Draws}
use Rattle.drawing.specs.Tasks.{copied}
use Rattle.copies.proofs.Sweeps.{Sweeping, done}
use Rattle.copies.proofs.copying.Copying.copy_row.Given as goal

abbrev pub invariant-loop-x : goal.invariant-loop-x
invariant-loop-x g l =
    record {
      can : (goal.iterator-loop-x g).can_next l.x-iterator;
      ends : (goal.iterator-loop-x g).is_finite l.x-iterator;
      way : l.x-iterator.backwards ≡ lt_z l.self.shift.dx (pos 0);
      sweeping : Sweeping l.self.target.left l.self.target.right l.x-iterator.backwards l.x-iterator.places.start l.x-iterator.places.end;
      drawn : Draws g.S.Surface.means g.S.Surface.keeps g.S.Surface.rest (λ a b. done l.self.target.left l.self.target.right l.x-iterator.places.start l.x-iterator.places.end a && spans l.y 1 b)
          (copied l.self.code (g.I.Ink.shade l.self.ink.now) l.self.shift.dx l.self.shift.dy) l.initial.surface l.surface;
    }
