use Rattle.std.proofs.Common.{◌≡◌, ◌≤◌, ◌&&◌}
use Rattle.surface.specs.Rects.{holds}
use Rattle.surface.specs.Drawing.{Draws}
use Rattle.drawing.specs.Lines.{traced}
use Rattle.drawing.specs.Tasks.{mixing}
use Rattle.lines.specs.Courses.{Meets}
use Rattle.lines.proofs.tracing.Stroke.trace.Given as goal

-- the cells before the next place are drawn
abbrev pub invariant-loop-at : goal.invariant-loop-at
invariant-loop-at g l =
    record {
      can : (goal.iterator-loop-at g).can_next l.at-iterator;
      ends : (goal.iterator-loop-at g).is_finite l.at-iterator;
      segment : l.at-iterator.segment ≡ l.fn.segment;
      end : l.at-iterator.places.end ≡ l.initial.at-iterator.places.end;
      meets : Meets l.fn.segment.from l.fn.segment.to l.self.rect l.initial.at-iterator.places.start l.initial.at-iterator.places.end;
      within : l.at-iterator.places.start ≤ l.at-iterator.places.end;
      drawn : Draws g.S.Surface.means g.S.Surface.keeps g.S.Surface.rest
          (λ a b. traced l.fn.segment.from l.fn.segment.to l.at-iterator.places.start a b && holds l.self.rect a b)
          (mixing l.self.mode l.self.colour) l.initial.surface l.surface;
    }
