use Rattle.std.proofs.Common.{refl, arith}
use Rattle.lines.proofs.Traces.{aside_carry, spot_is}
use Rattle.lines.proofs.course.CourseIterator.next.Goals as goal

pub invariant_of-self-then-self : goal.invariant_of-self-then-self
invariant_of-self-then-self c =
    let s = c.args.self.now in
    let i = c.in_ok-along.ensures.steps in
    record {
      sides = s.sides;
      small = s.small;
      within = omega arith;
      exact = rw i.1.2 (aside_carry s.aside s.rest s.places.start _ _ s.rise s.run s.sides.0 s.sides.1 (omega arith) s.exact c.if-self.true);
    }

pub returns-then-self-clause-steps : goal.returns-then-self-clause-steps
returns-then-self-clause-steps c =
    let s = c.args.self.now in
    let i = c.in_ok-along.ensures.steps in
    (refl, i.0, (omega arith, i.1.2, spot_is s.segment.from s.segment.to _ _ _ s.aside s.rest s.exact i.1.1 c.at-cell.ensures))

pub returns-else-self-clause-steps : goal.returns-else-self-clause-steps
returns-else-self-clause-steps c =
    let s = c.args.self.now in
    let i = c.in_ok-along.ensures.steps in
    (refl, i.0, (omega arith, i.1.2, spot_is s.segment.from s.segment.to _ _ _ s.aside s.rest s.exact i.1.1 c.at-cell.ensures))
