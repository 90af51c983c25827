use Rattle.std.proofs.Common.{arith}
use Rattle.lines.proofs.Traces.{aside_of, sides_small}
use Rattle.lines.proofs.course.Course.new.Goals as goal

pub overflow_cast-result-2 : goal.overflow_cast-result-2
overflow_cast-result-2 c =
    let p = sides_small c.args.segment.from c.args.segment.to c.args.segment.placed in
    let w = aside_of c.args.places.start c.short_side-short.result c.long_side-long.result _ _ _ _ (omega arith) (omega arith) c.from.ensures c.from-2.ensures c.from-3.ensures c.from-part.ensures in
    record { fits = omega arith }

pub overflow_mul-result-2 : goal.overflow_mul-result-2
overflow_mul-result-2 c = let p = sides_small c.args.segment.from c.args.segment.to c.args.segment.placed in omega arith

pub invariant_of-result : goal.invariant_of-result
invariant_of-result c =
    let p = sides_small c.args.segment.from c.args.segment.to c.args.segment.placed in
    record {
      sides = (omega arith, omega arith);
      small = (omega arith, omega arith);
      within = omega arith;
      exact = simp (c.short_side-short.ensures, c.long_side-long.ensures) at (aside_of c.args.places.start c.short_side-short.result c.long_side-long.result _ _ _ _ (omega arith) (omega arith) c.from.ensures c.from-2.ensures c.from-3.ensures c.from-part.ensures);
    }
