use Rattle.std.proofs.Common.{w32, SFits, rules}
use Rattle.std.proofs.lemmas.Int.{to_z-of_z}
use Rattle.lines.proofs.Traces.{way_before, way_behind}
use Rattle.lines.proofs.segment.misses.Goals as goal

pub returns-then-max-range : goal.returns-then-max-range
returns-then-max-range c t n h =
    let a = c.ranges.a in
    let b = c.ranges.b in
    let m : SFits w32 c.max.result = search rules in
    let s : SFits w32 c.args.range.start = search rules in
    way_before c.args.a c.args.b c.args.range.start c.args.range.end c.max.result (simp to_z-of_z at c.max.ensures.value) (simp to_z-of_z at t) n h

pub returns-else-max-range : goal.returns-else-max-range
returns-else-max-range c t n h =
    let a = c.ranges.a in
    let b = c.ranges.b in
    let m : SFits w32 c.min.result = search rules in
    let e : SFits w32 c.args.range.end = search rules in
    way_behind c.args.a c.args.b c.args.range.start c.args.range.end c.min.result (simp to_z-of_z at c.min.ensures.value) (simp to_z-of_z at t) n h
