use Rattle.std.proofs.Common.{w32, w64, SFits, rules}
use Rattle.std.proofs.lemmas.Int.{to_z-of_z}
use Rattle.lines.proofs.Traces.{falling, rising, gap_fits, more-fits, down-first, down-last, up_first, up_last}
use Rattle.lines.proofs.segment.reach.Goals as goal

pub returns-then-b-a-clause-places : goal.returns-then-b-a-clause-places
returns-then-b-a-clause-places c =
    let fa = c.ranges.a in
    let fb = c.ranges.b in
    let fl : SFits w32 c.args.range.start = search rules in
    let fh : SFits w32 c.args.range.end = search rules in
    let ea = simp to_z-of_z at c.from-start.ensures in
    let eh = simp to_z-of_z at c.from.ensures in
    let el = simp to_z-of_z at c.from-then-b-a.ensures in
    let s : SFits w64 c.from-start.result = search rules in
    let h : SFits w64 c.from.result = search rules in
    let l : SFits w64 c.from-then-b-a.result = search rules in
    let gh = gap_fits _ _ c.from-start.result c.from.result fa fh ea eh in
    let gl = gap_fits _ _ c.from-start.result c.from-then-b-a.result fa fl ea el in
    let mh = more-fits _ _ c.from-start.result c.from.result fa fh ea eh in
    let ml = more-fits _ _ c.from-start.result c.from-then-b-a.result fa fl ea el in
    let first = simp to_z-of_z at c.limit.ensures.below in
    let last = simp to_z-of_z at c.limit-then-b-a.ensures.above in
    let down = simp to_z-of_z at c.if-b-a.true in
    λ i k t. let f = falling c.args.a c.args.b c.args.range.start c.args.range.end i down t in
    (first i (down-first _ _ _ _ i ea eh f.1), last i k (down-last _ _ _ _ i ea el f.0))

pub returns-else-b-a-clause-places : goal.returns-else-b-a-clause-places
returns-else-b-a-clause-places c =
    let fa = c.ranges.a in
    let fb = c.ranges.b in
    let fl : SFits w32 c.args.range.start = search rules in
    let fh : SFits w32 c.args.range.end = search rules in
    let ea = simp to_z-of_z at c.from-start.ensures in
    let el = simp to_z-of_z at c.from-else-b-a.ensures in
    let eh = simp to_z-of_z at c.from-else-b-a-2.ensures in
    let s : SFits w64 c.from-start.result = search rules in
    let l : SFits w64 c.from-else-b-a.result = search rules in
    let h : SFits w64 c.from-else-b-a-2.result = search rules in
    let gl = gap_fits _ _ c.from-else-b-a.result c.from-start.result fl fa el ea in
    let gh = gap_fits _ _ c.from-else-b-a-2.result c.from-start.result fh fa eh ea in
    let first = simp to_z-of_z at c.limit-else-b-a.ensures.below in
    let last = simp to_z-of_z at c.limit-else-b-a-2.ensures.above in
    let up = simp to_z-of_z at c.if-b-a.false in
    λ i k t. let f = rising c.args.a c.args.b c.args.range.start c.args.range.end i up t in
    (first i (up_first _ _ _ _ i el ea f.0), last i k (up_last _ _ _ _ i eh ea f.1))
