use Rattle.std.proofs.Common.{w32, SFits, rules}
use Rattle.std.proofs.lemmas.Int.{to_z-of_z}
use Rattle.lines.proofs.Traces.{missed_across, missed_down}
use Rattle.lines.proofs.segment.Segment.misses.Goals as goal

pub returns-then-misses : goal.returns-then-misses
returns-then-misses c t =
    let fx : SFits w32 c.args.self.now.from.x = search rules in
    let tx : SFits w32 c.args.self.now.to.x = search rules in
    let l : SFits w32 c.args.rect.left = search rules in
    let r : SFits w32 c.args.rect.right = search rules in
    missed_across c.args.self.now.from c.args.self.now.to c.args.rect (simp to_z-of_z at (c.misses.ensures t))

pub returns-else-misses : goal.returns-else-misses
returns-else-misses c t =
    let fy : SFits w32 c.args.self.now.from.y = search rules in
    let ty : SFits w32 c.args.self.now.to.y = search rules in
    let l : SFits w32 c.args.rect.top = search rules in
    let r : SFits w32 c.args.rect.bottom = search rules in
    missed_down c.args.self.now.from c.args.self.now.to c.args.rect (simp to_z-of_z at (c.misses-else-misses.ensures t))
