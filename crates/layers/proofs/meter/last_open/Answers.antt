use Rattle.std.proofs.Common.{rules}
use borrow.Author.Tests.{tests}
use Rattle.std.proofs.lemmas.Int.{to_z-of_z}
use Rattle.layers.specs.Rows.{row}
use Rattle.layers.proofs.Finds.{find_back_in_range}
use Rattle.layers.proofs.meter.last_open.Goals as goal

pub returns : goal.returns
returns g c =
    let fy = c.ranges.y in
    let ff = c.ranges.from in
    let ft = c.ranges.to in
    simp (c.rev.ensures.source, to_z-of_z) at (find_back_in_range _ _ _ c.find.result (row c.args.y (g.S.Surface.means c.args.below.now)) c.find.ensures.ran (λ x q k. search (rules, tests)) (λ x q k. search (rules, tests)))
