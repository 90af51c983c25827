use Rattle.std.proofs.Common.{◌≡◌, pos, refl, arith, rules}
use borrow.Author.Differences.{ints}
use borrow.Author.Tests.{tests}
use Rattle.surface.proofs.Sames.{whole_row}
use Rattle.surface.proofs.Ranges.{all_in_range}
use Rattle.surface.proofs.sameness.same_row.Goals as goal

pub returns : goal.returns
returns g c =
    let fy = c.ranges.y in
    let m = g.S.Surface.means c.args.a.now in
    let n = g.T.Surface.means c.args.b.now in
    let told = all_in_range _ _ _ c.all.result (λ x. m.word x c.args.y ≡ n.word x c.args.y) c.all.ensures.ran (λ x q k. search (rules, tests)) (λ x q k. search (rules, tests)) in
    (λ t. whole_row m n (g.met.S.Surface.sound _) (g.met.T.Surface.sound _) c.requires c.args.y (pos m.width) refl (λ z p q. told.0 t z p (omega (arith, ints))), λ same. told.1 (λ k p q. same k))
