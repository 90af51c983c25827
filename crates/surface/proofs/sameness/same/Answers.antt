use Rattle.std.proofs.Common.{◌≡◌, pos, refl, arith, rules}
use borrow.Author.Differences.{ints}
use borrow.Author.Tests.{tests}
use Rattle.surface.specs.Sameness.{SameRow}
use Rattle.surface.proofs.Sames.{whole-picture}
use Rattle.surface.proofs.Ranges.{all_in_range}
use Rattle.surface.proofs.sameness.same.Goals as goal

pub returns-then-height : goal.returns-then-height
returns-then-height g c =
    let m = g.S.Surface.means c.args.a.now in
    let n = g.T.Surface.means c.args.b.now in
    let e : m.width ≡ n.width = grind arith in
    let f : m.height ≡ n.height = grind arith in
    let told = all_in_range _ _ _ c.all.result (SameRow m n) c.all.ensures.ran (λ y q k. search (rules, tests)) (λ y q k. search (rules, tests)) in
    (λ t. whole-picture m n (g.met.S.Surface.sound _) (g.met.T.Surface.sound _) e f (pos m.height) refl (λ z p q. told.0 t z p (omega (arith, ints))), λ same. told.1 (λ k p q. same.rows k))
