use Rattle.surface.specs.Rects.{still}
use Rattle.std.proofs.lemmas.Int.{to_z-of_z}
use Rattle.layers.proofs.Fences.{fence_fills, fence_stays, one_inside, one_outside}
use Rattle.layers.proofs.fence.FenceSurface.set.Goals as goal

pub returns-then-has-clause-picture : goal.returns-then-has-clause-picture
returns-then-has-clause-picture g c =
    let f = c.ranges.x in
    let h = c.ranges.y in
    fence_fills _ _ (g.S.Surface.means c.set.new.self) _ _ _ _ _ _ _ (simp to_z-of_z at c.set.ensures.picture) (one_inside _ _ _ (simp to_z-of_z at c.if-has.ensures))

pub returns-then-has-clause-kept : goal.returns-then-has-clause-kept
returns-then-has-clause-kept g c = still

pub returns-else-has-clause-picture : goal.returns-else-has-clause-picture
returns-else-has-clause-picture g c =
    let f = c.ranges.x in
    let h = c.ranges.y in
    fence_stays _ (g.S.Surface.means c.args.self.now.below) _ _ _ _ (one_outside _ _ _ (simp to_z-of_z at c.if-has.ensures))

pub returns-else-has-clause-kept : goal.returns-else-has-clause-kept
returns-else-has-clause-kept g c = still
