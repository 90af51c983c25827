use Rattle.surface.specs.Rects.{still}
use Rattle.std.proofs.Common.{arith, w32, SFits, rules}
use borrow.Author.Differences.{ints}
use Rattle.std.proofs.lemmas.Int.{to_z-of_z}
use Rattle.layers.proofs.Fences.{fence_fills, fence_stays, row_inside}
use Rattle.layers.proofs.fence.FenceSurface.fill.Goals as goal
use Rattle.layers.proofs.fence.FenceSurface.fill.Goals.{else-self-y-via-then-self-y+else-y-self, else-self-y-via-else-self-y}

pub returns-then-y-self-clause-picture : goal.returns-then-y-self-clause-picture
returns-then-y-self-clause-picture g c =
    let fx = c.ranges.x in
    let fy = c.ranges.y in
    let fl : SFits w32 c.args.self.now.rect.left = search rules in
    let fr : SFits w32 c.args.self.now.rect.right = search rules in
    let fs : SFits w32 c.cut-part.result.start = search rules in
    fence_fills _ _ _ _ _ _ _ _ _ _ (simp to_z-of_z at c.fill.ensures.picture) (row_inside _ _ _ _ _ _ (omega (arith, ints)) (omega (arith, ints)) (simp to_z-of_z at c.cut-part.ensures.cells))

pub returns-then-y-self-clause-kept : goal.returns-then-y-self-clause-kept
returns-then-y-self-clause-kept g c = still

pub returns-else-self-y-clause-picture : goal.returns-else-self-y-clause-picture
returns-else-self-y-clause-picture g c =
    fence_stays _ _ _ _ _ _ (λ p q o i. elim c.else-self-y.branch [ else-self-y-via-then-self-y+else-y-self w ↦ omega (arith, ints) | else-self-y-via-else-self-y w ↦ omega (arith, ints) ])

pub returns-else-self-y-clause-kept : goal.returns-else-self-y-clause-kept
returns-else-self-y-clause-kept g c = still
