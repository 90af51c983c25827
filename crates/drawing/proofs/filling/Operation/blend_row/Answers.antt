use Rattle.std.proofs.Common.{arith, w32, SFits, rules}
use Rattle.std.proofs.lemmas.Int.{ints, to_z-of_z}
use Rattle.surface.proofs.Strokes.{drawn-none, drawn_like, swept}
use Rattle.drawing.proofs.Rows.{row-none, row-all, blend_cell}
use Rattle.drawing.proofs.filling.Operation.blend_row.Goals as goal

pub loop-x-init : goal.loop-x-init
loop-x-init g c = (omega (arith, ints), drawn-none _ _ _ _ _ (λ a b. row-none _ _ a _))

pub loop-x-preserved : goal.loop-x-preserved
loop-x-preserved g c = (
  omega (arith, ints),
  blend_cell _ _ _ _ _ _ _ _ _ _ _ _ _ _ _ _ _ _ _ c.loop-x.invariant.0 c.loop-x-test.true (omega (arith, ints))
      c.word.ensures c.word-v.ensures c.loop-x.invariant.1
      c.set.ensures.picture c.set.ensures.kept c.set.ensures.rest,
)

pub returns : goal.returns
returns g c =
    let fy = c.ranges.y in
    let l : SFits w32 c.args.area.left = search rules in
    let r : SFits w32 c.args.area.right = search rules in
    drawn_like _ _ _ _ _ _ _ _ _ (λ a b. simp to_z-of_z (swept _ _ _ (row-all _ _ _ _ a b (simp to_z-of_z at c.loop-x-test.false)))) c.loop-x.invariant.1
