use Rattle.std.proofs.Common.{arith, w32, SFits, rules}
use Rattle.std.proofs.lemmas.Int.{ints, to_z-of_z}
use Rattle.surface.proofs.Strokes.{drawn-none, drawn_like, swept}
use Rattle.drawing.proofs.Rows.{rect-none, rect-all, blend_step}
use Rattle.drawing.proofs.filling.Operation.blend.Goals as goal

pub loop-y-init : goal.loop-y-init
loop-y-init g c = (omega (arith, ints), drawn-none _ _ _ _ _ (λ a b. rect-none c.args.part.now.rect _ a b (omega (arith, ints))))

pub loop-y-preserved : goal.loop-y-preserved
loop-y-preserved g c =
    let fb : SFits w32 c.args.part.now.rect.bottom = search rules in (
      omega (arith, ints),
      blend_step c.args.part.now.rect _ _ _ _ _ _ _ _ _ _ _ _ _ _ c.loop-y.invariant.0 (simp (to_z-of_z w32 c.args.part.now.rect.bottom fb) at c.loop-y-test.true) (omega (arith, ints))
          c.loop-y.invariant.1 c.blend_row.ensures,
    )

pub returns : goal.returns
returns g c =
    let fb : SFits w32 c.args.part.now.rect.bottom = search rules in
    drawn_like _ _ _ _ _ _ _ _ _ (λ a b. swept _ _ _ (rect-all c.args.part.now.rect _ a b (simp to_z-of_z at c.loop-y-test.false))) c.loop-y.invariant.1
