use Rattle.std.proofs.Common.{arith, w32, SFits, rules}
use Rattle.std.proofs.lemmas.Int.{ints, to_z-of_z}
use Rattle.surface.proofs.Strokes.{drawn-none, drawn_like, swept}
use Rattle.drawing.proofs.Rows.{rect-none, rect-all, fill_step}
use Rattle.drawing.proofs.part.Part.fill.Goals as goal

pub loop-y-init : goal.loop-y-init
loop-y-init g c = (omega (arith, ints), drawn-none _ _ _ _ _ (λ a b. rect-none c.args.self.now.rect _ a b (omega (arith, ints))))

pub loop-y-preserved : goal.loop-y-preserved
loop-y-preserved g c =
    let fl : SFits w32 c.args.self.now.rect.left = search rules in
    let fb : SFits w32 c.args.self.now.rect.bottom = search rules in
    let f = simp (to_z-of_z w32 c.args.self.now.rect.left fl) at c.fill.ensures in (
      omega (arith, ints),
      fill_step c.args.self.now.rect _ _ _ _ _ _ _ _ _ _ _ _ c.breadth-n.result c.loop-y.invariant.0 (simp (to_z-of_z w32 c.args.self.now.rect.bottom fb) at c.loop-y-test.true) (omega (arith, ints)) c.breadth-n.ensures
          c.loop-y.invariant.1 (record { picture = f.picture; kept = f.kept; rest = f.rest }),
    )

pub returns : goal.returns
returns g c =
    let fb : SFits w32 c.args.self.now.rect.bottom = search rules in
    drawn_like _ _ _ _ _ _ _ _ _ (λ a b. swept _ _ _ (rect-all c.args.self.now.rect _ a b (simp to_z-of_z at c.loop-y-test.false))) c.loop-y.invariant.1
