use Rattle.std.proofs.Common.{refl}
use Rattle.drawing.specs.Tasks.{line_task, paint_task, copy_task}
use Rattle.calls.proofs.Draughting.{draughts}
use Rattle.calls.proofs.making.make.Goals as goal

pub returns-in-Step-clause-made : goal.returns-in-Step-clause-made
returns-in-Step-clause-made g c = let d = c.step.ensures.stepped in rw c.in-Step.is (d.0, (c.step.result, refl, d.1), d.2)

pub returns-in-Line-clause-made : goal.returns-in-Line-clause-made
returns-in-Line-clause-made g c = let v = c.in-Line in rw v.is (draughts _ _ _ _ _ _ _ (λ p. line_task p v.from v.to) v.pencil c.line.ensures)

pub returns-in-Paint-clause-made : goal.returns-in-Paint-clause-made
returns-in-Paint-clause-made g c =
    let v = c.in-Paint in
    rw v.is (draughts _ _ _ _ _ _ _ (λ p. paint_task p v.area v.code (g.I.Ink.shade v.ink)) v.pencil c.paint.ensures)

pub returns-in-Copy-clause-made : goal.returns-in-Copy-clause-made
returns-in-Copy-clause-made g c =
    let v = c.in-Copy in
    rw v.is (draughts _ _ _ _ _ _ _ (λ p. copy_task p v.area v.source v.code (g.I.Ink.shade v.ink)) v.pencil c.copy.ensures)
