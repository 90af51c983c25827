use Rattle.pencil.proofs.brush.BrushInkInk.solid.Goals as goal

pub returns-in-Solid : goal.returns-in-Solid
returns-in-Solid c = simp c.in-Solid.is c.solid.ensures
