use Rattle.std.proofs.Common.{sym, ◌∙◌}
use Rattle.std.proofs.lemmas.Bool.{cond-true}
use Rattle.surface.proofs.Strokes.{drawn_shown}
use Rattle.drawing.proofs.Performing.{performed}
use Rattle.drawing.proofs.painting.blend.Goals as goal

pub returns : goal.returns
returns g c =
    performed _ _ _ _ _ _ _ _ (cond-true _ _ _ (sym c.in_range.ensures ∙ c.if-not-in_range.false))
    (drawn_shown _ _ _ _ _ _ _ _ _ _ _ (g.met.S.Surface.sound c.args.surface.now) c.width.ensures c.height.ensures c.visible-rect.ensures.cells c.blend.ensures)
