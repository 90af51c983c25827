use Rattle.std.proofs.Common.{◌≡◌, true, ◌&&◌}
use Rattle.std.proofs.lemmas.Bool.{cond-true}
use Rattle.surface.proofs.Strokes.{drawn_shown}
use Rattle.drawing.specs.Areas.{placed}
use Rattle.drawing.proofs.Performing.{performed}
use Rattle.lines.proofs.Traces.{pen_draws, pen_idle, shown_cells}
use Rattle.lines.proofs.tracing.line.Goals as goal
use Rattle.lines.proofs.tracing.line.Goals.{in-Solid, in_default}

pub returns : goal.returns
returns g c =
    let e = c.in_ok-segment.ensures in
    let p : (placed c.args.from && placed c.args.to) ≡ true = simp (e.0, e.1) at c.in_ok-segment.segment.placed in
    performed _ _ _ _ _ _ c.args.surface.now c.match-pencil.surface (cond-true _ _ _ p)
    (elim c.match-pencil.branch [
      | in_default w ↦ rw w.surface-is (pen_idle c.args.pencil.now.pen _ _ _ _ _ w.in_default.is)
      | in-Solid w ↦ rw w.surface-is
          (pen_draws c.args.pencil.now.pen _ _ _ _ _ _ _ _ _ w.in-Solid.is
          (drawn_shown _ _ _ _ _ _ _ _ _ _ _ (g.met.S.Surface.sound c.args.surface.now) w.width.ensures w.height.ensures
          (λ a b. shown_cells _ _ _ _ (w.shown.ensures a b)) (simp (e.0, e.1) at w.trace.ensures)))
    ])
