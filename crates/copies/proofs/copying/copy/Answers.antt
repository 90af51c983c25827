use Rattle.std.proofs.Common.{◌&&◌, sym, ◌∙◌, subst}
use Rattle.std.proofs.lemmas.Bool.{and_parts, cond-true}
use Rattle.surface.specs.Rects.{holds}
use Rattle.surface.proofs.Strokes.{drawn_shown}
use Rattle.drawing.specs.Areas.{covers}
use Rattle.drawing.proofs.Performing.{performed, performed_as}
use Rattle.copies.specs.Shifts.{Reached}
use Rattle.copies.proofs.Sources.{area_reached, copied_at, sourceless}
use Rattle.copies.proofs.copying.copy.Goals as goal

pub returns-then-not-depends_on_source : goal.returns-then-not-depends_on_source
returns-then-not-depends_on_source g c =
    performed_as _ _ _ _ _ _ _ _
    (sourceless c.args.pencil.now c.args.area c.args.source c.args.code (g.I.Ink.shade c.args.ink.now) c.in_ok-shift.ensures.0 (sym c.depends_on_source.ensures ∙ c.if-not-depends_on_source.true)) c.blend.ensures

pub invariant_of-copying : goal.invariant_of-copying
invariant_of-copying g c =
    record {
      reached = subst (λ d. Reached (holds c.visible-target.result) d) (sym c.in_ok-shift.ensures.1)
          (area_reached c.args.area c.args.source _ c.in_ok-shift.ensures.0
          (λ a b t. let e = and_parts (covers c.args.area a b && holds c.args.pencil.now.clip a b) _ (sym (c.visible-target.ensures.cells a b) ∙ t) in (and_parts (covers c.args.area a b) _ e.0).0));
    }

pub returns : goal.returns
returns g c =
    performed _ _ _ _ _ _ _ _ (cond-true _ _ _ c.in_ok-shift.ensures.0)
    (drawn_shown _ _ _ _ _ _ _ _ _ _ _ (g.met.S.Surface.sound c.args.surface.now) c.width.ensures c.height.ensures c.visible-target.ensures.cells
    (copied_at _ _ _ _ _ _ _ _ _ _ _ c.in_ok-shift.ensures.1 c.copy_rows.ensures))
