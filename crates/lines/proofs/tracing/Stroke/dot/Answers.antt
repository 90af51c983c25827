use Rattle.std.proofs.Common.{sym, ap, ◌∙◌, w32, SFits, rules}
use Rattle.std.proofs.lemmas.Int.{to_z-of_z}
use Rattle.codes.specs.Modes.{mode_number}
use Rattle.codes.specs.Operations.{mixed}
use Rattle.surface.specs.Rects.{holds}
use Rattle.surface.proofs.Strokes.{at_set, cell_out, drawn-none, drawn_like, drawn-one, swept}
use Rattle.lines.proofs.tracing.Stroke.dot.Goals as goal
use Rattle.lines.proofs.tracing.Stroke.dot.Goals.{then-has, else-has}

pub returns : goal.returns
returns g c =
    let x : SFits w32 c.args.at.x = search rules in
    let y : SFits w32 c.args.at.y = search rules in
    let h = simp to_z-of_z at c.has.ensures in
    elim c.if-has.branch [
      | then-has w ↦ rw w.surface-is
          (drawn_like _ _ _ _ _ _ _ _ _ (λ a b. sym (swept _ _ _ (λ t. at_set (holds c.args.self.rect) c.args.at.x c.args.at.y a b t ∙ sym h ∙ w.if-has.true)))
          (drawn-one _ _ _ _ _ _ _ c.args.at.x c.args.at.y _ (w.mix-v.ensures ∙ ap (mixed (mode_number c.args.self.mode) c.args.self.colour) (simp to_z-of_z at w.word.ensures))
          (simp to_z-of_z at w.set.ensures.picture) (simp to_z-of_z at w.set.ensures.kept) w.set.ensures.rest))
      | else-has w ↦ rw w.surface-is (drawn-none _ _ _ _ _ (λ a b. cell_out (holds c.args.self.rect) c.args.at.x c.args.at.y a b (sym h ∙ w.if-has.false)))
    ]
