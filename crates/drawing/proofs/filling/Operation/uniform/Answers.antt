use Rattle.std.proofs.Common.{sym, ◌∙◌}
use Rattle.drawing.proofs.Independence.{uniform_is}
use Rattle.drawing.proofs.filling.Operation.uniform.Goals as goal

pub returns : goal.returns
returns g c a b d =
    uniform_is _ _ _ _ _ _ d (sym c.depends_on_picture.ensures ∙ c.if-depends_on_picture.false) c.combine.ensures
    (c.in_ok-solid.ensures a b) (c.in_ok-solid-2.ensures a b)
