use Rattle.std.proofs.Common.{◌&&◌, subst}
use Rattle.surface.specs.Rects.{Kept, bounds}
use Rattle.examples.specs.Pictures.{block}
use Rattle.examples.proofs.Bounds.{grown_is}
use Rattle.examples.proofs.painting.paint_metered.Goals as goal

pub returns-clause-bounds : goal.returns-clause-bounds
returns-clause-bounds g c =
    let d = simp c.new.ensures at c.paint.ensures in
    grown_is c.new-meter.ensures.kept c.bounds-bounds.ensures
    (subst (λ z. Kept (bounds c.new-meter.result.kept) (λ x y. block x y && (g.S.Surface.means z.now).opens x y) (bounds c.paint.new.surface.kept)) c.new-meter.ensures.below d.1.kept)
