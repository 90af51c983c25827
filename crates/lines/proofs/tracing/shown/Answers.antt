use Rattle.std.proofs.Common.{◌&&◌, ap, ◌∙◌, w32, SFits, rules}
use Rattle.std.proofs.lemmas.Int.{to_z-of_z}
use Rattle.surface.specs.Rects.{holds}
use Rattle.lines.proofs.Traces.{overlap-holds, page, page-holds}
use Rattle.lines.proofs.tracing.shown.Goals as goal

pub returns : goal.returns
returns c a b =
    let fr : SFits w32 c.from.result = search rules in
    let fb : SFits w32 c.from-2.result = search rules in
    ap (λ r. holds r a b) (simp to_z-of_z at c.overlap.ensures) ∙ overlap-holds c.args.clip (page c.from.result c.from-2.result) a b
    ∙ ap (λ t. holds c.args.clip a b && t) (page-holds c.from.result c.from-2.result c.args.width c.args.height c.from.ensures c.from-2.ensures a b)
