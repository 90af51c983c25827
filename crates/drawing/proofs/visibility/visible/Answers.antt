use Rattle.std.proofs.Common.{◌&&◌, pos, ◌+ℤ◌, ap, ◌∙◌, w32, SFits, rules}
use Rattle.std.proofs.lemmas.Int.{to_z-of_z}
use Rattle.surface.specs.Meaning.{spans}
use Rattle.drawing.specs.Areas.{between}
use Rattle.drawing.proofs.Cuts.{apart}
use Rattle.drawing.proofs.visibility.visible.Goals as goal

pub returns-clause-cells : goal.returns-clause-cells
returns-clause-cells c =
    let fx : SFits w32 c.args.area.x = search rules in
    let fy : SFits w32 c.args.area.y = search rules in
    let fw : SFits w32 c.args.area.w = search rules in
    let fh : SFits w32 c.args.area.h = search rules in
    let fl : SFits w32 c.args.clip.left = search rules in
    let fr : SFits w32 c.args.clip.right = search rules in
    let ft : SFits w32 c.args.clip.top = search rules in
    let fb : SFits w32 c.args.clip.bottom = search rules in
    let gl : SFits w32 c.cut-columns.result.start = search rules in
    let gr : SFits w32 c.cut-columns.result.end = search rules in
    let gt : SFits w32 c.cut-rows.result.start = search rules in
    let gb : SFits w32 c.cut-rows.result.end = search rules in
    let across = simp to_z-of_z at c.cut-columns.ensures.places in
    let down = simp to_z-of_z at c.cut-rows.ensures.places in
    λ a b. simp to_z-of_z (ap (λ t. t && between c.cut-rows.result.start c.cut-rows.result.end b) (across a)
    ∙ ap (λ t. (between c.args.area.x (c.args.area.x +ℤ c.args.area.w) a && (between c.args.clip.left c.args.clip.right a && spans (pos 0) c.args.width a)) && t) (down b)
    ∙ apart (between c.args.area.x (c.args.area.x +ℤ c.args.area.w) a) (between c.args.area.y (c.args.area.y +ℤ c.args.area.h) b) (between c.args.clip.left c.args.clip.right a)
    (between c.args.clip.top c.args.clip.bottom b) (spans (pos 0) c.args.width a) (spans (pos 0) c.args.height b))
