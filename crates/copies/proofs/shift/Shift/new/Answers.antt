use Rattle.std.proofs.Common.{sym, ◌∙◌, w32, SFits, rules}
use Rattle.std.proofs.lemmas.Bool.{and_from}
use Rattle.std.proofs.lemmas.Int.{to_z-of_z}
use Rattle.copies.proofs.Sources.{parts, way_fits}
use Rattle.copies.proofs.shift.Shift.new.Goals as goal

pub overflow_sub-result : goal.overflow_sub-result
overflow_sub-result c =
    let p = parts c.args.area c.args.source (and_from _ _ (sym c.in_range.ensures ∙ c.if-not-in_range.false) (sym c.in_range-else-not-in_range.ensures ∙ c.if-not-in_range-2.false)) in
    let f : SFits w32 c.args.source.x = search rules in
    let a : SFits w32 c.args.area.x = search rules in
    simp to_z-of_z (way_fits c.args.source.x c.args.area.x p.px p.x)

pub overflow_sub-result-2 : goal.overflow_sub-result-2
overflow_sub-result-2 c =
    let p = parts c.args.area c.args.source (and_from _ _ (sym c.in_range.ensures ∙ c.if-not-in_range.false) (sym c.in_range-else-not-in_range.ensures ∙ c.if-not-in_range-2.false)) in
    let f : SFits w32 c.args.source.y = search rules in
    let a : SFits w32 c.args.area.y = search rules in
    simp to_z-of_z (way_fits c.args.source.y c.args.area.y p.py p.y)

pub returns : goal.returns
returns c =
    let h = and_from _ _ (sym c.in_range.ensures ∙ c.if-not-in_range.false) (sym c.in_range-else-not-in_range.ensures ∙ c.if-not-in_range-2.false) in
    let p = parts c.args.area c.args.source h in
    let f : SFits w32 c.args.source.x = search rules in
    let a : SFits w32 c.args.area.x = search rules in
    let g : SFits w32 c.args.source.y = search rules in
    let b : SFits w32 c.args.area.y = search rules in
    let u = way_fits c.args.source.x c.args.area.x p.px p.x in
    let v = way_fits c.args.source.y c.args.area.y p.py p.y in
    (h, simp to_z-of_z)
