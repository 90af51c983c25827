use Rattle.std.proofs.Common.{◌∙◌, arith, w32, SFits, rules}
use Rattle.std.proofs.lemmas.Int.{to_z-of_z}
use Rattle.lines.proofs.Traces.{place-long, place_tall}
use Rattle.lines.proofs.segment.Segment.at.Goals as goal

pub returns-then-down-across : goal.returns-then-down-across
returns-then-down-across c =
    let fx : SFits w32 c.args.self.now.from.x = search rules in
    let fy : SFits w32 c.args.self.now.from.y = search rules in
    let tx : SFits w32 c.args.self.now.to.x = search rules in
    let ty : SFits w32 c.args.self.now.to.y = search rules in
    let sx : SFits w32 c.step.result = search rules in
    let sy : SFits w32 c.step-then-down-across.result = search rules in
    place-long c.args.self.now.from c.args.self.now.to c.args.along c.args.aside _ _ (omega arith)
    (to_z-of_z w32 _ sx ∙ simp to_z-of_z at c.step.ensures) (to_z-of_z w32 _ sy ∙ simp to_z-of_z at c.step-then-down-across.ensures)

pub returns-else-down-across : goal.returns-else-down-across
returns-else-down-across c =
    let fx : SFits w32 c.args.self.now.from.x = search rules in
    let fy : SFits w32 c.args.self.now.from.y = search rules in
    let tx : SFits w32 c.args.self.now.to.x = search rules in
    let ty : SFits w32 c.args.self.now.to.y = search rules in
    let sx : SFits w32 c.step-else-down-across.result = search rules in
    let sy : SFits w32 c.step-else-down-across-2.result = search rules in
    place_tall c.args.self.now.from c.args.self.now.to c.args.along c.args.aside _ _ (omega arith)
    (to_z-of_z w32 _ sx ∙ simp to_z-of_z at c.step-else-down-across.ensures) (to_z-of_z w32 _ sy ∙ simp to_z-of_z at c.step-else-down-across-2.ensures)
