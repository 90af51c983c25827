use Rattle.std.proofs.Common.{arith, w32, SFits, rules}
use Rattle.std.proofs.lemmas.Int.{to_z-of_z}
use Rattle.lines.proofs.Traces.{along_across, along_down}
use Rattle.lines.proofs.segment.Segment.stretch.Goals as goal

pub returns-then-down-across : goal.returns-then-down-across
returns-then-down-across c =
    let fx : SFits w32 c.args.self.now.from.x = search rules in
    let fy : SFits w32 c.args.self.now.from.y = search rules in
    let tx : SFits w32 c.args.self.now.to.x = search rules in
    let ty : SFits w32 c.args.self.now.to.y = search rules in
    let rl : SFits w32 c.args.rect.left = search rules in
    let rr : SFits w32 c.args.rect.right = search rules in
    let r = simp to_z-of_z at c.reach.ensures in
    record {
      places = λ i v h t. r.places i (omega arith) (along_across c.args.self.now.from c.args.self.now.to c.args.rect i v (omega arith) t);
      end = omega arith;
    }

pub returns-else-down-across : goal.returns-else-down-across
returns-else-down-across c =
    let fx : SFits w32 c.args.self.now.from.x = search rules in
    let fy : SFits w32 c.args.self.now.from.y = search rules in
    let tx : SFits w32 c.args.self.now.to.x = search rules in
    let ty : SFits w32 c.args.self.now.to.y = search rules in
    let rt : SFits w32 c.args.rect.top = search rules in
    let rb : SFits w32 c.args.rect.bottom = search rules in
    let r = simp to_z-of_z at c.reach-else-down-across.ensures in
    record {
      places = λ i v h t. r.places i (omega arith) (along_down c.args.self.now.from c.args.self.now.to c.args.rect i v (omega arith) t);
      end = omega arith;
    }
