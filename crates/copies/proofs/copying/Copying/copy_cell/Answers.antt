use Rattle.std.proofs.Common.{◌+ℤ◌, w32, SFits, rules}
use Rattle.std.proofs.lemmas.Int.{to_z-of_z}
use Rattle.surface.proofs.Strokes.{drawn-one}
use Rattle.copies.proofs.Sources.{near_fits, combine_is}
use Rattle.copies.proofs.copying.Copying.copy_cell.Goals as goal

pub returns : goal.returns
returns g c =
    let fx = c.ranges.x in
    let fy = c.ranges.y in
    let dx : SFits w32 c.args.self.now.shift.dx = search rules in
    let dy : SFits w32 c.args.self.now.shift.dy = search rules in
    let sx : SFits w32 (c.args.x +ℤ c.args.self.now.shift.dx) = near_fits _ (c.args.self.now.reached.across c.args.x c.args.y c.requires) in
    let sy : SFits w32 (c.args.y +ℤ c.args.self.now.shift.dy) = near_fits _ (c.args.self.now.reached.down c.args.x c.args.y c.requires) in
    drawn-one _ _ _ _ _ _ _ c.args.x c.args.y _
    (combine_is _ _ _ _ _ _ _ _ c.combine-v.ensures (simp to_z-of_z at c.word.ensures) (simp to_z-of_z at c.word-source.ensures) (simp to_z-of_z at c.word-2.ensures))
    (simp to_z-of_z at c.set.ensures.picture) (simp to_z-of_z at c.set.ensures.kept) c.set.ensures.rest
