use Rattle.std.proofs.Common.{◌≡◌, ◌+◌, ◌-◌, length, arith, rules}
use Rattle.std.proofs.lemmas.List.{places}
use Rattle.raster.proofs.Painting.{part_painted}
use Rattle.raster.proofs.bits.fill_row.Goals as goal

pub returns : goal.returns
returns c =
    let s = c.args.start in
    let n : length c.fill_bits.new.row ≡ s + c.args.bytes - s = search (rules, places) in
    part_painted c.args.memory.now _ s (s + c.args.bytes - s) c.args.columns.start _ _ (omega arith) (omega arith) n c.fill_bits.ensures
