use Rattle.std.proofs.Common.{refl}
use Rattle.codes.specs.Bits.{of_bits}
use Rattle.codes.specs.Operations.{combined, mixed}
use Rattle.examples.proofs.Lists.{any_pattern, line_listed}
use Rattle.examples.proofs.worked.worked_examples.Goals as goal

pub returns : goal.returns
unfolding combined mixed of_bits
returns c = record {
  all_rows = refl;
  all_rows_called = c.combine.ensures;
  exclusive = any_pattern;
  exclusive_called = c.combine-2.ensures;
  line_exclusive = refl;
  line_exclusive_called = c.mix.ensures;
  gentle = line_listed _ _ _ refl;
  gentle_called = c.line_gently.ensures;
  tied = line_listed _ _ _ refl;
  tied_called = c.line_with_ties.ensures;
  memory = c.paint_block.ensures.memory;
  bounds = c.paint_block.ensures.bounds;
  rows = c.paint_block.ensures.rows;
  copied_right = c.copy_right.ensures;
  copied_left = c.copy_left.ensures;
  planes = c.set_in_planes.ensures;
}
