use Rattle.codes.specs.Bits.{of_bits}
use Rattle.codes.specs.Operations.{combined}
use Rattle.examples.proofs.Cells.{row_of}
use Rattle.examples.proofs.copying.copy_left.Goals as goal

pub returns : goal.returns
unfolding combined of_bits
returns c = row_of _ _ c.shift.auto.memory c.shift.ensures.row c.shift.ensures.bytes
