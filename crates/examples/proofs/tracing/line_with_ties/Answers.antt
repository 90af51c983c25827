use Rattle.codes.specs.Bits.{of_bits}
use Rattle.codes.specs.Operations.{mixed}
use Rattle.examples.proofs.Cells.{bit_is}
use Rattle.examples.proofs.Octets.{bytes_are}
use Rattle.examples.proofs.tracing.line_with_ties.Goals as goal

pub returns : goal.returns
unfolding mixed of_bits
returns c = bytes_are _ _ 3 c.trace.auto.memory (bit_is 3 _ _ c.trace.auto.memory c.trace.ensures.picture) c.trace.ensures.bytes
