use Rattle.std.proofs.Common.{arith}
use Rattle.codes.specs.Bits.{bit}
use Rattle.codes.proofs.Words.{bit-bit_and, bit-bit_xor, chosen}
use Rattle.codes.proofs.mux.choose.Goals as goal

pub returns : goal.returns
returns c k = simp (bit-bit_xor, bit-bit_and) (chosen (bit k c.args.which) (bit k c.args.one) (bit k c.args.zero) (omega arith) (omega arith) (omega arith))
