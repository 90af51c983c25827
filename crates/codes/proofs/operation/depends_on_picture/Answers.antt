use Rattle.std.proofs.Common.{◌/◌, not, eqb, refl, rules}
use Rattle.std.proofs.lemmas.Bool.{agree_below_at}
use lib.Bits.{bit_and, bit_xor}
use Rattle.codes.specs.Operations.{pictured}
use Rattle.codes.proofs.operation.depends_on_picture.Goals as goal

pub returns : goal.returns
returns c = agree_below_at (λ n. not (eqb (bit_and (bit_xor (n / 2) n) 85) 0)) pictured 256 c.args.code refl (search rules)
