use Rattle.std.proofs.Common.{◌∙◌, arith}
use Rattle.std.proofs.lemmas.Nat.Bits.{shr_and_one, bit_at_ones, bit_at-zero}
use Rattle.codes.proofs.mux.spread.Goals as goal

pub returns-then-table-row-eq1 : goal.returns-then-table-row-eq1
returns-then-table-row-eq1 c k h = bit_at_ones 16 k h ∙ omega (arith, shr_and_one c.args.table c.args.row)

pub returns-else-table-row-eq1 : goal.returns-else-table-row-eq1
returns-else-table-row-eq1 c k h = omega (arith, shr_and_one c.args.table c.args.row, bit_at-zero k)
