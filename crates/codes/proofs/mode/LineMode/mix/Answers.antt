use Rattle.std.proofs.Common.{◌+◌, ◌-◌, ◌*◌, arith}
use Rattle.codes.specs.Bits.{bit}
use Rattle.codes.specs.Modes.{mode_number}
use Rattle.codes.specs.Operations.{mixed}
use Rattle.codes.proofs.Words.{word_is, fork}
use Rattle.codes.proofs.mode.LineMode.mix.Goals as goal

pub returns : goal.returns
unfolding mixed
returns c =
    word_is 16 c.choose.result (λ k. bit (2 * bit k c.args.pen + bit k c.args.picture) (mode_number c.args.self - 1)) c.choose.type_inv
    (λ k h. simp (c.choose.ensures, c.choose-on.ensures, c.choose-off.ensures, c.spread.ensures, c.spread-2.ensures, c.spread-3.ensures, c.spread-4.ensures, c.saturating_sub-table.ensures, c.number.ensures)
    (fork (λ j. bit j (mode_number c.args.self - 1)) (bit k c.args.pen) (bit k c.args.picture) (omega arith) (omega arith)))
