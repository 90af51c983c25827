use Rattle.std.proofs.Common.{◌+◌, ◌*◌, arith}
use Rattle.codes.specs.Bits.{bit}
use Rattle.codes.specs.Operations.{combined}
use Rattle.codes.proofs.Words.{word_is, tree}
use Rattle.codes.proofs.operation.combine.Goals as goal

pub returns : goal.returns
unfolding combined
returns c =
    word_is 16 c.choose-3.result (λ k. bit (4 * bit k c.args.pattern + 2 * bit k c.args.source + bit k c.args.picture) c.args.code) c.choose-3.type_inv
    (λ k h. simp (
      c.choose-3.ensures,
      c.choose-2.ensures,
      c.choose.ensures,
      c.choose-both.ensures,
      c.choose-source_only.ensures,
      c.choose-picture_only.ensures,
      c.choose-neither.ensures,
      c.spread.ensures,
      c.spread-2.ensures,
      c.spread-3.ensures,
      c.spread-4.ensures,
      c.spread-5.ensures,
      c.spread-6.ensures,
      c.spread-7.ensures,
      c.spread-8.ensures,
    )
    (tree (λ j. bit j c.args.code) (bit k c.args.pattern) (bit k c.args.source) (bit k c.args.picture) (omega arith) (omega arith) (omega arith)))
