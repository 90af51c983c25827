use Rattle.std.proofs.Common.{◌<◌, ◌≢◌, length, arith, get_or-set_other, get_or-set_same, below_more}
use Rattle.std.proofs.Math.ListN.{length-set}
use Rattle.metafile.proofs.decoding.words.Goals as goal

pub loop-k-preserved : goal.loop-k-preserved
loop-k-preserved g c = record {
  long = simp length-set c.loop-k.invariant.long;
  read = below_more _ _
      (λ i h. let ne : i ≢ c.loop-k.k = omega arith in rw get_or-set_other (c.loop-k.invariant.read i h))
      (let lt : c.loop-k.k < length c.loop-k.word-items = omega arith in rw get_or-set_same c.u16_at.ensures);
}

pub returns : goal.returns
returns g c = (omega arith, λ i h. c.loop-k.invariant.read i (omega arith))
