use Rattle.std.proofs.Common.{◌≡◌, ℕ, ◌*◌, ◌<◌, length, slice_index}
use Rattle.metafile.specs.Bytes.{word}
use Rattle.metafile.proofs.decoding.words.Given as goal

-- there are N words, and those before k are read
abbrev pub invariant-loop-k : goal.invariant-loop-k
invariant-loop-k g l = record {
  long : length l.word-items ≡ g.row.N;
  read : (i : ℕ) → i < l.k → slice_index l.word-items i ≡ word l.p (i * 2);
}
