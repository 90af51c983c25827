-- The bit planes of a picture.
use Rattle.codes.specs.Bits.{bit}
use Rattle.surface.specs.Meaning.{Meaning}
use Rattle.std.specs.Prelude.{ℕ}

-- plane k: bit k of every word, as a picture of depth 1 with the same size and open cells
abbrev pub plane : ℕ → Meaning → Meaning
plane k m = record {
  width = m.width;
  height = m.height;
  depth = 1;
  word = λ x y. bit k (m.word x y);
  opens = m.opens;
}
