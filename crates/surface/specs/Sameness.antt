-- When two surfaces show the same.
use Rattle.std.specs.Prelude.{◌≡◌, ℤ}
use Rattle.surface.specs.Meaning.{Meaning}

-- the words of row y are alike
abbrev pub SameRow : Meaning → Meaning → ℤ → Type 0
SameRow m n y = (x : ℤ) → m.word x y ≡ n.word x y

-- widths, heights and all words are alike
pub record Same (m n : Meaning) : Type 0 where
  pub width : m.width ≡ n.width
  pub height : m.height ≡ n.height
  pub rows : (y : ℤ) → SameRow m n y
