-- What a surface means: its size, its depth, the word of every cell, and which cells are open.
use Rattle.std.specs.Prelude.{◌≡◌, ℕ, ◌%◌, ◌^◌, ◌<◌, ◌≤◌, Bool, false, cond, ◌&&◌, ℤ, pos, ◌+ℤ◌, int_le, int_lt}

pub record Meaning : Type 0 where
  pub width : ℕ
  pub height : ℕ
  pub depth : ℕ
  pub word : ℤ → ℤ → ℕ
  pub opens : ℤ → ℤ → Bool

-- what no drawing changes
pub record Frame : Type 0 where
  pub width : ℕ
  pub height : ℕ
  pub depth : ℕ
  pub opens : ℤ → ℤ → Bool

abbrev pub frame : Meaning → Frame
frame m = record { width = m.width; height = m.height; depth = m.depth; opens = m.opens }

-- x is one of the n numbers from a upwards
abbrev pub spans : ℤ → ℕ → ℤ → Bool
spans a n x = int_le a x && int_lt x (a +ℤ pos n)

-- cell (x, y) lies inside a picture of this size
abbrev pub inside : ℕ → ℕ → ℤ → ℤ → Bool
inside w h x y = spans (pos 0) w x && spans (pos 0) h y

-- What holds of every surface: its sides are from 1 to 4,096 or both 0, its depth is from 1 to 16, a word has no more bits than the
-- depth, and outside the size every word is 0 and no cell is open.
pub record Sound (m : Meaning) : Type 0 where
  pub wide : m.width ≤ 4096
  pub high : m.height ≤ 4096
  pub no_column : m.height ≡ 0 → m.width ≡ 0
  pub no_row : m.width ≡ 0 → m.height ≡ 0
  pub deep : 1 ≤ m.depth
  pub shallow : m.depth ≤ 16
  pub fits : (x y : ℤ) → m.word x y < 2 ^ m.depth
  pub blank_outside : (x y : ℤ) → inside m.width m.height x y ≡ false → m.word x y ≡ 0
  pub shut_outside : (x y : ℤ) → inside m.width m.height x y ≡ false → m.opens x y ≡ false

-- The one way in which a picture changes: each open cell of a region takes a new word, cut to the depth.
abbrev pub drawn : (ℤ → ℤ → Bool) → (ℤ → ℤ → ℕ) → Meaning → Meaning
drawn region new m = record {
  width = m.width;
  height = m.height;
  depth = m.depth;
  word = λ x y. cond (region x y && m.opens x y) (new x y % 2 ^ m.depth) (m.word x y);
  opens = m.opens;
}

-- the n cells from (a, b) rightwards
abbrev pub strip : ℤ → ℤ → ℕ → ℤ → ℤ → Bool
strip a b n x y = spans b 1 y && spans a n x

abbrev pub filled : ℤ → ℤ → ℕ → ℕ → Meaning → Meaning
filled a b n v m = drawn (strip a b n) (λ _ _. v) m
