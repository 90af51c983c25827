-- Sweeps over the rows of a rectangle and the cells of a row.
use Rattle.std.proofs.Common.{◌≡◌, ℕ, Bool, true, false, ◌&&◌, ◌||◌, ℤ, pos, ◌+ℤ◌, ◌-ℤ◌, ◌≤ℤ◌, sym, refl, ap, ◌∙◌, arith}
use lib.Signed.{lt_z}
use Rattle.std.proofs.Math.Bool.{and_comm}
use Rattle.std.specs.Int.{int_max}
use Rattle.std.proofs.lemmas.Int.{ints}
use Rattle.codes.specs.Operations.{combined}
use Rattle.surface.specs.Meaning.{Meaning, filled, spans, strip}
use Rattle.surface.specs.Rects.{Keep, Kept, holds}
use Rattle.surface.specs.Drawing.{Drawn}
use Rattle.surface.specs.declared.rect.Rect.{Rect}
use Rattle.surface.proofs.Strokes.{Shades, drawn_cell, drawn-more, drawn-word, local_more}
use Rattle.drawing.specs.Areas.{between, row}
use Rattle.drawing.specs.Tasks.{blended}

-- the cells of a row left of x: none, one cell on, and at the end
pub row-none : (l r a : ℤ) (p : Bool) → ((between l r a && p) && lt_z a l) ≡ false
row-none l r a p = grind (arith, ints)

pub row_more : (l r y x x' a b : ℤ) → l ≤ℤ x → lt_z x r ≡ true → x' ≡ x +ℤ pos 1
    → ((between l r a && spans y 1 b) && lt_z a x') ≡ (((between l r a && spans y 1 b) && lt_z a x) || strip x y 1 a b)
row_more l r y x x' a b h t e = grind (arith, ints)

pub row-all : (l r y x a b : ℤ) → lt_z x r ≡ false → (between l r a && spans y 1 b) ≡ true → lt_z a x ≡ true
row-all l r y x a b t h = grind (arith, ints)

-- the cells of a rectangle above row y: none, one row on, and at the end
pub rect-none : (s : Rect) (y a b : ℤ) → y ≡ s.top → (holds s a b && lt_z b y) ≡ false
rect-none s y a b e = grind (arith, ints)

pub rect_more : (s : Rect) (y y' a b : ℤ) → s.top ≤ℤ y → lt_z y s.bottom ≡ true → y' ≡ y +ℤ pos 1
    → (holds s a b && lt_z b y') ≡ ((holds s a b && lt_z b y) || row s y a b)
rect_more s y y' a b h t e = grind (arith, ints)

pub rect-fresh : (s : Rect) (y a b : ℤ) → row s y a b ≡ true → (holds s a b && lt_z b y) ≡ false
rect-fresh s y a b h = grind (arith, ints)

pub rect-all : (s : Rect) (y a b : ℤ) → lt_z y s.bottom ≡ false → holds s a b ≡ true → lt_z b y ≡ true
rect-all s y a b t h = grind (arith, ints)

-- a strip over all columns of a rectangle
columns : (l r a : ℤ) (n : ℕ) → pos n ≡ int_max (r -ℤ l) (pos 0) → spans l n a ≡ between l r a
columns l r a n e = grind (arith, ints)

strip-row : (s : Rect) (y a b : ℤ) (n : ℕ) → pos n ≡ int_max (s.right -ℤ s.left) (pos 0) → row s y a b ≡ strip s.left y n a b
strip-row s y a b n e = and_comm (between s.left s.right a) (spans y 1 b) ∙ ap (λ t. spans y 1 b && t) (sym (columns s.left s.right a n e))

module _ {R : Type 0} where
  -- rows that take one word: one row on
  pub fill_step : (s : Rect) (v : ℕ) (m m' m'' : Meaning) (k k' k'' : Keep) (z z' z'' : R) (y y' : ℤ) (n : ℕ)
      → s.top ≤ℤ y → lt_z y s.bottom ≡ true → y' ≡ y +ℤ pos 1 → pos n ≡ int_max (s.right -ℤ s.left) (pos 0)
      → Drawn (λ a b. holds s a b && lt_z b y) (λ _ _. v) m k z m' k' z'
      → Drawn (strip s.left y n) (λ _ _. v) m' k' z' m'' k'' z''
      → Drawn (λ a b. holds s a b && lt_z b y') (λ _ _. v) m k z m'' k'' z''
  fill_step s v m m' m'' k k' k'' z z' z'' y y' n h t e w =
      drawn-more _ _ _ _ _ m m' m'' k k' k'' z z' z''
      (λ a b. rect_more s y y' a b h t e ∙ ap (λ c. (holds s a b && lt_z b y) || c) (strip-row s y a b n w)) (λ _ _ _. refl)

  -- rows that take the words of a raster operation: one row on
  pub blend_step : (s : Rect) (code : ℕ) (p q : Shades) (m m' m'' : Meaning) (k k' k'' : Keep) (z z' z'' : R) (y y' : ℤ)
      → s.top ≤ℤ y → lt_z y s.bottom ≡ true → y' ≡ y +ℤ pos 1
      → Drawn (λ a b. holds s a b && lt_z b y) (blended code p q m) m k z m' k' z'
      → Drawn (row s y) (blended code p q m') m' k' z' m'' k'' z''
      → Drawn (λ a b. holds s a b && lt_z b y') (blended code p q m) m k z m'' k'' z''
  blend_step s code p q m m' m'' k k' k'' z z' z'' y y' h t e =
      local_more _ _ _ (λ a b d. combined code (p a b) (q a b) d) m m' m'' k k' k'' z z' z'' (λ a b. rect_more s y y' a b h t e) (rect-fresh s y)

  -- a row that takes the words of a raster operation: one cell on
  pub blend_cell : (code : ℕ) (p q : Shades) (m m' m'' : Meaning) (k k' k'' : Keep) (z z' z'' : R) (l r y x x' : ℤ) (d v : ℕ)
      → l ≤ℤ x → lt_z x r ≡ true → x' ≡ x +ℤ pos 1
      → d ≡ m'.word x y → v ≡ combined code (p x y) (q x y) d
      → Drawn (λ a b. (between l r a && spans y 1 b) && lt_z a x) (blended code p q m) m k z m' k' z'
      → m'' ≡ filled x y 1 v m' → Kept k' (λ a b. strip x y 1 a b && m'.opens a b) k'' → z'' ≡ z'
      → Drawn (λ a b. (between l r a && spans y 1 b) && lt_z a x') (blended code p q m) m k z m'' k'' z''
  blend_cell code p q m m' m'' k k' k'' z z' z'' l r y x x' d v h t e ed ev so_far =
      drawn_cell _ _ _ m m' m'' k k' k'' z z' z'' x y v (λ a b. row_more l r y x x' a b h t e)
      (ev ∙ ap (combined code (p x y) (q x y)) (ed ∙ drawn-word _ _ m m' k k' z z' x y so_far (row_here (between l r x && spans y 1 y) x))) so_far
    where
      row_here : (p : Bool) (x : ℤ) → (p && lt_z x x) ≡ false
      row_here p x = grind (arith, ints)
