-- What the layers make of the surface below.
use Rattle.std.specs.Prelude.{◌≡◌, ℕ, Bool, ◌&&◌, ℤ, pos, ◌+ℤ◌, ◌-ℤ◌}
use Rattle.surface.specs.Meaning.{Meaning, drawn, frame}
use Rattle.surface.specs.Rects.{holds}
use Rattle.surface.specs.declared.rect.Rect.{Rect}

-- the same picture, open only inside a rectangle
abbrev pub fenced : Rect → Meaning → Meaning
fenced r m = record {
  width = m.width;
  height = m.height;
  depth = m.depth;
  word = m.word;
  opens = λ x y. holds r x y && m.opens x y;
}

-- the column that a mirror shows at x
abbrev pub across : ℕ → ℤ → ℤ
across w x = pos w -ℤ (x +ℤ pos 1)

-- the picture with left and right exchanged
abbrev pub mirrored : Meaning → Meaning
mirrored m = record {
  width = m.width;
  height = m.height;
  depth = m.depth;
  word = λ x y. m.word (across m.width x) y;
  opens = λ x y. m.opens (across m.width x) y;
}

-- What was drawn through a fence was drawn below, at those of its cells that the rectangle holds.
abbrev pub BelowFence : Type 0
BelowFence = (r : Rect) (m m' : Meaning) (cells : ℤ → ℤ → Bool) (new : ℤ → ℤ → ℕ)
    → frame m' ≡ frame m → fenced r m' ≡ drawn cells new (fenced r m)
    → m' ≡ drawn (λ x y. cells x y && holds r x y) new m

-- What was drawn through a mirror was drawn below, with left and right exchanged.
abbrev pub BelowMirror : Type 0
BelowMirror = (m m' : Meaning) (cells : ℤ → ℤ → Bool) (new : ℤ → ℤ → ℕ)
    → mirrored m' ≡ drawn cells new (mirrored m)
    → m' ≡ drawn (λ x y. cells (across m.width x) y) (λ x y. new (across m.width x) y) m

-- Two mirrors show what lies below.
abbrev pub MirrorOfMirror : Type 0
MirrorOfMirror = (m : Meaning) → mirrored (mirrored m) ≡ m
