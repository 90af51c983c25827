-- What a picture seen through layers says of the surface below.
use Rattle.std.proofs.Common.{◌≡◌, ℕ, ◌%◌, ◌^◌, Bool, false, cond, ◌&&◌, ℤ, sym, ap, ◌∙◌, ap₂, arith}
use mathlib.Core.Path.{fun_ext}
use mathlib.Core.Bool.{and_assoc}
use borrow.Author.Differences.{ints}
use Rattle.surface.specs.Meaning.{Meaning, Frame}
use Rattle.surface.specs.Rects.{holds}
use Rattle.layers.specs.Layers.{across, mirrored, BelowFence, BelowMirror, MirrorOfMirror}
use Rattle.layers.proofs.Cells.{cellwise}

whole : Frame → (ℤ → ℤ → ℕ) → Meaning
whole f w = record { width = f.width; height = f.height; depth = f.depth; word = w; opens = f.opens }

pub below_fence : BelowFence
unfolding whole
below_fence r m m' q new f e =
    ap₂ whole f (ap (λ t. t.word) e) ∙ cellwise m (λ x y. sym (ap (λ t. cond t (new x y % 2 ^ m.depth) (m.word x y)) (and_assoc (q x y) (holds r x y) (m.opens x y))))

twice : (w : ℕ) → ◌≡◌ {A = ℤ → ℤ} (λ x. across w (across w x)) (λ x. x)
twice w = fun_ext λ x. omega (arith, ints)

-- m with its columns at f, where the cells of a region take new words
abbrev seen : Meaning → (ℤ → ℤ → Bool) → (ℤ → ℤ → ℕ) → (ℤ → ℤ) → Meaning
seen m q new f = record {
  width = m.width;
  height = m.height;
  depth = m.depth;
  word = λ x y. cond (q x y && m.opens (f x) y) (new x y % 2 ^ m.depth) (m.word (f x) y);
  opens = λ x y. m.opens (f x) y;
}

pub below_mirror : BelowMirror
below_mirror m m' q new e =
    sym (ap (seen m' (λ _ _. false) new) (twice m'.width)) ∙ ap mirrored e ∙ ap (seen m (λ x y. q (across m.width x) y) (λ x y. new (across m.width x) y)) (twice m.width)

pub mirror_of_mirror : MirrorOfMirror
mirror_of_mirror m = ap (seen m (λ _ _. false) (λ _ _. 0)) (twice m.width)
