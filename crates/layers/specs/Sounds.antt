-- The layers of a sound surface are sound, and their frames follow from its frame.
use Rattle.std.specs.Prelude.{◌≡◌, ℕ, ◌&&◌, ℤ, pos}
use Rattle.std.proofs.Common.{ap, ◌∙◌, arith}
use Rattle.std.proofs.Math.Bool.{and-false}
use Rattle.std.proofs.lemmas.Int.{ints}
use Rattle.surface.specs.Meaning.{Meaning, Sound, frame, spans, inside}
use Rattle.surface.specs.Rects.{holds}
use Rattle.layers.specs.Layers.{fenced, across, mirrored}
use Rattle.surface.specs.Facts.{same, spans_out, spans_in}
use Rattle.surface.specs.declared.rect.Rect.{Rect}

-- the mirror keeps what is inside
pub across-spans : (w : ℕ) (x : ℤ) → spans (pos 0) w (across w x) ≡ spans (pos 0) w x
across-spans w x =
    same (spans (pos 0) w (across w x)) (spans (pos 0) w x)
    (λ t. let h = spans_out (pos 0) w (across w x) t in spans_in (pos 0) w x (omega (arith, ints)) (omega (arith, ints)))
    (λ t. let h = spans_out (pos 0) w x t in spans_in (pos 0) w (across w x) (omega (arith, ints)) (omega (arith, ints)))

pub across-inside : (w h : ℕ) (x y : ℤ) → inside w h (across w x) y ≡ inside w h x y
across-inside w h x y = ap (λ t. t && spans (pos 0) h y) (across-spans w x)

pub mirror_sound : {m : Meaning} → Sound m → Sound (mirrored m)
mirror_sound {m} s = record {
  wide = s.wide;
  high = s.high;
  no_column = s.no_column;
  no_row = s.no_row;
  deep = s.deep;
  shallow = s.shallow;
  fits = λ x y. s.fits (across m.width x) y;
  blank_outside = λ x y e. s.blank_outside (across m.width x) y (across-inside m.width m.height x y ∙ e);
  shut_outside = λ x y e. s.shut_outside (across m.width x) y (across-inside m.width m.height x y ∙ e);
}

pub mirror_frame : (m n : Meaning) → frame m ≡ frame n → frame (mirrored m) ≡ frame (mirrored n)
mirror_frame m n e = ap (λ f. record { width = f.width; height = f.height; depth = f.depth; opens = λ x y. f.opens (across f.width x) y }) e

pub fence_sound : (r : Rect) {m : Meaning} → Sound m → Sound (fenced r m)
fence_sound r s = record {
  wide = s.wide;
  high = s.high;
  no_column = s.no_column;
  no_row = s.no_row;
  deep = s.deep;
  shallow = s.shallow;
  fits = s.fits;
  blank_outside = s.blank_outside;
  shut_outside = λ x y e. ap (λ t. holds r x y && t) (s.shut_outside x y e) ∙ and-false (holds r x y);
}

pub fence_frame : (r t : Rect) (m n : Meaning) → r ≡ t → frame m ≡ frame n → frame (fenced r m) ≡ frame (fenced t n)
fence_frame r t m n e f = λ i. record { width = (f i).width; height = (f i).height; depth = (f i).depth; opens = λ x y. holds (e i) x y && (f i).opens x y }
