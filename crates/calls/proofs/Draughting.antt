-- A drawing call's answer as a reply with its mark.
use Rattle.std.proofs.Common.{◌≡◌, Result, sym, refl, ap, subst}
use Rattle.codes.specs.declared.refusal.Refusal.{Refusal}
use Rattle.surface.specs.Meaning.{Meaning}
use Rattle.surface.specs.Rects.{Keep}
use Rattle.pencil.specs.declared.pencil_state.Pencil.{Pencil}
use Rattle.drawing.specs.Tasks.{Task, refuse, draw, Performs}
use Rattle.playback.specs.Records.{Mark, Marks, untouched, marked}
use Rattle.player.specs.declared.progress.Progress.{Progress}
use Rattle.player.proofs.Strides.{same_brush, same_pen}
use Rattle.calls.specs.Seeing.{seen_pencil}
use Rattle.calls.specs.Machine.{Draughts}
use Rattle.calls.specs.declared.call.Reply.TheVariants as reply

-- the view that leaves colours as they are
pub same_pencil : (p : Pencil) → p ≡ seen_pencil (λ w. w) p
same_pencil p = λ i. record { clip = p.clip; pen = sym (same_pen p.pen) i; mode = p.mode; brush = sym (same_brush p.brush) i; back = p.back }

module _ {S R : Type 0} (means : S → Meaning) (keeps : S → Keep) (rest : S → R) (t : Progress) (s s' : S) (r : Result (Unit {0}) Refusal) where
  drew : (task : Task) → Performs means keeps rest task r s s' → (k : Mark) × Draughts task (reply.Drawing r) t t k × Marks means keeps rest k s s'
  drew (refuse c) p = (untouched, (ap reply.Drawing p.0, refl, refl), p.1)
  drew (draw region new) p = (marked region new, (ap reply.Drawing p.0, refl, refl), p.1)

  -- the same of a task of the pencil as it is seen
  pub draughts : (task : Pencil → Task) (p : Pencil) → Performs means keeps rest (task p) r s s'
      → (k : Mark) × Draughts (task (seen_pencil (λ w. w) p)) (reply.Drawing r) t t k × Marks means keeps rest k s s'
  draughts task p d = subst (λ q. (k : Mark) × Draughts (task q) (reply.Drawing r) t t k × Marks means keeps rest k s s') (same_pencil p) (drew (task p) d)
