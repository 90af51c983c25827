-- Steps from what was found and what was done.
use Rattle.std.proofs.Common.{◌≡◌, ℕ, List, Ok, Err, Result, MatchResult, sym, refl, ap, ◌∙◌}
use Rattle.surface.specs.Meaning.{Meaning}
use Rattle.surface.specs.Rects.{Keep}
use Rattle.pencil.specs.declared.brush.Brush.{Brush}
use Rattle.pencil.specs.declared.brush.Brush.TheVariants as brush
use Rattle.pencil.specs.declared.pen.Pen.{Pen}
use Rattle.pencil.specs.declared.pen.Pen.TheVariants as pen
use Rattle.codes.specs.declared.refusal.Refusal.{Refusal}
use Rattle.metafile.specs.Frames.{end}
use Rattle.metafile.specs.declared.record.Record.{Record}
use Rattle.metafile.specs.declared.record.Record.TheVariants as of
use Rattle.playback.specs.Records.{untouched, plays}
use Rattle.playback.specs.declared.answer.Answer.{Answer}
use Rattle.player.specs.Finding.{FoundAt, ShowsAt, BreaksAt}
use Rattle.player.specs.Runs.{Obeys, Stepped, found_outcome, past, with_context, broken, played}
use Rattle.player.specs.Views.{seen_brush, seen_pen, seen_record}
use Rattle.player.specs.declared.fault.StepFault.{StepFault}
use Rattle.player.specs.declared.finding.Found.{Found}
use Rattle.player.specs.declared.progress.Phase.TheVariants.{Playing}
use Rattle.player.specs.declared.progress.Progress.{Progress}

pub same_pen : (p : Pen) → seen_pen (λ w. w) p ≡ p
same_pen (pen.Solid c) = refl
same_pen pen.Null = refl

pub same_brush : (b : Brush) → seen_brush (λ w. w) b ≡ b
same_brush (brush.Solid c) = refl
same_brush (brush.Hatched s c) = refl

-- the view that leaves colours as they are
pub same_record : (r : Record) → seen_record (λ w. w) r ≡ r
same_record of.End = refl
same_record (of.SetWindowOrg p) = refl
same_record (of.SetViewportOrg p) = refl
same_record (of.MoveTo p) = refl
same_record (of.LineTo p) = refl
same_record (of.PatBlt code area) = refl
same_record (of.BitBlt code area source) = refl
same_record (of.IntersectClipRect near far) = refl
same_record (of.SetRop2 m) = refl
same_record (of.SetBkColor c) = refl
same_record (of.CreateBrushIndirect b) = ap of.CreateBrushIndirect (same_brush b)
same_record (of.CreatePenIndirect p) = ap of.CreatePenIndirect (same_pen p)
same_record (of.SelectObject i) = refl
same_record (of.DeleteObject i) = refl
same_record (of.Unlisted f rest) = refl

module _ {S R : Type 0} (means : S → Meaning) (keeps : S → Keep) (rest : S → R) (file : List ℕ) (t t' : Progress) (s s' : S) (a : Result Answer StepFault) where
  played_steps : (d : Result Record Refusal) (e : ℕ) → t.phase ≡ Playing → MatchResult d (ShowsAt file t.place) (BreaksAt file t.place) → e ≡ end file t.place
      → Obeys means keeps rest e (found_outcome d t.context) a t t' s s' → Stepped means keeps rest (λ w. w) file t s a t' s'
  played_steps (Ok r) e p f q o =
      let k = plays r t.context in
      (k.mark, played r k p f (ap (λ r. plays r t.context) (sym (same_record r))) o.answer (o.progress ∙ ap (λ e. past e k.answer (with_context k.context t)) q) refl, o.surface)
  played_steps (Err c) e p f q o = (untouched, broken c p f o.answer (o.progress ∙ ap (λ e. past e (Err c) t) q) refl, o.surface)

  -- what was found was played
  pub found_steps : (f : Found) → t.phase ≡ Playing → FoundAt file t.place f
      → Obeys means keeps rest f.end (found_outcome f.decoded t.context) a t t' s s' → Stepped means keeps rest (λ w. w) file t s a t' s'
  found_steps f p g o = played_steps f.decoded f.end p g.0 g.1 o
