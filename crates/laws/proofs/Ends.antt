-- From an end on nothing changes.
use Rattle.std.proofs.Common.{◌≡◌, ℕ, Bool, ◌||◌, List, [], ◌∷◌, ◌++◌, ℤ, Ok, Err, Result, sym, refl, ap, ◌∙◌, subst, inl, inr}
use Rattle.std.proofs.ByRecursion.{All-push}
use Rattle.surface.specs.Meaning.{Meaning}
use Rattle.codes.specs.declared.refusal.Refusal.{Refusal}
use Rattle.drawing.specs.Tasks.{Task, refuse, draw}
use Rattle.metafile.specs.declared.record.Record.{Record}
use Rattle.metafile.specs.declared.record.Record.TheVariants as shown
use Rattle.playback.specs.Records.{Mark, untouched, Outcome, plays, drawing, allowed}
use Rattle.playback.specs.declared.answer.Answer.{Answer}
use Rattle.playback.specs.declared.answer.Answer.TheVariants as answer
use Rattle.player.specs.Playing.{none, next, after, aimed}
use Rattle.player.specs.Finding.{ShowsAt}
use Rattle.player.specs.Views.{seen_record}
use Rattle.player.specs.Runs.{over, lost, broken, played, told}
use Rattle.player.specs.declared.fault.StepFault.{StepFault}
use Rattle.playback.specs.declared.context.DeviceContext.{DeviceContext}
use Rattle.player.specs.declared.progress.Phase.TheVariants.{Ended}
use Rattle.player.specs.declared.progress.Progress.{Progress}
use Rattle.player.specs.declared.whole.Step.{Step}
use Rattle.player.proofs.Single.{one-step}
use Rattle.laws.specs.Runs.{Still, Stays, Ends}

still_next : (t u v : Progress) (m n : Meaning) (steps : List Step) (cells : ℤ → ℤ → Bool) (a : Result Answer StepFault) (k : Mark)
    → Still t m steps u n cells → a ≡ Ok answer.Ended → v ≡ u → k ≡ untouched
    → Still t m (steps ++ (record { place = u.place; answer = a } ∷ [])) v (after k n) (λ x y. cells x y || aimed k n x y)
still_next t u v m n steps cells a k h e g j = record {
  answers = All-push _ steps _ h.answers (λ i. record { place = (h.progress i).place; answer = e i });
  progress = g ∙ h.progress;
  picture = ap (λ k. after k n) j ∙ h.picture;
  untouched = λ x y. simp (h.untouched x y, j);
}

pub stays : Stays
stays view file t m steps t' m' cells (none) e = record { answers = tt; progress = refl; picture = refl; untouched = λ x y. refl }
stays view file t m steps t' m' cells (next {steps = ss} {u = u} {v = v} {n = n} {cells = cs} a k p s) e =
    let h = stays view file t m ss u n cs p e in
    let q : u.phase ≡ Ended = ap (λ (t : Progress). t.phase) h.progress ∙ e in
    let o = one-step view file u a (Ok answer.Ended) v u k untouched s (over q refl refl refl) in
    still_next t u v m n ss cs a k h o.0 o.1 o.2

-- Only an end record is answered by ended.

abbrev Closes : Outcome → Type 0
Closes o = o.answer ≡ Ok answer.Ended

drawn-not : (k : Task) (c before : DeviceContext) → Closes (drawing k c before) → ⊥
drawn-not (refuse e) c before h = cc
drawn-not (draw region new) c before h = cc

allowed-not : (r : Result (Unit {0}) Refusal) (c before : DeviceContext) → Closes (allowed r c before) → ⊥
allowed-not (Ok u) c before h = cc
allowed-not (Err e) c before h = cc

only_end : (view : ℕ → ℕ) (r : Record) (c : DeviceContext) → Closes (plays (seen_record view r) c) → r ≡ shown.End
only_end view shown.End c h = refl
only_end view (shown.SetWindowOrg p) c h = cc
only_end view (shown.SetViewportOrg p) c h = cc
only_end view (shown.MoveTo p) c h = cc
only_end view (shown.LineTo p) c h = absurd (drawn-not _ _ _ h)
only_end view (shown.PatBlt code area) c h = absurd (drawn-not _ _ _ h)
only_end view (shown.BitBlt code area source) c h = absurd (drawn-not _ _ _ h)
only_end view (shown.IntersectClipRect near far) c h = cc
only_end view (shown.SetRop2 m) c h = cc
only_end view (shown.SetBkColor w) c h = cc
only_end view (shown.CreateBrushIndirect b) c h = absurd (allowed-not _ _ _ h)
only_end view (shown.CreatePenIndirect p) c h = absurd (allowed-not _ _ _ h)
only_end view (shown.SelectObject i) c h = absurd (allowed-not _ _ _ h)
only_end view (shown.DeleteObject i) c h = absurd (allowed-not _ _ _ h)
only_end view (shown.Unlisted f rest) c h = cc

told_ended : (p : ℕ) (r : Result Answer Refusal) → Ok answer.Ended ≡ told p r → r ≡ Ok answer.Ended
told_ended p (Ok a) e = cc
told_ended p (Err c) e = cc

pub ends : Ends
ends view file t t' m (over p e g h) = inl p
ends view file t t' m (lost p l e g h) = cc
ends view file t t' m (broken c p b e g h) = cc
ends view file t t' m (played r o p s k e g h) =
    inr (subst (ShowsAt file t.place) (only_end view r t.context (ap (λ (o : Outcome). o.answer) (sym k) ∙ told_ended t.place o.answer e)) s)
