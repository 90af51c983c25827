-- The counts of a run grow by the tally of its answers.
use Rattle.std.proofs.Common.{◌≡◌, ℕ, ◌+◌, Bool, cond, List, [], ◌∷◌, ◌++◌, Ok, Err, Result, sym, refl, ap, ◌∙◌, arith}
use Rattle.codes.specs.declared.refusal.Refusal.{Refusal}
use Rattle.metafile.specs.Frames.{end}
use Rattle.playback.specs.Records.{Mark}
use Rattle.playback.specs.declared.answer.Answer.{Answer}
use Rattle.playback.specs.declared.answer.Answer.TheVariants as answer
use Rattle.player.specs.Playing.{none, next}
use Rattle.player.specs.Runs.{Steps, over, lost, broken, played, past, told, with_context}
use Rattle.player.specs.declared.fault.StepFault.{StepFault}
use Rattle.player.specs.declared.progress.Counts.{Counts}
use Rattle.player.specs.declared.progress.Progress.{Progress}
use Rattle.player.specs.declared.whole.Step.{Step}
use Rattle.laws.specs.Runs.{Tallies, number, was_taken, was_refused, was_passed_over}

number_push : (so : Result Answer StepFault → Bool) (ss : List Step) (s : Step) → number so (ss ++ (s ∷ [])) ≡ number so ss + cond (so s.answer) 1 0
number_push so [] s = omega arith
number_push so (x ∷ ss) s = let h = number_push so ss s in omega arith

abbrev one : Bool → ℕ
one b = cond b 1 0

-- the counts before and after one answer
record Counted (n n' : Counts) (a : Result Answer StepFault) : Type 0 where
  pub taken : n'.taken ≡ n.taken + one (was_taken a)
  pub refused : n'.refused ≡ n.refused + one (was_refused a)
  pub passed_over : n'.passed_over ≡ n.passed_over + one (was_passed_over a)

counted_past : (p e : ℕ) (r : Result Answer Refusal) (t : Progress) → Counted t.counts (past e r t).counts (told p r)
counted_past p e (Ok answer.Taken) t = record { taken = refl; refused = omega arith; passed_over = omega arith }
counted_past p e (Ok answer.PassedOver) t = record { taken = omega arith; refused = omega arith; passed_over = refl }
counted_past p e (Ok answer.Ended) t = record { taken = omega arith; refused = omega arith; passed_over = omega arith }
counted_past p e (Err c) t = record { taken = omega arith; refused = refl; passed_over = omega arith }

moved : (n n' k : Counts) (a b : Result Answer StepFault) → Counted n k b → n' ≡ k → a ≡ b → Counted n n' a
moved n n' k a b h e g = record {
  taken = ap (λ (n : Counts). n.taken) e ∙ h.taken ∙ ap (λ a. n.taken + one (was_taken a)) (sym g);
  refused = ap (λ (n : Counts). n.refused) e ∙ h.refused ∙ ap (λ a. n.refused + one (was_refused a)) (sym g);
  passed_over = ap (λ (n : Counts). n.passed_over) e ∙ h.passed_over ∙ ap (λ a. n.passed_over + one (was_passed_over a)) (sym g);
}

unmoved : (n : Counts) (a : Result Answer StepFault) → one (was_taken a) ≡ 0 → one (was_refused a) ≡ 0 → one (was_passed_over a) ≡ 0 → Counted n n a
unmoved n a e g h = record { taken = omega arith; refused = omega arith; passed_over = omega arith }

counted_step : (view : ℕ → ℕ) (file : List ℕ) (t t' : Progress) (a : Result Answer StepFault) (m : Mark) → Steps view file t a t' m → Counted t.counts t'.counts a
counted_step view file t t' a m (over p e g h) = moved _ _ _ _ _ (unmoved _ (Ok answer.Ended) refl refl refl) (ap (λ (t : Progress). t.counts) g) e
counted_step view file t t' a m (lost p l e g h) = moved _ _ _ _ _ (unmoved _ _ refl refl refl) (ap (λ (t : Progress). t.counts) g) e
counted_step view file t t' a m (broken c p b e g h) = moved _ _ _ _ _ (counted_past t.place (end file t.place) (Err c) t) (ap (λ (t : Progress). t.counts) g) e
counted_step view file t t' a m (played r o p s k e g h) =
    moved _ _ _ _ _ (counted_past t.place (end file t.place) o.answer (with_context o.context t)) (ap (λ (t : Progress). t.counts) g) e

pub tallies : Tallies
tallies view file t m steps t' m' cells (none) = record { taken = omega arith; refused = omega arith; passed_over = omega arith }
tallies view file t m steps t' m' cells (next {steps = ss} {u = u} a k p s) =
    let h = tallies _ _ _ _ _ _ _ _ p in
    let c = counted_step _ _ _ _ _ _ s in
    let w : Step = record { place = u.place; answer = a } in
    record {
      taken = omega (arith, h.taken, c.taken, number_push was_taken ss w);
      refused = omega (arith, h.refused, c.refused, number_push was_refused ss w);
      passed_over = omega (arith, h.passed_over, c.passed_over, number_push was_passed_over ss w);
    }
