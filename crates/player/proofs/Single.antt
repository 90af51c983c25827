-- A step has one outcome.
use Rattle.std.proofs.Common.{◌≡◌, ℕ, ◌+◌, ◌*◌, ◌⊎◌, List, length, Ok, Err, Result, Some, None, Option, sym, refl, ap, ◌∙◌, inl, inr, ⊎_elim, arith}
use Rattle.std.proofs.lemmas.Bool.{cases_lt}
use Rattle.metafile.specs.Bytes.{long}
use Rattle.metafile.specs.Exact.{Elsewhere}
use Rattle.metafile.specs.Frames.{Lies, end, function, parameters}
use Rattle.metafile.specs.declared.record.Record.{Record}
use Rattle.metafile.proofs.Outcomes.{outcome}
use Rattle.metafile.proofs.Seen.{one_record, one_cause, not_both}
use Rattle.playback.specs.Records.{Mark, Outcome, plays}
use Rattle.playback.specs.declared.answer.Answer.{Answer}
use Rattle.playback.specs.declared.context.DeviceContext.{DeviceContext}
use Rattle.player.specs.Runs.{Steps, over, lost, broken, played, past, told, with_context, Tells, Foretells}
use Rattle.player.specs.Views.{seen_record}
use Rattle.player.specs.declared.fault.StepFault.{StepFault}
use Rattle.player.specs.declared.fault.StepFault.TheVariants as fault
use Rattle.player.specs.declared.progress.Phase.{Phase}
use Rattle.player.specs.declared.progress.Phase.TheVariants.{Playing, Ended}
use Rattle.player.specs.declared.progress.Progress.{Progress}

pub lies_or_not : (b : List ℕ) (p : ℕ) → Lies b p ⊎ (Lies b p → ⊥)
lies_or_not b p =
    ⊎_elim (λ short. inr (λ l. omega (arith, l.room)))
    (λ room. ⊎_elim (λ small. inr (λ l. omega (arith, l.least)))
    (λ least. ⊎_elim (λ beyond. inr (λ l. omega (arith, l.within)))
    (λ within. inl (record { room = room; least = least; within = within }))
    (cases_lt (length b) (p + 2 * long b p)))
    (cases_lt (long b p) 3))
    (cases_lt (length b) (p + 6))

pub phases : (p : Phase) → (p ≡ Playing) ⊎ (p ≡ Ended)
phases Playing = inl refl
phases Ended = inr refl

-- two records that are shown at one place do the same
alike : (view : ℕ → ℕ) (c : DeviceContext) (r s : Record) → (r ≡ s) ⊎ Elsewhere r s → plays (seen_record view r) c ≡ plays (seen_record view s) c
alike view c r s (inl e) = ap (λ r. plays (seen_record view r) c) e
alike view c r s (inr (f, p, q, e, g, h)) = ap (λ r. plays (seen_record view r) c) e ∙ sym (ap (λ r. plays (seen_record view r) c) g)

pub some_step : (view : ℕ → ℕ) (file : List ℕ) (t : Progress) → (a : Result Answer StepFault) × (t' : Progress) × (m : Mark) × Steps view file t a t' m
some_step view file t =
    ⊎_elim
    (λ p. ⊎_elim
    (λ l. ⊎_elim
    (λ r. (_, _, _, played r.0 (plays (seen_record view r.0) t.context) p (l, r.1) refl refl refl refl))
    (λ c. (_, _, _, broken c.0 p (l, c.1) refl refl refl))
    (outcome (function file t.place) (parameters file t.place)))
    (λ n. (_, _, _, lost p n refl refl refl))
    (lies_or_not file t.place))
    (λ p. (_, _, _, over p refl refl refl))
    (phases t.phase)

module _ (view : ℕ → ℕ) (file : List ℕ) (t : Progress) where
  pub one-step : (a b : Result Answer StepFault) (u v : Progress) (m n : Mark) → Steps view file t a u m → Steps view file t b v n → (a ≡ b) × (u ≡ v) × (m ≡ n)
  one-step a b u v m n (over p e g h) (over p' e' g' h') = (e ∙ sym e', g ∙ sym g', h ∙ sym h')
  one-step a b u v m n (over p e g h) (lost p' l' e' g' h') = cc
  one-step a b u v m n (over p e g h) (broken c' p' b' e' g' h') = cc
  one-step a b u v m n (over p e g h) (played r' o' p' s' k' e' g' h') = cc
  one-step a b u v m n (lost p l e g h) (over p' e' g' h') = cc
  one-step a b u v m n (lost p l e g h) (lost p' l' e' g' h') = (e ∙ sym e', g ∙ sym g', h ∙ sym h')
  one-step a b u v m n (lost p l e g h) (broken c' p' b' e' g' h') = absurd (l b'.0)
  one-step a b u v m n (lost p l e g h) (played r' o' p' s' k' e' g' h') = absurd (l s'.0)
  one-step a b u v m n (broken c p d e g h) (over p' e' g' h') = cc
  one-step a b u v m n (broken c p d e g h) (lost p' l' e' g' h') = absurd (l' d.0)
  one-step a b u v m n (broken c p d e g h) (broken c' p' d' e' g' h') =
      let same : c ≡ c' = one_cause _ _ c c' d.1 d'.1 in
      (e ∙ ap (λ c. told t.place (Err c)) same ∙ sym e', g ∙ ap (λ c. past (end file t.place) (Err c) t) same ∙ sym g', h ∙ sym h')
  one-step a b u v m n (broken c p d e g h) (played r' o' p' s' k' e' g' h') = absurd (not_both _ _ r' c s'.1 d.1)
  one-step a b u v m n (played r o p s k e g h) (over p' e' g' h') = cc
  one-step a b u v m n (played r o p s k e g h) (lost p' l' e' g' h') = absurd (l' s.0)
  one-step a b u v m n (played r o p s k e g h) (broken c' p' d' e' g' h') = absurd (not_both _ _ r c' s.1 d'.1)
  one-step a b u v m n (played r o p s k e g h) (played r' o' p' s' k' e' g' h') =
      let same : o ≡ o' = k ∙ alike view t.context r r' (one_record _ _ r r' s.1 s'.1) ∙ sym k' in (
        e ∙ ap (λ (o : Outcome). told t.place o.answer) same ∙ sym e',
        g ∙ ap (λ (o : Outcome). past (end file t.place) o.answer (with_context o.context t)) same ∙ sym g',
        h ∙ ap (λ (o : Outcome). o.mark) same ∙ sym h',
      )

-- what the file tells of the next step comes true
pub comes_true : (file : List ℕ) (t : Progress) (q : Result (Option Record) StepFault) → Tells file t q → Foretells file t q
comes_true file t (Ok None) h = λ view a t' m s. (one-step view file t a _ t' _ m _ s (over h refl refl refl)).0
comes_true file t (Ok (Some r)) h =
    λ view a t' m s. (one-step view file t a _ t' _ m _ s (played r (plays (seen_record view r) t.context) h.0 h.1 refl refl refl refl)).0
comes_true file t (Err (fault.File f)) (p, n, c, e) =
    λ view a t' m s. (one-step view file t a _ t' _ m _ s (lost p n refl refl refl)).0 ∙ (λ i. Err (fault.File (record { cause = sym c i; place = sym e i })))
comes_true file t (Err (fault.Record f)) (p, b, e) =
    λ view a t' m s. (one-step view file t a _ t' _ m _ s (broken f.cause p b refl refl refl)).0 ∙ (λ i. Err (fault.Record (record { cause = f.cause; place = sym e i })))
