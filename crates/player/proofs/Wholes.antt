-- Steps of a run, one after another.
use Rattle.std.proofs.Common.{◌≡◌, ℕ, ◌+◌, ◌≤◌, Bool, true, false, not, ◌&&◌, ◌||◌, List, [], ◌∷◌, ◌++◌, length, ℤ, Ok, Err, Result, sym, refl, ap, ◌∙◌, subst, arith}
use Rattle.codes.specs.declared.refusal.Refusal.{Refusal}
use Rattle.surface.specs.Meaning.{Meaning}
use Rattle.surface.specs.Rects.{Keep, Kept}
use Rattle.surface.proofs.Keeping.{kept_none, kept_both}
use Rattle.metafile.specs.Frames.{end}
use Rattle.playback.specs.Records.{Mark, untouched, marked, Marks}
use Rattle.playback.specs.declared.answer.Answer.{Answer}
use Rattle.playback.specs.declared.answer.Answer.TheVariants as answer
use Rattle.player.specs.Runs.{Steps, over, lost, broken, played, Stepped, past, told}
use Rattle.player.specs.Playing.{Plays, none, next, after, aimed, final, ongoing, PlayedOut}
use Rattle.player.specs.declared.fault.StepFault.{StepFault}
use Rattle.player.specs.declared.progress.Progress.{Progress}
use Rattle.player.specs.declared.whole.Step.{Step}

-- an answer that is not final moves the run behind its record
past-moves : (p e : ℕ) (r : Result Answer Refusal) (t : Progress) → final (told p r) ≡ false → (past e r t).place ≡ e
past-moves p e (Ok answer.Taken) t f = refl
past-moves p e (Ok answer.PassedOver) t f = refl
past-moves p e (Ok answer.Ended) t f = cc
past-moves p e (Err c) t f = refl

pub moves : (view : ℕ → ℕ) (file : List ℕ) (t : Progress) (a : Result Answer StepFault) (t' : Progress) (m : Mark)
    → Steps view file t a t' m → final a ≡ false → (t.place + 6 ≤ t'.place) × (t'.place ≤ length file)
moves view file t a t' m (over p e g h) f = cc
moves view file t a t' m (lost p l e g h) f = cc
moves view file t a t' m (broken c p b e g h) f =
    let q : t'.place ≡ end file t.place = ap (λ (t : Progress). t.place) g in
    (omega (arith, b.0.least, b.0.within), omega (arith, b.0.within))
moves view file t a t' m (played r o p s k e g h) f =
    let q : t'.place ≡ end file t.place = ap (λ (t : Progress). t.place) g ∙ past-moves t.place (end file t.place) o.answer _ (sym (ap final e) ∙ f) in
    (omega (arith, s.0.least, s.0.within), omega (arith, s.0.within))

pub ongoing_push : (ss : List Step) (s : Step) → ongoing ss ≡ true → final s.answer ≡ false → ongoing (ss ++ (s ∷ [])) ≡ true
ongoing_push [] s o f = ap (λ b. not b && true) f
ongoing_push (x ∷ ss) s o f = pushed (not (final x.answer)) (ongoing ss) (ongoing (ss ++ (s ∷ []))) o (λ h. ongoing_push ss s h f)
  where
    pushed : (a b c : Bool) → (a && b) ≡ true → (b ≡ true → c ≡ true) → (a && c) ≡ true
    pushed true b c e k = k e
    pushed false b c e k = e

module _ {S R : Type 0} (means : S → Meaning) (keeps : S → Keep) (rest : S → R) where
  pub marks_picture : (k : Mark) (s s' : S) → Marks means keeps rest k s s' → after k (means s) ≡ means s'
  marks_picture untouched s s' h = ap means (sym h)
  marks_picture (marked region new) s s' h = sym h.picture

  pub marks_kept : (k : Mark) (s s' : S) → Marks means keeps rest k s s' → Kept (keeps s) (aimed k (means s)) (keeps s')
  marks_kept untouched s s' h = subst (λ u. Kept (keeps s) (λ _ _. false) (keeps u)) (sym h) (kept_none (keeps s) (λ _ _. false) (λ x y t. t))
  marks_kept (marked region new) s s' h = h.kept

  pub marks_rest : (k : Mark) (s s' : S) → Marks means keeps rest k s s' → rest s' ≡ rest s
  marks_rest untouched s s' h = ap rest h
  marks_rest (marked region new) s s' h = h.rest

  -- a run at t on a surface s has made some steps
  pub record Going (file : List ℕ) (t : Progress) (s : S) (steps : List Step) (u : Progress) (s' : S) : Type 0 where
    pub cells : ℤ → ℤ → Bool
    pub plays : Plays (λ w. w) file t (means s) steps u (means s') cells
    pub kept : Kept (keeps s) cells (keeps s')
    pub still : rest s' ≡ rest s

  pub going_none : (file : List ℕ) (t : Progress) (s : S) (steps : List Step) → steps ≡ [] → Going file t s steps t s
  going_none file t s steps e = subst (λ ss. Going file t s ss t s) (sym e) (record {
    cells = λ _ _. false;
    plays = none;
    kept = kept_none (keeps s) (λ _ _. false) (λ x y t. t);
    still = refl;
  })

  -- one step more
  pub going_next : (file file' : List ℕ) (t u v : Progress) (s s₁ s₂ : S) (steps steps' : List Step) (a : Result Answer StepFault)
      → Going file t s steps u s₁ → file' ≡ file → Stepped means keeps rest (λ w. w) file' u s₁ a v s₂
      → steps' ≡ steps ++ (record { place = u.place; answer = a } ∷ []) → Going file t s steps' v s₂
  going_next file file' t u v s s₁ s₂ steps steps' a g f d e =
      let k = d.0 in
      let one : Plays (λ w. w) file t (means s) (steps ++ (record { place = u.place; answer = a } ∷ [])) v (after k (means s₁)) (λ x y. g.cells x y || aimed k (means s₁) x y)
      = next a k g.plays (subst (λ b. Steps (λ w. w) b u a v k) f d.1) in
      subst (λ ss. Going file t s ss v s₂) (sym e) (record {
        cells = λ x y. g.cells x y || aimed k (means s₁) x y;
        plays = subst (λ n. Plays (λ w. w) file t (means s) (steps ++ (record { place = u.place; answer = a } ∷ [])) v n (λ x y. g.cells x y || aimed k (means s₁) x y)) (marks_picture k s₁ s₂ d.2) one;
        kept = kept_both g.cells (aimed k (means s₁)) g.kept (marks_kept k s₁ s₂ d.2);
        still = marks_rest k s₁ s₂ d.2 ∙ g.still;
      })

  -- the step that stops a run
  pub going_out : (file file' : List ℕ) (t u v : Progress) (s s₁ s₂ : S) (steps steps' : List Step) (a : Result Answer StepFault)
      → Going file t s steps u s₁ → ongoing steps ≡ true → file' ≡ file → Stepped means keeps rest (λ w. w) file' u s₁ a v s₂ → final a ≡ true
      → steps' ≡ steps ++ (record { place = u.place; answer = a } ∷ []) → PlayedOut means keeps rest file t s steps' v s₂
  going_out file file' t u v s s₁ s₂ steps steps' a g o f d n e =
      let h = going_next file file' t u v s s₁ s₂ steps steps' a g f d e in
      record {
        cells = h.cells;
        plays = h.plays;
        kept = h.kept;
        still = h.still;
        stopped = record { front = steps; last = record { place = u.place; answer = a }; split = e; before = o; end = n };
      }

  -- any other step moves the run on, within the file
  pub going_on : (file file' : List ℕ) (u v : Progress) (s s' : S) (a : Result Answer StepFault)
      → Stepped means keeps rest (λ w. w) file' u s a v s' → file' ≡ file → final a ≡ false → (u.place + 6 ≤ v.place) × (v.place ≤ length file)
  going_on file file' u v s s' a d f n = moves (λ w. w) file u a v d.0 (subst (λ b. Steps (λ w. w) b u a v d.0) f d.1) n
