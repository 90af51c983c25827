-- A run made twice comes to the same.
use Rattle.std.proofs.Common.{◌≡◌, ℕ, ◌+◌, Bool, ◌||◌, List, [], ◌∷◌, ◌++◌, length, ℤ, Result, sym, refl, subst, arith, length-append}
use Rattle.surface.specs.Meaning.{Meaning}
use Rattle.playback.specs.Records.{Mark}
use Rattle.playback.specs.declared.answer.Answer.{Answer}
use Rattle.player.specs.Playing.{Plays, none, next, after, aimed}
use Rattle.player.specs.Runs.{Steps}
use Rattle.player.specs.declared.fault.StepFault.{StepFault}
use Rattle.player.specs.declared.progress.Progress.{Progress}
use Rattle.player.specs.declared.whole.Step.{Step}
use Rattle.player.proofs.Single.{one-step}

abbrev Same : List Step → Progress → Meaning → (ℤ → ℤ → Bool) → List Step → Progress → Meaning → (ℤ → ℤ → Bool) → Type 0
Same ss u n cells ss' u' n' cells' = (ss ≡ ss') × (u ≡ u') × (n ≡ n') × ((x y : ℤ) → cells x y ≡ cells' x y)

-- one step more, from two runs that are the same
same_next : (view : ℕ → ℕ) (file : List ℕ) (ss ss' : List Step) (u u' v v' : Progress) (n n' : Meaning) (cells cells' : ℤ → ℤ → Bool)
    (a a' : Result Answer StepFault) (k k' : Mark) → Same ss u n cells ss' u' n' cells' → Steps view file u a v k → Steps view file u' a' v' k'
    → Same (ss ++ (record { place = u.place; answer = a } ∷ [])) v (after k n) (λ x y. cells x y || aimed k n x y)
    (ss' ++ (record { place = u'.place; answer = a' } ∷ [])) v' (after k' n') (λ x y. cells' x y || aimed k' n' x y)
same_next view file ss ss' u u' v v' n n' cells cells' a a' k k' h s s' =
    let o = one-step view file u a a' v v' k k' s (subst (λ t. Steps view file t a' v' k') (sym h.1) s') in (
      λ i. h.0 i ++ (record { place = (h.1 i).place; answer = o.0 i } ∷ []),
      o.1,
      λ i. after (o.2 i) (h.2 i),
      λ x y i. h.3 x y i || aimed (o.2 i) (h.2 i) x y,
    )

push_long : (ss : List Step) (s : Step) → length (ss ++ (s ∷ [])) ≡ length ss + 1
push_long ss s = simp length-append (omega arith)

pub same_runs : (view : ℕ → ℕ) (file : List ℕ) (t : Progress) (m : Meaning) (ss : List Step) (u : Progress) (n : Meaning) (cells : ℤ → ℤ → Bool)
    (ss' : List Step) (u' : Progress) (n' : Meaning) (cells' : ℤ → ℤ → Bool)
    → Plays view file t m ss u n cells → Plays view file t m ss' u' n' cells' → length ss ≡ length ss' → Same ss u n cells ss' u' n' cells'
same_runs view file t m ss u n cells ss' u' n' cells' (none) (none) e = (refl, refl, refl, λ x y. refl)
same_runs view file t m ss u n cells ss' u' n' cells' (none) (next {steps = rs} {u = w} a k p s) e =
    absurd (let z = push_long rs (record { place = w.place; answer = a }) in omega arith)
same_runs view file t m ss u n cells ss' u' n' cells' (next {steps = rs} {u = w} a k p s) (none) e =
    absurd (let z = push_long rs (record { place = w.place; answer = a }) in omega arith)
same_runs view file t m ss u n cells ss' u' n' cells' (next {steps = rs} {u = w} {v = v} {n = q} {cells = cs} a k p s) (next {steps = rs'} {u = w'} {v = v'} {n = q'} {cells = cs'} a' k' p' s') e =
    let l : length rs ≡ length rs' = omega (arith, push_long rs (record { place = w.place; answer = a }), push_long rs' (record { place = w'.place; answer = a' })) in
    same_next view file rs rs' w w' v v' q q' cs cs' a a' k k' (same_runs view file t m rs w q cs rs' w' q' cs' p p' l) s s'
