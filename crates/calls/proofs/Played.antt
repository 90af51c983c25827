-- Runs of steps on each bit plane.
use Rattle.std.proofs.Common.{◌≡◌, ℕ, ◌<◌, ◌≤◌, Bool, false, ◌||◌, List, [], ◌∷◌, ◌++◌, ℤ, refl, ◌∙◌, subst, arith}
use Rattle.std.proofs.lemmas.Bool.{or_parts}
use Rattle.codes.specs.Bits.{bit}
use Rattle.surface.specs.Meaning.{Meaning}
use Rattle.player.specs.Playing.{Plays, none, next, after, aimed}
use Rattle.player.specs.declared.progress.Progress.{Progress}
use Rattle.player.specs.declared.whole.Step.{Step}
use Rattle.calls.specs.Planes.{plane}
use Rattle.calls.specs.Seeing.{seen_progress}
use Rattle.calls.specs.Promise.{Still, PlayedApart}
use Rattle.calls.proofs.Along.{still_here, still_then, still_after, unaimed}
use Rattle.calls.proofs.Apart.{step-seen}
use Rattle.calls.proofs.Shadows.{plane-after, plane-aimed}

module _ (file : List ℕ) (t : Progress) (m : Meaning) where
  plays-still : {steps : List Step} {u : Progress} {n : Meaning} {cells : ℤ → ℤ → Bool} → Plays (λ w. w) file t m steps u n cells → Still m n
  plays-still none = still_here m
  plays-still (next {steps} {u} {v} {n} {cells} a k p s) = still_then m n (after k n) (plays-still p) (still_after k n)

  plays-unreached : {steps : List Step} {u : Progress} {n : Meaning} {cells : ℤ → ℤ → Bool} → Plays (λ w. w) file t m steps u n cells
      → (x y : ℤ) → cells x y ≡ false → n.word x y ≡ m.word x y
  plays-unreached none x y e = refl
  plays-unreached (next {steps} {u} {v} {n} {cells} a k p s) x y e =
      let o = or_parts (cells x y) (aimed k n x y) e in
      unaimed k n x y o.1 ∙ plays-unreached p x y o.0

  plays-seen : (k : ℕ) → k < m.depth → m.depth ≤ 16 → {steps : List Step} {u : Progress} {n : Meaning} {cells : ℤ → ℤ → Bool} → Plays (λ w. w) file t m steps u n cells
      → Plays (bit k) file (seen_progress (bit k) t) (plane k m) steps (seen_progress (bit k) u) (plane k n) cells
  plays-seen k h d none = none
  plays-seen k h d (next {steps} {u} {v} {n} {cells} a μ p s) =
      let q = step-seen k file u a v μ s in
      let deep : n.depth ≡ m.depth = (plays-still p).depth in
      let one : Plays (bit k) file (seen_progress (bit k) t) (plane k m) (steps ++ (record { place = u.place; answer = a } ∷ [])) (seen_progress (bit k) v) (after q.0 (plane k n)) (λ x y. cells x y || aimed q.0 (plane k n) x y)
      = next a q.0 (plays-seen k h d p) q.1 in
      let here : after q.0 (plane k n) ≡ plane k (after μ n) = plane-after k q.2 n (omega (arith, deep)) (omega (arith, deep)) in
      let reach : (λ (x y : ℤ). cells x y || aimed q.0 (plane k n) x y) ≡ (λ x y. cells x y || aimed μ n x y) = λ i x y. cells x y || plane-aimed k q.2 n x y i in
      subst (λ c. Plays (bit k) file (seen_progress (bit k) t) (plane k m) (steps ++ (record { place = u.place; answer = a } ∷ [])) (seen_progress (bit k) v) (plane k (after μ n)) c) reach
      (subst (λ o. Plays (bit k) file (seen_progress (bit k) t) (plane k m) (steps ++ (record { place = u.place; answer = a } ∷ [])) (seen_progress (bit k) v) o (λ x y. cells x y || aimed q.0 (plane k n) x y)) here one)

  pub played-apart : m.depth ≤ 16 → (steps : List Step) (u : Progress) (n : Meaning) (cells : ℤ → ℤ → Bool) → Plays (λ w. w) file t m steps u n cells → PlayedApart file t m steps u n
  played-apart d steps u n cells p = record { cells = cells; planes = λ k h. plays-seen k h d p; still = plays-still p; unreached = plays-unreached p }
