-- Calls that are refused, and calls that draw.
use Rattle.std.proofs.Common.{◌≡◌, ℕ, Bool, ℤ, Ok, Err, Result, sym, refl, subst}
use Rattle.codes.specs.declared.refusal.Refusal.{Refusal}
use Rattle.surface.specs.Meaning.{Meaning}
use Rattle.surface.specs.Rects.{Keep}
use Rattle.surface.specs.Drawing.{Draws}
use Rattle.drawing.specs.Tasks.{Task, refuse, draw, Performs}

module _ {S R : Type 0} (means : S → Meaning) (keeps : S → Keep) (rest : S → R) where
  pub refused : (t : Task) (c : Refusal) (s : S) → t ≡ refuse c → Performs means keeps rest t (Err c) s s
  refused t c s e = subst (λ t. Performs means keeps rest t (Err c) s s) (sym e) (refl, refl)

  pub performed : (t : Task) (region : ℤ → ℤ → Bool) (new : Meaning → ℤ → ℤ → ℕ) (s s' : S) → t ≡ draw region new
      → Draws means keeps rest region new s s' → Performs means keeps rest t (Ok tt) s s'
  performed t region new s s' e d = subst (λ t. Performs means keeps rest t (Ok tt) s s') (sym e) (refl, d)

  -- the same with an equal task
  pub performed_as : (t t' : Task) (r : Result (Unit {0}) Refusal) (s s' : S) → t ≡ t' → Performs means keeps rest t r s s' → Performs means keeps rest t' r s s'
  performed_as t t' r s s' e = subst (λ t. Performs means keeps rest t r s s') e
