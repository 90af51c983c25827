-- What every layout's draws do, by the cells of the size.
use Rattle.std.proofs.Common.{◌≡◌, ℕ, ◌≤◌, Bool, false, ◌&&◌, List, length, ℤ, sym, ap, subst}
use Rattle.std.specs.Borrow.{GName}
use Rattle.surface.specs.Meaning.{Meaning, inside}
use Rattle.raster.specs.Lawful.{Lawful}
use Rattle.raster.specs.Layout.{rest_of}

module _ {depth : ℕ} {needed : ℕ → ℕ → ℕ} {shows : ℕ → ℕ → List ℕ → Meaning} {spare : ℕ → ℕ → List ℕ → ℕ → ℕ}
    {Redraws : ℕ → ℕ → List ℕ → (ℤ → ℤ → Bool) → ℕ → List ℕ → Type 0} (laws : Lawful depth needed shows spare Redraws)
    (w h : ℕ) (m : List ℕ) (roomy : needed w h ≤ length m) where
  pub redraws_alike : (n : List ℕ) (r s : ℤ → ℤ → Bool) (v : ℕ) → ((x y : ℤ) → (r x y && inside w h x y) ≡ (s x y && inside w h x y))
      → Redraws w h m r v n → Redraws w h m s v n
  redraws_alike n r s v same =
      laws.alike w h m n r s v
      (λ x y. subst (λ o. (r x y && o) ≡ (s x y && o)) (sym (ap (λ f. f.opens x y) (laws.framed w h m roomy))) (same x y))

  pub redraws_none : (s : ℤ → ℤ → Bool) (v : ℕ) → ((x y : ℤ) → false ≡ (s x y && inside w h x y)) → Redraws w h m s v m
  redraws_none s v same = redraws_alike m (λ _ _. false) s v same (laws.none w h m v)

  pub rest_stays : (n : List ℕ) (region : ℤ → ℤ → Bool) (v : ℕ) (l : GName) → Redraws w h m region v n → rest_of spare w h n l ≡ rest_of spare w h m l
  rest_stays n region v l d =
      λ i. record { width = w; height = h; bytes = laws.long w h m n region v d i; lender = l; spare = laws.spared w h m n region v d i }
