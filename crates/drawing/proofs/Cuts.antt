-- What spans of places share.
use Rattle.std.proofs.Common.{◌≡◌, ℕ, ◌<◌, Bool, true, false, ◌&&◌, ℤ, pos, ◌+ℤ◌, ◌≤ℤ◌, refl, ap, ◌∙◌, zero-add, arith, w32, w64, SFits}
use lib.Signed.{le_z, lt_z}
use Rattle.std.specs.Int.{int_max, int_min}
use Rattle.std.proofs.lemmas.Int.{ints}
use Rattle.surface.specs.Meaning.{spans}
use Rattle.drawing.specs.Areas.{between}

pub le_z_max : (u v a : ℤ) → le_z (int_max u v) a ≡ (le_z u a && le_z v a)
le_z_max u v a = grind (arith, ints)

pub lt_z_min : (u v a : ℤ) → lt_z a (int_min u v) ≡ (lt_z a u && lt_z a v)
lt_z_min u v a = grind (arith, ints)

-- from 0 on it makes no difference whether an end below 0 is lifted to 0
lifted : (u a : ℤ) → (le_z (pos 0) a && lt_z a (int_max (pos 0) u)) ≡ (le_z (pos 0) a && lt_z a u)
lifted u a = grind (arith, ints)

regroup : (p z w u : Bool) → (z && w) ≡ (z && u) → ((p && z) && w) ≡ ((p && z) && u)
regroup true z w u e = e
regroup false z w u e = refl

shuffle : (p q r s t u : Bool) → (((p && q) && r) && ((s && t) && u)) ≡ ((p && s) && ((q && t) && (r && u)))
shuffle p q r s t u = grind arith

-- the places that three spans share
pub cut_is : (start end low high p q : ℤ) (size : ℕ) → p ≡ int_max (int_max start low) (pos 0) → q ≡ int_max (pos 0) (int_min (int_min end high) (pos size))
    → (a : ℤ) → between p q a ≡ (between start end a && (between low high a && spans (pos 0) size a))
cut_is start end low high p q size ep eq a =
    let from : le_z p a ≡ ((le_z start a && le_z low a) && le_z (pos 0) a) =
    ap (λ p. le_z p a) ep ∙ le_z_max (int_max start low) (pos 0) a ∙ ap (λ b. b && le_z (pos 0) a) (le_z_max start low a) in
    let to : lt_z a (int_min (int_min end high) (pos size)) ≡ ((lt_z a end && lt_z a high) && lt_z a (pos size)) =
    lt_z_min (int_min end high) (pos size) a ∙ ap (λ b. b && lt_z a (pos size)) (lt_z_min end high a) in
    let lift : (le_z p a && lt_z a q) ≡ (((le_z start a && le_z low a) && le_z (pos 0) a) && ((lt_z a end && lt_z a high) && lt_z a (pos size))) =
    ap (λ b. b && lt_z a q) from ∙ ap (λ q. ((le_z start a && le_z low a) && le_z (pos 0) a) && lt_z a q) eq
    ∙ regroup (le_z start a && le_z low a) (le_z (pos 0) a) _ _ (lifted (int_min (int_min end high) (pos size)) a)
    ∙ ap (λ b. ((le_z start a && le_z low a) && le_z (pos 0) a) && b) to in
    lift ∙ simp zero-add (shuffle (le_z start a) (le_z low a) (le_z (pos 0) a) (lt_z a end) (lt_z a high) (lt_z a (pos size)))

pub apart : (a b p q v w : Bool) → ((a && (p && v)) && (b && (q && w))) ≡ (((a && b) && (p && q)) && (v && w))
apart a b p q v w = grind arith

pub wide : (a b u v : ℤ) → SFits w32 a → SFits w32 b → u ≡ a → v ≡ b → SFits w64 (u +ℤ v)
wide a b u v fa fb eu ev = omega (arith, ints)

pub within_is : (r s t : ℤ) → r ≤ℤ s → s ≡ t → r ≤ℤ t
within_is r s t h e = omega (arith, ints)

pub clamped_fits : (r s : ℤ) (n : ℕ) → n < 65536 → pos 0 ≤ℤ r → r ≤ℤ s → s ≡ pos n → SFits w32 r
clamped_fits r s n h l u e = omega (arith, ints)
