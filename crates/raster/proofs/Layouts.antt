-- Which units a part of a row has, and which cells a strip reaches.
use Rattle.std.proofs.Common.{◌≡◌, ℕ, ◌+◌, ◌-◌, ◌*◌, ◌/◌, ◌%◌, ◌^◌, ◌<◌, ◌≤◌, Bool, true, false, cond, ◌&&◌, leb, ◌⊎◌, ℤ, pos, nat_abs, sym, refl, ◌∙◌, subst, inl, inr, ⊎_elim, add-mul, arith}
use Rattle.std.proofs.lemmas.Nat.{div-add-mod', mod_below, mul-le}
use Rattle.std.proofs.lemmas.Int.{ints}
use Rattle.std.proofs.lemmas.Bool.{cases_eq, cases_lt, cases_Bool, and_parts, and_left, and_right, le-leb}
use Rattle.std.proofs.lemmas.Bool.Decides.{nat_tests}
use Rattle.surface.specs.Meaning.{spans, inside, strip}
use Rattle.raster.specs.Bits.{among}
use Rattle.raster.specs.Laid.{in_row, natural}
use Rattle.raster.specs.Layout.{has_row, has, Redrawn, row_there}

and_true : (t : Bool) → (t && true) ≡ t
and_true true = refl
and_true false = refl

one : (y z : ℤ) → spans y 1 z ≡ true → z ≡ y
one y z h = grind (arith, ints)

seen : (from to k : ℕ) → from ≤ to → spans (pos from) (to - from) (pos k) ≡ among from to k
seen from to k h = let e : from + (to - from) ≡ to = omega arith in grind (arith, nat_tests)

-- row y of a picture that the memory has place for
pub row_end : (h r n y : ℕ) → h * r ≤ n → y < h → y * r + r ≤ n
row_end h r n y fit lt = let k = mul-le (y + 1) r h r (omega arith) (omega arith) in omega (arith, add-mul y 1 r)

pub row_here : (h r n y : ℕ) → h * r ≤ n → y < h → has_row h (row_there r n) (pos y) ≡ true
row_here h r n y fit lt =
    let a : spans (pos 0) h (pos y) ≡ true = grind (arith, nat_tests) in
    let b : leb (y * r + r) n ≡ true = le-leb _ _ (row_end h r n y fit lt) in
    cc

-- unit i stands in row Y, of p units
pub row_of : (p i Y : ℕ) → 0 < p → i / p ≡ Y → (Y * p ≤ i) × (i < Y * p + p)
row_of p i Y s e = let q = rw e at (div-add-mod' i p) in let r = mod_below i p s in (omega arith, omega arith)

module _ (w h p d : ℕ) (there : ℤ → Bool) (Y : ℕ) (row : has_row h there (pos Y) ≡ true) where
  -- the columns from..to of row Y
  module _ (wp : w ≤ p) (from to : ℕ) (ft : from ≤ to) (tw : to ≤ w) where
    module _ (i : ℕ) where
      abbrev pub Reach : Type 0
      Reach =
          among (Y * p + from) (Y * p + to) i
          ≡ (strip (pos from) (pos Y) (to - from) (pos (i % p)) (pos (i / p)) && has w h there (pos (i % p)) (pos (i / p)))

      within : Y * p ≤ i → i < Y * p + p → Reach
      within lo hi =
          let e = in_row p i Y lo hi in
          let u : spans (pos Y) 1 (pos (i / p)) ≡ true = grind (arith, nat_tests) in
          let k : has_row h there (pos (i / p)) ≡ true = subst (λ z. has_row h there (pos z) ≡ true) (sym e.0) row in
          ⊎_elim
          (λ lt.
          let s = seen from to (i % p) ft in
          let a : among (Y * p + from) (Y * p + to) i ≡ among from to (i % p) = grind (arith, nat_tests) in
          let q : spans (pos 0) w (pos (i % p)) ≡ true = grind (arith, nat_tests) in
          let b = and_true (among from to (i % p)) in
          cc)
          (λ ge.
          let a : among (Y * p + from) (Y * p + to) i ≡ false = grind (arith, nat_tests) in
          let q : spans (pos 0) w (pos (i % p)) ≡ false = grind (arith, nat_tests) in
          a ∙ sym (and_right _ _ (and_left _ _ q)))
          (cases_lt (i % p) w)

      beside : (i < Y * p) ⊎ (Y * p + p ≤ i) → Reach
      beside out =
          let a : among (Y * p + from) (Y * p + to) i ≡ false = grind (arith, nat_tests) in
          a ∙ sym (⊎_elim
          (λ e. ⊎_elim
          (λ some. let o = row_of p i Y some e in absurd (⊎_elim (λ lt. omega arith) (λ ge. omega arith) out))
          (λ none. let q : spans (pos 0) w (pos (i % p)) ≡ false = grind (arith, nat_tests) in and_right _ _ (and_left _ _ q))
          (cases_lt 0 p))
          (λ ne. let u : spans (pos Y) 1 (pos (i / p)) ≡ false = grind (arith, nat_tests) in and_left _ _ (and_left _ _ u))
          (cases_eq (i / p) Y))

      pub reach : Reach
      reach =
          ⊎_elim
          (λ lt. beside (inl lt))
          (λ lo. ⊎_elim (within lo) (λ ge. beside (inr ge)) (cases_lt i (Y * p + p)))
          (cases_lt i (Y * p))

    pub redrawn_row : (old new : ℕ → ℕ) (v : ℕ) → ((i : ℕ) → new i ≡ cond (among (Y * p + from) (Y * p + to) i) (v % 2 ^ d) (old i))
        → Redrawn w h p d there (strip (pos from) (pos Y) (to - from)) v old new
    redrawn_row old new v f = record { units = λ i. let r = reach i in let t = f i in cc }

-- the cells of a picture that a strip reaches
module _ (w h : ℕ) where
  -- those of a row are the columns that it is cut to
  pub clipped : (x : ℤ) (n from to Y : ℕ) → from ≤ to → ((k : ℕ) → k < w → spans x n (pos k) ≡ among from to k)
      → (a b : ℤ) → (strip (pos from) (pos Y) (to - from) a b && inside w h a b) ≡ (strip x (pos Y) n a b && inside w h a b)
  clipped x n from to Y ft same a b =
      ⊎_elim
      (λ t.
      let k = natural a w t in
      let s = same (nat_abs a) k.1 in
      let u = seen from to (nat_abs a) ft in
      let e : spans (pos from) (to - from) a ≡ spans x n a = subst (λ z. spans (pos from) (to - from) z ≡ spans x n z) (sym k.0) (u ∙ sym s) in
      cc)
      (λ f.
      let z : inside w h a b ≡ false = and_left _ _ f in
      and_right (strip (pos from) (pos Y) (to - from) a b) _ z ∙ sym (and_right (strip x (pos Y) n a b) _ z))
      (cases_Bool (spans (pos 0) w a))

  -- a strip of a row that is none has none
  pub missed : (x y : ℤ) (n : ℕ) → spans (pos 0) h y ≡ false → (a b : ℤ) → false ≡ (strip x y n a b && inside w h a b)
  missed x y n none a b =
      ⊎_elim
      (λ t.
      let z : spans (pos 0) h b ≡ false = subst (λ z. spans (pos 0) h z ≡ false) (sym (one y b t)) none in
      sym (and_right (strip x y n a b) _ (and_right (spans (pos 0) w a) _ z)))
      (λ f. sym (and_left _ _ (and_left _ _ f)))
      (cases_Bool (spans y 1 b))

  -- a cell outside the size is none
  pub apart : (x y : ℤ) → inside w h x y ≡ false → (a b : ℤ) → false ≡ (strip x y 1 a b && inside w h a b)
  apart x y out a b =
      ⊎_elim
      (λ t.
      let p = and_parts (spans y 1 b) (spans x 1 a) t in
      let q = one y b p.0 in
      let r = one x a p.1 in
      let z : inside w h a b ≡ false = subst (λ s. inside w h s b ≡ false) (sym r) (subst (λ s. inside w h x s ≡ false) (sym q) out) in
      sym (and_right (strip x y 1 a b) _ z))
      (λ f. sym (and_left _ _ f))
      (cases_Bool (strip x y 1 a b))
