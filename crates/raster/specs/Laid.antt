-- Laws of pictures that lie in a memory row after row.
use Rattle.std.specs.Prelude.{◌≡◌, ℕ, ◌+◌, ◌-◌, ◌*◌, ◌/◌, ◌%◌, ◌^◌, ◌<◌, ◌≤◌, Bool, true, false, cond, ◌&&◌, List, length, ℤ, pos, negsuc, ◌==◌, refl}
use Rattle.std.proofs.Common.{leb, nat_abs, sym, ap, ◌∙◌, ⊎_elim, add-mul, arith, eq-eqb, eqb-true}
use Rattle.std.proofs.lemmas.Nat.{div-mul-add, mod-mul-add, mul-le}
use Rattle.std.proofs.lemmas.Bool.{cases_Bool, and_parts, and_right, false≢true, le-leb}
use Rattle.std.proofs.lemmas.Bool.Decides.{nat_tests}
use Rattle.std.specs.Borrow.{GName}
use Rattle.surface.specs.Meaning.{Meaning, Sound, Frame, frame, spans, inside, drawn}
use Rattle.raster.specs.Lawful.{Sides, Lawful}
use Rattle.raster.specs.Layout.{has_row, has, laid, Redrawn, others, row_there, rest_of, Untouched}
use Rattle.raster.specs.declared.size.Size.{Size}

pub sides : (s : Size) → Sides s.width s.height
sides s = record { wide = s.wide; high = s.high; both = s.both }

-- what no draw changes holds the frame
pub frame_stays : {depth : ℕ} {needed : ℕ → ℕ → ℕ} {shows : ℕ → ℕ → List ℕ → Meaning} {spare : ℕ → ℕ → List ℕ → ℕ → ℕ}
    {Redraws : ℕ → ℕ → List ℕ → (ℤ → ℤ → Bool) → ℕ → List ℕ → Type 0} → Lawful depth needed shows spare Redraws
    → (w h w' h' : ℕ) (m m' : List ℕ) (l l' : GName) → needed w h ≤ length m → needed w' h' ≤ length m'
    → rest_of spare w h m l ≡ rest_of spare w' h' m' l' → frame (shows w h m) ≡ frame (shows w' h' m')
frame_stays {depth = depth} laws w h w' h' m m' l l' fit fit' e =
    let f : Untouched → Frame = λ r. record { width = r.width; height = r.height; depth = depth; opens = inside r.width r.height } in
    laws.framed w h m fit ∙ ap f e ∙ sym (laws.framed w' h' m' fit')

below : (t : Bool) (b k : ℕ) → 0 < k → b < k → cond t b 0 < k
below true b k z h = h
below false b k z h = z

left : (s t u : Bool) → (s && t) ≡ false → (s && (t && u)) ≡ false
left true true u e = cc
left true false u e = refl
left false t u e = refl

none : (a b : ℕ) → (a == 0) ≡ (b == 0) → b ≡ 0 → a ≡ 0
none a b e z = eqb-true a 0 (e ∙ eq-eqb b 0 z)

pub natural : (x : ℤ) (w : ℕ) → spans (pos 0) w x ≡ true → (x ≡ pos (nat_abs x)) × (nat_abs x < w)
natural (pos a) w h = (refl, grind (arith, nat_tests))
natural (negsuc a) w h = absurd (false≢true h)

-- a picture whose rows all lie in the memory has all its cells open
pub all_open : (w h r n : ℕ) → h * r ≤ n → (x y : ℤ) → has w h (row_there r n) x y ≡ inside w h x y
all_open w h r n fit x y =
    let row : has_row h (row_there r n) y ≡ spans (pos 0) h y =
    ⊎_elim
    (λ t.
    let k = mul-le (nat_abs y + 1) r h r (omega (arith, (natural y h t).1)) (omega arith) in
    let l : leb (nat_abs y * r + r) n ≡ true = le-leb _ _ (omega (arith, add-mul (nat_abs y) 1 r)) in
    cc)
    (λ f. cc)
    (cases_Bool (spans (pos 0) h y)) in
    cc

-- unit i stands in row Y, of p units
pub in_row : (p i Y : ℕ) → Y * p ≤ i → i < Y * p + p → (i / p ≡ Y) × (i % p ≡ i - Y * p)
in_row p i Y lo hi =
    let b : i - Y * p < p = omega arith in
    let e : Y * p + (i - Y * p) ≡ i = omega arith in
    (rw e at (div-mul-add Y p (i - Y * p) b), rw e at (mod-mul-add Y p (i - Y * p) b))

module _ (w h p d : ℕ) (there : ℤ → Bool) where
  outside : (x y : ℤ) → inside w h x y ≡ false → has w h there x y ≡ false
  outside x y e = left (spans (pos 0) w x) (spans (pos 0) h y) (there y) e

  pub laid_sound : (unit : ℕ → ℕ) → Sides w h → 1 ≤ d → d ≤ 16 → 0 < 2 ^ d → ((i : ℕ) → unit i < 2 ^ d) → Sound (laid w h p d there unit)
  laid_sound unit sides deep shallow some small = record {
    wide = sides.wide;
    high = sides.high;
    no_column = none w h sides.both;
    no_row = none h w (sym sides.both);
    deep = deep;
    shallow = shallow;
    fits = λ x y. below (has w h there x y) (unit (nat_abs y * p + nat_abs x)) (2 ^ d) some (small (nat_abs y * p + nat_abs x));
    blank_outside = λ x y e. ap (λ (t : Bool). cond t (unit (nat_abs y * p + nat_abs x)) 0) (outside x y e);
    shut_outside = outside;
  }

  module _ (wp : w ≤ p) (old new : ℕ → ℕ) (region : ℤ → ℤ → Bool) (v : ℕ) (r : Redrawn w h p d there region v old new) where
    pub redrawn_picture : laid w h p d there new ≡ drawn region (λ _ _. v) (laid w h p d there old)
    redrawn_picture =
        let words : (x y : ℤ) → (laid w h p d there new).word x y ≡ (drawn region (λ _ _. v) (laid w h p d there old)).word x y =
        λ x y.
        let place = nat_abs y * p + nat_abs x in
        ⊎_elim
        (λ t.
        let a = natural x w (and_parts _ _ t).0 in
        let b = natural y h (and_parts _ _ (and_parts _ _ t).1).0 in
        let e = in_row p place (nat_abs y) (omega arith) (omega arith) in
        let c : place % p ≡ nat_abs x = omega arith in
        let u = r.units place in
        cc)
        (λ f. let z = and_right (region x y) _ f in cc)
        (cases_Bool (has w h there x y)) in
        λ i. record { width = w; height = h; depth = d; word = λ x y. words x y i; opens = has w h there }

    -- a draw leaves the units that are no cell's
    pub redrawn_others : (i : ℕ) → others w h p there new i ≡ others w h p there old i
    redrawn_others i =
        ⊎_elim
        (λ t. cc)
        (λ f. let z = and_right (region (pos (i % p)) (pos (i / p))) _ f in let u = r.units i in cc)
        (cases_Bool (has w h there (pos (i % p)) (pos (i / p))))

  -- only the open cells of a region count
  pub redrawn_alike : (old new : ℕ → ℕ) (r s : ℤ → ℤ → Bool) (v : ℕ) → ((x y : ℤ) → (r x y && has w h there x y) ≡ (s x y && has w h there x y))
      → Redrawn w h p d there r v old new → Redrawn w h p d there s v old new
  redrawn_alike old new r s v same q = record { units = λ i. let e = same (pos (i % p)) (pos (i / p)) in let u = q.units i in cc }
