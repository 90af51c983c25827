-- Lines.
use Rattle.std.proofs.Common.{◌≡◌, ℕ, zero, suc, ◌+◌, ◌-◌, ◌*◌, ◌/◌, ◌%◌, ◌<◌, ◌≤◌, Bool, true, false, cond, ◌&&◌, ◌||◌, leb, ℤ, pos, ◌+ℤ◌, ◌-ℤ◌, nat_abs, ◌≤ℤ◌, ◌<ℤ◌, sym, refl, ap, ◌∙◌, subst, inl, inr, mul_assoc, div-lt_iff_lt-mul, add-mul, zero-add, mul_left_comm, arith, w32, w64, SFits}
use Rattle.std.proofs.Math.Bool.{and-false, and-or_distrib_right}
use Rattle.drawing.proofs.Cuts.{le_z_max, lt_z_min}
use lib.Signed.{le_z, lt_z}
use Rattle.std.specs.Int.{int_max, int_min}
use Rattle.std.proofs.lemmas.Int.{ints}
use Rattle.std.proofs.lemmas.Bool.{false_from_ne_true, cond-true, cond-false, le-leb, lt-leb, and_left, and_right, or_from, and_parts, cases_eq, cases_lt}
use Rattle.std.proofs.lemmas.Nat.{div-mul-add, div-add-mod', mod_below, mul-le}
use Rattle.std.proofs.Math.Nat.{mul-le-mul_right}
use Rattle.codes.specs.Modes.{mode_number}
use Rattle.codes.specs.Operations.{mixed}
use Rattle.codes.specs.declared.mode.LineMode.{LineMode}
use Rattle.surface.specs.Meaning.{Meaning, inside, spans, strip}
use Rattle.surface.specs.Rects.{Keep, holds, overlap}
use Rattle.surface.specs.Drawing.{Drawn}
use Rattle.surface.specs.declared.rect.Rect.{Rect}
use Rattle.surface.proofs.Strokes.{Cells, at_set, cell_out, drawn-none, local_more}
use Rattle.pencil.specs.declared.pen.Pen.{Pen}
use Rattle.pencil.specs.declared.pen.Pen.TheVariants as pen
use Rattle.drawing.specs.Areas.{between, coordinate, placed}
use Rattle.drawing.specs.Lines.{columns, rows, longer, shorter, place, spot, toward, traced}
use Rattle.drawing.specs.Tasks.{colour, draws, mixing}
use Rattle.drawing.specs.declared.shape.Point.{Point}
use Rattle.lines.specs.Courses.{Aside, Meets}

pub place-long : (p q : Point) (u v : ℕ) (x y : ℤ) → rows p q ≤ columns p q → x ≡ toward p.x q.x u → y ≡ toward p.y q.y v
    → ◌≡◌ {A = Point} (record { x = x; y = y }) (place p q u v)
place-long p q u v x y h ex ey =
    ap (λ x. record { x = x; y = y }) ex ∙ ap (λ y. record { x = toward p.x q.x u; y = y }) ey ∙ sym (cond-true (leb (rows p q) (columns p q)) _ _ (le-leb _ _ h))

pub place_tall : (p q : Point) (u v : ℕ) (x y : ℤ) → columns p q < rows p q → x ≡ toward p.x q.x v → y ≡ toward p.y q.y u
    → ◌≡◌ {A = Point} (record { x = x; y = y }) (place p q u v)
place_tall p q u v x y h ex ey =
    ap (λ x. record { x = x; y = y }) ex ∙ ap (λ y. record { x = toward p.x q.x v; y = y }) ey ∙ sym (cond-false (leb (rows p q) (columns p q)) _ _ (lt-leb _ _ h))

-- a cell that is none of the first n
untraced : (p q : Point) (n : ℕ) (a b : ℤ) → ((j : ℕ) → j < n → strip (spot p q j).x (spot p q j).y 1 a b ≡ false) → traced p q n a b ≡ false
untraced p q zero a b h = refl
untraced p q (suc n) a b h = or_from (traced p q n a b) _ (untraced p q n a b (λ j l. h j (omega arith))) (h n (omega arith))

toward-apart : (a b : ℤ) (i j : ℕ) → j < i → spans (toward a b j) 1 (toward a b i) ≡ false
toward-apart a b i j h = grind (arith, ints)

pair : ℤ → ℤ → Point
pair x y = record { x = x; y = y }

apart : (w : Bool) (x x' y y' : ℤ) (i j u v : ℕ) → j < i
    → strip (cond w (pair (toward x x' j) (toward y y' u)) (pair (toward x x' u) (toward y y' j))).x (cond w (pair (toward x x' j) (toward y y' u)) (pair (toward x x' u) (toward y y' j))).y 1
    (cond w (pair (toward x x' i) (toward y y' v)) (pair (toward x x' v) (toward y y' i))).x (cond w (pair (toward x x' i) (toward y y' v)) (pair (toward x x' v) (toward y y' i))).y ≡ false
unfolding pair
apart true x x' y y' i j u v h = and_right (spans (toward y y' u) 1 (toward y y' v)) _ (toward-apart x x' i j h)
apart false x x' y y' i j u v h = and_left (spans (toward y y' j) 1 (toward y y' i)) _ (toward-apart y y' i j h)

-- the cells of a line differ
spot-fresh : (p q : Point) (n : ℕ) → traced p q n (spot p q n).x (spot p q n).y ≡ false
unfolding pair
spot-fresh p q n = untraced p q n _ _ (λ j h. apart (leb (rows p q) (columns p q)) p.x q.x p.y q.y n j _ _ h)

-- how far aside, from quotient and rest
aside_is : (aside long rest t : ℕ) → aside * (2 * long) + rest ≡ t → rest < 2 * long → aside ≡ t / (2 * long)
aside_is aside long rest t e h = sym (div-mul-add aside (2 * long) rest h) ∙ ap (λ n. n / (2 * long)) e

or_none : (t s o : Bool) → (t && o) ≡ false → (s && o) ≡ false → ((t || s) && o) ≡ false
or_none true s o e f = e
or_none false s o e f = f

or_skip : (t s o : Bool) → (s && o) ≡ false → ((t || s) && o) ≡ (t && o)
or_skip true s o f = refl
or_skip false s o f = f

module _ (p q : Point) (rect : Rect) where
  -- the first cells of a line, where none lies in a rectangle
  traced-none : (n : ℕ) → ((j : ℕ) → j < n → holds rect (spot p q j).x (spot p q j).y ≡ false) → (a b : ℤ) → (traced p q n a b && holds rect a b) ≡ false
  traced-none zero h a b = refl
  traced-none (suc n) h a b =
      or_none (traced p q n a b) (strip (spot p q n).x (spot p q n).y 1 a b) (holds rect a b) (traced-none n (λ j l. h j (omega arith)) a b)
      (cell_out (holds rect) (spot p q n).x (spot p q n).y a b (h n (omega arith)))

  -- more cells of a line, where none of them lies in a rectangle
  traced-past : (n l : ℕ) → n ≤ l → ((j : ℕ) → n ≤ j → j < l → holds rect (spot p q j).x (spot p q j).y ≡ false)
      → (a b : ℤ) → (traced p q n a b && holds rect a b) ≡ (traced p q l a b && holds rect a b)
  traced-past n zero h none a b = let e : n ≡ 0 = omega arith in ap (λ n. traced p q n a b && holds rect a b) e
  traced-past n (suc l) h none a b =
      elim (cases_eq n (suc l)) [
        | inl e ↦ ap (λ n. traced p q n a b && holds rect a b) e
        | inr ne ↦ traced-past n l (omega arith) (λ j u v. none j u (omega arith)) a b
            ∙ sym (or_skip (traced p q l a b) (strip (spot p q l).x (spot p q l).y 1 a b) (holds rect a b)
            (cell_out (holds rect) (spot p q l).x (spot p q l).y a b (none l (omega arith) (omega arith))))
      ]

  -- a line before the first place in a rectangle, and after the last
  pub trace_none : (first last : ℕ) → Meets p q rect first last → first ≤ longer p q → (a b : ℤ) → (traced p q first a b && holds rect a b) ≡ false
  trace_none first last m h = traced-none first (λ j l. false_from_ne_true _ (λ t. let f = m.places j _ (omega arith) t in omega arith))

  pub trace_all : (first last : ℕ) → Meets p q rect first last → (a b : ℤ) → (traced p q last a b && holds rect a b) ≡ (traced p q (longer p q) a b && holds rect a b)
  trace_all first last m = traced-past last (longer p q) m.end (λ j u v. false_from_ne_true _ (λ t. let f = m.places j _ v t in omega arith))

  pub trace_empty : (first last : ℕ) → Meets p q rect first last → last ≤ first → (a b : ℤ) → (traced p q (longer p q) a b && holds rect a b) ≡ false
  trace_empty first last m h = traced-none (longer p q) (λ j l. false_from_ne_true _ (λ t. let f = m.places j _ l t in omega arith))

  -- a line that lies on one side of a rectangle
  pub trace_missed : ((i : ℕ) → i < longer p q → holds rect (spot p q i).x (spot p q i).y ≡ false) → (a b : ℤ) → (traced p q (longer p q) a b && holds rect a b) ≡ false
  trace_missed h = traced-none (longer p q) h

  module _ {R : Type 0} (mode : LineMode) (ink : ℕ) (m m' m'' : Meaning) (k k' k'' : Keep) (z z' z'' : R) where
    split : (n : ℕ) (c : Point) → c ≡ spot p q n → (a b : ℤ)
        → (traced p q (suc n) a b && holds rect a b) ≡ ((traced p q n a b && holds rect a b) || (strip c.x c.y 1 a b && holds rect a b))
    split n c e a b =
        ap (λ c. (traced p q n a b || strip c.x c.y 1 a b) && holds rect a b) (sym e) ∙ and-or_distrib_right (traced p q n a b) (strip c.x c.y 1 a b) (holds rect a b)

    fresh : (n : ℕ) (c : Point) → c ≡ spot p q n → (a b : ℤ) → (strip c.x c.y 1 a b && holds rect a b) ≡ true → (traced p q n a b && holds rect a b) ≡ false
    fresh n c e a b h =
        and_left (traced p q n a b) _
        (at_set (traced p q n) c.x c.y a b (and_parts (strip c.x c.y 1 a b) _ h).0 ∙ ap (λ c. traced p q n c.x c.y) e ∙ spot-fresh p q n)

    -- a line, one cell on
    pub trace_step : (n n' : ℕ) (c : Point) → n' ≡ suc n → c ≡ spot p q n
        → Drawn (λ a b. traced p q n a b && holds rect a b) (mixing mode ink m) m k z m' k' z'
        → Drawn (λ a b. strip c.x c.y 1 a b && holds rect a b) (mixing mode ink m') m' k' z' m'' k'' z''
        → Drawn (λ a b. traced p q n' a b && holds rect a b) (mixing mode ink m) m k z m'' k'' z''
    trace_step n n' c en is d e =
        simp en (local_more _ _ _ (λ _ _ d. mixed (mode_number mode) ink d) m m' m'' k k' k'' z z' z'' (split n c is) (fresh n c is) d e)

-- a line leads no further aside than to its end
aside-near : (i short long : ℕ) → i < long → short ≤ long → (2 * (i * short) + long) / (2 * long) ≤ short
aside-near i short long h k =
    let m : (i + 1) * short ≤ long * short = mul-le-mul_right short (omega arith) in
    let d : (2 * (i * short) + long) / (2 * long) < short + 1 = (div-lt_iff_lt-mul {k = 2 * long} (omega arith)).1 (omega (arith, add-mul i 1 short, add-mul short 1 (2 * long), mul_left_comm short 2 long)) in
    omega arith

-- a way that lies before a range, or behind it
pub way_before : (a b s e m : ℤ) → m ≡ int_max a b → lt_z m s ≡ true → (n : ℕ) → n ≤ nat_abs (a -ℤ b) → between s e (toward a b n) ≡ false
way_before a b s e m f t n h = grind (arith, ints)

pub way_behind : (a b s e m : ℤ) → m ≡ int_min a b → le_z e m ≡ true → (n : ℕ) → n ≤ nat_abs (a -ℤ b) → between s e (toward a b n) ≡ false
way_behind a b s e m f t n h = grind (arith, ints)

-- and a line whose way across or down misses a rectangle
pub missed_across : (p q : Point) (r : Rect) → ((n : ℕ) → n ≤ columns p q → between r.left r.right (toward p.x q.x n) ≡ false)
    → (i : ℕ) → i < longer p q → holds r (spot p q i).x (spot p q i).y ≡ false
missed_across p q r h i l =
    let a = aside-near i (shorter p q) (longer p q) l (omega arith) in
    elim (cases_lt (columns p q) (rows p q)) [
      | inr w ↦ let e = h i (omega arith) in let t : leb (rows p q) (columns p q) ≡ true = le-leb _ _ w in rw t (rw e refl)
      | inl w ↦ let e = h ((2 * (i * shorter p q) + longer p q) / (2 * longer p q)) (omega arith) in let t : leb (rows p q) (columns p q) ≡ false = lt-leb _ _ w in rw t (rw e refl)
    ]

pub missed_down : (p q : Point) (r : Rect) → ((n : ℕ) → n ≤ rows p q → between r.top r.bottom (toward p.y q.y n) ≡ false)
    → (i : ℕ) → i < longer p q → holds r (spot p q i).x (spot p q i).y ≡ false
missed_down p q r h i l =
    let a = aside-near i (shorter p q) (longer p q) l (omega arith) in
    elim (cases_lt (columns p q) (rows p q)) [
      | inr w ↦ let e = h ((2 * (i * shorter p q) + longer p q) / (2 * longer p q)) (omega arith) in let t : leb (rows p q) (columns p q) ≡ true = le-leb _ _ w in rw t (rw e (and-false _))
      | inl w ↦ let e = h i (omega arith) in let t : leb (rows p q) (columns p q) ≡ false = lt-leb _ _ w in rw t (rw e (and-false _))
    ]

-- the cell that lies so far aside
pub spot_is : (p q c : Point) (along n aside rest : ℕ) → Aside (shorter p q) (longer p q) n aside rest → along ≡ n → c ≡ place p q along aside → c ≡ spot p q n
spot_is p q c along n aside rest w ea ec =
    let t : aside ≡ (2 * (n * shorter p q) + longer p q) / (2 * longer p q) = aside_is aside (longer p q) rest _ w.sum w.small in
    ec ∙ ap (λ m. place p q m aside) ea ∙ ap (place p q n) t

pub aside_carry : (aside rest along short long rise run : ℕ) → rise ≡ 2 * short → run ≡ 2 * long → short ≤ long → Aside short long along aside rest → run ≤ rest + rise
    → Aside short long (along + 1) (aside + 1) (rest + rise - run)
aside_carry aside rest along short long rise run er eu less w h =
    let s = w.sum in
    let n = w.near in
    let r = w.small in
    record { sum = omega (arith, add-mul along 1 short, add-mul aside 1 (2 * long)); small = omega arith; near = omega arith }

way_small : (a b : ℤ) → coordinate a ≡ true → coordinate b ≡ true → nat_abs (a -ℤ b) < 262144
way_small a b p q = grind (arith, ints)

-- the coordinates of two points in range
pub record Ends (p q : Point) : Type 0 where
  pub px : coordinate p.x ≡ true
  pub py : coordinate p.y ≡ true
  pub qx : coordinate q.x ≡ true
  pub qy : coordinate q.y ≡ true

pub ends : (p q : Point) → (placed p && placed q) ≡ true → Ends p q
ends p q e =
    let h = and_parts (placed p) (placed q) e in
    let f = and_parts (coordinate p.x) (coordinate p.y) h.0 in
    let t = and_parts (coordinate q.x) (coordinate q.y) h.1 in
    record { px = f.0; py = f.1; qx = t.0; qy = t.1 }

pub sides_small : (p q : Point) → (placed p && placed q) ≡ true → (longer p q < 262144) × (shorter p q ≤ longer p q)
sides_small p q e =
    let s = ends p q e in
    let x = way_small p.x q.x s.px s.qx in
    let y = way_small p.y q.y s.py s.qy in
    (omega arith, omega arith)

-- towards a smaller number, and towards a larger
pub falling : (a b low high : ℤ) (i : ℕ) → lt_z b a ≡ true → between low high (toward a b i) ≡ true → (low ≤ℤ (a -ℤ pos i)) × ((a -ℤ pos i) <ℤ high)
falling a b low high i h t = (grind (arith, ints), grind (arith, ints))

pub rising : (a b low high : ℤ) (i : ℕ) → lt_z b a ≡ false → between low high (toward a b i) ≡ true → (low ≤ℤ (a +ℤ pos i)) × ((a +ℤ pos i) <ℤ high)
rising a b low high i h t = (grind (arith, ints), grind (arith, ints))

-- what a line's cell in a rectangle says of its place along the longer way
pub along_across : (p q : Point) (r : Rect) (i v : ℕ) → rows p q ≤ columns p q → holds r (place p q i v).x (place p q i v).y ≡ true
    → between r.left r.right (toward p.x q.x i) ≡ true
along_across p q r i v h t =
    let e = place-long p q i v _ _ h refl refl in
    (and_parts (between r.left r.right (toward p.x q.x i)) _ (ap (λ c. holds r c.x c.y) e ∙ t)).0

pub along_down : (p q : Point) (r : Rect) (i v : ℕ) → columns p q < rows p q → holds r (place p q i v).x (place p q i v).y ≡ true
    → between r.top r.bottom (toward p.y q.y i) ≡ true
along_down p q r i v h t =
    let e = place_tall p q i v _ _ h refl refl in
    (and_parts (between r.left r.right (toward p.x q.x v)) _ (ap (λ c. holds r c.x c.y) e ∙ t)).1

-- what a clip and a picture share
crossed : (a b c d : Bool) → ((a && b) && (c && d)) ≡ ((a && c) && (b && d))
crossed a b c d = grind arith

between-both : (l l' r r' a : ℤ) → between (int_max l l') (int_min r r') a ≡ (between l r a && between l' r' a)
between-both l l' r r' a =
    ap (λ t. t && lt_z a (int_min r r')) (le_z_max l l' a) ∙ ap (λ t. (le_z l a && le_z l' a) && t) (lt_z_min r r' a) ∙ crossed (le_z l a) (le_z l' a) (lt_z a r) (lt_z a r')

pub overlap-holds : (p q : Rect) (a b : ℤ) → holds (overlap p q) a b ≡ (holds p a b && holds q a b)
overlap-holds p q a b =
    ap (λ t. t && between (int_max p.top q.top) (int_min p.bottom q.bottom) b) (between-both p.left q.left p.right q.right a)
    ∙ ap (λ t. (between p.left p.right a && between q.left q.right a) && t) (between-both p.top q.top p.bottom q.bottom b)
    ∙ crossed (between p.left p.right a) (between q.left q.right a) (between p.top p.bottom b) (between q.top q.bottom b)

abbrev pub page : ℤ → ℤ → Rect
page w h = record { left = pos 0; top = pos 0; right = w; bottom = h }

pub page-holds : (u v : ℤ) (w h : ℕ) → u ≡ pos w → v ≡ pos h → (a b : ℤ) → holds (page u v) a b ≡ inside w h a b
page-holds u v w h eu ev a b = ap (λ u. holds (page u v) a b) eu ∙ ap (λ v. holds (page (pos w) v) a b) ev ∙ simp zero-add

module _ {R : Type 0} where
  -- a pen that draws, and one that does not
  pub pen_draws : (t : Pen) (c : ℕ) (cells : Cells) (mode : LineMode) (m m' : Meaning) (k k' : Keep) (z z' : R) → t ≡ pen.Solid c
      → Drawn cells (mixing mode c m) m k z m' k' z' → Drawn (λ a b. draws t && cells a b) (mixing mode (colour t) m) m k z m' k' z'
  pen_draws t c cells mode m m' k k' z z' e d = subst (λ t. Drawn (λ a b. draws t && cells a b) (mixing mode (colour t) m) m k z m' k' z') (sym e) d

  pub pen_idle : (t : Pen) (cells : Cells) (mode : LineMode) (m : Meaning) (k : Keep) (z : R) → t ≡ pen.Null
      → Drawn (λ a b. draws t && cells a b) (mixing mode (colour t) m) m k z m k z
  pen_idle t cells mode m k z e = drawn-none _ _ m k z (λ a b. ap (λ t. draws t && cells a b) e)

-- how far aside a line is, by division
pub aside_div : (along short long t n : ℕ) → 0 < long → short ≤ long → t ≡ 2 * along * short + long → n ≡ 2 * long → Aside short long along (t / n) (t % n)
aside_div along short long t n h less et en =
    let e : t ≡ 2 * (along * short) + long = omega (arith, mul_assoc 2 along short) in
    let s = div-add-mod' t n in
    let r : t % n < n = mod_below t n (omega arith) in
    let top : t < (along + 1) * n = omega (arith, mul-le along (2 * short) along n (omega arith) (omega arith), mul_left_comm along 2 short, add-mul along 1 n) in
    record {
      sum = ap (λ w. t / n * w + t % n) (sym en) ∙ s ∙ e;
      small = omega arith;
      near = let l : t / n < along + 1 = (div-lt_iff_lt-mul (omega arith)).1 top in omega arith;
    }

pub aside_of : (along short long a s l n : ℕ) → along < long → short ≤ long → a ≡ along → s ≡ short → l ≡ long → n ≡ long
    → Aside short long along ((2 * a * s + l) / (2 * n)) ((2 * a * s + l) % (2 * n))
aside_of along short long a s l n h less ea es el en =
    aside_div along short long (2 * a * s + l) (2 * n) (omega arith) less
    (ap (λ a. 2 * a * s + l) ea ∙ ap (λ s. 2 * along * s + l) es ∙ ap (λ l. 2 * along * short + l) el) (ap (λ n. 2 * n) en)

pub shown_cells : (t h c i : Bool) → h ≡ (c && i) → (t && h) ≡ ((t && c) && i)
shown_cells true h c i e = e
shown_cells false h c i e = refl

-- differences of two numbers of 32 bits
module _ (a b u v : ℤ) (fa : SFits w32 a) (fb : SFits w32 b) (eu : u ≡ a) (ev : v ≡ b) where
  pub gap_fits : SFits w64 (u -ℤ v)
  gap_fits = omega (arith, ints)

  pub more-fits : SFits w64 ((u -ℤ v) +ℤ pos 1)
  more-fits = omega (arith, ints)

module _ (a b u v : ℤ) (i : ℕ) (eu : u ≡ a) (ev : v ≡ b) where
  pub down-first : (a -ℤ pos i) <ℤ b → ((u -ℤ v) +ℤ pos 1) ≤ℤ pos i
  down-first h = omega (arith, ints)

  pub down-last : b ≤ℤ (a -ℤ pos i) → pos i <ℤ ((u -ℤ v) +ℤ pos 1)
  down-last h = omega (arith, ints)

  pub up_first : a ≤ℤ (b +ℤ pos i) → (u -ℤ v) ≤ℤ pos i
  up_first h = omega (arith, ints)

  pub up_last : (b +ℤ pos i) <ℤ a → pos i <ℤ (u -ℤ v)
  up_last h = omega (arith, ints)
