-- Drawings of nothing, one after another, and of the same cells.
use Rattle.std.proofs.Common.{◌≡◌, ℕ, ◌%◌, ◌^◌, Bool, true, false, cond, ◌&&◌, ◌||◌, T, ℤ, sym, refl, ap, ◌∙◌, subst, ⊎_elim, arith}
use mathlib.Core.Path.{fun_ext}
use Rattle.std.proofs.lemmas.Int.{ints}
use Rattle.std.proofs.lemmas.Bool.{and_left, and_right, cases_Bool}
use Rattle.surface.specs.Meaning.{Meaning, Sound, drawn, filled, inside, strip}
use Rattle.surface.specs.Rects.{Keep, Kept}
use Rattle.surface.specs.Drawing.{Drawn}
use Rattle.surface.proofs.Keeping.{kept_none, kept_same, kept_after}

abbrev pub Cells : Type 0
Cells = ℤ → ℤ → Bool

abbrev pub Shades : Type 0
Shades = ℤ → ℤ → ℕ

-- a meaning with other words
pub with_words : (m : Meaning) (f g : Shades) → ((x y : ℤ) → f x y ≡ g x y)
    → ◌≡◌ {A = Meaning} (record { width = m.width; height = m.height; depth = m.depth; word = f; opens = m.opens })
    (record { width = m.width; height = m.height; depth = m.depth; word = g; opens = m.opens })
with_words m f g e = λ i. record { width = m.width; height = m.height; depth = m.depth; word = λ x y. e x y i; opens = m.opens }

cell_none : (r o : Bool) (a b : ℕ) → r ≡ false → b ≡ cond (r && o) a b
cell_none r o a b e = simp e refl

cell_more : (q r s o : Bool) (f g w : ℕ) → q ≡ (r || s) → (s ≡ true → g ≡ f) → cond (s && o) g (cond (r && o) f w) ≡ cond (q && o) f w
cell_more q true true true f g w e h = simp (e, h refl)
cell_more q true true false f g w e h = simp e
cell_more q true false o f g w e h = simp e
cell_more q false true o f g w e h = simp (e, h refl)
cell_more q false false o f g w e h = simp e

not_false : (b : Bool) → b ≡ false → T b → ⊥
not_false b e t = subst T e t

-- an open cell lies inside the size
pub opens_inside : (h r i o : Bool) → h ≡ (r && i) → (i ≡ false → o ≡ false) → (h && o) ≡ (r && o)
opens_inside h r true o e f = simp e (elim r as (λ r. ((r && true) && o) ≡ (r && o)) [ true ↦ refl | false ↦ refl ])
opens_inside h r false o e f = simp (e, f refl) (elim r as (λ r. ((r && false) && false) ≡ (r && false)) [ true ↦ refl | false ↦ refl ])

at_cell : (x y a b : ℤ) → strip x y 1 a b ≡ true → (x ≡ a) × (y ≡ b)
at_cell x y a b h = grind (arith, ints)

module _ {R : Type 0} where
  -- no cell
  pub drawn-none : (r : Cells) (f : Shades) (m : Meaning) (k : Keep) (z : R) → ((x y : ℤ) → r x y ≡ false) → Drawn r f m k z m k z
  drawn-none r f m k z e = record {
    picture = with_words m m.word _ (λ x y. cell_none (r x y) (m.opens x y) _ _ (e x y));
    kept = kept_none k _ (λ x y. not_false (r x y && m.opens x y) (simp (e x y)));
    rest = refl;
  }

  -- the same open cells
  pub drawn_like : (r q : Cells) (f : Shades) (m m' : Meaning) (k k' : Keep) (z z' : R)
      → ((x y : ℤ) → (r x y && m.opens x y) ≡ (q x y && m.opens x y)) → Drawn r f m k z m' k' z' → Drawn q f m k z m' k' z'
  drawn_like r q f m m' k k' z z' e d = record {
    picture = d.picture ∙ with_words m _ _ (λ x y. ap (λ b. cond b (f x y % 2 ^ m.depth) (m.word x y)) (e x y));
    kept = kept_same _ _ e d.kept;
    rest = d.rest;
  }

  -- the same words
  pub drawn_as : (r : Cells) (f g : Shades) (m m' : Meaning) (k k' : Keep) (z z' : R) → ((a b : ℤ) → f a b ≡ g a b) → Drawn r f m k z m' k' z' → Drawn r g m k z m' k' z'
  drawn_as r f g m m' k k' z z' e = subst (λ f. Drawn r f m k z m' k' z') (fun_ext (λ a. fun_ext (e a)))

  -- a drawing and then another, which gives each of its cells what the whole gives it
  pub drawn-more : (q r s : Cells) (f g : Shades) (m m' m'' : Meaning) (k k' k'' : Keep) (z z' z'' : R)
      → ((x y : ℤ) → q x y ≡ (r x y || s x y)) → ((x y : ℤ) → s x y ≡ true → g x y ≡ f x y)
      → Drawn r f m k z m' k' z' → Drawn s g m' k' z' m'' k'' z'' → Drawn q f m k z m'' k'' z''
  drawn-more q r s f g m m' m'' k k' k'' z z' z'' split same d e = record {
    picture = e.picture ∙ ap (drawn s g) d.picture
        ∙ with_words m _ _ (λ x y. cell_more (q x y) (r x y) (s x y) (m.opens x y) _ _ _ (split x y) (λ t. ap (λ n. n % 2 ^ m.depth) (same x y t)));
    kept = kept_same _ _ (λ x y. ap (λ t. t && m.opens x y) (sym (split x y)))
        (kept_after m.opens m'.opens r s (ap (λ m. m.opens) d.picture) d.kept e.kept);
    rest = e.rest ∙ d.rest;
  }

  -- a cell that a drawing left alone
  pub drawn-word : (r : Cells) (f : Shades) (m m' : Meaning) (k k' : Keep) (z z' : R) (x y : ℤ) → Drawn r f m k z m' k' z' → r x y ≡ false → m'.word x y ≡ m.word x y
  drawn-word r f m m' k k' z z' x y d e = ap (λ m. m.word x y) d.picture ∙ sym (cell_none (r x y) (m.opens x y) _ _ e)

  -- a drawing and then one more cell
  pub drawn_cell : (q r : Cells) (f : Shades) (m m' m'' : Meaning) (k k' k'' : Keep) (z z' z'' : R) (x y : ℤ) (v : ℕ)
      → ((a b : ℤ) → q a b ≡ (r a b || strip x y 1 a b)) → v ≡ f x y
      → Drawn r f m k z m' k' z' → m'' ≡ filled x y 1 v m' → Kept k' (λ a b. strip x y 1 a b && m'.opens a b) k'' → z'' ≡ z' → Drawn q f m k z m'' k'' z''
  drawn_cell q r f m m' m'' k k' k'' z z' z'' x y v split same d p t u =
      drawn-more q r (strip x y 1) f (λ _ _. v) m m' m'' k k' k'' z z' z'' split
      (λ a b h. let e = at_cell x y a b h in same ∙ ap (λ a. f a y) e.0 ∙ ap (f a) e.1) d (record { picture = p; kept = t; rest = u })

  -- one cell
  pub drawn-one : (f : Shades) (m m' : Meaning) (k k' : Keep) (z z' : R) (x y : ℤ) (v : ℕ) → v ≡ f x y
      → m' ≡ filled x y 1 v m → Kept k (λ a b. strip x y 1 a b && m.opens a b) k' → z' ≡ z → Drawn (strip x y 1) f m k z m' k' z'
  drawn-one f m m' k k' z z' x y v e = drawn_cell (strip x y 1) (λ _ _. false) f m m m' k k k' z z z' x y v (λ _ _. refl) e (drawn-none (λ _ _. false) f m k z (λ _ _. refl))

  -- a drawing and then another, of other cells, where the new word depends on the cell's own word alone
  pub local_more : (q r s : Cells) (h : ℤ → ℤ → ℕ → ℕ) (m m' m'' : Meaning) (k k' k'' : Keep) (z z' z'' : R)
      → ((a b : ℤ) → q a b ≡ (r a b || s a b)) → ((a b : ℤ) → s a b ≡ true → r a b ≡ false)
      → Drawn r (λ a b. h a b (m.word a b)) m k z m' k' z' → Drawn s (λ a b. h a b (m'.word a b)) m' k' z' m'' k'' z'' → Drawn q (λ a b. h a b (m.word a b)) m k z m'' k'' z''
  local_more q r s h m m' m'' k k' k'' z z' z'' split fresh so_far =
      drawn-more q r s _ _ m m' m'' k k' k'' z z' z'' split (λ a b t. ap (h a b) (drawn-word r _ m m' k k' z z' a b so_far (fresh a b t))) so_far

  -- what is drawn inside the size is all that is drawn
  pub drawn_shown : (s r : Cells) (f : Shades) (m m' : Meaning) (k k' : Keep) (z z' : R) (w h : ℕ) → Sound m → w ≡ m.width → h ≡ m.height
      → ((a b : ℤ) → s a b ≡ (r a b && inside w h a b)) → Drawn s f m k z m' k' z' → Drawn r f m k z m' k' z'
  drawn_shown s r f m m' k k' z z' w h sound ew eh e =
      drawn_like s r f m m' k k' z z'
      (λ a b. opens_inside (s a b) (r a b) _ (m.opens a b) (e a b) (λ o. sound.shut_outside a b (ap (λ w. inside w m.height a b) (sym ew) ∙ ap (λ h. inside w h a b) (sym eh) ∙ o)))

pub at_set : (c : Cells) (x y a b : ℤ) → strip x y 1 a b ≡ true → c a b ≡ c x y
at_set c x y a b h = let e = at_cell x y a b h in sym (ap (λ a. c a y) e.0 ∙ ap (c a) e.1)

pub cell_out : (c : Cells) (x y a b : ℤ) → c x y ≡ false → (strip x y 1 a b && c a b) ≡ false
cell_out c x y a b e = ⊎_elim (λ h. and_right (strip x y 1 a b) (c a b) (at_set c x y a b h ∙ e)) (λ h. and_left (strip x y 1 a b) (c a b) h) (cases_Bool (strip x y 1 a b))

-- A sweep over a region: the cells of the region that come before a place are drawn. At its end, they are all.
pub swept : (q s o : Bool) → (q ≡ true → s ≡ true) → ((q && s) && o) ≡ (q && o)
swept true s o h = simp (h refl)
swept false s o h = refl
