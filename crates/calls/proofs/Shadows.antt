-- Bit planes of words, drawings and tasks.
use Rattle.std.proofs.Common.{◌≡◌, ℕ, ◌+◌, ◌-◌, ◌/◌, ◌%◌, ◌^◌, ◌<◌, ◌≤◌, Bool, true, false, cond, ◌&&◌, ℤ, ◌+ℤ◌, ◌-ℤ◌, sym, refl, ap, ◌∙◌, div-one, arith}
use native.Mathlib.Nat.{zero-div}
use Rattle.std.proofs.lemmas.Nat.{field_of, mod-pow-add}
use Rattle.codes.specs.Bits.{bit}
use Rattle.codes.specs.Modes.{mode_number}
use Rattle.codes.specs.Operations.{combined, mixed, sourced}
use Rattle.codes.specs.declared.refusal.Refusal.{Refusal}
use Rattle.codes.proofs.Words.{operation_planes, mode_planes}
use Rattle.surface.specs.Meaning.{Meaning}
use Rattle.surface.specs.Rects.{holds}
use Rattle.ink.specs.Hatches.{eighth, lined}
use Rattle.pencil.specs.Tools.{brushed, inked}
use Rattle.pencil.specs.declared.brush.Brush.{Brush}
use Rattle.pencil.specs.declared.brush.Brush.TheVariants as brush
use Rattle.pencil.specs.declared.pen.Pen.{Pen}
use Rattle.pencil.specs.declared.pen.Pen.TheVariants as pen
use Rattle.pencil.specs.declared.pencil_state.Pencil.{Pencil}
use Rattle.drawing.specs.Areas.{placed, ranged}
use Rattle.drawing.specs.Lines.{longer, traced}
use Rattle.drawing.specs.Tasks.{Task, refuse, draw, draws, colour, line_task, paint_task, copy_task}
use Rattle.drawing.specs.declared.shape.Area.{Area}
use Rattle.drawing.specs.declared.shape.Point.{Point}
use Rattle.playback.specs.Records.{Mark, untouched, marked, brush_shade}
use Rattle.player.specs.Playing.{after, aimed}
use Rattle.player.specs.Views.{seen_brush, seen_pen}
use Rattle.calls.specs.Planes.{plane}
use Rattle.calls.specs.Seeing.{seen_pencil}

-- a cut to d bits leaves each bit below d
bit_cut : (k d n : ℕ) → k < d → bit k (n % 2 ^ d) ≡ bit k n
bit_cut k d n h =
    let e : d ≡ ((d - k - 1) + 1) + k = omega arith in
    let j : ℕ = d - k - 1 in
    let m : ℕ = n / 2 ^ k in
    let f : n % 2 ^ d / 2 ^ k ≡ m % 2 ^ (j + 1) = ap (λ v. n % 2 ^ v / 2 ^ k) e ∙ field_of n (j + 1) k in
    ap (λ v. v % 2) f ∙ omega (arith, mod-pow-add m j 1)

lowest-bit : (n : ℕ) → bit 0 n ≡ n % 2
lowest-bit n = ap (λ q. q % 2) (div-one n)

zero_bit : (k : ℕ) → bit k 0 ≡ 0
zero_bit k = ap (λ q. q % 2) (zero-div (2 ^ k))

module _ (k : ℕ) where
  -- new words and those of plane k
  abbrev Words : (Meaning → ℤ → ℤ → ℕ) → (Meaning → ℤ → ℤ → ℕ) → Type 0
  Words new new' = (m : Meaning) → k < m.depth → m.depth ≤ 16 → (x y : ℤ) → bit k (new m x y) ≡ new' (plane k m) x y % 2

  combined-bit : (c p s d p' s' d' : ℕ) → k < 16 → p' ≡ bit k p → s' ≡ bit k s → d' ≡ bit k d → bit k (combined c p s d) ≡ combined c p' s' d' % 2
  combined-bit c p s d p' s' d' h ep es ed =
      operation_planes c p s d k h ∙ lowest-bit _
      ∙ ap (λ p. combined c p (bit k s) (bit k d) % 2) (sym ep) ∙ ap (λ s. combined c p' s (bit k d) % 2) (sym es) ∙ ap (λ d. combined c p' s' d % 2) (sym ed)

  mixed-bit : (m p q p' : ℕ) → k < 16 → p' ≡ bit k p → bit k (mixed m p q) ≡ mixed m p' (bit k q) % 2
  mixed-bit m p q p' h ep = mode_planes m p q k h ∙ lowest-bit _ ∙ ap (λ p. mixed m p (bit k q) % 2) (sym ep)

  -- a task and what it is on plane k: refused alike, or the same cells and the words' bit k
  pub data ShadowTask : Task → Task → Type 0 where
    refused : {c : Refusal} → ShadowTask (refuse c) (refuse c)
    drawn : {region region' : ℤ → ℤ → Bool} {new new' : Meaning → ℤ → ℤ → ℕ} → ((x y : ℤ) → region' x y ≡ region x y) → Words new new' →
        ShadowTask (draw region new) (draw region' new')

  either : (b : Bool) {t t' u u' : Task} → ShadowTask t t' → ShadowTask u u' → ShadowTask (cond b t u) (cond b t' u')
  either true s r = s
  either false s r = r

  pen_draws : (p : Pen) → draws (seen_pen (bit k) p) ≡ draws p
  pen_draws (pen.Solid c) = refl
  pen_draws pen.Null = refl

  pen_colour : (p : Pen) → colour (seen_pen (bit k) p) ≡ bit k (colour p)
  pen_colour (pen.Solid c) = refl
  pen_colour pen.Null = sym (zero_bit k)

  chosen : (b : Bool) (v w : ℕ) → cond b (bit k v) (bit k w) ≡ bit k (cond b v w)
  chosen true v w = refl
  chosen false v w = refl

  ink_bit : (b : Brush) (back : ℕ) (x y : ℤ) → inked (brushed (seen_brush (bit k) b) (bit k back)) x y ≡ bit k (inked (brushed b back) x y)
  ink_bit (brush.Solid c) back x y = refl
  ink_bit (brush.Hatched s c) back x y = chosen (lined s (eighth x) (eighth y)) c back

  -- the words of a pencil's brush on plane k
  pub brush_bit : (p : Pencil) (x y : ℤ) → brush_shade (seen_pencil (bit k) p) x y ≡ bit k (brush_shade p x y)
  brush_bit p x y = ink_bit p.brush p.back x y

  pub line_shadow : (p : Pencil) (from to : Point) → ShadowTask (line_task p from to) (line_task (seen_pencil (bit k) p) from to)
  line_shadow p from to = either (placed from && placed to)
      (drawn (λ x y. ap (λ b. b && (traced from to (longer from to) x y && holds p.clip x y)) (pen_draws p.pen))
      (λ m h s x y. mixed-bit (mode_number p.mode) (colour p.pen) (m.word x y) (colour (seen_pen (bit k) p.pen)) (omega arith) (pen_colour p.pen)))
      refused

  pub paint_shadow : (p : Pencil) (area : Area) (code : ℕ) (shade shade' : ℤ → ℤ → ℕ) → ((x y : ℤ) → shade' x y ≡ bit k (shade x y)) →
      ShadowTask (paint_task p area code shade) (paint_task (seen_pencil (bit k) p) area code shade')
  paint_shadow p area code shade shade' e = either (sourced code) refused (either (ranged area)
      (drawn (λ x y. refl) (λ m h s x y. combined-bit code (shade x y) 0 (m.word x y) (shade' x y) 0 (bit k (m.word x y)) (omega arith) (e x y) (sym (zero_bit k)) refl))
      refused)

  pub copy_shadow : (p : Pencil) (area : Area) (source : Point) (code : ℕ) (shade shade' : ℤ → ℤ → ℕ) → ((x y : ℤ) → shade' x y ≡ bit k (shade x y)) →
      ShadowTask (copy_task p area source code shade) (copy_task (seen_pencil (bit k) p) area source code shade')
  copy_shadow p area source code shade shade' e = either (ranged area && placed source)
      (drawn (λ x y. refl)
      (λ m h s x y.
      let u = x +ℤ (source.x -ℤ area.x) in
      let v = y +ℤ (source.y -ℤ area.y) in
      combined-bit code (shade x y) (m.word u v) (m.word x y) (shade' x y) (bit k (m.word u v)) (bit k (m.word x y)) (omega arith) (e x y) refl refl))
      refused

  -- a mark and what it is on plane k
  pub data Shadow : Mark → Mark → Type 0 where
    still : Shadow untouched untouched
    same : {region region' : ℤ → ℤ → Bool} {new new' : Meaning → ℤ → ℤ → ℕ} → ((x y : ℤ) → region' x y ≡ region x y) → Words new new' →
        Shadow (marked region new) (marked region' new')

  plane-word : (b b' : Bool) (d old new new' : ℕ) → b' ≡ b → k < d → bit k new ≡ new' % 2 → cond b' (new' % 2) (bit k old) ≡ bit k (cond b (new % 2 ^ d) old)
  plane-word true b' d old new new' eb h e = ap (λ b. cond b (new' % 2) (bit k old)) eb ∙ sym e ∙ sym (bit_cut k d new h)
  plane-word false b' d old new new' eb h e = ap (λ b. cond b (new' % 2) (bit k old)) eb

  -- plane k of a picture that is drawn on is plane k, drawn on with the words' bit k
  pub plane-after : {μ μ' : Mark} → Shadow μ μ' → (m : Meaning) → k < m.depth → m.depth ≤ 16 → after μ' (plane k m) ≡ plane k (after μ m)
  plane-after still m h s = refl
  plane-after (same {region} {region'} {new} {new'} e w) m h s = λ i. record {
    width = m.width;
    height = m.height;
    depth = 1;
    word = λ x y. plane-word (region x y && m.opens x y) (region' x y && m.opens x y) m.depth (m.word x y) (new m x y) (new' (plane k m) x y)
        (ap (λ b. b && m.opens x y) (e x y)) h (w m h s x y) i;
    opens = m.opens;
  }

  -- it reaches the same cells
  pub plane-aimed : {μ μ' : Mark} → Shadow μ μ' → (m : Meaning) (x y : ℤ) → aimed μ' (plane k m) x y ≡ aimed μ m x y
  plane-aimed still m x y = refl
  plane-aimed (same e w) m x y = ap (λ b. b && m.opens x y) (e x y)
