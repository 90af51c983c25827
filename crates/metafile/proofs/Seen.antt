-- What a function shows of its parameters, computed: a record that is shown, or a rule that is broken, is the one computed.
use Rattle.std.proofs.Common.{◌≡◌, ℕ, ◌+◌, ◌<◌, ◌≤◌, Bool, true, false, cond, ◌&&◌, ◌||◌, eqb, ltb, leb, ◌⊎◌, List, [], length, ℤ, pos, ◌≤ℤ◌, Ok, Err, Result, sym, refl, ap, ◌∙◌, subst, inl, inr, arith, Bor}
use lib.Signed.{lt_z}
use Rattle.std.proofs.lemmas.Bool.Decides.{nat_tests}
use Rattle.std.proofs.lemmas.Int.{ints}
use Rattle.codes.specs.Modes.{mode_number}
use Rattle.codes.specs.Operations.{sourced}
use Rattle.codes.specs.declared.refusal.Refusal.{Refusal}
use Rattle.codes.specs.declared.refusal.Refusal.TheVariants as refusal
use Rattle.pencil.specs.Tools.{Thin, PenIs, NoPen, BrushIs, NoBrush}
use Rattle.pencil.specs.declared.brush.Brush.{Brush}
use Rattle.pencil.specs.declared.brush.Brush.TheVariants as brush
use Rattle.pencil.specs.declared.pen.Pen.{Pen}
use Rattle.pencil.specs.declared.pen.Pen.TheVariants as pen
use Rattle.metafile.specs.Bytes.{word, signed}
use Rattle.metafile.specs.Functions.{Listed, Missized}
use Rattle.metafile.specs.Decoding.{PointAt, AreaAt, PointIs, Negative, Shows, Breaks, BreaksColour, BreaksOperation, BreaksValue}
use Rattle.metafile.specs.Exact.{Elsewhere}
use Rattle.metafile.specs.declared.logical.LogicalArea.{LogicalArea}
use Rattle.metafile.specs.declared.logical.LogicalPoint.{LogicalPoint}
use Rattle.metafile.specs.declared.record.Record.{Record}
use Rattle.metafile.specs.declared.record.Record.TheVariants as shown
use Rattle.metafile.proofs.Numbered.{mode_at, mode_back, mode_least, mode_most, style_at, style_back, style_most, thin, thin_tells}

abbrev Seen : Type 0
Seen = Result Record Refusal

abbrev sized : Bool → Seen → Seen
sized right r = cond right r (Err refusal.RecordSize)

abbrev coloured : ℕ → Seen → Seen
coloured upper r = cond (eqb upper 0x0100) r (Err refusal.Colour)

abbrev coded : ℕ → Bool → Seen → Seen
coded upper depends r = cond (ltb upper 256) (cond depends (Err refusal.Operation) r) (Err refusal.Operation)

abbrev measured : ℤ → ℤ → Seen → Seen
measured w h r = cond (lt_z w (pos 0) || lt_z h (pos 0)) (Err refusal.Value) r

abbrev point_at : List ℕ → ℕ → LogicalPoint
point_at ps i = record { x = signed ps (i + 2); y = signed ps i }

abbrev area_at : List ℕ → ℕ → LogicalArea
area_at ps i = record { at = point_at ps (i + 4); width = signed ps (i + 2); height = signed ps i }

same_point : (ps : List ℕ) (i : ℕ) (p : LogicalPoint) → PointAt ps i p → point_at ps i ≡ p
same_point ps i p (y, x) = λ k. record { x = sym x k; y = sym y k }

same_area : (ps : List ℕ) (i : ℕ) (a : LogicalArea) → AreaAt ps i a → area_at ps i ≡ a
same_area ps i a (h, w, p, l, m) = λ k. record { at = same_point ps (i + 4) a.at p k; width = sym w k; height = sym h k }

abbrev point : (LogicalPoint → Record) → List ℕ → Seen
point make ps = sized (eqb (length ps) 4) (Ok (make (point_at ps 0)))

abbrev index : (ℕ → Record) → List ℕ → Seen
index make ps = sized (eqb (length ps) 2) (Ok (make (word ps 0)))

abbrev numbered : ℕ → Seen
numbered n = cond (leb 1 n && leb n 16) (Ok (shown.SetRop2 (mode_at n))) (Err refusal.Value)

abbrev brushed : ℕ → ℕ → ℕ → Seen
brushed style colour hatch =
    cond (eqb style 0) (Ok (shown.CreateBrushIndirect (brush.Solid colour)))
    (cond (eqb style 2 && ltb hatch 6) (Ok (shown.CreateBrushIndirect (brush.Hatched (style_at hatch) colour))) (Err refusal.Value))

abbrev penned : ℕ → ℤ → ℕ → Seen
penned style width colour =
    cond (thin width)
    (cond (eqb style 0) (Ok (shown.CreatePenIndirect (pen.Solid colour)))
    (cond (eqb style 5) (Ok (shown.CreatePenIndirect pen.Null)) (Err refusal.Value)))
    (Err refusal.Value)

-- q is the slice that an unlisted record refers to
abbrev seen : ℕ → List ℕ → Bor (List ℕ) → Seen
seen f ps q =
    cond (eqb f 0x0000) (sized (eqb (length ps) 0) (Ok shown.End))
    (cond (eqb f 0x020B) (point shown.SetWindowOrg ps)
    (cond (eqb f 0x020D) (point shown.SetViewportOrg ps)
    (cond (eqb f 0x0213) (point shown.LineTo ps)
    (cond (eqb f 0x0214) (point shown.MoveTo ps)
    (cond (eqb f 0x061D) (sized (eqb (length ps) 12) (coded (word ps 2) (sourced (word ps 2)) (measured (signed ps 6) (signed ps 4)
    (Ok (shown.PatBlt (word ps 2) (area_at ps 4))))))
    (cond (eqb f 0x0922) (sized (eqb (length ps) 18) (coded (word ps 2) false (measured (signed ps 12) (signed ps 10)
    (Ok (shown.BitBlt (word ps 2) (area_at ps 10) (point_at ps 4))))))
    (cond (eqb f 0x0416) (sized (eqb (length ps) 8) (Ok (shown.IntersectClipRect (point_at ps 4) (point_at ps 0))))
    (cond (eqb f 0x0104) (sized (eqb (length ps) 2 || eqb (length ps) 4) (numbered (word ps 0)))
    (cond (eqb f 0x0201) (sized (eqb (length ps) 4) (coloured (word ps 2) (Ok (shown.SetBkColor (word ps 0)))))
    (cond (eqb f 0x02FC) (sized (eqb (length ps) 8) (coloured (word ps 4) (brushed (word ps 0) (word ps 2) (word ps 6))))
    (cond (eqb f 0x02FA) (sized (eqb (length ps) 10) (coloured (word ps 8) (penned (word ps 0) (signed ps 2) (word ps 6))))
    (cond (eqb f 0x012D) (index shown.SelectObject ps)
    (cond (eqb f 0x01F0) (index shown.DeleteObject ps)
    (Ok (shown.Unlisted f q)))))))))))))))

-- what is seen of a number that f is
at : (f n : ℕ) (ps : List ℕ) (q : Bor (List ℕ)) (r : Seen) → f ≡ n → seen n ps q ≡ r → seen f ps q ≡ r
at f n ps q r e h = subst (λ (m : ℕ). seen m ps q ≡ r) (sym e) h

right : (n k : ℕ) (r : Seen) → n ≡ k → sized (eqb n k) r ≡ r
right n k r h = grind (arith, nat_tests)

wrong : (n k : ℕ) (r : Seen) → (n ≡ k → ⊥) → sized (eqb n k) r ≡ Err refusal.RecordSize
wrong n k r h = grind (arith, nat_tests)

right_two : (n : ℕ) (r : Seen) → (n ≡ 2) ⊎ (n ≡ 4) → sized (eqb n 2 || eqb n 4) r ≡ r
right_two n r h = grind (arith, nat_tests)

wrong_two : (n : ℕ) (r : Seen) → (n ≡ 2 → ⊥) → (n ≡ 4 → ⊥) → sized (eqb n 2 || eqb n 4) r ≡ Err refusal.RecordSize
wrong_two n r h k = grind (arith, nat_tests)

hued : (u : ℕ) (r : Seen) → u ≡ 0x0100 → coloured u r ≡ r
hued u r h = grind (arith, nat_tests)

unhued : (u : ℕ) (r : Seen) → (u ≡ 0x0100 → ⊥) → coloured u r ≡ Err refusal.Colour
unhued u r h = grind (arith, nat_tests)

lawful : (u : ℕ) (d : Bool) (r : Seen) → u < 256 → d ≡ false → coded u d r ≡ r
lawful u d r h e = grind (arith, nat_tests)

high : (u : ℕ) (d : Bool) (r : Seen) → 256 ≤ u → coded u d r ≡ Err refusal.Operation
high u d r h = grind (arith, nat_tests)

depends : (u : ℕ) (d : Bool) (r : Seen) → d ≡ true → coded u d r ≡ Err refusal.Operation
depends u d r e = grind (arith, nat_tests)

whole : (w h : ℤ) (r : Seen) → pos 0 ≤ℤ w → pos 0 ≤ℤ h → measured w h r ≡ r
whole w h r a b = grind (arith, ints)

negative : (w h : ℤ) (r : Seen) → Negative w h → measured w h r ≡ Err refusal.Value
negative w h r n = grind (arith, ints)

mode_seen : (n : ℕ) (m : ℕ) → n ≡ m → 1 ≤ m → m ≤ 16 → numbered n ≡ Ok (shown.SetRop2 (mode_at m))
mode_seen n m e l h = grind (arith, nat_tests)

no_mode : (n : ℕ) → (1 ≤ n → n ≤ 16 → ⊥) → numbered n ≡ Err refusal.Value
no_mode n h = grind (arith, nat_tests)

brush_seen : (style colour hatch : ℕ) (b : Brush) → BrushIs style colour hatch b → brushed style colour hatch ≡ Ok (shown.CreateBrushIndirect b)
brush_seen style colour hatch (brush.Solid c) h = grind (arith, nat_tests)
brush_seen style colour hatch (brush.Hatched s c) h =
    let low : hatch < 6 = omega (arith, style_most s) in
    let back : style_at hatch ≡ s = ap style_at (sym h.1) ∙ style_back s in
    grind (arith, nat_tests)

no_brush : (style colour hatch : ℕ) → NoBrush style hatch → brushed style colour hatch ≡ Err refusal.Value
no_brush style colour hatch h = grind (arith, nat_tests)

thin_true : (z : ℤ) → Thin z → thin z ≡ true
thin_true z h = elim (thin_tells z) [ inl t ↦ t.0 | inr t ↦ absurd (t.1 h) ]

pen_seen : (style : ℕ) (width : ℤ) (colour : ℕ) (p : Pen) → PenIs style width colour p → penned style width colour ≡ Ok (shown.CreatePenIndirect p)
pen_seen style width colour (pen.Solid c) h =
    let t : thin width ≡ true = thin_true width h.1 in
    grind (arith, nat_tests)
pen_seen style width colour pen.Null h =
    let t : thin width ≡ true = thin_true width h.1 in
    grind (arith, nat_tests)

no_pen : (style : ℕ) (width : ℤ) (colour : ℕ) → NoPen style width → penned style width colour ≡ Err refusal.Value
no_pen style width colour h =
    elim (thin_tells width) [
      | inl t ↦ let n = h t.1 in let e = t.0 in grind (arith, nat_tests)
      | inr t ↦ let e = t.0 in grind (arith, nat_tests)
    ]

point-seen : (make : LogicalPoint → Record) (ps : List ℕ) (p : LogicalPoint) → PointIs ps p → point make ps ≡ Ok (make p)
point-seen make ps p (n, e) = right (length ps) 4 _ n ∙ ap (λ q. Ok (make q)) (same_point ps 0 p e)

seen_other : (f : ℕ) (ps : List ℕ) (q : Bor (List ℕ)) → (Listed f → ⊥) → seen f ps q ≡ Ok (shown.Unlisted f q)
seen_other f ps q n = grind (arith, nat_tests)

seen_size : (f : ℕ) (ps : List ℕ) (q : Bor (List ℕ)) → Missized f (length ps) → seen f ps q ≡ Err refusal.RecordSize
seen_size f ps q (inl (e, n)) = at f 0x0000 ps q _ e (wrong (length ps) 0 _ n)
seen_size f ps q (inr (inl (inl e, n))) = at f 0x020B ps q _ e (wrong (length ps) 4 _ n)
seen_size f ps q (inr (inl (inr (inl e), n))) = at f 0x020D ps q _ e (wrong (length ps) 4 _ n)
seen_size f ps q (inr (inl (inr (inr (inl e)), n))) = at f 0x0213 ps q _ e (wrong (length ps) 4 _ n)
seen_size f ps q (inr (inl (inr (inr (inr e)), n))) = at f 0x0214 ps q _ e (wrong (length ps) 4 _ n)
seen_size f ps q (inr (inr (inl (e, n)))) = at f 0x061D ps q _ e (wrong (length ps) 12 _ n)
seen_size f ps q (inr (inr (inr (inl (e, n))))) = at f 0x0922 ps q _ e (wrong (length ps) 18 _ n)
seen_size f ps q (inr (inr (inr (inr (inl (e, n)))))) = at f 0x0416 ps q _ e (wrong (length ps) 8 _ n)
seen_size f ps q (inr (inr (inr (inr (inr (inl (e, n, m))))))) = at f 0x0104 ps q _ e (wrong_two (length ps) _ n m)
seen_size f ps q (inr (inr (inr (inr (inr (inr (inl (e, n)))))))) = at f 0x0201 ps q _ e (wrong (length ps) 4 _ n)
seen_size f ps q (inr (inr (inr (inr (inr (inr (inr (inl (e, n))))))))) = at f 0x02FC ps q _ e (wrong (length ps) 8 _ n)
seen_size f ps q (inr (inr (inr (inr (inr (inr (inr (inr (inl (e, n)))))))))) = at f 0x02FA ps q _ e (wrong (length ps) 10 _ n)
seen_size f ps q (inr (inr (inr (inr (inr (inr (inr (inr (inr (inl e, n)))))))))) = at f 0x012D ps q _ e (wrong (length ps) 2 _ n)
seen_size f ps q (inr (inr (inr (inr (inr (inr (inr (inr (inr (inr e, n)))))))))) = at f 0x01F0 ps q _ e (wrong (length ps) 2 _ n)

seen-colour : (f : ℕ) (ps : List ℕ) (q : Bor (List ℕ)) → BreaksColour f ps → seen f ps q ≡ Err refusal.Colour
seen-colour f ps q h = grind (arith, nat_tests)

seen_operation : (f : ℕ) (ps : List ℕ) (q : Bor (List ℕ)) → BreaksOperation f ps → seen f ps q ≡ Err refusal.Operation
seen_operation f ps q h = grind (arith, nat_tests)

seen_value : (f : ℕ) (ps : List ℕ) (q : Bor (List ℕ)) → BreaksValue f ps → seen f ps q ≡ Err refusal.Value
seen_value f ps q (inl (e, n, m)) = at f 0x0104 ps q _ e (right_two (length ps) _ n ∙ no_mode (word ps 0) m)
seen_value f ps q (inr (inl (e, n, u, b))) =
    at f 0x02FC ps q _ e (right (length ps) 8 _ n ∙ hued (word ps 4) _ u ∙ no_brush (word ps 0) (word ps 2) (word ps 6) b)
seen_value f ps q (inr (inr (inl (e, n, u, p)))) =
    at f 0x02FA ps q _ e (right (length ps) 10 _ n ∙ hued (word ps 8) _ u ∙ no_pen (word ps 0) (signed ps 2) (word ps 6) p)
seen_value f ps q (inr (inr (inr (inl (e, n, u, s, m))))) =
    at f 0x061D ps q _ e (right (length ps) 12 _ n ∙ lawful (word ps 2) (sourced (word ps 2)) _ u s ∙ negative (signed ps 6) (signed ps 4) _ m)
seen_value f ps q (inr (inr (inr (inr (e, n, u, m))))) =
    at f 0x0922 ps q _ e (right (length ps) 18 _ n ∙ lawful (word ps 2) false _ u refl ∙ negative (signed ps 12) (signed ps 10) _ m)

alike_records : (a : Seen) (r s : Record) → a ≡ Ok r → a ≡ Ok s → r ≡ s
alike_records a r s p q = cc

apart : (a : Seen) (r : Record) (e : Refusal) → a ≡ Ok r → a ≡ Err e → ⊥
apart a r e p q = cc

-- a listed record is what is seen, whatever slice an unlisted one would refer to
pub shown_record : (f : ℕ) (ps : List ℕ) (r : Record) → Shows f ps r
    → ((q : Bor (List ℕ)) → seen f ps q ≡ Ok r)
    ⊎ ((p : Bor (List ℕ)) × (r ≡ shown.Unlisted f p) × (p.now ≡ ps) × ((q : Bor (List ℕ)) → seen f ps q ≡ Ok (shown.Unlisted f q)))
shown_record f ps shown.End h = inl (λ q. at f 0x0000 ps q (Ok shown.End) h.0 (right (length ps) 0 _ h.1))
shown_record f ps (shown.SetWindowOrg p) h = inl (λ q. at f 0x020B ps q _ h.0 (point-seen shown.SetWindowOrg ps p h.1))
shown_record f ps (shown.SetViewportOrg p) h = inl (λ q. at f 0x020D ps q _ h.0 (point-seen shown.SetViewportOrg ps p h.1))
shown_record f ps (shown.MoveTo p) h = inl (λ q. at f 0x0214 ps q _ h.0 (point-seen shown.MoveTo ps p h.1))
shown_record f ps (shown.LineTo p) h = inl (λ q. at f 0x0213 ps q _ h.0 (point-seen shown.LineTo ps p h.1))
shown_record f ps (shown.PatBlt c a) (e, n, (low, k), s, h) = inl (λ q.
    at f 0x061D ps q _ e
    (right (length ps) 12 _ n
    ∙ lawful (word ps 2) (sourced (word ps 2)) _ low (ap sourced (sym k) ∙ s)
    ∙ whole (signed ps 6) (signed ps 4) _ (subst (λ z. pos 0 ≤ℤ z) h.1 h.3) (subst (λ z. pos 0 ≤ℤ z) h.0 h.4)
    ∙ ap (λ b. Ok (shown.PatBlt (word ps 2) b)) (same_area ps 4 a h)
    ∙ ap (λ d. Ok (shown.PatBlt d a)) (sym k)))
shown_record f ps (shown.BitBlt c a u) (e, n, (low, k), v, h) = inl (λ q.
    at f 0x0922 ps q _ e
    (right (length ps) 18 _ n
    ∙ lawful (word ps 2) false _ low refl
    ∙ whole (signed ps 12) (signed ps 10) _ (subst (λ z. pos 0 ≤ℤ z) h.1 h.3) (subst (λ z. pos 0 ≤ℤ z) h.0 h.4)
    ∙ ap (λ b. Ok (shown.BitBlt (word ps 2) b (point_at ps 4))) (same_area ps 10 a h)
    ∙ ap (λ d. Ok (shown.BitBlt (word ps 2) a d)) (same_point ps 4 u v)
    ∙ ap (λ d. Ok (shown.BitBlt d a u)) (sym k)))
shown_record f ps (shown.IntersectClipRect m n) (e, k, t, b) = inl (λ q.
    at f 0x0416 ps q _ e
    (right (length ps) 8 _ k
    ∙ ap (λ z. Ok (shown.IntersectClipRect z (point_at ps 0))) (same_point ps 4 m b)
    ∙ ap (λ z. Ok (shown.IntersectClipRect m z)) (same_point ps 0 n t)))
shown_record f ps (shown.SetRop2 m) (e, n, k) = inl (λ q.
    at f 0x0104 ps q _ e
    (right_two (length ps) _ n
    ∙ mode_seen (word ps 0) (mode_number m) (sym k) (mode_least m) (mode_most m)
    ∙ ap (λ x. Ok (shown.SetRop2 x)) (mode_back m)))
shown_record f ps (shown.SetBkColor c) (e, n, u, k) = inl (λ q. at f 0x0201 ps q _ e (right (length ps) 4 _ n ∙ hued (word ps 2) _ u ∙ cc))
shown_record f ps (shown.CreateBrushIndirect b) (e, n, u, k) = inl (λ q.
    at f 0x02FC ps q _ e (right (length ps) 8 _ n ∙ hued (word ps 4) _ u ∙ brush_seen (word ps 0) (word ps 2) (word ps 6) b k))
shown_record f ps (shown.CreatePenIndirect p) (e, n, u, k) = inl (λ q.
    at f 0x02FA ps q _ e (right (length ps) 10 _ n ∙ hued (word ps 8) _ u ∙ pen_seen (word ps 0) (signed ps 2) (word ps 6) p k))
shown_record f ps (shown.SelectObject i) (e, n, k) = inl (λ q. at f 0x012D ps q _ e (right (length ps) 2 _ n ∙ cc))
shown_record f ps (shown.DeleteObject i) (e, n, k) = inl (λ q. at f 0x01F0 ps q _ e (right (length ps) 2 _ n ∙ cc))
shown_record f ps (shown.Unlisted g p) (n, e, k) = inr (p, ap (λ m. shown.Unlisted m p) e, k, λ q. seen_other f ps q n)

pub seen_cause : (f : ℕ) (ps : List ℕ) (e : Refusal) (q : Bor (List ℕ)) → Breaks f ps e → seen f ps q ≡ Err e
seen_cause f ps refusal.Size q h = absurd h
seen_cause f ps refusal.Memory q h = absurd h
seen_cause f ps refusal.FileLength q h = absurd h
seen_cause f ps refusal.Header q h = absurd h
seen_cause f ps refusal.Frame q h = absurd h
seen_cause f ps refusal.RecordSize q h = seen_size f ps q h
seen_cause f ps refusal.Colour q h = seen-colour f ps q h
seen_cause f ps refusal.Operation q h = seen_operation f ps q h
seen_cause f ps refusal.Value q h = seen_value f ps q h
seen_cause f ps refusal.TableFull q h = absurd h
seen_cause f ps refusal.NoObject q h = absurd h
seen_cause f ps refusal.Range q h = absurd h
seen_cause f ps refusal.Buffer q h = absurd h
seen_cause f ps refusal.Row q h = absurd h

slice : Bor (List ℕ)
slice = record { ref_ptr = (0, 0); now = [] }

pub one_cause : (f : ℕ) (ps : List ℕ) (d e : Refusal) → Breaks f ps d → Breaks f ps e → d ≡ e
one_cause f ps d e h k =
    let a : seen f ps slice ≡ Err d = seen_cause f ps d slice h in
    let b : seen f ps slice ≡ Err e = seen_cause f ps e slice k in
    cc

pub not_both : (f : ℕ) (ps : List ℕ) (r : Record) (e : Refusal) → Shows f ps r → Breaks f ps e → ⊥
not_both f ps r e h k =
    elim (shown_record f ps r h) [
      | inl a ↦ apart (seen f ps slice) r e (a slice) (seen_cause f ps e slice k)
      | inr a ↦ apart (seen f ps slice) (shown.Unlisted f slice) e (a.3 slice) (seen_cause f ps e slice k)
    ]

pub one_record : (f : ℕ) (ps : List ℕ) (r s : Record) → Shows f ps r → Shows f ps s → (r ≡ s) ⊎ Elsewhere r s
one_record f ps r s h k =
    elim (shown_record f ps r h) [
      | inl a ↦ elim (shown_record f ps s k) [
        | inl b ↦ inl (alike_records (seen f ps slice) r s (a slice) (b slice))
        | inr b ↦ inl (alike_records (seen f ps b.0) r s (a b.0) (b.3 b.0 ∙ ap Ok (sym b.1)))
      ]
      | inr a ↦ elim (shown_record f ps s k) [
        | inl b ↦ inl (alike_records (seen f ps a.0) r s (a.3 a.0 ∙ ap Ok (sym a.1)) (b a.0))
        | inr b ↦ inr (f, a.0, b.0, a.1, b.1, a.2 ∙ sym b.2)
      ]
    ]
