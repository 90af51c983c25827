-- Every function with its parameters shows a record or breaks a rule.
use Rattle.std.proofs.Common.{◌≡◌, ℕ, ◌+◌, ◌⊎◌, List, length, ℤ, pos, negsuc, ◌≤ℤ◌, sym, refl, subst, inl, inr, ⊎_elim, arith}
use Rattle.std.proofs.lemmas.Bool.{cases_eq, cases_lt, cases_Bool}
use Rattle.std.proofs.lemmas.Int.{ints}
use Rattle.codes.specs.Operations.{sourced}
use Rattle.codes.specs.declared.refusal.Refusal.{Refusal}
use Rattle.codes.specs.declared.refusal.Refusal.TheVariants as refusal
use Rattle.pencil.specs.Tools.{PenIs, NoPen, BrushIs, NoBrush}
use Rattle.pencil.specs.declared.brush.Brush.{Brush}
use Rattle.pencil.specs.declared.brush.Brush.TheVariants as brush
use Rattle.pencil.specs.declared.pen.Pen.{Pen}
use Rattle.pencil.specs.declared.pen.Pen.TheVariants as pen
use Rattle.metafile.specs.Bytes.{word, signed}
use Rattle.metafile.specs.Functions.{Pointed, Indexed, Listed}
use Rattle.metafile.specs.Decoding.{PointIs, Negative, Shows, Breaks}
use Rattle.metafile.specs.declared.logical.LogicalArea.{LogicalArea}
use Rattle.metafile.specs.declared.logical.LogicalPoint.{LogicalPoint}
use Rattle.metafile.specs.declared.record.Record.{Record}
use Rattle.metafile.specs.declared.record.Record.TheVariants as shown
use Rattle.metafile.proofs.Numbered.{mode_at, mode_number-mode_at, style_at, style_number-style_at, thin_tells}

abbrev Outcome : ℕ → List ℕ → Type 0
Outcome f ps = ((r : Record) × Shows f ps r) ⊎ ((e : Refusal) × Breaks f ps e)

signs : (w h : ℤ) → Negative w h ⊎ ((pos 0 ≤ℤ w) × (pos 0 ≤ℤ h))
signs (pos w) (pos h) = inr (omega (arith, ints), omega (arith, ints))
signs (pos w) (negsuc h) = inl (inr (omega (arith, ints)))
signs (negsuc w) h = inl (inl (omega (arith, ints)))

a_brush : (style colour hatch : ℕ) → ((b : Brush) × BrushIs style colour hatch b) ⊎ NoBrush style hatch
a_brush style colour hatch =
    ⊎_elim (λ e. inl (brush.Solid colour, (e, refl)))
    (λ n. ⊎_elim
    (λ e. ⊎_elim
    (λ h. inl (brush.Hatched (style_at hatch) colour, (e, style_number-style_at hatch h, refl)))
    (λ h. inr (n, λ _ l. omega arith))
    (cases_lt hatch 6))
    (λ m. inr (n, λ e. absurd (m e)))
    (cases_eq style 2))
    (cases_eq style 0)

a_pen : (style : ℕ) (width : ℤ) (colour : ℕ) → ((p : Pen) × PenIs style width colour p) ⊎ NoPen style width
a_pen style width colour =
    ⊎_elim
    (λ t. ⊎_elim (λ e. inl (pen.Solid colour, (e, t.1, refl)))
    (λ n. ⊎_elim (λ e. inl (pen.Null, (e, t.1))) (λ m. inr (λ _. (n, m))) (cases_eq style 5))
    (cases_eq style 0))
    (λ t. inr (λ h. absurd (t.1 h)))
    (thin_tells width)

end : (ps : List ℕ) → Outcome 0x0000 ps
end ps = ⊎_elim (λ e. inl (shown.End, (refl, e))) (λ n. inr (refusal.RecordSize, inl (refl, n))) (cases_eq (length ps) 0)

abbrev point_at : List ℕ → ℕ → LogicalPoint
point_at ps i = record { x = signed ps (i + 2); y = signed ps i }

abbrev area_at : List ℕ → ℕ → LogicalArea
area_at ps i = record { at = point_at ps (i + 4); width = signed ps (i + 2); height = signed ps i }

point : (f : ℕ) (ps : List ℕ) (make : LogicalPoint → Record) → Pointed f → ((p : LogicalPoint) → PointIs ps p → Shows f ps (make p)) → Outcome f ps
point f ps make h shows =
    ⊎_elim (λ e. inl (make (point_at ps 0), shows (point_at ps 0) (e, (refl, refl))))
    (λ n. inr (refusal.RecordSize, inr (inl (h, n))))
    (cases_eq (length ps) 4)

pat_blt : (ps : List ℕ) → Outcome 0x061D ps
pat_blt ps =
    ⊎_elim
    (λ e. ⊎_elim
    (λ low. ⊎_elim
    (λ s. inr (refusal.Operation, inl (refl, e, inr s)))
    (λ s. ⊎_elim
    (λ n. inr (refusal.Value, inr (inr (inr (inl (refl, e, low, s, n))))))
    (λ p. inl (
      shown.PatBlt (word ps 2) (area_at ps 4),
      (refl, e, (low, refl), s, (refl, refl, (refl, refl), p.0, p.1)),
    ))
    (signs (signed ps 6) (signed ps 4)))
    (cases_Bool (sourced (word ps 2))))
    (λ high. inr (refusal.Operation, inl (refl, e, inl high)))
    (cases_lt (word ps 2) 256))
    (λ n. inr (refusal.RecordSize, inr (inr (inl (refl, n)))))
    (cases_eq (length ps) 12)

bit_blt : (ps : List ℕ) → Outcome 0x0922 ps
bit_blt ps =
    ⊎_elim
    (λ e. ⊎_elim
    (λ low. ⊎_elim
    (λ n. inr (refusal.Value, inr (inr (inr (inr (refl, e, low, n))))))
    (λ p. inl (
      shown.BitBlt (word ps 2) (area_at ps 10) (point_at ps 4),
      (refl, e, (low, refl), (refl, refl), (refl, refl, (refl, refl), p.0, p.1)),
    ))
    (signs (signed ps 12) (signed ps 10)))
    (λ high. inr (refusal.Operation, inr (refl, e, high)))
    (cases_lt (word ps 2) 256))
    (λ n. inr (refusal.RecordSize, inr (inr (inr (inl (refl, n))))))
    (cases_eq (length ps) 18)

intersect : (ps : List ℕ) → Outcome 0x0416 ps
intersect ps =
    ⊎_elim
    (λ e. inl (shown.IntersectClipRect (point_at ps 4) (point_at ps 0), (refl, e, (refl, refl), (refl, refl))))
    (λ n. inr (refusal.RecordSize, inr (inr (inr (inr (inl (refl, n)))))))
    (cases_eq (length ps) 8)

rop2 : (ps : List ℕ) → (length ps ≡ 2) ⊎ (length ps ≡ 4) → Outcome 0x0104 ps
rop2 ps e =
    ⊎_elim
    (λ low. inr (refusal.Value, inl (refl, e, λ l _. omega arith)))
    (λ l. ⊎_elim
    (λ high. inr (refusal.Value, inl (refl, e, λ _ h. omega arith)))
    (λ h. inl (shown.SetRop2 (mode_at (word ps 0)), (refl, e, mode_number-mode_at (word ps 0) l h)))
    (cases_lt 16 (word ps 0)))
    (cases_lt (word ps 0) 1)

set_rop2 : (ps : List ℕ) → Outcome 0x0104 ps
set_rop2 ps =
    ⊎_elim (λ e. rop2 ps (inl e))
    (λ n. ⊎_elim (λ e. rop2 ps (inr e))
    (λ m. inr (refusal.RecordSize, inr (inr (inr (inr (inr (inl (refl, n, m))))))))
    (cases_eq (length ps) 4))
    (cases_eq (length ps) 2)

set_bk_color : (ps : List ℕ) → Outcome 0x0201 ps
set_bk_color ps =
    ⊎_elim
    (λ e. ⊎_elim
    (λ u. inl (shown.SetBkColor (word ps 0), (refl, e, u, refl)))
    (λ u. inr (refusal.Colour, inl (refl, e, u)))
    (cases_eq (word ps 2) 0x0100))
    (λ n. inr (refusal.RecordSize, inr (inr (inr (inr (inr (inr (inl (refl, n)))))))))
    (cases_eq (length ps) 4)

create_brush : (ps : List ℕ) → Outcome 0x02FC ps
create_brush ps =
    ⊎_elim
    (λ e. ⊎_elim
    (λ u. ⊎_elim
    (λ b. inl (shown.CreateBrushIndirect b.0, (refl, e, u, b.1)))
    (λ n. inr (refusal.Value, inr (inl (refl, e, u, n))))
    (a_brush (word ps 0) (word ps 2) (word ps 6)))
    (λ u. inr (refusal.Colour, inr (inl (refl, e, u))))
    (cases_eq (word ps 4) 0x0100))
    (λ n. inr (refusal.RecordSize, inr (inr (inr (inr (inr (inr (inr (inl (refl, n))))))))))
    (cases_eq (length ps) 8)

create_pen : (ps : List ℕ) → Outcome 0x02FA ps
create_pen ps =
    ⊎_elim
    (λ e. ⊎_elim
    (λ u. ⊎_elim
    (λ p. inl (shown.CreatePenIndirect p.0, (refl, e, u, p.1)))
    (λ n. inr (refusal.Value, inr (inr (inl (refl, e, u, n)))))
    (a_pen (word ps 0) (signed ps 2) (word ps 6)))
    (λ u. inr (refusal.Colour, inr (inr (refl, e, u))))
    (cases_eq (word ps 8) 0x0100))
    (λ n. inr (refusal.RecordSize, inr (inr (inr (inr (inr (inr (inr (inr (inl (refl, n)))))))))))
    (cases_eq (length ps) 10)

index : (f : ℕ) (ps : List ℕ) (make : ℕ → Record) → Indexed f → ((i : ℕ) → (length ps ≡ 2) × (i ≡ word ps 0) → Shows f ps (make i)) → Outcome f ps
index f ps make h shows =
    ⊎_elim (λ e. inl (make (word ps 0), shows (word ps 0) (e, refl)))
    (λ n. inr (refusal.RecordSize, inr (inr (inr (inr (inr (inr (inr (inr (inr (h, n)))))))))))
    (cases_eq (length ps) 2)

listed : (f : ℕ) (ps : List ℕ) → Listed f → Outcome f ps
listed f ps (inl e) = subst (λ (n : ℕ). Outcome n ps) (sym e) (end ps)
listed f ps (inr (inl (inl e))) = point f ps shown.SetWindowOrg (inl e) (λ p h. (e, h))
listed f ps (inr (inl (inr (inl e)))) = point f ps shown.SetViewportOrg (inr (inl e)) (λ p h. (e, h))
listed f ps (inr (inl (inr (inr (inl e))))) = point f ps shown.LineTo (inr (inr (inl e))) (λ p h. (e, h))
listed f ps (inr (inl (inr (inr (inr e))))) = point f ps shown.MoveTo (inr (inr (inr e))) (λ p h. (e, h))
listed f ps (inr (inr (inl e))) = subst (λ (n : ℕ). Outcome n ps) (sym e) (pat_blt ps)
listed f ps (inr (inr (inr (inl e)))) = subst (λ (n : ℕ). Outcome n ps) (sym e) (bit_blt ps)
listed f ps (inr (inr (inr (inr (inl e))))) = subst (λ (n : ℕ). Outcome n ps) (sym e) (intersect ps)
listed f ps (inr (inr (inr (inr (inr (inl e)))))) = subst (λ (n : ℕ). Outcome n ps) (sym e) (set_rop2 ps)
listed f ps (inr (inr (inr (inr (inr (inr (inl e))))))) = subst (λ (n : ℕ). Outcome n ps) (sym e) (set_bk_color ps)
listed f ps (inr (inr (inr (inr (inr (inr (inr (inl e)))))))) = subst (λ (n : ℕ). Outcome n ps) (sym e) (create_brush ps)
listed f ps (inr (inr (inr (inr (inr (inr (inr (inr (inl e))))))))) = subst (λ (n : ℕ). Outcome n ps) (sym e) (create_pen ps)
listed f ps (inr (inr (inr (inr (inr (inr (inr (inr (inr (inl e)))))))))) = index f ps shown.SelectObject (inl e) (λ i h. (e, h.0, h.1))
listed f ps (inr (inr (inr (inr (inr (inr (inr (inr (inr (inr e)))))))))) = index f ps shown.DeleteObject (inr e) (λ i h. (e, h.0, h.1))

cases_listed : (f : ℕ) → Listed f ⊎ (Listed f → ⊥)
cases_listed f = grind arith

pub outcome : (f : ℕ) (ps : List ℕ) → Outcome f ps
outcome f ps =
    ⊎_elim (listed f ps)
    (λ n. inl (shown.Unlisted f (record { ref_ptr = (0, 0); now = ps }), (n, refl, refl)))
    (cases_listed f)
