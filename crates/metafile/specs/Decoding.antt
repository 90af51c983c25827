-- What the record of a function f asks for, whose parameters are the bytes ps, or which rule it breaks.
use Rattle.std.specs.Prelude.{◌≡◌, ℕ, ◌+◌, ◌<◌, ◌≤◌, true, false, ◌⊎◌, List, length, ℤ, pos, ◌≤ℤ◌, ◌<ℤ◌}
use Rattle.codes.specs.Modes.{mode_number}
use Rattle.codes.specs.Operations.{sourced}
use Rattle.codes.specs.declared.refusal.Refusal.{Refusal}
use Rattle.codes.specs.declared.refusal.Refusal.TheVariants as refusal
use Rattle.pencil.specs.Tools.{PenIs, NoPen, BrushIs, NoBrush}
use Rattle.metafile.specs.Bytes.{word, signed}
use Rattle.metafile.specs.Functions.{Listed, Missized}
use Rattle.metafile.specs.declared.logical.LogicalArea.{LogicalArea}
use Rattle.metafile.specs.declared.logical.LogicalPoint.{LogicalPoint}
use Rattle.metafile.specs.declared.record.Record.{Record}
use Rattle.metafile.specs.declared.record.Record.TheVariants as shown

-- a point lies at i: y before x
abbrev pub PointAt : List ℕ → ℕ → LogicalPoint → Type 0
PointAt ps i p = (p.y ≡ signed ps i) × (p.x ≡ signed ps (i + 2))

-- the parameters are a point
abbrev pub PointIs : List ℕ → LogicalPoint → Type 0
PointIs ps p = (length ps ≡ 4) × PointAt ps 0 p

-- a colour's number of 32 bits lies at i: the colour in its lower half, and 0x0100 in its upper half
abbrev pub Coloured : List ℕ → ℕ → Type 0
Coloured ps i = word ps (i + 2) ≡ 0x0100

-- a code's number of 32 bits lies at i: the code in bits 16 to 23, with 0 above; its lower half is not read
abbrev pub Coded : List ℕ → ℕ → ℕ → Type 0
Coded ps i code = (word ps (i + 2) < 256) × (code ≡ word ps (i + 2))

-- an area lies at i: height, width and corner; neither height nor width is below 0
abbrev pub AreaAt : List ℕ → ℕ → LogicalArea → Type 0
AreaAt ps i a = (a.height ≡ signed ps i) × (a.width ≡ signed ps (i + 2)) × PointAt ps (i + 4) a.at × (pos 0 ≤ℤ a.width) × (pos 0 ≤ℤ a.height)

-- a width or a height below 0
abbrev pub Negative : ℤ → ℤ → Type 0
Negative width height = (width <ℤ pos 0) ⊎ (height <ℤ pos 0)

-- the record that is asked for
abbrev pub Shows : ℕ → List ℕ → Record → Type 0
Shows f ps shown.End = (f ≡ 0x0000) × (length ps ≡ 0)
Shows f ps (shown.SetWindowOrg origin) = (f ≡ 0x020B) × PointIs ps origin
Shows f ps (shown.SetViewportOrg origin) = (f ≡ 0x020D) × PointIs ps origin
Shows f ps (shown.MoveTo to) = (f ≡ 0x0214) × PointIs ps to
Shows f ps (shown.LineTo to) = (f ≡ 0x0213) × PointIs ps to
Shows f ps (shown.PatBlt code area) = (f ≡ 0x061D) × (length ps ≡ 12) × Coded ps 0 code × (sourced code ≡ false) × AreaAt ps 4 area
Shows f ps (shown.BitBlt code area source) = (f ≡ 0x0922) × (length ps ≡ 18) × Coded ps 0 code × PointAt ps 4 source × AreaAt ps 10 area
Shows f ps (shown.IntersectClipRect near far) = (f ≡ 0x0416) × (length ps ≡ 8) × PointAt ps 0 far × PointAt ps 4 near
Shows f ps (shown.SetRop2 mode) = (f ≡ 0x0104) × ((length ps ≡ 2) ⊎ (length ps ≡ 4)) × (mode_number mode ≡ word ps 0)
Shows f ps (shown.SetBkColor colour) = (f ≡ 0x0201) × (length ps ≡ 4) × Coloured ps 0 × (colour ≡ word ps 0)
Shows f ps (shown.CreateBrushIndirect brush) = (f ≡ 0x02FC) × (length ps ≡ 8) × Coloured ps 2 × BrushIs (word ps 0) (word ps 2) (word ps 6) brush
Shows f ps (shown.CreatePenIndirect pen) = (f ≡ 0x02FA) × (length ps ≡ 10) × Coloured ps 6 × PenIs (word ps 0) (signed ps 2) (word ps 6) pen
Shows f ps (shown.SelectObject index) = (f ≡ 0x012D) × (length ps ≡ 2) × (index ≡ word ps 0)
Shows f ps (shown.DeleteObject index) = (f ≡ 0x01F0) × (length ps ≡ 2) × (index ≡ word ps 0)
Shows f ps (shown.Unlisted function rest) = (Listed f → ⊥) × (function ≡ f) × (rest.now ≡ ps)

-- a colour's upper half is wrong
abbrev pub BreaksColour : ℕ → List ℕ → Type 0
BreaksColour f ps =
    ((f ≡ 0x0201) × (length ps ≡ 4) × (Coloured ps 0 → ⊥))
    ⊎ ((f ≡ 0x02FC) × (length ps ≡ 8) × (Coloured ps 2 → ⊥))
    ⊎ ((f ≡ 0x02FA) × (length ps ≡ 10) × (Coloured ps 6 → ⊥))

-- a code's top byte is not 0, or a paint depends on a source
abbrev pub BreaksOperation : ℕ → List ℕ → Type 0
BreaksOperation f ps =
    ((f ≡ 0x061D) × (length ps ≡ 12) × ((256 ≤ word ps 2) ⊎ (sourced (word ps 2) ≡ true)))
    ⊎ ((f ≡ 0x0922) × (length ps ≡ 18) × (256 ≤ word ps 2))

-- a mode, a style, a hatch or a pen's width that there is none of, or a negative width or height
abbrev pub BreaksValue : ℕ → List ℕ → Type 0
BreaksValue f ps =
    ((f ≡ 0x0104) × ((length ps ≡ 2) ⊎ (length ps ≡ 4)) × (1 ≤ word ps 0 → word ps 0 ≤ 16 → ⊥))
    ⊎ ((f ≡ 0x02FC) × (length ps ≡ 8) × Coloured ps 2 × NoBrush (word ps 0) (word ps 6))
    ⊎ ((f ≡ 0x02FA) × (length ps ≡ 10) × Coloured ps 6 × NoPen (word ps 0) (signed ps 2))
    ⊎ ((f ≡ 0x061D) × (length ps ≡ 12) × (word ps 2 < 256) × (sourced (word ps 2) ≡ false) × Negative (signed ps 6) (signed ps 4))
    ⊎ ((f ≡ 0x0922) × (length ps ≡ 18) × (word ps 2 < 256) × Negative (signed ps 12) (signed ps 10))

-- the first rule that the record breaks, in the order of the causes' numbers
abbrev pub Breaks : ℕ → List ℕ → Refusal → Type 0
Breaks f ps refusal.Size = ⊥
Breaks f ps refusal.Memory = ⊥
Breaks f ps refusal.FileLength = ⊥
Breaks f ps refusal.Header = ⊥
Breaks f ps refusal.Frame = ⊥
Breaks f ps refusal.RecordSize = Missized f (length ps)
Breaks f ps refusal.Colour = BreaksColour f ps
Breaks f ps refusal.Operation = BreaksOperation f ps
Breaks f ps refusal.Value = BreaksValue f ps
Breaks f ps refusal.TableFull = ⊥
Breaks f ps refusal.NoObject = ⊥
Breaks f ps refusal.Range = ⊥
Breaks f ps refusal.Buffer = ⊥
Breaks f ps refusal.Row = ⊥
