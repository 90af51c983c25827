-- The table of functions: those that are listed, the bytes of parameters that each may have, and its published name.
use Rattle.std.specs.Prelude.{◌≡◌, ℕ, ◌⊎◌, List, codes, ◌≢◌}
use Rattle.metafile.specs.declared.record_type.RecordType.{RecordType}
use Rattle.metafile.specs.declared.record_type.RecordType.TheVariants as type

-- the functions of a point
abbrev pub Pointed : ℕ → Type 0
Pointed f = (f ≡ 0x020B) ⊎ (f ≡ 0x020D) ⊎ (f ≡ 0x0213) ⊎ (f ≡ 0x0214)

-- the functions of an index
abbrev pub Indexed : ℕ → Type 0
Indexed f = (f ≡ 0x012D) ⊎ (f ≡ 0x01F0)

abbrev pub Listed : ℕ → Type 0
Listed f =
    (f ≡ 0x0000)
    ⊎ Pointed f
    ⊎ (f ≡ 0x061D)
    ⊎ (f ≡ 0x0922)
    ⊎ (f ≡ 0x0416)
    ⊎ (f ≡ 0x0104)
    ⊎ (f ≡ 0x0201)
    ⊎ (f ≡ 0x02FC)
    ⊎ (f ≡ 0x02FA)
    ⊎ Indexed f

-- n bytes of parameters are wrong for the listed function f (a record of w words has 2 * w - 6 of them)
abbrev pub Missized : ℕ → ℕ → Type 0
Missized f n =
    ((f ≡ 0x0000) × (n ≢ 0))
    ⊎ (Pointed f × (n ≢ 4))
    ⊎ ((f ≡ 0x061D) × (n ≢ 12))
    ⊎ ((f ≡ 0x0922) × (n ≢ 18))
    ⊎ ((f ≡ 0x0416) × (n ≢ 8))
    ⊎ ((f ≡ 0x0104) × (n ≢ 2) × (n ≢ 4))
    ⊎ ((f ≡ 0x0201) × (n ≢ 4))
    ⊎ ((f ≡ 0x02FC) × (n ≢ 8))
    ⊎ ((f ≡ 0x02FA) × (n ≢ 10))
    ⊎ (Indexed f × (n ≢ 2))

-- the published name of a listed function
abbrev pub Named : ℕ → List ℕ → Type 0
Named f t =
    ((f ≡ 0x0000) × (t ≡ codes "META_EOF"))
    ⊎ ((f ≡ 0x020B) × (t ≡ codes "META_SETWINDOWORG"))
    ⊎ ((f ≡ 0x020D) × (t ≡ codes "META_SETVIEWPORTORG"))
    ⊎ ((f ≡ 0x0214) × (t ≡ codes "META_MOVETO"))
    ⊎ ((f ≡ 0x0213) × (t ≡ codes "META_LINETO"))
    ⊎ ((f ≡ 0x061D) × (t ≡ codes "META_PATBLT"))
    ⊎ ((f ≡ 0x0922) × (t ≡ codes "META_BITBLT"))
    ⊎ ((f ≡ 0x0416) × (t ≡ codes "META_INTERSECTCLIPRECT"))
    ⊎ ((f ≡ 0x0104) × (t ≡ codes "META_SETROP2"))
    ⊎ ((f ≡ 0x0201) × (t ≡ codes "META_SETBKCOLOR"))
    ⊎ ((f ≡ 0x02FC) × (t ≡ codes "META_CREATEBRUSHINDIRECT"))
    ⊎ ((f ≡ 0x02FA) × (t ≡ codes "META_CREATEPENINDIRECT"))
    ⊎ ((f ≡ 0x012D) × (t ≡ codes "META_SELECTOBJECT"))
    ⊎ ((f ≡ 0x01F0) × (t ≡ codes "META_DELETEOBJECT"))

-- the number of a listed function
abbrev pub function_of : RecordType → ℕ
function_of type.Eof = 0x0000
function_of type.SetWindowOrg = 0x020B
function_of type.SetViewportOrg = 0x020D
function_of type.MoveTo = 0x0214
function_of type.LineTo = 0x0213
function_of type.PatBlt = 0x061D
function_of type.BitBlt = 0x0922
function_of type.IntersectClipRect = 0x0416
function_of type.SetRop2 = 0x0104
function_of type.SetBkColor = 0x0201
function_of type.CreateBrushIndirect = 0x02FC
function_of type.CreatePenIndirect = 0x02FA
function_of type.SelectObject = 0x012D
function_of type.DeleteObject = 0x01F0
