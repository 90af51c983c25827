-- A function and its parameters show one record or break one rule, and never a second.
use Rattle.std.specs.Prelude.{◌≡◌, ℕ, ◌⊎◌, List}
use Rattle.std.specs.Borrow.{Bor}
use Rattle.codes.specs.declared.refusal.Refusal.{Refusal}
use Rattle.metafile.specs.Decoding.{Shows, Breaks}
use Rattle.metafile.specs.declared.record.Record.{Record}
use Rattle.metafile.specs.declared.record.Record.TheVariants as shown

-- two unlisted records of one function, whose parameters are the same bytes at two places
abbrev pub Elsewhere : Record → Record → Type 0
Elsewhere r s =
    (f : ℕ) × (p : Bor (List ℕ)) × (q : Bor (List ℕ)) × (r ≡ shown.Unlisted f p) × (s ≡ shown.Unlisted f q) × (p.now ≡ q.now)

-- There is a record or a cause; two records are one (but for where an unlisted one's bytes lie), two causes are one, and there is never a record with a cause.
pub record Exact : Type 0 where
  pub some : (f : ℕ) (ps : List ℕ) → ((r : Record) × Shows f ps r) ⊎ ((e : Refusal) × Breaks f ps e)
  pub one_record : (f : ℕ) (ps : List ℕ) (r s : Record) → Shows f ps r → Shows f ps s → (r ≡ s) ⊎ Elsewhere r s
  pub one_cause : (f : ℕ) (ps : List ℕ) (d e : Refusal) → Breaks f ps d → Breaks f ps e → d ≡ e
  pub not_both : (f : ℕ) (ps : List ℕ) (r : Record) (e : Refusal) → Shows f ps r → Breaks f ps e → ⊥
