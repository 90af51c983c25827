-- What lies at a place of a file.
use Rattle.std.specs.Prelude.{◌≡◌, ℕ, ◌<◌, List, MatchResult}
use Rattle.codes.specs.declared.refusal.Refusal.{Refusal}
use Rattle.metafile.specs.Frames.{Lies, end, function, parameters}
use Rattle.metafile.specs.Decoding.{Shows, Breaks}
use Rattle.metafile.specs.declared.record.Record.{Record}
use Rattle.player.specs.declared.finding.Found.{Found}

-- the record r lies at p
abbrev pub ShowsAt : List ℕ → ℕ → Record → Type 0
ShowsAt b p r = Lies b p × Shows (function b p) (parameters b p) r

-- what lies at p breaks the rule c
abbrev pub BreaksAt : List ℕ → ℕ → Refusal → Type 0
BreaksAt b p c = Lies b p × Breaks (function b p) (parameters b p) c

-- what was found lies at p, and ends behind it
abbrev pub FoundAt : List ℕ → ℕ → Found → Type 0
FoundAt b p f = MatchResult f.decoded (ShowsAt b p) (BreaksAt b p) × (f.end ≡ end b p) × (p < f.end)
