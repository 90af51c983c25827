-- How records lie in a file.
use Rattle.std.specs.Prelude.{◌≡◌, ℕ, ◌+◌, ◌*◌, ◌≤◌, List, length}
use Rattle.std.specs.List.{between}
use Rattle.codes.specs.declared.refusal.Refusal.TheVariants as refusal
use Rattle.metafile.specs.Bytes.{word, long}
use Rattle.metafile.specs.declared.fault.FileFault.{FileFault}
use Rattle.metafile.specs.declared.frame.Frame.{Frame}

-- a record lies at p
pub record Lies (b : List ℕ) (p : ℕ) : Type 0 where
  pub room : p + 6 ≤ length b
  pub least : 3 ≤ long b p
  pub within : p + 2 * long b p ≤ length b

-- the end of the record at p, its function and its parameters
abbrev pub end : List ℕ → ℕ → ℕ
end b p = p + 2 * long b p

abbrev pub function : List ℕ → ℕ → ℕ
function b p = word b (p + 4)

abbrev pub parameters : List ℕ → ℕ → List ℕ
parameters b p = between (p + 6) (end b p) b

pub record Framed (b : List ℕ) (p : ℕ) (f : Frame) : Type 0 where
  pub lies : Lies b p
  pub number : f.function ≡ function b p
  pub rest : f.parameters.now ≡ parameters b p
  pub reach : p + 6 + length f.parameters.now ≡ end b p

-- no record lies at p
pub record Unframed (b : List ℕ) (p : ℕ) (f : FileFault) : Type 0 where
  pub cause : f.cause ≡ refusal.Frame
  pub place : f.place ≡ p
  pub not : Lies b p → ⊥
