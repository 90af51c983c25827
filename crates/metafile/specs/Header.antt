-- The rules of a file and of its header.
use Rattle.std.specs.Prelude.{◌≡◌, ℕ, ◌*◌, ◌≤◌, ◌⊎◌, List, length, take}
use Rattle.codes.specs.declared.refusal.Refusal.TheVariants.{FileLength, Header}
use Rattle.metafile.specs.Bytes.{word, long}
use Rattle.metafile.specs.declared.fault.FileFault.{FileFault}
use Rattle.metafile.specs.declared.checked.Checked.{Checked}

pub record Sized (b : List ℕ) : Type 0 where
  pub least : 18 ≤ length b
  pub most : length b ≤ 65536

pub record Headed (b : List ℕ) : Type 0 where
  pub type : (word b 0 ≡ 1) ⊎ (word b 0 ≡ 2)
  pub size : word b 2 ≡ 9
  pub version : (word b 4 ≡ 0x0100) ⊎ (word b 4 ≡ 0x0300)
  pub words : 12 ≤ long b 6
  pub within : 2 * long b 6 ≤ length b
  pub objects : word b 10 ≤ 16

-- what is kept of a file that stands
pub record Accepted (b : List ℕ) (c : Checked) : Type 0 where
  pub sized : Sized b
  pub headed : Headed b
  pub bytes : c.bytes.now ≡ take (2 * long b 6) b
  pub objects : c.objects ≡ word b 10
  pub first : c.first ≡ 18

-- why a file does not stand: its length, or else its header
pub record Refused (b : List ℕ) (f : FileFault) : Type 0 where
  pub place : f.place ≡ 0
  pub cause : ((f.cause ≡ FileLength) × (Sized b → ⊥)) ⊎ ((f.cause ≡ Header) × Sized b × (Headed b → ⊥))
