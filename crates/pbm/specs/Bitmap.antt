-- Raw PBM files: a header, and then the rows.
use Rattle.std.specs.Prelude.{◌≡◌, ℕ, zero, suc, ◌+◌, ◌-◌, ◌*◌, ◌/◌, ◌%◌, Bool, cond, ◌&&◌, List, [], ◌∷◌, ◌++◌, map, drop, pos, Ok, Err, decimal, Result, MatchResult, nat_le, nat_lt}
use Rattle.std.specs.List.{range_with_len}
use Rattle.codes.specs.declared.refusal.Refusal.{Refusal}
use Rattle.codes.specs.declared.refusal.Refusal.TheVariants.{Buffer, Row}
use Rattle.surface.specs.Meaning.{Meaning}

-- `P4` and a line feed, the width, a space, the height and a line feed
unfoldable pub header : ℕ → ℕ → List ℕ
header w h = (80 ∷ 52 ∷ 10 ∷ []) ++ (decimal w ++ ((32 ∷ []) ++ (decimal h ++ (10 ∷ []))))

abbrev pub celled : Meaning → Bool
celled m = nat_lt 0 m.width && nat_lt 0 m.height

-- The bit of column x in row y: 1, which is black, where the word's lowest bit is 0. Right of the picture it is 0.
abbrev pub pixel : Meaning → ℕ → ℕ → ℕ
pixel m y x = cond (nat_lt x m.width) (1 - m.word (pos x) (pos y) % 2) 0

-- the number of n bits f 0, f 1 and so on, the first one highest
unfoldable pub binary : (ℕ → ℕ) → ℕ → ℕ
binary f zero = 0
binary f (suc n) = 2 * binary f n + f n

-- byte i of row y: eight columns, the highest bit leftmost
abbrev pub octet : Meaning → ℕ → ℕ → ℕ
octet m y i = binary (λ k. pixel m y (8 * i + k)) 8

unfoldable pub row : Meaning → ℕ → List ℕ
row m y = map (octet m y) (range_with_len 0 ((m.width + 7) / 8))

-- What a writer answers: first whether there is what it writes, and then whether there is room for it.
abbrev pub answer : Bool → ℕ → ℕ → Result ℕ Refusal
answer there needed room = cond there (cond (nat_le needed room) (Ok needed) (Err Buffer)) (Err Row)

-- What a writer leaves in its buffer: the bytes at the front and the rest as it was, or where it refuses all as it was.
abbrev pub Wrote : List ℕ → List ℕ → List ℕ → Result ℕ Refusal → Type 0
Wrote bytes old new r = MatchResult r (λ n. new ≡ bytes ++ drop n old) (λ _. new ≡ old)
