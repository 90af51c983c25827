-- The cells of lines.
use Rattle.std.specs.Prelude.{ℕ, zero, suc, ◌+◌, ◌*◌, ◌/◌, min, max, Bool, false, cond, ◌||◌, ℤ, pos, ◌+ℤ◌, ◌-ℤ◌, int_lt, nat_le, unsigned_abs}
use Rattle.surface.specs.Meaning.{strip}
use Rattle.drawing.specs.declared.shape.Point.{Point}

-- n places from a towards b
abbrev pub toward : ℤ → ℤ → ℕ → ℤ
toward a b n = cond (int_lt b a) (a -ℤ pos n) (a +ℤ pos n)

-- how many columns, and how many rows, one point lies from another
abbrev pub columns : Point → Point → ℕ
columns p q = unsigned_abs (p.x -ℤ q.x)

abbrev pub rows : Point → Point → ℕ
rows p q = unsigned_abs (p.y -ℤ q.y)

abbrev pub longer : Point → Point → ℕ
longer p q = max (columns p q) (rows p q)

abbrev pub shorter : Point → Point → ℕ
shorter p q = min (columns p q) (rows p q)

-- the cell so many places along the longer way from p to q, and so many aside
abbrev pub place : Point → Point → ℕ → ℕ → Point
place p q along aside = cond (nat_le (rows p q) (columns p q))
    (record { x = toward p.x q.x along; y = toward p.y q.y aside })
    (record { x = toward p.x q.x aside; y = toward p.y q.y along })

-- cell i of the line from p to q: the nearest to the true line, and of two that are as near the one towards the end
abbrev pub spot : Point → Point → ℕ → Point
spot p q i = place p q i ((2 * (i * shorter p q) + longer p q) / (2 * longer p q))

-- the first n cells of the line from p to q
abbrev pub traced : Point → Point → ℕ → ℤ → ℤ → Bool
traced p q zero a b = false
traced p q (suc n) a b = traced p q n a b || strip (spot p q n).x (spot p q n).y 1 a b
