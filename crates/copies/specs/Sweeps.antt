-- The places of a range, in one order or the other.
use Rattle.std.specs.Prelude.{◌≡◌, Bool, true, false, ℤ, pos, ◌+ℤ◌, ◌≤ℤ◌, ◌<ℤ◌, Option, MatchOption}
use Rattle.copies.specs.declared.sweep.Sweep.{Sweep}

-- the first of the places from `start` up to `end`, or the last, and those that are then left
abbrev pub Takes : Bool → ℤ → ℤ → ℤ → ℤ → ℤ → Type 0
Takes false start end x start' end' = (x ≡ start) × (start' ≡ start +ℤ pos 1) × (end' ≡ end)
Takes true start end x start' end' = (start' ≡ start) × (end' ≡ x) × (end ≡ x +ℤ pos 1)

-- what one step of a sweep gives
abbrev pub steps : Sweep → Option ℤ → Sweep → Type 0
steps s r t = (t.backwards ≡ s.backwards) × MatchOption r (s.places.end ≤ℤ s.places.start)
    (λ x. (s.places.start <ℤ s.places.end) × Takes s.backwards s.places.start s.places.end x t.places.start t.places.end)
