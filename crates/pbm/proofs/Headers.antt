-- A text behind the first three bytes of a memory.
use Rattle.std.proofs.Common.{◌≡◌, ℕ, ◌+◌, ◌-◌, List, [], ◌∷◌, ◌++◌, drop, arith}
use Rattle.std.proofs.lemmas.List.{drop-drop}
use borrow.Rule.Slice.PartMut.{put_mid}

pub behind : (a b c : ℕ) (front text out : List ℕ) (n : ℕ) → front ≡ a ∷ b ∷ c ∷ []
    → put_mid 3 (3 + n - 3) (front ++ drop 3 out) text ≡ (a ∷ b ∷ c ∷ []) ++ (text ++ drop (3 + n) out)
behind a b c front text out n f =
    let e : 3 + n - 3 ≡ n = omega arith in
    let d = drop-drop n 3 out in
    rw (f, e, d)
