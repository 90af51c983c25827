-- From written bytes to a picture of one byte a cell.
use Rattle.std.proofs.Common.{◌≡◌, ℕ, ◌+◌, ◌-◌, ◌*◌, ◌%◌, ◌<◌, ◌≤◌, true, false, cond, List, length, get_or, take, drop, replicate, pos, ⊎_elim, arith, rules}
use borrow.Rule.Slice.PartMut.{put_mid}
use Rattle.std.proofs.lemmas.List.{get_or-replicate, length-replicate, length-take, length-drop, places}
use Rattle.std.proofs.lemmas.Bool.{cases_lt}
use Rattle.std.proofs.lemmas.Bool.Decides.{nat_tests}
use Rattle.surface.specs.Meaning.{strip}
use Rattle.raster.specs.Bits.{among}
use Rattle.raster.specs.Layout.{has_row, row_there}
use Rattle.raster.specs.Bytewise.{bytewise_needs, BytesDrawn}
use Rattle.raster.proofs.Layouts.{row_end, row_here, redrawn_row}

-- a fill of the bytes a..e of a memory
module _ (m ys : List ℕ) (a e b : ℕ) (ae : a ≤ e) (em : e ≤ length m) (f : ys ≡ replicate (length (take (e - a) (drop a m))) b) where
  part : ys ≡ replicate (e - a) b
  part = let n : length (take (e - a) (drop a m)) ≡ e - a = simp (length-take, length-drop) (omega arith) in rw n at f

  pub fill_length : length (put_mid a (e - a) m ys) ≡ length m
  fill_length = let l : length ys ≡ e - a = rw (part, length-replicate) in search (rules, places)

  pub fill_at : (i : ℕ) → get_or (put_mid a (e - a) m ys) i 0 ≡ cond (among a e i) b (get_or m i 0)
  fill_at i =
      let l : length ys ≡ e - a = rw (part, length-replicate) in
      ⊎_elim
      (λ lt.
      let r : get_or (put_mid a (e - a) m ys) i 0 ≡ get_or m i 0 = search (rules, places) in
      let t : among a e i ≡ false = grind (arith, nat_tests) in
      cc)
      (λ ge. ⊎_elim
      (λ lt.
      let r : get_or (put_mid a (e - a) m ys) i 0 ≡ get_or ys (i - a) 0 = search (rules, places) in
      let s : get_or ys (i - a) 0 ≡ b = rw part (get_or-replicate (e - a) (i - a) b 0 (omega arith)) in
      let t : among a e i ≡ true = grind (arith, nat_tests) in
      cc)
      (λ above.
      let r : get_or (put_mid a (e - a) m ys) i 0 ≡ get_or m i 0 = search (rules, places) in
      let t : among a e i ≡ false = grind (arith, nat_tests) in
      cc)
      (cases_lt i e))
      (cases_lt i a)

module _ (w h : ℕ) (m : List ℕ) (y : ℕ) (fit : bytewise_needs w h ≤ length m) (low : y < h) where
  here : has_row h (row_there w (length m)) (pos y) ≡ true
  here = row_here h w (length m) y fit low

  pub bytewise_row : (ys : List ℕ) (start from to v : ℕ) → start ≡ y * w → from ≤ to → to ≤ w
      → ys ≡ replicate (length (take (start + to - (start + from)) (drop (start + from) m))) (v % 256)
      → BytesDrawn w h m (strip (pos from) (pos y) (to - from)) v (put_mid (start + from) (start + to - (start + from)) m ys)
  bytewise_row ys start from to v at ft tw f =
      let l = row_end h w (length m) y fit low in
      let em : start + to ≤ length m = omega arith in
      let a : start + from ≤ start + to = omega arith in
      let new = put_mid (start + from) (start + to - (start + from)) m ys in
      record {
        long = fill_length m ys (start + from) (start + to) (v % 256) a em f;
        bytes = redrawn_row w h w 8 (row_there w (length m)) y here (omega arith) from to ft tw (λ i. get_or m i 0) (λ i. get_or new i 0) v
            (λ i. let t = fill_at m ys (start + from) (start + to) (v % 256) a em f i in cc);
      }
