use Rattle.std.proofs.Common.{◌≡◌, pos, ◌+ℤ◌, ap, ◌∙◌, w32, w64, SFits, rules}
use Rattle.std.specs.Int.{int_max, int_min}
use Rattle.std.proofs.lemmas.Int.{to_z-of_z}
use Rattle.drawing.proofs.Cuts.{cut_is, clamped_fits, wide, within_is}
use Rattle.drawing.proofs.visibility.cut.Goals as goal

pub returns : goal.returns
returns c =
    let fs = c.ranges.start in
    let fn = c.ranges.length in
    let fl : SFits w32 c.args.clip.start = search rules in
    let fh : SFits w32 c.args.clip.end = search rules in
    let m : SFits w32 c.max.result = search rules in
    let n : SFits w32 c.max-2.result = search rules in
    let f1 : SFits w64 c.from.result = search rules in
    let f2 : SFits w64 c.from-2.result = search rules in
    let f3 : SFits w64 c.from-3.result = search rules in
    let f4 : SFits w64 c.from-4.result = search rules in
    let g1 : SFits w64 c.min.result = search rules in
    let g2 : SFits w64 c.clamp-last.result = search rules in
    let e1 = simp to_z-of_z at c.from.ensures in
    let e2 = simp to_z-of_z at c.from-2.ensures in
    let e3 = simp to_z-of_z at c.from-3.ensures in
    let s1 : SFits w64 (c.from.result +ℤ c.from-2.result) = wide _ _ _ _ c.ranges.start c.ranges.length e1 e2 in
    let high = simp to_z-of_z at c.clamp-last.ensures.upper_bound in
    let g3 : SFits w32 c.clamp-last.result = clamped_fits _ _ c.args.size c.ranges.size.fits c.clamp-last.ensures.lower_bound high c.from-4.ensures in
    let p : c.max-2.result ≡ int_max (int_max c.args.start c.args.clip.start) (pos 0) = simp to_z-of_z at c.max-2.ensures.value ∙ ap (λ u. int_max u (pos 0)) (simp to_z-of_z at c.max.ensures.value) in
    let q : c.clamp-last.result ≡ int_max (pos 0) (int_min (int_min (c.args.start +ℤ c.args.length) c.args.clip.end) (pos c.args.size)) =
    simp to_z-of_z at c.clamp-last.ensures.value
    ∙ ap (λ u. int_max (pos 0) (int_min u c.from-4.result)) (simp to_z-of_z at c.min.ensures.value)
    ∙ ap (λ u. int_max (pos 0) (int_min (int_min (c.from.result +ℤ c.from-2.result) c.from-3.result) u)) c.from-4.ensures
    ∙ ap (λ u. int_max (pos 0) (int_min (int_min (c.from.result +ℤ c.from-2.result) u) (pos c.args.size))) e3
    ∙ ap (λ u. int_max (pos 0) (int_min (int_min (c.from.result +ℤ u) c.args.clip.end) (pos c.args.size))) e2
    ∙ ap (λ u. int_max (pos 0) (int_min (int_min (u +ℤ c.args.length) c.args.clip.end) (pos c.args.size))) e1 in
    simp to_z-of_z (record {
      places = cut_is c.args.start (c.args.start +ℤ c.args.length) c.args.clip.start c.args.clip.end c.max-2.result c.clamp-last.result c.args.size p q;
      first = c.max-2.ensures.other_bound;
      end = (c.clamp-last.ensures.lower_bound, within_is _ _ _ high c.from-4.ensures);
    })
