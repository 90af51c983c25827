use Rattle.std.proofs.Common.{◌&&◌, [], ◌∷◌, None, ap, ◌∙◌, subst, rules}
use Rattle.surface.specs.Meaning.{Meaning}
use Rattle.surface.specs.Rects.{Grown}
use Rattle.pbm.specs.Bitmap.{octet}
use Rattle.examples.specs.Pictures.{block, painted}
use Rattle.examples.proofs.Cells.{same_picture}
use Rattle.examples.proofs.painting.paint_packed.Goals as goal

pub returns-clause-bounds : goal.returns-clause-bounds
returns-clause-bounds c =
    subst (λ (z : Meaning). Grown None (λ x y. block x y && z.opens x y) c.paint_metered-bounds.result)
    (same_picture (search rules) (search rules) c.new-picture.ensures.same) c.paint_metered-bounds.ensures.bounds

pub returns-clause-rows : goal.returns-clause-rows
returns-clause-rows c =
    let p = c.paint_metered-bounds.ensures.picture ∙ ap painted (same_picture (search rules) (search rules) c.new-picture.ensures.same) in
    let a = c.row_byte.ensures ∙ ap (λ (z : Meaning). octet z 0 0) p in
    let a1 = c.row_byte-2.ensures ∙ ap (λ (z : Meaning). octet z 1 0) p in
    let a2 = c.row_byte-3.ensures ∙ ap (λ (z : Meaning). octet z 2 0) p in
    let a3 = c.row_byte-4.ensures ∙ ap (λ (z : Meaning). octet z 3 0) p in
    λ i. a i ∷ a1 i ∷ a2 i ∷ a3 i ∷ []
