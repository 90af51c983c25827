use Rattle.std.proofs.Common.{◌≡◌, pos, ◌+ℤ◌, arith}
use Rattle.std.specs.Int.{int_min}
use Rattle.std.proofs.lemmas.Grind.{common_steps}
use borrow.Author.Differences.{ints}
use Rattle.std.proofs.lemmas.Int.{clamps}
use Rattle.layers.proofs.Cells.{cut_is, none_left, Few}
use Rattle.layers.proofs.span.cut.Goals as goal

end_is : (c : goal.Then-start-end) → c.min-end.result ≡ int_min (c.args.x +ℤ pos c.args.n) c.args.high
end_is c = grind (arith, common_steps)

few : (c : goal.Then-start-end) → Few c.max-start.result c.min-end.result c.args.high
few c = omega (arith, ints, clamps, end_is c)

pub overflow_sub-result : goal.overflow_sub-result
overflow_sub-result c = let f = few c in omega (arith, ints)

pub overflow_cast-result : goal.overflow_cast-result
overflow_cast-result c = let f = few c in omega (arith, ints)

pub returns-then-start-end-clause-cells : goal.returns-then-start-end-clause-cells
returns-then-start-end-clause-cells c = let f = few c in let e = end_is c in cut_is _ _ _ _ c.min-end.result _ _ (omega (arith, ints, clamps)) e (omega (arith, ints))

pub returns-then-start-end-clause-to : goal.returns-then-start-end-clause-to
returns-then-start-end-clause-to c = let f = few c in λ _. omega (arith, ints)

pub returns-else-start-end-clause-cells : goal.returns-else-start-end-clause-cells
returns-else-start-end-clause-cells c =
    let e : c.min-end.result ≡ int_min (c.args.x +ℤ pos c.args.n) c.args.high = grind (arith, common_steps) in
    none_left _ _ _ c.max-start.result c.min-end.result _ _ (omega (arith, ints, clamps)) e (omega (arith, ints, clamps))
