-- `causality::cut_test` meets its contract: the number is `test_refusal`'s; where it is 0 (`test_ok`) the first n words are a cut, and it
-- is consistent exactly where `some_lacks` says no (`tells_consistent`). Assumes nothing.
use Rattle.std.proofs.Common.{arith}
use Rattle.std.proofs.lemmas.Bool.Decides.{nat_tests}
use Rattle.accept.proofs.Accepted.{well_formed}
use Rattle.causality.specs.Calls.{yes_unless}
use Rattle.refusals.proofs.Allowed.{test_ok}
use Rattle.causality.proofs.CutTest.{first_words, tells_consistent}
use Rattle.causality.proofs.cut_test.Goals as goal

pub returns-then-refusal-ne0-clause-answer : goal.returns-then-refusal-ne0-clause-answer
unfolding yes_unless
returns-then-refusal-ne0-clause-answer c = grind (arith, nat_tests)

pub some_lacks-requires : goal.some_lacks-requires
some_lacks-requires c =
    let lent = test_ok _ _ _ c.test_refusal-refusal.ensures.answer c.if-refusal-ne0.false in
    (lent.0, lent.1, lent.2)

pub returns-clause-answer : goal.returns-clause-answer
unfolding yes_unless
returns-clause-answer c =
    let lent = test_ok _ _ _ c.test_refusal-refusal.ensures.answer c.if-refusal-ne0.false in
    rw (c.some_lacks.ensures.answer, first_words _ (well_formed _ lent.0) c.args.words.now)

pub returns-clause-exactly : goal.returns-clause-exactly
returns-clause-exactly c =
    let lent = test_ok _ _ _ c.test_refusal-refusal.ensures.answer c.if-refusal-ne0.false in
    λ _. tells_consistent _ _ _ lent.1 lent.2 (rw c.some_lacks.ensures.answer (first_words _ (well_formed _ lent.0) c.args.words.now))
