-- `causality::test_refusal` meets its contract: the log's number, then 14 or `others`, is returned where it is not 0; past these the log is
-- accepted and has a word for each worker, so `some_over_count` decides 16. Assumes nothing.
use Rattle.std.proofs.Common.{arith}
use Rattle.std.proofs.lemmas.Bool.Decides.{nat_tests}
use Rattle.lent.specs.Lent.{or_else, words_refusal}
use Rattle.refusals.specs.Refusals.{cut_refusal, test_refusal}
use Rattle.causality.proofs.test_refusal.Goals as goal

pub returns-then-refusal-ne0 : goal.returns-then-refusal-ne0
unfolding test_refusal or_else
returns-then-refusal-ne0 c = record { answer = grind (arith, nat_tests) }

pub returns-then-short-ne0 : goal.returns-then-short-ne0
unfolding test_refusal or_else
returns-then-short-ne0 c = record { answer = grind (arith, nat_tests) }

pub some_over_count-requires : goal.some_over_count-requires
unfolding or_else words_refusal
some_over_count-requires c = grind (arith, nat_tests)

pub returns-then-some_over_count : goal.returns-then-some_over_count
unfolding cut_refusal test_refusal or_else
returns-then-some_over_count c = record { answer = grind (arith, nat_tests) }

pub returns : goal.returns
unfolding cut_refusal test_refusal or_else
returns c = record { answer = grind (arith, nat_tests) }
