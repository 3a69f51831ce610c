-- `accept::records_refusal` meets its contract: where 7 to 10 give a number it is returned; else test 11 decides between 11 and 0.
-- Assumes nothing.
use Rattle.std.proofs.Common.{rules}
use Rattle.lent.specs.Lent.{or_else}
use Rattle.accept.specs.Refusal.{records_refusal}
use Rattle.accept.proofs.records_refusal.Goals as goal

pub returns-then-refusal-ne0 : goal.returns-then-refusal-ne0
unfolding records_refusal or_else
returns-then-refusal-ne0 c = search rules

pub returns-then-some_record : goal.returns-then-some_record
unfolding records_refusal or_else
returns-then-some_record c = search rules

pub returns : goal.returns
unfolding records_refusal or_else
returns c = search rules
