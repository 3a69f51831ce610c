-- `accept::content_refusal` meets its contract: where 7 to 11 give 0 the log has what test 24 requires (`messages`), and that test decides
-- between 24 and 0. Assumes nothing.
use Rattle.std.proofs.Common.{rules, sym, ◌∙◌}
use Rattle.lent.specs.Lent.{or_else}
use Rattle.accept.specs.Refusal.{content_refusal}
use Rattle.accept.proofs.Accepted.{formed}
use Rattle.accept.proofs.Messages.{messages}
use Rattle.accept.proofs.content_refusal.Goals as goal

pub returns-then-refusal-ne0 : goal.returns-then-refusal-ne0
unfolding content_refusal or_else
returns-then-refusal-ne0 c = search rules

pub repeat_fault-requires : goal.repeat_fault-requires
repeat_fault-requires c =
    let layout = c.requires in
    (layout, messages _ (formed _ layout (sym c.records_refusal-refusal.ensures.answer ∙ c.if-refusal-ne0.false)))

pub returns-then-repeat_fault : goal.returns-then-repeat_fault
unfolding content_refusal or_else
returns-then-repeat_fault c = search rules

pub returns : goal.returns
unfolding content_refusal or_else
returns c = search rules
