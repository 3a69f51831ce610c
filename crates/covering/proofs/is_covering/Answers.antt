-- `covering::is_covering` meets its contract: where no worker is without the identifier the words are the indices of its checkpoints, and
-- words past the last worker do not change what is startable (`startable_words`). Assumes nothing.
use mathlib.Core.Path.{◌∙◌}
use native.Mathlib.Omega.{arith}
use Rattle.accept.proofs.Accepted.{well_formed}
use Rattle.covering.specs.Covering.{covering_set}
use Rattle.covering.proofs.SetNumber.{startable_words}
use Rattle.covering.proofs.is_covering.Goals as goal

pub some_without_set-requires : goal.some_without_set-requires
some_without_set-requires c = (c.requires, (well_formed _ c.requires).few)

pub is_startable-requires : goal.is_startable-requires
is_startable-requires c = (c.requires, omega (arith, (well_formed _ c.requires).few, c.some_without_set.auto.indices))

pub returns-then-not-some_without_set : goal.returns-then-not-some_without_set
unfolding covering_set
returns-then-not-some_without_set c =
    let found = c.some_without_set.ensures in
    let each = c.if-not-some_without_set.true in
    let words = c.is_startable.ensures.answer ∙ rw (found.indices each) (startable_words _ (well_formed _ c.requires) _ _) in
    record { answer = rw (← found.answer, each) words }

pub returns-else-not-some_without_set : goal.returns-else-not-some_without_set
unfolding covering_set
returns-else-not-some_without_set c = record { answer = rw (← c.some_without_set.ensures.answer, c.if-not-some_without_set.false) }
