-- `replay::list::others_refusal` meets its contract: `or_else` gives 14 for totals, positions and steps in this order; the quotient of the
-- steps is below the calls exactly where the steps are below calls × (n + 1) (`room_quotient`). Assumes nothing.
use Rattle.accept.proofs.Accepted.{accepted_layout}
use Rattle.replay_machine.specs.Calls.{others_refusal}
use Rattle.replay.proofs.Storing.{room_quotient}
use Rattle.replay.proofs.list.others_refusal.Goals as goal

pub worker_count-n-requires : goal.worker_count-n-requires
worker_count-n-requires c = accepted_layout _ c.requires

pub returns : goal.returns
unfolding others_refusal
returns c = record {
  answer = rw (
    ← c.words_refusal.ensures.answer,
    ← c.worker_count-n.ensures.answer,
    ← c.words_refusal-placed.ensures.answer,
    ← room_quotient _ _ _,
    ← c.words_refusal-stepped.ensures.answer,
    ← c.or_else.ensures.answer,
  )
      c.or_else-2.ensures.answer;
}
