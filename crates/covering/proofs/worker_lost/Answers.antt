-- `covering::worker_lost` meets its contract: `any` asks each event in turn (`any_in_range`), and the cut of all events has all events of w
-- (`all_at`). Assumes nothing.
use Rattle.std.proofs.Common.{rules, refl, sym, ◌∙◌}
use Rattle.std.proofs.lemmas.Iterator.{YieldsList-from_range}
use Rattle.ranges.proofs.Chains.{any_in_range}
use Rattle.accept.proofs.Accepted.{accepted_layout}
use Rattle.choice.specs.Choice.{worker_lost}
use Rattle.covering.proofs.CoveringSet.{all_at}
use Rattle.covering.proofs.worker_lost.Goals as goal

pub event_count-count-requires : goal.event_count-count-requires
event_count-count-requires c = accepted_layout _ c.requires.0

pub returns : goal.returns
unfolding worker_lost
returns c = record {
  answer = any_in_range _ _ _ _ c.any.ensures.ran (YieldsList-from_range 0 _ _ refl refl) (c.event_count-count.ensures.answer ∙ sym (all_at _ _))
      (λ x b q k. search rules);
}
