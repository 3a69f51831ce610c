-- `cost::worker_units` meets its contract: up to event k `counts` is the number of receives without data after the start plus 2 ^ 32 times
-- that of those with it; both are below 2 ^ 32, so remainder and quotient are these numbers. Assumes nothing.
use mathlib.Core.Path.{◌∙◌}
use native.Mathlib.Omega.{arith}
use Rattle.accept.proofs.Accepted.{accepted_layout}
use Rattle.cost.proofs.Counted.{count_begins, count_goes_on, start_first, cut_few, counts_few, count_ends}
use Rattle.cost.proofs.worker_units.Goals as goal

pub loop-k-init : goal.loop-k-init
loop-k-init c = count_begins _ _ c.requires.0 _ c.requires.1 c.start_in-start.ensures.answer c.cut_in-cut.ensures.answer

pub event_at-e-requires : goal.event_at-e-requires
event_at-e-requires c = accepted_layout _ c.requires.0.0

pub loop-k-preserved : goal.loop-k-preserved
loop-k-preserved c =
    count_goes_on _ _ c.requires.0 _ c.requires.1 c.start_in-start.ensures.answer c.cut_in-cut.ensures.answer
    c.loop-k.invariant c.loop-k-test.true _ c.event_at-e.ensures.answer c.counted_as-counts.ensures.answer

pub role_of-requires : goal.role_of-requires
role_of-requires c = accepted_layout _ c.requires.0.0

pub overflow_sub-cut : goal.overflow_sub-cut
overflow_sub-cut c = start_first _ _ c.requires.0 _ c.requires.1 c.start_in-start.ensures.answer c.cut_in-cut.ensures.answer

pub counted_units-requires : goal.counted_units-requires
counted_units-requires c =
    let few = cut_few _ _ c.requires.0 _ c.requires.1 c.start_in-start.ensures.answer c.cut_in-cut.ensures.answer in
    let counted = counts_few _ _ c.requires.0 _ c.requires.1 c.start_in-start.ensures.answer c.cut_in-cut.ensures.answer c.loop-k.invariant c.loop-k.auto.k-end in
    (omega (arith, c.role_of.ensures.small), omega arith, counted, c.requires.2)

pub returns : goal.returns
returns c = record {
  answer = c.counted_units.ensures.answer
      ∙ count_ends _ _ c.requires.0 _ c.requires.1 c.start_in-start.ensures.answer c.cut_in-cut.ensures.answer
      c.loop-k.invariant c.loop-k.auto.k-end c.loop-k-test.false c.role_of.ensures.answer;
}
