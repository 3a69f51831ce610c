-- `cost::events_of` meets its contract: `sum` adds cut minus start of each worker in turn (`sum_in_range`), and this fits 64 bits
-- (`held_events_fit`). Assumes nothing.
use Rattle.std.proofs.Common.{rules, ◌-◌, ◌∙◌}
use Rattle.std.proofs.lemmas.Iterator.{serves_from_Range}
use Rattle.accept.proofs.Accepted.{accepted_layout}
use Rattle.cost.specs.Words.{cut_in, start_in}
use Rattle.cost.proofs.Held.{held_worker, held_events, held_events_fit}
use Rattle.cost.proofs.Sums.{fits_in_range, sum_in_range}
use Rattle.cost.proofs.events_of.Goals as goal

pub worker_count-n-requires : goal.worker_count-n-requires
worker_count-n-requires c = accepted_layout _ c.requires.0

pub sum-requires-clause-can : goal.sum-requires-clause-can
sum-requires-clause-can c =
    (tt, serves_from_Range (λ x q k. search rules) (λ x l h. let is = held_worker _ _ c.requires x (search rules) in search (rules, is.wide, is.start)))

pub sum-requires-clause-fits : goal.sum-requires-clause-fits
sum-requires-clause-fits c =
    fits_in_range (λ w. cut_in c.args.words.now w - start_in c.args.words.now w)
    c.map.ensures.source c.map.ensures.closure c.worker_count-n.ensures.answer (λ x r q k. search rules) _ (held_events_fit _ _ c.requires)

pub returns : goal.returns
returns c = record {
  answer = sum_in_range (λ w. cut_in c.args.words.now w - start_in c.args.words.now w)
      c.map.ensures.source c.map.ensures.closure c.worker_count-n.ensures.answer (λ x r q k. search rules) _ c.sum.ensures.ran
      ∙ held_events _ _ c.requires;
}
