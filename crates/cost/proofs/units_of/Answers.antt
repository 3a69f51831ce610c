-- `cost::units_of` meets its contract: `sum` adds the units of each worker in turn (`sum_in_range`), and by a loaded table this fits 64
-- bits (`held_units_fit`). Assumes nothing.
use Rattle.std.proofs.Common.{rules}
use Rattle.std.proofs.lemmas.Iterator.{serves_from_Range}
use Rattle.accept.proofs.Accepted.{accepted_layout}
use Rattle.cost.specs.Cost.{units_of}
use Rattle.cost.proofs.Held.{held_units_fit}
use Rattle.cost.proofs.Sums.{fits_in_range, sum_in_range}
use Rattle.cost.proofs.units_of.Goals as goal

pub worker_count-n-requires : goal.worker_count-n-requires
worker_count-n-requires c = accepted_layout _ c.requires.0.0

pub sum-requires-clause-can : goal.sum-requires-clause-can
sum-requires-clause-can c =
    (tt, serves_from_Range (λ x q k. search rules) (λ x l h. search rules))

pub sum-requires-clause-fits : goal.sum-requires-clause-fits
sum-requires-clause-fits c =
    fits_in_range _ c.map.ensures.source c.map.ensures.closure c.worker_count-n.ensures.answer (λ x r q k. search rules) _
    (held_units_fit _ _ c.requires.0 _ c.requires.1)

pub returns : goal.returns
unfolding units_of
returns c = record {
  answer = sum_in_range _ c.map.ensures.source c.map.ensures.closure c.worker_count-n.ensures.answer (λ x r q k. search rules) _ c.sum.ensures.ran;
}
