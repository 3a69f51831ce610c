-- `repeats::some_falls` meets its contract: where `any` says no, `worker_falls` said no of each worker (`none_in_range`), and none of them
-- receives a send again. Assumes nothing.
use Rattle.std.proofs.Common.{rules, ◌≡◌, false, refl, ℕ}
use Rattle.std.proofs.lemmas.Iterator.{YieldsList-from_range}
use Rattle.ranges.proofs.Any.{any_every}
use Rattle.event_log.specs.Layout.{workers_of}
use Rattle.repeats.specs.Inner.Again.{worker_again, some_again}
use Rattle.repeats.proofs.Ranges.{none_in_range}
use Rattle.repeats.proofs.some_falls.Goals as goal

pub returns : goal.returns
unfolding some_again
returns c = record {
  rises = λ no. any_every _ _ (λ w h. none_in_range (λ (v : ℕ). worker_again (workers_of c.args.log.now) v ≡ false) _ _ _ c.any.ensures.ran
      (YieldsList-from_range 0 _ _ refl refl) (λ x q k. search rules) no w (rw c.worker_count-n.ensures.answer h));
}
