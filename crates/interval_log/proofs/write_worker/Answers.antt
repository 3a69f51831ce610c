-- `interval_log::write_worker` meets its contract: the receives are written from `at` on and the checkpoints where those end, which are the
-- sections of worker w. Assumes nothing.
use mathlib.Core.Path.{◌∙◌}
use native.Mathlib.Omega.{arith}
use Rattle.event_log.specs.Layout.{workers_of}
use Rattle.event_log.specs.Model.{event_count}
use Rattle.pack.specs.Packed.{sections_size, sections_of}
use Rattle.pack.proofs.Records.{events_all_long}
use Rattle.pack.proofs.Writing.{more_at}
use Rattle.intervals.specs.Interval.{interval_workers}
use Rattle.interval_log.proofs.write_worker.Goals as goal

pub write_events-behind-requires : goal.write_events-behind-requires
unfolding sections_size
write_events-behind-requires c = omega (arith, c.requires)

pub write_checkpoints-requires : goal.write_checkpoints-requires
unfolding sections_size
write_checkpoints-requires c = omega (arith, c.requires, c.write_events-behind.ensures.answer, c.write_events-behind.auto.out)

pub returns : goal.returns
unfolding sections_size sections_of
returns c =
    let log = interval_workers (workers_of c.args.table.now.intervals.log.now) in
    let w = c.args.w in
    let long = events_all_long log w (event_count log w) in record {
      answer = omega (arith, c.write_checkpoints.ensures.answer, c.write_events-behind.ensures.answer);
      out = c.write_checkpoints.ensures.out
          ∙ rw c.write_events-behind.ensures.out (more_at c.args.at _ c.args.out.now _ _ (omega (arith, c.requires)) (omega (arith, c.write_events-behind.ensures.answer)));
    }
