-- The interval log of the tube log, its length, and the receives within the lower cut of breakpoint 0/2, by computation. Assumes nothing.
use mathlib.Core.Path.{◌≡◌, refl}
use mathlib.Core.Bool.{false}
use mathlib.Core.List.{[], ◌∷◌}
use Rattle.ranges.specs.Fold.{max_below, sum_below, tabulate, keep_below, sweep}
use Rattle.records.specs.declared.Kind.TheVariants.{Unlogged}
use Rattle.records.specs.Event.{is_unlogged, is_logged, is_receive, received}
use Rattle.event_log.specs.Model.{Workers, worker_count, worker, role_of, event_count, event_of, checkpoint_count, checkpoint_of}
use Rattle.accept.specs.Tube.{tube_log}
use Rattle.pack.specs.Packed.{sections_size, start_of, packed_length}
use Rattle.causality.specs.Cut.{named_of, component, receive_at, receives_of}
use Rattle.lower_cut.specs.Figure2.{turn_if, turn, visit, visit_at, beginning, figure2}
use Rattle.intervals.specs.Interval.{interval_event, interval_checkpoint, event_stays, event_becomes, checkpoint_stays, checkpoint_becomes, interval_worker, interval_workers}
use Rattle.intervals.specs.IntervalCut.{receives_of_cut}

abbrev tube_intervals : Workers
tube_intervals =
    record {
      role = 3;
      events = record { kind = Unlogged; peer = 2; spare = 0; send = 0; stamp = 2 } ∷ record { kind = Unlogged; peer = 1; spare = 0; send = 1; stamp = 5 } ∷ [];
      checkpoints = record { index = 1; identifier = 1; withdrawn = false } ∷ [];
    } ∷
    record {
      role = 1;
      events = record { kind = Unlogged; peer = 2; spare = 0; send = 0; stamp = 3 } ∷ record { kind = Unlogged; peer = 0; spare = 0; send = 2; stamp = 7 } ∷ [];
      checkpoints = record { index = 0; identifier = 1; withdrawn = false } ∷ [];
    } ∷
    record {
      role = 0;
      events = record { kind = Unlogged; peer = 1; spare = 0; send = 0; stamp = 3 } ∷ [];
      checkpoints = record { index = 0; identifier = 1; withdrawn = false } ∷ [];
    } ∷ []

pub tube_intervals_lem : interval_workers tube_log.workers ≡ tube_intervals
unfolding sum_below tabulate keep_below is_unlogged is_logged is_receive received worker_count worker role_of event_count event_of checkpoint_count checkpoint_of receive_at interval_event interval_checkpoint event_stays event_becomes checkpoint_stays checkpoint_becomes interval_worker interval_workers
tube_intervals_lem = refl

pub tube_length : packed_length tube_intervals ≡ 152
unfolding sum_below worker_count worker event_count checkpoint_count sections_size start_of packed_length
tube_length = refl

pub tube_receives : receives_of_cut tube_log.workers 0 2 ≡ 2 ∷ 1 ∷ 0 ∷ []
unfolding max_below sum_below tabulate sweep is_unlogged is_logged is_receive received worker_count worker event_count event_of named_of component receive_at receives_of turn_if turn visit visit_at beginning figure2 receives_of_cut
tube_receives = refl
