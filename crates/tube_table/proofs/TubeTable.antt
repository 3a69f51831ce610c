-- The table T1 to T10 of the tube log, computed from its 212 bytes.
-- Assumes nothing.
use mathlib.Core.Path.{◌≡◌, refl}
use mathlib.Core.Bool.{false}
use mathlib.Core.List.{[], ◌∷◌}
use lib.ListN.{set}
use Rattle.ranges.specs.Fold.{any_below, max_below, sum_below, first_below, last_below, tabulate, sweep}
use Rattle.bytes_le.specs.Little.{le}
use Rattle.records.specs.declared.Kind.TheVariants.{Send, Unlogged, Logged}
use Rattle.records.specs.Forms.{marks_withdrawn}
use Rattle.records.specs.Mark.{has_mark, without_mark}
use Rattle.event_log.specs.Model.{Workers, worker_count, worker, role_of, event_count, event_of, checkpoint_count, checkpoint_of}
use Rattle.records.specs.Event.{is_send, is_unlogged, is_logged, is_receive, event_record}
use Rattle.event_log.specs.Layout.{field, section, event_section, checkpoint_section, worker_of, workers_of}
use Rattle.records.specs.Checkpoint.{checkpoint_record}
use Rattle.accept.specs.Tube.{tube, tube_log}
use Rattle.accept.proofs.Tube.{tube_workers}
use Rattle.causality.specs.Cut.{named_of, component, vector, lacks, worker_lacks, is_consistent}
use Rattle.lower_cut.specs.Figure2.{turn_if, turn, visit, visit_at, beginning, figure2}
use Rattle.upper_line.specs.Upper.{happened, upper_at, upper_line}
use Rattle.choice.specs.Choice.{may_choose, loses_send, lost_at, worker_lost, is_startable}
use Rattle.restore_plan.specs.Plan.{loses, worker_loses, some_loses, usable, index_if, rolled_back_at, rolled_back, plan_starts}
use Rattle.unit_table.specs.Table.{built_in}
use Rattle.cost.specs.Cost.{replayed, events_of, event_units, worker_units, units_of}
use Rattle.covering.specs.Covering.{is_set, cut_of_all, without_set, index_of, set_index, set_starts, covering_set}
use Rattle.replay_machine.specs.Machine.{receive_answer, event_answer, answer_of}
use Rattle.tube_table.specs.Tube.{tube_logged, TubeTable}

-- the workers of tube_logged: event 2 of worker 1 is of kind 3, all else is as in tube_log
abbrev logged : Workers
logged =
    set tube_log.workers 1
    (record {
      role = 1;
      events =
          record { kind = Send; peer = 2; spare = 0; send = 0; stamp = 1 } ∷
          record { kind = Logged; peer = 2; spare = 0; send = 2; stamp = 3 } ∷
          record { kind = Send; peer = 0; spare = 0; send = 0; stamp = 4 } ∷
          record { kind = Unlogged; peer = 0; spare = 0; send = 3; stamp = 7 } ∷ [];
      checkpoints = record { index = 1; identifier = 1; withdrawn = false } ∷ [];
    })

logged_model : workers_of tube_logged ≡ logged
unfolding le tabulate field section event_section checkpoint_section event_record marks_withdrawn has_mark without_mark checkpoint_record worker_of workers_of
logged_model = refl

computed : TubeTable tube_log.workers logged
unfolding any_below max_below sum_below first_below last_below tabulate sweep worker_count worker role_of event_count event_of checkpoint_count checkpoint_of
    is_send is_unlogged is_logged is_receive named_of component vector lacks worker_lacks is_consistent turn_if turn visit visit_at beginning figure2
    happened upper_at upper_line may_choose loses worker_loses some_loses usable index_if rolled_back_at rolled_back plan_starts replayed events_of
    event_units worker_units units_of built_in loses_send lost_at worker_lost is_startable is_set cut_of_all without_set index_of set_index set_starts covering_set receive_answer event_answer
    answer_of
computed =
    record {
      t1 = refl;
      t2 = refl;
      t3 = refl;
      t4 = (refl, refl);
      t5 = refl;
      t6 = refl;
      t7 = (refl, refl, refl);
      t8 = refl;
      t9 = refl;
      t10 = refl;
      set1 = refl;
    }

-- T1 to T10 and set 1, together
pub tube_table : TubeTable (workers_of tube) (workers_of tube_logged)
tube_table = rw (tube_workers, logged_model) computed
