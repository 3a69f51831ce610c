-- The tube log is accepted, and holds the workers, events and checkpoints that document 01 lists.
-- Assumes nothing.
use mathlib.Core.Path.{◌≡◌, refl, ap}
use Rattle.ranges.specs.Fold.{any_below, tabulate}
use Rattle.bytes_le.specs.Little.{le}
use Rattle.event_log.specs.Model.{Log, worker_count, worker, event_count, event_of, checkpoint_count, checkpoint_of}
use Rattle.records.specs.Event.{is_send, is_unlogged, is_logged, is_receive, event_record}
use Rattle.event_log.specs.Layout.{field, section, event_section, checkpoint_section, worker_of, workers_of, log_of}
use Rattle.records.specs.Checkpoint.{checkpoint_record}
use Rattle.records.specs.Forms.{is_form, marks_withdrawn, receives_once}
use Rattle.records.specs.Mark.{has_mark, without_mark}
use Rattle.event_log.specs.Header.{length_fault, form_fault, size_fault, header_fault, limit_fault, outside, section_fault, entry_fault, some_entry, entries_refusal, layout_refusal}
use Rattle.record_tests.specs.Records.{kind_fault, peer_fault, send_fault, field_fault, stamp_fault, send_of, source_fault, order_fault, any_fault, event_fault}
use Rattle.record_tests.specs.Records.{checkpoint_fault, record_fault, record_count, worker_fault, some_record}
use Rattle.lent.specs.Lent.{or_else}
use Rattle.repeats.specs.Repeats.{repeat_fault}
use Rattle.accept.specs.Refusal.{events_refusal, records_refusal, content_refusal, log_refusal}
use Rattle.accept.specs.Tube.{tube, tube_log}

pub tube_model : log_of tube ≡ tube_log
unfolding le tabulate field section event_section checkpoint_section event_record marks_withdrawn has_mark without_mark checkpoint_record worker_of workers_of
tube_model = refl

pub tube_workers : workers_of tube ≡ tube_log.workers
tube_workers = ap (λ (l : Log). l.workers) tube_model

pub tube_accepted : log_refusal tube ≡ 0
unfolding any_below le tabulate worker_count worker event_count event_of checkpoint_count checkpoint_of is_send is_unlogged is_logged is_receive field section
    event_section checkpoint_section event_record marks_withdrawn without_mark checkpoint_record worker_of workers_of length_fault form_fault size_fault
    header_fault limit_fault outside section_fault entry_fault some_entry entries_refusal layout_refusal kind_fault peer_fault send_fault field_fault stamp_fault send_of source_fault order_fault
    any_fault event_fault checkpoint_fault record_fault record_count worker_fault some_record events_refusal records_refusal repeat_fault content_refusal or_else log_refusal is_form receives_once
tube_accepted = refl
