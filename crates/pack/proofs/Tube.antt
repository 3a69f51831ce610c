-- The packed tube log is the tube log, by computation. Assumes nothing.
use mathlib.Core.Path.{◌≡◌, refl}
use Rattle.ranges.specs.Fold.{sum_below, tabulate, join_below}
use Rattle.bytes_le.specs.Little.{le, bytes_of}
use Rattle.event_log.specs.Layout.{field, section, event_section, checkpoint_section, worker_of, workers_of, log_of}
use Rattle.records.specs.Event.{event_record}
use Rattle.records.specs.Checkpoint.{checkpoint_record}
use Rattle.records.specs.Forms.{marks_withdrawn}
use Rattle.records.specs.Mark.{has_mark, without_mark, with_mark}
use Rattle.event_log.specs.Model.{worker_count, worker, role_of, event_count, event_of, checkpoint_count, checkpoint_of}
use Rattle.accept.specs.Tube.{tube}
use Rattle.pack.specs.Packed.{event_bytes, checkpoint_bytes, number_at, event_at, checkpoint_at, sections_of, sections_size, start_of, numbers_of, entry_of, packed_length, fields_of, packed}

pub tube_packed : packed (log_of tube) ≡ tube
unfolding sum_below tabulate join_below le bytes_of field section event_section checkpoint_section event_record marks_withdrawn has_mark without_mark with_mark checkpoint_record worker_of workers_of worker_count worker role_of event_count event_of checkpoint_count checkpoint_of event_bytes checkpoint_bytes number_at event_at checkpoint_at sections_of sections_size start_of numbers_of entry_of packed_length fields_of packed
tube_packed = refl
