-- `interval_log::write_with` meets its contract: the table has a place for each block; with it fields, entries and sections, each written
-- where the last ends, are the packed interval log (`packed_written`). Assumes nothing.
use mathlib.Core.Path.{◌∙◌}
use native.Mathlib.Omega.{arith}
use Rattle.event_log.specs.Layout.{workers_of}
use Rattle.event_log.proofs.Read.{workers_few}
use Rattle.accept.proofs.Accepted.{accepted_layout}
use Rattle.pack.specs.Packed.{fields_of}
use Rattle.pack.proofs.Writing.{header_within, packed_written}
use Rattle.intervals.specs.Interval.{interval_workers, interval_log}
use Rattle.intervals.proofs.IntervalModel.{interval_size}
use Rattle.interval_log.proofs.write_with.Goals as goal

pub new-table-requires : goal.new-table-requires
new-table-requires c =
    let layout = accepted_layout _ c.requires.0.accepted in
    (c.requires.0.accepted, c.requires.1, workers_few _ layout, c.requires.2)

pub write_fields-requires : goal.write_fields-requires
write_fields-requires c =
    let within = header_within (interval_workers (workers_of c.args.log.now)) in
    (omega (arith, c.requires.0.enough), c.worker_count.ensures.few, omega (arith, c.requires.0.fits, c.requires.0.long))

pub returns : goal.returns
unfolding fields_of
returns c =
    let log = workers_of c.args.log.now in
    let whole = rw (interval_size log) at (packed_written (interval_log log) c.args.out.now) in record {
      out = c.write_sections.ensures.out
          ∙ rw (c.write_entries.ensures.out, c.write_fields.ensures.out, c.new-table.ensures.log, c.worker_count.ensures.answer, c.requires.0.long) whole;
    }
