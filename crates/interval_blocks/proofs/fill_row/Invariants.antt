-- before turn j `from` is where block j begins, the last event where there is no such block, `number` is its interval, and the first j blocks
-- are in the table
use mathlib.Core.Path.{◌≡◌}
use Prim.Native.Nat.{◌*◌, ◌^◌, min}
use Rattle.event_log.specs.Model.{event_count}
use Rattle.event_log.specs.Layout.{workers_of}
use Rattle.intervals.specs.Interval.{interval_at}
use Rattle.interval_blocks.specs.Inner.Row.{Row}
use Rattle.interval_blocks.proofs.fill_row.Given as goal

abbrev pub invariant-loop-j : goal.invariant-loop-j
invariant-loop-j l =
    (l.from.0 ≡ min (l.j * 2 ^ l.b) (event_count (workers_of l.log) l.w)) × (l.number ≡ interval_at (workers_of l.log) l.w l.from)
    × Row (workers_of l.log) l.b l.w l.first l.j l.initial.table l.table
