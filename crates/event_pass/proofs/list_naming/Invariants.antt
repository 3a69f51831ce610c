use mathlib.Core.Path.{◌≡◌}
use lib.ListN.{length}
use Rattle.event_log.specs.Layout.{workers_of}
use Rattle.event_log.specs.Model.{event_of}
use Rattle.event_pass.specs.Inner.Blocks.{block_size, Lists}
use Rattle.event_pass.proofs.list_naming.Given as goal

abbrev pub invariant-loop-k : goal.invariant-loop-k
invariant-loop-k l =
    Lists (workers_of l.log) l.w l.first l.k l.list l.count × (length l.list ≡ block_size) × (l.before ≡ (event_of (workers_of l.log) l.w l.k).stamp)
