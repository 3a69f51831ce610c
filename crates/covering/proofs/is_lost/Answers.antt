-- `covering::is_lost` meets its contract: an event at or before its worker's start is not lost; the peer of a later one is a worker of the
-- log, so `starts` has a word for it, and `loses_send` decides. Assumes nothing.
use Prim.Native.Nat.{◌<◌, ◌≤◌}
use native.Mathlib.Omega.{arith}
use borrow.Author.Tests.{le-leb, lt-leb}
use Rattle.event_log.proofs.Read.{worker_within}
use Rattle.event_log.specs.Layout.{workers_of}
use Rattle.event_log.specs.Model.{worker_count}
use Rattle.accept.proofs.Accepted.{accepted_layout, well_formed}
use Rattle.causality.proofs.Peers.{peer_within}
use Rattle.lent.specs.Lent.{at}
use Rattle.choice.specs.Choice.{lost_at}
use Rattle.covering.proofs.is_lost.Goals as goal

pub overflow_add-x : goal.overflow_add-x
overflow_add-x c = omega (arith, c.requires.2, (well_formed _ c.requires.0).events c.args.w)

pub offset_bounds-starts-w : goal.offset_bounds-starts-w
offset_bounds-starts-w c =
    let here : c.args.w < worker_count (workers_of c.args.log.now) = worker_within _ c.args.w c.args.k c.requires.2 in
    omega (arith, here, (well_formed _ c.requires.0).few)

pub bounds-starts-w : goal.bounds-starts-w
bounds-starts-w c =
    let here : c.args.w < worker_count (workers_of c.args.log.now) = worker_within _ c.args.w c.args.k c.requires.2 in
    omega (arith, here, c.requires.1)

pub returns-then-x-starts : goal.returns-then-x-starts
unfolding lost_at
returns-then-x-starts c =
    let low : c.args.k < at c.args.starts.now c.args.w = omega (arith, c.if-x-starts.true) in record { answer = rw (lt-leb _ _ low) }

pub event_at-e-requires : goal.event_at-e-requires
event_at-e-requires c = accepted_layout _ c.requires.0

-- the event's peer is one of the log's workers, and has a start
pub bounds-starts-e : goal.bounds-starts-e
bounds-starts-e c = omega (arith, c.requires.1, peer_within _ c.requires.0 _ _ _ c.event_at-e.ensures.answer c.requires.2)

pub returns : goal.returns
unfolding lost_at
returns c =
    let low : at c.args.starts.now c.args.w ≤ c.args.k = omega (arith, c.if-x-starts.false) in record { answer = rw (le-leb _ _ low, ← c.event_at-e.ensures.answer) c.loses_send.ensures.answer }
