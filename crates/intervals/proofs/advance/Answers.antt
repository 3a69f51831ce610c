-- `intervals::advance` meets its contract: before each turn `number` counts the receives among the first k events of worker w, which is one
-- of the log's where it has an event. Assumes nothing.
use Prim.Native.Nat.{◌<◌}
use native.Mathlib.Omega.{arith}
use Rattle.event_log.proofs.Read.{next_within}
use Rattle.intervals.proofs.advance.Goals as goal

pub event_in-requires : goal.event_in-requires
event_in-requires c =
    let within : c.loop-k.k < c.event_count-events.result = omega (arith, c.requires.2, c.event_count-events.ensures.answer) in
    (next_within _ c.requires.0 _ _ _ _ c.event_start-start.ensures.answer c.event_count-events.ensures.answer within, within)
