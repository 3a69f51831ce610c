use Prim.Native.Nat.{◌+◌}
use lib.ListN.{length}
use Rattle.event_log.specs.Layout.{workers_of}
use Rattle.replay_machine.specs.Machine.{step_words}
use Rattle.replay.proofs.Storing.{Storing}
use Rattle.planner.proofs.stepping.step_each.Given as goal

abbrev pub invariant-loop-j : goal.invariant-loop-j
invariant-loop-j l =
    Storing step_words (length l.initial.positions + 1) (workers_of l.log) l.words l.workers l.initial.positions l.initial.steps l.j l.positions l.steps
