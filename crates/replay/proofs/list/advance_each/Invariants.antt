use Rattle.event_log.specs.Layout.{workers_of}
use Rattle.replay_machine.specs.Machine.{answer_word}
use Rattle.replay.proofs.Storing.{Storing}
use Rattle.replay.proofs.list.advance_each.Given as goal

abbrev pub invariant-loop-j : goal.invariant-loop-j
invariant-loop-j l =
    Storing answer_word 1 (workers_of l.log) l.words l.workers l.initial.positions l.initial.answers l.j l.positions l.answers
