-- `replay::answer` meets its contract: 12 where the worker is none of the log's, 21 where its position is at its cut, else the answer to
-- event position + 1, whose peer has a position and a start (`peer_within`). Assumes nothing.
use Rattle.std.proofs.lemmas.Grind.{common_steps}
use mathlib.Core.Path.{◌≡◌}
use mathlib.Core.List.{List}
use Prim.Native.Nat.{ℕ, ◌+◌, ◌<◌}
use borrow.Author.Tests.{le-leb, lt-leb}
use native.Mathlib.Omega.{arith}
use Rattle.event_log.specs.Layout.{workers_of}
use Rattle.event_log.specs.Model.{worker_count, event_of}
use Rattle.lent.specs.Lent.{at}
use Rattle.records.specs.declared.Event.{Event}
use Rattle.accept.specs.Refusal.{log_refusal}
use Rattle.accept.proofs.Accepted.{accepted_layout}
use Rattle.cost.specs.Words.{cut_in}
use Rattle.replay_machine.specs.Inner.State.{IsState}
use Rattle.causality.proofs.Peers.{peer_within}
use Rattle.cost.proofs.Held.{cuts_at, starts_in_at}
use Rattle.replay_machine.specs.Machine.{answer_of}
use Rattle.replay.proofs.answer.Goals as goal

-- the peer of the event that a worker below its cut comes to is a worker of the log
peer_of : (s words positions : List ℕ) (w : ℕ) (e : Event) → log_refusal s ≡ 0 → IsState (workers_of s) words positions → w < worker_count (workers_of s)
    → at positions w < cut_in words w → e ≡ event_of (workers_of s) w (at positions w + 1) → e.peer < worker_count (workers_of s)
peer_of s words positions w e accepted state mine below is =
    let order = state.ordered w mine in
    peer_within _ accepted _ _ _ is (omega (arith, order, below))

pub worker_count-requires : goal.worker_count-requires
worker_count-requires c = accepted_layout _ c.requires.0

pub returns-then-worker_count-w : goal.returns-then-worker_count-w
unfolding answer_of
returns-then-worker_count-w c = grind (arith, common_steps)

pub returns-then-cut_in-position : goal.returns-then-cut_in-position
unfolding answer_of
returns-then-cut_in-position c =
    let mine = rw c.worker_count.ensures.answer at c.if-worker_count-w.false in
    record { answer = rw (lt-leb _ _ mine, cuts_at _ _ _ mine, le-leb _ _ (rw c.cut_in.ensures.answer at c.if-cut_in-position.true)) }

pub event_at-requires : goal.event_at-requires
event_at-requires c = accepted_layout _ c.requires.0

pub event_answer-requires : goal.event_answer-requires
event_answer-requires c =
    let mine = rw c.worker_count.ensures.answer at c.if-worker_count-w.false in
    let peer = peer_of _ _ _ _ _ c.requires.0 c.requires.1 mine (rw c.cut_in.ensures.answer at c.if-cut_in-position.false) c.event_at.ensures.answer in
    (omega (arith, peer, c.requires.1.placed), omega (arith, peer, c.requires.1.planned))

pub returns : goal.returns
unfolding answer_of
returns c =
    let mine = rw c.worker_count.ensures.answer at c.if-worker_count-w.false in
    let below = rw c.cut_in.ensures.answer at c.if-cut_in-position.false in
    let peer = peer_of _ _ _ _ _ c.requires.0 c.requires.1 mine below c.event_at.ensures.answer in
    record {
      answer = rw (lt-leb _ _ mine, cuts_at _ _ _ mine, lt-leb _ _ below, ← c.event_at.ensures.answer)
          (c.event_answer.ensures.answer _ (starts_in_at _ _ _ peer));
    }
