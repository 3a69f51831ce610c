-- `starts::resend` meets its contract: an event that loses no send changes no word; where a receive loses its send, the sender
-- gets its last checkpoint below the send, and it has words, since a peer is a worker of the log (`peer_wide`). Assumes nothing.
use mathlib.Core.Path.{◌∙◌}
use Rattle.accept.proofs.Accepted.{accepted_layout}
use Rattle.starts.specs.Inner.Rollback.{resent}
use Rattle.starts.proofs.Settling.{peer_wide}
use Rattle.starts.proofs.resend.Goals as goal

pub event_at-e-requires : goal.event_at-e-requires
event_at-e-requires c = accepted_layout _ c.requires.0

pub start_in-requires : goal.start_in-requires
start_in-requires c =
    let pre = c.requires in
    peer_wide _ _ _ _ _ pre.0 pre.1 pre.2 c.event_at-e.ensures.answer

pub returns-then-not-loses_send : goal.returns-then-not-loses_send
unfolding resent
returns-then-not-loses_send c =
    let asked = c.loses_send in record {
      words = rw (
        ← c.event_at-e.ensures.answer,
        ← c.start_in.ensures.answer,
        ← asked.ensures.answer,
        c.if-not-loses_send.true,
      );
    }

pub number_in-requires : goal.number_in-requires
number_in-requires c =
    let pre = c.requires in
    peer_wide _ _ _ _ _ pre.0 pre.1 pre.2 c.event_at-e.ensures.answer

pub place-requires : goal.place-requires
place-requires c =
    let pre = c.requires in
    (pre.0, peer_wide _ _ _ _ _ pre.0 pre.1 pre.2 c.event_at-e.ensures.answer)

pub returns : goal.returns
unfolding resent
returns c =
    let read = c.event_at-e in
    let asked = c.loses_send in record {
      words = c.place.ensures.words
          ∙ rw (
            c.number_below-c.ensures.answer,
            c.number_in.ensures.answer,
            ← read.ensures.answer,
            ← c.start_in.ensures.answer,
            ← asked.ensures.answer,
            c.if-not-loses_send.false,
          );
    }
