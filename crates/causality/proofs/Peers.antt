-- What an accepted log says of an event that was read, whatever its kind: a send names event 0, so the kind need not be asked for.
-- Assumes nothing.
use mathlib.Core.Path.{◌≡◌, refl, sym, ◌∙◌}
use mathlib.Core.Bool.{Bool, true, false, ◌&&◌, false≢true}
use mathlib.Core.Logic.{⊎_elim}
use mathlib.Core.List.{List}
use Prim.Native.Nat.{ℕ, ◌+◌, ◌<◌, ◌≤◌, max}
use native.Mathlib.Nat.{max-zero}
use native.Mathlib.Omega.{arith}
use borrow.Author.Tests.{le-ltb}
use lib.Dec.{ltb}
use lib.ListN.{set}
use lib.Seq.{set-get_or}
use Rattle.records.specs.declared.Event.{Event}
use Rattle.event_log.specs.Limits.{max_events}
use Rattle.event_log.specs.Layout.{workers_of}
use Rattle.event_log.specs.Model.{worker_count, event_count, event_of}
use Rattle.records.specs.Event.{is_receive}
use Rattle.event_log.proofs.Read.{count_field}
use Rattle.accept.specs.Refusal.{log_refusal}
use Rattle.accept.proofs.Accepted.{accepted_layout, well_formed}
use Rattle.lent.specs.Lent.{at}
use Rattle.causality.specs.Cut.{lacks}
use Rattle.causality.specs.Inner.Row.{noted}

-- a worker has few events
pub events_few : (s : List ℕ) → log_refusal s ≡ 0 → (w : ℕ) → event_count (workers_of s) w ≤ max_events
events_few s accepted w = (count_field s (accepted_layout s accepted) w).1

-- event k + 1 of worker w
module _ (s : List ℕ) (accepted : log_refusal s ≡ 0) (w k : ℕ) (e : Event) (q : e ≡ event_of (workers_of s) w (k + 1)) (h : k < event_count (workers_of s) w) where
  -- its peer is a worker of the log
  pub peer_within : e.peer < worker_count (workers_of s)
  peer_within = rw q ((well_formed s accepted).peers w (k + 1) (omega arith) (omega arith))

  -- what is no receive names no event
  pub names_none : is_receive e ≡ false → e.send ≡ 0
  names_none r =
      ⊎_elim (λ send. rw q ((well_formed s accepted).nameless w (k + 1) (omega arith) (omega arith) send))
      (λ receive. absurd (false≢true (sym (rw q at r) ∙ receive)))
      ((well_formed s accepted).kinds w (k + 1) (omega arith) (omega arith))

  -- so the kind need not be asked for where the event is noted ..
  pub noted_any : (words : List ℕ) → set words e.peer (max (at words e.peer) e.send) ≡ noted e words
  unfolding noted
  noted_any words = go (is_receive e) refl
    where
      go : (b : Bool) → is_receive e ≡ b → set words e.peer (max (at words e.peer) e.send) ≡ noted e words
      go true r = rw r
      go false r = rw (r, names_none r, max-zero (at words e.peer)) (set-get_or words e.peer 0)

  -- .. or compared with a cut
  pub lacks_any : (cut : List ℕ) → ltb (at cut e.peer) e.send ≡ lacks (workers_of s) cut w k
  unfolding lacks
  lacks_any cut = rw (← q) (go (is_receive e) refl)
    where
      go : (b : Bool) → is_receive e ≡ b → ltb (at cut e.peer) e.send ≡ (is_receive e && ltb (at cut e.peer) e.send)
      go true r = rw r
      go false r = rw (r, names_none r, le-ltb (at cut e.peer) 0 (omega arith))
