-- An event that was read stops a worker, whatever its kind: a send names event 0, so the kind need not be asked for.
-- Assumes nothing.
use mathlib.Core.Path.{◌≡◌, refl}
use mathlib.Core.Logic.{◌≢◌}
use mathlib.Core.Bool.{Bool, true, false, ◌&&◌, ◌||◌, and-false}
use mathlib.Core.List.{List}
use Prim.Native.Nat.{ℕ, ◌+◌, ◌<◌}
use native.Mathlib.Omega.{arith}
use borrow.Author.Tests.{le-ltb, ne_eqb}
use lib.Dec.{eqb, ltb}
use Rattle.records.specs.declared.Event.{Event}
use Rattle.event_log.specs.Layout.{workers_of}
use Rattle.event_log.specs.Model.{event_count, event_of}
use Rattle.records.specs.Event.{is_receive}
use Rattle.accept.specs.Refusal.{log_refusal}
use Rattle.lent.specs.Lent.{at}
use Rattle.causality.proofs.Peers.{names_none}
use Rattle.upper_line.specs.Inner.Raising.{blocked}

-- event k + 1 of worker w compared with a line and the breakpoint event
pub blocked_any : (s : List ℕ) (accepted : log_refusal s ≡ 0) (w k : ℕ) (e : Event) → e ≡ event_of (workers_of s) w (k + 1) → k < event_count (workers_of s) w
    → (i event : ℕ) (line : List ℕ) → 0 < event
    → (ltb (at line e.peer) e.send || (eqb e.peer i && eqb e.send event)) ≡ blocked (workers_of s) i event line w k
unfolding blocked
blocked_any s accepted w k e q h i event line positive = rw (← q) (go (is_receive e) refl)
  where
    go : (b : Bool) → is_receive e ≡ b → (ltb (at line e.peer) e.send || (eqb e.peer i && eqb e.send event))
        ≡ (is_receive e && (ltb (at line e.peer) e.send || (eqb e.peer i && eqb e.send event)))
    go true r = rw r
    go false r =
        let other : 0 ≢ event = omega arith in
        rw (r, names_none s accepted w k e q h r, le-ltb (at line e.peer) 0 (omega arith), ne_eqb 0 event other) (and-false (eqb e.peer i))
