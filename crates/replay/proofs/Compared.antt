-- The answer of a step to an event, by comparisons that are made for every kind. Assumes nothing.
use mathlib.Core.Path.{◌≡◌, refl}
use mathlib.Core.Bool.{Bool, true, false, cond, ◌&&◌}
use mathlib.Core.List.{List}
use Prim.Native.Nat.{ℕ, ◌<◌, ◌≤◌}
use native.Mathlib.Omega.{arith}
use lib.Dec.{leb}
use borrow.Author.Tests.{lt-ltb, le-ltb}
use Rattle.records.specs.declared.Event.{Event}
use Rattle.records.specs.Event.{is_unlogged, unlogged_send}
use Rattle.lent.specs.Lent.{at}
use Rattle.choice.specs.Choice.{loses_send}
use Rattle.replay_machine.specs.Machine.{receive_answer, event_answer}

module _ (starts positions : List ℕ) (e : Event) where
  pub compared_waits : at positions e.peer < unlogged_send e 0 → event_answer starts positions e ≡ 22
  unfolding unlogged_send event_answer receive_answer
  compared_waits = go (is_unlogged e)
    where
      go : (b : Bool) → at positions e.peer < cond b e.send 0
          → ◌≡◌ {A = ℕ} (cond b (receive_answer starts positions e) 0) 22
      go true l = rw (lt-ltb (at positions e.peer) e.send l)
      go false l = let no : ⊥ = omega arith in absurd no

  module _ (come : unlogged_send e 0 ≤ at positions e.peer) where
    -- a send that has come is received, unless it is lost
    pub compared_come : (lost : Bool) → loses_send e (at starts e.peer) ≡ lost → event_answer starts positions e ≡ cond lost 23 0
    unfolding unlogged_send event_answer receive_answer loses_send
    compared_come lost test = rw (← test) (go (is_unlogged e) come)
      where
        go : (b : Bool) → cond b e.send 0 ≤ at positions e.peer
            → ◌≡◌ {A = ℕ} (cond b (receive_answer starts positions e) 0) (cond (b && leb e.send (at starts e.peer)) 23 0)
        go true l = rw (le-ltb (at positions e.peer) e.send l)
        go false l = refl
