-- Progress: from startable starts, all are at their cuts or some worker's step would be done.
-- Assumes nothing.
use mathlib.Core.Path.{◌≡◌, refl, sym, ◌∙◌}
use mathlib.Core.Bool.{Bool, true, false, false≢true}
use mathlib.Core.Logic.{◌⊎◌, inl, inr, ⊎_elim}
use mathlib.Core.List.{List}
use Prim.Native.Nat.{ℕ, ◌+◌, ◌<◌}
use native.Mathlib.Omega.{arith}
use borrow.Author.Tests.{ltb-true, ltb-false}
use lib.Dec.{ltb}
use Rattle.ranges.specs.Fold.{any_below}
use Rattle.ranges.proofs.Any.{any_each, any_some}
use Rattle.ranges.proofs.Order.{lt_or_le, descend}
use Rattle.event_log.specs.Model.{Workers, worker_count, event_of}
use Rattle.records.specs.Event.{is_unlogged, is_receive}
use Rattle.accept.specs.WellFormed.{WellFormed}
use Rattle.accept.proofs.Stamps.{waits_earlier}
use Rattle.lent.specs.Lent.{at}
use Rattle.causality.specs.Cut.{Consistent, Within}
use Rattle.choice.specs.Choice.{Startable}
use Rattle.replay_machine.specs.Machine.{answer_of, AtCut}
use Rattle.replay_machine.proofs.Steps.{Between, Ready, done_ready}

-- a worker below its cut
abbrev Behind : Workers → List ℕ → List ℕ → ℕ → Type 0
Behind log cut positions w = (w < worker_count log) × (at positions w < at cut w)

-- positions within the cut are at it, or some worker is below its cut
at_cut_or_behind : (log : Workers) (cut positions : List ℕ) → Within positions cut → AtCut log cut positions ⊎ ((w : ℕ) × Behind log cut positions w)
at_cut_or_behind log cut positions within = go (any_below behind (worker_count log)) refl
  where
    behind : ℕ → Bool
    behind w = ltb (at positions w) (at cut w)

    go : (b : Bool) → any_below behind (worker_count log) ≡ b → AtCut log cut positions ⊎ ((w : ℕ) × Behind log cut positions w)
    go true q = let some = any_some behind (worker_count log) q in inr (some.0, (some.1, ltb-true (at positions some.0) (at cut some.0) some.2))
    go false q =
        inl (λ w h.
        let low = ltb-false (at positions w) (at cut w) (any_each behind (worker_count log) q w h) in
        let high = within w in
        omega arith)

module _ (log : Workers) (formed : WellFormed log) (cut : List ℕ) (consistent : Consistent log cut) (starts : List ℕ) (startable : Startable log cut starts)
    (positions : List ℕ) (between : Between log cut starts positions) where
  -- the stamp of a worker's next event
  next_stamp : ℕ → ℕ
  next_stamp w = (event_of log w (at positions w + 1)).stamp

  -- a worker below its cut is ready, or waits for another one whose next event has a smaller stamp
  ready_or_waits : (w : ℕ) → Behind log cut positions w
      → Ready log cut starts positions w ⊎ ((v : ℕ) × Behind log cut positions v × (next_stamp v < next_stamp w))
  unfolding next_stamp is_receive
  ready_or_waits w behind = go (is_unlogged (event_of log w (at positions w + 1))) refl
    where
      go : (b : Bool) → is_unlogged (event_of log w (at positions w + 1)) ≡ b
          → Ready log cut starts positions w ⊎ ((v : ℕ) × Behind log cut positions v × (next_stamp v < next_stamp w))
      go true unlogged =
          let event = event_of log w (at positions w + 1) in
          let receive : is_receive event ≡ true = rw unlogged in
          let closed = consistent.closed w (at positions w) behind.1 receive in
          let above = startable w (at positions w) (between.low w) behind.1 unlogged in
          ⊎_elim
          (λ waits. inr (event.peer, ((formed.sent w (at positions w + 1) receive).within, omega arith), waits_earlier log formed w (at positions w + 1) (at positions event.peer) receive waits))
          (λ sent. inl (record { worker = behind.0; below = behind.1; sent = λ q. (above, sent) }))
          (lt_or_le (at positions event.peer) event.send)
      go false other = inl (record { worker = behind.0; below = behind.1; sent = λ q. absurd (false≢true (sym other ∙ q)) })

  -- all are at their cuts, or some worker's step would be done
  pub progress : AtCut log cut positions ⊎ ((w : ℕ) × (w < worker_count log) × (answer_of log cut starts positions w ≡ 0))
  progress =
      ⊎_elim inl
      (λ some.
      let found = descend next_stamp (Behind log cut positions) (Ready log cut starts positions) ready_or_waits some.0 some.1 in
      inr (found.0, found.1.worker, (done_ready log cut starts positions found.0).1 found.1))
      (at_cut_or_behind log cut positions between.high)
