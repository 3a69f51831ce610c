-- Stamps of an accepted log: they rise within a worker, and from what a receive waits for to the receive.
-- Assumes nothing.
use mathlib.Core.Path.{◌≡◌}
use mathlib.Core.Bool.{true}
use mathlib.Core.Logic.{⊎_elim}
use Prim.Native.Nat.{ℕ, ◌+◌, ◌<◌, ◌≤◌}
use native.Mathlib.Nat.{eq-or-lt_of_le}
use native.Mathlib.Omega.{arith}
use Rattle.ranges.proofs.Order.{rising}
use Rattle.event_log.specs.Model.{Workers, event_count, event_of}
use Rattle.records.specs.Event.{is_receive}
use Rattle.record_tests.specs.Records.{send_of}
use Rattle.accept.specs.WellFormed.{WellFormed}

module _ (log : Workers) (formed : WellFormed log) where
  -- a later event of a worker has a larger stamp
  pub stamps_rise : (w x y : ℕ) → x < y → y ≤ event_count log w → (event_of log w x).stamp < (event_of log w y).stamp
  stamps_rise w = rising (λ (x : ℕ). (event_of log w x).stamp) (event_count log w) (formed.rises w)

  pub stamps_grow : (w x y : ℕ) → x ≤ y → y ≤ event_count log w → (event_of log w x).stamp ≤ (event_of log w y).stamp
  stamps_grow w x y h l = ⊎_elim (λ q. rw q (omega arith)) (λ less. let rise = stamps_rise w x y less l in omega arith) (eq-or-lt_of_le h)

  -- where the sender of a receive has not come to the send, its next event has a smaller stamp than the receive
  pub waits_earlier : (w x y : ℕ) → is_receive (event_of log w x) ≡ true → y < (event_of log w x).send
      → (event_of log (event_of log w x).peer (y + 1)).stamp < (event_of log w x).stamp
  unfolding send_of
  waits_earlier w x y receive before =
      let sent = formed.sent w x receive in
      let next = stamps_grow (event_of log w x).peer (y + 1) (event_of log w x).send (omega arith) sent.counted in
      let earlier = sent.earlier in
      omega arith
