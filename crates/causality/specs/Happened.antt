-- Lamport's "happened before" over a log, as the paper's section 2 gives it.
-- Assumes nothing.
use Rattle.std.specs.Prelude.{◌≡◌, true, ℕ, ◌<◌, ◌≤◌}
use Rattle.event_log.specs.Model.{Workers, event_count, event_of}
use Rattle.records.specs.Event.{is_receive}

-- "Event a happened before event b: same worker and smaller index; or a is the send that receive b names; or through a third event"
pub data HappenedBefore (log : Workers) : ℕ → ℕ → ℕ → ℕ → Type 0 where
  earlier : {w x y : ℕ} → 0 < x → x < y → y ≤ event_count log w → HappenedBefore log w x w y
  message : {v s w x : ℕ} → is_receive (event_of log w x) ≡ true → (event_of log w x).peer ≡ v → (event_of log w x).send ≡ s → HappenedBefore log v s w x
  through : {u x v y w z : ℕ} → HappenedBefore log u x v y → HappenedBefore log v y w z → HappenedBefore log u x w z
