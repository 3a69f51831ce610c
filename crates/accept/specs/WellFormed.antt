-- What an accepted log gives to everything above it: the theory of cuts, plans and replays uses this record alone.
-- Assumes nothing.
use Rattle.std.specs.Prelude.{◌≡◌, ◌⊎◌, ◌≢◌, true, ℕ, ◌+◌, ◌<◌, ◌≤◌}
use Rattle.records.specs.declared.Event.{Event}
use Rattle.event_log.specs.Limits.{max_workers, max_events, max_checkpoints, max_role}
use Rattle.event_log.specs.Model.{Workers, worker_count, event_count, role_of, event_of, checkpoint_count, checkpoint_of}
use Rattle.records.specs.Event.{is_send, is_receive}
use Rattle.record_tests.specs.Records.{send_of}

-- a receive e of worker w names a send to w by another worker, with a smaller stamp
pub record Sent (log : Workers) (w : ℕ) (e : Event) : Type 0 where
  pub other : e.peer ≢ w
  pub within : e.peer < worker_count log
  pub positive : 0 < e.send
  pub counted : e.send ≤ event_count log e.peer
  pub send : is_send (send_of log e) ≡ true
  pub addressed : (send_of log e).peer ≡ w
  pub earlier : (send_of log e).stamp < e.stamp

pub record WellFormed (log : Workers) : Type 0 where
  pub some : 0 < worker_count log
  pub few : worker_count log ≤ max_workers
  pub events : (w : ℕ) → event_count log w ≤ max_events
  pub recorded : (w : ℕ) → checkpoint_count log w ≤ max_checkpoints
  pub roles : (w : ℕ) → role_of log w ≤ max_role
  pub kinds : (w x : ℕ) → 0 < x → x ≤ event_count log w → (is_send (event_of log w x) ≡ true) ⊎ (is_receive (event_of log w x) ≡ true)
  -- an event's peer is a worker, and a send names no event
  pub peers : (w x : ℕ) → 0 < x → x ≤ event_count log w → (event_of log w x).peer < worker_count log
  pub nameless : (w x : ℕ) → 0 < x → x ≤ event_count log w → is_send (event_of log w x) ≡ true → (event_of log w x).send ≡ 0
  -- stamps are positive and rise within a worker: event 0 has stamp 0
  pub rises : (w k : ℕ) → k < event_count log w → (event_of log w k).stamp < (event_of log w (k + 1)).stamp
  pub sent : (w x : ℕ) → is_receive (event_of log w x) ≡ true → Sent log w (event_of log w x)
  -- indices are in range and do not fall, identifiers are positive and rise: checkpoint 0 is the initial state
  pub indices : (w c : ℕ) → (checkpoint_of log w c).index ≤ event_count log w
  pub ordered : (w k : ℕ) → k < checkpoint_count log w → (checkpoint_of log w k).index ≤ (checkpoint_of log w (k + 1)).index
  pub identified : (w k : ℕ) → k < checkpoint_count log w → (checkpoint_of log w k).identifier < (checkpoint_of log w (k + 1)).identifier
