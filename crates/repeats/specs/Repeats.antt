-- Two receives of one send: document 02, Note 1, "a send is received at most once".
-- Assumes nothing.
use Rattle.std.specs.Prelude.{◌≡◌, Bool, true, not, ◌&&◌, ℕ, ◌+◌, eqb}
use Rattle.ranges.specs.Fold.{any_below}
use Rattle.records.specs.declared.Event.{Event}
use Rattle.records.specs.Forms.{receives_once}
use Rattle.event_log.specs.Model.{Log, Workers, worker_count, event_count, event_of}
use Rattle.records.specs.Event.{is_receive}

-- both are receives, and they name the same event of the same worker
unfoldable pub same_send : Event → Event → Bool
same_send d e = is_receive d && is_receive e && eqb d.peer e.peer && eqb d.send e.send

-- event l + 1 of worker v is another event than event k + 1 of worker w, and they are "two receives of one send"
unfoldable pub repeats : Workers → ℕ → ℕ → ℕ → ℕ → Bool
repeats log w k v l = not (eqb w v && eqb k l) && same_send (event_of log w (k + 1)) (event_of log v (l + 1))

-- some event of worker v is such another one, some event of the log is, and some event of worker w has such another one
unfoldable pub repeated_by : Workers → ℕ → ℕ → ℕ → Bool
repeated_by log w k v = any_below (repeats log w k v) (event_count log v)

unfoldable pub is_repeated : Workers → ℕ → ℕ → Bool
is_repeated log w k = any_below (repeated_by log w k) (worker_count log)

unfoldable pub worker_repeats : Workers → ℕ → Bool
worker_repeats log w = any_below (is_repeated log w) (event_count log w)

-- "two receives of one send" anywhere in the log
unfoldable pub some_repeat : Workers → Bool
some_repeat log = any_below (worker_repeats log) (worker_count log)

-- 24: "a form 2 log with two receives of one send"
unfoldable pub repeat_fault : Log → Bool
repeat_fault log = receives_once log.form && some_repeat log.workers

-- "a send is received at most once": receives of one send are one event
abbrev pub ReceivedOnce : Workers → Type 0
ReceivedOnce log =
    (w x v y : ℕ) → is_receive (event_of log w x) ≡ true → is_receive (event_of log v y) ≡ true
    → (event_of log w x).peer ≡ (event_of log v y).peer → (event_of log w x).send ≡ (event_of log v y).send → (w ≡ v) × (x ≡ y)

-- "two receives of one send": events x of w and y of v, which are not one event
pub record ReceivedTwice (log : Workers) : Type 0 where
  pub w : ℕ
  pub x : ℕ
  pub v : ℕ
  pub y : ℕ
  pub first : is_receive (event_of log w x) ≡ true
  pub second : is_receive (event_of log v y) ≡ true
  pub peer : (event_of log w x).peer ≡ (event_of log v y).peer
  pub send : (event_of log w x).send ≡ (event_of log v y).send
  pub other : w ≡ v → x ≡ y → ⊥
