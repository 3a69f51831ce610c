-- A log as a value, with nothing of bytes or offsets: two logs of the same content are equal.
-- Assumes nothing.
use Rattle.std.specs.Prelude.{List, [], ◌∷◌, ℕ, ◌<◌, ◌≤◌, length, get_or}
use Rattle.records.specs.declared.Event.{Event}
use Rattle.records.specs.declared.Checkpoint.{Checkpoint}
use Rattle.records.specs.Event.{no_event}
use Rattle.records.specs.Checkpoint.{initial}

-- a worker's role, its events and its checkpoints, each in record order
pub record Worker : Type 0 where
  pub role : ℕ
  pub events : List Event
  pub checkpoints : List Checkpoint

-- what a log says of the run: everything above the acceptance of a log is over this
abbrev pub Workers : Type 0
Workers = List Worker

pub record Log : Type 0 where
  pub form : ℕ
  pub workers : Workers

abbrev pub no_worker : Worker
no_worker = record { role = 0; events = []; checkpoints = [] }

-- the worker count n
unfoldable pub worker_count : Workers → ℕ
worker_count log = length log

unfoldable pub worker : Workers → ℕ → Worker
worker log w = get_or log w no_worker

unfoldable pub role_of : Workers → ℕ → ℕ
role_of log w = (worker log w).role

-- the event count of worker w
unfoldable pub event_count : Workers → ℕ → ℕ
event_count log w = length (worker log w).events

-- event x of worker w: "Events of a worker are numbered 1, 2, .. in record order"; `no_event` outside 1 .. the event count
unfoldable pub event_of : Workers → ℕ → ℕ → Event
event_of log w x = get_or (no_event ∷ (worker log w).events) x no_event

-- event x of worker w is an event of the log
abbrev pub IsEvent : Workers → ℕ → ℕ → Type 0
IsEvent log w x = (0 < x) × (x ≤ event_count log w)

-- the number of recorded checkpoints of worker w
unfoldable pub checkpoint_count : Workers → ℕ → ℕ
checkpoint_count log w = length (worker log w).checkpoints

-- checkpoint c of worker w: number 0 is the initial state, and the recorded ones are 1, 2, .. in record order
unfoldable pub checkpoint_of : Workers → ℕ → ℕ → Checkpoint
checkpoint_of log w c = get_or (initial ∷ (worker log w).checkpoints) c initial
