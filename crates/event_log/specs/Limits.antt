-- The limits of document 01, "The log", each in this one place. The code has one constant for each.
-- Assumes nothing.
use Rattle.std.specs.Prelude.{ℕ}

-- "A log is 8 to 4,194,304 bytes"
abbrev pub min_length : ℕ
min_length = 8

abbrev pub max_length : ℕ
max_length = 4194304

-- "worker count n, 1 to 64"
abbrev pub max_workers : ℕ
max_workers = 64

-- "event count (0 to 65,535)"
abbrev pub max_events : ℕ
max_events = 65535

-- "checkpoint count (0 to 1,024)"
abbrev pub max_checkpoints : ℕ
max_checkpoints = 1024

-- "role (0 to 3)"
abbrev pub max_role : ℕ
max_role = 3
