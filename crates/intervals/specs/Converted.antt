-- What the bytes that the conversion writes are.
-- Assumes nothing.
use Rattle.std.specs.Prelude.{◌≡◌, List, ℕ, length}
use Rattle.event_log.specs.Layout.{workers_of, log_of}
use Rattle.accept.specs.Refusal.{log_refusal}
use Rattle.pack.specs.Packed.{packed_length}
use Rattle.intervals.specs.Interval.{interval_workers, interval_log}
use Rattle.intervals.specs.IntervalCut.{SameCuts}

-- the bytes `file` that are written for a log
pub record Converted (s file : List ℕ) : Type 0 where
  -- they are as many as 26 and 25 count, and hold the interval log
  pub long : length file ≡ packed_length (interval_workers (workers_of s))
  pub holds : log_of file ≡ interval_log (workers_of s)
  -- "Our own calls refuse form 3 by 2": the refusals of every call begin with this number
  pub refused : log_refusal file ≡ 2
  -- its least closed interval cuts are the receives within the lower cuts of the log
  pub cuts : SameCuts (workers_of s) (workers_of file)
