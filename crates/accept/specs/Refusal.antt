-- The refusal of a log, and what a call is given of its bytes.
-- Assumes nothing.
use Rattle.std.specs.Prelude.{cond, List, ℕ}
use Rattle.lent.specs.Lent.{or_else}
use Rattle.event_log.specs.Header.{layout_refusal}
use Rattle.event_log.specs.Layout.{workers_of, log_of}
use Rattle.event_log.specs.Model.{Log, Workers}
use Rattle.repeats.specs.Repeats.{repeat_fault}
use Rattle.record_tests.specs.Records.{some_record}

-- 7 to 10
unfoldable pub events_refusal : Workers → ℕ
events_refusal log = cond (some_record 7 log) 7 (cond (some_record 8 log) 8 (cond (some_record 9 log) 9 (cond (some_record 10 log) 10 0)))

-- 7 to 11: 0 where each record is as it should be
unfoldable pub records_refusal : Workers → ℕ
records_refusal log = or_else (events_refusal log) (cond (some_record 11 log) 11 0)

-- 7 to 11, then 24: "it is tested after 11"
unfoldable pub content_refusal : Log → ℕ
content_refusal log = or_else (records_refusal log.workers) (cond (repeat_fault log) 24 0)

-- 1 to 11 and 24, and 0 where the log is accepted: the layout of the bytes, then the content of the log
unfoldable pub log_refusal : List ℕ → ℕ
log_refusal s = or_else (layout_refusal s) (content_refusal (log_of s))

-- what a call is given of a log: the number that refuses it, and its workers. What a call answers is over this, so two accepted logs with
-- equal workers get the same answers, from every call but packing, which keeps the form too.
pub record Given : Type 0 where
  pub refusal : ℕ
  pub workers : Workers

abbrev pub given : List ℕ → Given
given s = record { refusal = log_refusal s; workers = workers_of s }
