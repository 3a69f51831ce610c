-- "The archive wants one file per meaning": what the packed log of an accepted log is.
-- Assumes nothing.
use Rattle.std.specs.Prelude.{◌≡◌, List, ℕ, ◌<◌, ◌≤◌, length}
use Rattle.bytes_le.specs.Little.{Bytes}
use Rattle.event_log.specs.Limits.{max_length}
use Rattle.event_log.specs.Layout.{form_field, size_field, field, role_field, event_section, checkpoint_section, workers_of, log_of}
use Rattle.accept.specs.Refusal.{log_refusal}
use Rattle.pack.specs.Packed.{packed_length, packed}

-- "accepted logs that 26 doesn't refuse", as bytes
pub record Packable (s : List ℕ) : Type 0 where
  pub bytes : Bytes s
  pub accepted : log_refusal s ≡ 0
  pub fits : packed_length (workers_of s) ≤ max_length

-- "they agree in form, worker count, roles, event records and checkpoint records": of the bytes of two logs
pub record Agree (s t : List ℕ) : Type 0 where
  pub form : form_field s ≡ form_field t
  pub worker_count : size_field s ≡ size_field t
  pub roles : (w : ℕ) → w < size_field s → field s w role_field ≡ field t w role_field
  pub event_records : (w : ℕ) → w < size_field s → event_section s w ≡ event_section t w
  pub checkpoint_records : (w : ℕ) → w < size_field s → checkpoint_section s w ≡ checkpoint_section t w

-- the bytes `file` that packing writes for a log
pub record Archived (s file : List ℕ) : Type 0 where
  -- they are as many as 26 and 25 count, an accepted log that 26 doesn't refuse, and the very same log
  pub long : length file ≡ packed_length (workers_of s)
  pub packable : Packable file
  pub same : log_of file ≡ log_of s
  -- "Packing a packed log changes no byte"
  pub again : packed (log_of file) ≡ file
  -- "Two accepted logs that 26 doesn't refuse have equal packed bytes exactly when they agree"
  pub one : (t : List ℕ) → Packable t → (file ≡ packed (log_of t) → Agree s t) × (Agree s t → file ≡ packed (log_of t))
