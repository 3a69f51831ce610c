-- What the functions that write a packed log ask for.
-- Assumes nothing.
use Rattle.std.specs.Prelude.{◌≡◌, List, ◌≢◌, ℕ, ◌<◌, ◌≤◌}
use Rattle.records.specs.declared.Kind.TheVariants.{Rest}
use Rattle.event_log.specs.Header.{layout_refusal}
use Rattle.event_log.specs.Limits.{max_length}
use Rattle.event_log.specs.Layout.{workers_of}
use Rattle.event_log.specs.Model.{Workers, event_count, event_of}
use Rattle.pack.specs.Packed.{packed_length}

-- every event is of one of the three kinds, so that the number of its kind is the byte that was read
abbrev pub KnownKinds : Workers → Type 0
KnownKinds log = (w x : ℕ) → 0 < x → x ≤ event_count log w → (event_of log w x).kind ≢ Rest

-- a log that can be read, whose events are all of the three kinds, whose packed log is not too long and has room in the bytes lent
pub record Room (s : List ℕ) (lent : ℕ) : Type 0 where
  pub layout : layout_refusal s ≡ 0
  pub kinds : KnownKinds (workers_of s)
  pub fits : packed_length (workers_of s) ≤ max_length
  pub enough : packed_length (workers_of s) ≤ lent
