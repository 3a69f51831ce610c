-- `event_log::part_at` meets its contract: the bytes from `start` up to `start` + size × count are the first size × count of those from `start`
-- on. Assumes nothing.
use native.Mathlib.Nat.{add-sub_cancel_left}
use Rattle.event_log.specs.Layout.{section}
use Rattle.event_log.proofs.part_at.Goals as goal

pub returns : goal.returns
unfolding section
returns c = record { answer = simp add-sub_cancel_left }
