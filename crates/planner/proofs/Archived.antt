-- The bytes that `pack` writes are answered as the log is. Assumes nothing.
use mathlib.Core.Path.{◌≡◌}
use mathlib.Core.List.{List}
use Prim.Native.Nat.{ℕ}
use Rattle.pack.specs.Archive.{Archived}
use Rattle.accept.specs.Refusal.{log_refusal}
use Rattle.planner.specs.Answers.{AnsweredAlike}
use Rattle.planner.proofs.SameAnswers.{answered_alike}

pub archived_alike : (s file : List ℕ) → log_refusal s ≡ 0 → Archived s file → AnsweredAlike file s
archived_alike s file accepted is = answered_alike file s is.packable.accepted accepted is.same
