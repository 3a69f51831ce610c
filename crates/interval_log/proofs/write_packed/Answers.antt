-- `interval_log::write_packed` meets its contract: blocks of 2^16 events are never too many for the table, so b stays within 16.
-- Assumes nothing.
use mathlib.Core.Path.{◌≡◌}
use mathlib.Core.List.{List}
use mathlib.Core.Logic.{⊎_elim}
use Prim.Native.Nat.{ℕ, ◌<◌, ◌≤◌}
use native.Mathlib.Nat.{eq-or-lt_of_le}
use native.Mathlib.Omega.{arith}
use Rattle.event_log.specs.Header.{layout_refusal}
use Rattle.event_log.specs.Layout.{workers_of}
use Rattle.event_log.specs.Model.{worker_count}
use Rattle.accept.proofs.Accepted.{accepted_layout}
use Rattle.interval_blocks.specs.Inner.Blocks.{most_bits, first_block}
use Rattle.interval_blocks.proofs.BlockLaws.{blocks_least}
use Rattle.interval_log.specs.Inner.Space.{table_places}
use Rattle.interval_log.proofs.write_packed.Goals as goal

-- blocks that are too many are not of the largest size
below_most : (s : List ℕ) (b r : ℕ) → layout_refusal s ≡ 0 → b ≤ most_bits → r ≡ first_block (workers_of s) b (worker_count (workers_of s)) → table_places < r → b < most_bits
below_most s b r ok most is many =
    ⊎_elim (λ (same : b ≡ most_bits). let no : ⊥ = omega (arith, rw same at is, blocks_least s ok) in absurd no) (λ less. less) (eq-or-lt_of_le most)

pub loop-b-preserved : goal.loop-b-preserved
loop-b-preserved c =
    let less = below_most _ _ _ (accepted_layout _ c.requires.accepted) c.loop-b.invariant c.all_blocks.ensures.answer c.loop-b-test.true in
    omega (arith, less)
