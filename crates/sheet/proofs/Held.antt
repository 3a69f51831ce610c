-- What a plan adds to word j of the sheet, from its plan words. Assumes nothing.
use mathlib.Core.Path.{◌≡◌, sym, ◌∙◌}
use mathlib.Core.Logic.{◌≢◌, ⊎_elim}
use mathlib.Core.List.{List}
use Prim.Native.Nat.{ℕ, ◌-◌, ◌*◌, ◌/◌, ◌%◌, ◌<◌}
use native.Mathlib.Omega.{arith}
use borrow.Author.Tests.{lt-ltb, le-ltb}
use lib.Dec.{ltb}
use Rattle.std.specs.Int.{from_bool}
use Rattle.ranges.proofs.Order.{lt_or_le}
use Rattle.lent.specs.Lent.{at, word_of}
use Rattle.event_log.specs.Model.{Workers, worker_count}
use Rattle.unit_table.specs.Table.{Table}
use Rattle.cost.specs.Words.{cut_in, start_in, cuts_in, starts_in}
use Rattle.cost.specs.Cost.{replayed}
use Rattle.cost.proofs.Held.{cuts_at, starts_in_at}
use Rattle.sheet.specs.Sheet.{plan_adds}
use Rattle.sheet.proofs.Columns.{adds_events, adds_plans}

-- the worker of a word of the sheet
pub worker_below : (j n : ℕ) → j < 3 * n → j / 3 < n
worker_below j n h = omega (arith, h)

module _ (table : Table) (log : Workers) (words : List ℕ) (j : ℕ) (h : j < 3 * worker_count log) {events : ℕ} (is : events ≡ cut_in words (j / 3) - start_in words (j / 3)) where
  abbrev adds : ℕ
  adds = plan_adds table log (cuts_in log words) (starts_in log words) j

  cut_at : at (cuts_in log words) (j / 3) ≡ cut_in words (j / 3)
  cut_at = cuts_at log words (j / 3) (worker_below j (worker_count log) h)

  start_at : at (starts_in log words) (j / 3) ≡ start_in words (j / 3)
  start_at = starts_in_at log words (j / 3) (worker_below j (worker_count log) h)

  -- its events
  pub held_events : j % 3 ≡ 0 → events ≡ adds
  unfolding replayed
  held_events r = is ∙ sym (adds_events table log (cuts_in log words) (starts_in log words) j r ∙ rw (cut_at, start_at))

  -- the plan counts where it replays one of them
  module _ (units : j % 3 ≢ 1) (other : j % 3 ≢ 0) where
    plans : word_of (ltb (start_in words (j / 3)) (cut_in words (j / 3))) ≡ adds
    plans =
        let column : j % 3 ≡ 2 = omega (arith, units, other) in
        sym (adds_plans table log (cuts_in log words) (starts_in log words) j column ∙ rw (cut_at, start_at))

    pub held_plans : from_bool (ltb 0 events) ≡ adds
    unfolding word_of
    held_plans =
        ⊎_elim
        (λ l. rw (lt-ltb 0 events l) (rw (lt-ltb (start_in words (j / 3)) (cut_in words (j / 3)) (omega (arith, is))) at plans))
        (λ l. rw (le-ltb 0 events l) (rw (le-ltb (start_in words (j / 3)) (cut_in words (j / 3)) (omega (arith, is))) at plans))
        (lt_or_le 0 events)
