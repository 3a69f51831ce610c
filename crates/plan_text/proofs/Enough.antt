-- The words that the program lends are enough for every log, and what the calls leave in them is what they promise.
-- Assumes nothing.
use mathlib.Core.Path.{◌≡◌, refl, sym, ◌∙◌}
use mathlib.Core.Logic.{◌≢◌, ⊎_elim}
use mathlib.Core.List.{List, append-nil}
use Prim.Native.Nat.{ℕ, ◌*◌, ◌≤◌}
use native.Mathlib.Nat.{mul-le-mul_left}
use native.Mathlib.Omega.{arith}
use borrow.Author.Tests.{le-ltb, ne_eqb}
use lib.ListN.{length, take, drop, get_or}
use lib.Seq.{take_at, drop-length}
use Rattle.ranges.proofs.Order.{eq_or_ne}
use Rattle.ranges.proofs.Tabulate.{length_tabulate}
use Rattle.event_log.specs.Limits.{max_workers}
use Rattle.event_log.specs.Layout.{workers_of}
use Rattle.event_log.specs.Model.{Workers, worker_count}
use Rattle.lent.proofs.Lent.{words_enough, or_else_first}
use Rattle.lent.specs.Lent.{or_else, words_refusal, onto, unless_refused}
use Rattle.accept.specs.Refusal.{given}
use Rattle.accept.proofs.Accepted.{well_formed}
use Rattle.lower_cut.specs.Figure2.{lower_cut}
use Rattle.refusals.specs.Refusals.{breakpoint_refusal, scratch_words, scratch_refusal, line_refusal, search_refusal}
use Rattle.upper_line.specs.Upper.{upper_at, upper_line}
use Rattle.refusals.proofs.Allowed.{breakpoint_ok, scratch_few}
use Rattle.restore_plan.specs.Plan.{plan_words}
use Rattle.restore_plan.specs.declared.Totals.{Totals}
use Rattle.unit_table.specs.Table.{built_in}
use Rattle.restore_plan.specs.Calls.{plan_total_words, found_plan, plan_totals}
use Rattle.plan_text.specs.Text.{breakpoint_line, process_lines, totals_line, found_text, refused_text, plan_text}

-- ---- what a call that is not refused leaves in the lent words
pub take_new : (number n : ℕ) (new lent : List ℕ) → number ≡ 0 → length new ≡ n → take n (unless_refused number new lent) ≡ new
unfolding unless_refused onto
take_new number n new lent accepted long = rw accepted (take_at new (drop (length new) lent) n long)

pub all_new : (number : ℕ) (new lent : List ℕ) → number ≡ 0 → length new ≡ length lent → unless_refused number new lent ≡ new
unfolding unless_refused onto
all_new number new lent accepted long = rw (accepted, long, drop-length lent) (append-nil new)

pub upper_long : (log : Workers) (w e : ℕ) → length (upper_line log w e) ≡ worker_count log
unfolding upper_line
upper_long log w e = length_tabulate (upper_at log w e) (worker_count log)

pub totals_long : (found : Totals) → length (plan_totals found) ≡ plan_total_words
unfolding plan_totals
totals_long found = refl

module _ (s : List ℕ) (w e : ℕ) where
  pub few : breakpoint_refusal (given s) w e ≡ 0 → worker_count (workers_of s) ≤ max_workers
  few accepted = (well_formed s (breakpoint_ok refl accepted).accepted).few

  -- ---- refusals 14 and 15 are not given for the words of the program
  pub line_number : (each : ℕ) → breakpoint_refusal (given s) w e ≡ 0 → line_refusal (given s) w e each (each * max_workers) 0 ≡ 0
  unfolding line_refusal or_else
  line_number each accepted = rw (accepted, words_enough (each * max_workers) (each * worker_count (workers_of s)) (mul-le-mul_left each (few accepted)))

  planned : ℕ
  planned = search_refusal (given s) w e 3 (3 * max_workers) (words_refusal plan_total_words plan_total_words) (2 * max_workers)

  plan_accepted : breakpoint_refusal (given s) w e ≡ 0 → planned ≡ 0
  unfolding planned search_refusal scratch_refusal or_else
  plan_accepted accepted =
      rw (
        words_enough plan_total_words plan_total_words (omega arith),
        line_number 3 accepted,
        le-ltb (2 * max_workers) (scratch_words (worker_count (workers_of s))) (scratch_few (worker_count (workers_of s)) (few accepted)),
      )

  plan_refused : breakpoint_refusal (given s) w e ≢ 0 → planned ≡ breakpoint_refusal (given s) w e
  unfolding planned search_refusal line_refusal
  plan_refused refused = rw (or_else_first (breakpoint_refusal (given s) w e) _ refused, or_else_first (breakpoint_refusal (given s) w e) _ refused)

  pub plan_number : search_refusal (given s) w e 3 (3 * max_workers) (words_refusal plan_total_words plan_total_words) (2 * max_workers) ≡ breakpoint_refusal (given s) w e
  unfolding planned
  plan_number = ⊎_elim (λ q. plan_accepted q ∙ sym q) plan_refused (eq_or_ne (breakpoint_refusal (given s) w e) 0)

  -- ---- the text for a number that refuses, and for none
  pub refused_text_lem : (number : ℕ) → number ≡ breakpoint_refusal (given s) w e → number ≢ 0 → plan_text (given s) w e ≡ refused_text number
  unfolding plan_text
  refused_text_lem number same refused = rw (← same, ne_eqb number 0 refused)

  pub accepted_text : breakpoint_refusal (given s) w e ≡ 0 → plan_text (given s) w e ≡ found_text (workers_of s) w e
  unfolding plan_text
  accepted_text accepted = rw accepted

  -- ---- the text of the words and totals
  pub found_text_lem : (words upper totals : List ℕ) → words ≡ plan_words (workers_of s) (lower_cut (workers_of s) w e) → upper ≡ upper_line (workers_of s) w e → totals ≡ plan_totals (found_plan built_in (workers_of s) w e)
      → totals_line (process_lines (breakpoint_line w e) (workers_of s) words upper (worker_count (workers_of s))) (get_or totals 0 0) (get_or totals 1 0) (get_or totals 2 0) (get_or totals 3 0)
      ≡ found_text (workers_of s) w e
  unfolding found_text plan_totals
  found_text_lem words upper totals ws us ts = rw (ws, us, ts)
