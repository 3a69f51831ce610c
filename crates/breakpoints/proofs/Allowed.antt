-- What a list that is not refused gives: each of its breakpoints is an event of an accepted log. Assumes nothing.
use mathlib.Core.Path.{◌≡◌, sym, ◌∙◌}
use mathlib.Core.Bool.{◌||◌}
use mathlib.Core.Logic.{◌≢◌}
use mathlib.Core.List.{List}
use Prim.Native.Nat.{ℕ, ◌+◌, ◌*◌, ◌%◌, ◌<◌, ◌≤◌}
use native.Mathlib.Omega.{arith}
use borrow.Author.Tests.{ltb-false, eqb-false}
use lib.Dec.{eqb, ltb}
use lib.ListN.{length}
use Rattle.ranges.proofs.Bools.{or_false_left, or_false_right}
use Rattle.lent.proofs.Lent.{peel, or_else_zero, or_else_first, or_else_second}
use Rattle.lent.proofs.FirstOf.{first_of_found, first_of_all, first_of_zero}
use Rattle.event_log.specs.Layout.{workers_of}
use Rattle.event_log.specs.Model.{Workers, worker_count, IsEvent}
use Rattle.accept.specs.Refusal.{Given, log_refusal, given}
use Rattle.refusals.specs.Refusals.{event_in_refusal}
use Rattle.refusals.proofs.Allowed.{event_in_ok}
use Rattle.breakpoints.specs.Breakpoints.{max_breakpoints, listed_worker, listed_event, breakpoint_count, length_refusal, listed_refusal, earliest_refusal, list_refusal}
use Rattle.breakpoints.specs.Inner.Listed.{AreBreakpoints}

-- an even number of words, two for each of at most 1,024 breakpoints
length_ok : (list : List ℕ) → length_refusal (length list) ≡ 0 → (length list ≡ 2 * breakpoint_count list) × (breakpoint_count list ≤ max_breakpoints)
unfolding length_refusal breakpoint_count
length_ok list e =
    let odd = eqb (length list % 2) 1 in
    let long = ltb (2 * max_breakpoints) (length list) in
    let tested = (peel (odd || long) 28 0 e).0 in
    let is_even = eqb-false (length list % 2) 1 (or_false_left odd long tested) in
    let few = ltb-false (2 * max_breakpoints) (length list) (or_false_right odd long tested) in
    (omega (arith, is_even), omega (arith, few))

module _ (log : Workers) (list : List ℕ) where
  -- the earliest in the list decides
  pub earliest_decides : (k : ℕ) → k < breakpoint_count list → ((i : ℕ) → i < k → listed_refusal log list i ≡ 0) → listed_refusal log list k ≢ 0
      → earliest_refusal log list ≡ listed_refusal log list k
  unfolding earliest_refusal
  earliest_decides k h before here = first_of_found (listed_refusal log list) k (breakpoint_count list) h (first_of_all (listed_refusal log list) k before) here

  each_ok : earliest_refusal log list ≡ 0 → (k : ℕ) → k < breakpoint_count list → (listed_worker list k < worker_count log) × IsEvent log (listed_worker list k) (listed_event list k)
  unfolding earliest_refusal listed_refusal
  each_ok none k h = event_in_ok log (listed_worker list k) (listed_event list k) (first_of_zero (listed_refusal log list) (breakpoint_count list) none k h)

-- the log is accepted, and the list is one of breakpoints of it
pub record ListLent (s list : List ℕ) : Type 0 where
  pub accepted : log_refusal s ≡ 0
  pub are : AreBreakpoints (workers_of s) list

-- of an accepted log 29 is given first, then what the breakpoints give
module _ (log : Given) (list : List ℕ) (accepted : log.refusal ≡ 0) where
  pub length_first : length_refusal (length list) ≢ 0 → list_refusal log list ≡ length_refusal (length list)
  unfolding list_refusal
  length_first long = or_else_second log.refusal _ accepted ∙ or_else_first (length_refusal (length list)) (earliest_refusal log.workers list) long

  pub listed_then : length_refusal (length list) ≡ 0 → list_refusal log list ≡ earliest_refusal log.workers list
  unfolding list_refusal
  listed_then fits = or_else_second log.refusal _ accepted ∙ or_else_second (length_refusal (length list)) (earliest_refusal log.workers list) fits

pub list_ok : {s list : List ℕ} {r : ℕ} → r ≡ list_refusal (given s) list → r ≡ 0 → ListLent s list
unfolding list_refusal
list_ok {s} {list} found none =
    let first = or_else_zero (log_refusal s) _ (sym found ∙ none) in
    let tests = or_else_zero (length_refusal (length list)) (earliest_refusal (workers_of s) list) first.1 in
    let long = length_ok list tests.0 in
    let each = each_ok (workers_of s) list tests.1 in
    record { accepted = first.0; are = record { even = long.0; few = long.1; within = λ k h. (each k h).0; event = λ k h. (each k h).1 } }

-- the words of a breakpoint are in the list
pub listed_within : (list : List ℕ) (k : ℕ) → k < breakpoint_count list → 2 * k + 2 ≤ length list
unfolding breakpoint_count
listed_within list k h = omega (arith, h)

-- the number of breakpoint k, from its two words
pub listed_by : (log : Workers) (list : List ℕ) (k : ℕ) {w e r : ℕ} → w ≡ listed_worker list k → e ≡ listed_event list k → r ≡ event_in_refusal log w e → r ≡ listed_refusal log list k
unfolding listed_refusal
listed_by log list k first second is = rw (first, second) at is
