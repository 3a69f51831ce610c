-- Two lists of breakpoints, one behind the other. Assumes nothing.
use mathlib.Core.Path.{◌≡◌}
use mathlib.Core.List.{List, ◌++◌}
use Prim.Native.Nat.{ℕ, ◌+◌, ◌*◌, ◌/◌, ◌%◌, ◌<◌}
use native.Mathlib.Omega.{arith}
use lib.ListN.{length, length-append, get_or-append}
use lib.Seq.{get_or-append-add}
use Rattle.breakpoints.specs.Breakpoints.{listed_worker, listed_event, breakpoint_count}

module _ (a b : List ℕ) (even : length a % 2 ≡ 0) where
  -- they have the breakpoints of both ..
  pub joined_count : breakpoint_count (a ++ b) ≡ breakpoint_count a + breakpoint_count b
  unfolding breakpoint_count
  joined_count = rw (length-append a b) (omega arith)

  -- .. first those of the first ..
  module _ (k : ℕ) (h : k < breakpoint_count a) where
    pub front_worker : listed_worker (a ++ b) k ≡ listed_worker a k
    unfolding listed_worker breakpoint_count
    front_worker = get_or-append a b 0 (2 * k) (omega arith)

    pub front_event : listed_event (a ++ b) k ≡ listed_event a k
    unfolding listed_event breakpoint_count
    front_event = get_or-append a b 0 (2 * k + 1) (omega arith)

  -- .. then those of the second
  module _ (k : ℕ) where
    pub back_worker : listed_worker (a ++ b) (breakpoint_count a + k) ≡ listed_worker b k
    unfolding listed_worker breakpoint_count
    back_worker = let place : 2 * (length a / 2 + k) ≡ length a + 2 * k = omega arith in rw place (get_or-append-add a b (2 * k) 0)

    pub back_event : listed_event (a ++ b) (breakpoint_count a + k) ≡ listed_event b k
    unfolding listed_event breakpoint_count
    back_event = let place : 2 * (length a / 2 + k) + 1 ≡ length a + (2 * k + 1) = omega arith in rw place (get_or-append-add a b (2 * k + 1) 0)
