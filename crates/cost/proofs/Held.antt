-- Plan words that are held over an accepted log: each worker's words, and the sums of the replayed events and units of all.
-- Assumes nothing.
use mathlib.Core.Path.{◌≡◌, sym}
use mathlib.Core.List.{List}
use Prim.Native.Nat.{ℕ, ◌+◌, ◌-◌, ◌*◌, ◌^◌, ◌<◌, ◌≤◌}
use native.Mathlib.Omega.{arith}
use lib.ListN.{length}
use Rattle.ranges.specs.Fold.{sum_below}
use Rattle.ranges.proofs.Sum.{sum_same}
use Rattle.ranges.proofs.Tabulate.{get_d_tabulate, tabulate_list}
use Rattle.event_log.specs.Limits.{max_events}
use Rattle.event_log.specs.Model.{Workers, worker_count, event_count}
use Rattle.event_log.specs.Layout.{workers_of}
use Rattle.accept.specs.Refusal.{log_refusal}
use Rattle.accept.proofs.Accepted.{well_formed}
use Rattle.lent.specs.Lent.{at}
use Rattle.cost.specs.Words.{cut_in, start_in, cuts_in, starts_in}
use Rattle.unit_table.specs.Table.{table_of, table_refusal}
use Rattle.unit_table.proofs.Loaded.{loaded_bound}
use Rattle.cost.specs.Cost.{replayed, events_of, worker_units, units_of}
use Rattle.cost.specs.Inner.Held.{IsHeld}
use Rattle.cost.proofs.Costs.{events_fit, units_fit}

module _ (log : Workers) (words : List ℕ) (w : ℕ) (h : w < worker_count log) where
  -- the words of a worker give it its cut ..
  pub cuts_at : at (cuts_in log words) w ≡ cut_in words w
  unfolding cuts_in
  cuts_at = get_d_tabulate (cut_in words) (worker_count log) w 0 h

  -- .. and its start
  pub starts_in_at : at (starts_in log words) w ≡ start_in words w
  unfolding starts_in
  starts_in_at = get_d_tabulate (start_in words) (worker_count log) w 0 h

-- words whose first word of each worker is the cut's give the cut
pub cuts_are : (log : Workers) (words cut : List ℕ) → length cut ≡ worker_count log → ((w : ℕ) → w < worker_count log → cut_in words w ≡ at cut w) → cuts_in log words ≡ cut
unfolding cuts_in
cuts_are log words cut long same = sym (tabulate_list (cut_in words) (worker_count log) 0 cut long (λ w h. sym (same w h)))

-- words whose second word of each worker is the start's give the starts
pub starts_are : (log : Workers) (words starts : List ℕ) → length starts ≡ worker_count log → ((w : ℕ) → w < worker_count log → start_in words w ≡ at starts w)
    → starts_in log words ≡ starts
unfolding starts_in
starts_are log words starts long same = sym (tabulate_list (start_in words) (worker_count log) 0 starts long (λ w h. sym (same w h)))

-- what held words give worker w
pub record HeldWorker (log : Workers) (words : List ℕ) (w : ℕ) : Type 0 where
  pub wide : 3 * w + 3 ≤ length words
  -- its start is at most its cut, which is at most its event count
  pub start : start_in words w ≤ cut_in words w
  pub cut : cut_in words w ≤ event_count log w
  pub most : cut_in words w ≤ max_events

module _ (s words : List ℕ) (given : (log_refusal s ≡ 0) × IsHeld (workers_of s) words) where
  pub held_worker : (w : ℕ) → w < worker_count (workers_of s) → HeldWorker (workers_of s) words w
  held_worker w h =
      let log = workers_of s in
      let ok = well_formed s given.0 in
      let held = given.1 in
      let mine = cuts_at log words w h in
      let within = held.is_cut.within w in
      record {
        wide = omega (arith, held.long);
        start = omega (arith, held.within w, starts_in_at log words w h);
        cut = omega arith;
        most = omega (arith, ok.events w);
      }

  -- all their replayed events, each worker's cut minus its start ..
  pub held_events : sum_below (λ w. cut_in words w - start_in words w) (worker_count (workers_of s))
      ≡ events_of (workers_of s) (cuts_in (workers_of s) words) (starts_in (workers_of s) words)
  unfolding events_of replayed
  held_events = sum_same _ _ (worker_count (workers_of s)) (λ w h. rw (cuts_at (workers_of s) words w h, starts_in_at (workers_of s) words w h))

  -- .. fit 64 bits ..
  pub held_events_fit : sum_below (λ w. cut_in words w - start_in words w) (worker_count (workers_of s)) < 2 ^ 64
  held_events_fit = rw held_events (events_fit (workers_of s) (well_formed s given.0) _ given.1.is_cut _)

  -- .. and their units do, by a loaded table
  pub held_units_fit : (table : List ℕ) → table_refusal table ≡ 0
      → sum_below (worker_units (table_of table) (workers_of s) (cuts_in (workers_of s) words) (starts_in (workers_of s) words)) (worker_count (workers_of s)) < 2 ^ 64
  unfolding units_of
  held_units_fit table loaded =
      units_fit (workers_of s) (well_formed s given.0) _ given.1.is_cut _ (table_of table) (loaded_bound table loaded)
