-- The workers of the interval log, read by the functions of the model: as many workers with the same roles, each receive at the place that
-- counts the receives up to it, and each checkpoint that stays at the place that counts those up to it. Assumes nothing.
use mathlib.Core.Path.{◌≡◌, refl, ◌∙◌, sym, ap}
use mathlib.Core.Bool.{Bool, true, false, cond}
use mathlib.Core.Logic.{⊎_elim}
use Prim.Native.Nat.{ℕ, ◌+◌, ◌-◌, ◌<◌, ◌≤◌}
use native.Mathlib.Numerals.{add-one}
use native.Mathlib.Omega.{arith}
use lib.ListN.{get_or}
use Rattle.ranges.specs.Fold.{sum_below, keep_below}
use Rattle.ranges.proofs.Order.{lt_or_le}
use Rattle.ranges.proofs.Sum.{sum_more, sum_grows, sum_bound}
use Rattle.ranges.proofs.Tabulate.{length_tabulate, get_d_tabulate}
use Rattle.ranges.proofs.Keep.{keep_length, keep_at, keep_from}
use Rattle.records.specs.Event.{no_event, is_receive, received}
use Rattle.records.specs.Checkpoint.{initial}
use Rattle.event_log.specs.Model.{Workers, Worker, no_worker, worker_count, worker, role_of, event_count, event_of, checkpoint_count, checkpoint_of}
use Rattle.event_log.proofs.Read.{worker_past, count_past, checkpoints_past, role_past}
use Rattle.repeats.proofs.Places.{received_small}
use Rattle.pack.proofs.Writing.{Limited}
use Rattle.causality.specs.Cut.{receive_at}
use Rattle.intervals.specs.Interval.{index, interval_at, interval_event, interval_checkpoint, interval_worker, interval_workers}
use Rattle.intervals.specs.Interval.{event_stays, event_becomes, checkpoint_stays, checkpoint_becomes}

-- whether recorded checkpoint k + 1 of worker w stays, as a number
unfoldable pub kept_at : Workers → ℕ → ℕ → ℕ
kept_at log w k = cond (checkpoint_stays log w k) 1 0

-- an event and a recorded checkpoint by their places in the lists of a worker
event_place : (log : Workers) (w j : ℕ) → event_of log w (j + 1) ≡ get_or (worker log w).events j no_event
unfolding event_of
event_place log w j = rw (add-one j)

checkpoint_place : (log : Workers) (w j : ℕ) → checkpoint_of log w (j + 1) ≡ get_or (worker log w).checkpoints j initial
unfolding checkpoint_of
checkpoint_place log w j = rw (add-one j)

module _ (log : Workers) where
  -- ---- the receives of worker w up to an event: one event further, no more than the events, and no fewer further on
  pub interval_next : (w k : ℕ) → (interval_at log w (index (k + 1))).0 ≡ (interval_at log w (index k)).0 + received (event_of log w (k + 1))
  unfolding receive_at
  interval_next w k = sum_more (receive_at log w) k

  pub interval_few : (w x : ℕ) → (interval_at log w (index x)).0 ≤ x
  unfolding receive_at
  interval_few w x = omega (arith, sum_bound (receive_at log w) x 1 (λ k h. omega (arith, received_small (event_of log w (k + 1)))))

  pub interval_grows : (w x y : ℕ) → x ≤ y → (interval_at log w (index x)).0 ≤ (interval_at log w (index y)).0
  interval_grows w x y h = sum_grows (receive_at log w) x y h

  -- ---- the workers
  pub interval_size : worker_count (interval_workers log) ≡ worker_count log
  unfolding worker_count interval_workers
  interval_size = length_tabulate (interval_worker log) (worker_count log)

  -- each worker is made of the same one of the log; past the last there is none in either
  worker_made : (w : ℕ) → worker (interval_workers log) w ≡ interval_worker log w
  unfolding worker worker_count interval_workers interval_worker keep_below
  worker_made w =
      ⊎_elim
      (λ l. get_d_tabulate (interval_worker log) (worker_count log) w no_worker l)
      (λ l. worker_past (interval_workers log) w (rw interval_size l) ∙ sym (rw (role_past log w l, count_past log w l, checkpoints_past log w l)))
      (lt_or_le w (worker_count log))

  pub interval_role : (w : ℕ) → role_of (interval_workers log) w ≡ role_of log w
  unfolding role_of interval_worker
  interval_role w = ap (λ (v : Worker). v.role) (worker_made w)

  -- ---- the events: as many as the receives, a receive at the place that they count, and at each place a receive
  event_counted : (w k : ℕ) → receive_at log w k ≡ cond (event_stays log w k) 1 0
  unfolding receive_at received event_stays
  event_counted w k = refl

  pub interval_count : (w : ℕ) → event_count (interval_workers log) w ≡ (interval_at log w (index (event_count log w))).0
  unfolding event_count interval_worker
  interval_count w = rw (worker_made w) (keep_length (event_stays log w) (event_becomes log w) (receive_at log w) (event_counted w) (event_count log w))

  pub interval_event_lem : (w k : ℕ) → k < event_count log w → is_receive (event_of log w (k + 1)) ≡ true
      → event_of (interval_workers log) w ((interval_at log w (index k)).0 + 1) ≡ interval_event log (event_of log w (k + 1))
  unfolding interval_worker event_stays event_becomes
  interval_event_lem w k h r =
      event_place (interval_workers log) w (interval_at log w (index k)).0
      ∙ rw (worker_made w)
      (keep_at (event_stays log w) (event_becomes log w) (receive_at log w) (event_counted w) (event_count log w) k no_event h r)

  pub interval_event_from : (w j : ℕ) → 0 < j → j ≤ event_count (interval_workers log) w
      → (k : ℕ) × (k < event_count log w) × (is_receive (event_of log w (k + 1)) ≡ true) × ((interval_at log w (index k)).0 + 1 ≡ j)
  unfolding event_stays
  interval_event_from w j positive h =
      let at = keep_from (event_stays log w) (event_becomes log w) (receive_at log w) (event_counted w) (event_count log w) (j - 1) (omega (arith, interval_count w)) in
      (at.0, at.1, at.2, omega (arith, at.3))

  -- ---- the checkpoints in the same way: as many as stay, one that stays at the place that they count, and at each place one that stays
  kept_counted : (w k : ℕ) → kept_at log w k ≡ cond (checkpoint_stays log w k) 1 0
  unfolding kept_at
  kept_counted w k = refl

  -- a withdrawn one is none, and any other is one more
  pub kept_same : (w k : ℕ) → (checkpoint_of log w (k + 1)).withdrawn ≡ true → sum_below (kept_at log w) (k + 1) ≡ sum_below (kept_at log w) k
  unfolding kept_at checkpoint_stays
  kept_same w k gone = sum_more (kept_at log w) k ∙ rw gone (omega arith)

  pub kept_more : (w k : ℕ) → (checkpoint_of log w (k + 1)).withdrawn ≡ false → sum_below (kept_at log w) (k + 1) ≡ sum_below (kept_at log w) k + 1
  unfolding kept_at checkpoint_stays
  kept_more w k stays = sum_more (kept_at log w) k ∙ rw stays

  pub kept_few : (w k : ℕ) → sum_below (kept_at log w) k ≤ k
  unfolding kept_at
  kept_few w k = omega (arith, sum_bound (kept_at log w) k 1 (λ j h. few (checkpoint_stays log w j)))
    where
      few : (b : Bool) → cond b 1 0 ≤ 1
      few true = omega arith
      few false = omega arith

  pub interval_checkpoints : (w : ℕ) → checkpoint_count (interval_workers log) w ≡ sum_below (kept_at log w) (checkpoint_count log w)
  unfolding checkpoint_count interval_worker
  interval_checkpoints w =
      rw (worker_made w) (keep_length (checkpoint_stays log w) (checkpoint_becomes log w) (kept_at log w) (kept_counted w) (checkpoint_count log w))

  pub interval_checkpoint_lem : (w k : ℕ) → k < checkpoint_count log w → checkpoint_stays log w k ≡ true
      → checkpoint_of (interval_workers log) w (sum_below (kept_at log w) k + 1) ≡ interval_checkpoint log w (checkpoint_of log w (k + 1))
  unfolding interval_worker checkpoint_becomes
  interval_checkpoint_lem w k h stays =
      checkpoint_place (interval_workers log) w (sum_below (kept_at log w) k)
      ∙ rw (worker_made w)
      (keep_at (checkpoint_stays log w) (checkpoint_becomes log w) (kept_at log w) (kept_counted w) (checkpoint_count log w) k initial h stays)

  pub interval_checkpoint_from : (w j : ℕ) → 0 < j → j ≤ checkpoint_count (interval_workers log) w
      → (k : ℕ) × (k < checkpoint_count log w) × (checkpoint_stays log w k ≡ true) × (sum_below (kept_at log w) k + 1 ≡ j)
  interval_checkpoint_from w j positive h =
      let at =
      keep_from (checkpoint_stays log w) (checkpoint_becomes log w) (kept_at log w) (kept_counted w) (checkpoint_count log w) (j - 1)
      (omega (arith, interval_checkpoints w)) in
      (at.0, at.1, at.2, omega (arith, at.3))

-- the interval log has no more workers, events and checkpoints than there may be, where the log has not
pub interval_limited : (log : Workers) → Limited log → Limited (interval_workers log)
interval_limited log small =
    record {
      few = rw (interval_size log) small.few;
      events = λ w. omega (arith, interval_count log w, interval_few log w (event_count log w), small.events w);
      recorded = λ w. omega (arith, interval_checkpoints log w, kept_few log w (checkpoint_count log w), small.recorded w);
    }
