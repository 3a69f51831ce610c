-- Where the blocks of a worker begin and end, how many there are, and where they stand in the table. Assumes nothing.
use mathlib.Core.Path.{◌≡◌, refl, sym, ◌∙◌}
use mathlib.Core.List.{List}
use mathlib.Core.Logic.{⊎_elim, ◌≢◌}
use Prim.Native.Nat.{ℕ, ◌+◌, ◌*◌, ◌/◌, ◌^◌, ◌<◌, ◌≤◌, min}
use native.Mathlib.Nat.{le-div_iff_mul-le, min-eq_left}
use native.Mathlib.Omega.{arith}
use lib.ListN.{length, set}
use lib.Pow.{pow_pos, pow_mono, shr_le, shr_mono}
use lib.Seq.{get_or-set_same, get_or-set_other}
use Rattle.ranges.specs.Fold.{sum_below}
use Rattle.ranges.proofs.Order.{eq_or_ne}
use Rattle.ranges.proofs.Sum.{sum_none, sum_more, sum_grows, sum_bound}
use Rattle.lent.specs.Lent.{at}
use Rattle.event_log.specs.Model.{Workers, worker_count, event_count}
use Rattle.event_log.specs.Header.{layout_refusal}
use Rattle.event_log.specs.Limits.{max_workers, max_events}
use Rattle.event_log.specs.Layout.{workers_of}
use Rattle.event_log.proofs.Read.{workers_few, count_field}
use Rattle.accept.proofs.Accepted.{accepted_layout}
use Rattle.intervals.specs.declared.EventIndex.{EventIndex}
use Rattle.intervals.specs.declared.IntervalNumber.{IntervalNumber}
use Rattle.intervals.specs.Interval.{index, interval_at}
use Rattle.intervals.proofs.IntervalModel.{interval_few}
use Rattle.interval_blocks.specs.Inner.Blocks.{most_bits, blocks_of, first_block, block_interval, Blocks}
use Rattle.interval_blocks.specs.Inner.Row.{Row}

-- before the first event
pub interval_none : (log : Workers) (w : ℕ) → interval_at log w (index 0) ≡ record { 0 = 0 }
unfolding sum_below
interval_none log w = refl

module _ (log : Workers) (b : ℕ) where
  -- ---- the blocks of worker w: each begins at or before the last event, and each event is in one of them
  block_start : (w j : ℕ) → j < blocks_of log b w → j * 2 ^ b ≤ event_count log w
  unfolding blocks_of
  block_start w j h = (le-div_iff_mul-le (pow_pos b)).0 (omega arith)

  block_within : (w x : ℕ) → x ≤ event_count log w → x / 2 ^ b < blocks_of log b w
  unfolding blocks_of
  block_within w x h = omega (arith, shr_mono b h)

  -- the interval where block j begins, from where a loop over the blocks is
  pub number_is : (w j : ℕ) (from : EventIndex) (number : IntervalNumber) → j < blocks_of log b w → from.0 ≡ min (j * 2 ^ b) (event_count log w)
      → number ≡ interval_at log w from → number.0 ≡ block_interval log b w j
  unfolding block_interval
  number_is w j from number h place is =
      let same = place ∙ min-eq_left (block_start w j h) in
      rw is (rw same)

  -- ---- the places of the first blocks
  pub first_none : first_block log b 0 ≡ 0
  unfolding first_block
  first_none = sum_none (blocks_of log b)

  pub first_more : (w : ℕ) → first_block log b (w + 1) ≡ first_block log b w + blocks_of log b w
  unfolding first_block
  first_more w = sum_more (blocks_of log b) w

  -- the blocks of a worker stand before those of every later one
  pub blocks_before : (v w : ℕ) → v < w → first_block log b v + blocks_of log b v ≤ first_block log b w
  unfolding first_block
  blocks_before v w h = omega (arith, sum_more (blocks_of log b) v, sum_grows (blocks_of log b) (v + 1) w (omega arith))

-- ---- a log that passes the tests 1 to 6: no number is large
-- an interval number fits a `u16`
pub number_few : (s : List ℕ) → layout_refusal s ≡ 0 → (w x : ℕ) → x ≤ event_count (workers_of s) w → (interval_at (workers_of s) w (index x)).0 ≤ max_events
number_few s ok w x h = omega (arith, interval_few (workers_of s) w x, (count_field s ok w).1)

-- each worker has one block of the largest size
pub blocks_least : (s : List ℕ) → layout_refusal s ≡ 0 → first_block (workers_of s) most_bits (worker_count (workers_of s)) ≤ max_workers
unfolding first_block blocks_of
blocks_least s ok =
    omega (arith, workers_few s ok, sum_bound (blocks_of (workers_of s) most_bits) (worker_count (workers_of s)) 1 (λ k l. omega (arith, (count_field s ok k).1)))

module _ (s : List ℕ) (ok : layout_refusal s ≡ 0) (b : ℕ) where
  pub blocks_few : (w : ℕ) → blocks_of (workers_of s) b w ≤ max_events + 1
  unfolding blocks_of
  blocks_few w = omega (arith, shr_le (event_count (workers_of s) w) b, (count_field s ok w).1)

  pub first_few : (w : ℕ) → w ≤ worker_count (workers_of s) → first_block (workers_of s) b w ≤ max_workers * (max_events + 1)
  unfolding first_block
  first_few w h = omega (arith, workers_few s ok, sum_bound (blocks_of (workers_of s) b) w (max_events + 1) (λ k l. blocks_few k))

  -- the start of the next block fits a `u32`
  pub end_few : b ≤ most_bits → (w j : ℕ) → j < blocks_of (workers_of s) b w → (j + 1) * 2 ^ b ≤ max_events + 2 ^ most_bits
  end_few small w j h =
      let power : 2 ^ b ≤ 2 ^ most_bits = pow_mono small in
      omega (arith, block_start (workers_of s) b w j h, (count_field s ok w).1)

-- ---- the blocks of worker w written one by one: none, and one more
module _ (log : Workers) (b w first : ℕ) (old : List ℕ) where
  pub row_none : Row log b w first 0 old old
  row_none = record { holds = λ j h. let no : ⊥ = omega arith in absurd no; kept = λ k h. refl }

  pub row_more : (n : ℕ) (table : List ℕ) (number : ℕ) → Row log b w first n old table → first + n < length table → number ≡ block_interval log b w n
      → Row log b w first (n + 1) old (set table (first + n) number)
  row_more n table number done fits is =
      record {
        holds = λ j h.
            ⊎_elim
            (λ (same : j ≡ n). rw (same, get_or-set_same table (first + n) number 0 fits) is)
            (λ (other : j ≢ n). rw (get_or-set_other table (first + n) (first + j) number 0 (λ e. let no : ⊥ = omega arith in no)) (done.holds j (omega (arith, other))))
            (eq_or_ne j n);
        kept = λ k h. rw (get_or-set_other table (first + n) k number 0 (λ e. let no : ⊥ = omega arith in no)) (done.kept k h);
      }

-- ---- the rows of the first w workers written one behind the other, the next one from place `first` on, and the places where they begin
pub record Filled (log : Workers) (b w first : ℕ) (firsts table : List ℕ) : Type 0 where
  pub place : first ≡ first_block log b w
  pub listed : (v : ℕ) → v < w → at firsts v ≡ first_block log b v
  pub holds : (v j : ℕ) → v < w → j < blocks_of log b v → at table (first_block log b v + j) ≡ block_interval log b v j

module _ (log : Workers) (b : ℕ) where
  pub filled_none : (firsts table : List ℕ) → Filled log b 0 0 firsts table
  filled_none firsts table =
      record {
        place = sym (first_none log b);
        listed = λ v h. let no : ⊥ = omega arith in absurd no;
        holds = λ v j h. let no : ⊥ = omega arith in absurd no;
      }

  pub filled_more : (w first : ℕ) (firsts old table : List ℕ) → Filled log b w first firsts old → w < length firsts → Row log b w first (blocks_of log b w) old table
      → Filled log b (w + 1) (first + blocks_of log b w) (set firsts w first) table
  filled_more w first firsts old table done fits row =
      record {
        place = rw (first_more log b w, done.place);
        listed = λ v h.
            ⊎_elim
            (λ (same : v ≡ w). rw (same, get_or-set_same firsts w first 0 fits) done.place)
            (λ (other : v ≢ w). rw (get_or-set_other firsts w v first 0 other) (done.listed v (omega (arith, other))))
            (eq_or_ne v w);
        holds = λ v j h l.
            ⊎_elim
            (λ (same : v ≡ w). rw (same, ← done.place) (row.holds j (rw same at l)))
            (λ (other : v ≢ w).
            let before : v < w = omega (arith, other) in
            row.kept (first_block log b v + j) (omega (arith, done.place, blocks_before log b v w before)) ∙ done.holds v j before l)
            (eq_or_ne v w);
      }

-- ---- the block of event x of worker w in a table of the blocks: its place, and what stands there
module _ (log : Workers) (b : ℕ) (firsts table : List ℕ) (blocks : Blocks log b firsts table) where
  module _ (w x : ℕ) (h : w < worker_count log) (within : x ≤ event_count log w) where
    pub place_before : at firsts w + x / 2 ^ b < first_block log b (worker_count log)
    place_before = omega (arith, blocks.first w h, block_within log b w x within, blocks_before log b w (worker_count log) h)

    pub place_within : at firsts w + x / 2 ^ b < length table
    place_within = omega (arith, place_before, blocks.long)

    pub place_holds : at table (at firsts w + x / 2 ^ b) ≡ (interval_at log w (index (x / 2 ^ b * 2 ^ b))).0
    unfolding block_interval
    place_holds = rw (blocks.first w h) (blocks.holds w (x / 2 ^ b) h (block_within log b w x within))

-- what the code asks of the numbers of blocks, of the loops that write them, and of a block in the table
pub ruleset number_laws = (shr_le, number_few, blocks_few, end_few, first_none, first_more, first_few, blocks_before)

pub ruleset block_laws = (accepted_layout, number_laws, interval_none, number_is, row_none, row_more, filled_none, filled_more, place_within, place_holds)
