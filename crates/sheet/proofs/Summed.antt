-- The sums of a sheet are those of the single plans, exactly. Assumes nothing.
use mathlib.Core.Path.{◌≡◌, sym, ◌∙◌}
use mathlib.Core.Logic.{⊎_elim}
use mathlib.Core.List.{List, [], ◌++◌}
use Prim.Native.Nat.{ℕ, ◌+◌, ◌-◌, ◌*◌, ◌%◌, ◌<◌, ◌≤◌}
use native.Mathlib.Omega.{arith}
use lib.Dec.{ltb}
use lib.ListN.{length, take, replicate, get_or-eq_default}
use Rattle.ranges.specs.Fold.{sum_below}
use Rattle.ranges.proofs.Order.{lt_or_le}
use Rattle.ranges.proofs.Sum.{sum_same, sum_split, sum_swap}
use Rattle.lent.specs.Lent.{at, onto, word_of}
use Rattle.lent.proofs.Lent.{named_words}
use Rattle.lent.proofs.Left.{word_few}
use Rattle.event_log.specs.Limits.{max_events}
use Rattle.event_log.specs.Layout.{workers_of}
use Rattle.event_log.specs.Model.{Workers, worker_count}
use Rattle.accept.proofs.Accepted.{well_formed}
use Rattle.causality.specs.Cut.{IsCut}
use Rattle.unit_table.specs.Table.{Table, max_units, table_of}
use Rattle.unit_table.proofs.Loaded.{loaded_bound}
use Rattle.cost.specs.Words.{cut_in, start_in, cuts_in, starts_in}
use Rattle.cost.specs.Cost.{replayed, events_of, worker_units, units_of}
use Rattle.cost.proofs.Costs.{worker_events_bound, worker_units_bound}
use Rattle.restore_plan.specs.Plan.{plan_starts}
use Rattle.restore_plan.specs.Calls.{found_plan}
use Rattle.restore_plan.proofs.Written.{plan_cut, plan_start, plan_cuts, plan_starts_in}
use Rattle.breakpoints.specs.Breakpoints.{max_breakpoints, listed_worker, listed_event, breakpoint_count}
use Rattle.breakpoints.proofs.Joined.{joined_count, front_worker, front_event, back_worker, back_event}
use Rattle.sheet.specs.Sheet.{listed_cut, plan_adds, listed_adds, sheet_up_to, sheet_words}
use Rattle.sheet.specs.Summed.{single_words, single_plan, Summed}
use Rattle.sheet.specs.Inner.Adding.{Summable}
use Rattle.sheet.proofs.Columns.{events_of_worker, units_of_worker, plans_of_worker}
use Rattle.sheet.proofs.Sums.{sheet_long, words_long, sheet_at, sheet_none, listed_is_cut, list_bound}

-- word j of a sheet, and past its words
module _ (table : Table) (log : Workers) (list : List ℕ) (j : ℕ) where
  pub sheet_word : j < 3 * worker_count log → at (sheet_words table log list) j ≡ sum_below (listed_adds table log list j) (breakpoint_count list)
  unfolding sheet_words
  sheet_word h = sheet_at table log list (breakpoint_count list) j h

  past_word : 3 * worker_count log ≤ j → at (sheet_words table log list) j ≡ 0
  unfolding sheet_words
  past_word h = get_or-eq_default (sheet_up_to table log list (breakpoint_count list)) 0 (rw (sheet_long table log list (breakpoint_count list)) h)

-- the plan of the same breakpoint adds the same
adds_same : (table : Table) (log : Workers) (a b : List ℕ) (j k m : ℕ) → listed_worker a k ≡ listed_worker b m → listed_event a k ≡ listed_event b m
    → listed_adds table log a j k ≡ listed_adds table log b j m
unfolding listed_adds
adds_same table log a b j k m worker event = rw (worker, event)

-- two lists, one behind the other
module _ (table : Table) (log : Workers) (a b : List ℕ) (even : length a % 2 ≡ 0) (j : ℕ) where
  sums_joined : sum_below (listed_adds table log (a ++ b) j) (breakpoint_count (a ++ b))
      ≡ sum_below (listed_adds table log a j) (breakpoint_count a) + sum_below (listed_adds table log b j) (breakpoint_count b)
  sums_joined =
      let both = listed_adds table log (a ++ b) j in
      let front = sum_same both (listed_adds table log a j) (breakpoint_count a) (λ k h. adds_same table log (a ++ b) a j k k (front_worker a b even k h) (front_event a b even k h)) in
      let back =
      sum_same (λ (k : ℕ). both (breakpoint_count a + k)) (listed_adds table log b j) (breakpoint_count b)
      (λ k h. adds_same table log (a ++ b) b j (breakpoint_count a + k) k (back_worker a b even k) (back_event a b even k)) in
      rw (joined_count a b even) (sum_split both (breakpoint_count a) (breakpoint_count b) ∙ rw (front, back))

  sheets_joined : at (sheet_words table log (a ++ b)) j ≡ at (sheet_words table log a) j + at (sheet_words table log b) j
  sheets_joined =
      ⊎_elim
      (λ l. rw (sheet_word table log (a ++ b) j l, sheet_word table log a j l, sheet_word table log b j l) sums_joined)
      (λ l. rw (past_word table log (a ++ b) j l, past_word table log a j l, past_word table log b j l))
      (lt_or_le j (3 * worker_count log))

-- a list without breakpoints
none_summed : (table : Table) (log : Workers) → sheet_words table log [] ≡ replicate (3 * worker_count log) 0
unfolding sheet_words breakpoint_count
none_summed table log = sym (sheet_none table log [])

module _ (s list words : List ℕ) (given : Summable s list words) where
  abbrev log : Workers
  log = workers_of s

  abbrev table : Table
  table = table_of words

  abbrev count : ℕ
  count = breakpoint_count list

  abbrev sheet : List ℕ
  sheet = sheet_words table log list

  -- the cut and the starts of the plan of breakpoint k
  abbrev cut_of : ℕ → List ℕ
  cut_of k = listed_cut log list k

  abbrev starts_of : ℕ → List ℕ
  starts_of k = plan_starts log (cut_of k)

  is_cut : (k : ℕ) → k < count → IsCut log (cut_of k)
  is_cut k h = listed_is_cut s list words given k h

  -- a word is the sum of what each plan adds to it
  word_by : (j : ℕ) (adds : ℕ → ℕ) → ((k : ℕ) → plan_adds table log (cut_of k) (starts_of k) j ≡ adds k) → j < 3 * worker_count log → at sheet j ≡ sum_below adds count
  unfolding listed_adds
  word_by j adds same h = sheet_word table log list j h ∙ sum_same (listed_adds table log list j) adds count (λ k l. same k)

  module _ (w : ℕ) (h : w < worker_count log) where
    -- the three words of a worker are the sums of what the plans' cuts and starts give ..
    events_word : at sheet (3 * w) ≡ sum_below (λ (k : ℕ). replayed (cut_of k) (starts_of k) w) count
    events_word = word_by (3 * w) _ (λ k. events_of_worker table log (cut_of k) (starts_of k) w) (omega arith)

    units_word : at sheet (3 * w + 1) ≡ sum_below (λ (k : ℕ). worker_units table log (cut_of k) (starts_of k) w) count
    units_word = word_by (3 * w + 1) _ (λ k. units_of_worker table log (cut_of k) (starts_of k) w) (omega arith)

    plans_word : at sheet (3 * w + 2) ≡ sum_below (λ (k : ℕ). word_of (ltb (at (starts_of k) w) (at (cut_of k) w))) count
    plans_word = word_by (3 * w + 2) _ (λ k. plans_of_worker table log (cut_of k) (starts_of k) w) (omega arith)

    -- .. and these are what the single plans' words give
    single_events : at sheet (3 * w) ≡ sum_below (λ (k : ℕ). cut_in (single_words log list k) w - start_in (single_words log list k) w) count
    unfolding replayed
    single_events = events_word ∙ sum_same _ _ count (λ k l. rw (plan_cut log (cut_of k) w h, plan_start log (cut_of k) w h))

    single_units : at sheet (3 * w + 1) ≡ sum_below (λ (k : ℕ). worker_units table log (cuts_in log (single_words log list k)) (starts_in log (single_words log list k)) w) count
    single_units =
        units_word ∙ sum_same _ _ count (λ k l. rw (plan_cuts log (cut_of k) (is_cut k l), plan_starts_in log (cut_of k) (well_formed s given.accepted) (is_cut k l)))

    single_plans : at sheet (3 * w + 2) ≡ sum_below (λ (k : ℕ). word_of (ltb (start_in (single_words log list k) w) (cut_in (single_words log list k) w))) count
    single_plans = plans_word ∙ sum_same _ _ count (λ k l. rw (plan_cut log (cut_of k) w h, plan_start log (cut_of k) w h))

  -- a bound on what each plan adds bounds the word
  few_by : (f : ℕ → ℕ) (b word : ℕ) → ((k : ℕ) → k < count → f k ≤ b) → word ≡ sum_below f count → word ≤ max_breakpoints * b
  few_by f b word all is = rw is (list_bound s list words given f count b (omega arith) all)

  all_events_lem : sum_below (λ (w : ℕ). at sheet (3 * w)) (worker_count log) ≡ sum_below (λ (k : ℕ). (single_plan table log list k).events) count
  unfolding found_plan events_of
  all_events_lem =
      sum_same (λ (w : ℕ). at sheet (3 * w)) (λ (w : ℕ). sum_below (λ (k : ℕ). replayed (cut_of k) (starts_of k) w) count) (worker_count log) events_word
      ∙ sym (sum_swap (λ (k w : ℕ). replayed (cut_of k) (starts_of k) w) (worker_count log) count)

  all_units_lem : sum_below (λ (w : ℕ). at sheet (3 * w + 1)) (worker_count log) ≡ sum_below (λ (k : ℕ). (single_plan table log list k).units) count
  unfolding found_plan units_of
  all_units_lem =
      sum_same (λ (w : ℕ). at sheet (3 * w + 1)) (λ (w : ℕ). sum_below (λ (k : ℕ). worker_units table log (cut_of k) (starts_of k) w) count) (worker_count log) units_word
      ∙ sym (sum_swap (λ (k w : ℕ). worker_units table log (cut_of k) (starts_of k) w) (worker_count log) count)

  -- all that the request says of the sums
  summed : Summed table log list sheet
  summed =
      record {
        events = single_events;
        units = single_units;
        plans = single_plans;
        all_events = all_events_lem;
        all_units = all_units_lem;
        few_events = λ w h. few_by _ max_events _ (λ k l. worker_events_bound log (well_formed s given.accepted) (cut_of k) (is_cut k l) (starts_of k) w) (events_word w h);
        few_units = λ w h. few_by _ (max_events * max_units) _
            (λ k l. worker_units_bound log (well_formed s given.accepted) (cut_of k) (is_cut k l) (starts_of k) table max_units (loaded_bound words given.loaded) w) (units_word w h);
        few_plans = λ w h. few_by _ 1 _ (λ k l. word_few _) (plans_word w h);
        joined = λ a b same even j. rw same (sheets_joined table log a b even j);
        none = λ same. rw same (none_summed table log);
      }

  -- .. of the words named, of those that the call leaves
  pub summed_left : (lent left : List ℕ) → left ≡ onto sheet lent → Summed table log list (take (3 * worker_count log) left)
  summed_left lent left is = rw (is, named_words (3 * worker_count log) sheet lent (words_long table log list)) summed
