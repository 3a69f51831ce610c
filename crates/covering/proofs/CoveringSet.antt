-- The covering test tells whether an identifier covers, and whether its checkpoints are startable for the cut of all events: the checkpoint
-- of a worker with an identifier is one only.
-- Assumes nothing.
use mathlib.Core.Path.{◌≡◌, sym, ◌∙◌, ap}
use mathlib.Core.Bool.{Bool, true, false, not, false≢true}
use mathlib.Core.Logic.{⊎_elim, ◌↔◌}
use mathlib.Core.List.{List}
use Prim.Native.Nat.{ℕ, ◌+◌, ◌<◌, ◌≤◌}
use native.Mathlib.Omega.{arith}
use borrow.Author.Tests.{eqb-true, eq-eqb, not-true, not-false}
use lib.Dec.{eqb}
use lib.ListN.{get_or, length-map, replicate}
use Rattle.ranges.specs.Fold.{any_below, last_below, tabulate}
use Rattle.ranges.proofs.Order.{lt_or_le, rising}
use Rattle.ranges.proofs.Any.{any_each, any_every, any_found, any_some}
use Rattle.ranges.proofs.Bools.{and_true_left, and_true_right, or_true_cases}
use Rattle.ranges.proofs.First.{last}
use Rattle.ranges.proofs.Tabulate.{length_tabulate, get_d_tabulate, get_d_tabulate_past, get_d_replicate_all, tabulate_list}
use Rattle.records.specs.declared.Event.{Event}
use Rattle.records.specs.declared.Checkpoint.{Checkpoint}
use Rattle.event_log.specs.Model.{Workers, worker_count, event_count, event_of, checkpoint_count, checkpoint_of}
use Rattle.records.specs.Checkpoint.{initial}
use Rattle.records.specs.Event.{is_receive, is_logged, is_unlogged}
use Rattle.event_log.proofs.Read.{worker_within, checkpoint_initial, count_past}
use Rattle.records.proofs.EventKinds.{not_logged}
use Rattle.accept.specs.WellFormed.{WellFormed}
use Rattle.lent.specs.Lent.{at, word_of}
use Rattle.lent.proofs.Left.{word_yes}
use Rattle.causality.specs.Cut.{IsCut}
use Rattle.choice.specs.Choice.{may_choose, IsChoice, starts_of, Startable, is_startable}
use Rattle.covering.specs.Covering.{is_set, Covers, cut_of_all, StartableSet, without_set, index_of, set_index, set_starts, covering_set, CoversWhenStartable}
use Rattle.choice.proofs.Choosable.{may_recorded, may_below, may_initial}
use Rattle.choice.proofs.Startable.{starts_at, unlogged_receive, startable_iff, initial_choice, initial_startable}

-- identifiers rise within a worker: one checkpoint only has an identifier
pub identifier_unique : (log : Workers) → WellFormed log → (w c d : ℕ) → c ≤ checkpoint_count log w → d ≤ checkpoint_count log w
    → (checkpoint_of log w c).identifier ≡ (checkpoint_of log w d).identifier → c ≡ d
identifier_unique log ok w c d first second same =
    let rises = rising (λ k. (checkpoint_of log w k).identifier) (checkpoint_count log w) (ok.identified w) in
    ⊎_elim
    (λ l. let no : ⊥ = omega (arith, rises c d l (omega arith)) in absurd no)
    (λ l. ⊎_elim (λ m. let no : ⊥ = omega (arith, rises d c m (omega arith)) in absurd no) (λ m. omega arith) (lt_or_le d c))
    (lt_or_le c d)

module _ (log : Workers) (t : ℕ) where
  pub set_may : (w c : ℕ) → is_set log t w c ≡ true → may_choose log w c ≡ true
  unfolding is_set
  set_may w c e = and_true_left (may_choose log w c) (eqb (checkpoint_of log w c).identifier t) e

  set_below : (w c : ℕ) → is_set log t w c ≡ true → c < checkpoint_count log w + 1
  set_below w c e = may_below log w c (set_may w c e)

  pub set_identifier : (w c : ℕ) → is_set log t w c ≡ true → (checkpoint_of log w c).identifier ≡ t
  unfolding is_set
  set_identifier w c e = eqb-true (checkpoint_of log w c).identifier t (and_true_right (may_choose log w c) (eqb (checkpoint_of log w c).identifier t) e)

  module _ (ok : WellFormed log) where
    -- one checkpoint only has identifier t
    pub set_unique : (w c d : ℕ) → is_set log t w c ≡ true → is_set log t w d ≡ true → c ≡ d
    set_unique w c d first second =
        identifier_unique log ok w c d (may_recorded log w c (set_may w c first)) (may_recorded log w d (set_may w d second))
        (set_identifier w c first ∙ sym (set_identifier w d second))

    -- its index is the set's
    pub set_index_lem : (w c : ℕ) → is_set log t w c ≡ true → set_index log t w ≡ (checkpoint_of log w c).index
    unfolding set_index index_of
    set_index_lem w c e =
        let found = last (is_set log t w) (index_of log w) (checkpoint_count log w + 1) c (set_below w c e) e in
        found.2 ∙ ap (index_of log w) (set_unique w found.0 c found.1.holds e)

-- "For t = 0 the initial states are meant"
pub set_initial : (log : Workers) → WellFormed log → (w c : ℕ) → is_set log 0 w c ≡ true → c ≡ 0
unfolding is_set
set_initial log ok w c e = set_unique log 0 ok w c 0 e (rw (may_initial log w, checkpoint_initial log w))

-- a receive that is not of kind 2 is of kind 3
unless_unlogged : (e : Event) → is_receive e ≡ true → (is_unlogged e ≡ true → ⊥) → is_logged e ≡ true
unfolding is_receive
unless_unlogged e receive none = ⊎_elim (λ q. absurd (none q)) (λ q. q) (or_true_cases (is_unlogged e) (is_logged e) receive)

-- the number of worker w's checkpoint t
set_number : Workers → ℕ → ℕ → ℕ
set_number log t w = last_below (is_set log t w) (λ c. c) (checkpoint_count log w + 1)

-- each worker is at its last event in the cut of all events
pub all_at : (log : Workers) (w : ℕ) → at (cut_of_all log) w ≡ event_count log w
unfolding cut_of_all
all_at log w =
    ⊎_elim
    (λ l. get_d_tabulate (event_count log) (worker_count log) w 0 l)
    (λ l. get_d_tabulate_past (event_count log) (worker_count log) w 0 l ∙ sym (count_past log w l))
    (lt_or_le w (worker_count log))

-- the cut of all events is a cut
pub cut_of_all_lem : (log : Workers) → IsCut log (cut_of_all log)
unfolding cut_of_all
cut_of_all_lem log = record { long = length_tabulate (event_count log) (worker_count log); within = λ w. omega (arith, all_at log w) }

module _ (log : Workers) (t : ℕ) (ok : WellFormed log) where
  -- every worker has a checkpoint t
  abbrev HasSet : Type 0
  HasSet = (w : ℕ) → w < worker_count log → (c : ℕ) × (is_set log t w c ≡ true)

  -- .. and these checkpoints are startable for the cut of all events
  abbrev Starts : Type 0
  Starts = HasSet × Startable log (cut_of_all log) (set_starts log t)

  start_at : (w c : ℕ) → w < worker_count log → is_set log t w c ≡ true → at (set_starts log t) w ≡ (checkpoint_of log w c).index
  unfolding set_starts
  start_at w c h e = get_d_tabulate (set_index log t) (worker_count log) w 0 h ∙ set_index_lem log t ok w c e

  -- ---- the test
  found : HasSet → (w : ℕ) → w < worker_count log → is_set log t w (set_number log t w) ≡ true
  unfolding set_number
  found has w h =
      let some = has w h in
      let last = last (is_set log t w) (λ c. c) (checkpoint_count log w + 1) some.0 (set_below log t w some.0 some.1) some.1 in
      rw last.2 last.1.holds

  none_without : (any_below (without_set log t) (worker_count log) ≡ false) ↔ HasSet
  unfolding without_set
  none_without = (
    (λ none w h.
        let some = any_some (is_set log t w) (checkpoint_count log w + 1) (not-false _ (any_each (without_set log t) (worker_count log) none w h)) in
        (some.0, some.2)),
    (λ has.
        any_every (without_set log t) (worker_count log)
        (λ w h. rw (any_found (is_set log t w) (checkpoint_count log w + 1) (has w h).0 (set_below log t w (has w h).0 (has w h).1) (has w h).1))),
  )

  test_starts : (covering_set log t ≡ true) ↔ Starts
  unfolding covering_set
  test_starts =
      let without = any_below (without_set log t) (worker_count log) in
      let startable = is_startable log (cut_of_all log) (set_starts log t) in
      let iff = startable_iff log (cut_of_all log) (cut_of_all_lem log) (set_starts log t) in (
        (λ e. (none_without.0 (not-true without (and_true_left (not without) startable e)), iff.0 (and_true_right (not without) startable e))),
        (λ s. rw (none_without.1 s.0, iff.1 s.1)),
      )

  -- ---- the property: what it excludes is a receive that loses its send
  starts_covers : Starts → (number : ℕ → ℕ) × Covers log t number
  starts_covers (has, startable) = (
    set_number log t,
    record {
      has = found has;
      logged = λ w k after inside receive low.
          let e = event_of log w (k + 1) in
          let here = worker_within log w k inside in
          let there = (ok.sent w (k + 1) receive).within in
          let mine = start_at w (set_number log t w) here (found has w here) in
          let peers = start_at e.peer (set_number log t e.peer) there (found has e.peer there) in
          unless_unlogged e receive (λ unlogged. let above = startable w k (omega arith) (omega (arith, all_at log w)) unlogged in let no : ⊥ = omega arith in no);
    },
  )

  covers_starts : ((number : ℕ → ℕ) × Covers log t number) → Starts
  covers_starts (number, covers) = (
    (λ w h. (number w, covers.has w h)),
    (λ w k after inside unlogged.
        let e = event_of log w (k + 1) in
        let here = worker_within log w k (omega (arith, all_at log w)) in
        let receive = unlogged_receive e unlogged in
        let there = (ok.sent w (k + 1) receive).within in
        let mine = start_at w (number w) here (covers.has w here) in
        let peers = start_at e.peer (number e.peer) there (covers.has e.peer there) in
        ⊎_elim
        (λ l. l)
        (λ l. absurd (false≢true (sym (not_logged e unlogged) ∙ covers.logged w k (omega arith) (omega (arith, all_at log w)) receive (omega arith))))
        (lt_or_le (at (set_starts log t) e.peer) e.send)),
  )

  -- ---- the choice
  -- each of its checkpoints is one with identifier t ..
  pub choice_set : (choice : List Checkpoint) (s : StartableSet log t choice) (w : ℕ) → (h : w < worker_count log) → is_set log t w (s.is_choice.offered w h).0 ≡ true
  unfolding is_set
  choice_set choice s w h =
      let o = s.is_choice.offered w h in
      rw (o.1, eq-eqb (checkpoint_of log w o.0).identifier t (ap (λ (p : Checkpoint). p.identifier) o.2 ∙ s.has w h))

  -- .. and a worker's checkpoint with identifier t is the one that the choice gives it
  pub set_point_lem : (choice : List Checkpoint) → StartableSet log t choice → (w c : ℕ) → w < worker_count log → is_set log t w c ≡ true
      → checkpoint_of log w c ≡ get_or choice w initial
  set_point_lem choice s w c h e =
      let o = s.is_choice.offered w h in
      ap (checkpoint_of log w) (set_unique log t ok w c o.0 e (choice_set choice s w h)) ∙ o.2

  abbrev set_point : ℕ → Checkpoint
  set_point w = checkpoint_of log w (set_number log t w)

  set_choice : HasSet → IsChoice log (cut_of_all log) (tabulate set_point (worker_count log))
  set_choice has =
      record {
        long = length_tabulate set_point (worker_count log);
        offered = λ w h. (set_number log t w, set_may log t w (set_number log t w) (found has w h), sym (get_d_tabulate set_point (worker_count log) w initial h));
        within = λ w.
            ⊎_elim
            (λ l. rw (get_d_tabulate set_point (worker_count log) w initial l) (omega (arith, all_at log w, ok.indices w (set_number log t w))))
            (λ l. rw (get_d_tabulate_past set_point (worker_count log) w initial l) (omega arith))
            (lt_or_le w (worker_count log));
      }

  -- a choice of the checkpoints t has their indices as its starts
  same_indices : (choice : List Checkpoint) → IsChoice log (cut_of_all log) choice
      → ((w : ℕ) → w < worker_count log → (c : ℕ) × (is_set log t w c ≡ true) × (checkpoint_of log w c ≡ get_or choice w initial)) → starts_of choice ≡ set_starts log t
  unfolding set_starts
  same_indices choice is each =
      tabulate_list (set_index log t) (worker_count log) 0 (starts_of choice) (length-map choice (λ (p : Checkpoint). p.index) ∙ is.long)
      (λ w h.
      let one = each w h in
      starts_at choice w ∙ ap (λ (p : Checkpoint). p.index) (sym one.2) ∙ sym (set_index_lem log t ok w one.0 one.1))

  choice_starts : ((choice : List Checkpoint) × StartableSet log t choice) ↔ Starts
  choice_starts = (
    (λ (choice, s).
        let offered = s.is_choice.offered in
        let same = same_indices choice s.is_choice (λ w h. ((offered w h).0, choice_set choice s w h, (offered w h).2)) in
        ((λ w h. ((offered w h).0, choice_set choice s w h)), rw same at s.startable)),
    (λ (has, startable).
        let choice = tabulate set_point (worker_count log) in
        let point : (w : ℕ) → w < worker_count log → get_or choice w initial ≡ set_point w = λ w h. get_d_tabulate set_point (worker_count log) w initial h in
        let same = same_indices choice (set_choice has) (λ w h. (set_number log t w, found has w h, sym (point w h))) in (
          choice,
          record {
            is_choice = set_choice has;
            has = λ w h. ap (λ (p : Checkpoint). p.identifier) (point w h) ∙ set_identifier log t w (set_number log t w) (found has w h);
            startable = rw same startable;
          },
        )),
  )

  -- the test holds exactly where identifier t covers ..
  pub covering_iff : (covering_set log t ≡ true) ↔ ((number : ℕ → ℕ) × Covers log t number)
  covering_iff = (λ e. starts_covers (test_starts.0 e), λ c. test_starts.1 (covers_starts c))

  -- .. and exactly where its checkpoints are a choice that is startable for the cut of all events
  pub startable_set_iff : (covering_set log t ≡ true) ↔ ((choice : List Checkpoint) × StartableSet log t choice)
  startable_set_iff = (λ e. choice_starts.1 (test_starts.0 e), λ c. test_starts.1 (choice_starts.0 c))

  -- both, of the test's answer
  pub covers_said : {b : Bool} → b ≡ covering_set log t → CoversWhenStartable log t (word_of b)
  covers_said {b} test =
      let said : (word_of b ≡ 1) ↔ (covering_set log t ≡ true) = rw (← test) (word_yes b) in
      record {
        covers = (λ e. covering_iff.0 (said.0 e), λ c. said.1 (covering_iff.1 c));
        startable = (λ e. startable_set_iff.0 (said.0 e), λ c. said.1 (startable_set_iff.1 c));
      }

module _ (log : Workers) (ok : WellFormed log) where
  -- the initial states cover ..
  pub initial_covers : covering_set log 0 ≡ true
  initial_covers =
      (startable_set_iff log 0 ok).1 (
        replicate (worker_count log) initial,
        record {
          is_choice = initial_choice log (cut_of_all log);
          has = λ w h. ap (λ (p : Checkpoint). p.identifier) (get_d_replicate_all (worker_count log) w initial);
          startable = initial_startable log (cut_of_all log) ok;
        },
      )

  -- .. and have index 0
  pub initial_index : (w c : ℕ) → is_set log 0 w c ≡ true → (checkpoint_of log w c).index ≡ 0
  initial_index w c e = rw (set_initial log ok w c e, checkpoint_initial log w)
