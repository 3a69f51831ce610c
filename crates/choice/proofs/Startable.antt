-- Startable choices: the test for one; one for a cut is one for a smaller cut that none of its checkpoints is beyond; the initial states
-- are one, and so is the larger of two.
-- Assumes nothing.
use mathlib.Core.Path.{◌≡◌, refl, sym, ◌∙◌, ap}
use mathlib.Core.Bool.{Bool, true, false, not, cond, ◌&&◌}
use mathlib.Core.Logic.{⊎_elim, ◌↔◌}
use mathlib.Core.List.{List, ◌∷◌}
use Prim.Native.Nat.{ℕ, zero, suc, ◌+◌, ◌<◌, ◌≤◌, max}
use native.Mathlib.Omega.{arith}
use borrow.Author.Tests.{ltb-true, ltb-false, le-leb, lt-leb, leb-true, leb-false, not-true}
use lib.Dec.{leb, ltb}
use lib.ListN.{length, get_or, replicate, length-replicate, get_or-map, get_or-eq_default}
use lib.Seq.{ext_get_or}
use Rattle.ranges.specs.Fold.{any_below, tabulate}
use Rattle.ranges.proofs.Order.{lt_or_le}
use Rattle.ranges.proofs.Any.{any_each, any_every, any_same}
use Rattle.ranges.proofs.Bools.{and_true_left, and_true_right, never_true}
use Rattle.ranges.proofs.Tabulate.{length_tabulate, get_d_tabulate, get_d_tabulate_past, get_d_replicate_all}
use Rattle.records.specs.declared.Event.{Event}
use Rattle.records.specs.declared.Checkpoint.{Checkpoint}
use Rattle.event_log.specs.Model.{Workers, worker_count, event_of}
use Rattle.records.specs.Checkpoint.{initial}
use Rattle.records.specs.Event.{is_unlogged, is_receive}
use Rattle.event_log.proofs.Read.{checkpoint_initial, worker_within}
use Rattle.accept.specs.WellFormed.{WellFormed}
use Rattle.lent.specs.Lent.{at}
use Rattle.causality.specs.Cut.{Within, IsCut}
use Rattle.choice.proofs.Choosable.{may_initial}
use Rattle.choice.specs.Choice.{Offered, IsChoice, starts_of, Startable, loses_send, lost_at, worker_lost, is_startable}
use Rattle.choice.specs.Inner.Compared.{above_starts}

-- a choice starts each worker at the index of its checkpoint
pub starts_at : (choice : List Checkpoint) (w : ℕ) → at (starts_of choice) w ≡ (get_or choice w initial).index
starts_at choice w = get_or-map (λ (p : Checkpoint). p.index) choice w initial

-- an event of kind 2 is a receive
pub unlogged_receive : (e : Event) → is_unlogged e ≡ true → is_receive e ≡ true
unfolding is_receive
unlogged_receive e q = rw q

-- a receive that loses its send where the sender starts at this index
pub record LosesSend (e : Event) (start : ℕ) : Type 0 where
  pub unlogged : is_unlogged e ≡ true
  pub low : e.send ≤ start

module _ (e : Event) (start : ℕ) where
  -- the test tells such a receive ..
  pub lost_send : loses_send e start ≡ true → LosesSend e start
  unfolding loses_send
  lost_send q =
      record {
        unlogged = and_true_left (is_unlogged e) (leb e.send start) q;
        low = leb-true e.send start (and_true_right (is_unlogged e) (leb e.send start) q);
      }

  -- .. and where it fails, a receive of kind 2 has a send above the start
  pub keeps_send : loses_send e start ≡ false → is_unlogged e ≡ true → start < e.send
  unfolding loses_send
  keeps_send q unlogged = leb-false e.send start (rw unlogged at q)

  -- one comparison serves every kind
  pub compared_send : start < 4294967296 → leb (above_starts e + e.send) start ≡ loses_send e start
  unfolding above_starts loses_send
  compared_send few = go (is_unlogged e)
    where
      go : (b : Bool) → leb (cond b 0 4294967296 + e.send) start ≡ (b && leb e.send start)
      go true = let same : 0 + e.send ≡ e.send = omega arith in rw same
      go false = lt-leb (4294967296 + e.send) start (omega arith)

module _ (log : Workers) (cut : List ℕ) (is_cut : IsCut log cut) where
  kept_at : (starts : List ℕ) → Startable log cut starts → (w k : ℕ) → k < at cut w → lost_at log starts w k ≡ false
  unfolding lost_at
  kept_at starts startable w k inside =
      let e = event_of log w (k + 1) in
      let after = leb (at starts w) k in
      let loses = loses_send e (at starts e.peer) in
      never_true (after && loses)
      (λ q.
      let lost = lost_send e (at starts e.peer) (and_true_right after loses q) in
      let more = startable w k (leb-true (at starts w) k (and_true_left after loses q)) inside lost.unlogged in
      let no : ⊥ = omega (arith, lost.low) in no)

  -- the test tells the startable ones
  pub startable_iff : (starts : List ℕ) → (is_startable log cut starts ≡ true) ↔ Startable log cut starts
  unfolding is_startable worker_lost lost_at
  startable_iff starts = (
    (λ q w k after inside unlogged.
        let none = any_each (worker_lost log cut starts) (worker_count log) (not-true (any_below (worker_lost log cut starts) (worker_count log)) q) w
        (worker_within log w k (omega (arith, is_cut.within w))) in
        keeps_send (event_of log w (k + 1)) (at starts (event_of log w (k + 1)).peer) (rw (le-leb (at starts w) k after) at (any_each (lost_at log starts w) (at cut w) none k inside)) unlogged),
    (λ startable.
        rw (any_every (worker_lost log cut starts) (worker_count log) (λ w h. any_every (lost_at log starts w) (at cut w) (kept_at starts startable w)))),
  )

-- words that give the workers the same starts are startable alike
pub startable_same : (log : Workers) → WellFormed log → (cut : List ℕ) → IsCut log cut → (a b : List ℕ) → ((v : ℕ) → v < worker_count log → at a v ≡ at b v)
    → is_startable log cut a ≡ is_startable log cut b
unfolding is_startable worker_lost lost_at
startable_same log ok cut is_cut a b same =
    ap not (any_same (worker_lost log cut a) (worker_lost log cut b) (worker_count log)
    (λ w h. any_same (lost_at log a w) (lost_at log b w) (at cut w)
    (λ k l. rw (same w h, same (event_of log w (k + 1)).peer (ok.peers w (k + 1) (omega arith) (omega (arith, is_cut.within w)))))))

-- what is startable for a cut is startable for one within it
pub startable_within : (log : Workers) (cut all starts : List ℕ) → Within cut all → Startable log all starts → Startable log cut starts
startable_within log cut all starts inside startable w k after here = startable w k after (omega (arith, inside w))

-- a choice for a cut is one for every other cut that none of its checkpoints is beyond
pub choice_within : (log : Workers) (cut all : List ℕ) (choice : List Checkpoint) → IsChoice log all choice
    → ((w : ℕ) → w < worker_count log → (get_or choice w initial).index ≤ at cut w) → IsChoice log cut choice
choice_within log cut all choice is below =
    record {
      long = is.long;
      offered = is.offered;
      within = λ w.
          ⊎_elim
          (λ l. below w l)
          (λ l. let past : length choice ≤ w = omega (arith, is.long) in rw (get_or-eq_default choice initial past) (omega arith))
          (lt_or_le w (worker_count log));
    }

-- starts that give every worker the same are the same
pub same_starts : (a b : List ℕ) → length a ≡ length b → Within a b → Within b a → a ≡ b
same_starts a b long up down = ext_get_or 0 a b long (λ w h. let l = up w in let g = down w in omega arith)

-- of two checkpoints the one with the larger index
unfoldable pub later_of : Checkpoint → Checkpoint → Checkpoint
later_of p q = cond (ltb p.index q.index) q p

unfoldable pub larger_at : List Checkpoint → List Checkpoint → ℕ → Checkpoint
larger_at a b w = later_of (get_or a w initial) (get_or b w initial)

-- of two choices the one that gives each worker the checkpoint with the larger index
unfoldable pub larger : List Checkpoint → List Checkpoint → List Checkpoint
larger a b = tabulate (larger_at a b) (length a)

-- what holds of both checkpoints holds of the later one
later_of_lem : (P : Checkpoint → Type 0) (p q : Checkpoint) → P p → P q → P (later_of p q)
unfolding later_of
later_of_lem P p q first second = go (ltb p.index q.index)
  where
    go : (b : Bool) → P (cond b q p)
    go true = second
    go false = first

later_index : (p q : Checkpoint) → (later_of p q).index ≡ max p.index q.index
unfolding later_of
later_index p q = go (ltb p.index q.index) refl
  where
    go : (b : Bool) → ltb p.index q.index ≡ b → (cond b q p).index ≡ max p.index q.index
    go true e = let l = ltb-true p.index q.index e in omega arith
    go false e = let l = ltb-false p.index q.index e in omega arith

larger_at_lem : (a b : List Checkpoint) (w : ℕ) → length a ≡ length b → get_or (larger a b) w initial ≡ later_of (get_or a w initial) (get_or b w initial)
unfolding larger larger_at later_of
larger_at_lem a b w same =
    ⊎_elim
    (λ l. get_d_tabulate (larger_at a b) (length a) w initial l)
    (λ l. let m : length b ≤ w = omega arith in get_d_tabulate_past (larger_at a b) (length a) w initial l ∙ rw (get_or-eq_default a initial l, get_or-eq_default b initial m))
    (lt_or_le w (length a))

-- each start of the larger choice is the larger of the two
pub larger_starts : (a b : List Checkpoint) (w : ℕ) → length a ≡ length b → at (starts_of (larger a b)) w ≡ max (at (starts_of a) w) (at (starts_of b) w)
larger_starts a b w same = rw (starts_at (larger a b) w, larger_at_lem a b w same, starts_at a w, starts_at b w) (later_index (get_or a w initial) (get_or b w initial))

module _ (log : Workers) (cut : List ℕ) where
  -- the initial state of every worker is a choice
  pub initial_choice : IsChoice log cut (replicate (worker_count log) initial)
  initial_choice =
      record {
        long = length-replicate (worker_count log) initial;
        offered = λ w h. (0, may_initial log w, checkpoint_initial log w ∙ sym (get_d_replicate_all (worker_count log) w initial));
        within = λ w. rw (get_d_replicate_all (worker_count log) w initial) (omega arith);
      }

  -- it starts every worker at 0
  pub initial_starts : starts_of (replicate (worker_count log) initial) ≡ replicate (worker_count log) 0
  initial_starts = go (worker_count log)
    where
      go : (n : ℕ) → starts_of (replicate n initial) ≡ replicate n 0
      go zero = refl
      go (suc n) = ap (◌∷◌ 0) (go n)

  -- every worker can be started at 0: a receive names a send with an index above 0
  pub zero_startable : WellFormed log → Startable log cut (replicate (worker_count log) 0)
  zero_startable ok w k after inside e =
      rw (get_d_replicate_all {A = ℕ} (worker_count log) (event_of log w (k + 1)).peer 0) (ok.sent w (k + 1) (unlogged_receive _ e)).positive

  -- so the initial states are a startable choice
  pub initial_startable : WellFormed log → Startable log cut (starts_of (replicate (worker_count log) initial))
  initial_startable ok = rw initial_starts (zero_startable ok)

  -- starts that are the larger of two startable ones for each worker are startable
  pub larger_startable : (a b c : List ℕ) → ((w : ℕ) → at c w ≡ max (at a w) (at b w)) → Startable log cut a → Startable log cut b → Startable log cut c
  larger_startable a b c larger first second w k after inside e =
      let v = (event_of log w (k + 1)).peer in
      let here = larger w in
      let there = larger v in
      let one = first w k (omega arith) inside e in
      let two = second w k (omega arith) inside e in
      omega arith

  -- the larger of two choices is a choice ..
  pub larger_choice : (a b : List Checkpoint) → IsChoice log cut a → IsChoice log cut b → IsChoice log cut (larger a b)
  unfolding larger
  larger_choice a b first second =
      let same : length a ≡ length b = first.long ∙ sym second.long in
      record {
        long = length_tabulate (larger_at a b) (length a) ∙ first.long;
        offered = λ w h. rw (larger_at_lem a b w same) (later_of_lem (Offered log w) (get_or a w initial) (get_or b w initial) (first.offered w h) (second.offered w h));
        within = λ w. rw (larger_at_lem a b w same) (later_of_lem (λ p. p.index ≤ at cut w) (get_or a w initial) (get_or b w initial) (first.within w) (second.within w));
      }

  -- .. and startable where both are
  pub larger_choice_startable : (a b : List Checkpoint) → IsChoice log cut a → IsChoice log cut b
      → Startable log cut (starts_of a) → Startable log cut (starts_of b) → Startable log cut (starts_of (larger a b))
  larger_choice_startable a b first second =
      larger_startable (starts_of a) (starts_of b) (starts_of (larger a b)) (λ w. larger_starts a b w (first.long ∙ sym second.long))
