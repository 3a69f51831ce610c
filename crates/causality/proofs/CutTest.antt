-- The cut test is right: of words that are a cut it says whether they are consistent. Assumes nothing.
use mathlib.Core.Path.{◌≡◌, refl, sym, ◌∙◌, ap}
use mathlib.Core.Logic.{⊎_elim, ◌↔◌}
use mathlib.Core.Bool.{Bool, true, false, not, ◌&&◌}
use mathlib.Core.List.{List}
use Prim.Native.Nat.{ℕ, ◌+◌, ◌<◌, ◌≤◌}
use native.Mathlib.Omega.{arith}
use borrow.Author.Tests.{ltb-true, ltb-false, le-ltb, not-true}
use lib.Dec.{ltb}
use lib.ListN.{length, take, get_or-eq_default}
use lib.Seq.{get_or-take, length-take-le}
use Rattle.ranges.specs.Fold.{any_below}
use Rattle.ranges.proofs.Any.{any_each, any_every, any_same}
use Rattle.ranges.proofs.Bools.{and_true_left, and_true_right}
use Rattle.ranges.proofs.Order.{lt_or_le}
use Rattle.event_log.specs.Model.{Workers, worker_count, event_count, event_of}
use Rattle.records.specs.Event.{is_receive}
use Rattle.accept.specs.WellFormed.{WellFormed}
use Rattle.lent.specs.Lent.{at, word_of}
use Rattle.lent.proofs.Left.{word_yes}
use Rattle.causality.specs.Cut.{IsCut, Consistent, lacks, worker_lacks, is_consistent}
use Rattle.refusals.specs.Refusals.{over_count}
use Rattle.causality.specs.Calls.{TellsConsistent}

-- a receive within the cut does not lack its send exactly when the send is within the cut
pub lacks_false : (log : Workers) (cut : List ℕ) (w k : ℕ)
    → (lacks log cut w k ≡ false) ↔ (is_receive (event_of log w (k + 1)) ≡ true → (event_of log w (k + 1)).send ≤ at cut (event_of log w (k + 1)).peer)
unfolding lacks
lacks_false log cut w k = (
  λ e r. ltb-false (at cut peer) send (rw r at e),
  λ h. test (is_receive (event_of log w (k + 1))) refl h,
)
  where
    send : ℕ
    send = (event_of log w (k + 1)).send

    peer : ℕ
    peer = (event_of log w (k + 1)).peer

    test : (b : Bool) → is_receive (event_of log w (k + 1)) ≡ b → (is_receive (event_of log w (k + 1)) ≡ true → send ≤ at cut peer) → (b && ltb (at cut peer) send) ≡ false
    test true q h = le-ltb (at cut peer) send (h q)
    test false q h = refl

-- one that lacks its send is a receive of a send beyond the cut
pub lacks_true : (log : Workers) (cut : List ℕ) (w k : ℕ) → lacks log cut w k ≡ true
    → (is_receive (event_of log w (k + 1)) ≡ true) × (at cut (event_of log w (k + 1)).peer < (event_of log w (k + 1)).send)
unfolding lacks
lacks_true log cut w k e =
    let receive = is_receive (event_of log w (k + 1)) in
    let beyond = ltb (at cut (event_of log w (k + 1)).peer) (event_of log w (k + 1)).send in
    (and_true_left receive beyond e, ltb-true (at cut (event_of log w (k + 1)).peer) (event_of log w (k + 1)).send (and_true_right receive beyond e))

-- words past the last worker are 0
pub cut_past : (log : Workers) (cut : List ℕ) → IsCut log cut → (w : ℕ) → worker_count log ≤ w → at cut w ≡ 0
cut_past log cut is w past = get_or-eq_default cut 0 (rw is.long past)

-- the cut test says whether a cut is consistent
pub cut_test : (log : Workers) (cut : List ℕ) → IsCut log cut → (is_consistent log cut ≡ true) ↔ Consistent log cut
unfolding is_consistent worker_lacks
cut_test log cut is = (to, from)
  where
    to : is_consistent log cut ≡ true → Consistent log cut
    to e =
        let none = not-true (any_below (worker_lacks log cut) (worker_count log)) e in
        record {
          is_cut = is;
          closed = λ w k h.
              ⊎_elim (λ inside. (lacks_false log cut w k).0 (any_each (lacks log cut w) (at cut w) (any_each (worker_lacks log cut) (worker_count log) none w inside) k h))
              (λ past. let z = cut_past log cut is w past in let no : ⊥ = omega arith in absurd no)
              (lt_or_le w (worker_count log));
        }

    from : Consistent log cut → is_consistent log cut ≡ true
    from good =
        rw (any_every (worker_lacks log cut) (worker_count log) (λ w h. any_every (lacks log cut w) (at cut w) (λ k l. (lacks_false log cut w k).1 (good.closed w k l))))

-- two cuts of which the same words are read
lacks_same : (log : Workers) (a b : List ℕ) (w k : ℕ)
    → (is_receive (event_of log w (k + 1)) ≡ true → at a (event_of log w (k + 1)).peer ≡ at b (event_of log w (k + 1)).peer) → lacks log a w k ≡ lacks log b w k
unfolding lacks
lacks_same log a b w k same = go (is_receive (event_of log w (k + 1))) refl
  where
    go : (r : Bool) → is_receive (event_of log w (k + 1)) ≡ r → lacks log a w k ≡ lacks log b w k
    go true q = rw (q, same q)
    go false q = rw q

worker_same : (log : Workers) (a b : List ℕ) (w : ℕ) → at a w ≡ at b w → ((k : ℕ) → lacks log a w k ≡ lacks log b w k) → worker_lacks log a w ≡ worker_lacks log b w
unfolding worker_lacks
worker_same log a b w same each = rw same (any_same (lacks log a w) (lacks log b w) (at b w) (λ k h. each k))

-- the test of the first n words reads no other
pub first_words : (log : Workers) → WellFormed log → (words : List ℕ) → not (any_below (worker_lacks log words) (worker_count log)) ≡ is_consistent log (take (worker_count log) words)
unfolding is_consistent
first_words log ok words = ap not (any_same (worker_lacks log words) (worker_lacks log (take (worker_count log) words)) (worker_count log) worker)
  where
    same : (w : ℕ) → w < worker_count log → at (take (worker_count log) words) w ≡ at words w
    same w h = get_or-take (worker_count log) words w 0 h

    event : (w k : ℕ) → lacks log words w k ≡ lacks log (take (worker_count log) words) w k
    event w k = lacks_same log words (take (worker_count log) words) w k (λ r. sym (same _ (ok.sent w (k + 1) r).within))

    worker : (w : ℕ) → w < worker_count log → worker_lacks log words w ≡ worker_lacks log (take (worker_count log) words) w
    worker w h = worker_same log words (take (worker_count log) words) w (sym (same w h)) (event w)

-- words that 16 does not refuse are a cut, in the first n of them
words_cut : (log : Workers) (words : List ℕ) → worker_count log ≤ length words → any_below (over_count log words) (worker_count log) ≡ false
    → IsCut log (take (worker_count log) words)
unfolding over_count
words_cut log words enough none =
    let n = worker_count log in
    let long = length-take-le n words enough in
    record {
      long = long;
      within = λ w.
          ⊎_elim
          (λ inside. rw (get_or-take n words w 0 inside) (ltb-false (event_count log w) (at words w) (any_each (over_count log words) n none w inside)))
          (λ past. let zero : at (take n words) w ≡ 0 = get_or-eq_default (take n words) 0 (rw long past) in omega arith)
          (lt_or_le w n);
    }

-- the word of the test's answer tells whether they are a consistent one
pub tells_consistent : (log : Workers) (words : List ℕ) (b : Bool) → worker_count log ≤ length words → any_below (over_count log words) (worker_count log) ≡ false
    → b ≡ is_consistent log (take (worker_count log) words) → TellsConsistent log words (word_of b)
tells_consistent log words b enough none test =
    let said = cut_test log (take (worker_count log) words) (words_cut log words enough none) in
    (λ e. said.0 (sym test ∙ (word_yes b).0 e), λ good. (word_yes b).1 (test ∙ said.1 good))
