-- A pass over a worker's events after the first `from` that notes what its receives name, and the components that it gives.
-- Assumes nothing.
use mathlib.Core.Path.{◌≡◌, refl, sym, ◌∙◌}
use mathlib.Core.Bool.{Bool, true, false, cond}
use mathlib.Core.Logic.{⊎_elim, ◌≢◌}
use mathlib.Core.List.{List}
use Prim.Native.Nat.{ℕ, ◌+◌, ◌<◌, ◌≤◌, max}
use native.Mathlib.Omega.{arith}
use borrow.Author.Tests.{le-leb, lt-leb, eq-eqb, ne_eqb}
use lib.ListN.{length, set, replicate, length-set, length-replicate, get_or-replicate}
use lib.Seq.{get_or-set_same, get_or-set_other}
use Rattle.ranges.specs.Fold.{max_below}
use Rattle.ranges.proofs.Max.{max_more, max_each, max_least, max_same}
use Rattle.ranges.proofs.Order.{lt_or_le, eq_or_ne}
use Rattle.ranges.proofs.Tabulate.{length_tabulate, get_d_tabulate, tabulate_list}
use Rattle.records.specs.declared.Event.{Event}
use Rattle.event_log.specs.Model.{Workers, worker_count, event_of}
use Rattle.records.specs.Event.{is_receive}
use Rattle.lent.specs.Lent.{at}
use Rattle.causality.specs.Cut.{named_of, component, vector, lacks}
use Rattle.causality.specs.Inner.Row.{named_after, largest_after, named_row, noted}
use Rattle.causality.proofs.Components.{component_own, component_other, named_from}
use Rattle.causality.proofs.CutTest.{lacks_false}

noted_length : (e : Event) (words : List ℕ) → length (noted e words) ≡ length words
unfolding noted
noted_length e words = go (is_receive e)
  where
    go : (b : Bool) → length (cond b (set words e.peer (max (at words e.peer) e.send)) words) ≡ length words
    go true = simp length-set
    go false = refl

module _ (log : Workers) (i from : ℕ) where
  pub after_none : (v : ℕ) → largest_after log i from from v ≡ 0
  unfolding largest_after named_after
  after_none v =
      let zero' : max_below (named_after log i from v) from ≤ 0 = max_least (named_after log i from v) from 0 (λ k h. rw (lt-leb from k h) (omega arith)) in
      omega arith

  after_more : (k v : ℕ) → from ≤ k → largest_after log i from (k + 1) v ≡ max (largest_after log i from k v) (named_of log i v k)
  unfolding largest_after named_after
  after_more k v low = max_more (named_after log i from v) k ∙ rw (le-leb from k low)

  pub row_none : replicate (worker_count log) 0 ≡ named_row log i from from
  unfolding named_row
  row_none =
      tabulate_list (largest_after log i from from) (worker_count log) 0 (replicate (worker_count log) 0) (length-replicate (worker_count log) 0)
      (λ v h. get_or-replicate (worker_count log) v 0 0 h ∙ sym (after_none v))

  pub row_length : (k : ℕ) → length (named_row log i from k) ≡ worker_count log
  unfolding named_row
  row_length k = length_tabulate (largest_after log i from k) (worker_count log)

  pub row_at : (k v : ℕ) → v < worker_count log → at (named_row log i from k) v ≡ largest_after log i from k v
  unfolding named_row
  row_at k v h = get_d_tabulate (largest_after log i from k) (worker_count log) v 0 h

  -- one event more
  module _ (k : ℕ) (low : from ≤ k) where
    noted_at : (v : ℕ) → v < worker_count log → at (noted (event_of log i (k + 1)) (named_row log i from k)) v ≡ largest_after log i from (k + 1) v
    unfolding noted named_of
    noted_at v h = go (is_receive (event_of log i (k + 1))) refl
      where
        go : (b : Bool) → is_receive (event_of log i (k + 1)) ≡ b → at (noted (event_of log i (k + 1)) (named_row log i from k)) v ≡ largest_after log i from (k + 1) v
        go true q =
            ⊎_elim
            (λ same.
            let found = get_or-set_same (named_row log i from k) v (max (at (named_row log i from k) v) (event_of log i (k + 1)).send) 0 (rw (row_length k) h) in
            rw (after_more k v low, q, eq-eqb _ _ (sym same), ← same, found, row_at k v h))
            (λ other.
            let found = get_or-set_other (named_row log i from k) (event_of log i (k + 1)).peer v (max (at (named_row log i from k) (event_of log i (k + 1)).peer) (event_of log i (k + 1)).send) 0 other in
            rw (after_more k v low, q, ne_eqb (event_of log i (k + 1)).peer v (λ p. other (sym p)), found, row_at k v h) (omega arith))
            (eq_or_ne v (event_of log i (k + 1)).peer)
        go false q = rw (after_more k v low, q, row_at k v h) (omega arith)

    pub row_more : noted (event_of log i (k + 1)) (named_row log i from k) ≡ named_row log i from (k + 1)
    unfolding named_row
    row_more =
        tabulate_list (largest_after log i from (k + 1)) (worker_count log) 0 (noted (event_of log i (k + 1)) (named_row log i from k))
        (noted_length (event_of log i (k + 1)) (named_row log i from k) ∙ row_length k) noted_at

-- the component of another worker, split at an earlier event
module _ (log : Workers) (i from e u : ℕ) (other : u ≢ i) where
  pub after_within : largest_after log i from e u ≤ component log i e u
  unfolding largest_after named_after
  after_within =
      rw (component_other log i e u other)
      (max_least (named_after log i from u) e (max_below (named_of log i u) e)
      (λ k h. ⊎_elim (λ l. rw (lt-leb from k l) (omega arith)) (λ l. rw (le-leb from k l) (max_each (named_of log i u) e k h)) (lt_or_le k from)))

  pub component_split : (b : ℕ) → component log i from u ≤ b → largest_after log i from e u ≤ b → component log i e u ≤ b
  unfolding largest_after named_after
  component_split b early late =
      rw (component_other log i e u other)
      (max_least (named_of log i u) e b
      (λ k h.
      ⊎_elim
      (λ l. let each = max_each (named_of log i u) from k l in let c = component_other log i from u other in omega arith)
      (λ l. let each = max_each (named_after log i from u) e k h in let same : named_after log i from u k ≡ named_of log i u k = rw (le-leb from k l) in omega arith)
      (lt_or_le k from)))

-- events whose sends are within the cut name nothing above it
pub after_covered : (log : Workers) (cut : List ℕ) (i from e u : ℕ) → ((k : ℕ) → from ≤ k → k < e → lacks log cut i k ≡ false) → largest_after log i from e u ≤ at cut u
unfolding largest_after named_after
after_covered log cut i from e u none =
    max_least (named_after log i from u) e (at cut u)
    (λ k h. ⊎_elim (λ l. rw (lt-leb from k l) (omega arith)) (λ l. rw (le-leb from k l) (covered k h l)) (lt_or_le k from))
  where
    covered : (k : ℕ) → k < e → from ≤ k → named_of log i u k ≤ at cut u
    covered k h low =
        ⊎_elim
        (λ above.
        let by = named_from log i e u k h (omega arith) in
        let within = rw (by.send, by.peer) at ((lacks_false log cut i k).0 (none k low h) by.receive) in
        within)
        (λ l. l)
        (lt_or_le (at cut u) (named_of log i u k))

module _ (log : Workers) (i e : ℕ) where
  -- the component of another worker, where no event is passed over
  after_all : (v : ℕ) → v ≢ i → largest_after log i 0 e v ≡ component log i e v
  unfolding largest_after named_after
  after_all v other = max_same (named_after log i 0 v) (named_of log i v) e (λ k h. rw (le-leb 0 k (omega arith))) ∙ sym (component_other log i e v other)

  vector_at : (v : ℕ) → v < worker_count log → i < worker_count log → at (set (named_row log i 0 e) i e) v ≡ component log i e v
  vector_at v h l =
      ⊎_elim
      (λ same. rw same (get_or-set_same (named_row log i 0 e) i e 0 (rw (row_length log i 0 e) l) ∙ sym (component_own log i e)))
      (λ other. get_or-set_other (named_row log i 0 e) i v e 0 other ∙ row_at log i 0 e v h ∙ after_all v other)
      (eq_or_ne v i)

  -- the vector: the row, with the event itself as component i
  pub row_vector : i < worker_count log → set (named_row log i 0 e) i e ≡ vector log i e
  unfolding vector
  row_vector l =
      tabulate_list (component log i e) (worker_count log) 0 (set (named_row log i 0 e) i e) (simp length-set (row_length log i 0 e)) (λ v h. vector_at v h l)

  pub vector_length : length (vector log i e) ≡ worker_count log
  unfolding vector
  vector_length = length_tabulate (component log i e) (worker_count log)
