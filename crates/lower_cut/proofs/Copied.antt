-- Turns that are copied from a row: they stay the next turns while the cut grows. And the loop that copies them.
-- Assumes nothing.
use mathlib.Core.Path.{◌≡◌, refl, sym, ◌∙◌, ap}
use mathlib.Core.Logic.{⊎_elim, ◌≢◌}
use mathlib.Core.List.{List}
use Prim.Native.Nat.{ℕ, zero, suc, ◌+◌, ◌<◌, ◌≤◌}
use native.Mathlib.Nat.{eq-or-lt_of_le}
use native.Mathlib.Numerals.{add-one}
use native.Mathlib.Omega.{arith}
use borrow.Author.Tests.{ltb-false, lt-ltb, le-ltb}
use lib.ListN.{length, set, length-set}
use Rattle.ranges.specs.Fold.{first_from}
use Rattle.ranges.proofs.First.{first_from_lem, Looked, looked_none, looked_more, looked_found, looked_end}
use Rattle.ranges.proofs.Order.{lt_or_le}
use Rattle.ranges.proofs.Store.{set_cases}
use Rattle.lent.specs.Lent.{at}
use Rattle.causality.specs.Cut.{Within}
use Rattle.lower_cut.specs.Inner.Turns.{turns_at_once, is_above, turn_from, turn_of, NextTurns}

-- the turns from the j-th on are the next ones from worker v on, by a cut that has grown since
pub record Copied (row cut workers events : List ℕ) (v j : ℕ) : Type 0 where
  pub old : List ℕ
  pub first : ℕ
  pub since : Within old cut
  pub are : NextTurns old row first workers events
  pub place : v ≡ turn_from old row first j

pub copied_new : {row cut workers events : List ℕ} {v : ℕ} → NextTurns cut row v workers events → Copied row cut workers events v 0
unfolding turn_from
copied_new {cut} {v} are = record { old = cut; first = v; since = λ w. omega arith; are = are; place = refl }

module _ {row cut workers events : List ℕ} {v j : ℕ} (s : Copied row cut workers events v j) where
  pub copied_grown : {later : List ℕ} → Within cut later → Copied row later workers events v j
  copied_grown grows =
      record { old = s.old; first = s.first; since = λ w. omega (arith, s.since w, grows w); are = s.are; place = s.place }

  module _ (h : j < turns_at_once) (few : v ≤ length row) where
    abbrev w : ℕ
    w = at workers j

    is_turn : w ≡ turn_of s.old row s.first j
    is_turn = s.are.named j h (rw (← s.place) few)

    worker : w ≡ first_from (is_above s.old row) v (length row)
    unfolding turn_of
    worker = rw s.place is_turn

    -- what is copied with the worker
    pub copied_event : w < length row → at events j ≡ at row w
    copied_event inside = s.are.up_to j h (rw (← is_turn) inside) ∙ ap (at row) (sym is_turn)

    pub copied_bound : w ≤ length row
    copied_bound = rw worker (first_from_lem (is_above s.old row) v (length row)).bound

    -- the worker is not before v
    pub copied_low : v ≤ w
    copied_low =
        let f = first_from_lem (is_above s.old row) v (length row) in
        ⊎_elim (λ l. let low = (f.found l).0 in omega (arith, worker)) (λ l. omega (arith, worker)) (lt_or_le (first_from (is_above s.old row) v (length row)) (length row))

    -- of the workers before it nothing above the cut is named
    pub copied_idle : (u : ℕ) → v ≤ u → u < w → at row u ≤ at cut u
    unfolding is_above
    copied_idle u low high =
        let none = (first_from_lem (is_above s.old row) v (length row)).before u low (rw (← worker) high) in
        let l = ltb-false (at s.old u) (at row u) none in
        omega (arith, s.since u)

    -- the turn is made
    pub copied_next : Copied row cut workers events (w + 1) (j + 1)
    unfolding turn_from turn_of
    copied_next = record { old = s.old; first = s.first; since = s.since; are = s.are; place = rw (add-one, add-one) (ap suc is_turn) }

-- no turn is left: neither is a later one
module _ (cut row : List ℕ) (v : ℕ) where
  none_after : (j : ℕ) → turn_of cut row v j ≡ length row → (m : ℕ) → j ≤ m → turn_of cut row v m ≡ length row
  unfolding turn_of turn_from
  none_after j last zero low = let q : j ≡ 0 = omega arith in rw q at last
  none_after j last (suc m) low =
      ⊎_elim (λ q. rw q at last)
      (λ less.
      let before = none_after j last m (omega arith) in
      sym (looked_end (looked_none (is_above cut row) (suc (first_from (is_above cut row) (turn_from cut row v m) (length row)))) (length row) (omega (arith, before))))
      (eq-or-lt_of_le low)

  none_from : (j : ℕ) → turn_of cut row v j ≡ length row → (m : ℕ) → j < m → length row < turn_from cut row v m
  unfolding turn_of turn_from
  none_from j last zero less = let no : ⊥ = omega arith in absurd no
  none_from j last (suc m) less = let all = none_after j last m (omega arith) in omega arith

-- the loop that copies: j turns are copied, and of the workers from there up to w none is the next one
pub record Copying (cut row : List ℕ) (v : ℕ) (workers events : List ℕ) (j w : ℕ) : Type 0 where
  pub few : j ≤ turns_at_once
  pub workers_long : length workers ≡ turns_at_once
  pub events_long : length events ≡ turns_at_once
  pub named : (m : ℕ) → m < j → at workers m ≡ turn_of cut row v m
  pub up_to : (m : ℕ) → m < j → at events m ≡ at row (turn_of cut row v m)
  pub looked : Looked (is_above cut row) (turn_from cut row v j) w

pub copying_none : (cut row : List ℕ) (v : ℕ) (workers events : List ℕ) → length workers ≡ turns_at_once → length events ≡ turns_at_once → Copying cut row v workers events 0 v
unfolding turn_from
copying_none cut row v workers events a b =
    record {
      few = omega arith;
      workers_long = a;
      events_long = b;
      named = λ m h. let no : ⊥ = omega arith in absurd no;
      up_to = λ m h. let no : ⊥ = omega arith in absurd no;
      looked = looked_none (is_above cut row) v;
    }

-- one more element of a list that has f 0, .., f (j - 1)
stored_more : (f : ℕ → ℕ) (l : List ℕ) (j a : ℕ) → j < length l → ((m : ℕ) → m < j → at l m ≡ f m) → a ≡ f j → (m : ℕ) → m < j + 1 → at (set l j a) m ≡ f m
stored_more f l j a inside before here m h =
    ⊎_elim (λ c. rw (c.1, c.0) here) (λ c. c.1 ∙ before m (omega (arith, c.0))) (set_cases l j a 0 m inside)

module _ {cut row : List ℕ} {v : ℕ} {workers events : List ℕ} {j w : ℕ} (s : Copying cut row v workers events j w) where
  -- worker w is not above the cut ..
  pub copying_past : at row w ≤ at cut w → Copying cut row v workers events j (w + 1)
  unfolding is_above
  copying_past h =
      record {
        few = s.few;
        workers_long = s.workers_long;
        events_long = s.events_long;
        named = s.named;
        up_to = s.up_to;
        looked = looked_more s.looked (sym (le-ltb (at cut w) (at row w) h)) refl;
      }

  -- .. or is the next turn
  pub copying_more : w < length row → at cut w < at row w → j ≢ turns_at_once → Copying cut row v (set workers j w) (set events j (at row w)) (j + 1) (w + 1)
  unfolding is_above turn_from turn_of
  copying_more inside above left =
      let l : j < turns_at_once = omega (arith, s.few) in
      let is : w ≡ turn_of cut row v j = looked_found s.looked (length row) inside (sym (lt-ltb (at cut w) (at row w) above)) refl in
      record {
        few = omega arith;
        workers_long = simp length-set s.workers_long;
        events_long = simp length-set s.events_long;
        named = stored_more (turn_of cut row v) workers j w (omega (arith, s.workers_long)) s.named is;
        up_to = stored_more (λ m. at row (turn_of cut row v m)) events j (at row w) (omega (arith, s.events_long)) s.up_to (ap (at row) is);
        looked = rw (add-one, add-one, ← is) (looked_none (is_above cut row) (suc w));
      }

  -- no turn is left
  pub copying_stop : length row ≤ w → j ≢ turns_at_once → NextTurns cut row v (set workers j (length row)) events
  unfolding turn_of
  copying_stop past left =
      let last : length row ≡ turn_of cut row v j = looked_end s.looked (length row) past in
      let room : j < length workers = omega (arith, s.few, s.workers_long) in
      record {
        named = λ m h within.
            ⊎_elim (λ less. stored_more (turn_of cut row v) workers j (length row) room s.named last m less)
            (λ more. let beyond = none_from cut row v j (sym last) m (omega arith) in let no : ⊥ = omega arith in absurd no)
            (lt_or_le m (j + 1));
        up_to = λ m h inside.
            ⊎_elim (s.up_to m)
            (λ more. let end = none_after cut row v j (sym last) m more in let no : ⊥ = omega arith in absurd no)
            (lt_or_le m j);
      }
