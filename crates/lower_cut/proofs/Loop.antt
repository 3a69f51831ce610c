-- What the loop of a visit keeps: the turns made, those copied from its row, and whether the row is still its own.
-- Assumes nothing.
use mathlib.Core.Path.{◌≡◌, refl, sym, ◌∙◌}
use mathlib.Core.Bool.{Bool, true, false, cond, not, false≢true}
use mathlib.Core.Logic.{◌⊎◌, inl, inr, ⊎_elim, ◌≢◌}
use mathlib.Core.List.{List, ◌++◌, append-nil}
use Prim.Native.Nat.{ℕ, ◌+◌, ◌-◌, ◌*◌, ◌<◌, ◌≤◌}
use native.Mathlib.Omega.{arith}
use borrow.Author.Tests.{eq-eqb, eqb-true, lt-ltb, le-ltb, not-false}
use lib.Dec.{eqb}
use lib.ListN.{length, take, drop, length-append, length-drop, drop_of_length-le}
use lib.Seq.{take_at, take_all, length-take-le}
use Rattle.ranges.proofs.Bools.{or_false_left, or_false_right}
use Rattle.ranges.proofs.Order.{lt_or_le}
use Rattle.ranges.proofs.Sweep.{sweep_none}
use Rattle.event_log.specs.Model.{Workers, worker_count}
use Rattle.accept.specs.WellFormed.{WellFormed}
use Rattle.lent.specs.Lent.{at}
use Rattle.causality.specs.Inner.Row.{largest_after, named_row}
use Rattle.causality.proofs.Row.{row_length, row_at}
use Rattle.lower_cut.specs.Figure2.{Found, stored, visit_at}
use Rattle.lower_cut.specs.Inner.Turns.{turns_at_once, NextTurns, rows_below, stale_after}
use Rattle.lower_cut.specs.Inner.Visiting.{Visiting}
use Rattle.lower_cut.proofs.Recursion.{grown_set, visit_at_grows}
use Rattle.lower_cut.proofs.Turns.{Turning, turning_room, idle, idle_to, turned}
use Rattle.lower_cut.proofs.Copied.{Copied, copied_new, copied_grown, copied_event, copied_bound, copied_low, copied_idle, copied_next}

-- ---- the rows
module _ (lent n below : ℕ) (enough : n ≤ lent) (is : below ≡ rows_below lent n) where
  -- the visits below have the visit's own row, or the rows behind it
  below_cases : (below ≡ 0) ⊎ ((below ≡ n) × (2 * n ≤ lent))
  unfolding rows_below
  below_cases =
      ⊎_elim (λ l. inl (is ∙ rw (lt-ltb lent (2 * n) l))) (λ l. inr (is ∙ rw (le-ltb lent (2 * n) l), l)) (lt_or_le lent (2 * n))

  -- they have a row or more
  below_enough : below + n ≤ lent
  below_enough = ⊎_elim (λ q. omega arith) (λ c. omega (arith, c.0, c.1)) below_cases

-- a visit's row after a visit below: it is the one that it was, unless it is stale
row_kept : (rows rest row : List ℕ) (n below : ℕ) (stale : Bool) (before after : ℕ) → n ≤ length rows → below ≡ rows_below (length rows) n
    → (stale ≡ false → take n rows ≡ row) → (after ≡ before + 1 → rest ≡ drop below rows) → stale_after stale below before after ≡ false → take n (take below rows ++ rest) ≡ row
unfolding stale_after
row_kept rows rest row n below stale before after enough is kept same fresh =
    let changed = cond (eqb below 0) (not (eqb after (before + 1))) false in
    let was = kept (or_false_left stale changed fresh) in
    let none = or_false_right stale changed fresh in
    ⊎_elim
    (λ q. let whole = same (eqb-true after (before + 1) (not-false (eqb after (before + 1)) (rw (eq-eqb below 0 q) at none))) in rw (whole, q) was)
    (λ c. rw c.0 (take_at (take n rows) rest n (length-take-le n rows enough) ∙ was))
    (below_cases (length rows) n below enough is)

-- ---- the loops: t is the state after the turns of v of the n workers, and turn j of those copied is the next one
pub record Going (log : Workers) (i first e : ℕ) (cut rows₀ : List ℕ) (visits n below : ℕ) (t : Found) (rows workers events : List ℕ) (stale : Bool) (j v : ℕ) : Type 0 where
  pub turning : Turning log i first e cut visits n t v
  pub within : first ≤ e
  pub copied : j < turns_at_once → Copied (named_row log i first e) t.cut workers events v j
  pub row : stale ≡ false → take n rows ≡ named_row log i first e
  pub long : length rows ≡ length rows₀
  pub enough : n ≤ length rows₀
  pub rest : below ≡ rows_below (length rows₀) n

-- no turn is copied yet, and the row is stale
pub going_new : {log : Workers} {i first e : ℕ} {cut rows : List ℕ} {visits n below : ℕ} {workers events : List ℕ} → WellFormed log
    → Visiting log i first e cut visits → first ≤ e → n ≡ worker_count log → n ≤ length rows → below ≡ rows_below (length rows) n
    → Going log i first e cut rows visits n below (record { cut = cut; visits = visits + 1 }) rows workers events true turns_at_once 0
going_new ok pre within size enough rest =
    record {
      turning = record { ok = ok; pre = pre; size = size; few = omega arith; now = sym (sweep_none _ _) };
      within = within;
      copied = λ l. let no : ⊥ = omega arith in absurd no;
      row = λ q. absurd (false≢true (sym q));
      long = refl;
      enough = enough;
      rest = rest;
    }

module _ {log : Workers} {i first e : ℕ} {cut rows₀ : List ℕ} {visits n below : ℕ} {t : Found} {rows workers events : List ℕ} {stale : Bool} {j v : ℕ}
    (s : Going log i first e cut rows₀ visits n below t rows workers events stale j v) where
  named_long : length (named_row log i first e) ≡ n
  named_long = row_length log i first e ∙ sym s.turning.size

  -- the visits below have a row or more
  pub going_rest : below + n ≤ length rows
  going_rest = rw s.long (below_enough (length rows₀) n below s.enough s.rest)

  -- a row that is filled is the first part of the rows
  module _ {row : List ℕ} (filled : row ≡ named_row log i first e) where
    going_row : take n (row ++ drop n rows) ≡ named_row log i first e
    going_row = rw filled (take_at (named_row log i first e) (drop n rows) n named_long)

    rows_long : length (row ++ drop n rows) ≡ length rows₀
    rows_long = rw filled (length-append (named_row log i first e) (drop n rows) ∙ rw (length-drop) (omega (arith, named_long, s.long, s.enough)))

    -- the next turns are copied from it
    pub going_copied : {next up_to : List ℕ} → NextTurns t.cut (take n (row ++ drop n rows)) v next up_to
        → Going log i first e cut rows₀ visits n below t (row ++ drop n rows) next up_to false 0 v
    going_copied are =
        record {
          turning = s.turning;
          within = s.within;
          copied = λ l. copied_new (rw going_row at are);
          row = λ q. going_row;
          long = rows_long;
          enough = s.enough;
          rest = s.rest;
        }

  -- turn j is made
  module _ (l : j < turns_at_once) where
    abbrev w : ℕ
    w = at workers j

    abbrev d : ℕ
    d = at events j

    next : Copied (named_row log i first e) t.cut workers events v j
    next = s.copied l

    low_row : v ≤ length (named_row log i first e)
    low_row = rw named_long s.turning.few

    pub going_bound : w ≤ n
    going_bound = rw (← named_long) (copied_bound next l low_row)

    pub going_low : v ≤ w
    going_low = copied_low next l low_row

    row_of : (u : ℕ) → u < n → at (named_row log i first e) u ≡ largest_after log i first e u
    row_of u inside = row_at log i first e u (rw (← s.turning.size) inside)

    -- the workers before w have had their turns
    pub going_to : Turning log i first e cut visits n t w
    going_to =
        idle_to s.turning w going_low going_bound
        (λ u low high. let idle_row = copied_idle next l low_row u low high in rw (← row_of u (omega (arith, going_bound))) idle_row)

    -- w is a worker
    module _ (other : w ≢ n) where
      pub going_inside : w < n
      going_inside = omega (arith, going_bound, other)

      pub going_room : w < length t.cut
      going_room = turning_room going_to going_inside

      pub going_named : d ≡ largest_after log i first e w
      going_named = copied_event next l low_row (rw named_long going_inside) ∙ row_of w going_inside

      pub going_idle : d ≤ at t.cut w → Going log i first e cut rows₀ visits n below t rows workers events stale (j + 1) (w + 1)
      going_idle within_cut =
          record {
            turning = idle going_to going_inside (rw (← going_named) within_cut);
            within = s.within;
            copied = λ _. copied_next next l low_row;
            row = s.row;
            long = s.long;
            enough = s.enough;
            rest = s.rest;
          }

      pub going_turned : at t.cut w < d → {t' : Found} → t' ≡ visit_at log w d (stored t w d) → {rest : List ℕ} {fresh : Bool}
          → length rest ≡ length (take (length rows - below) (drop below rows)) → (t'.visits ≡ t.visits + 1 → rest ≡ take (length rows - below) (drop below rows))
          → fresh ≡ stale_after stale below t.visits t'.visits
          → Going log i first e cut rows₀ visits n below t' (take below rows ++ (rest ++ drop (length rows - below) (drop below rows))) workers events fresh (j + 1) (w + 1)
      going_turned above {t'} found {rest} {fresh} same kept is =
          record {
            turning = turned going_to going_inside d going_named above found;
            within = s.within;
            copied = λ _. copied_grown (copied_next next l low_row) grows;
            row = λ q. rw nothing (row_kept rows rest (named_row log i first e) n below stale t.visits t'.visits (rw s.long s.enough) (rw s.long s.rest) s.row (λ z. kept z ∙ all) (sym is ∙ q));
            long = rw (nothing, length-append (take below rows) rest, length-take-le below rows few_below, same, all, length-drop) (omega (arith, few_below, s.long));
            enough = s.enough;
            rest = s.rest;
          }
        where
          few_below : below ≤ length rows
          few_below = omega (arith, going_rest)

          all : take (length rows - below) (drop below rows) ≡ drop below rows
          all = take_all (length rows - below) (drop below rows) (rw length-drop (omega arith))

          nothing : rest ++ drop (length rows - below) (drop below rows) ≡ rest
          nothing =
              let past : length (drop below rows) ≤ length rows - below = rw length-drop (omega arith) in
              rw (drop_of_length-le (drop below rows) past) (append-nil rest)

          grows : (u : ℕ) → at t.cut u ≤ at t'.cut u
          grows u =
              let raised = (grown_set t.cut w d (omega arith)).grows u in
              let later = (visit_at_grows log w d (stored t w d)).grows u in
              rw found (omega arith)
