-- The units of a worker's replayed events, from the sum of their counts.
-- Assumes nothing.
use mathlib.Core.Path.{◌≡◌, refl, sym, ◌∙◌}
use mathlib.Core.List.{List}
use Prim.Native.Nat.{ℕ, ◌+◌, ◌-◌, ◌*◌, ◌/◌, ◌%◌, ◌<◌, ◌≤◌}
use native.Mathlib.Nat.{suc-mul}
use native.Mathlib.Numerals.{add-one}
use native.Mathlib.Omega.{arith}
use borrow.Author.Tests.{le-leb, lt-leb}
use Rattle.ranges.specs.Fold.{sum_below}
use Rattle.ranges.proofs.Sum.{sum_more, sum_bound}
use Rattle.records.specs.declared.Kind.{Kind}
use Rattle.records.specs.declared.Kind.TheVariants.{Send, Unlogged, Logged, Rest}
use Rattle.records.specs.declared.Event.{Event}
use Rattle.event_log.specs.Layout.{workers_of}
use Rattle.event_log.specs.Model.{Workers, worker_count, event_count, role_of, event_of}
use Rattle.event_log.specs.Limits.{max_events}
use Rattle.accept.specs.Refusal.{log_refusal}
use Rattle.accept.specs.WellFormed.{WellFormed}
use Rattle.accept.proofs.Accepted.{well_formed, known_kind}
use Rattle.lent.specs.Lent.{at}
use Rattle.unit_table.specs.Table.{Table}
use Rattle.cost.specs.Words.{cut_in, start_in, cuts_in, starts_in}
use Rattle.cost.specs.Cost.{event_units, worker_units}
use Rattle.cost.specs.Inner.Held.{IsHeld}
use Rattle.cost.specs.Inner.Counted.{logged_one, counted_as, counted_units}
use Rattle.cost.proofs.Held.{cuts_at, starts_in_at, held_worker}

module _ (table : Table) (log : Workers) (starts : List ℕ) (w : ℕ) where
  -- events up to the start add nothing
  units_none : sum_below (event_units table log starts w) (at starts w) ≡ 0
  unfolding event_units
  units_none =
      let all = sum_bound (event_units table log starts w) (at starts w) 0 (λ k h. rw (lt-leb (at starts w) k h) (omega arith)) in
      omega arith

  -- an event after the start adds its units
  units_more : (k : ℕ) (kind : Kind) → at starts w ≤ k → (event_of log w (k + 1)).kind ≡ kind
      → sum_below (event_units table log starts w) (k + 1) ≡ sum_below (event_units table log starts w) k + table (role_of log w) kind
  unfolding event_units
  units_more k kind h q = rw (sum_more (event_units table log starts w) k, le-leb (at starts w) k h, q)

-- after k events of worker w
pub record Counted (table : Table) (log : Workers) (starts : List ℕ) (w k counts : ℕ) : Type 0 where
  pub sends : ℕ
  pub unlogged : ℕ
  pub logged : ℕ
  pub all : k ≡ at starts w + (sends + unlogged + logged)
  pub together : counts ≡ unlogged + logged_one * logged
  pub units : sum_below (event_units table log starts w) k
      ≡ sends * table (role_of log w) Send + unlogged * table (role_of log w) Unlogged + logged * table (role_of log w) Logged

more_times : (n t : ℕ) → (n + 1) * t ≡ n * t + t
more_times n t = rw (add-one n) (suc-mul n t)

module _ (table : Table) (log : Workers) (starts : List ℕ) (w : ℕ) where
  counted_none : Counted table log starts w (at starts w) 0
  counted_none = record { sends = 0; unlogged = 0; logged = 0; all = omega arith; together = refl; units = omega (arith, units_none table log starts w) }

  module _ (k counts : ℕ) (so : Counted table log starts w k counts) where
    module _ (few : k ≤ max_events) where
      -- the receives without their data are the remainder ..
      unlogged_are : counts % logged_one ≡ so.unlogged
      unlogged_are = omega (arith, so.all, so.together)

      -- .. and those with it the quotient
      logged_are : counts / logged_one ≡ so.logged
      logged_are = omega (arith, so.all, so.together)

      -- no more receives than events
      counted_few : counts % logged_one + counts / logged_one + at starts w ≤ k
      counted_few = omega (arith, so.all, unlogged_are, logged_are)

      -- the units of all that was counted
      counted_units_lem : sum_below (event_units table log starts w) k
          ≡ counted_units table (role_of log w) (k - at starts w) (counts % logged_one) (counts / logged_one)
      unfolding counted_units
      counted_units_lem =
          let sent : k - at starts w - (so.unlogged + so.logged) ≡ so.sends = omega (arith, so.all) in
          rw (unlogged_are, logged_are, sent) so.units

    module _ (e : Event) (q : e ≡ event_of log w (k + 1)) where
      units_of_lem : (kind : Kind) → e.kind ≡ kind
          → sum_below (event_units table log starts w) (k + 1) ≡ sum_below (event_units table log starts w) k + table (role_of log w) kind
      units_of_lem kind r = units_more table log starts w k kind (omega (arith, so.all)) (rw q at r)

      -- one event more
      counted_more : WellFormed log → k < event_count log w → Counted table log starts w (k + 1) (counts + counted_as e.kind)
      counted_more ok inside = go e.kind refl
        where
          go : (kind : Kind) → e.kind ≡ kind → Counted table log starts w (k + 1) (counts + counted_as kind)
          go Send r =
              record {
                sends = so.sends + 1;
                unlogged = so.unlogged;
                logged = so.logged;
                all = omega (arith, so.all);
                together = omega (arith, so.together);
                units = omega (arith, units_of_lem Send r, so.units, more_times so.sends (table (role_of log w) Send));
              }
          go Unlogged r =
              record {
                sends = so.sends;
                unlogged = so.unlogged + 1;
                logged = so.logged;
                all = omega (arith, so.all);
                together = omega (arith, so.together);
                units = omega (arith, units_of_lem Unlogged r, so.units, more_times so.unlogged (table (role_of log w) Unlogged));
              }
          go Logged r =
              record {
                sends = so.sends;
                unlogged = so.unlogged;
                logged = so.logged + 1;
                all = omega (arith, so.all);
                together = omega (arith, so.together);
                units = omega (arith, units_of_lem Logged r, so.units, more_times so.logged (table (role_of log w) Logged));
              }
          go Rest r = absurd (known_kind log ok w (k + 1) (omega arith) (omega arith) (rw q at r))

-- after k events of worker w from its start in plan words
abbrev pub CountedFrom : Table → List ℕ → List ℕ → ℕ → ℕ → ℕ → Type 0
CountedFrom table s words w k counts = Counted table (workers_of s) (starts_in (workers_of s) words) w k counts

-- by held words, whose start and cut of worker w were read
module _ (s words : List ℕ) (given : (log_refusal s ≡ 0) × IsHeld (workers_of s) words) (w : ℕ) (h : w < worker_count (workers_of s))
    {start cut : ℕ} (first : start ≡ start_in words w) (last : cut ≡ cut_in words w) where
  pub start_first : start ≤ cut
  start_first = omega (arith, (held_worker s words given w h).start)

  pub cut_few : cut ≤ max_events
  cut_few = omega (arith, (held_worker s words given w h).most)

  begins : at (starts_in (workers_of s) words) w ≡ start
  begins = starts_in_at (workers_of s) words w h ∙ sym first

  module _ {table : Table} where
    -- the count begins at the start ..
    pub count_begins : CountedFrom table s words w start 0
    count_begins = rw (← begins) (counted_none table (workers_of s) _ w)

    -- .. goes on by an event ..
    pub count_goes_on : {k counts more : ℕ} → CountedFrom table s words w k counts → k < cut → (e : Event) → e ≡ event_of (workers_of s) w (k + 1) → more ≡ counted_as e.kind
        → CountedFrom table s words w (k + 1) (counts + more)
    count_goes_on so l e read adds =
        rw adds (counted_more table (workers_of s) _ w _ _ so e read (well_formed s given.0) (omega (arith, (held_worker s words given w h).cut)))

    -- .. and ends at the cut
    module _ {k counts : ℕ} (so : CountedFrom table s words w k counts) (within : start ≤ cut → k ≤ cut) where
      pub counts_few : counts % logged_one + counts / logged_one ≤ cut - start
      counts_few = omega (arith, counted_few table (workers_of s) _ w _ _ so (omega (arith, cut_few, start_first)), begins, start_first)

      pub count_ends : cut ≤ k → {role : ℕ} → role ≡ role_of (workers_of s) w
          → counted_units table role (cut - start) (counts % logged_one) (counts / logged_one)
          ≡ worker_units table (workers_of s) (cuts_in (workers_of s) words) (starts_in (workers_of s) words) w
      unfolding worker_units
      count_ends end role =
          let all : k ≡ cut = omega (arith, start_first) in
          rw (role, cuts_at (workers_of s) words w h, ← last, ← all, ← begins)
          (sym (counted_units_lem table (workers_of s) _ w _ _ so (omega (arith, cut_few))))
