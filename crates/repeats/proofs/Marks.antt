-- The bits that a pass over the receives marks: a receive finds its own bit marked exactly where it receives again what an event before it
-- received. Assumes nothing.
use mathlib.Core.Path.{◌≡◌, refl, sym, ◌∙◌}
use mathlib.Core.Bool.{Bool, true, false, cond, ◌&&◌, ◌||◌, false≢true, or-false, or_assoc, or-true, and-false, and-true}
use mathlib.Core.Logic.{⊎_elim, ◌≢◌}
use mathlib.Core.List.{List}
use Prim.Native.Nat.{ℕ, ◌+◌, ◌-◌, ◌<◌, max}
use native.Mathlib.Omega.{arith}
use borrow.Author.Tests.{eq-eqb, ne_eqb, eqb-true, leb-true, ltb-true, le-leb, lt-ltb}
use lib.Dec.{eqb, leb, ltb}
use lib.ListN.{replicate}
use Rattle.ranges.specs.Fold.{any_below}
use Rattle.ranges.proofs.Any.{any_none, any_next, any_found, any_some}
use Rattle.ranges.proofs.Bools.{and_true_left, and_true_right, or_true_cases, never_true, both_ways}
use Rattle.ranges.proofs.Order.{eq_or_ne}
use Rattle.records.specs.declared.Event.{Event}
use Rattle.event_log.specs.Model.{Workers, event_count, event_of}
use Rattle.records.specs.Event.{is_receive, received}
use Rattle.repeats.specs.Inner.Again.{Messages, again}
use Rattle.repeats.specs.Inner.Table.{table_bits, bit_at, marked, place_of, has_bit, table_after, found_marked, receives_place, worker_receives, received_before, Marks, again_within}
use Rattle.repeats.proofs.Again.{Same, again_from, again_by, one_worker}
use Rattle.repeats.proofs.Bits.{bit_none, marked_bit, marked_length}
use Rattle.repeats.proofs.Places.{received_one, received_none, received_small, place_same, place_of_same}

module _ (log : Workers) (low : ℕ) where
  -- no bit is marked
  pub marks_none : (n : ℕ) → Marks log low 0 0 (replicate {A = ℕ} n 0)
  unfolding received_before
  marks_none n =
      record {
        each = λ i h. rw (bit_none n i, any_none (worker_receives log (low + i)), any_none (receives_place log (low + i) 0));
      }

  -- all events of a worker are passed
  pub marks_worker : (w : ℕ) (table : List ℕ) → Marks log low w (event_count log w) table → Marks log low (w + 1) 0 table
  unfolding received_before worker_receives
  marks_worker w table marks =
      record {
        each = λ i h.
            marks.each i h
            ∙ rw (any_next (worker_receives log (low + i)) w, any_none (receives_place log (low + i) (w + 1)), or-false);
      }

  -- one event more
  module _ (w k : ℕ) (table : List ℕ) (marks : Marks log low w k table) where
    abbrev e : Event
    e = event_of log w (k + 1)

    before_next : (p : ℕ) → received_before log p w (k + 1) ≡ (received_before log p w k || receives_place log p w k)
    unfolding received_before
    before_next p = rw (any_next (receives_place log p w) k) (sym (or_assoc (any_below (worker_receives log p) w) (any_below (receives_place log p w) k) (receives_place log p w k)))

    -- an event with another number
    other_place : (p : ℕ) → place_of log e ≢ p → received_before log p w (k + 1) ≡ received_before log p w k
    unfolding receives_place
    other_place p other = before_next p ∙ rw (ne_eqb (place_of log e) p other, and-false, or-false)

    -- its number has no bit in the table
    module _ (outside : (i : ℕ) → i < table_bits table → place_of log e ≢ low + i) where
      marks_skipped : Marks log low w (k + 1) table
      marks_skipped = record { each = λ i h. marks.each i h ∙ rw (other_place (low + i) (outside i h)) }

      skipped_answer : again_within log low (low + table_bits table) w k ≡ false
      unfolding again_within
      skipped_answer =
          never_true _
          (λ f.
          let place = place_of log e in
          let above = leb low place in
          let below = ltb place (low + table_bits table) in
          let range = and_true_right (again log w k) (above && below) f in
          let least = leb-true low place (and_true_left above below range) in
          let less = ltb-true place (low + table_bits table) (and_true_right above below range) in
          outside (place - low) (omega arith) (omega arith))

    -- it has bit i
    module _ (i : ℕ) (within : i < table_bits table) (here : place_of log e ≡ low + i) where
      one_bit : (before receive : Bool) (x : ℕ) → x ≡ cond receive 1 0 → max (cond before 1 0) x ≡ cond (before || receive) 1 0
      one_bit true true x q = omega arith
      one_bit true false x q = omega arith
      one_bit false true x q = omega arith
      one_bit false false x q = omega arith

      marks_marked : Marks log low w (k + 1) (marked table i (received e))
      unfolding receives_place received
      marks_marked = record { each = each }
        where
          small : received e < 2
          small = received_small e

          each : (j : ℕ) → j < table_bits (marked table i (received e)) → bit_at (marked table i (received e)) j ≡ cond (received_before log (low + j) w (k + 1)) 1 0
          each j h =
              let long = marked_length table i (received e) in
              let inside : j < table_bits table = omega arith in
              marked_bit table i (received e) within small j
              ∙ ⊎_elim
              (λ (same : i ≡ j).
              rw (eq-eqb i j same, marks.each j inside, before_next (low + j), eq-eqb (place_of log e) (low + j) (rw (here, same)), and-true)
              (one_bit (received_before log (low + j) w k) (is_receive e) (received e) refl))
              (λ (other : i ≢ j).
              rw (ne_eqb i j other, marks.each j inside, other_place (low + j) (λ q. let no : ⊥ = omega (arith, other) in no)))
              (eq_or_ne i j)

      module _ (messages : Messages log) where
        -- where it is a receive, its bit was marked before exactly where it receives again
        before_again : is_receive e ≡ true → received_before log (low + i) w k ≡ again log w k
        unfolding received_before worker_receives receives_place
        before_again r = both_ways _ _ there back
          where
            -- an event that receives the number of e
            same_from : (v l : ℕ) → (is_receive (event_of log v (l + 1)) && eqb (place_of log (event_of log v (l + 1))) (low + i)) ≡ true → Same (event_of log v (l + 1)) e
            same_from v l f =
                let receive = is_receive (event_of log v (l + 1)) in
                let equal = eqb (place_of log (event_of log v (l + 1))) (low + i) in
                place_same log messages v l w k (and_true_left receive equal f) r (eqb-true _ _ (and_true_right receive equal f) ∙ sym here)

            there : received_before log (low + i) w k ≡ true → again log w k ≡ true
            there f =
                ⊎_elim
                (λ others.
                let worker = any_some (worker_receives log (low + i)) w others in
                let event = any_some (receives_place log (low + i) worker.0) (event_count log worker.0) worker.2 in
                let one = one_worker log messages worker.0 event.0 w k (same_from worker.0 event.0 event.2) in
                let less = worker.1 in
                let no : ⊥ = omega arith in
                absurd no)
                (λ own.
                let event = any_some (receives_place log (low + i) w) k own in
                again_from log w event.0 k event.1 (same_from w event.0 event.2))
                (or_true_cases (any_below (worker_receives log (low + i)) w) (any_below (receives_place log (low + i) w) k) f)

            back : again log w k ≡ true → received_before log (low + i) w k ≡ true
            back f =
                let found = again_by log w k f in
                let same = found.2 in
                let place = place_of_same log messages w found.0 w k same in
                rw (any_found (receives_place log (low + i) w) k found.0 found.1 (rw (same.first, eq-eqb _ _ (place ∙ here))), or-true)

        marked_answer : eqb (bit_at table i + received e) 2 ≡ again_within log low (low + table_bits table) w k
        unfolding again_within
        marked_answer =
            rw (marks.each i within, here, le-leb low (low + i) (omega arith), lt-ltb (low + i) (low + table_bits table) (omega arith), and-true) (go (is_receive e) refl)
          where
            again_none : is_receive e ≡ false → again log w k ≡ false
            again_none none = never_true _ (λ f. false≢true (sym none ∙ (again_by log w k f).2.second))

            read : (b : Bool) → eqb (cond b 1 0 + 1) 2 ≡ b
            read true = refl
            read false = refl

            unread : (b : Bool) → eqb (cond b 1 0 + 0) 2 ≡ false
            unread true = refl
            unread false = refl

            go : (b : Bool) → is_receive e ≡ b → eqb (cond (received_before log (low + i) w k) 1 0 + received e) 2 ≡ again log w k
            go true r = rw (received_one e r) (read (received_before log (low + i) w k) ∙ before_again r)
            go false r = rw (received_none e r) (unread (received_before log (low + i) w k) ∙ sym (again_none r))

    -- its bit is marked, where it has one
    module _ (messages : Messages log) where
      bit : has_bit log low e table ≡ true → (place_of log e - low < table_bits table) × (place_of log e ≡ low + (place_of log e - low))
      unfolding has_bit
      bit f =
          let above = leb low (place_of log e) in
          let below = ltb (place_of log e) (low + table_bits table) in
          let least = leb-true low (place_of log e) (and_true_left above below f) in
          let less = ltb-true (place_of log e) (low + table_bits table) (and_true_right above below f) in
          (omega arith, omega arith)

      no_bit : has_bit log low e table ≡ false → (i : ℕ) → i < table_bits table → place_of log e ≢ low + i
      unfolding has_bit
      no_bit f i h q = false≢true (sym f ∙ rw (q, le-leb low (low + i) (omega arith), lt-ltb (low + i) (low + table_bits table) (omega arith)))

      pub marks_more : Marks log low w (k + 1) (table_after log low e table)
      unfolding table_after
      marks_more = go (has_bit log low e table) refl
        where
          go : (b : Bool) → has_bit log low e table ≡ b → Marks log low w (k + 1) (cond b (marked table (place_of log e - low) (received e)) table)
          go true f = marks_marked (place_of log e - low) (bit f).0 (bit f).1
          go false f = marks_skipped (no_bit f)

      pub found_again : found_marked log low e table ≡ again_within log low (low + table_bits table) w k
      unfolding found_marked
      found_again = go (has_bit log low e table) refl
        where
          go : (b : Bool) → has_bit log low e table ≡ b → (b && eqb (bit_at table (place_of log e - low) + received e) 2) ≡ again_within log low (low + table_bits table) w k
          go true f = marked_answer (place_of log e - low) (bit f).0 (bit f).1 messages
          go false f = sym (skipped_answer (no_bit f))
