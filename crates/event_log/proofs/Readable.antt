-- What the tests 1 to 6 give: a log with `layout_refusal s ≡ 0` has its header and its sections within its bytes. And
-- what refuses bytes that 1 does not refuse.
-- Assumes nothing.
use mathlib.Core.Path.{◌≡◌, ◌∙◌}
use mathlib.Core.Bool.{true, false, not, ◌||◌}
use mathlib.Core.List.{List}
use Prim.Native.Nat.{ℕ, ◌+◌, ◌*◌, ◌<◌, ◌≤◌}
use native.Mathlib.Omega.{arith}
use borrow.Author.Tests.{ltb-false, le-ltb, eqb-false, not-false}
use lib.Dec.{ltb, eqb}
use lib.ListN.{length}
use Rattle.ranges.proofs.Any.{any_each}
use Rattle.lent.proofs.Lent.{peel}
use Rattle.ranges.proofs.Bools.{or_false_left, or_false_right}
use Rattle.event_log.specs.Limits.{min_length, max_length, max_workers, max_events, max_checkpoints, max_role}
use Rattle.records.specs.Forms.{is_form}
use Rattle.event_log.specs.Layout.{form_field, size_field, length_field, header_of, field, event_count_field, event_offset_field, checkpoint_count_field, checkpoint_offset_field, role_field}
use Rattle.records.specs.Event.{event_size}
use Rattle.records.specs.Checkpoint.{checkpoint_size}
use Rattle.event_log.specs.Header.{length_fault, form_fault, size_fault, header_fault, limit_fault, outside, section_fault, entry_fault, some_entry, entries_refusal}
use Rattle.event_log.specs.Header.{header_refusal, layout_refusal}

-- the header's entry of a worker is within the limits, and its sections are within the log
pub record Entry (s : List ℕ) (w : ℕ) : Type 0 where
  pub events : field s w event_count_field ≤ max_events
  pub checkpoints : field s w checkpoint_count_field ≤ max_checkpoints
  pub role : field s w role_field ≤ max_role
  pub events_end : field s w event_offset_field + event_size * field s w event_count_field ≤ length s
  pub checkpoints_end : field s w checkpoint_offset_field + checkpoint_size * field s w checkpoint_count_field ≤ length s

pub record Readable (s : List ℕ) : Type 0 where
  pub form : is_form (form_field s) ≡ true
  pub long : 8 ≤ length s
  pub short : length s ≤ max_length
  pub some : 1 ≤ size_field s
  pub few : size_field s ≤ max_workers
  pub header : header_of (size_field s) ≤ length s
  pub entry : (w : ℕ) → w < size_field s → Entry s w

module _ (s : List ℕ) where
  within : (start bytes : ℕ) → outside s start bytes ≡ false → start + bytes ≤ length s
  unfolding outside
  within start bytes e = ltb-false _ _ (or_false_right (ltb start (header_of (size_field s))) (ltb (length s) (start + bytes)) e)

  entry_of : (w : ℕ) → entry_fault 5 s w ≡ false → entry_fault 6 s w ≡ false → Entry s w
  unfolding entry_fault limit_fault section_fault
  entry_of w five six =
      let events = ltb max_events (field s w event_count_field) in
      let checkpoints = ltb max_checkpoints (field s w checkpoint_count_field) in
      let role = ltb max_role (field s w role_field) in
      let first = outside s (field s w event_offset_field) (event_size * field s w event_count_field) in
      let second = outside s (field s w checkpoint_offset_field) (checkpoint_size * field s w checkpoint_count_field) in
      let counts = or_false_left (events || checkpoints) role five in
      record {
        events = ltb-false _ _ (or_false_left events checkpoints counts);
        checkpoints = ltb-false _ _ (or_false_right events checkpoints counts);
        role = ltb-false _ _ (or_false_right (events || checkpoints) role five);
        events_end = within _ _ (or_false_left first second six);
        checkpoints_end = within _ _ (or_false_right first second six);
      }

  pub readable : layout_refusal s ≡ 0 → Readable s
  unfolding layout_refusal length_fault form_fault size_fault header_fault entries_refusal some_entry
  readable e =
      let one = peel (length_fault s) 0 _ e in
      let two = peel (form_fault s) 1 _ one.1 in
      let three = peel (size_fault s) 2 _ two.1 in
      let four = peel (header_fault s) 3 _ three.1 in
      let five = peel (some_entry 5 s) 4 _ four.1 in
      let six = peel (some_entry 6 s) 5 _ five.1 in
      let under = ltb (length s) min_length in
      let over_count = ltb max_length (length s) in
      let none = eqb (size_field s) 0 in
      let many = ltb max_workers (size_field s) in
      let positive = eqb-false (size_field s) 0 (or_false_left none many three.0) in
      record {
        form = not-false (is_form (form_field s)) two.0;
        long = ltb-false _ _ (or_false_left under over_count one.0);
        short = ltb-false _ _ (or_false_right under over_count one.0);
        some = omega (arith, positive);
        few = ltb-false _ _ (or_false_right none many three.0);
        header = ltb-false _ _ (or_false_right (not (eqb (length_field s) (length s))) (ltb (length s) (header_of (size_field s))) four.0);
        entry = λ w h. entry_of w (any_each (entry_fault 5 s) (size_field s) five.0 w h) (any_each (entry_fault 6 s) (size_field s) six.0 w h);
      }

  -- ---- bytes that 1 does not refuse
  module _ (long : min_length ≤ length s) (short : length s ≤ max_length) where
    pub length_passed : layout_refusal s ≡ header_refusal s
    unfolding layout_refusal length_fault
    length_passed = rw (le-ltb (length s) min_length long, le-ltb max_length (length s) short)

    -- .. and whose form is none of the forms
    pub form_refused : is_form (form_field s) ≡ false → layout_refusal s ≡ 2
    unfolding form_fault
    form_refused none = length_passed ∙ rw none
