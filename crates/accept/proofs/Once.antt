-- In an accepted log of form 2 each send is received at most once; a log that is given 24 is of form 2 and has two receives of one send.
-- Assumes nothing.
use mathlib.Core.Path.{◌≡◌, refl, sym, ◌∙◌}
use mathlib.Core.Bool.{Bool, true, false, cond, false≢true}
use mathlib.Core.Logic.{⊎_elim}
use mathlib.Core.List.{List}
use Prim.Native.Nat.{ℕ, ◌+◌, ◌-◌, ◌≤◌}
use native.Mathlib.Omega.{arith}
use borrow.Author.Tests.{eqb-true, eq-eqb}
use lib.Dec.{eqb}
use Rattle.ranges.proofs.Bools.{and_true_left, and_true_right, and_false_right}
use Rattle.ranges.proofs.Order.{eq_or_ne}
use Rattle.lent.specs.Lent.{or_else}
use Rattle.lent.proofs.Lent.{or_else_first, or_else_second}
use Rattle.records.specs.Forms.{second_form, receives_once}
use Rattle.event_log.specs.Header.{length_fault, form_fault, size_fault, header_fault, some_entry, entries_refusal, layout_refusal}
use Rattle.event_log.specs.Layout.{form_field, workers_of, log_of}
use Rattle.event_log.specs.Model.{Workers}
use Rattle.repeats.specs.Repeats.{some_repeat, repeat_fault, ReceivedOnce, ReceivedTwice}
use Rattle.repeats.proofs.Again.{repeat_pair, pair_repeats}
use Rattle.record_tests.specs.Records.{some_record}
use Rattle.accept.specs.Refusal.{events_refusal, records_refusal, content_refusal, log_refusal}
use Rattle.accept.proofs.Accepted.{receive_within, accepted_once}

-- ---- the test of repeats says what the words say
module _ (log : Workers) where
  pub none_once : some_repeat log ≡ false → ReceivedOnce log
  none_once none w x v y first second peer send =
      ⊎_elim
      (λ same. ⊎_elim (λ equal. (same, equal)) (λ other. absurd (no_pair (λ p q. other q))) (eq_or_ne x y))
      (λ other. absurd (no_pair (λ p q. other p)))
      (eq_or_ne w v)
    where
      no_pair : (w ≡ v → x ≡ y → ⊥) → ⊥
      no_pair other =
          let at = receive_within log w x first in
          let at' = receive_within log v y second in
          let back : x - 1 + 1 ≡ x = omega arith in
          let back' : y - 1 + 1 ≡ y = omega arith in
          false≢true
          (sym none
          ∙ pair_repeats log
          (record {
            w = w;
            k = x - 1;
            v = v;
            l = y - 1;
            first = omega arith;
            second = omega arith;
            other = λ p q. other p (omega arith);
            same = rw (back, back') (record { first = first; second = second; peer = peer; send = send });
          }))

  pub some_twice : some_repeat log ≡ true → ReceivedTwice log
  some_twice e =
      let p = repeat_pair log e in
      record {
        w = p.w;
        x = p.k + 1;
        v = p.v;
        y = p.l + 1;
        first = p.same.first;
        second = p.same.second;
        peer = p.same.peer;
        send = p.same.send;
        other = λ s q. p.other s (omega arith);
      }

-- ---- numbers of the tests before 24
at_most : (b : Bool) (k x most : ℕ) → k ≤ most → x ≤ most → cond b k x ≤ most
at_most true k x most h l = h
at_most false k x most h l = l

layout_most : (s : List ℕ) → layout_refusal s ≤ 6
unfolding layout_refusal entries_refusal
layout_most s =
    at_most (length_fault s) 1 _ 6 (omega arith)
    (at_most (form_fault s) 2 _ 6 (omega arith)
    (at_most (size_fault s) 3 _ 6 (omega arith)
    (at_most (header_fault s) 4 _ 6 (omega arith) (at_most (some_entry 5 s) 5 _ 6 (omega arith) (at_most (some_entry 6 s) 6 0 6 (omega arith) (omega arith))))))

records_most : (log : Workers) → records_refusal log ≤ 11
unfolding records_refusal or_else events_refusal
records_most log =
    at_most (eqb (events_refusal log) 0) _ _ 11 (at_most (some_record 11 log) 11 0 11 (omega arith) (omega arith))
    (at_most (some_record 7 log) 7 _ 11 (omega arith)
    (at_most (some_record 8 log) 8 _ 11 (omega arith) (at_most (some_record 9 log) 9 _ 11 (omega arith) (at_most (some_record 10 log) 10 0 11 (omega arith) (omega arith)))))

-- ---- the theorems
pub once : (s : List ℕ) → log_refusal s ≡ 0 → form_field s ≡ second_form → ReceivedOnce (workers_of s)
unfolding repeat_fault receives_once
once s accepted form = none_once (workers_of s) (and_false_right (receives_once (form_field s)) (some_repeat (workers_of s)) (accepted_once s accepted) (eq-eqb _ _ form))

pub twice : (s : List ℕ) → log_refusal s ≡ 24 → (form_field s ≡ second_form) × ReceivedTwice (workers_of s)
unfolding log_refusal content_refusal repeat_fault receives_once
twice s given =
    let fault = last in
    (eqb-true _ _ (and_true_left (receives_once (form_field s)) (some_repeat (workers_of s)) fault), some_twice (workers_of s) (and_true_right (receives_once (form_field s)) (some_repeat (workers_of s)) fault))
  where
    layout_passed : layout_refusal s ≡ 0
    layout_passed =
        ⊎_elim (λ none. none)
        (λ some. let most = layout_most s in let it = or_else_first (layout_refusal s) (content_refusal (log_of s)) some in let no : ⊥ = omega arith in absurd no)
        (eq_or_ne (layout_refusal s) 0)

    content : content_refusal (log_of s) ≡ 24
    content = sym (or_else_second (layout_refusal s) (content_refusal (log_of s)) layout_passed) ∙ given

    records_passed : records_refusal (workers_of s) ≡ 0
    records_passed =
        ⊎_elim (λ none. none)
        (λ some. let most = records_most (workers_of s) in let it = or_else_first (records_refusal (workers_of s)) (cond (repeat_fault (log_of s)) 24 0) some in let is = content in let no : ⊥ = omega arith in absurd no)
        (eq_or_ne (records_refusal (workers_of s)) 0)

    read : (b : Bool) → ◌≡◌ {A = ℕ} (cond b 24 0) 24 → b ≡ true
    read true e = refl
    read false e = let no : ⊥ = omega arith in absurd no

    last : repeat_fault (log_of s) ≡ true
    last = read (repeat_fault (log_of s)) (sym (or_else_second (records_refusal (workers_of s)) (cond (repeat_fault (log_of s)) 24 0) records_passed) ∙ content)

-- both, of the number that a log is given
pub told : (s : List ℕ) (number : ℕ) → number ≡ log_refusal s
    → (number ≡ log_refusal s)
    × ((number ≡ 0 → form_field s ≡ second_form → ReceivedOnce (workers_of s)) × (number ≡ 24 → (form_field s ≡ second_form) × ReceivedTwice (workers_of s)))
told s number said = (said, (λ accepted form. once s (sym said ∙ accepted) form, λ refused. twice s (sym said ∙ refused)))
