-- Two receives of one send are of one worker, so a log has two of them exactly where a worker receives again what it received before; and
-- where receives name rising sends of each peer, none does. Assumes nothing.
use mathlib.Core.Path.{◌≡◌, sym, ◌∙◌}
use mathlib.Core.Bool.{true, false, not, ◌&&◌, false≢true}
use mathlib.Core.Logic.{⊎_elim, ◌≢◌}
use mathlib.Core.List.{List}
use Prim.Native.Nat.{ℕ, ◌+◌, ◌<◌, ◌≤◌, max}
use native.Mathlib.Omega.{arith}
use borrow.Author.Tests.{eq-eqb, eqb-true, not-true}
use lib.Dec.{eqb}
use lib.ListN.{length, set}
use lib.Seq.{get_or-set_same, get_or-set_other}
use Rattle.ranges.proofs.Any.{any_found, any_some}
use Rattle.ranges.proofs.Bools.{and_true_left, and_true_right, never_true, both_ways}
use Rattle.ranges.proofs.Order.{lt_or_le, eq_or_ne}
use Rattle.lent.specs.Lent.{at}
use Rattle.records.specs.declared.Event.{Event}
use Rattle.event_log.specs.Model.{Workers, worker_count, event_count, event_of}
use Rattle.records.specs.Event.{is_receive}
use Rattle.event_log.proofs.Read.{worker_within}
use Rattle.repeats.specs.Repeats.{same_send, repeats, repeated_by, is_repeated, worker_repeats, some_repeat}
use Rattle.repeats.specs.Inner.Again.{Messages, same_as, again, worker_again, some_again}

-- ---- two events that receive one send
pub record Same (d e : Event) : Type 0 where
  pub first : is_receive d ≡ true
  pub second : is_receive e ≡ true
  pub peer : d.peer ≡ e.peer
  pub send : d.send ≡ e.send

pub same_parts : (d e : Event) → same_send d e ≡ true → Same d e
unfolding same_send
same_parts d e f =
    let three = is_receive d && is_receive e && eqb d.peer e.peer in
    let front = and_true_left three (eqb d.send e.send) f in
    let both = and_true_left (is_receive d && is_receive e) (eqb d.peer e.peer) front in
    record {
      first = and_true_left (is_receive d) (is_receive e) both;
      second = and_true_right (is_receive d) (is_receive e) both;
      peer = eqb-true _ _ (and_true_right (is_receive d && is_receive e) (eqb d.peer e.peer) front);
      send = eqb-true _ _ (and_true_right three (eqb d.send e.send) f);
    }

pub same_made : (d e : Event) → Same d e → same_send d e ≡ true
unfolding same_send
same_made d e same = rw (same.first, same.second, eq-eqb _ _ same.peer, eq-eqb _ _ same.send)

same_turned : (d e : Event) → Same d e → Same e d
same_turned d e same = record { first = same.second; second = same.first; peer = sym same.peer; send = sym same.send }

module _ (log : Workers) where
  -- ---- some event receives again what an earlier one receives: a witness, and from one
  pub again_from : (w k l : ℕ) → k < l → Same (event_of log w (k + 1)) (event_of log w (l + 1)) → again log w l ≡ true
  unfolding again same_as
  again_from w k l h same = any_found (same_as log w l) l k h (same_made _ _ same)

  pub again_by : (w l : ℕ) → again log w l ≡ true → (k : ℕ) × (k < l) × Same (event_of log w (k + 1)) (event_of log w (l + 1))
  unfolding again same_as
  again_by w l e = let found = any_some (same_as log w l) l e in (found.0, found.1, same_parts _ _ found.2)

  pub some_from : (w l : ℕ) → l < event_count log w → again log w l ≡ true → some_again log ≡ true
  unfolding some_again worker_again
  some_from w l h e = any_found (worker_again log) (worker_count log) w (worker_within log w l h) (any_found (again log w) (event_count log w) l h e)

  pub some_by : some_again log ≡ true → (w : ℕ) × (l : ℕ) × (l < event_count log w) × (again log w l ≡ true)
  unfolding some_again worker_again
  some_by e =
      let worker = any_some (worker_again log) (worker_count log) e in
      let event = any_some (again log worker.0) (event_count log worker.0) worker.2 in
      (worker.0, event.0, event.1, event.2)

  -- two different events that receive one send, and such a pair from a test that holds
  pub record Pair : Type 0 where
    pub w : ℕ
    pub k : ℕ
    pub v : ℕ
    pub l : ℕ
    pub first : k < event_count log w
    pub second : l < event_count log v
    pub other : w ≡ v → k ≡ l → ⊥
    pub same : Same (event_of log w (k + 1)) (event_of log v (l + 1))

  pub repeat_pair : some_repeat log ≡ true → Pair
  unfolding some_repeat worker_repeats is_repeated repeated_by repeats
  repeat_pair e =
      let worker = any_some (worker_repeats log) (worker_count log) e in
      let w = worker.0 in
      let event = any_some (is_repeated log w) (event_count log w) worker.2 in
      let k = event.0 in
      let worker' = any_some (repeated_by log w k) (worker_count log) event.2 in
      let v = worker'.0 in
      let event' = any_some (repeats log w k v) (event_count log v) worker'.2 in
      let l = event'.0 in
      let one = not (eqb w v && eqb k l) in
      let same = same_send (event_of log w (k + 1)) (event_of log v (l + 1)) in
      record {
        w = w;
        k = k;
        v = v;
        l = l;
        first = event.1;
        second = event'.1;
        other = λ p q. absurd (false≢true (sym (not-true (eqb w v && eqb k l) (and_true_left one same event'.2)) ∙ rw (eq-eqb w v p, eq-eqb k l q)));
        same = same_parts _ _ (and_true_right one same event'.2);
      }

  pub pair_repeats : Pair → some_repeat log ≡ true
  unfolding some_repeat worker_repeats is_repeated repeated_by repeats
  pair_repeats p =
      any_found (worker_repeats log) (worker_count log) p.w (worker_within log p.w p.k p.first)
      (any_found (is_repeated log p.w) (event_count log p.w) p.k p.first
      (any_found (repeated_by log p.w p.k) (worker_count log) p.v (worker_within log p.v p.l p.second)
      (any_found (repeats log p.w p.k p.v) (event_count log p.v) p.l p.second
      (rw (never_true (eqb p.w p.v && eqb p.k p.l)
      (λ both. p.other (eqb-true _ _ (and_true_left (eqb p.w p.v) (eqb p.k p.l) both)) (eqb-true _ _ (and_true_right (eqb p.w p.v) (eqb p.k p.l) both))))
      (same_made _ _ p.same)))))

  module _ (messages : Messages log) where
    -- two receives of one send are of one worker: the one that it was sent to
    pub one_worker : (w k v l : ℕ) → Same (event_of log w (k + 1)) (event_of log v (l + 1)) → w ≡ v
    one_worker w k v l same =
        sym (messages.addressed w k same.first) ∙ (rw (same.peer, same.send) (messages.addressed v l same.second))

    pair_again : Pair → some_again log ≡ true
    pair_again p = go p.w p.k p.l p.first (rw (← one) at p.second) (λ e. p.other one e) (rw (← one) at p.same)
      where
        one : p.w ≡ p.v
        one = one_worker p.w p.k p.v p.l p.same

        go : (w k l : ℕ) → k < event_count log w → l < event_count log w → k ≢ l → Same (event_of log w (k + 1)) (event_of log w (l + 1)) → some_again log ≡ true
        go w k l first second other same =
            ⊎_elim
            (λ less. some_from w l second (again_from w k l less same))
            (λ (most : l ≤ k). some_from w k first (again_from w l k (omega (arith, other)) (same_turned _ _ same)))
            (lt_or_le k l)

    again_pair : some_again log ≡ true → Pair
    again_pair e =
        let found = some_by e in
        let before = again_by found.0 found.1 found.3 in
        let earlier = before.1 in
        let within = found.2 in
        record {
          w = found.0;
          k = before.0;
          v = found.0;
          l = found.1;
          first = omega arith;
          second = within;
          other = λ p q. let no : ⊥ = omega arith in no;
          same = before.2;
        }

    pub repeats_again : some_repeat log ≡ some_again log
    repeats_again = both_ways _ _ (λ e. pair_again (repeat_pair e)) (λ e. pair_repeats (again_pair e))

  -- ---- a row of the last send named of each peer by the first k events of worker w
  pub record Rising (w k : ℕ) (row : List ℕ) : Type 0 where
    pub each : (j : ℕ) → j < k → (event_of log w (j + 1)).send ≤ at row (event_of log w (j + 1)).peer

  pub rising_none : (w : ℕ) (row : List ℕ) → Rising w 0 row
  rising_none w row = record { each = λ j h. let no : ⊥ = omega arith in absurd no }

  module _ (w k : ℕ) (row : List ℕ) (rising : Rising w k row) where
    -- a receive of a later send than the row has for its peer receives nothing again
    pub rising_next : (is_receive (event_of log w (k + 1)) ≡ true → at row (event_of log w (k + 1)).peer < (event_of log w (k + 1)).send) → again log w k ≡ false
    rising_next later =
        never_true (again log w k)
        (λ e.
        let found = again_by w k e in
        let same = found.2 in
        let held : (event_of log w (found.0 + 1)).send ≤ at row (event_of log w (k + 1)).peer = rw same.peer at (rising.each found.0 found.1) in
        let above = later same.second in
        let equal = same.send in
        let no : ⊥ = omega arith in
        no)

    -- the same, of the event as it was read and the number before the send that it names
    pub rising_read : Messages log → {e : Event} → e ≡ event_of log w (k + 1) → {before : ℕ} → (0 < e.send → before + 1 ≡ e.send) → at row e.peer ≤ before
        → again log w k ≡ false
    rising_read messages read number kept =
        rising_next
        (λ receive.
        let next = number (rw read (messages.named w k receive).0) in
        rw (← read) (omega arith))

    pub rising_more : (event_of log w (k + 1)).peer < length row
        → Rising w (k + 1) (set row (event_of log w (k + 1)).peer (max (at row (event_of log w (k + 1)).peer) (event_of log w (k + 1)).send))
    rising_more within = record { each = each }
      where
        each : (j : ℕ) → j < k + 1 → (event_of log w (j + 1)).send
            ≤ at (set row (event_of log w (k + 1)).peer (max (at row (event_of log w (k + 1)).peer) (event_of log w (k + 1)).send)) (event_of log w (j + 1)).peer
        each j h =
            let peer = (event_of log w (k + 1)).peer in
            let new = max (at row peer) (event_of log w (k + 1)).send in
            ⊎_elim
            (λ (same : j ≡ k). rw (same, get_or-set_same row peer new 0 within) (omega arith))
            (λ (other : j ≢ k).
            let held = rising.each j (omega (arith, other)) in
            ⊎_elim
            (λ (here : (event_of log w (j + 1)).peer ≡ peer). rw (here, get_or-set_same row peer new 0 within) (let old : (event_of log w (j + 1)).send ≤ at row peer = rw here at held in omega arith))
            (λ (there : (event_of log w (j + 1)).peer ≢ peer). rw (get_or-set_other row peer (event_of log w (j + 1)).peer new 0 there) held)
            (eq_or_ne (event_of log w (j + 1)).peer peer))
            (eq_or_ne j k)
