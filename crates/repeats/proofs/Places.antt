-- The numbers of the events that receives name: two receives have one number exactly where they name one event, and ranges of numbers that
-- follow each other. Assumes nothing.
use mathlib.Core.Path.{◌≡◌, refl, sym, ◌∙◌, ap}
use mathlib.Core.Bool.{Bool, true, false, cond, ◌&&◌, false≢true}
use mathlib.Core.Logic.{⊎_elim}
use mathlib.Core.List.{List}
use Prim.Native.Nat.{ℕ, ◌+◌, ◌*◌, ◌<◌, ◌≤◌}
use native.Mathlib.Omega.{arith}
use borrow.Author.Tests.{leb-true, ltb-true, le-leb, lt-ltb}
use lib.Dec.{leb, ltb}
use Rattle.ranges.proofs.Any.{any_found, any_some}
use Rattle.ranges.proofs.Bools.{and_true_left, and_true_right, never_true, both_ways}
use Rattle.ranges.proofs.Order.{lt_or_le}
use Rattle.ranges.proofs.Sum.{sum_none, sum_more, sum_grows, sum_bound}
use Rattle.records.specs.declared.Event.{Event}
use Rattle.event_log.specs.Model.{Workers, worker_count, event_count, event_of}
use Rattle.records.specs.Event.{is_receive, received}
use Rattle.event_log.specs.Header.{layout_refusal}
use Rattle.event_log.specs.Layout.{workers_of}
use Rattle.event_log.specs.Limits.{max_workers, max_events}
use Rattle.event_log.proofs.Read.{workers_few, count_field, worker_within}
use Rattle.repeats.specs.Inner.Again.{Messages, again, some_again}
use Rattle.repeats.specs.Inner.Table.{first_place, all_events, place_of, again_within, worker_again_within, some_again_within}
use Rattle.repeats.proofs.Again.{Same, again_by, some_from, some_by}

-- what an event receives, as a number
pub received_one : (e : Event) → is_receive e ≡ true → received e ≡ 1
unfolding received
received_one e r = rw r

pub received_none : (e : Event) → is_receive e ≡ false → received e ≡ 0
unfolding received
received_none e r = rw r

pub received_small : (e : Event) → received e < 2
unfolding received
received_small e = go (is_receive e)
  where
    go : (b : Bool) → cond b 1 0 < 2
    go true = omega arith
    go false = omega arith

module _ (log : Workers) where
  pub first_none : first_place log 0 ≡ 0
  unfolding first_place
  first_none = sum_none (event_count log)

  pub first_more : (v : ℕ) → first_place log (v + 1) ≡ first_place log v + event_count log v
  unfolding first_place
  first_more v = sum_more (event_count log) v

  first_grows : (v u : ℕ) → v ≤ u → first_place log v ≤ first_place log u
  unfolding first_place
  first_grows v u h = sum_grows (event_count log) v u h

  -- no more than `most` events of each worker
  first_bound : (v most : ℕ) → ((u : ℕ) → event_count log u ≤ most) → first_place log v ≤ v * most
  unfolding first_place
  first_bound v most all = sum_bound (event_count log) v most (λ u h. all u)

  -- the number of a receive is below the first of the next worker
  before_next : (e : Event) → is_receive e ≡ true → 0 < e.send → e.send ≤ event_count log e.peer → place_of log e < first_place log (e.peer + 1)
  unfolding place_of
  before_next e r positive counted = let one = received_one e r in let next = first_more e.peer in omega arith

  module _ (messages : Messages log) where
    pub place_below : (w k : ℕ) → k < event_count log w → is_receive (event_of log w (k + 1)) ≡ true → place_of log (event_of log w (k + 1)) < all_events log
    place_below w k h r =
        let e = event_of log w (k + 1) in
        let named = messages.named w k r in
        let peer = messages.peers w k h in
        let here = before_next e r named.0 named.1 in
        let all = first_grows (e.peer + 1) (worker_count log) (omega arith) in
        omega arith

    -- a receive names an event from 1 on
    pub received_named : (w k : ℕ) → received (event_of log w (k + 1)) ≤ (event_of log w (k + 1)).send
    received_named w k = go (is_receive (event_of log w (k + 1))) refl
      where
        go : (b : Bool) → is_receive (event_of log w (k + 1)) ≡ b → received (event_of log w (k + 1)) ≤ (event_of log w (k + 1)).send
        go true r = rw (received_one (event_of log w (k + 1)) r) (messages.named w k r).0
        go false r = rw (received_none (event_of log w (k + 1)) r) (omega arith)

    -- a receive from a lower worker has a lower number
    apart : (w k v l : ℕ) → is_receive (event_of log w (k + 1)) ≡ true → (event_of log w (k + 1)).peer < (event_of log v (l + 1)).peer
        → place_of log (event_of log w (k + 1)) < place_of log (event_of log v (l + 1))
    unfolding place_of
    apart w k v l r less =
        let d = event_of log w (k + 1) in
        let e = event_of log v (l + 1) in
        let named = messages.named w k r in
        let here = before_next d r named.0 named.1 in
        let all = first_grows (d.peer + 1) e.peer (omega arith) in
        omega arith

    pub place_same : (w k v l : ℕ) → is_receive (event_of log w (k + 1)) ≡ true → is_receive (event_of log v (l + 1)) ≡ true
        → place_of log (event_of log w (k + 1)) ≡ place_of log (event_of log v (l + 1)) → Same (event_of log w (k + 1)) (event_of log v (l + 1))
    unfolding place_of
    place_same w k v l r s q =
        let d = event_of log w (k + 1) in
        let e = event_of log v (l + 1) in
        ⊎_elim
        (λ (less : d.peer < e.peer). let far = apart w k v l r less in let no : ⊥ = omega arith in absurd no)
        (λ (most : e.peer ≤ d.peer).
        ⊎_elim
        (λ (less : e.peer < d.peer). let far = apart v l w k s less in let no : ⊥ = omega arith in absurd no)
        (λ (least : d.peer ≤ e.peer). same (omega arith))
        (lt_or_le e.peer d.peer))
        (lt_or_le d.peer e.peer)
      where
        same : (event_of log w (k + 1)).peer ≡ (event_of log v (l + 1)).peer → Same (event_of log w (k + 1)) (event_of log v (l + 1))
        same peer =
            let first : first_place log (event_of log w (k + 1)).peer ≡ first_place log (event_of log v (l + 1)).peer = ap (first_place log) peer in
            let one = received_one (event_of log w (k + 1)) r in
            let one' = received_one (event_of log v (l + 1)) s in
            let positive = (messages.named w k r).0 in
            let positive' = (messages.named v l s).0 in
            record { first = r; second = s; peer = peer; send = omega arith }

    pub place_of_same : (w k v l : ℕ) → Same (event_of log w (k + 1)) (event_of log v (l + 1)) → place_of log (event_of log w (k + 1)) ≡ place_of log (event_of log v (l + 1))
    unfolding place_of
    place_of_same w k v l same = rw (received_one (event_of log w (k + 1)) same.first, received_one (event_of log v (l + 1)) same.second, same.peer, same.send)

  -- ---- ranges of numbers
  -- an event that receives again and whose number is in the range
  pub record Found (low high : ℕ) : Type 0 where
    pub w : ℕ
    pub l : ℕ
    pub within : l < event_count log w
    pub repeated : again log w l ≡ true
    pub least : low ≤ place_of log (event_of log w (l + 1))
    pub less : place_of log (event_of log w (l + 1)) < high

  found_some : (low high : ℕ) → Found low high → some_again_within log low high ≡ true
  unfolding some_again_within worker_again_within again_within
  found_some low high f =
      any_found (worker_again_within log low high) (worker_count log) f.w (worker_within log f.w f.l f.within)
      (any_found (again_within log low high f.w) (event_count log f.w) f.l f.within (rw (f.repeated, le-leb low _ f.least, lt-ltb _ high f.less)))

  some_found : (low high : ℕ) → some_again_within log low high ≡ true → Found low high
  unfolding some_again_within worker_again_within again_within
  some_found low high e =
      let worker = any_some (worker_again_within log low high) (worker_count log) e in
      let event = any_some (again_within log low high worker.0) (event_count log worker.0) worker.2 in
      let place = place_of log (event_of log worker.0 (event.0 + 1)) in
      let range = and_true_right (again log worker.0 event.0) (leb low place && ltb place high) event.2 in
      record {
        w = worker.0;
        l = event.0;
        within = event.1;
        repeated = and_true_left (again log worker.0 event.0) (leb low place && ltb place high) event.2;
        least = leb-true low place (and_true_left (leb low place) (ltb place high) range);
        less = ltb-true place high (and_true_right (leb low place) (ltb place high) range);
      }

  -- a range with no number, and two ranges that follow each other
  pub within_none : (low high : ℕ) → high ≤ low → some_again_within log low high ≡ false
  within_none low high h = never_true _ (λ e. let f = some_found low high e in let no : ⊥ = omega (arith, f.least, f.less) in no)

  pub within_more : (low mid high : ℕ) → some_again_within log low mid ≡ false → some_again_within log mid high ≡ false → some_again_within log low high ≡ false
  within_more low mid high first rest =
      never_true _
      (λ e.
      let f = some_found low high e in
      ⊎_elim
      (λ early. false≢true (sym first ∙ found_some low mid (record { w = f.w; l = f.l; within = f.within; repeated = f.repeated; least = f.least; less = early })))
      (λ late. false≢true (sym rest ∙ found_some mid high (record { w = f.w; l = f.l; within = f.within; repeated = f.repeated; least = late; less = f.less })))
      (lt_or_le (place_of log (event_of log f.w (f.l + 1))) mid))

  -- what is found in a range is found
  pub within_some : (low high : ℕ) → some_again_within log low high ≡ true → some_again log ≡ true
  within_some low high e = let f = some_found low high e in some_from log f.w f.l f.within f.repeated

  -- a range of all numbers
  pub within_all : Messages log → (high : ℕ) → all_events log ≤ high → some_again_within log 0 high ≡ some_again log
  within_all messages high all = both_ways _ _ (within_some 0 high) back
    where
      back : some_again log ≡ true → some_again_within log 0 high ≡ true
      back e =
          let found = some_by log e in
          let below = place_below messages found.0 found.1 found.2 (again_by log found.0 found.1 found.3).2.second in
          found_some 0 high (record { w = found.0; l = found.1; within = found.2; repeated = found.3; least = omega arith; less = omega arith })

-- ---- the numbers fit
pub places_few : (s : List ℕ) → layout_refusal s ≡ 0 → (v : ℕ) → v ≤ worker_count (workers_of s) → first_place (workers_of s) v ≤ max_workers * max_events
places_few s ok v h =
    let bound = first_bound (workers_of s) v max_events (λ u. (count_field s ok u).1) in
    let few = workers_few s ok in
    omega arith
