-- A visit by the events that are not covered yet: what they name gives each turn of Figure 2.
-- Assumes nothing.
use mathlib.Core.Path.{◌≡◌, refl, sym, ◌∙◌, ap}
use mathlib.Core.Bool.{true}
use mathlib.Core.Logic.{◌⊎◌, ⊎_elim, ◌≢◌}
use mathlib.Core.List.{List}
use Prim.Native.Nat.{ℕ, zero, suc, ◌+◌, ◌<◌, ◌≤◌}
use native.Mathlib.Nat.{eq-or-lt_of_le, le_of_suc-le-suc}
use native.Mathlib.Numerals.{add-one}
use native.Mathlib.Omega.{arith}
use borrow.Author.Tests.{le-leb, lt-leb}
use lib.ListN.{length, set, replicate, length-set}
use lib.Seq.{get_or-set_same, get_or-set_other}
use Rattle.ranges.specs.Fold.{max_below, first_from, sweep}
use Rattle.ranges.proofs.First.{first_from_lem}
use Rattle.ranges.proofs.Max.{max_none, max_least}
use Rattle.ranges.proofs.Order.{lt_or_le, eq_or_ne}
use Rattle.ranges.proofs.Store.{set_cases, set_grows}
use Rattle.ranges.proofs.Sweep.{sweep_none, sweep_more}
use Rattle.event_log.specs.Model.{Workers, worker_count, event_count, event_of, IsEvent}
use Rattle.event_log.proofs.Read.{worker_within}
use Rattle.accept.specs.WellFormed.{WellFormed}
use Rattle.lent.specs.Lent.{at}
use Rattle.causality.specs.Cut.{named_of, component, lacks, IsCut}
use Rattle.lower_cut.specs.Figure2.{Found, counted, stored, turn, visit_at, beginning, figure2}
use Rattle.causality.specs.Inner.Row.{named_after, largest_after}
use Rattle.lower_cut.specs.Inner.Visiting.{word_sum, Visiting}
use Rattle.accept.proofs.Stamps.{stamps_rise}
use Rattle.causality.proofs.CutTest.{lacks_true}
use Rattle.causality.proofs.Order.{Rising, index_less, happened_rises}
use Rattle.causality.proofs.Components.{component_own, component_other, component_covers, named_from, component_rises}
use Rattle.lower_cut.proofs.Recursion.{Ready, grown_ready, AboveCut, turn_cases, visit_equation}
use Rattle.lower_cut.proofs.LowerCut.{Visited, turns_visited, visit_at_visited, visited_cut, beginning_words, beginning_cut}
use Rattle.lower_cut.proofs.VisitCount.{words_raise, turns_visits, turns_counted}
use Rattle.causality.proofs.Row.{after_none, after_within, after_covered, component_split}

-- the state of a visit to event e of worker i after the turns of v workers
abbrev pub turns : Workers → ℕ → ℕ → ℕ → Found → Found
turns log i e v s = sweep (turn (visit_at log) log i e) v (counted s)

-- what the loop of a visit keeps: t is the state after the turns of v of the n workers
pub record Turning (log : Workers) (i from e : ℕ) (cut : List ℕ) (visits n : ℕ) (t : Found) (v : ℕ) : Type 0 where
  pub ok : WellFormed log
  pub pre : Visiting log i from e cut visits
  pub size : n ≡ worker_count log
  pub few : v ≤ n
  pub now : t ≡ turns log i e v (record { cut = cut; visits = visits })

module _ {log : Workers} {i from e : ℕ} {cut : List ℕ} {visits n : ℕ} {t : Found} {v : ℕ} (s : Turning log i from e cut visits n t v) where
  abbrev start : Found
  start = record { cut = cut; visits = visits }

  begin : Ready log i e cut
  begin = record { long = s.pre.is_cut.long; holds = omega (arith, s.pre.own) }

  -- no event of a worker names an event of that worker
  own_none : largest_after log i from e i ≡ 0
  unfolding largest_after named_after
  own_none =
      let none : max_below (named_after log i from i) e ≤ 0 =
      max_least (named_after log i from i) e 0
      (λ k h.
      let zero' : named_of log i i k ≤ 0 =
      ⊎_elim (λ some. let by = named_from log i e i k h some in absurd ((s.ok.sent i (k + 1) by.receive).other by.peer)) (λ z. z)
      (lt_or_le 0 (named_of log i i k)) in
      ⊎_elim (λ l. rw (lt-leb from k l) (omega arith)) (λ l. rw (le-leb from k l) (omega arith)) (lt_or_le k from)) in
      omega arith

  visited : Visited log i e v cut t.cut
  visited =
      rw s.now
      (turns_visited log s.ok (visit_at log) i e v (counted start) (omega (arith, s.size)) s.pre.event begin
      (λ w c u rising r. visit_at_visited log s.ok w c u rising.first r))

  ready : Ready log i e t.cut
  ready = grown_ready begin visited.grown

  own : at t.cut i ≡ e
  own =
      ⊎_elim (λ q. q ∙ s.pre.own)
      (λ here.
      let rising = happened_rises log s.ok here.happened in
      let less = index_less log s.ok i (at t.cut i) e rising.first.1 rising.stamps in
      let no : ⊥ = omega (arith, visited.grown.grows i, s.pre.own) in absurd no)
      (visited.words i)

  settled : (u : ℕ) → u ≢ i → (event_of log u (at t.cut u)).stamp < (event_of log i e).stamp
      → (x : ℕ) → x < worker_count log → component log u (at t.cut u) x ≤ at t.cut x
  settled u other less x h =
      ⊎_elim
      (λ q.
      let earlier : (event_of log u (at cut u)).stamp < (event_of log i e).stamp = rw q at less in
      rw q (omega (arith, s.pre.settled u other earlier x h, visited.grown.grows x)))
      (λ here. here.covered x h)
      (visited.words u)

  -- all turns are made: the visit is done
  pub ended : n ≤ v → t ≡ visit_at log i e start
  ended all =
      let last : v ≡ worker_count log = omega (arith, s.size) in
      s.now ∙ rw last (sym (visit_equation log s.ok i e start s.pre.event begin))

  -- .. and where one of its events names something above the cut that it began with, it made a visit below
  made : n ≤ v → (k : ℕ) → k < e → lacks log cut i k ≡ true → t.visits ≢ visits + 1
  made all k h lacking one =
      let lack = lacks_true log cut i k lacking in
      let peer = (event_of log i (k + 1)).peer in
      let covers = component_covers log s.ok i e k h lack.0 in
      let within = visited.own peer (omega (arith, s.size, (s.ok.sent i (k + 1) lack.0).within)) in
      ⊎_elim
      (λ same. let word : at t.cut peer ≡ at cut peer = ap (λ (c : List ℕ). at c peer) same in let no : ⊥ = omega (arith, lack.1) in absurd no)
      (λ more. let no : ⊥ = omega arith in absurd no)
      (rw (← s.now) at (turns_counted log s.ok i e v start (omega (arith, s.size, s.few)) s.pre.event begin))

  -- worker v's turn
  module _ (h : v < n) where
    inside : v < worker_count log
    inside = omega (arith, s.size)

    pub turning_room : v < length t.cut
    turning_room = rw ready.long inside

    before : v ≢ i → component log i from v ≤ at t.cut v
    before other = omega (arith, s.pre.before v inside other, visited.grown.grows v)

    after : turns log i e (v + 1) start ≡ turn (visit_at log) log i e v t
    after = sweep_more (turn (visit_at log) log i e) v (counted start) ∙ ap (turn (visit_at log) log i e v) (sym s.now)

    on : {t' : Found} → t' ≡ turns log i e (v + 1) start → Turning log i from e cut visits n t' (v + 1)
    on q = record { ok = s.ok; pre = s.pre; size = s.size; few = omega arith; now = q }

    covered : largest_after log i from e v ≤ at t.cut v → component log i e v ≤ at t.cut v
    covered l =
        ⊎_elim
        (λ q.
        let c : component log i e v ≡ component log i e i = ap (component log i e) q in
        let a : at t.cut v ≡ at t.cut i = ap (at t.cut) q in
        omega (arith, component_own log i e, own))
        (λ other. component_split log i from e v other (at t.cut v) (before other) l)
        (eq_or_ne v i)

    -- nothing above the cut is named of it: nothing is done
    pub idle : largest_after log i from e v ≤ at t.cut v → Turning log i from e cut visits n t (v + 1)
    idle l =
        on
        (⊎_elim (λ c. sym (after ∙ c.1 (visit_at log))) (λ c. let no : ⊥ = omega (arith, covered l, c.0.above) in absurd no)
        (turn_cases log s.ok i e v t s.pre.event ready))

    -- an event d above the cut is
    module _ (d : ℕ) (named : d ≡ largest_after log i from e v) (above : at t.cut v < d) where
      another : v ≢ i
      another q =
          let same : largest_after log i from e v ≡ largest_after log i from e i = ap (largest_after log i from e) q in
          omega (arith, own_none, named)

      found : component log i e v ≡ d
      found =
          let under = after_within log i from e v another in
          let over = component_split log i from e v another d (omega (arith, before another)) (omega (arith, named)) in
          omega (arith, named)

      rising : Rising log v d i e
      rising = rw found at (component_rises log s.ok i e v s.pre.event.1 another (omega (arith, found)))

      -- it is visited
      raised : AboveCut log i e v t.cut × (turn (visit_at log) log i e v t ≡ visit_at log v (component log i e v) (stored t v (component log i e v)))
      raised =
          ⊎_elim (λ c. let no : ⊥ = omega (arith, found, c.0) in absurd no) (λ c. (c.0, c.1 (visit_at log)))
          (turn_cases log s.ok i e v t s.pre.event ready)

      pub turned : {t' : Found} → t' ≡ visit_at log v d (stored t v d) → Turning log i from e cut visits n t' (v + 1)
      turned q = on (q ∙ sym (after ∙ rw found at raised.1))

      pub falls : (event_of log v d).stamp < (event_of log i e).stamp
      falls = rising.stamps

      pub next : Visiting log v (at t.cut v) d (set t.cut v d) t.visits
      next =
          record {
            event = rising.first;
            is_cut = record { long = length-set t.cut v d ∙ ready.long; within = within };
            own = get_or-set_same t.cut v d 0 turning_room;
            before = λ u l other. omega (arith, settled v another early u l, set_grows t.cut v d (omega arith) u);
            settled = later;
            few = few_visits;
          }
        where
          is_cut : IsCut log t.cut
          is_cut = visited_cut log s.ok i e v cut t.cut s.pre.is_cut visited

          within : (u : ℕ) → at (set t.cut v d) u ≤ event_count log u
          within u = ⊎_elim (λ c. rw (c.1, c.0) rising.first.1) (λ c. omega (arith, c.1, is_cut.within u)) (set_cases t.cut v d 0 u turning_room)

          early : (event_of log v (at t.cut v)).stamp < (event_of log i e).stamp
          early = let less = stamps_rise log s.ok v (at t.cut v) d above rising.first.1 in omega (arith, rising.stamps)

          later : (u : ℕ) → u ≢ v → (event_of log u (at (set t.cut v d) u)).stamp < (event_of log v d).stamp
              → (x : ℕ) → x < worker_count log → component log u (at (set t.cut v d) u) x ≤ at (set t.cut v d) x
          later u other less x l =
              let same = get_or-set_other t.cut v u d 0 other in
              let earlier : (event_of log u (at t.cut u)).stamp < (event_of log v d).stamp = rw same at less in
              let not_own : u ≢ i =
              λ q. let e' : (event_of log u (at t.cut u)).stamp ≡ (event_of log i e).stamp = rw (q, own) in omega (arith, rising.stamps) in
              rw same (omega (arith, settled u not_own (omega (arith, rising.stamps)) x l, set_grows t.cut v d (omega arith) x))

          few_visits : t.visits ≤ word_sum log (set t.cut v d)
          few_visits =
              let sum = rw (← s.now) at (turns_visits log s.ok i e v start (omega (arith, s.size)) s.pre.event begin) in
              let more = rw found at (words_raise log i e v t.cut s.pre.event ready inside tt raised.0).0 in
              omega (arith, s.pre.few)

-- the turns of workers v, .., w - 1, of whom nothing above the cut is named
pub idle_to : {log : Workers} {i from e : ℕ} {cut : List ℕ} {visits n : ℕ} {t : Found} {v : ℕ} → Turning log i from e cut visits n t v
    → (w : ℕ) → v ≤ w → w ≤ n → ((u : ℕ) → v ≤ u → u < w → largest_after log i from e u ≤ at t.cut u) → Turning log i from e cut visits n t w
idle_to {v} s zero l few none = let q : v ≡ 0 = omega arith in rw q at s
idle_to {v} s (suc w) l few none =
    ⊎_elim (λ q. rw q at s)
    (λ less.
    let before = idle_to s w (le_of_suc-le-suc less) (omega arith) (λ u low high. none u low (omega arith)) in
    rw add-one at (idle before few (none w (le_of_suc-le-suc less) (omega arith))))
    (eq-or-lt_of_le l)

-- the scan for the first event that names something above the cut: `first` events are passed
module _ {log : Workers} {i from e : ℕ} {cut : List ℕ} {visits : ℕ} (ok : WellFormed log) (pre : Visiting log i from e cut visits) {first : ℕ}
    (found : first ≡ first_from (lacks log cut i) from e) where
  pub passed_few : first ≤ e
  passed_few = rw found (first_from_lem (lacks log cut i) from e).bound

  passed : (u : ℕ) → largest_after log i from first u ≤ at cut u
  passed u = after_covered log cut i from first u (λ k low h. (first_from_lem (lacks log cut i) from e).before k low (rw found at h))

  -- they may be left out
  pub later : Visiting log i first e cut visits
  later =
      record {
        event = pre.event;
        is_cut = pre.is_cut;
        own = pre.own;
        before = λ u h other. component_split log i from first u other (at cut u) (pre.before u h other) (passed u);
        settled = pre.settled;
        few = pre.few;
      }

  -- all are passed: the visit is counted, and nothing else is done
  pub leaf : first ≡ e → record { cut = cut; visits = visits + 1 } ≡ visit_at log i e (record { cut = cut; visits = visits })
  leaf all =
      let begun : Turning log i first e cut visits (worker_count log) (record { cut = cut; visits = visits + 1 }) 0 =
      record { ok = ok; pre = later; size = refl; few = omega arith; now = sym (sweep_none _ _) } in
      ended (idle_to begun (worker_count log) (omega arith) (omega arith) (λ u low high. rw (all, after_none log i e u) (omega arith))) (omega arith)

  -- some event is left: the visit makes one below it
  pub some_below : first ≢ e → {n v : ℕ} {t : Found} → Turning log i first e cut visits n t v → n ≤ v → t.visits ≢ visits + 1
  some_below left s all =
      let less : first < e = omega (arith, passed_few, left) in
      made s all first less (rw (← found) at ((first_from_lem (lacks log cut i) from e).found (rw found at less)).1)

-- the words that the search begins with may be visited
begins : (log : Workers) (i e : ℕ) → IsEvent log i e → Visiting log i 0 e (beginning log i e).cut 0
begins log i e event =
    record {
      event = event;
      is_cut = beginning_cut log i e event;
      own = ⊎_elim (λ c. c.1) (λ c. absurd (c.0 refl)) (words i);
      before = λ u h other. let none = nothing i u other in omega arith;
      settled = λ u other less x h. ⊎_elim (λ c. absurd (other c.0)) (λ c. rw c.1 (let none = up_to u x in omega arith)) (words u);
      few = omega arith;
    }
  where
    words : (w : ℕ) → ((w ≡ i) × (at (beginning log i e).cut w ≡ e)) ⊎ ((w ≢ i) × (at (beginning log i e).cut w ≡ 0))
    words = beginning_words log i e (worker_within log i 0 (omega arith))

    nothing : (w u : ℕ) → u ≢ w → component log w 0 u ≡ 0
    nothing w u other = component_other log w 0 u other ∙ max_none (named_of log w u)

    up_to : (w u : ℕ) → component log w 0 u ≡ 0
    up_to w u = ⊎_elim (λ q. rw q (component_own log w 0)) (nothing w u) (eq_or_ne u w)

-- .. they are zeros, with the event at its worker ..
pub begun : (log : Workers) (i e : ℕ) (zeros : List ℕ) → zeros ≡ replicate (worker_count log) 0 → IsEvent log i e → Visiting log i 0 e (set zeros i e) 0
unfolding beginning
begun log i e zeros q event = rw q (begins log i e event)

-- .. and the visit from them is the figure
pub figured : (log : Workers) (i e : ℕ) (zeros : List ℕ) (t : Found) → zeros ≡ replicate (worker_count log) 0 → t ≡ visit_at log i e (record { cut = set zeros i e; visits = 0 }) → t ≡ figure2 log i e
unfolding beginning figure2
figured log i e zeros t q now = now ∙ rw q
