-- Figure 2's recursion: what one turn of a visit does, a visit only raises the cut, any depth above the event's stamp gives the same
-- visit, and the figure's own equation. Assumes nothing.
use mathlib.Core.Path.{◌≡◌, refl, sym, ◌∙◌, ap}
use mathlib.Core.Logic.{◌⊎◌, inl, inr, ⊎_elim, ◌≢◌}
use mathlib.Core.Bool.{Bool, true, false}
use mathlib.Core.List.{List}
use Prim.Native.Nat.{ℕ, zero, suc, ◌<◌, ◌≤◌}
use native.Mathlib.Nat.{not-suc-le-zero}
use native.Mathlib.Omega.{arith}
use borrow.Author.Tests.{ltb-true, ltb-false}
use lib.Dec.{ltb}
use lib.ListN.{length, set, length-set}
use lib.Seq.{get_or-set_same}
use Rattle.ranges.specs.Fold.{sweep}
use Rattle.ranges.proofs.Store.{set_grows}
use Rattle.ranges.proofs.Sweep.{sweep_keeps, sweep_same}
use Rattle.event_log.specs.Model.{Workers, worker_count, event_of, IsEvent}
use Rattle.accept.specs.WellFormed.{WellFormed}
use Rattle.causality.specs.Happened.{HappenedBefore}
use Rattle.lent.specs.Lent.{at}
use Rattle.causality.specs.Cut.{Within, component}
use Rattle.lower_cut.specs.Figure2.{Found, counted, stored, turn_if, turn, visit, visit_at}
use Rattle.causality.proofs.Order.{Rising, happened_rises}
use Rattle.causality.proofs.Components.{NamedBy, component_own, component_named, named_happened}

-- words with which event e of worker i may be visited: one for each worker, and they hold the event
pub record Ready (log : Workers) (i e : ℕ) (cut : List ℕ) : Type 0 where
  pub long : length cut ≡ worker_count log
  pub holds : e ≤ at cut i

-- later words: as many, and none smaller
pub record Grown (cut later : List ℕ) : Type 0 where
  pub long : length later ≡ length cut
  pub grows : Within cut later

-- words that did not change
pub grown_same : (cut : List ℕ) → Grown cut cut
grown_same cut = record { long = refl; grows = λ w. omega arith }

-- one change after another
pub grown_through : {a b c : List ℕ} → Grown a b → Grown b c → Grown a c
grown_through p q = record { long = q.long ∙ p.long; grows = λ w. omega (arith, p.grows w, q.grows w) }

-- the store of a word that is no smaller
pub grown_set : (cut : List ℕ) (v d : ℕ) → at cut v ≤ d → Grown cut (set cut v d)
grown_set cut v d h = record { long = length-set cut v d; grows = set_grows cut v d h }

-- later words still hold the event
pub grown_ready : {log : Workers} {i e : ℕ} {cut later : List ℕ} → Ready log i e cut → Grown cut later → Ready log i e later
grown_ready {i} r g = record { long = g.long ∙ r.long; holds = omega (arith, r.holds, g.grows i) }

-- worker v's component of event e of worker i is above the cut's: a receive of i names it, and it happened before
pub record AboveCut (log : Workers) (i e v : ℕ) (cut : List ℕ) : Type 0 where
  pub above : at cut v < component log i e v
  pub receive : ℕ
  pub named : NamedBy log i e v (component log i e v) receive
  pub happened : HappenedBefore log v (component log i e v) i e

module _ (log : Workers) where
  -- a turn only raises the cut where its visits do
  pub turn_grows : (go : ℕ → ℕ → Found → Found) → ((v d : ℕ) (t : Found) → Grown t.cut (go v d t).cut) → (i e v : ℕ) (t : Found) → Grown t.cut (turn go log i e v t).cut
  unfolding turn turn_if
  turn_grows go each i e v t = test (ltb (at t.cut v) (component log i e v)) refl
    where
      test : (b : Bool) → ltb (at t.cut v) (component log i e v) ≡ b → Grown t.cut (turn_if b go v (component log i e v) t).cut
      test true q =
          let less = ltb-true (at t.cut v) (component log i e v) q in
          grown_through (grown_set t.cut v (component log i e v) (omega arith)) (each v (component log i e v) (stored t v (component log i e v)))
      test false q = grown_same t.cut

  -- a visit only raises the cut
  pub visit_grows : (depth i e : ℕ) (s : Found) → Grown s.cut (visit depth log i e s).cut
  unfolding visit
  visit_grows zero i e s = grown_same s.cut
  visit_grows (suc depth) i e s =
      sweep_keeps (turn (λ v d t. visit depth log v d t) log i e) (λ k t. Grown s.cut t.cut) (worker_count log) (counted s) (grown_same s.cut)
      (λ k t h g. grown_through g (turn_grows (λ v d u. visit depth log v d u) (visit_grows depth) i e k t))

  -- the visit with enough depth too
  pub visit_at_grows : (i e : ℕ) (s : Found) → Grown s.cut (visit_at log i e s).cut
  unfolding visit_at
  visit_at_grows i e s = visit_grows (suc (event_of log i e).stamp) i e s

module _ (log : Workers) (ok : WellFormed log) where
  -- worker v's turn: its component is within the cut and nothing is done, or it is stored and visited
  pub turn_cases : (i e v : ℕ) (t : Found) → IsEvent log i e → Ready log i e t.cut
      → ((component log i e v ≤ at t.cut v) × ((go : ℕ → ℕ → Found → Found) → turn go log i e v t ≡ t))
      ⊎ (AboveCut log i e v t.cut × ((go : ℕ → ℕ → Found → Found) → turn go log i e v t ≡ go v (component log i e v) (stored t v (component log i e v))))
  unfolding turn turn_if
  turn_cases i e v t event ready = test (ltb (at t.cut v) (component log i e v)) refl
    where
      other : at t.cut v < component log i e v → v ≢ i
      other less q =
          let own = component_own log i e in
          let c : component log i e v ≡ component log i e i = ap (component log i e) q in
          let word : at t.cut v ≡ at t.cut i = ap (at t.cut) q in
          omega (arith, ready.holds)

      raised : at t.cut v < component log i e v → AboveCut log i e v t.cut
      raised less =
          let by = component_named log i e v (other less) (omega arith) in
          record { above = less; receive = by.0; named = by.1; happened = named_happened log ok i e v (component log i e v) by.0 event.1 by.1 }

      test : (b : Bool) → ltb (at t.cut v) (component log i e v) ≡ b
          → ((component log i e v ≤ at t.cut v) × ((go : ℕ → ℕ → Found → Found) → turn_if b go v (component log i e v) t ≡ t))
          ⊎ (AboveCut log i e v t.cut × ((go : ℕ → ℕ → Found → Found) → turn_if b go v (component log i e v) t ≡ go v (component log i e v) (stored t v (component log i e v))))
      test true q = inr (raised (ltb-true (at t.cut v) (component log i e v) q), λ go. refl)
      test false q = inl (ltb-false (at t.cut v) (component log i e v) q, λ go. refl)

  -- the stored component may be visited
  pub raised_ready : (i e v : ℕ) (cut : List ℕ) → v < worker_count log → Ready log i e cut → Ready log v (component log i e v) (set cut v (component log i e v))
  raised_ready i e v cut within ready =
      let same = get_or-set_same cut v (component log i e v) 0 (rw ready.long within) in
      record { long = length-set cut v (component log i e v) ∙ ready.long; holds = omega arith }

  -- two sweeps of turns are the same where their visits to events with smaller stamps are
  turns_same : (go other : ℕ → ℕ → Found → Found) (i e : ℕ) (s : Found) → IsEvent log i e → Ready log i e s.cut
      → ((v d : ℕ) (t : Found) → Grown t.cut (go v d t).cut)
      → ((v d : ℕ) (t : Found) → Rising log v d i e → Ready log v d t.cut → go v d t ≡ other v d t)
      → sweep (turn go log i e) (worker_count log) s ≡ sweep (turn other log i e) (worker_count log) s
  turns_same go other i e s event ready grows same =
      sweep_same (turn go log i e) (turn other log i e) (λ k t. Ready log i e t.cut) (worker_count log) s ready
      (λ k t h r. grown_ready r (turn_grows log go grows i e k t))
      (λ k t h r.
      let d = component log i e k in
      ⊎_elim
      (λ idle. idle.1 go ∙ sym (idle.1 other))
      (λ up. up.1 go ∙ same k d (stored t k d) (happened_rises log ok up.0.happened) (raised_ready i e k t.cut h r) ∙ sym (up.1 other))
      (turn_cases i e k t event r))

  -- any depth above the event's stamp gives the same
  pub visit_depth : (depth other i e : ℕ) (s : Found) → IsEvent log i e → Ready log i e s.cut → (event_of log i e).stamp < depth → (event_of log i e).stamp < other
      → visit depth log i e s ≡ visit other log i e s
  unfolding visit
  visit_depth zero other i e s event ready f g = absurd (not-suc-le-zero f)
  visit_depth (suc depth) zero i e s event ready f g = absurd (not-suc-le-zero g)
  visit_depth (suc depth) (suc other) i e s event ready f g =
      turns_same (λ v d t. visit depth log v d t) (λ v d t. visit other log v d t) i e (counted s) event ready (visit_grows log depth)
      (λ v d t rising r. visit_depth depth other v d t rising.first r (omega (arith, rising.stamps)) (omega (arith, rising.stamps)))

  -- the figure's own equation: a visit is counted, and its turns visit in the same way
  pub visit_equation : (i e : ℕ) (s : Found) → IsEvent log i e → Ready log i e s.cut
      → visit_at log i e s ≡ sweep (turn (visit_at log) log i e) (worker_count log) (counted s)
  unfolding visit_at visit
  visit_equation i e s event ready =
      turns_same (λ v d t. visit (event_of log i e).stamp log v d t) (visit_at log) i e (counted s) event ready (visit_grows log (event_of log i e).stamp)
      (λ v d t rising r. visit_depth (event_of log i e).stamp (suc (event_of log v d).stamp) v d t rising.first r rising.stamps (omega arith))
