-- Figure 2 makes at most one visit more than there are receives within the lower cut: a measure of the cut that each store raises
-- bounds the visits, and the receives whose send is within the cut so far are such a measure. Assumes nothing.
use mathlib.Core.Path.{◌≡◌, refl}
use mathlib.Core.Logic.{◌⊎◌, inl, inr, ⊎_elim}
use mathlib.Core.Bool.{Bool, true, false, cond, ◌&&◌}
use mathlib.Core.List.{List}
use Prim.Native.Nat.{ℕ, zero, suc, ◌+◌, ◌*◌, ◌^◌, ◌<◌, ◌≤◌}
use native.Mathlib.Omega.{arith}
use borrow.Author.Tests.{le-leb, lt-leb, leb-true}
use lib.Dec.{leb, ltb}
use lib.ListN.{set}
use lib.Seq.{get_or-set_same}
use Rattle.ranges.specs.Fold.{sum_below, sweep}
use Rattle.ranges.proofs.Sum.{sum_bound, sum_le, sum_lt}
use Rattle.ranges.proofs.Sweep.{sweep_keeps}
use Rattle.event_log.specs.Limits.{max_workers, max_events}
use Rattle.event_log.specs.Model.{Workers, worker_count, event_of, IsEvent}
use Rattle.records.specs.Event.{is_receive, received}
use Rattle.event_log.proofs.Read.{worker_within}
use Rattle.accept.specs.WellFormed.{WellFormed}
use Rattle.lent.specs.Lent.{at}
use Rattle.causality.specs.Cut.{component, IsCut, Consistent, receive_at, receives_of, receives_within}
use Rattle.lower_cut.specs.Figure2.{Found, counted, stored, turn_if, turn, visit, visit_at, beginning, figure2, lower_cut}
use Rattle.lower_cut.specs.Inner.Visiting.{word_sum}
use Rattle.causality.proofs.Order.{happened_rises, consistent_holds}
use Rattle.lower_cut.proofs.Recursion.{Ready, Grown, grown_set, grown_ready, AboveCut, turn_cases, turn_grows, raised_ready, visit_grows, visit_at_grows}
use Rattle.lower_cut.proofs.LowerCut.{beginning_ready, lower_is}

-- a measure of the cut that each store of a visit raises, while the visited events have H
abbrev pub Raises : Workers → (List ℕ → ℕ) → (ℕ → ℕ → Type 0) → Type 0
Raises log measure H =
    (i e v : ℕ) (cut : List ℕ) → IsEvent log i e → Ready log i e cut → v < worker_count log → H i e → AboveCut log i e v cut
    → (measure cut < measure (set cut v (component log i e v))) × H v (component log i e v)

-- visits that a measure bounds: at most one more than the measure rises
abbrev pub Bounded : Workers → (List ℕ → ℕ) → (ℕ → ℕ → Type 0) → (ℕ → ℕ → Found → Found) → Type 0
Bounded log measure H go =
    (i e : ℕ) (s : Found) → IsEvent log i e → Ready log i e s.cut → H i e → (go i e s).visits + measure s.cut ≤ s.visits + 1 + measure (go i e s).cut

module _ (log : Workers) (ok : WellFormed log) (measure : List ℕ → ℕ) (H : ℕ → ℕ → Type 0) (raises : Raises log measure H) where
  -- the first n turns of a visit make at most as many visits as the measure rises
  pub turns_bounded : (go : ℕ → ℕ → Found → Found) → ((v d : ℕ) (t : Found) → Grown t.cut (go v d t).cut) → Bounded log measure H go
      → (i e n : ℕ) (s : Found) → n ≤ worker_count log → IsEvent log i e → Ready log i e s.cut → H i e
      → Ready log i e (sweep (turn go log i e) n s).cut
      × ((sweep (turn go log i e) n s).visits + measure s.cut ≤ s.visits + measure (sweep (turn go log i e) n s).cut)
  turns_bounded go grows bounded i e n s few event ready has =
      sweep_keeps (turn go log i e)
      (λ k t. Ready log i e t.cut × (t.visits + measure s.cut ≤ s.visits + measure t.cut))
      n s (ready, omega arith)
      (λ k t h before.
      let d = component log i e k in (
        grown_ready before.0 (turn_grows log go grows i e k t),
        ⊎_elim (λ idle. rw (idle.1 go) before.1)
            (λ up.
            let up_raises = raises i e k t.cut event before.0 (omega arith) has up.0 in
            let event' = (happened_rises log ok up.0.happened).first in
            let b = bounded k d (stored t k d) event' (raised_ready log ok i e k t.cut (omega arith) before.0) up_raises.1 in
            rw (up.1 go) (omega (arith, b, up_raises.0, before.1)))
            (turn_cases log ok i e k t event before.0),
      ))

  -- a visit of any depth
  pub visit_bounded : (depth : ℕ) → Bounded log measure H (λ i e s. visit depth log i e s)
  unfolding visit
  visit_bounded zero i e s event ready has = omega arith
  visit_bounded (suc depth) i e s event ready has =
      (turns_bounded (λ v d t. visit depth log v d t) (visit_grows log depth) (visit_bounded depth) i e (worker_count log) (counted s) (omega arith) event ready has).1

-- the visit with enough depth
pub visit_at_bounded : (log : Workers) → WellFormed log → (measure : List ℕ → ℕ) (H : ℕ → ℕ → Type 0) → Raises log measure H → Bounded log measure H (visit_at log)
unfolding visit_at
visit_at_bounded log ok measure H raises i e s event ready has = visit_bounded log ok measure H raises (suc (event_of log i e).stamp) i e s event ready has

-- a turn takes no visit back, where its visits take none back
turn_rises : (log : Workers) (go : ℕ → ℕ → Found → Found) → ((v d : ℕ) (t : Found) → t.visits ≤ (go v d t).visits) → (i e v : ℕ) (t : Found) → t.visits ≤ (turn go log i e v t).visits
unfolding turn turn_if
turn_rises log go each i e v t = test (ltb (at t.cut v) (component log i e v))
  where
    test : (b : Bool) → t.visits ≤ (turn_if b go v (component log i e v) t).visits
    test true = each v (component log i e v) (stored t v (component log i e v))
    test false = omega arith

-- a visit of any depth takes no visit back
visit_rises : (log : Workers) (depth i e : ℕ) (s : Found) → s.visits ≤ (visit depth log i e s).visits
unfolding visit
visit_rises log zero i e s = omega arith
visit_rises log (suc depth) i e s =
    sweep_keeps (turn (λ v d t. visit depth log v d t) log i e) (λ k t. s.visits ≤ t.visits) (worker_count log) (counted s) (omega arith)
    (λ k t h before. let more = turn_rises log (λ v d u. visit depth log v d u) (visit_rises log depth) i e k t in omega arith)

-- the visit with enough depth counts itself
pub visit_at_counts : (log : Workers) (i e : ℕ) (s : Found) → s.visits < (visit_at log i e s).visits
unfolding visit_at visit
visit_at_counts log i e s =
    let depth = (event_of log i e).stamp in
    sweep_keeps (turn (λ v d t. visit depth log v d t) log i e) (λ k t. s.visits < t.visits) (worker_count log) (counted s) (omega arith)
    (λ k t h before. let more = turn_rises log (λ v d u. visit depth log v d u) (visit_rises log depth) i e k t in omega arith)

-- the first n turns of a visit leave the cut as it is, or make a visit
pub turns_counted : (log : Workers) (ok : WellFormed log) (i e n : ℕ) (s : Found) → n ≤ worker_count log → IsEvent log i e → Ready log i e s.cut
    → ((sweep (turn (visit_at log) log i e) n (counted s)).cut ≡ s.cut) ⊎ (s.visits + 1 < (sweep (turn (visit_at log) log i e) n (counted s)).visits)
turns_counted log ok i e n s few event ready =
    (sweep_keeps (turn (visit_at log) log i e)
    (λ k t. Ready log i e t.cut × ((s.visits + 1 ≤ t.visits) × ((t.cut ≡ s.cut) ⊎ (s.visits + 1 < t.visits))))
    n (counted s) (ready, (omega arith, inl refl))
    (λ k t h before.
    let d = component log i e k in (
      grown_ready before.0 (turn_grows log (visit_at log) (visit_at_grows log) i e k t),
      ⊎_elim (λ idle. rw (idle.1 (visit_at log)) before.1)
          (λ up. let more = visit_at_counts log k d (stored t k d) in rw (up.1 (visit_at log)) (omega (arith, before.1.0), inr (omega (arith, before.1.0))))
          (turn_cases log ok i e k t event before.0),
    ))).1.1

-- a store raises the sum of the words
pub words_raise : (log : Workers) → Raises log (word_sum log) (λ i e. Unit {0})
unfolding word_sum
words_raise log i e v cut event ready h has raised =
    let d = component log i e v in
    let grown = grown_set cut v d (omega (arith, raised.above)) in
    let same = get_or-set_same cut v d 0 (rw ready.long h) in
    (sum_lt (at cut) (at (set cut v d)) (worker_count log) (λ w l. grown.grows w) v h (omega (arith, raised.above)), tt)

-- the words of a cut are no more than the events that a log may have
pub words_few : (log : Workers) → WellFormed log → (cut : List ℕ) → IsCut log cut → word_sum log cut ≤ max_workers * max_events
unfolding word_sum
words_few log ok cut is =
    let sum = sum_bound (at cut) (worker_count log) max_events (λ w h. omega (arith, is.within w, ok.events w)) in
    omega (arith, ok.few)

-- a visit's first n turns: the visits made since it began are at most one more than what the words' sum rose by
pub turns_visits : (log : Workers) → WellFormed log → (i e n : ℕ) (s : Found) → n ≤ worker_count log → IsEvent log i e → Ready log i e s.cut
    → (sweep (turn (visit_at log) log i e) n (counted s)).visits + word_sum log s.cut
    ≤ s.visits + 1 + word_sum log (sweep (turn (visit_at log) log i e) n (counted s)).cut
turns_visits log ok i e n s few event ready =
    (turns_bounded log ok (word_sum log) (λ v d. Unit {0}) (words_raise log) (visit_at log) (visit_at_grows log)
    (visit_at_bounded log ok (word_sum log) (λ v d. Unit {0}) (words_raise log)) i e n (counted s) few event ready tt).1

-- ---- the receives within a cut whose send is within the cut so far are such a measure
-- 1 where event k + 1 of worker w is a receive whose send is within the cut, else 0
unfoldable pub known_at : Workers → List ℕ → ℕ → ℕ → ℕ
known_at log cut w k = cond (is_receive (event_of log w (k + 1)) && leb (event_of log w (k + 1)).send (at cut (event_of log w (k + 1)).peer)) 1 0

-- such receives of worker w within the final cut
unfoldable pub known_of : Workers → List ℕ → List ℕ → ℕ → ℕ
known_of log final cut w = sum_below (known_at log cut w) (at final w)

-- such receives of all workers
unfoldable pub known : Workers → List ℕ → List ℕ → ℕ
known log final cut = sum_below (known_of log final cut) (worker_count log)

known_receive : (log : Workers) (cut : List ℕ) (w k : ℕ) → known_at log cut w k ≤ receive_at log w k
unfolding known_at receive_at received
known_receive log cut w k = test (is_receive (event_of log w (k + 1))) (leb (event_of log w (k + 1)).send (at cut (event_of log w (k + 1)).peer))
  where
    test : (b c : Bool) → cond (b && c) 1 0 ≤ cond {A = ℕ} b 1 0
    test true true = omega arith
    test true false = omega arith
    test false c = omega arith

known_grows : (log : Workers) (cut later : List ℕ) → Grown cut later → (w k : ℕ) → known_at log cut w k ≤ known_at log later w k
unfolding known_at
known_grows log cut later grown w k = test (is_receive (event_of log w (k + 1))) (leb send (at cut peer)) refl
  where
    send : ℕ
    send = (event_of log w (k + 1)).send

    peer : ℕ
    peer = (event_of log w (k + 1)).peer

    test : (b c : Bool) → leb send (at cut peer) ≡ c → cond (b && c) 1 0 ≤ cond {A = ℕ} (b && leb send (at later peer)) 1 0
    test true true q = let less = leb-true send (at cut peer) q in rw (le-leb send (at later peer) (omega (arith, grown.grows peer))) (omega arith)
    test true false q = omega arith
    test false c q = omega arith

known_new : (log : Workers) (cut later : List ℕ) (w k : ℕ) → is_receive (event_of log w (k + 1)) ≡ true
    → at cut (event_of log w (k + 1)).peer < (event_of log w (k + 1)).send → (event_of log w (k + 1)).send ≤ at later (event_of log w (k + 1)).peer
    → known_at log cut w k < known_at log later w k
unfolding known_at
known_new log cut later w k r before after =
    let send = (event_of log w (k + 1)).send in
    let peer = (event_of log w (k + 1)).peer in
    rw (r, lt-leb send (at cut peer) before, le-leb send (at later peer) after) (omega arith)

-- a store makes one more receive's send known
pub known_raise : (log : Workers) → WellFormed log → (final : List ℕ) → Consistent log final → Raises log (known log final) (λ i e. e ≤ at final i)
unfolding known known_of
known_raise log ok final good i e v cut event ready h has raised =
    let d = component log i e v in
    let later = set cut v d in
    let k = raised.receive in
    let by = raised.named in
    let grown = grown_set cut v d (omega (arith, raised.above)) in
    let stored_word = get_or-set_same cut v d 0 (rw ready.long h) in
    let new = known_new log cut later i k by.receive (rw (by.peer, by.send) raised.above) (rw (by.peer, by.send) (omega arith)) in
    let here = sum_lt (known_at log cut i) (known_at log later i) (at final i) (λ j l. known_grows log cut later grown i j) k (omega (arith, by.below)) new in (
      sum_lt (known_of log final cut) (known_of log final later) (worker_count log)
          (λ w l. sum_le (known_at log cut w) (known_at log later w) (at final w) (λ j m. known_grows log cut later grown w j))
          i (worker_within log i 0 (omega arith)) here,
      consistent_holds log ok final good raised.happened has,
    )

-- the known receives are receives within the cut
pub known_few : (log : Workers) (final cut : List ℕ) → known log final cut ≤ receives_within log final
unfolding known known_of receives_within receives_of
known_few log final cut =
    sum_le (known_of log final cut) (receives_of log final) (worker_count log)
    (λ w h. sum_le (known_at log cut w) (receive_at log w) (at final w) (λ k l. known_receive log cut w k))

-- a cut has no more receives than events, and no more events than a log may have
pub receives_few : (log : Workers) → WellFormed log → (cut : List ℕ) → IsCut log cut → receives_within log cut ≤ max_workers * max_events
unfolding receives_within receives_of receive_at received word_sum
receives_few log ok cut is =
    let sum : receives_within log cut ≤ word_sum log cut =
    sum_le (receives_of log cut) (at cut) (worker_count log)
    (λ w h. let each = sum_bound (receive_at log w) (at cut w) 1 (λ k l. one (is_receive (event_of log w (k + 1)))) in omega arith) in
    omega (arith, words_few log ok cut is)
  where
    one : (b : Bool) → cond b 1 0 ≤ 1
    one true = omega arith
    one false = omega arith

module _ (log : Workers) (ok : WellFormed log) (i e : ℕ) (event : IsEvent log i e) where
  -- at most one visit more than the receives within any consistent cut that holds the breakpoint event
  pub visits_within : (cut : List ℕ) → Consistent log cut → e ≤ at cut i → (figure2 log i e).visits ≤ 1 + receives_within log cut
  unfolding figure2 beginning
  visits_within cut good holds =
      let b = visit_at_bounded log ok (known log cut) (λ v d. d ≤ at cut v) (known_raise log ok cut good) i e (beginning log i e) event
      (beginning_ready log i e (worker_within log i 0 (omega arith))) holds in
      omega (arith, b, known_few log cut (lower_cut log i e))

  -- "Visits" is at most one more than the receives within the lower cut
  pub visits_few : (figure2 log i e).visits ≤ 1 + receives_within log (lower_cut log i e)
  visits_few = let is = lower_is log ok i e event in visits_within (lower_cut log i e) is.consistent is.holds

  -- .. and fits a word of 64 bits
  pub visits_fit : (figure2 log i e).visits < 2 ^ 64
  visits_fit = omega (arith, visits_few, receives_few log ok (lower_cut log i e) (lower_is log ok i e event).consistent.is_cut)
