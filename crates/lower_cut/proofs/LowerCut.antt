-- The lower cut that Figure 2 finds is the least consistent cut that holds the breakpoint event, and holds exactly that event and
-- what happened before it. Assumes nothing.
use mathlib.Core.Path.{◌≡◌, refl, ◌∙◌}
use mathlib.Core.Logic.{◌⊎◌, inl, inr, ⊎_elim, ◌≢◌, ◌↔◌}
use mathlib.Core.List.{List}
use Prim.Native.Nat.{ℕ, zero, suc, ◌+◌, ◌<◌, ◌≤◌}
use native.Mathlib.Nat.{not-suc-le-zero, eq-or-lt_of_le, le_of_suc-le-suc}
use native.Mathlib.Omega.{arith}
use lib.ListN.{set, replicate, length-set, length-replicate}
use Rattle.ranges.specs.Fold.{sweep}
use Rattle.ranges.proofs.Tabulate.{get_d_replicate_all}
use Rattle.ranges.proofs.Store.{set_cases}
use Rattle.ranges.proofs.Sweep.{sweep_keeps}
use Rattle.event_log.specs.Model.{Workers, worker_count, event_of, IsEvent}
use Rattle.event_log.proofs.Read.{worker_within}
use Rattle.accept.specs.WellFormed.{WellFormed}
use Rattle.causality.specs.Happened.{HappenedBefore, earlier, through}
use Rattle.lent.specs.Lent.{at}
use Rattle.causality.specs.Cut.{component, IsCut, Consistent, IsLowerCut}
use Rattle.lower_cut.specs.Figure2.{Found, counted, stored, turn, visit, visit_at, beginning, figure2, lower_cut}
use Rattle.causality.proofs.Order.{Rising, happened_rises, happened_from, index_less, consistent_holds}
use Rattle.causality.proofs.Components.{component_covers}
use Rattle.lower_cut.proofs.Recursion.{Ready, Grown, grown_same, grown_through, grown_set, grown_ready, AboveCut, turn_cases, raised_ready}

-- event x of worker w happened before event e of worker i, and its vector is within the cut
pub record Settled (log : Workers) (i e : ℕ) (cut : List ℕ) (w x : ℕ) : Type 0 where
  pub happened : HappenedBefore log w x i e
  pub covered : (v : ℕ) → v < worker_count log → component log w x v ≤ at cut v

-- worker w's word of a cut is the breakpoint event or happened before it, and its vector is within the cut
pub record Held (log : Workers) (i e : ℕ) (cut : List ℕ) (w : ℕ) : Type 0 where
  pub event : ((w ≡ i) × (at cut w ≡ e)) ⊎ HappenedBefore log w (at cut w) i e
  pub covered : (v : ℕ) → v < worker_count log → component log w (at cut w) v ≤ at cut v

-- a visit to event e of worker i, after the turns of n workers: the cut only grew, the event's own components are within it, and
-- each worker's word is as before or settled
pub record Visited (log : Workers) (i e n : ℕ) (cut later : List ℕ) : Type 0 where
  pub grown : Grown cut later
  pub own : (v : ℕ) → v < n → component log i e v ≤ at later v
  pub words : (w : ℕ) → (at later w ≡ at cut w) ⊎ Settled log i e later w (at later w)

module _ (log : Workers) (ok : WellFormed log) where
  -- one turn that does nothing
  visited_idle : (i e k : ℕ) (cut t : List ℕ) → component log i e k ≤ at t k → Visited log i e k cut t → Visited log i e (suc k) cut t
  visited_idle i e k cut t within before =
      record {
        grown = before.grown;
        own = λ v less. ⊎_elim (λ q. rw q within) (before.own v) (eq-or-lt_of_le (le_of_suc-le-suc less));
        words = before.words;
      }

  -- one turn that stores: `u` is the state after the visit to the stored component
  visited_more : (i e k : ℕ) (cut t u : List ℕ) → k < worker_count log → Ready log i e t → AboveCut log i e k t
      → Visited log i e k cut t → Visited log k (component log i e k) (worker_count log) (set t k (component log i e k)) u → Visited log i e (suc k) cut u
  visited_more i e k cut t u h ready raised before now =
      record {
        grown = grown_through before.grown further;
        own = λ v less.
            ⊎_elim (λ q. rw q (omega (arith, (raised_ready log ok i e k t h ready).holds, now.grown.grows k)))
            (λ l. omega (arith, before.own v l, further.grows v)) (eq-or-lt_of_le (le_of_suc-le-suc less));
        words = λ w. ⊎_elim (stays w) (λ s. inr (record { happened = through s.happened raised.happened; covered = s.covered })) (now.words w);
      }
    where
      further : Grown t u
      further = grown_through (grown_set t k (component log i e k) (omega (arith, raised.above))) now.grown

      kept : (w : ℕ) → at u w ≡ at t w → (at u w ≡ at cut w) ⊎ Settled log i e u w (at u w)
      kept w q =
          ⊎_elim (λ same. inl (q ∙ same))
          (λ s. inr (rw q (record { happened = s.happened; covered = λ v l. omega (arith, s.covered v l, further.grows v) })))
          (before.words w)

      stays : (w : ℕ) → at u w ≡ at (set t k (component log i e k)) w → (at u w ≡ at cut w) ⊎ Settled log i e u w (at u w)
      stays w q =
          ⊎_elim (λ c. inr (rw (q ∙ c.1, c.0) (record { happened = raised.happened; covered = now.own }))) (λ c. kept w (q ∙ c.1))
          (set_cases t k (component log i e k) 0 w (rw ready.long h))

  -- the first n turns of a visit whose own visits are as they should be
  pub turns_visited : (go : ℕ → ℕ → Found → Found) (i e n : ℕ) (s : Found) → n ≤ worker_count log → IsEvent log i e → Ready log i e s.cut
      → ((v d : ℕ) (t : Found) → Rising log v d i e → Ready log v d t.cut → Visited log v d (worker_count log) t.cut (go v d t).cut)
      → Visited log i e n s.cut (sweep (turn go log i e) n s).cut
  turns_visited go i e n s few event ready each =
      sweep_keeps (turn go log i e) (λ k t. Visited log i e k s.cut t.cut) n s
      (record { grown = grown_same s.cut; own = λ v h. absurd (not-suc-le-zero h); words = λ w. inl refl })
      (λ k t h before.
      let now = grown_ready ready before.grown in
      let d = component log i e k in
      ⊎_elim
      (λ idle. rw (idle.1 go) (visited_idle i e k s.cut t.cut idle.0 before))
      (λ up.
      rw (up.1 go)
      (visited_more i e k s.cut t.cut (go k d (stored t k d)).cut (omega arith) now up.0 before
      (each k d (stored t k d) (happened_rises log ok up.0.happened) (raised_ready log ok i e k t.cut (omega arith) now))))
      (turn_cases log ok i e k t event now))

  -- a visit with enough depth
  pub visited : (depth i e : ℕ) (s : Found) → IsEvent log i e → Ready log i e s.cut → (event_of log i e).stamp < depth
      → Visited log i e (worker_count log) s.cut (visit depth log i e s).cut
  unfolding visit
  visited zero i e s event ready enough = absurd (not-suc-le-zero enough)
  visited (suc depth) i e s event ready enough =
      turns_visited (λ v d t. visit depth log v d t) i e (worker_count log) (counted s) (omega arith) event ready
      (λ v d t rising r. visited depth v d t rising.first r (omega (arith, rising.stamps)))

  -- the figure's visit
  pub visit_at_visited : (i e : ℕ) (s : Found) → IsEvent log i e → Ready log i e s.cut → Visited log i e (worker_count log) s.cut (visit_at log i e s).cut
  unfolding visit_at
  visit_at_visited i e s event ready = visited (suc (event_of log i e).stamp) i e s event ready (omega arith)

  -- a visit, or its first turns, keeps a cut a cut
  pub visited_cut : (i e n : ℕ) (cut later : List ℕ) → IsCut log cut → Visited log i e n cut later → IsCut log later
  visited_cut i e n cut later is v =
      record {
        long = v.grown.long ∙ is.long;
        within = λ w. ⊎_elim (λ q. omega (arith, is.within w)) (λ s. (happened_rises log ok s.happened).first.1) (v.words w);
      }

-- the words that the search begins with
pub beginning_words : (log : Workers) (i e : ℕ) → i < worker_count log → (w : ℕ)
    → ((w ≡ i) × (at (beginning log i e).cut w ≡ e)) ⊎ ((w ≢ i) × (at (beginning log i e).cut w ≡ 0))
unfolding beginning
beginning_words log i e h w =
    ⊎_elim inl (λ c. inr (c.0, c.1 ∙ get_d_replicate_all (worker_count log) w 0)) (set_cases (replicate (worker_count log) 0) i e 0 w (rw (length-replicate {A = ℕ} (worker_count log) 0) h))

-- .. hold the breakpoint event
pub beginning_ready : (log : Workers) (i e : ℕ) → i < worker_count log → Ready log i e (beginning log i e).cut
unfolding beginning
beginning_ready log i e h =
    record {
      long = simp (length-set, length-replicate);
      holds = ⊎_elim (λ c. omega (arith, c.1)) (λ c. absurd (c.0 refl)) (beginning_words log i e h i);
    }

-- .. and are a cut
pub beginning_cut : (log : Workers) (i e : ℕ) → IsEvent log i e → IsCut log (beginning log i e).cut
beginning_cut log i e event =
    let within = worker_within log i 0 (omega arith) in
    record {
      long = (beginning_ready log i e within).long;
      within = λ w. ⊎_elim (λ c. rw (c.1, c.0) event.1) (λ c. omega (arith, c.1)) (beginning_words log i e within w);
    }

module _ (log : Workers) (ok : WellFormed log) (i e : ℕ) (event : IsEvent log i e) where
  within : i < worker_count log
  within = worker_within log i 0 (omega arith)

  figure2_visited : Visited log i e (worker_count log) (beginning log i e).cut (lower_cut log i e)
  unfolding figure2
  figure2_visited = visit_at_visited log ok i e (beginning log i e) event (beginning_ready log i e within)

  lower_holds : e ≤ at (lower_cut log i e) i
  lower_holds = omega (arith, (beginning_ready log i e within).holds, figure2_visited.grown.grows i)

  -- the breakpoint's worker has the breakpoint event as its word
  pub lower_own : at (lower_cut log i e) i ≡ e
  lower_own =
      ⊎_elim (λ q. ⊎_elim (λ c. q ∙ c.1) (λ c. absurd (c.0 refl)) (beginning_words log i e within i))
      (λ s. let r = happened_rises log ok s.happened in
      let less = index_less log ok i (at (lower_cut log i e) i) e r.first.1 r.stamps in
      let no : ⊥ = omega (arith, lower_holds) in absurd no)
      (figure2_visited.words i)

  -- each worker's word is 0, or that of the breakpoint event or of one that happened before it, with its vector within the cut
  pub lower_words : (w : ℕ) → (at (lower_cut log i e) w ≡ 0) ⊎ Held log i e (lower_cut log i e) w
  lower_words w =
      ⊎_elim (λ q. ⊎_elim (λ c. inr (own c.0 (q ∙ c.1))) (λ c. inl (q ∙ c.1)) (beginning_words log i e within w))
      (λ s. inr (record { event = inr s.happened; covered = s.covered }))
      (figure2_visited.words w)
    where
      own : w ≡ i → at (lower_cut log i e) w ≡ e → Held log i e (lower_cut log i e) w
      own p q = record { event = inl (p, q); covered = λ v h. rw (q, p) (figure2_visited.own v h) }

  lower_cut_lem : IsCut log (lower_cut log i e)
  lower_cut_lem = visited_cut log ok i e (worker_count log) (beginning log i e).cut (lower_cut log i e) (beginning_cut log i e event) figure2_visited

  lower_consistent : Consistent log (lower_cut log i e)
  lower_consistent =
      record {
        is_cut = lower_cut_lem;
        closed = λ w k less r.
            ⊎_elim (λ q. let no : ⊥ = omega arith in absurd no)
            (λ s. omega (arith, component_covers log ok w (at (lower_cut log i e) w) k less r, s.covered (event_of log w (k + 1)).peer (ok.sent w (k + 1) r).within))
            (lower_words w);
      }

  -- Figure 2 finds "the least consistent cut whose component i is at least e"
  pub lower_is : IsLowerCut log i e (lower_cut log i e)
  lower_is =
      record {
        consistent = lower_consistent;
        holds = lower_holds;
        least = λ other good h w.
            ⊎_elim (λ q. omega arith)
            (λ s. ⊎_elim (λ c. rw (c.1, c.0) h) (λ b. consistent_holds log ok other good b h) s.event)
            (lower_words w);
      }

  -- an event is within the lower cut exactly when it is the breakpoint event or happened before it
  pub lower_happened : (w x : ℕ) → IsEvent log w x → (x ≤ at (lower_cut log i e) w) ↔ (((w ≡ i) × (x ≡ e)) ⊎ HappenedBefore log w x i e)
  lower_happened w x is = (to, from)
    where
      to : x ≤ at (lower_cut log i e) w → ((w ≡ i) × (x ≡ e)) ⊎ HappenedBefore log w x i e
      to h =
          ⊎_elim (λ q. let no : ⊥ = omega arith in absurd no)
          (λ s. ⊎_elim
          (λ c. ⊎_elim (λ q. inl (c.0, q ∙ c.1)) (λ less. let l : x < e = omega (arith, c.1) in inr (rw c.0 (earlier is.0 l event.1))) (eq-or-lt_of_le h))
          (λ b. inr (happened_from log ok x (at (lower_cut log i e) w) is.0 h b))
          s.event)
          (lower_words w)

      from : ((w ≡ i) × (x ≡ e)) ⊎ HappenedBefore log w x i e → x ≤ at (lower_cut log i e) w
      from =
          ⊎_elim (λ c. rw (c.0, c.1) lower_holds) (λ b. consistent_holds log ok (lower_cut log i e) lower_consistent b lower_holds)
