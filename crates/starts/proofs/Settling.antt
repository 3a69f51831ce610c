-- The starts while workers are rolled back: looking at an event keeps what holds of them, and they are the plan's when no event is left to
-- look at.
-- Assumes nothing.
use mathlib.Core.Path.{◌≡◌, refl, sym, ◌∙◌, ap, subst}
use mathlib.Core.Logic.{⊎_elim}
use mathlib.Core.Bool.{Bool, true, false, cond}
use mathlib.Core.List.{List}
use Prim.Native.Nat.{ℕ, ◌+◌, ◌-◌, ◌*◌, ◌<◌, ◌≤◌}
use native.Mathlib.Omega.{arith}
use lib.ListN.{length, set, length-set}
use lib.Seq.{get_or-set_same, get_or-set_other, set-set}
use Rattle.ranges.specs.Fold.{sum_below}
use Rattle.ranges.proofs.Order.{lt_or_le, at_or_other, climbing}
use Rattle.ranges.proofs.Sum.{sum_lt}
use Rattle.ranges.proofs.Tabulate.{length_tabulate, get_d_tabulate_past}
use Rattle.records.specs.declared.Event.{Event}
use Rattle.records.specs.declared.Checkpoint.{Checkpoint}
use Rattle.event_log.specs.Model.{Workers, worker_count, event_of, checkpoint_count, checkpoint_of, IsEvent}
use Rattle.records.specs.Event.{is_unlogged}
use Rattle.event_log.proofs.Read.{worker_within, count_past}
use Rattle.event_log.specs.Layout.{workers_of}
use Rattle.accept.specs.Refusal.{log_refusal}
use Rattle.accept.specs.WellFormed.{WellFormed}
use Rattle.accept.proofs.Accepted.{well_formed}
use Rattle.lent.specs.Lent.{at}
use Rattle.causality.specs.Cut.{IsCut}
use Rattle.choice.specs.Choice.{may_choose, IsChoice, starts_of, Startable, loses_send}
use Rattle.restore_plan.specs.Plan.{identifier_of, identifier_at}
use Rattle.cost.specs.Words.{start_in, cuts_in, starts_in}
use Rattle.starts.specs.Inner.Rollback.{number_in, number_below, placed, resent, RollingBack, Looked, Settled}
use Rattle.choice.proofs.Choosable.{may_recorded}
use Rattle.choice.proofs.Startable.{starts_at, unlogged_receive, lost_send, keeps_send}
use Rattle.restore_plan.proofs.Chosen.{IndexOffered, choice_starts, identifier_last}
use Rattle.restore_plan.proofs.Latest.{AreLatest, latest_is_plan}
use Rattle.cost.proofs.Held.{starts_in_at, cuts_are}
use Rattle.starts.proofs.Placed.{IsBelow, number_below_lem, placed_length, placed_cut, placed_start, placed_start_other, placed_number, placed_number_other}

-- a choice's checkpoint with index below the bound is at most the last one
pub below_most : (log : Workers) → WellFormed log → (cut : List ℕ) (p bound r : ℕ) → p < worker_count log → IsBelow log p bound (checkpoint_count log p) r
    → (other : List Checkpoint) → IsChoice log cut other → at (starts_of other) p < bound → at (starts_of other) p ≤ (checkpoint_of log p r).index
below_most log ok cut p bound r here below other is less =
    let o = is.offered p here in
    let d = o.0 in
    let recorded : d ≤ checkpoint_count log p = may_recorded log p d o.1 in
    let index : (checkpoint_of log p d).index ≡ at (starts_of other) p = ap (λ (q : Checkpoint). q.index) o.2 ∙ sym (starts_at other p) in
    ⊎_elim
    (λ l. let no : ⊥ = omega (arith, below.later d l recorded o.1) in absurd no)
    (λ l. omega (arith, climbing (λ k. (checkpoint_of log p k).index) (checkpoint_count log p) (ok.ordered p) d r l below.low))
    (lt_or_le r d)

-- ---- one worker rolled back
module _ (log : Workers) (ok : WellFormed log) (cut words looked : List ℕ) (state : RollingBack log cut words looked)
    (p : ℕ) (here : p < worker_count log) (s : ℕ) (some : 0 < s) (low : s ≤ start_in words p)
    (needed : (other : List Checkpoint) → IsChoice log cut other → Startable log cut (starts_of other) → at (starts_of other) p < s)
    (number : ℕ) (below : IsBelow log p s (number_in words p) number) where
  wide : 3 * p + 3 ≤ length words
  wide = omega (arith, state.wide)

  -- every later checkpoint is at or after the send
  last_below_lem : IsBelow log p s (checkpoint_count log p) number
  last_below_lem =
      record {
        low = omega (arith, below.low, may_recorded log p _ (state.may p here));
        may = below.may;
        index = below.index;
        later = λ d above inside may.
            ⊎_elim (λ l. let m = state.last p d here l may in omega arith) (λ l. below.later d above l may) (lt_or_le (number_in words p) d);
      }

  rolled_starts : (v : ℕ) → start_in (placed log words p number) v ≤ start_in words v
  rolled_starts =
      at_or_other p (λ v. start_in (placed log words p number) v ≤ start_in words v)
      (rw (placed_start log words p number wide) (omega (arith, below.index)))
      (λ v n. rw (placed_start_other log words p number v n) (omega arith))

  rolled_one : RollingBack log cut (placed log words p number) looked
  rolled_one =
      record {
        wide = placed_length log words p number ∙ state.wide;
        long = state.long;
        cuts = λ w h. placed_cut log words p number w ∙ state.cuts w h;
        may = at_or_other p (λ w. w < worker_count log → may_choose log w (number_in (placed log words p number) w) ≡ true)
            (λ h. rw (placed_number log words p number wide) below.may)
            (λ w n h. rw (placed_number_other log words p number w n) (state.may w h));
        index = at_or_other p (λ w. w < worker_count log → (checkpoint_of log w (number_in (placed log words p number) w)).index ≡ start_in (placed log words p number) w)
            (λ h. rw (placed_number log words p number wide, placed_start log words p number wide))
            (λ w n h. rw (placed_number_other log words p number w n, placed_start_other log words p number w n) (state.index w h));
        last = λ w d.
            at_or_other p
            (λ v. v < worker_count log → number_in (placed log words p number) v < d → may_choose log v d ≡ true → start_in (placed log words p number) v < (checkpoint_of log v d).index)
            (λ h l may. rw (placed_start log words p number wide) (omega (arith, below.index, last_below_lem.later d (rw (placed_number log words p number wide) at l) (may_recorded log p d may) may)))
            (λ v n h l may. rw (placed_start_other log words p number v n) (state.last v d h (rw (placed_number_other log words p number v n) at l) may))
            w;
        within = λ w h. omega (arith, rolled_starts w, state.within w h);
        looks = state.looks;
        kept = λ w k seen inside unlogged. omega (arith, rolled_starts (event_of log w (k + 1)).peer, state.kept w k seen inside unlogged);
        above = λ other is startable.
            at_or_other p (λ w. w < worker_count log → at (starts_of other) w ≤ start_in (placed log words p number) w)
            (λ h. rw (placed_start log words p number wide) (below_most log ok cut p s number here last_below_lem other is (needed other is startable)))
            (λ w n h. rw (placed_start_other log words p number w n) (state.above other is startable w h));
      }

-- ---- an event looked at
module _ (log : Workers) (ok : WellFormed log) (cut : List ℕ) (is_cut : IsCut log cut) (words looked : List ℕ) (state : RollingBack log cut words looked)
    (w k : ℕ) (after : start_in words w ≤ k) (inside : k < at cut w) where
  abbrev e : Event
  e = event_of log w (k + 1)

  here : w < worker_count log
  here = worker_within log w k (omega (arith, is_cut.within w))

  -- no startable choice has its sender at or after the send
  needed : is_unlogged e ≡ true → (other : List Checkpoint) → IsChoice log cut other → Startable log cut (starts_of other) → at (starts_of other) e.peer < e.send
  needed q other is startable = startable w k (omega (arith, state.above other is startable w here)) inside q

  -- after it, what holds of the words holds again, no start is later, and the event can be sent again
  record Resent (words' : List ℕ) : Type 0 where
    rolling : RollingBack log cut words' looked
    starts : (v : ℕ) → start_in words' v ≤ start_in words v
    kept : is_unlogged e ≡ true → start_in words' e.peer < e.send

  resent_rolling : Resent (resent log e words)
  unfolding resent
  resent_rolling = go (loses_send e (start_in words e.peer)) refl
    where
      go : (b : Bool) → loses_send e (start_in words e.peer) ≡ b
          → Resent (cond b (placed log words e.peer (number_below log e.peer e.send (number_in words e.peer))) words)
      go false q = record { rolling = state; starts = λ v. omega arith; kept = keeps_send e (start_in words e.peer) q }
      go true q =
          let lost = lost_send e (start_in words e.peer) q in
          let p = lost.unlogged in
          let low = lost.low in
          let sent = ok.sent w (k + 1) (unlogged_receive e p) in
          let number = number_below log e.peer e.send (number_in words e.peer) in
          let below = number_below_lem log e.peer e.send (number_in words e.peer) sent.positive in
          record {
            rolling = rolled_one log ok cut words looked state e.peer sent.within e.send sent.positive low (needed p) number below;
            starts = rolled_starts log ok cut words looked state e.peer sent.within e.send sent.positive low (needed p) number below;
            kept = λ t. rw (placed_start log words e.peer number (omega (arith, state.wide, sent.within))) below.index;
          }

  -- and it has been looked at
  looked_rolling : (words' : List ℕ) → Resent words' → at looked w ≡ k + 1 → RollingBack log cut words' (set looked w k)
  looked_rolling words' r e =
      let l = r.rolling in
      let short : w < length looked = omega (arith, here, state.long) in
      record {
        wide = l.wide;
        long = simp length-set state.long;
        cuts = l.cuts;
        may = l.may;
        index = l.index;
        last = l.last;
        within = l.within;
        looks = at_or_other w (λ v. at (set looked w k) v ≤ at cut v)
            (rw (get_or-set_same looked w k 0 short) (omega arith))
            (λ v n. rw (get_or-set_other looked w v k 0 n) (state.looks v));
        kept = at_or_other w
            (λ v. (j : ℕ) → at (set looked w k) v ≤ j → j < at cut v → is_unlogged (event_of log v (j + 1)) ≡ true → start_in words' (event_of log v (j + 1)).peer < (event_of log v (j + 1)).send)
            (λ j seen within. here_kept j (rw (get_or-set_same looked w k 0 short) at seen) within)
            (λ v n j seen. l.kept v j (rw (get_or-set_other looked w v k 0 n) at seen));
        above = l.above;
      }
    where
      here_kept : (j : ℕ) → k ≤ j → j < at cut w → is_unlogged (event_of log w (j + 1)) ≡ true → start_in words' (event_of log w (j + 1)).peer < (event_of log w (j + 1)).send
      here_kept j seen within =
          ⊎_elim
          (λ m. r.rolling.kept w j (omega arith) within)
          (λ m. subst (λ (i : ℕ). is_unlogged (event_of log w (i + 1)) ≡ true → start_in words' (event_of log w (i + 1)).peer < (event_of log w (i + 1)).send) (omega arith) r.kept)
          (lt_or_le k j)

-- ---- the events of a worker
module _ (log : Workers) (ok : WellFormed log) (cut : List ℕ) (is_cut : IsCut log cut) (words₀ looked₀ words looked : List ℕ) (so : Looked log cut words₀ looked₀ words looked)
    (w : ℕ) (here : w < worker_count log) (some : start_in words w < at looked w) where
  -- one event more
  pub looked_more : Looked log cut words₀ looked₀ (resent log (event_of log w (at looked w)) words) (set looked w (at looked w - 1))
  looked_more =
      let state = so.rolling in
      let k = at looked w - 1 in
      let next : k + 1 ≡ at looked w = omega arith in
      let short : w < length looked = omega (arith, here, state.long) in
      let r = resent_rolling log ok cut is_cut words looked state w k (omega arith) (omega (arith, state.looks w)) in
      let l = looked_rolling log ok cut is_cut words looked state w k (omega arith) (omega (arith, state.looks w)) (resent log (event_of log w (k + 1)) words) r (sym next) in
      record {
        rolling = rw next at l;
        starts = λ v. omega (arith, so.starts v, rw next at (r.starts v));
        looks = at_or_other w (λ v. at (set looked w k) v ≤ at looked₀ v)
            (rw (get_or-set_same looked w k 0 short) (omega (arith, so.looks w)))
            (λ v n. rw (get_or-set_other looked w v k 0 n) (so.looks v));
      }

-- while the events of worker w are looked at: those from x + 1 on have been, and w starts where it did
pub record Looking (log : Workers) (cut words₀ looked₀ : List ℕ) (w start : ℕ) (words : List ℕ) (x : ℕ) : Type 0 where
  pub looked : Looked log cut words₀ looked₀ words (set looked₀ w x)
  pub own : start_in words w ≡ start

module _ (log : Workers) (ok : WellFormed log) (cut : List ℕ) (is_cut : IsCut log cut) (words₀ looked₀ : List ℕ) (w : ℕ) (here : w < worker_count log)
    (start : ℕ) (words : List ℕ) (x : ℕ) (so : Looking log cut words₀ looked₀ w start words x) where
  short : w < length looked₀
  short = omega (arith, here, length-set looked₀ w x, so.looked.rolling.long)

  at_x : at (set looked₀ w x) w ≡ x
  at_x = get_or-set_same looked₀ w x 0 short

  -- the sender is another worker
  own_start : start_in (resent log (event_of log w x) words) w ≡ start_in words w
  unfolding resent
  own_start = go (loses_send e (start_in words e.peer)) refl
    where
      e : Event
      e = event_of log w x

      go : (b : Bool) → loses_send e (start_in words e.peer) ≡ b
          → start_in (cond b (placed log words e.peer (number_below log e.peer e.send (number_in words e.peer))) words) w ≡ start_in words w
      go false p = refl
      go true p =
          placed_start_other log words e.peer _ w
          (λ q. (ok.sent w x (unlogged_receive e (lost_send e (start_in words e.peer) p).unlogged)).other (sym q))

  pub looking_more : start < x → Looking log cut words₀ looked₀ w start (resent log (event_of log w x) words) (x - 1)
  looking_more some =
      let more = looked_more log ok cut is_cut words₀ looked₀ words (set looked₀ w x) so.looked w here (omega (arith, at_x, so.own)) in
      record { looked = rw (set-set looked₀ w x (x - 1)) at (rw at_x at more); own = own_start ∙ so.own }

-- the words of an event's peer are there
pub peer_wide : (s : List ℕ) (w x wide : ℕ) (e : Event) → log_refusal s ≡ 0 → wide ≡ 3 * worker_count (workers_of s) → IsEvent (workers_of s) w x
    → e ≡ event_of (workers_of s) w x → 3 * e.peer + 3 ≤ wide
peer_wide s w x wide e accepted long is q =
    let here : e.peer < worker_count (workers_of s) = rw q ((well_formed s accepted).peers w x is.0 is.1) in
    omega arith

-- words whose workers were rolled back hold the cut
pub rolling_cut : (log : Workers) (cut words looked : List ℕ) → IsCut log cut → RollingBack log cut words looked → cuts_in log words ≡ cut
rolling_cut log cut words looked is_cut state = cuts_are log words cut is_cut.long state.cuts

-- a worker with an event to look at: afterwards less is left
pub looked_less : (log : Workers) (cut words looked words' looked' : List ℕ) → Looked log cut words looked words' looked'
    → (w : ℕ) → w < worker_count log → start_in words w < at looked w → at looked' w ≤ start_in words' w → sum_below (at looked') (worker_count log) < sum_below (at looked) (worker_count log)
looked_less log cut words looked words' looked' so w here some done =
    sum_lt (at looked') (at looked) (worker_count log) (λ v h. so.looks v) w here (omega (arith, so.starts w))

-- ---- nothing left
module _ (log : Workers) (ok : WellFormed log) (cut : List ℕ) (is_cut : IsCut log cut) (words looked : List ℕ) (state : RollingBack log cut words looked)
    (all_looked : (w : ℕ) → w < worker_count log → at looked w ≤ start_in words w) where
  starts_past : (w : ℕ) → worker_count log ≤ w → at (starts_in log words) w ≡ 0
  unfolding starts_in
  starts_past w h = get_d_tabulate_past (start_in words) (worker_count log) w 0 h

  starts_long : length (starts_in log words) ≡ worker_count log
  unfolding starts_in
  starts_long = length_tabulate (start_in words) (worker_count log)

  offered : (w : ℕ) → w < worker_count log → IndexOffered log w (at (starts_in log words) w)
  offered w h = (number_in words w, state.may w h, state.index w h ∙ sym (starts_in_at log words w h))

  latest_starts : AreLatest log cut (starts_in log words)
  latest_starts =
      record {
        are = record {
          long = starts_long;
          offered = offered;
          within = λ w. ⊎_elim (λ l. rw (starts_in_at log words w l) (state.within w l)) (λ l. rw (starts_past w l) (omega arith)) (lt_or_le w (worker_count log));
          startable = λ w k after inside q.
              let here = worker_within log w k (omega (arith, is_cut.within w)) in
              let peer = (ok.sent w (k + 1) (unlogged_receive _ q)).within in
              rw (starts_in_at log words (event_of log w (k + 1)).peer peer)
              (state.kept w k (omega (arith, all_looked w here, starts_in_at log words w here)) inside q);
        };
        latest = λ other is startable w.
            ⊎_elim
            (λ l. rw (starts_in_at log words w l) (state.above other is startable w l))
            (λ l. omega (arith, (choice_starts log cut other is startable).within w, is_cut.within w, count_past log w l))
            (lt_or_le w (worker_count log));
      }

  identifier : (w : ℕ) → w < worker_count log → identifier_of log w (number_in words w) ≡ identifier_at log w (start_in words w)
  unfolding identifier_of
  identifier w h =
      let may = state.may w h in
      let last = identifier_last log w (start_in words w) (number_in words w, may, state.index w h) in
      let c = last.0 in
      let index : (checkpoint_of log w c).index ≡ start_in words w = ap (λ (q : Checkpoint). q.index) last.1.same in
      let low : number_in words w ≤ c = last.1.after (number_in words w) may (state.index w h) in
      let same : number_in words w ≡ c =
      ⊎_elim (λ l. let no : ⊥ = omega (arith, state.last w c h l last.1.may) in absurd no) (λ l. omega arith) (lt_or_le (number_in words w) c) in
      ap (λ (d : ℕ). (checkpoint_of log w d).identifier) same ∙ ap (λ (q : Checkpoint). q.identifier) last.1.same

  pub settled : Settled log cut words
  settled = record { wide = state.wide; cuts = state.cuts; starts = latest_is_plan log ok cut is_cut (starts_in log words) latest_starts; identifiers = identifier }
