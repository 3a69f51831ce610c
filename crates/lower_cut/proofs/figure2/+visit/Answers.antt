-- `lower_cut::figure2::visit` meets its contract: before each turn the turns of Figure 2 below worker v are made, and those copied from
-- the row, from turn j on, are the next ones that are not idle (`Going`); a pass fills the row if it is stale and copies the next turns, and
-- a turn passes over a worker that the cut has covered since, or visits below. Assumes nothing.
use mathlib.Core.Path.{ap}
use native.Mathlib.Omega.{arith}
use lib.ListN.{length-take, length-drop}
use Rattle.accept.proofs.Accepted.{well_formed}
use Rattle.lower_cut.specs.Figure2.{Found}
use Rattle.lower_cut.proofs.VisitCount.{visit_at_counts}
use Rattle.lower_cut.proofs.Turns.{ended, falls, next, passed_few, leaf, later, some_below}
use Rattle.lower_cut.proofs.Loop.{going_new, going_rest, going_copied, going_low, going_to, going_inside, going_room, going_named, going_idle, going_turned}
use Rattle.lower_cut.proofs.figure2.+visit.Goals as goal

pub returns-then-first-event-clause-found : goal.returns-then-first-event-clause-found
returns-then-first-event-clause-found t c =
    let pre = c.requires in
    leaf (well_formed _ pre.0) pre.2 c.first_lacking-first.ensures.answer c.if-first-event.true

pub loop-v-init : goal.loop-v-init
loop-v-init t c =
    let pre = c.requires in
    let found = c.first_lacking-first.ensures.answer in
    let size = c.worker_count-n.ensures.answer in
    let ok = well_formed _ pre.0 in
    going_new ok (later ok pre.2 found) (passed_few ok pre.2 found) size (omega (arith, size, pre.3)) c.rows_below-below.ensures.answer

pub loop-j-init : goal.loop-j-init
loop-j-init t c = (going_copied c.loop-v.invariant c.refill.ensures.row c.next_turns.ensures.turns, omega arith)

pub returns-then-w-n-clause-found : goal.returns-then-w-n-clause-found
returns-then-w-n-clause-found t c = ended (going_to c.loop-j.invariant.0 c.loop-j-test.true) (omega (arith, c.if-w-n.true))

pub returns-then-w-n-clause-kept : goal.returns-then-w-n-clause-kept
returns-then-w-n-clause-kept t c =
    let pre = c.requires in
    let all = going_to c.loop-j.invariant.0 c.loop-j-test.true in
    let below = some_below (well_formed _ pre.0) pre.2 c.first_lacking-first.ensures.answer c.if-first-event.false all (omega (arith, c.if-w-n.true)) in
    λ one. absurd (below one)

pub bounds-cut-w : goal.bounds-cut-w
bounds-cut-w t c = going_room c.loop-j.invariant.0 c.loop-j-test.true c.if-w-n.false

pub loop-j-preserved-then-d-old : goal.loop-j-preserved-then-d-old
loop-j-preserved-then-d-old t c =
    let inv = c.loop-j.invariant in
    let turn = c.loop-j-test.true in
    (going_idle inv.0 turn c.if-w-n.false c.if-d-old.true, omega (arith, inv.1, going_low inv.0 turn))

pub bounds-cut-w-in-loop-j : goal.bounds-cut-w-in-loop-j
bounds-cut-w-in-loop-j t c = going_room c.loop-j.invariant.0 c.loop-j-test.true c.if-w-n.false

pub offset_bounds-rows-below : goal.offset_bounds-rows-below
offset_bounds-rows-below t c =
    let inv = c.loop-j.invariant.0 in
    omega (arith, going_rest inv, inv.long, c.well_formed.1.1.1.1.1.0.1)

pub slice_bounds-visit-count : goal.slice_bounds-visit-count
slice_bounds-visit-count t c = omega (arith, going_rest c.loop-j.invariant.0)

pub slice_bounds-visit-start : goal.slice_bounds-visit-start
slice_bounds-visit-start t c = omega (arith, going_rest c.loop-j.invariant.0)

pub visit-after-requires : goal.visit-after-requires
visit-after-requires t c =
    let pre = c.requires in
    let inv = c.loop-j.invariant.0 in
    let turn = c.loop-j-test.true in
    let other = c.if-w-n.false in
    let to = going_to inv turn in
    let inside = going_inside inv turn other in
    let named = going_named inv turn other in
    let above = c.if-d-old.false in (
      rw (← c.decreases) (falls to inside _ named above),
      (
        pre.0,
        omega arith,
        next to inside _ named above,
        simp (length-take, length-drop) (omega (arith, going_rest inv, inv.turning.size)),
      ),
    )

pub stale_after-stale-requires : goal.stale_after-stale-requires
stale_after-stale-requires t c =
    let visits = ap (λ (t : Found). t.visits) c.visit-after.ensures.found in rw visits (visit_at_counts _ _ _ _)

pub loop-j-preserved : goal.loop-j-preserved
loop-j-preserved t c =
    let visit = c.visit-after in
    let inv = c.loop-j.invariant in
    let turn = c.loop-j-test.true in
    let turned = going_turned inv.0 turn c.if-w-n.false c.if-d-old.false visit.ensures.found visit.auto.rows visit.ensures.kept c.stale_after-stale.ensures.answer in
    (turned, omega (arith, inv.1, going_low inv.0 turn))

pub returns-clause-found : goal.returns-clause-found
returns-clause-found t c = ended c.loop-v.invariant.turning c.loop-v-test.false

pub returns-clause-kept : goal.returns-clause-kept
returns-clause-kept t c =
    let pre = c.requires in
    let below = some_below (well_formed _ pre.0) pre.2 c.first_lacking-first.ensures.answer c.if-first-event.false c.loop-v.invariant.turning c.loop-v-test.false in
    λ one. absurd (below one)
