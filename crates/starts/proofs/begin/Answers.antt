-- `starts::begin` meets its contract: after w turns each of the first w workers has its latest checkpoint within the cut that may
-- be chosen, with no event looked at yet; no startable choice has a later start (`begun_all`). Assumes nothing.
use mathlib.Core.Path.{◌∙◌}
use native.Mathlib.Omega.{arith}
use native.Mathlib.Nat.{le_antisymm}
use Rattle.accept.proofs.Accepted.{accepted_layout, well_formed}
use Rattle.starts.proofs.Begun.{begun_more, begun_all}
use Rattle.cost.proofs.Held.{cuts_at}
use Rattle.starts.proofs.begin.Goals as goal

pub checkpoint_count-requires : goal.checkpoint_count-requires
checkpoint_count-requires c = accepted_layout _ c.requires.0

pub overflow_add-cut : goal.overflow_add-cut
overflow_add-cut c =
    let w = c.loop-w.w in
    let mine = cuts_at _ c.args.words.now w (rw c.requires.2 at c.loop-w-test.true) in
    omega (arith, c.cut_in-cut.ensures.answer, c.loop-w.invariant.cuts w, c.requires.3.within w, (well_formed _ c.requires.0).events w)

pub loop-w-preserved : goal.loop-w-preserved
loop-w-preserved c =
    rw (
      c.place.ensures.words,
      c.number_below-c.ensures.answer,
      c.checkpoint_count.ensures.answer,
      c.cut_in-cut.ensures.answer,
      c.loop-w.invariant.cuts c.loop-w.w,
    )
    (begun_more _ _ _ _ _ (rw c.requires.2 at c.loop-w-test.true) c.loop-w.invariant)

pub returns : goal.returns
returns c =
    let all = le_antisymm c.loop-w.auto.w-end c.loop-w-test.false ∙ c.requires.2 in
    record { begun = begun_all _ (well_formed _ c.requires.0) _ _ _ c.requires.3 (rw all at c.loop-w.invariant) }
