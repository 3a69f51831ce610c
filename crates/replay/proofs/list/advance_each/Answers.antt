-- `replay::list::advance_each` meets its contract: after j turns the first j answers and the positions are those of the machine's run of
-- the first j numbers, and each position is still between its start and its cut. Assumes nothing.
use mathlib.Core.Path.{refl}
use Rattle.replay.proofs.Storing.{storing_begin, answer_stored}
use Rattle.replay.proofs.list.advance_each.Goals as goal

pub loop-j-init : goal.loop-j-init
loop-j-init c = storing_begin _ _ _ _ _ _ _ (λ p w h. refl) c.requires.1

pub loop-j-preserved : goal.loop-j-preserved
loop-j-preserved c =
    let called = c.advance.ensures in
    answer_stored _ _ _ _ _ c.requires.2 _ _ _ c.loop-j.invariant c.loop-j-test.true _ _ called.answer called.positions
