-- `lower_cut::figure2::next_turns` meets its contract: before worker w is looked at, the j turns copied are the first j from v on, and no
-- worker after the last of them and before w has a component above the cut; the list ends at 16, or with n behind it. Assumes nothing.
use mathlib.Core.Path.{refl}
use native.Mathlib.Omega.{arith}
use Rattle.lower_cut.proofs.Copied.{copying_none, copying_past, copying_more, copying_stop}
use Rattle.lower_cut.proofs.figure2.next_turns.Goals as goal

pub loop-w-init : goal.loop-w-init
loop-w-init c = (refl, copying_none _ _ _ _ _ c.requires.2 c.requires.3)

pub loop-w-preserved-then-d-cut : goal.loop-w-preserved-then-d-cut
loop-w-preserved-then-d-cut c =
    let inv = c.loop-w.invariant in (inv.0, copying_past inv.1 c.if-d-cut.true)

pub loop-w-preserved : goal.loop-w-preserved
loop-w-preserved c =
    let inv = c.loop-w.invariant in
    (inv.0, copying_more inv.1 (rw inv.0 at c.loop-w-test.true) c.if-d-cut.false c.if-j-eq-TURNS.false)

pub returns-then-j-lt-TURNS : goal.returns-then-j-lt-TURNS
returns-then-j-lt-TURNS c =
    let inv = c.loop-w.invariant in
    record { turns = rw inv.0 (copying_stop inv.1 (rw inv.0 at c.loop-w-test.false) (omega arith)) }
