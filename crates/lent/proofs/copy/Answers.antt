-- `lent::copy` meets its contract: after w turns the first w words are those of `from` and the others as lent, and `from` has as many words
-- as `to`. Assumes nothing.
use mathlib.Core.Path.{refl, sym, ◌∙◌}
use native.Mathlib.Omega.{arith}
use Rattle.ranges.proofs.Tabulate.{store_none, store_more, full_table, tabulate_list}
use Rattle.lent.specs.Lent.{at}
use Rattle.lent.proofs.copy.Goals as goal

pub loop-w-init : goal.loop-w-init
loop-w-init c = sym (store_none _ _)

pub loop-w-preserved : goal.loop-w-preserved
loop-w-preserved c = rw c.loop-w.invariant (store_more (at c.args.from.now) c.args.to.now c.loop-w.w (omega (arith, c.requires, c.loop-w-test.true)))

pub returns : goal.returns
returns c =
    let all = tabulate_list (at c.args.from.now) c.loop-w.w 0 c.args.from.now (omega (arith, c.loop-w.auto.w-end, c.loop-w-test.false)) (λ k h. refl) in
    record { words = c.loop-w.invariant ∙ full_table (at c.args.from.now) c.args.to.now c.loop-w.w (omega (arith, c.requires, c.loop-w-test.false)) ∙ sym all }
