-- `unit_table::write_built_in` meets its contract: after j turns word i, for i below j, is that of row i / 3 and column i % 3; all 12 are
-- `built_in_words`, and these load (`built_in_loads`). Assumes nothing.
use mathlib.Core.Path.{◌≡◌, sym, ◌∙◌}
use native.Mathlib.Omega.{arith}
use Rattle.ranges.proofs.Tabulate.{store_none, store_more, full_table}
use Rattle.unit_table.specs.Table.{table_words, built_in_words}
use Rattle.unit_table.proofs.BuiltIn.{word_at, words_are, built_in_loads}
use Rattle.unit_table.proofs.write_built_in.Goals as goal

pub loop-j-init : goal.loop-j-init
loop-j-init c = sym (store_none _ _)

pub loop-j-preserved : goal.loop-j-preserved
loop-j-preserved c = rw c.loop-j.invariant (store_more word_at c.args.table.now c.loop-j.j c.loop-j-test.true)

pub returns : goal.returns
returns c =
    let all : c.loop-j.j ≡ table_words = omega (arith, c.requires, c.loop-j.auto.j-end, c.loop-j-test.false) in
    let wrote : c.loop-j.table ≡ built_in_words = c.loop-j.invariant ∙ full_table word_at c.args.table.now c.loop-j.j (omega (arith, c.requires)) ∙ rw all words_are in
    record { table = wrote; loads = rw wrote built_in_loads }
