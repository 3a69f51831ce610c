-- `unit_table::some_unit_fault` meets its contract: `any` asks each word in turn. Assumes nothing.
use Rattle.std.proofs.Common.{rules, ◌∙◌}
use Rattle.std.proofs.lemmas.Iterator.{YieldsList-from_slice}
use Rattle.std.proofs.lemmas.Iterator.Search.{any_from_yields_List}
use Rattle.unit_table.proofs.Words.{word_fault, any_word}
use Rattle.unit_table.proofs.some_unit_fault.Goals as goal

pub returns : goal.returns
returns c = record {
  answer = any_from_yields_List word_fault _ _ _ c.any.ensures.ran (YieldsList-from_slice c.args.table.now c.iter.ensures.rest) (λ x b q k. search rules) ∙ any_word _;
}
