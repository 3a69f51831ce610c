-- `planner::cut_test` meets its contract: number and answer are those of `causality::cut_test`, with 14 for the answer word; where the
-- number is 0 there is such a word (`test_ok`), and it holds the answer (`first_word`). Assumes nothing.
use mathlib.Core.Path.{sym, ◌∙◌}
use Rattle.lent.proofs.Lent.{words_ok}
use Rattle.lent.proofs.Left.{leaves_by}
use Rattle.refusals.proofs.Allowed.{test_ok}
use Rattle.planner.proofs.Answered.{answered, first_word}
use Rattle.planner.proofs.cut_test.Goals as goal

pub write_answer-requires : goal.write_answer-requires
write_answer-requires c = λ none. words_ok _ _ (sym c.words_refusal-others.ensures.answer ∙ (test_ok _ _ _ c.cut_test.ensures.refused none).3)

pub returns : goal.returns
returns c =
    let written = c.write_answer.ensures in
    let tested = c.cut_test.ensures in
    record {
      left = leaves_by _ _ (written.answer ∙ rw (← c.words_refusal-others.ensures.answer) tested.refused) (rw written.answer (written.word ∙ rw tested.answer (answered _ _ _)));
      exactly = λ none. let zero = sym written.answer ∙ none in rw (first_word _ _ _ _ written.word zero) (tested.exactly zero);
    }
