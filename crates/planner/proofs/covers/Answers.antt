-- `planner::covers` meets its contract: number and answer are those of `covering::covers`, with 14 for the answer word; where the number is
-- 0 there is such a word (`words_ok`), and it holds the answer (`first_word`). Assumes nothing.
use mathlib.Core.Path.{sym, ◌∙◌}
use Rattle.lent.proofs.Lent.{or_else_zero, words_ok}
use Rattle.lent.proofs.Left.{leaves_by}
use Rattle.planner.proofs.Answered.{answered, first_word}
use Rattle.planner.proofs.covers.Goals as goal

pub write_answer-requires : goal.write_answer-requires
write_answer-requires c = λ none. words_ok _ _ (sym c.words_refusal-others.ensures.answer ∙ (or_else_zero _ _ (sym c.covers.ensures.refused ∙ none)).1)

pub returns : goal.returns
returns c =
    let written = c.write_answer.ensures in
    let tested = c.covers.ensures in
    record {
      left = leaves_by _ _ (written.answer ∙ rw (← c.words_refusal-others.ensures.answer) tested.refused) (rw written.answer (written.word ∙ rw tested.answer (answered _ _ _)));
      exactly = (λ none. let zero = sym written.answer ∙ none in rw (first_word _ _ _ _ written.word zero) (tested.exactly zero));
      withdrawn = λ none. let zero = sym written.answer ∙ none in rw (first_word _ _ _ _ written.word zero) (tested.withdrawn zero);
    }
