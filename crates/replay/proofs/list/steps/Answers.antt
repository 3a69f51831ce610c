-- `replay::list::steps` meets its contract: the number is `steps_refusal`'s; where it is 0 (`steps_ok`) positions and answers are those of
-- the machine's run, else no word of either changes (`untouched`). Assumes nothing.
use mathlib.Core.Path.{refl, sym, ◌∙◌}
use Rattle.lent.proofs.Lent.{words_ok, written, whole, untouched}
use Rattle.lent.proofs.Left.{leaves_both_by}
use Rattle.replay_machine.proofs.Lists.{after_long}
use Rattle.replay_machine.proofs.Call.{steps_ok}
use Rattle.replay.proofs.Storing.{answers_length}
use Rattle.replay.proofs.list.steps.Goals as goal

pub returns-then-refusal-ne0 : goal.returns-then-refusal-ne0
returns-then-refusal-ne0 c =
    let no = c.if-refusal-ne0.true in
    record {
      left = leaves_both_by _ _ _ _ (rw (← c.words_refusal-others.ensures.answer) c.steps_refusal-refusal.ensures.answer)
          (untouched _ _ _ no) (untouched _ _ _ no);
    }

pub advance_each-requires : goal.advance_each-requires
advance_each-requires c =
    let given = steps_ok _ _ _ _ c.steps_refusal-refusal.ensures.answer c.if-refusal-ne0.false in
    (given.0, given.1, words_ok _ _ (sym c.words_refusal-others.ensures.answer ∙ given.2))

pub returns : goal.returns
returns c =
    let found = c.steps_refusal-refusal.ensures.answer in
    let none = c.if-refusal-ne0.false in
    let left = c.advance_each.ensures in record {
      left = leaves_both_by _ _ _ _ (sym none ∙ rw (← c.words_refusal-others.ensures.answer) found)
          (left.positions ∙ whole _ _ _ refl (after_long _ _ _ _ _)) (left.answers ∙ written _ _ _ _ refl (answers_length _ _ _ _));
    }
