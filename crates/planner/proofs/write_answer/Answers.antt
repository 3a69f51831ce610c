-- `planner::write_answer` meets its contract: a number other than 0 is returned with no word changed (`untouched`); where it is 0 there is
-- a word, as the function requires, and it becomes 1 or 0 (`stored_words`). Assumes nothing.
use Rattle.std.proofs.Common.{◌≡◌, refl, ◌∙◌, Bool, true, false, [], ◌∷◌}
use Rattle.std.specs.Int.{from_bool}
use Rattle.lent.specs.Lent.{word_of}
use Rattle.lent.proofs.Lent.{put, untouched, store_each, stored_words}
use Rattle.planner.proofs.write_answer.Goals as goal

told : (b : Bool) → from_bool b ≡ word_of b
unfolding word_of
told true = refl
told false = refl

pub returns-then-refusal-ne0-clause-word : goal.returns-then-refusal-ne0-clause-word
returns-then-refusal-ne0-clause-word c = untouched _ _ _ c.if-refusal-ne0.true

pub returns-clause-word : goal.returns-clause-word
unfolding store_each
returns-clause-word c =
    let none = c.if-refusal-ne0.false in
    rw (c.from.ensures ∙ told _) (stored_words (_ ∷ []) _ (c.requires none) ∙ put _ _ _ none)
