-- `planner::log_refusal` meets its contract: the first three promises are those of `accept`; two accepted logs with equal workers give the
-- same `Given`, of which every answer of document 01's calls is a function (`same_answers`). Assumes nothing.
use Rattle.planner.proofs.SameAnswers.{same_answers}
use Rattle.planner.proofs.log_refusal.Goals as goal

pub returns : goal.returns
returns c =
    let said = c.accept.ensures in record { answer = said.answer; once = said.once; twice = said.twice; same = λ t. same_answers _ t }
