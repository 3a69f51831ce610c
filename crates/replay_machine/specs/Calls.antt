-- What the calls `step`, `steps` and `restore_and_replay` are refused by, return and leave, from all that is lent.
-- Assumes nothing.
use Rattle.std.specs.Prelude.{Bool, not, cond, ◌&&◌, List, [], ◌∷◌, ℕ, ◌+◌, ◌*◌, leb, length}
use Rattle.ranges.specs.Fold.{any_below}
use Rattle.lent.specs.Lent.{at, or_else, words_refusal, unless_refused, Left, left, leaves_both}
use Rattle.event_log.specs.Model.{Workers, worker_count, event_count}
use Rattle.accept.specs.Refusal.{Given}
use Rattle.refusals.specs.Refusals.{worker_refusal}
use Rattle.unit_table.specs.Table.{table_of}
use Rattle.lower_cut.specs.Figure2.{lower_cut}
use Rattle.restore_plan.specs.Plan.{plan_starts}
use Rattle.restore_plan.specs.Calls.{plan_total_words, plan_refusal, found_plan, plan_totals, planned_words}
use Rattle.cost.specs.Words.{cut_in, start_in, cuts_in, starts_in}
use Rattle.replay_machine.specs.Machine.{Step, answer_of, moved_by, moved, run, positions_after, listed, answer_word, step_words}

-- 16: "some worker without start ≤ position ≤ cut ≤ count"
unfoldable pub disordered : Workers → List ℕ → List ℕ → ℕ → Bool
disordered log words positions w =
    not (leb (start_in words w) (at positions w) && leb (at positions w) (cut_in words w) && leb (cut_in words w) (event_count log w))

unfoldable pub order_refusal : Workers → List ℕ → List ℕ → ℕ
order_refusal log words positions = cond (any_below (disordered log words positions) (worker_count log)) 16 0

-- 14, for the plan words, the position words and what else is lent (`others` is 14 where that is too short), and 16
unfoldable pub state_refusal : Workers → List ℕ → List ℕ → ℕ → ℕ
state_refusal log words positions others =
    or_else
    (or_else (words_refusal (length words) (3 * worker_count log)) (or_else (words_refusal (length positions) (worker_count log)) others))
    (order_refusal log words positions)

-- a step: the log's, then 12, 14 and 16
unfoldable pub step_refusal : Given → List ℕ → List ℕ → ℕ → ℕ
step_refusal log words positions w =
    or_else log.refusal (or_else (worker_refusal log.workers w) (state_refusal log.workers words positions 0))

-- a list of steps, which tests the log and the words once: the log's, then 14 and 16. A worker number that is none of the log's is answered by 12.
unfoldable pub steps_refusal : Given → List ℕ → List ℕ → ℕ → ℕ
steps_refusal log words positions others = or_else log.refusal (state_refusal log.workers words positions others)

-- the machine over plan words: the answer of a step, the positions after it, and the same of a list of steps
abbrev pub machine_answer : Workers → List ℕ → List ℕ → ℕ → ℕ
machine_answer log words positions w = answer_of log (cuts_in log words) (starts_in log words) positions w

abbrev pub machine_moved : Workers → List ℕ → List ℕ → ℕ → List ℕ
machine_moved log words positions w = moved log (cuts_in log words) (starts_in log words) positions w

abbrev pub machine_run : Workers → List ℕ → List ℕ → List ℕ → List Step
machine_run log words positions workers = run log (cuts_in log words) (starts_in log words) positions workers

abbrev pub machine_after : Workers → List ℕ → List ℕ → List ℕ → List ℕ
machine_after log words positions workers = positions_after log (cuts_in log words) (starts_in log words) positions workers

-- "A done step answers 0; any other is refused by the tables below"
unfoldable pub step_answer : Given → List ℕ → List ℕ → ℕ → ℕ
step_answer log words positions w = or_else (step_refusal log words positions w) (machine_answer log.workers words positions w)

-- the position words after it: "changes one position or none"
unfoldable pub step_after : Given → List ℕ → List ℕ → ℕ → List ℕ
step_after log words positions w = moved_by (step_answer log words positions w) positions w

-- one call after the other, each with the positions that the last one left: the answer and the position words of each
unfoldable pub calls : Given → List ℕ → List ℕ → List ℕ → List Step
calls log words positions [] = []
calls log words positions (w ∷ workers) =
    record { answer = step_answer log words positions w; positions = step_after log words positions w } ∷ calls log words (step_after log words positions w) workers

-- the plan with a list of step calls from the planned starts: 14 for the totals, the positions, and an answer and the positions of each call
unfoldable pub others_refusal : Workers → ℕ → ℕ → ℕ → ℕ → ℕ
others_refusal log calls positions steps totals =
    or_else (words_refusal totals plan_total_words) (or_else (words_refusal positions (worker_count log)) (words_refusal steps (calls * (worker_count log + 1))))

-- the plan's refusals, with these
unfoldable pub restore_refusal : Given → ℕ → ℕ → ℕ → List ℕ → ℕ → ℕ → ℕ → ℕ → ℕ → ℕ
restore_refusal log w e calls table words scratch positions steps totals =
    plan_refusal log w e table words (others_refusal log.workers calls positions steps totals) scratch

-- `step`: of plan words, positions and a worker; `steps`: of plan words, positions, a list of workers and the answers
abbrev pub step_call : Given → List ℕ → List ℕ → ℕ → Left
step_call log words positions w = left (step_answer log words positions w) (step_after log words positions w ∷ [])

abbrev pub steps_call : Given → List ℕ → List ℕ → List ℕ → List ℕ → Left
steps_call log words positions workers answers =
    leaves_both (steps_refusal log words positions (words_refusal (length answers) (length workers)))
    (machine_after log.workers words positions workers) positions (listed answer_word (machine_run log.workers words positions workers)) answers

-- the machine's run of a list over the words of a plan from the planned starts, and the positions after it
abbrev pub planned_run : Workers → ℕ → ℕ → List ℕ → List Step
planned_run log w e workers = machine_run log (planned_words log w e) (plan_starts log (lower_cut log w e)) workers

abbrev pub planned_after : Workers → ℕ → ℕ → List ℕ → List ℕ
planned_after log w e workers = machine_after log (planned_words log w e) (plan_starts log (lower_cut log w e)) workers

-- `restore_and_replay`: of a worker, an event, a list of workers, a unit table, the words, the number of scratch words, the positions, the
-- steps and the totals
abbrev pub restore_call : Given → ℕ → ℕ → List ℕ → List ℕ → List ℕ → ℕ → List ℕ → List ℕ → List ℕ → Left
restore_call log w e workers table words scratch positions steps totals =
    let r = restore_refusal log w e (length workers) table (length words) scratch (length positions) (length steps) (length totals) in
    left r
    (unless_refused r (planned_words log.workers w e) words
    ∷ unless_refused r (planned_after log.workers w e workers) positions
    ∷ unless_refused r (listed step_words (planned_run log.workers w e workers)) steps
    ∷ unless_refused r (plan_totals (found_plan (table_of table) log.workers w e)) totals ∷ [])
