-- What the plan is refused by, and what it returns and leaves: "A refusal returns its number with every other number 0".
-- Assumes nothing.
use Rattle.std.specs.Prelude.{cond, List, [], ◌∷◌, ℕ, eqb, length}
use Rattle.lent.specs.Lent.{or_else, words_refusal, Left, leaves_both}
use Rattle.event_log.specs.Model.{Workers}
use Rattle.accept.specs.Refusal.{Given}
use Rattle.refusals.specs.Refusals.{search_refusal}
use Rattle.lower_cut.specs.Figure2.{lower_cut}
use Rattle.lower_cut.specs.Calls.{found_cut}
use Rattle.restore_plan.specs.declared.Totals.{Totals}
use Rattle.restore_plan.specs.Plan.{plan_starts, plan_words}
use Rattle.unit_table.specs.Table.{Table, table_of, table_refusal}
use Rattle.cost.specs.Cost.{events_of, units_of}

-- the log's, then 12 to 15, and 27 for the unit table: "a plan call repeats it after 15"; "14 never judges the table"
unfoldable pub plan_refusal : Given → ℕ → ℕ → List ℕ → ℕ → ℕ → ℕ → ℕ
plan_refusal log w e table words others scratch = or_else (search_refusal log w e 3 words others scratch) (table_refusal table)

-- "the plan returns these with events and units": visits and the workers word are the lower cut's
unfoldable pub found_plan : Table → Workers → ℕ → ℕ → Totals
found_plan table log w e =
    let cut = lower_cut log w e in
    let found = found_cut log w e in
    record {
      refusal = 0;
      visits = found.visits;
      events = events_of log cut (plan_starts log cut);
      units = units_of table log cut (plan_starts log cut);
      workers = found.workers;
    }

unfoldable pub plan_answer : ℕ → Table → Workers → ℕ → ℕ → Totals
plan_answer refusal table log w e =
    cond (eqb refusal 0) (found_plan table log w e) (record { refusal = refusal; visits = 0; events = 0; units = 0; workers = 0 })

-- "The exported plan writes visits, events, units and the workers word, in that order, to four lent 64-bit words"
abbrev pub plan_total_words : ℕ
plan_total_words = 4

unfoldable pub plan_totals : Totals → List ℕ
plan_totals found = found.visits ∷ found.events ∷ found.units ∷ found.workers ∷ []

-- the words of the plan of event e of worker w
abbrev pub planned_words : Workers → ℕ → ℕ → List ℕ
planned_words log w e = plan_words log (lower_cut log w e)

-- `plan`: of a worker, an event, the unit table, the words, the number of scratch words and the totals
abbrev pub plan_call : Given → ℕ → ℕ → List ℕ → List ℕ → ℕ → List ℕ → Left
plan_call log w e table words scratch totals =
    leaves_both (plan_refusal log w e table (length words) (words_refusal (length totals) plan_total_words) scratch)
    (planned_words log.workers w e) words (plan_totals (found_plan (table_of table) log.workers w e)) totals
