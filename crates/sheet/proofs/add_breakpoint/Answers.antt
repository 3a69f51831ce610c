-- `sheet::add_breakpoint` meets its contract: the breakpoint is an event of the log, so `plan_words` leaves its plan, with which the sums
-- fit (`added_fits`) and are those with breakpoint k (`added_more`). Assumes nothing.
use mathlib.Core.Path.{refl, ◌∙◌, ap}
use lib.ListN.{length}
use Rattle.restore_plan.proofs.Written.{lower_held}
use Rattle.sheet.proofs.Sums.{sheet_long}
use Rattle.sheet.proofs.Adding.{listed_event_lem, added_fits, added_more}
use Rattle.sheet.proofs.add_breakpoint.Goals as goal

pub add_plan-requires : goal.add_plan-requires
add_plan-requires c =
    let pre = c.requires in
    let worker = c.worker_of-worker.ensures.answer in
    let event = c.event_of-event.ensures.answer in
    let words = c.plan_words.ensures.words in
    let point = listed_event_lem _ _ _ pre.0 _ pre.1 worker event refl in (
      lower_held _ _ _ pre.0.accepted point.1 _ _ words refl,
      ap length pre.4 ∙ sheet_long _ _ _ _,
      pre.0.loaded,
      added_fits _ _ _ pre.0 _ pre.1 worker event words pre.4,
    )

pub returns : goal.returns
returns c =
    let pre = c.requires in
    let worker = c.worker_of-worker.ensures.answer in
    let event = c.event_of-event.ensures.answer in
    record { sheet = c.add_plan.ensures.sheet ∙ added_more _ _ _ pre.0 _ pre.1 worker event c.plan_words.ensures.words pre.4 }
