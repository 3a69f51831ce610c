-- `plan_text::put_found` meets its contract: first line, process lines and totals line are put one behind the other; by the plan words,
-- upper line and totals required they are the text of the event (`found_text_lem`). Assumes nothing.
use mathlib.Core.Path.{◌≡◌, refl}
use native.Mathlib.Omega.{arith}
use lib.ListN.{length}
use Rattle.refusals.proofs.Allowed.{breakpoint_ok}
use Rattle.restore_plan.proofs.Written.{plan_long}
use Rattle.plan_text.proofs.Enough.{upper_long, totals_long, found_text_lem}
use Rattle.plan_text.proofs.put_found.Goals as goal

pub put_processes-b-requires : goal.put_processes-b-requires
put_processes-b-requires c = ((breakpoint_ok refl c.requires.0).accepted, rw c.requires.1 (plan_long _ _), rw c.requires.2 (upper_long _ _ _))

pub bounds-totals-0 : goal.bounds-totals-0
bounds-totals-0 c = let long : length c.args.totals.now ≡ 4 = rw c.requires.3 (totals_long _) in omega arith

pub bounds-totals-1 : goal.bounds-totals-1
bounds-totals-1 c = let long : length c.args.totals.now ≡ 4 = rw c.requires.3 (totals_long _) in omega arith

pub bounds-totals-2 : goal.bounds-totals-2
bounds-totals-2 c = let long : length c.args.totals.now ≡ 4 = rw c.requires.3 (totals_long _) in omega arith

pub bounds-totals-3 : goal.bounds-totals-3
bounds-totals-3 c = let long : length c.args.totals.now ≡ 4 = rw c.requires.3 (totals_long _) in omega arith

pub returns : goal.returns
returns c = record {
  text =
      rw (← found_text_lem _ _ _ _ _ _ c.requires.1 c.requires.2 c.requires.3)
      (c.put_totals.ensures.text _ _ (c.put_processes-b.ensures.text _ _ c.put_breakpoint-a.ensures.text));
}
