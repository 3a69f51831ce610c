-- `upper_line::upper_into` meets its contract: before turn w each of the first w workers is at its last event, or the breakpoint event
-- happened before its next one; where this holds of all n, the line is the upper line (`lined_upper`). Assumes nothing.
use Rattle.std.proofs.Common.{rules}
use Rattle.accept.proofs.Accepted.{well_formed}
use Rattle.upper_line.proofs.Raising.{passed_first, lined_first, lined_more, lined_upper}
use Rattle.upper_line.proofs.upper_into.Goals as goal

pub loop-w-init : goal.loop-w-init
loop-w-init c =
    let pre = c.requires in
    let first = passed_first _ _ _ pre.2 pre.3 in
    lined_first (well_formed _ pre.0) pre.3 c.worker_count-n.ensures.answer (rw (c.fill.ensures.after (search rules), pre.1) first)

pub loop-w-preserved : goal.loop-w-preserved
loop-w-preserved c = lined_more c.loop-w.invariant c.loop-w-test.true c.raise_worker.ensures.line

pub returns : goal.returns
returns c = record { line = lined_upper c.loop-w.invariant c.loop-w-test.false }
