-- `planner::intervals` meets its contract: the number is that of `interval_log::intervals`, with 14 for `written`; where it is 0 the length is
-- in that word, and the bytes before it are what that call promises. Assumes nothing.
use mathlib.Core.Path.{sym, ◌∙◌}
use Rattle.lent.proofs.Lent.{words_ok, untouched}
use Rattle.event_log.specs.Layout.{workers_of}
use Rattle.intervals.specs.Interval.{interval_workers}
use Rattle.interval_log.proofs.Allowed.{intervals_ok}
use Rattle.lent.proofs.Left.{leaves_both_by}
use Rattle.planner.proofs.LogWritten.{number_stored, number_first}
use Rattle.planner.proofs.intervals.Goals as goal

pub returns-then-refusal-ne0 : goal.returns-then-refusal-ne0
returns-then-refusal-ne0 c =
    let no = c.if-refusal-ne0.true in
    record {
      left = leaves_both_by _ _ _ _ (rw (← c.words_refusal-others.ensures.answer) c.intervals-converted.ensures.refused) c.intervals-converted.ensures.out (untouched _ _ _ no);
      converted = λ none. absurd (no none);
    }

pub bounds-written-0 : goal.bounds-written-0
bounds-written-0 c = words_ok _ _ (sym c.words_refusal-others.ensures.answer ∙ (intervals_ok c.intervals-converted.ensures.refused c.if-refusal-ne0.false).rest)

pub returns : goal.returns
returns c =
    let none = c.if-refusal-ne0.false in
    let may = intervals_ok c.intervals-converted.ensures.refused none in
    let enough = words_ok _ _ (sym c.words_refusal-others.ensures.answer ∙ may.rest) in
    let log = interval_workers (workers_of c.args.log.now) in
    let is = c.intervals-converted.ensures.answer in
    let written = c.args.written.now in
    let filled = rw none at c.intervals-converted.ensures.out in
    let first = number_first log is none written enough in
    record {
      left = leaves_both_by _ _ _ _ (sym none ∙ rw (← c.words_refusal-others.ensures.answer) c.intervals-converted.ensures.refused) filled (number_stored log is none written enough);
      converted = λ _. rw first (c.intervals-converted.ensures.converted none);
    }
