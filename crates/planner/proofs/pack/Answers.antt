-- `planner::pack` meets its contract: the number is that of `pack::pack`, with 14 for `written`; where it is 0 the length is in that word,
-- and the file, being archived, is answered as the log is (`archived_alike`). Assumes nothing.
use mathlib.Core.Path.{sym, ◌∙◌}
use Rattle.lent.proofs.Lent.{words_ok, untouched}
use Rattle.event_log.specs.Layout.{workers_of}
use Rattle.pack.proofs.Allowed.{pack_ok}
use Rattle.lent.proofs.Left.{leaves_both_by}
use Rattle.planner.proofs.LogWritten.{number_stored, number_first}
use Rattle.planner.proofs.Archived.{archived_alike}
use Rattle.planner.proofs.pack.Goals as goal

pub returns-then-refusal-ne0 : goal.returns-then-refusal-ne0
returns-then-refusal-ne0 c =
    let no = c.if-refusal-ne0.true in
    record {
      left = leaves_both_by _ _ _ _ (rw (← c.words_refusal-others.ensures.answer) c.pack-packed.ensures.refused) c.pack-packed.ensures.out (untouched _ _ _ no);
      archived = (λ none. absurd (no none));
      alike = λ none. absurd (no none);
    }

pub bounds-written-0 : goal.bounds-written-0
bounds-written-0 c = words_ok _ _ (sym c.words_refusal-others.ensures.answer ∙ (pack_ok c.pack-packed.ensures.refused c.if-refusal-ne0.false).rest)

pub returns : goal.returns
returns c =
    let none = c.if-refusal-ne0.false in
    let may = pack_ok c.pack-packed.ensures.refused none in
    let enough = words_ok _ _ (sym c.words_refusal-others.ensures.answer ∙ may.rest) in
    let log = workers_of c.args.log.now in
    let is = c.pack-packed.ensures.answer in
    let written = c.args.written.now in
    let filled = rw none at c.pack-packed.ensures.out in
    let first = number_first log is none written enough in
    let archived = c.pack-packed.ensures.archived none in
    record {
      left = leaves_both_by _ _ _ _ (sym none ∙ rw (← c.words_refusal-others.ensures.answer) c.pack-packed.ensures.refused) filled (number_stored log is none written enough);
      archived = (λ _. rw first archived);
      alike = λ _. archived_alike _ _ may.accepted (rw first archived);
    }
