-- `planner::lower_cut` meets its contract: the number is that of `lower_cut::lower_cut`, with 14 for the totals; where it is 0 the cut is
-- written and two words are there for the totals (`search_ok`), else no word changes. Assumes nothing.
use mathlib.Core.Path.{refl, sym, ◌∙◌}
use Rattle.lent.proofs.Lent.{words_ok, put_found, untouched}
use Rattle.lent.proofs.Left.{leaves_both_by}
use Rattle.refusals.proofs.Allowed.{search_ok}
use Rattle.lower_cut.specs.Calls.{cut_answer, cut_totals}
use Rattle.planner.proofs.lower_cut.Goals as goal

pub returns-then-refusal-ne0 : goal.returns-then-refusal-ne0
returns-then-refusal-ne0 c =
    let called = c.lower_cut-found.ensures in
    record {
      left = leaves_both_by _ _ _ _ (rw (← c.words_refusal-others.ensures.answer) called.refused) called.words (untouched _ _ _ c.if-refusal-ne0.true);
      kept = called.kept;
    }

pub write_cut-requires : goal.write_cut-requires
write_cut-requires c =
    let lent = search_ok c.lower_cut-found.ensures.refused c.if-refusal-ne0.false in
    words_ok _ _ (sym c.words_refusal-others.ensures.answer ∙ lent.line.rest)

pub returns : goal.returns
unfolding cut_answer cut_totals
returns c =
    let called = c.lower_cut-found.ensures in
    let none = c.if-refusal-ne0.false in
    let found = rw (none) at called.answer in record {
      left = leaves_both_by _ _ _ _ (sym none ∙ rw (← c.words_refusal-others.ensures.answer) called.refused)
          (rw (none) at called.words) (put_found cut_totals _ _ _ _ found c.write_cut.ensures.totals);
      kept = λ no. absurd (no refl);
    }
