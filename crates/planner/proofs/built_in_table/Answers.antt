-- `planner::built_in_table` meets its contract: fewer than 12 words give 14 and do not change (`untouched`); else the built-in words stand
-- in the first 12, and these load (`built_in_loads`). Assumes nothing.
use mathlib.Core.Path.{refl, sym, ◌∙◌}
use Prim.Native.Nat.{◌≤◌}
use native.Mathlib.Omega.{arith}
use lib.ListN.{length, length-take}
use lib.Seq.{take_at}
use Rattle.lent.proofs.Lent.{words_ok, written, untouched}
use Rattle.lent.proofs.Left.{leaves_by}
use Rattle.unit_table.specs.Table.{table_words, built_in_words}
use Rattle.unit_table.proofs.Loaded.{loaded_long}
use Rattle.unit_table.proofs.BuiltIn.{built_in_loads}
use Rattle.planner.proofs.built_in_table.Goals as goal

pub returns-then-refusal-ne0 : goal.returns-then-refusal-ne0
returns-then-refusal-ne0 c =
    let no = c.if-refusal-ne0.true in
    record {
      left = leaves_by _ _ c.words_refusal-refusal.ensures.answer (untouched _ _ _ no);
      loads = λ none. absurd (no none);
    }

pub slice_bounds-write_built_in-end : goal.slice_bounds-write_built_in-end
slice_bounds-write_built_in-end c =
    let enough : table_words ≤ length c.args.table.now = words_ok _ _ (sym c.words_refusal-refusal.ensures.answer ∙ c.if-refusal-ne0.false) in
    enough

pub slice_bounds-write_built_in-end-2 : goal.slice_bounds-write_built_in-end-2
slice_bounds-write_built_in-end-2 c =
    let enough : table_words ≤ length c.args.table.now = words_ok _ _ (sym c.words_refusal-refusal.ensures.answer ∙ c.if-refusal-ne0.false) in
    simp length-take (omega (arith, enough))

pub write_built_in-requires : goal.write_built_in-requires
write_built_in-requires c =
    let enough : table_words ≤ length c.args.table.now = words_ok _ _ (sym c.words_refusal-refusal.ensures.answer ∙ c.if-refusal-ne0.false) in
    simp length-take (omega (arith, enough))

pub returns : goal.returns
returns c =
    let long = loaded_long built_in_words built_in_loads in
    let left = c.write_built_in.ensures.table in
    record {
      left = leaves_by _ _ (sym c.if-refusal-ne0.false ∙ c.words_refusal-refusal.ensures.answer) (rw left (written 0 table_words built_in_words _ refl long));
      loads = λ _. rw (left, take_at built_in_words _ table_words long) built_in_loads;
    }
