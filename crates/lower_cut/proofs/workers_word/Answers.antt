-- `lower_cut::workers_word` meets its contract: after w turns the word has the bits of the first w workers; bit w, which fits 64 bits, is
-- not among them, so the bitwise or adds it (`word_with`). Assumes nothing.
use mathlib.Core.Path.{sym, ◌∙◌}
use Prim.Native.Nat.{◌<◌}
use native.Mathlib.Nat.{one-mul, mod-eq_of_lt}
use native.Mathlib.Omega.{arith}
use lib.Pow.{pow-lt}
use Rattle.lower_cut.proofs.WorkersWord.{word_none, word_with, word_without}
use Rattle.lower_cut.proofs.workers_word.Goals as goal
use Rattle.lower_cut.proofs.workers_word.Goals.{then-events-ne0, else-events-ne0}

pub loop-w-init : goal.loop-w-init
loop-w-init c = sym (word_none _)

pub loop-w-preserved : goal.loop-w-preserved
loop-w-preserved c =
    let inside : c.loop-w.w < 64 = omega arith in
    elim c.if-events-ne0.branch [
      | then-events-ne0 w ↦ w.word-is ∙ rw (c.loop-w.invariant, one-mul, mod-eq_of_lt (pow-lt inside)) (word_with _ _ w.if-events-ne0.true)
      | else-events-ne0 w ↦ w.word-is ∙ c.loop-w.invariant ∙ word_without _ _ w.if-events-ne0.false
    ]
