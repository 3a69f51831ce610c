-- `replay::state_refusal` meets its contract: 14 is returned where plan words, positions or what else is lent are too few; else each worker
-- has its words, and `some_disordered` decides 16. Assumes nothing.
use Rattle.std.proofs.Common.{arith}
use Rattle.std.proofs.lemmas.Grind.{common_steps}
use mathlib.Core.Path.{sym, ◌∙◌}
use Prim.Native.Nat.{◌*◌}
use lib.ListN.{length}
use Rattle.lent.specs.Lent.{or_else, words_refusal}
use Rattle.lent.proofs.Lent.{or_else_zero, or_else_first, or_else_second, words_ok}
use Rattle.event_log.specs.Layout.{workers_of}
use Rattle.event_log.specs.Model.{worker_count}
use Rattle.accept.proofs.Accepted.{accepted_layout}
use Rattle.replay_machine.specs.Calls.{order_refusal, state_refusal}
use Rattle.replay.proofs.state_refusal.Goals as goal

pub worker_count-n-requires : goal.worker_count-n-requires
worker_count-n-requires c = accepted_layout _ c.requires

pub returns-then-short-ne0 : goal.returns-then-short-ne0
unfolding state_refusal or_else
returns-then-short-ne0 c = grind (arith, common_steps)

pub some_disordered-requires : goal.some_disordered-requires
some_disordered-requires c =
    let lent = or_else_zero _ _ (sym c.or_else-short.ensures.answer ∙ c.if-short-ne0.false) in
    let more = or_else_zero _ _ (sym c.or_else-more.ensures.answer ∙ lent.1) in
    let size = c.worker_count-n.ensures.answer in (
      c.requires,
      rw (size) at (words_ok _ _ (sym c.words_refusal-2.ensures.answer ∙ lent.0)),
      rw (size) at (words_ok _ _ (sym c.words_refusal.ensures.answer ∙ more.0)),
    )

pub returns-then-some_disordered : goal.returns-then-some_disordered
unfolding order_refusal state_refusal or_else
returns-then-some_disordered c = grind (arith, common_steps)

pub returns : goal.returns
unfolding order_refusal state_refusal or_else
returns c = grind (arith, common_steps)
