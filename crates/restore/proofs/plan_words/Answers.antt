-- `restore::plan_words` meets its contract: the lower cut stands in the first word of each worker (`cut_words`), and from there on the words
-- become its plan. Assumes nothing.
use mathlib.Core.Path.{◌∙◌}
use native.Mathlib.Omega.{arith}
use lib.Seq.{length-take-le}
use Rattle.accept.proofs.Accepted.{accepted_layout}
use Rattle.restore_plan.proofs.Written.{lower_is_cut}
use Rattle.restore.proofs.plan_words.Goals as goal

pub worker_count-n-requires : goal.worker_count-n-requires
worker_count-n-requires c = accepted_layout _ c.requires.0

pub plan_into-requires : goal.plan_into-requires
plan_into-requires c =
    let found = c.cut_words-cut in
    let given = c.requires in
    let size = c.worker_count-n.ensures.answer in
    let is_cut = lower_is_cut _ _ _ given.0 given.4 in (
      given.0,
      found.auto.words ∙ given.1,
      length-take-le _ _ (omega (arith, size, given.2, found.auto.scratch)) ∙ size,
      rw found.ensures.words is_cut,
    )
