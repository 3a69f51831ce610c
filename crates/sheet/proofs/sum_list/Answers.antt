-- `sheet::sum_list` meets its contract: the first 3 × n words are set to 0, and `add_list` leaves the sums in them. Assumes nothing.
use mathlib.Core.Path.{sym, ◌∙◌, ap}
use Rattle.std.proofs.Common.{rules}
use Rattle.std.proofs.lemmas.Grind.{common_steps}
use Prim.Native.Nat.{ℕ, ◌*◌}
use native.Mathlib.Omega.{arith}
use lib.Seq.{length-take-le}
use Rattle.lent.proofs.Lent.{written_over}
use Rattle.accept.proofs.Accepted.{accepted_layout}
use Rattle.sheet.proofs.Sums.{words_long}
use Rattle.sheet.proofs.sum_list.Goals as goal

pub worker_count-n-requires : goal.worker_count-n-requires
worker_count-n-requires c = accepted_layout _ c.requires.0.accepted

pub add_list-requires : goal.add_list-requires
add_list-requires c = (c.requires.0, search rules, c.requires.2, grind (arith, common_steps))

pub returns : goal.returns
returns c =
    let size = c.worker_count-n.ensures.answer in
    let cleared = c.fill.ensures.len ∙ length-take-le _ _ (omega (arith, size, c.requires.3)) in
    let sums = words_long _ _ _ ∙ ap (λ (n : ℕ). 3 * n) (sym size) in
    record { sheet = rw c.add_list.ensures.sheet (written_over c.fill.new.self _ c.args.sheet.now (3 * c.worker_count-n.result) cleared sums) }
