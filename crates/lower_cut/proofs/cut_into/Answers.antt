-- `lower_cut::cut_into` meets its contract: the cleared words with e for worker i are where Figure 2 begins, so they may be visited
-- (`begun`), and the visit from there is all of Figure 2 (`figured`). Assumes nothing.
use Rattle.lower_cut.specs.Figure2.{Found}
use Rattle.lower_cut.proofs.Turns.{begun, figured}
use mathlib.Core.Path.{ap}
use Rattle.std.proofs.Common.{rules}
use Rattle.lower_cut.proofs.cut_into.Goals as goal

pub visit-requires : goal.visit-requires
visit-requires c =
    let pre = c.requires in
    let zeros = rw pre.1 at (c.fill.ensures.after (search rules)) in
    (pre.0, search rules, begun _ _ _ _ zeros pre.3, pre.4)

pub returns : goal.returns
returns c =
    let zeros = rw c.requires.1 at (c.fill.ensures.after (search rules)) in
    let same = figured _ _ _ _ _ zeros c.visit.ensures.found in
    record { cut = ap (λ (t : Found). t.cut) same; answer = ap (λ (t : Found). t.visits) same }
