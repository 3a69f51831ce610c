-- `causality::first_lacking` meets its contract: `find` asks each event in turn (`found_in_range`). Assumes nothing.
use Rattle.std.proofs.Common.{rules, ◌∙◌}
use Rattle.ranges.proofs.Found.{found_in_range}
use Rattle.causality.proofs.first_lacking.Goals as goal

pub returns : goal.returns
returns c = record { answer = c.unwrap_or.ensures ∙ found_in_range _ _ _ _ _ c.find.ensures.ran (λ x b q k. search rules) }
