-- `starts::number_below` meets its contract: `find` asks the numbers from `from` down (`last_in_range`), and where none may be chosen with
-- an index below `bound` it is 0. Assumes nothing.
use Rattle.std.proofs.Common.{rules, ◌∙◌}
use Rattle.ranges.proofs.Downward.{last_in_range}
use Rattle.starts.specs.Inner.Rollback.{number_below}
use Rattle.starts.proofs.number_below.Goals as goal

pub returns : goal.returns
unfolding number_below
returns c = record {
  answer = c.unwrap_or.ensures
      ∙ last_in_range _ _ _ _ _ c.find.ensures.ran (λ x b q k. search rules)
      c.rev.ensures.source c.new.ensures.start c.new.ensures.end c.new.ensures.exhausted;
}
