-- `event_pass::names` meets its contract: `from` gives 1 for a test that holds and 0 for another. Assumes nothing.
use Rattle.std.proofs.Common.{rules}
use Rattle.event_pass.specs.Inner.Message.{is_naming, names}
use Rattle.event_pass.proofs.names.Goals as goal

pub returns-clause-answer : goal.returns-clause-answer
unfolding names is_naming
returns-clause-answer c = search rules
