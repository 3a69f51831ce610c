-- `breakpoints::count` meets its contract: half the number of words. Assumes nothing.
use mathlib.Core.Path.{refl}
use Rattle.breakpoints.specs.Breakpoints.{breakpoint_count}
use Rattle.breakpoints.proofs.count.Goals as goal

pub returns : goal.returns
unfolding breakpoint_count
returns c = record { answer = refl }
