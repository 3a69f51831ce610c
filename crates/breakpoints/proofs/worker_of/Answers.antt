-- `breakpoints::worker_of` meets its contract: the word read is the first of the breakpoint's two. Assumes nothing.
use mathlib.Core.Path.{refl}
use Rattle.breakpoints.specs.Breakpoints.{listed_worker}
use Rattle.breakpoints.proofs.worker_of.Goals as goal

pub returns : goal.returns
unfolding listed_worker
returns c = record { answer = refl }
