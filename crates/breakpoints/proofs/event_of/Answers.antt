-- `breakpoints::event_of` meets its contract: the word read is the second of the breakpoint's two. Assumes nothing.
use mathlib.Core.Path.{refl}
use Rattle.breakpoints.specs.Breakpoints.{listed_event}
use Rattle.breakpoints.proofs.event_of.Goals as goal

pub returns : goal.returns
unfolding listed_event
returns c = record { answer = refl }
