-- `replay::advance` meets its contract: the answer is 0 only for a worker of the log (`done_ready`), whose position word is then raised by
-- 1; with any other answer no word changes. Assumes nothing.
use Rattle.std.proofs.lemmas.Grind.{common_steps}
use mathlib.Core.Path.{◌≡◌, sym, ◌∙◌}
use mathlib.Core.List.{List}
use Prim.Native.Nat.{ℕ, ◌<◌, ◌≤◌}
use native.Mathlib.Omega.{arith}
use borrow.Author.Tests.{eq-eqb}
use lib.ListN.{length, get_or}
use Rattle.event_log.specs.Layout.{workers_of}
use Rattle.event_log.specs.Limits.{max_events}
use Rattle.accept.specs.Refusal.{log_refusal}
use Rattle.accept.proofs.Accepted.{well_formed}
use Rattle.replay_machine.specs.Calls.{machine_answer}
use Rattle.replay_machine.specs.Inner.State.{IsState}
use Rattle.replay_machine.specs.Machine.{moved_by, moved}
use Rattle.replay_machine.proofs.Steps.{done_ready}
use Rattle.replay.proofs.advance.Goals as goal

-- a step that is done: its worker has a position, which is none above the most events
done_place : (s words positions : List ℕ) (w : ℕ) {r : ℕ} → log_refusal s ≡ 0 → IsState (workers_of s) words positions
    → r ≡ machine_answer (workers_of s) words positions w → r ≡ 0 → (w < length positions) × (get_or positions w 0 ≤ max_events)
done_place s words positions w accepted state told none =
    let worker = ((done_ready _ _ _ _ _).0 (sym told ∙ none)).worker in
    let order = state.ordered w worker in
    let few = (well_formed _ accepted).events w in
    (omega (arith, state.placed), omega (arith, order.1, order.2))

pub offset_bounds-positions-w : goal.offset_bounds-positions-w
offset_bounds-positions-w c =
    let place = done_place _ _ _ _ c.requires.0 c.requires.1 c.answer-refusal.ensures.answer c.if-refusal-eq0.true in omega (arith, place.0)

pub bounds-positions-w : goal.bounds-positions-w
bounds-positions-w c = (done_place _ _ _ _ c.requires.0 c.requires.1 c.answer-refusal.ensures.answer c.if-refusal-eq0.true).0

pub overflow_add-positions : goal.overflow_add-positions
overflow_add-positions c =
    let place = done_place _ _ _ _ c.requires.0 c.requires.1 c.answer-refusal.ensures.answer c.if-refusal-eq0.true in omega (arith, place.1)

pub bounds-positions-w-then-refusal-eq0 : goal.bounds-positions-w-then-refusal-eq0
bounds-positions-w-then-refusal-eq0 c = (done_place _ _ _ _ c.requires.0 c.requires.1 c.answer-refusal.ensures.answer c.if-refusal-eq0.true).0

pub returns-then-refusal-eq0 : goal.returns-then-refusal-eq0
unfolding moved moved_by
returns-then-refusal-eq0 c = record {
  answer = c.answer-refusal.ensures.answer;
  positions = rw (← c.answer-refusal.ensures.answer, eq-eqb _ _ c.if-refusal-eq0.true);
}

pub returns-else-refusal-eq0 : goal.returns-else-refusal-eq0
unfolding moved moved_by
returns-else-refusal-eq0 c = grind (arith, common_steps)
