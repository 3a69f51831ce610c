-- `sheet::plan_adds` meets its contract: column 1 has the worker's units, column 0 its replayed events, and column 2 a 1 where there is one.
-- Assumes nothing.
use mathlib.Core.Path.{◌∙◌, sym}
use Prim.Native.Nat.{◌/◌}
use Rattle.cost.proofs.Held.{held_worker}
use Rattle.sheet.proofs.Columns.{adds_units}
use Rattle.sheet.proofs.Held.{worker_below, held_events, held_plans}
use Rattle.sheet.proofs.plan_adds.Goals as goal

pub returns-then-column-eq-UNITS : goal.returns-then-column-eq-UNITS
returns-then-column-eq-UNITS c = record { answer = c.worker_units.ensures.answer ∙ sym (adds_units _ _ _ _ _ c.if-column-eq-UNITS.true) }

pub worker_events-events-requires : goal.worker_events-events-requires
worker_events-events-requires c =
    let mine = held_worker _ _ c.requires.0 (c.args.j / 3) (worker_below _ _ c.requires.1) in
    (mine.wide, mine.start)

pub returns-then-column-eq-EVENTS : goal.returns-then-column-eq-EVENTS
returns-then-column-eq-EVENTS c = record {
  answer = c.from.ensures ∙ held_events _ _ c.args.words.now c.args.j c.requires.1 c.worker_events-events.ensures.answer c.if-column-eq-EVENTS.true;
}

pub returns : goal.returns
returns c = record {
  answer = c.from-2.ensures
      ∙ held_plans _ _ c.args.words.now c.args.j c.requires.1 c.worker_events-events.ensures.answer c.if-column-eq-UNITS.false c.if-column-eq-EVENTS.false;
}
