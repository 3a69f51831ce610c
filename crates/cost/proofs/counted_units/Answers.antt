-- `cost::counted_units` meets its contract: `units_for` gives the three units, which a loaded table has. Assumes nothing.
use native.Mathlib.Omega.{arith}
use Rattle.unit_table.proofs.Loaded.{loaded_long}
use Rattle.cost.specs.Inner.Counted.{counted_units}
use Rattle.cost.proofs.counted_units.Goals as goal

pub units_for-requires : goal.units_for-requires
units_for-requires c = (loaded_long _ c.requires.3, c.requires.0, omega arith)

pub units_for-requires-2 : goal.units_for-requires-2
units_for-requires-2 c = (loaded_long _ c.requires.3, c.requires.0, omega arith)

pub units_for-requires-3 : goal.units_for-requires-3
units_for-requires-3 c = (loaded_long _ c.requires.3, c.requires.0, omega arith)

pub returns : goal.returns
unfolding counted_units
returns c = record {
  answer = rw (c.from.ensures, c.from-2.ensures, c.from-3.ensures, c.from-4.ensures, ← c.units_for.ensures.answer, ← c.units_for-2.ensures.answer, ← c.units_for-3.ensures.answer);
}
