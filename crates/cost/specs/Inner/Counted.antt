-- The units of counted events.
-- Assumes nothing.
use Rattle.std.specs.Prelude.{ℕ, ◌+◌, ◌-◌, ◌*◌}
use Rattle.records.specs.declared.Kind.{Kind}
use Rattle.records.specs.declared.Kind.TheVariants.{Send, Unlogged, Logged, Rest}
use Rattle.unit_table.specs.Table.{Table}

-- what a receive with its data adds to a sum of counts: more than a worker has events
abbrev pub logged_one : ℕ
logged_one = 4294967296

-- what an event of a kind adds: one sum has the counts of the receives without their data and of those with it
abbrev pub counted_as : Kind → ℕ
counted_as Send = 0
counted_as Unlogged = 1
counted_as Logged = logged_one
counted_as Rest = 0

-- the units of `events` events of a role, of which `unlogged` are receives without their data, `logged` receives with it, and the others sends
unfoldable pub counted_units : Table → ℕ → ℕ → ℕ → ℕ → ℕ
counted_units table role events unlogged logged =
    (events - (unlogged + logged)) * table role Send + unlogged * table role Unlogged + logged * table role Logged
