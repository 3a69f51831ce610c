-- The built-in table: its words load, and they give what the table of roles and kinds has. Assumes nothing.
use mathlib.Core.Path.{◌≡◌, refl}
use mathlib.Core.Bool.{Bool, false, not}
use mathlib.Core.List.{[]}
use Prim.Native.Nat.{ℕ, ◌+◌, ◌*◌, ◌/◌, ◌%◌, ◌<◌}
use borrow.Author.Tests.{eqb-true, not-false}
use lib.Dec.{eqb}
use lib.ListN.{get_or}
use Rattle.ranges.specs.Fold.{any_below, tabulate, join_below}
use Rattle.ranges.proofs.Any.{any_each}
use Rattle.lent.specs.Lent.{at}
use Rattle.records.specs.declared.Kind.{Kind}
use Rattle.records.specs.Kind.{column}
use Rattle.unit_table.specs.Table.{table_words, rows, built_in, table_of, built_in_words, unit_fault, table_refusal}

-- "The built-in table loads like any other"
pub built_in_loads : table_refusal built_in_words ≡ 0
unfolding table_refusal built_in_words any_below join_below unit_fault
built_in_loads = refl

-- whether a place of the built-in words differs from the table of roles and kinds
abbrev differs : ℕ → ℕ → Bool
differs role c = not (eqb (at built_in_words (3 * role + c)) (get_or (get_or rows role []) c 0))

none_differs : any_below (λ role. any_below (differs role) 3) 4 ≡ false
unfolding built_in_words any_below join_below
none_differs = refl

-- its words give what the table of roles and kinds has
pub built_in_same : (role : ℕ) (kind : Kind) → role < 4 → column kind < 3 → table_of built_in_words role kind ≡ built_in role kind
unfolding table_of built_in
built_in_same role kind h l =
    let row = any_each (λ r. any_below (differs r) 3) 4 none_differs role h in
    eqb-true (at built_in_words (3 * role + column kind)) (get_or (get_or rows role []) (column kind) 0)
    (not-false _ (any_each (differs role) 3 row (column kind) l))

-- the words one by one, by role and column
abbrev pub word_at : ℕ → ℕ
word_at j = get_or (get_or rows (j / 3) []) (j % 3) 0

pub words_are : tabulate word_at table_words ≡ built_in_words
unfolding tabulate built_in_words join_below
words_are = refl
