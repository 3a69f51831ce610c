-- What a loaded table gives. Assumes nothing.
use mathlib.Core.Path.{◌≡◌}
use mathlib.Core.Bool.{false, not, ◌||◌}
use mathlib.Core.Logic.{⊎_elim}
use mathlib.Core.List.{List}
use Prim.Native.Nat.{ℕ, ◌+◌, ◌*◌, ◌≤◌}
use native.Mathlib.Omega.{arith}
use borrow.Author.Tests.{ltb-false, eqb-true, not-false}
use lib.Dec.{eqb, ltb}
use lib.ListN.{length, get_or-eq_default}
use Rattle.ranges.specs.Fold.{any_below}
use Rattle.ranges.proofs.Any.{any_each}
use Rattle.ranges.proofs.Bools.{or_false_left, or_false_right}
use Rattle.ranges.proofs.Order.{lt_or_le}
use Rattle.lent.specs.Lent.{at}
use Rattle.lent.proofs.Lent.{peel}
use Rattle.records.specs.declared.Kind.{Kind}
use Rattle.records.specs.Kind.{column}
use Rattle.unit_table.specs.Table.{table_words, max_units, table_of, unit_fault, table_refusal}

module _ (words : List ℕ) (loaded : table_refusal words ≡ 0) where
  tests : (not (eqb (length words) table_words) ≡ false) × (any_below (unit_fault words) (length words) ≡ false)
  unfolding table_refusal
  tests =
      let short = not (eqb (length words) table_words) in
      let some = any_below (unit_fault words) (length words) in
      let none = (peel (short || some) 26 0 loaded).0 in
      (or_false_left short some none, or_false_right short some none)

  -- a loaded table has 12 words ..
  pub loaded_long : length words ≡ table_words
  loaded_long = eqb-true (length words) table_words (not-false (eqb (length words) table_words) tests.0)

  -- .. of at most 1,000, and past the last one there is 0
  word_bound : (k : ℕ) → at words k ≤ max_units
  unfolding unit_fault
  word_bound k =
      ⊎_elim
      (λ l. ltb-false max_units (at words k) (or_false_right (ltb (at words k) 1) (ltb max_units (at words k)) (any_each (unit_fault words) (length words) tests.1 k l)))
      (λ l. rw (get_or-eq_default words 0 l) (omega arith))
      (lt_or_le k (length words))

  -- so no event has more than 1,000 units
  pub loaded_bound : (role : ℕ) (kind : Kind) → table_of words role kind ≤ max_units
  unfolding table_of
  loaded_bound role kind = word_bound (3 * role + column kind)
