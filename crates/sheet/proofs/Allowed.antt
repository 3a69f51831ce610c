-- What a sheet that is not refused may use of what it was lent. Assumes nothing.
use mathlib.Core.Path.{◌≡◌, refl, sym, ◌∙◌}
use mathlib.Core.List.{List}
use Prim.Native.Nat.{ℕ, ◌*◌, ◌≤◌}
use Rattle.lent.specs.Lent.{or_else, words_refusal, short_scratch}
use Rattle.lent.proofs.Lent.{or_else_zero, words_ok, scratch_ok}
use Rattle.event_log.specs.Layout.{workers_of}
use Rattle.event_log.specs.Model.{worker_count}
use Rattle.accept.specs.Refusal.{given}
use Rattle.unit_table.specs.Table.{table_refusal}
use Rattle.breakpoints.specs.Breakpoints.{list_refusal}
use Rattle.breakpoints.proofs.Allowed.{list_ok}
use Rattle.sheet.specs.Calls.{scratch_rows, sheet_refusal}
use Rattle.sheet.specs.Inner.Adding.{Summable}

-- with three words of the sheet and five of scratch for each worker
pub record SheetLent (s list table : List ℕ) (sheet scratch : ℕ) : Type 0 where
  pub summable : Summable s list table
  pub enough : 3 * worker_count (workers_of s) ≤ sheet
  pub room : scratch_rows * worker_count (workers_of s) ≤ scratch

pub sheet_ok : {s list table : List ℕ} {sheet scratch r : ℕ} → r ≡ sheet_refusal (given s) list table sheet scratch → r ≡ 0 → SheetLent s list table sheet scratch
unfolding sheet_refusal
sheet_ok {s} {list} {table} {sheet} {scratch} found none =
    let n = worker_count (workers_of s) in
    let first = or_else_zero (list_refusal (given s) list) _ (sym found ∙ none) in
    let second = or_else_zero (words_refusal sheet (3 * n)) (or_else (short_scratch scratch (scratch_rows * n)) (table_refusal table)) first.1 in
    let third = or_else_zero (short_scratch scratch (scratch_rows * n)) (table_refusal table) second.1 in
    let listed = list_ok refl first.0 in
    record {
      summable = record { accepted = listed.accepted; are = listed.are; loaded = third.1 };
      enough = words_ok sheet (3 * n) second.0;
      room = scratch_ok scratch (scratch_rows * n) third.0;
    }
