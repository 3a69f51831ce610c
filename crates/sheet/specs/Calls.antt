-- What the sheet is refused by, and what it leaves: document 02, Note 10.
-- Assumes nothing.
use Rattle.std.specs.Prelude.{List, ℕ, ◌*◌, length}
use Rattle.lent.specs.Lent.{or_else, words_refusal, short_scratch, Left, leaves}
use Rattle.event_log.specs.Model.{worker_count}
use Rattle.accept.specs.Refusal.{Given}
use Rattle.unit_table.specs.Table.{table_of, table_refusal}
use Rattle.breakpoints.specs.Breakpoints.{list_refusal}
use Rattle.sheet.specs.Sheet.{sheet_words}

-- "Scratch for it is 5 × n words"
abbrev pub scratch_rows : ℕ
scratch_rows = 5

-- the log's, 29, and 12 or 13 of the list, then 14, then 15 ("else 15"), then 27 ("after 15"): of the numbers of words lent for the sheet
-- and as scratch
unfoldable pub sheet_refusal : Given → List ℕ → List ℕ → ℕ → ℕ → ℕ
sheet_refusal log list table sheet scratch =
    or_else (list_refusal log list)
    (or_else (words_refusal sheet (3 * worker_count log.workers)) (or_else (short_scratch scratch (scratch_rows * worker_count log.workers)) (table_refusal table)))

-- `sheet`: of the list, the unit table, the words of the sheet and the number of scratch words
abbrev pub sheet_call : Given → List ℕ → List ℕ → List ℕ → ℕ → Left
sheet_call log list table sheet scratch =
    leaves (sheet_refusal log list table (length sheet) scratch) (sheet_words (table_of table) log.workers list) sheet
