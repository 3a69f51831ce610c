-- What the program `plan` prints, as document 01, "The tube log", gives it: bytes in ASCII.
-- Assumes nothing.
use Rattle.std.specs.Prelude.{cond, ◌||◌, List, [], ◌∷◌, ◌++◌, ℕ, zero, suc, ◌+◌, ◌/◌, ◌%◌, eqb, ltb, length, drop}
use Prim.Native.Char.{code}
use Prim.Native.String.{String, [] as none, ◌∷◌ as ◌then◌}
use Rattle.bytes_le.specs.Little.{le}
use Rattle.event_log.specs.Model.{Workers, worker_count, role_of}
use Rattle.lent.specs.Lent.{at}
use Rattle.accept.specs.Refusal.{Given, given}
use Rattle.lower_cut.specs.Figure2.{lower_cut}
use Rattle.refusals.specs.Refusals.{breakpoint_refusal}
use Rattle.upper_line.specs.Upper.{upper_line}
use Rattle.unit_table.specs.Table.{built_in}
use Rattle.restore_plan.specs.Calls.{found_plan}
use Rattle.restore_plan.specs.Plan.{plan_words}
use Rattle.cost.specs.Words.{cut_in, start_in, identifier_in}

-- the codes of a text's characters
abbrev pub ascii : String → List ℕ
ascii none = []
ascii (c then s) = code c ∷ ascii s

-- "in decimal": the digits of n, at most k of them
unfoldable pub spelled : ℕ → ℕ → List ℕ
spelled zero n = []
spelled (suc k) n = cond (ltb n 10) ((48 + n) ∷ []) (spelled k (n / 10) ++ ((48 + n % 10) ∷ []))

-- 20 digits hold every number of 64 bits
unfoldable pub decimal : ℕ → List ℕ
decimal n = spelled 20 n

-- a text, then a name and a number
unfoldable pub with_number : List ℕ → List ℕ → ℕ → List ℕ
with_number text name n = text ++ name ++ decimal n

-- a text, then the end of its line
abbrev pub ended : List ℕ → List ℕ
ended text = text ++ ascii "\n"

-- a text, then four names, each with its number, and the end of the line
unfoldable pub four_numbers : List ℕ → List ℕ → ℕ → List ℕ → ℕ → List ℕ → ℕ → List ℕ → ℕ → List ℕ
four_numbers text first a second b third c fourth d = ended (with_number (with_number (with_number (with_number text first a) second b) third c) fourth d)

-- "A refusal prints only `refused` and its number"
unfoldable pub refused_text : ℕ → List ℕ
refused_text number = ended (with_number [] (ascii "refused ") number)

-- "The first line repeats the breakpoint's worker and event"
unfoldable pub breakpoint_line : ℕ → ℕ → List ℕ
breakpoint_line w e = ended (with_number (with_number [] (ascii "breakpoint ") w) (ascii " ") e)

-- the part of a process line that the upper line and the plan words give
abbrev pub words_of : List ℕ → ℕ → ℕ → ℕ → ℕ → List ℕ
words_of text cut upper start identifier =
    four_numbers text (ascii " cut ") cut (ascii " upper ") upper (ascii " start ") start (ascii " checkpoint ") identifier

-- "A process line gives a worker's number and role, its words of the lower cut and the upper line, its start and its identifier"
unfoldable pub process_line : List ℕ → ℕ → List ℕ → List ℕ → ℕ → List ℕ
process_line text role words upper w =
    words_of (with_number (with_number text (ascii "process ") w) (ascii " role ") role) (cut_in words w) (at upper w) (start_in words w) (identifier_in words w)

-- a text, then the process lines of the first k workers
unfoldable pub process_lines : List ℕ → Workers → List ℕ → List ℕ → ℕ → List ℕ
process_lines text log words upper zero = text
process_lines text log words upper (suc w) = process_line (process_lines text log words upper w) (role_of log w) words upper w

-- "The last line gives the visits, replayed events, units and workers word"
abbrev pub totals_line : List ℕ → ℕ → ℕ → ℕ → ℕ → List ℕ
totals_line text visits events units workers =
    four_numbers text (ascii "visits ") visits (ascii " events ") events (ascii " units ") units (ascii " workers ") workers

-- the text of an accepted log's breakpoint event
unfoldable pub found_text : Workers → ℕ → ℕ → List ℕ
found_text log w e =
    let found = found_plan built_in log w e in
    totals_line (process_lines (breakpoint_line w e) log (plan_words log (lower_cut log w e)) (upper_line log w e) (worker_count log))
    found.visits found.events found.units found.workers

-- the text for a log, a worker and an event
unfoldable pub plan_text : Given → ℕ → ℕ → List ℕ
plan_text log w e = cond (eqb (breakpoint_refusal log w e) 0) (found_text log.workers w e) (refused_text (breakpoint_refusal log w e))

-- "worker and event, 32 bits each, then the log; the whole at most 65,536 bytes. Under 8 bytes or over that it prints refusal 1"
unfoldable pub text_of : List ℕ → List ℕ
text_of input = cond (ltb (length input) 8 || ltb 65536 (length input)) (refused_text 1) (plan_text (given (drop 8 input)) (le 4 input 0) (le 4 input 4))
