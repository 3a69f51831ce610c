-- Every text fits into the 65,536 bytes that the program lends, so the program prints the whole of it.
-- Assumes nothing.
use mathlib.Core.Path.{◌≡◌, refl}
use mathlib.Core.Bool.{Bool, true, false, cond, ◌||◌}
use mathlib.Core.List.{List, [], ◌∷◌, ◌++◌}
use Prim.Native.Nat.{ℕ, zero, suc, ◌+◌, ◌*◌, ◌/◌, ◌%◌, ◌≤◌}
use native.Mathlib.Omega.{arith}
use borrow.Author.Tests.{eqb-true}
use lib.Dec.{eqb, ltb}
use lib.ListN.{length, drop, length-append}
use lib.Seq.{take_all}
use Rattle.bytes_le.specs.Little.{le}
use Rattle.event_log.specs.Limits.{max_workers}
use Rattle.event_log.specs.Layout.{workers_of}
use Rattle.event_log.specs.Model.{Workers, worker_count, role_of}
use Rattle.lent.specs.Lent.{at, onto}
use Rattle.accept.specs.Refusal.{given}
use Rattle.lower_cut.specs.Figure2.{lower_cut}
use Rattle.refusals.specs.Refusals.{breakpoint_refusal}
use Rattle.upper_line.specs.Upper.{upper_line}
use Rattle.unit_table.specs.Table.{built_in}
use Rattle.restore_plan.specs.Calls.{found_plan}
use Rattle.restore_plan.specs.Plan.{plan_words}
use Rattle.cost.specs.Words.{cut_in, start_in, identifier_in}
use Rattle.plan_text.specs.Text.{ascii, spelled, decimal, with_number, ended, refused_text, breakpoint_line, four_numbers, process_line, process_lines, totals_line, found_text, plan_text, text_of}
use Rattle.plan_text.specs.Buffer.{Holds}
use Rattle.plan_text.proofs.Enough.{few}

-- ---- at most 20 digits
one_more : (k n : ℕ) (b : Bool) (rest : List ℕ) → length rest ≤ k → length (cond b ((48 + n) ∷ []) (rest ++ ((48 + n % 10) ∷ []))) ≤ suc k
one_more k n true rest h = omega arith
one_more k n false rest h = let last = length-append rest ((48 + n % 10) ∷ []) in omega arith

spelled_few : (k n : ℕ) → length (spelled k n) ≤ k
unfolding spelled
spelled_few zero n = omega arith
spelled_few (suc k) n = one_more k n (ltb n 10) (spelled k (n / 10)) (spelled_few k (n / 10))

with_number_few : (text name : List ℕ) (n : ℕ) → length (with_number text name n) ≤ length text + length name + 20
unfolding with_number decimal
with_number_few text name n =
    let last = length-append (text ++ name) (spelled 20 n) in let first = length-append text name in let h = spelled_few 20 n in omega arith

ended_few : (text : List ℕ) → length (ended text) ≤ length text + 1
ended_few text = let last = length-append text (10 ∷ []) in omega arith

-- ---- the lines, with the bytes of their names and 20 for each number
refused_few : (number : ℕ) → length (refused_text number) ≤ 29
unfolding refused_text
refused_few number = omega (arith, ended_few (with_number [] (ascii "refused ") number), with_number_few [] (ascii "refused ") number)

breakpoint_few : (w e : ℕ) → length (breakpoint_line w e) ≤ 53
unfolding breakpoint_line
breakpoint_few w e =
    let a = with_number [] (ascii "breakpoint ") w in
    let b = with_number a (ascii " ") e in
    omega (arith, with_number_few [] (ascii "breakpoint ") w, with_number_few a (ascii " ") e, ended_few b)

four_few : (text first second third fourth : List ℕ) (a b c d : ℕ)
    → length (four_numbers text first a second b third c fourth d) ≤ length text + length first + length second + length third + length fourth + 81
unfolding four_numbers
four_few text first second third fourth a b c d =
    let one = with_number text first a in
    let two = with_number one second b in
    let three = with_number two third c in
    let four = with_number three fourth d in
    omega (arith, with_number_few text first a, with_number_few one second b, with_number_few two third c, with_number_few three fourth d, ended_few four)

process_few : (text : List ℕ) (role : ℕ) (words upper : List ℕ) (w : ℕ) → length (process_line text role words upper w) ≤ length text + 166
unfolding process_line
process_few text role words upper w =
    let cut = cut_in words w in
    let start = start_in words w in
    let identifier = identifier_in words w in
    let a = with_number text (ascii "process ") w in
    let b = with_number a (ascii " role ") role in
    omega
    (arith, with_number_few text (ascii "process ") w, with_number_few a (ascii " role ") role, four_few b (ascii " cut ") (ascii " upper ") (ascii " start ") (ascii " checkpoint ") cut (at upper w) start identifier)

processes_few : (text : List ℕ) (log : Workers) (words upper : List ℕ) (k : ℕ) → length (process_lines text log words upper k) ≤ length text + 166 * k
unfolding process_lines
processes_few text log words upper zero = omega arith
processes_few text log words upper (suc k) =
    let before = process_lines text log words upper k in
    omega (arith, processes_few text log words upper k, process_few before (role_of log k) words upper k)

totals_few : (text : List ℕ) (visits events units workers : ℕ) → length (totals_line text visits events units workers) ≤ length text + 112
totals_few text visits events units workers =
    omega (arith, four_few text (ascii "visits ") (ascii " events ") (ascii " units ") (ascii " workers ") visits events units workers)

found_few : (log : Workers) (w e : ℕ) → worker_count log ≤ max_workers → length (found_text log w e) ≤ 65536
unfolding found_text
found_few log w e h =
    let cut = lower_cut log w e in
    let found = found_plan built_in log w e in
    let first = breakpoint_line w e in
    let lines = process_lines first log (plan_words log cut) (upper_line log w e) (worker_count log) in
    omega (arith, breakpoint_few w e, processes_few first log (plan_words log cut) (upper_line log w e) (worker_count log), totals_few lines found.visits found.events found.units found.workers)

plan_few : (s : List ℕ) (w e : ℕ) → length (plan_text (given s) w e) ≤ 65536
unfolding plan_text
plan_few s w e = go (eqb (breakpoint_refusal (given s) w e) 0) refl
  where
    go : (b : Bool) → eqb (breakpoint_refusal (given s) w e) 0 ≡ b → length (cond b (found_text (workers_of s) w e) (refused_text (breakpoint_refusal (given s) w e))) ≤ 65536
    go true q = found_few (workers_of s) w e (few s w e (eqb-true (breakpoint_refusal (given s) w e) 0 q))
    go false q = omega (arith, refused_few (breakpoint_refusal (given s) w e))

pub text_fits : (input : List ℕ) → length (text_of input) ≤ 65536
unfolding text_of
text_fits input = go (ltb (length input) 8 || ltb 65536 (length input))
  where
    go : (b : Bool) → length (cond b (refused_text 1) (plan_text (given (drop 8 input)) (le 4 input 0) (le 4 input 4))) ≤ 65536
    go true = omega (arith, refused_few 1)
    go false = plan_few (drop 8 input) (le 4 input 0) (le 4 input 4)

-- where as many bytes are lent, they hold the whole text
pub text_whole : (input lent after : List ℕ) (place : ℕ) → 65536 ≤ length lent → Holds lent (text_of input) after place
    → (after ≡ onto (text_of input) lent) × (place ≡ length (text_of input))
text_whole input lent after place enough h =
    let fits = text_fits input in
    let all = take_all (length lent) (text_of input) (omega arith) in
    (rw all at h.bytes, rw all at h.put)
