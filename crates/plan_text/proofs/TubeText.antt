-- The text that document 01, "The tube log", prints, computed from the input: worker 0, event 2, and the 212 bytes of the log.
-- Assumes nothing.
use mathlib.Core.Path.{◌≡◌, refl, ◌∙◌}
use mathlib.Core.List.{List, ◌∷◌, ◌++◌}
use Prim.Native.Nat.{ℕ}
use Rattle.ranges.specs.Fold.{any_below, max_below, sum_below, first_below, last_below, tabulate, sweep}
use Rattle.bytes_le.specs.Little.{le}
use Rattle.event_log.specs.Model.{worker_count, worker, role_of, event_count, event_of, checkpoint_count, checkpoint_of}
use Rattle.records.specs.Event.{is_send, is_unlogged, is_logged, is_receive}
use Rattle.lent.specs.Lent.{or_else}
use Rattle.accept.specs.Tube.{tube, tube_log}
use Rattle.accept.proofs.Tube.{tube_workers, tube_accepted}
use Rattle.accept.specs.Refusal.{given}
use Rattle.lower_cut.specs.Calls.{found_cut}
use Rattle.restore_plan.specs.Calls.{found_plan}
use Rattle.causality.specs.Cut.{named_of, component}
use Rattle.lower_cut.specs.Figure2.{turn_if, turn, visit, visit_at, beginning, figure2}
use Rattle.refusals.specs.Refusals.{worker_refusal, event_refusal, breakpoint_refusal}
use Rattle.upper_line.specs.Upper.{happened, upper_at, upper_line}
use Rattle.lower_cut.specs.Workers.{bit_of, workers_word}
use Rattle.choice.specs.Choice.{may_choose, loses_send}
use Rattle.restore_plan.specs.Plan.{loses, worker_loses, some_loses, usable, index_if, rolled_back_at, rolled_back, plan_starts, stands_at, identifier_of, identifier_at, plan_word, plan_words}
use Rattle.cost.specs.Words.{cut_in, start_in, identifier_in}
use Rattle.unit_table.specs.Table.{built_in}
use Rattle.cost.specs.Cost.{replayed, events_of, event_units, worker_units, units_of}
use Rattle.plan_text.specs.Text.{ascii, spelled, decimal, with_number, four_numbers, breakpoint_line, process_line, process_lines, found_text, text_of}
use Rattle.plan_text.proofs.Enough.{accepted_text}

abbrev tube_input : List ℕ
tube_input = 0 ∷ 0 ∷ 0 ∷ 0 ∷ 2 ∷ 0 ∷ 0 ∷ 0 ∷ tube

abbrev tube_text : List ℕ
tube_text =
    ascii "breakpoint 0 2\n"
    ++ ascii "process 0 role 3 cut 2 upper 2 start 1 checkpoint 1\n"
    ++ ascii "process 1 role 1 cut 3 upper 3 start 1 checkpoint 1\n"
    ++ ascii "process 2 role 0 cut 2 upper 3 start 0 checkpoint 0\n"
    ++ ascii "visits 3 events 5 units 15 workers 7\n"

computed : found_text tube_log.workers 0 2 ≡ tube_text
unfolding any_below max_below sum_below first_below last_below tabulate sweep worker_count worker role_of event_count event_of checkpoint_count checkpoint_of
    is_send is_unlogged is_logged is_receive named_of component turn_if turn visit visit_at beginning figure2 happened upper_at upper_line bit_of workers_word
    may_choose loses_send loses worker_loses some_loses usable index_if rolled_back_at rolled_back plan_starts stands_at identifier_of identifier_at plan_word plan_words
    cut_in start_in identifier_in replayed events_of event_units worker_units units_of built_in spelled decimal with_number four_numbers breakpoint_line process_line
    process_lines found_text found_cut found_plan
computed = refl

accepted : breakpoint_refusal (given tube) 0 2 ≡ 0
unfolding breakpoint_refusal or_else worker_refusal event_refusal worker_count worker event_count
accepted = rw (tube_accepted, tube_workers)

pub tube_text_lem : text_of tube_input ≡ tube_text
unfolding text_of le
tube_text_lem = accepted_text tube 0 2 accepted ∙ rw tube_workers computed
