-- What every call on a log but packing returns and leaves, over what it is given of the log: the definitions of the calls side by side.
-- The contracts of src/lib.rt cite them from here, so that one equation between two logs moves what all of them say.
-- Assumes nothing.
use Rattle.std.specs.Prelude.{◌≡◌, List, ℕ}
use Rattle.lent.specs.Lent.{Left}
use Rattle.event_log.specs.Layout.{workers_of, log_of}
use Rattle.accept.specs.Refusal.{Given, given, log_refusal}
use Rattle.pack.specs.Calls.{pack_call}
use Rattle.interval_refusals.specs.Calls.{intervals_call}
use Rattle.causality.specs.Calls.{vector_call, cut_test_call}
use Rattle.lower_cut.specs.Calls.{lower_cut_call}
use Rattle.upper_line.specs.Calls.{upper_line_call}
use Rattle.covering.specs.Calls.{covers_call}
use Rattle.restore_plan.specs.Calls.{plan_call}
use Rattle.replay_machine.specs.Calls.{step_call, steps_call, restore_call}

-- of each call, what it returns and leaves for all that it is asked and lent besides the log
pub record Answers : Type 0 where
  pub of_intervals : List ℕ → List ℕ → Left
  pub of_vector : ℕ → ℕ → List ℕ → Left
  pub of_upper_line : ℕ → ℕ → List ℕ → Left
  pub of_lower_cut : ℕ → ℕ → List ℕ → ℕ → List ℕ → Left
  pub of_plan : ℕ → ℕ → List ℕ → List ℕ → ℕ → List ℕ → Left
  pub of_cut_test : List ℕ → List ℕ → Left
  pub of_covers : ℕ → List ℕ → Left
  pub of_step : List ℕ → List ℕ → ℕ → Left
  pub of_steps : List ℕ → List ℕ → List ℕ → List ℕ → Left
  pub of_restore : ℕ → ℕ → List ℕ → List ℕ → List ℕ → ℕ → List ℕ → List ℕ → List ℕ → Left

abbrev pub answers_to : Given → Answers
answers_to log =
    record {
      of_intervals = intervals_call log;
      of_vector = vector_call log;
      of_upper_line = upper_line_call log;
      of_lower_cut = lower_cut_call log;
      of_plan = plan_call log;
      of_cut_test = cut_test_call log;
      of_covers = covers_call log;
      of_step = step_call log;
      of_steps = steps_call log;
      of_restore = restore_call log;
    }

-- "Cuts, plans and steps have the same definitions over both forms": two accepted logs with equal workers, whatever their forms, get the
-- same answers from every call but packing, the same interval log among them
abbrev pub SameAnswers : List ℕ → List ℕ → Type 0
SameAnswers s t = log_refusal s ≡ 0 → log_refusal t ≡ 0 → workers_of s ≡ workers_of t → answers_to (given s) ≡ answers_to (given t)

-- of a packed log s and its original t
pub record AnsweredAlike (s t : List ℕ) : Type 0 where
  -- "the packed log gets the very plan its original got" ..
  pub plans : plan_call (given s) ≡ plan_call (given t)
  -- .. and so it is with whatever a call gives and leaves, packing too, for all that it is asked and lent
  pub calls : answers_to (given s) ≡ answers_to (given t)
  pub packs : pack_call (given s) (log_of s) ≡ pack_call (given t) (log_of t)
