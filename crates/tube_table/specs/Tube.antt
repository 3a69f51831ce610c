-- The table of document 01, "The tube log", with set 1 of document 02: what the definitions give for it, with the breakpoint at event 2 of
-- worker 0.
-- Assumes nothing.
use Rattle.std.specs.Prelude.{◌≡◌, true, false, List, [], ◌∷◌, ℕ, set}
use Rattle.event_log.specs.Model.{Workers}
use Rattle.accept.specs.Tube.{tube}
use Rattle.causality.specs.Cut.{vector, is_consistent}
use Rattle.lower_cut.specs.Figure2.{figure2, lower_cut}
use Rattle.upper_line.specs.Upper.{upper_line}
use Rattle.restore_plan.specs.Plan.{plan_starts}
use Rattle.unit_table.specs.Table.{built_in}
use Rattle.cost.specs.Cost.{events_of, units_of}
use Rattle.covering.specs.Covering.{covering_set}
use Rattle.replay_machine.specs.Machine.{answer_of}

-- the tube log "with receive 2/2 of kind 3": that receive is event 2 of worker 1, and byte 124 is its kind
abbrev pub tube_logged : List ℕ
tube_logged = set tube 124 3

-- the starts of the plan of event 2 of worker 0
abbrev pub tube_starts : Workers → List ℕ
tube_starts log = plan_starts log (lower_cut log 0 2)

pub record TubeTable (log logged : Workers) : Type 0 where
  -- "vector of 0/2 is (2, 3, 1)"; "of 1/3 is (0, 3, 2)"; "of 2/2 is (0, 0, 2)"
  pub t1 : vector log 0 2 ≡ 2 ∷ 3 ∷ 1 ∷ []
  pub t2 : vector log 1 3 ≡ 0 ∷ 3 ∷ 2 ∷ []
  pub t3 : vector log 2 2 ≡ 0 ∷ 0 ∷ 2 ∷ []
  -- "lower cut (2, 3, 2), 3 visits"
  pub t4 : (lower_cut log 0 2 ≡ 2 ∷ 3 ∷ 2 ∷ []) × ((figure2 log 0 2).visits ≡ 3)
  -- "upper line (2, 3, 3)"
  pub t5 : upper_line log 0 2 ≡ 2 ∷ 3 ∷ 3 ∷ []
  -- "starts (1, 1, 0)"
  pub t6 : tube_starts log ≡ 1 ∷ 1 ∷ 0 ∷ []
  -- "with receive 2/2 of kind 3, starts (1, 1, 2), 3 events, 13 units"
  pub t7 : (tube_starts logged ≡ 1 ∷ 1 ∷ 2 ∷ [])
      × (events_of logged (lower_cut logged 0 2) (tube_starts logged) ≡ 3)
      × (units_of built_in logged (lower_cut logged 0 2) (tube_starts logged) ≡ 13)
  -- "cut (2, 3, 1) inconsistent"
  pub t8 : is_consistent log (2 ∷ 3 ∷ 1 ∷ []) ≡ false
  -- "first step of worker 0 gives 22": from the planned starts
  pub t9 : answer_of log (lower_cut log 0 2) (tube_starts log) (tube_starts log) 0 ≡ 22
  -- "set 0 covers"
  pub t10 : covering_set log 0 ≡ true
  -- "The tube log's set 1 becomes a no"
  pub set1 : covering_set log 1 ≡ false
