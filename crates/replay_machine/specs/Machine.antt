-- The replay machine of document 01, over cuts, starts and positions, one number for each worker in each.
-- Assumes nothing.
use Rattle.std.specs.Prelude.{◌≡◌, cond, List, [], ◌∷◌, ◌++◌, ℕ, ◌+◌, ◌<◌, eqb, leb, ltb, set}
use Rattle.records.specs.declared.Event.{Event}
use Rattle.event_log.specs.Model.{Workers, worker_count, event_of}
use Rattle.records.specs.Event.{is_unlogged}
use Rattle.lent.specs.Lent.{at}

-- "A kind 2 receive naming send s of worker k is done when s is above start k and at most position k"; 22 and 23 as in the table
unfoldable pub receive_answer : List ℕ → List ℕ → Event → ℕ
receive_answer starts positions e =
    cond (ltb (at positions e.peer) e.send) 22 (cond (leb e.send (at starts e.peer)) 23 0)

-- "A send or kind 3 receive is done"
unfoldable pub event_answer : List ℕ → List ℕ → Event → ℕ
event_answer starts positions e = cond (is_unlogged e) (receive_answer starts positions e) 0

-- 12: "worker number not below n"; 21: "the worker is at its cut"; else "a step of a worker w .. looks at event position + 1"
unfoldable pub answer_of : Workers → List ℕ → List ℕ → List ℕ → ℕ → ℕ
answer_of log cut starts positions w =
    cond (leb (worker_count log) w) 12
    (cond (leb (at cut w) (at positions w)) 21
    (event_answer starts positions (event_of log w (at positions w + 1))))

-- "A done step answers 0"; "the position rises by one"; "any other .. changes nothing"
unfoldable pub moved_by : ℕ → List ℕ → ℕ → List ℕ
moved_by answer positions w = cond (eqb answer 0) (set positions w (at positions w + 1)) positions

unfoldable pub moved : Workers → List ℕ → List ℕ → List ℕ → ℕ → List ℕ
moved log cut starts positions w = moved_by (answer_of log cut starts positions w) positions w

-- one step: its answer and the positions after it
pub record Step : Type 0 where
  pub answer : ℕ
  pub positions : List ℕ

unfoldable pub step_of : Workers → List ℕ → List ℕ → List ℕ → ℕ → Step
step_of log cut starts positions w =
    record { answer = answer_of log cut starts positions w; positions = moved log cut starts positions w }

-- "Beside the log and the plan words the machine gets only the worker numbers, in order, and it keeps positions of its own"
unfoldable pub run : Workers → List ℕ → List ℕ → List ℕ → List ℕ → List Step
run log cut starts positions [] = []
run log cut starts positions (w ∷ workers) =
    step_of log cut starts positions w ∷ run log cut starts (moved log cut starts positions w) workers

-- the positions after the whole list
unfoldable pub positions_after : Workers → List ℕ → List ℕ → List ℕ → List ℕ → List ℕ
positions_after log cut starts positions [] = positions
positions_after log cut starts positions (w ∷ workers) = positions_after log cut starts (moved log cut starts positions w) workers

-- the words of a list of steps, one step after the other ..
unfoldable pub listed : (Step → List ℕ) → List Step → List ℕ
listed each [] = []
listed each (s ∷ steps) = each s ++ listed each steps

-- .. its answers, or "each call's answer and the position words after it"
abbrev pub answer_word : Step → List ℕ
answer_word s = s.answer ∷ []

abbrev pub step_words : Step → List ℕ
step_words s = s.answer ∷ s.positions

-- the steps of the list that were done
unfoldable pub done_if : ℕ → ℕ
done_if answer = cond (eqb answer 0) 1 0

unfoldable pub done_in : List Step → ℕ
done_in [] = 0
done_in (s ∷ steps) = done_if s.answer + done_in steps

-- every position is at its cut
abbrev pub AtCut : Workers → List ℕ → List ℕ → Type 0
AtCut log cut positions = (w : ℕ) → w < worker_count log → at positions w ≡ at cut w

-- "It works when some list brings every position to its cut"
abbrev pub Works : Workers → List ℕ → List ℕ → Type 0
Works log cut starts = (workers : List ℕ) × AtCut log cut (positions_after log cut starts starts workers)
