-- Lists of steps: the steps of `run` and the positions of `after` agree, and both go on from where a first list ends.
-- Assumes nothing.
use mathlib.Core.Path.{◌≡◌, refl, ◌∙◌, ap}
use mathlib.Core.List.{List, [], ◌∷◌, ◌++◌, map, get_last_d}
use Prim.Native.Nat.{ℕ, zero, suc, ◌<◌}
use native.Mathlib.Nat.{not-suc-le-zero}
use native.Mathlib.Omega.{arith}
use lib.ListN.{length, get_or, take}
use Rattle.event_log.specs.Model.{Workers}
use Rattle.replay_machine.specs.Machine.{Step, moved, step_of, run, positions_after}
use Rattle.replay_machine.proofs.Steps.{Between, moved_long, moved_between}

-- the last of a list with a first element
last_cons : {A : Type 0} (a d : A) (l : List A) → get_last_d (a ∷ l) d ≡ get_last_d l a
unfolding get_last_d
last_cons a d [] = refl
last_cons a d (b ∷ l) = refl

module _ (log : Workers) (cut starts : List ℕ) where
  -- every list of steps keeps the positions between the starts and the cut
  pub after_between : (positions workers : List ℕ) → Between log cut starts positions → Between log cut starts (positions_after log cut starts positions workers)
  unfolding positions_after
  after_between positions [] between = between
  after_between positions (w ∷ workers) between =
      after_between (moved log cut starts positions w) workers (moved_between log cut starts positions w between)

  -- a list of steps keeps the number of position words
  pub after_long : (positions workers : List ℕ) → length (positions_after log cut starts positions workers) ≡ length positions
  unfolding positions_after
  after_long positions [] = refl
  after_long positions (w ∷ workers) = after_long (moved log cut starts positions w) workers ∙ moved_long log cut starts positions w

  -- a step for each worker number
  pub length_run : (positions workers : List ℕ) → length (run log cut starts positions workers) ≡ length workers
  unfolding run
  length_run positions [] = refl
  length_run positions (w ∷ workers) = ap suc (length_run (moved log cut starts positions w) workers)

  -- step k is a step of worker number k from the positions after the numbers before it
  pub run_each : (positions workers : List ℕ) (k : ℕ) (d : Step) → k < length workers
      → get_or (run log cut starts positions workers) k d ≡ step_of log cut starts (positions_after log cut starts positions (take k workers)) (get_or workers k 0)
  unfolding run positions_after
  run_each positions [] k d h = absurd (not-suc-le-zero h)
  run_each positions (w ∷ workers) zero d h = refl
  run_each positions (w ∷ workers) (suc k) d h = run_each (moved log cut starts positions w) workers k d (omega arith)

  -- the positions of the last step are the positions after the list
  pub run_last : (positions workers : List ℕ) → get_last_d (map (λ (s : Step). s.positions) (run log cut starts positions workers)) positions ≡ positions_after log cut starts positions workers
  unfolding run positions_after step_of get_last_d
  run_last positions [] = refl
  run_last positions (w ∷ workers) =
      last_cons (moved log cut starts positions w) positions (map (λ (s : Step). s.positions) (run log cut starts (moved log cut starts positions w) workers))
      ∙ run_last (moved log cut starts positions w) workers

  -- a second list goes on from where the first ends: its positions
  pub after_append : (positions a b : List ℕ) → positions_after log cut starts positions (a ++ b) ≡ positions_after log cut starts (positions_after log cut starts positions a) b
  unfolding positions_after
  after_append positions [] b = refl
  after_append positions (w ∷ a) b = after_append (moved log cut starts positions w) a b

  -- .. and its steps
  pub run_append : (positions a b : List ℕ)
      → run log cut starts positions (a ++ b) ≡ run log cut starts positions a ++ run log cut starts (positions_after log cut starts positions a) b
  unfolding run positions_after
  run_append positions [] b = refl
  run_append positions (w ∷ a) b = ap (λ (l : List Step). step_of log cut starts positions w ∷ l) (run_append (moved log cut starts positions w) a b)

  -- one more worker at the end: the positions
  pub after_more : (positions workers : List ℕ) (w : ℕ)
      → positions_after log cut starts positions (workers ++ (w ∷ [])) ≡ moved log cut starts (positions_after log cut starts positions workers) w
  unfolding positions_after
  after_more positions workers w = after_append positions workers (w ∷ [])

  -- .. and the steps
  pub run_more : (positions workers : List ℕ) (w : ℕ)
      → run log cut starts positions (workers ++ (w ∷ []))
      ≡ run log cut starts positions workers ++ (step_of log cut starts (positions_after log cut starts positions workers) w ∷ [])
  unfolding run
  run_more positions workers w = run_append positions workers (w ∷ [])
