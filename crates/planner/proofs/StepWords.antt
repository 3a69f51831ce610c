-- The words of a list of step calls, each an answer and the positions after it. Assumes nothing.
use mathlib.Core.Path.{◌≡◌, ◌∙◌, ap}
use mathlib.Core.List.{List, [], ◌∷◌, ◌++◌, append-nil}
use Prim.Native.Nat.{ℕ, suc, ◌+◌, ◌-◌, ◌*◌, ◌<◌, ◌≤◌}
use native.Mathlib.Numerals.{add-one}
use native.Mathlib.Omega.{arith}
use borrow.Rule.Slice.PartMut.{put_mid, same_len_mid}
use lib.ListN.{length, take, drop, get_or, set, length-take, length-drop, drop_of_length-le}
use Rattle.event_log.specs.Model.{Workers}
use Rattle.accept.specs.Refusal.{Given}
use Rattle.cost.specs.Words.{cuts_in, starts_in}
use Rattle.replay_machine.specs.Machine.{step_of, listed, step_words}
use Rattle.replay_machine.specs.Calls.{machine_answer, machine_moved, machine_run, step_answer, step_after}
use Rattle.replay_machine.proofs.Steps.{moved_long}
use Rattle.replay_machine.proofs.Call.{step_answer_lem, step_positions}
use Rattle.replay.proofs.Storing.{Storing, done_length, storing_room, storing_more, part_stored}

-- the first word and the others
pub put_rest : (part : List ℕ) (a : ℕ) (ys : List ℕ) → length part ≡ length ys + 1 → put_mid 1 (length (set part 0 a) - 1) (set part 0 a) ys ≡ a ∷ ys
put_rest [] a ys e = let no : ⊥ = omega arith in absurd no
put_rest (x ∷ part) a ys e =
    let k : length part ≤ length (a ∷ part) - 1 = omega arith in
    ap (λ (l : List ℕ). a ∷ l) (rw (drop_of_length-le part k) (append-nil ys))

-- an answer and as many positions as there were
pub step_wide : (log : Workers) (words lent positions : List ℕ) (w : ℕ) → length positions ≡ length lent
    → length (step_words (step_of log (cuts_in log words) (starts_in log words) positions w)) ≡ length lent + 1
unfolding step_of
step_wide log words lent positions w long = rw (add-one) (ap suc (moved_long log (cuts_in log words) (starts_in log words) positions w ∙ long))

module _ (log : Given) (accepted : log.refusal ≡ 0) (words workers lent into : List ℕ) (n : ℕ) (long : length lent ≡ n) (enough : length into ≡ length workers * (n + 1))
    (j : ℕ) (positions steps : List ℕ) (is : Storing step_words (length lent + 1) log.workers words workers lent into j positions steps) (h : j < length workers) where
  abbrev width : ℕ
  width = length lent + 1

  abbrev done : List ℕ
  done = listed step_words (machine_run log.workers words lent (take j workers))

  abbrev w : ℕ
  w = get_or workers j 0

  -- the words of one call more have room
  pub step_room : j * width + width ≤ length steps
  step_room =
      let all : length workers * width ≤ length into = rw (long) (omega arith) in
      storing_room step_words width log.workers words workers lent into (step_wide log.workers words lent) j positions steps is all h

  -- .. and stand behind the others when they are stored
  pub step_stored : (answer : ℕ) (next : List ℕ) → answer ≡ step_answer log words positions w → next ≡ step_after log words positions w
      → Storing step_words width log.workers words workers lent into (j + 1) next (put_mid (j * width) (j * width + width - j * width) steps (answer ∷ next))
  unfolding step_of
  step_stored answer next a b =
      let machine : next ≡ machine_moved log.workers words positions w = b ∙ step_positions log accepted words positions is.state w in
      let told : answer ≡ machine_answer log.workers words positions w = a ∙ step_answer_lem log accepted words positions is.state w in
      let count = done_length step_words width log.workers words workers lent into (step_wide log.workers words lent) j positions steps is in
      let put = part_stored done into (answer ∷ next) (j * width) (j * width + width) count (omega arith) in
      let last : (done ++ (answer ∷ next)) ++ drop (j * width + width) into
      ≡ (done ++ (machine_answer log.workers words positions w ∷ machine_moved log.workers words positions w)) ++ drop (j * width + width) into = rw (told, machine) in
      storing_more step_words width log.workers words workers lent into (step_wide log.workers words lent) j positions steps is h next _ machine
      (ap (λ (l : List ℕ). put_mid (j * width) (j * width + width - j * width) l (answer ∷ next)) is.front ∙ put ∙ last)
      (same_len_mid (j * width) (j * width + width - j * width) steps (answer ∷ next)
      (let fits = step_room in let same = moved_long log.workers (cuts_in log.workers words) (starts_in log.workers words) positions w in
      simp (length-take, length-drop) (omega (arith, ap length machine, is.same))) ∙ is.whole)
