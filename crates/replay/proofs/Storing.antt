-- A loop that makes one step for each worker number of a list, and stores words of each step one after the other. Assumes nothing.
use mathlib.Core.Path.{◌≡◌, refl, sym, ◌∙◌, ap}
use mathlib.Core.Logic.{⊎_elim}
use mathlib.Core.List.{List, [], ◌∷◌, ◌++◌, append-nil, append_assoc}
use Prim.Native.Nat.{ℕ, suc, ◌+◌, ◌-◌, ◌*◌, ◌/◌, ◌<◌, ◌≤◌}
use native.Mathlib.Nat.{suc-mul, mul-le-mul_right, div-lt_iff_lt-mul}
use native.Mathlib.Numerals.{add-one}
use native.Mathlib.Omega.{arith}
use borrow.Rule.Slice.PartMut.{put_mid}
use lib.ListN.{length, take, drop, get_or, set, length-set, length-append}
use lib.Seq.{take-suc, take_at, drop_at, drop-drop, drop-cons, set_at, length-take-le, take_all}
use Rattle.ranges.proofs.Order.{lt_or_le}
use Rattle.lent.specs.Lent.{words_refusal}
use Rattle.lent.proofs.Lent.{words_short, words_enough}
use Rattle.event_log.specs.Model.{Workers}
use Rattle.cost.specs.Words.{cuts_in, starts_in}
use Rattle.replay_machine.specs.Machine.{Step, step_of, moved, run, positions_after, listed, answer_word}
use Rattle.replay_machine.specs.Calls.{machine_answer, machine_moved, machine_run, machine_after}
use Rattle.replay_machine.specs.Inner.State.{IsState}
use Rattle.replay_machine.proofs.Steps.{moved_long}
use Rattle.replay_machine.proofs.Lists.{run_more, after_more}
use Rattle.replay_machine.proofs.Call.{moved_state}

pub listed_append : (each : Step → List ℕ) (a b : List Step) → listed each (a ++ b) ≡ listed each a ++ listed each b
unfolding listed
listed_append each [] b = refl
listed_append each (s ∷ a) b = rw (listed_append each a b) (sym (append_assoc (each s) (listed each a) (listed each b)))

-- words that stand for those after the first `at`, in a list whose front is done: as a part, or one word
pub part_stored : (front lent new : List ℕ) (at next : ℕ) → length front ≡ at → at ≤ next
    → put_mid at (next - at) (front ++ drop at lent) new ≡ (front ++ new) ++ drop next lent
part_stored front lent new at next long h =
    let e : at + (next - at) ≡ next = omega arith in
    rw (take_at front (drop at lent) at long, drop_at front (drop at lent) at long, drop-drop (next - at) at lent, e) (sym (append_assoc front new (drop next lent)))

pub word_stored : (front lent : List ℕ) (a j : ℕ) → length front ≡ j → j < length lent → set (front ++ drop j lent) j a ≡ (front ++ (a ∷ [])) ++ drop (j + 1) lent
word_stored front lent a j long h =
    rw (drop-cons lent j 0 h, add-one j) (set_at front (get_or lent j 0) (drop (suc j) lent) a j long ∙ sym (append_assoc front (a ∷ []) (drop (suc j) lent)))

-- ---- with `width` words for each step, after j steps
pub record Storing (each : Step → List ℕ) (width : ℕ) (log : Workers) (words workers lent into : List ℕ) (j : ℕ) (positions stored : List ℕ) : Type 0 where
  pub bound : j ≤ length workers
  pub state : IsState log words positions
  pub placed : positions ≡ machine_after log words lent (take j workers)
  pub front : stored ≡ listed each (machine_run log words lent (take j workers)) ++ drop (j * width) into
  pub same : length positions ≡ length lent
  pub whole : length stored ≡ length into

module _ (each : Step → List ℕ) (width : ℕ) (log : Workers) (words workers lent into : List ℕ)
    (wide : (positions : List ℕ) (w : ℕ) → length positions ≡ length lent → length (each (step_of log (cuts_in log words) (starts_in log words) positions w)) ≡ width) where
  abbrev cut : List ℕ
  cut = cuts_in log words

  abbrev starts : List ℕ
  starts = starts_in log words

  -- `width` words for each worker number
  pub listed_length : (positions numbers : List ℕ) → length positions ≡ length lent → length (listed each (run log cut starts positions numbers)) ≡ length numbers * width
  unfolding listed run
  listed_length positions [] long = omega arith
  listed_length positions (w ∷ numbers) long =
      let rest = listed_length (moved log cut starts positions w) numbers (moved_long log cut starts positions w ∙ long) in
      simp length-append (let e = suc-mul (length numbers) width in omega (arith, wide positions w long))

  pub storing_begin : IsState log words lent → Storing each width log words workers lent into 0 lent into
  unfolding positions_after run listed
  storing_begin state = record { bound = omega arith; state = state; placed = refl; front = let z : 0 * width ≡ 0 = omega arith in rw z; same = refl; whole = refl }

  module _ (j : ℕ) (positions stored : List ℕ) (is : Storing each width log words workers lent into j positions stored) where
    done : List ℕ
    done = listed each (machine_run log words lent (take j workers))

    pub done_length : length (listed each (machine_run log words lent (take j workers))) ≡ j * width
    done_length = listed_length lent (take j workers) refl ∙ rw (length-take-le j workers is.bound)

    -- one step more has room where one is left
    pub storing_room : length workers * width ≤ length into → j < length workers → j * width + width ≤ length stored
    storing_room enough h = let more = mul-le-mul_right width h in let e = suc-mul j width in omega (arith, is.whole)

    -- one worker number more: the words of its step stand behind those before
    next_listed : (h : j < length workers)
        → listed each (machine_run log words lent (take (j + 1) workers)) ≡ done ++ each (step_of log cut starts positions (get_or workers j 0))
    unfolding done listed
    next_listed h =
        rw (add-one, take-suc workers j 0 h, run_more log cut starts lent (take j workers) (get_or workers j 0))
        (listed_append each (run log cut starts lent (take j workers)) _ ∙ simp append-nil (rw (← is.placed)))

    pub storing_more : (h : j < length workers) (next stored' : List ℕ) → next ≡ machine_moved log words positions (get_or workers j 0)
        → stored' ≡ (listed each (machine_run log words lent (take j workers)) ++ each (step_of log cut starts positions (get_or workers j 0))) ++ drop (j * width + width) into
        → length stored' ≡ length into → Storing each width log words workers lent into (j + 1) next stored'
    unfolding done
    storing_more h next stored' machine put long =
        let e : (j + 1) * width ≡ j * width + width = rw add-one (suc-mul j width) in
        record {
          bound = omega arith;
          state = rw machine (moved_state log words positions is.state (get_or workers j 0));
          placed = machine ∙ rw is.placed (sym (rw (add-one, take-suc workers j 0 h) (after_more log cut starts lent (take j workers) (get_or workers j 0))));
          front = put ∙ rw (e, next_listed h);
          same = rw machine (moved_long log cut starts positions (get_or workers j 0) ∙ is.same);
          whole = long;
        }

-- ---- the answers alone, one word for each step
pub answers_length : (log : Workers) (words positions workers : List ℕ) → length (listed answer_word (machine_run log words positions workers)) ≡ length workers
answers_length log words positions workers =
    let long = listed_length answer_word 1 log words workers positions [] (λ p w h. refl) positions workers refl in omega arith

module _ (log : Workers) (words workers lent into : List ℕ) (enough : length workers ≤ length into)
    (j : ℕ) (positions answers : List ℕ) (is : Storing answer_word 1 log words workers lent into j positions answers) (h : j < length workers) where
  pub answer_stored : (answer : ℕ) (next : List ℕ) → answer ≡ machine_answer log words positions (get_or workers j 0) → next ≡ machine_moved log words positions (get_or workers j 0)
      → Storing answer_word 1 log words workers lent into (j + 1) next (set answers j answer)
  unfolding step_of
  answer_stored answer next told machine =
      let one : j * 1 ≡ j = omega arith in
      let long = done_length answer_word 1 log words workers lent into (λ p w h. refl) j positions answers is in
      let front = word_stored (listed answer_word (machine_run log words lent (take j workers))) into answer j (long ∙ one) (omega arith) in
      storing_more answer_word 1 log words workers lent into (λ p w h. refl) j positions answers is h next (set answers j answer) machine
      (ap (λ (l : List ℕ). set l j answer) is.front ∙ rw (one, ← told) front)
      (length-set answers j answer ∙ is.whole)

-- whether there are words for the steps, tested by a quotient that cannot wrap
pub room_quotient : (lent calls n : ℕ) → words_refusal (lent / (n + 1)) calls ≡ words_refusal lent (calls * (n + 1))
room_quotient lent calls n =
    let iff = div-lt_iff_lt-mul {k = n + 1} {x = lent} {y = calls} (omega arith) in
    ⊎_elim
    (λ l. words_short _ _ l ∙ sym (words_short _ _ (iff.0 l)))
    (λ l. words_enough _ _ l ∙ sym (words_enough _ _ (⊎_elim (λ m. let no : ⊥ = omega (arith, iff.1 m) in absurd no) (λ m. m) (lt_or_le lent (calls * (n + 1))))))
    (lt_or_le (lent / (n + 1)) calls)
