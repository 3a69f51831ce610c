-- The identifiers in place of the numbers, and the plan words from the words when nothing is pending.
-- Assumes nothing.
use mathlib.Core.Path.{◌≡◌, refl, sym, ◌∙◌, ap}
use mathlib.Core.Bool.{cond}
use mathlib.Core.Logic.{⊎_elim}
use mathlib.Core.List.{List}
use Prim.Native.Nat.{ℕ, zero, suc, ◌+◌, ◌*◌, ◌/◌, ◌%◌, ◌<◌, ◌≤◌}
use native.Mathlib.Omega.{arith}
use borrow.Author.Tests.{ne_eqb}
use lib.Dec.{eqb}
use lib.ListN.{length, set, length-set}
use lib.Seq.{get_or-set_same, get_or-set_other}
use Rattle.ranges.specs.Fold.{tabulate}
use Rattle.ranges.proofs.Order.{lt_or_le, at_or_other}
use Rattle.ranges.proofs.Tabulate.{length_tabulate, get_d_tabulate, tabulate_list}
use Rattle.event_log.specs.Model.{Workers, worker_count}
use Rattle.lent.specs.Lent.{at}
use Rattle.restore_plan.specs.Plan.{identifier_of, identifier_at, plan_starts, plan_word, plan_words}
use Rattle.cost.specs.Words.{cut_in, start_in, identifier_in}
use Rattle.starts.specs.Inner.Rollback.{number_in, Settled, finished_word, finished}
use Rattle.cost.proofs.Held.{starts_in_at}

-- the words when the workers below n have their identifier
pub record Finishing (log : Workers) (words₀ words : List ℕ) (n : ℕ) : Type 0 where
  pub wide : length words ≡ length words₀
  pub done : (j : ℕ) → j < 3 * n → at words j ≡ finished_word log words₀ j
  pub left : (j : ℕ) → 3 * n ≤ j → at words j ≡ at words₀ j

module _ (log : Workers) (words₀ : List ℕ) where
  -- a third word becomes the identifier
  third : (w : ℕ) → finished_word log words₀ (3 * w + 2) ≡ identifier_of log w (number_in words₀ w)
  unfolding finished_word identifier_in
  third w =
      let r : (3 * w + 2) % 3 ≡ 2 = omega arith in
      let q : (3 * w + 2) / 3 ≡ w = omega arith in
      rw (r, q)

  -- the others stay
  kept : (j : ℕ) → (j % 3 ≡ 2 → ⊥) → finished_word log words₀ j ≡ at words₀ j
  unfolding finished_word
  kept j other = rw (ne_eqb (j % 3) 2 other)

  -- of the workers that follow, the number is there still
  number_left : (words : List ℕ) (w : ℕ) → Finishing log words₀ words w → number_in words w ≡ number_in words₀ w
  unfolding identifier_in
  number_left words w f = f.left (3 * w + 2) (omega arith)

  pub finishing_more : (words : List ℕ) (w : ℕ) → 3 * w + 3 ≤ length words₀ → Finishing log words₀ words w
      → Finishing log words₀ (set words (3 * w + 2) (identifier_of log w (number_in words w))) (w + 1)
  finishing_more words w here f =
      record {
        wide = simp length-set f.wide;
        done = at_or_other (3 * w + 2) (λ j. j < 3 * (w + 1) → at (set words (3 * w + 2) x) j ≡ finished_word log words₀ j)
            (λ h. get_or-set_same words (3 * w + 2) x 0 (omega (arith, f.wide)) ∙ ap (identifier_of log w) (number_left words w f) ∙ sym (third w))
            (λ j n h. get_or-set_other words (3 * w + 2) j x 0 n
            ∙ ⊎_elim (λ l. f.done j l) (λ l. f.left j l ∙ sym (kept j (λ e. n (omega arith)))) (lt_or_le j (3 * w)));
        left = λ j h. get_or-set_other words (3 * w + 2) j x 0 (λ e. omega (arith, e)) ∙ f.left j (omega arith);
      }
    where
      x : ℕ
      x = identifier_of log w (number_in words w)

  pub finishing_all : (words : List ℕ) → length words₀ ≡ 3 * worker_count log → Finishing log words₀ words (worker_count log) → words ≡ finished log words₀
  unfolding finished
  finishing_all words wide f = tabulate_list (finished_word log words₀) (3 * worker_count log) 0 words (f.wide ∙ wide) f.done

plan_word_lem : (log : Workers) (cut words : List ℕ) → Settled log cut words → (j : ℕ) → j < 3 * worker_count log → finished_word log words j ≡ plan_word log cut (plan_starts log cut) j
unfolding finished_word plan_word cut_in start_in identifier_in
plan_word_lem log cut words s j h = go (j % 3) refl
  where
    w : ℕ
    w = j / 3

    here : j / 3 < worker_count log
    here = omega arith

    go : (r : ℕ) → j % 3 ≡ r
        → cond (eqb r 2) (identifier_of log w (at words j)) (at words j) ≡ cond (eqb r 0) (at cut w) (cond (eqb r 1) (at (plan_starts log cut) w) (identifier_at log w (at (plan_starts log cut) w)))
    go zero q = let e : 3 * (j / 3) ≡ j = omega arith in rw e at (s.cuts w here)
    go (suc zero) q = let e : 3 * (j / 3) + 1 ≡ j = omega arith in rw (← s.starts) (sym (rw e at (starts_in_at log words w here)))
    go (suc (suc zero)) q =
        let e : 3 * (j / 3) + 2 ≡ j = omega arith in
        rw (← s.starts, starts_in_at log words w here) (rw e at (s.identifiers w here))
    go (suc (suc (suc r))) q = let no : ⊥ = omega arith in absurd no

-- with the identifiers the words are the plan's
pub finished_plan : (log : Workers) (cut words : List ℕ) → Settled log cut words → finished log words ≡ plan_words log cut
unfolding finished plan_words
finished_plan log cut words s =
    tabulate_list (plan_word log cut (plan_starts log cut)) (3 * worker_count log) 0 (tabulate (finished_word log words) (3 * worker_count log))
    (length_tabulate (finished_word log words) (3 * worker_count log))
    (λ j h. get_d_tabulate (finished_word log words) (3 * worker_count log) j 0 h ∙ plan_word_lem log cut words s j h)
