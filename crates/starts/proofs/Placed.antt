-- The words after a worker is given a checkpoint, and the last checkpoint that may be chosen with an index below a bound.
-- Assumes nothing.
use mathlib.Core.Path.{◌≡◌, ◌∙◌}
use mathlib.Core.Logic.{◌≢◌, ⊎_elim}
use mathlib.Core.Bool.{true}
use mathlib.Core.List.{List}
use Prim.Native.Nat.{ℕ, ◌+◌, ◌*◌, ◌<◌, ◌≤◌}
use native.Mathlib.Omega.{arith}
use borrow.Author.Tests.{lt-ltb, ltb-true}
use lib.Dec.{ltb}
use lib.ListN.{length, set, length-set}
use lib.Seq.{get_or-set_same, get_or-set_other}
use Rattle.ranges.proofs.First.{last}
use Rattle.ranges.proofs.Order.{lt_or_le}
use Rattle.ranges.proofs.Bools.{and_true_left, and_true_right}
use Rattle.event_log.specs.Model.{Workers, checkpoint_of}
use Rattle.event_log.proofs.Read.{checkpoint_initial}
use Rattle.choice.specs.Choice.{may_choose}
use Rattle.cost.specs.Words.{cut_in, start_in, identifier_in}
use Rattle.choice.proofs.Choosable.{may_initial}
use Rattle.starts.specs.Inner.Rollback.{number_in, may_start_below, number_below, placed}

-- r is the last checkpoint of worker w, up to number c, that may be chosen and has an index below bound
pub record IsBelow (log : Workers) (w bound c r : ℕ) : Type 0 where
  pub low : r ≤ c
  pub may : may_choose log w r ≡ true
  pub index : (checkpoint_of log w r).index < bound
  pub later : (d : ℕ) → r < d → d ≤ c → may_choose log w d ≡ true → bound ≤ (checkpoint_of log w d).index

pub number_below_lem : (log : Workers) (w bound c : ℕ) → 0 < bound → IsBelow log w bound c (number_below log w bound c)
unfolding number_below may_start_below
number_below_lem log w bound c some =
    let first : may_start_below log w bound 0 ≡ true = rw (may_initial log w, checkpoint_initial log w) (lt-ltb 0 bound some) in
    let found = last (may_start_below log w bound) (λ d. d) (c + 1) 0 (omega arith) first in
    let r = found.0 in
    let holds = found.1.holds in
    rw found.2 (record {
      low = omega (arith, found.1.below);
      may = and_true_left (may_choose log w r) (ltb (checkpoint_of log w r).index bound) holds;
      index = ltb-true _ _ (and_true_right (may_choose log w r) (ltb (checkpoint_of log w r).index bound) holds);
      later = λ d above inside may.
          ⊎_elim
          (λ l. let h = found.1.after d (omega arith) (rw (may) (lt-ltb _ _ l)) in let no : ⊥ = omega arith in absurd no)
          (λ l. l)
          (lt_or_le (checkpoint_of log w d).index bound);
    })

module _ (log : Workers) (words : List ℕ) (w c : ℕ) where
  -- the words are as many as before, and every worker keeps its cut
  pub placed_length : length (placed log words w c) ≡ length words
  unfolding placed
  placed_length = simp length-set

  pub placed_cut : (v : ℕ) → cut_in (placed log words w c) v ≡ cut_in words v
  unfolding placed cut_in
  placed_cut v =
      get_or-set_other (set words (3 * w + 1) (checkpoint_of log w c).index) (3 * w + 2) (3 * v) c 0 (λ e. omega (arith, e))
      ∙ get_or-set_other words (3 * w + 1) (3 * v) (checkpoint_of log w c).index 0 (λ e. omega (arith, e))

  -- the other workers keep their starts and numbers
  pub placed_start_other : (v : ℕ) → v ≢ w → start_in (placed log words w c) v ≡ start_in words v
  unfolding placed start_in
  placed_start_other v other =
      get_or-set_other (set words (3 * w + 1) (checkpoint_of log w c).index) (3 * w + 2) (3 * v + 1) c 0 (λ e. omega (arith, e))
      ∙ get_or-set_other words (3 * w + 1) (3 * v + 1) (checkpoint_of log w c).index 0 (λ e. other (omega (arith, e)))

  pub placed_number_other : (v : ℕ) → v ≢ w → number_in (placed log words w c) v ≡ number_in words v
  unfolding placed identifier_in
  placed_number_other v other =
      get_or-set_other (set words (3 * w + 1) (checkpoint_of log w c).index) (3 * w + 2) (3 * v + 2) c 0 (λ e. other (omega (arith, e)))
      ∙ get_or-set_other words (3 * w + 1) (3 * v + 2) (checkpoint_of log w c).index 0 (λ e. omega (arith, e))

  module _ (here : 3 * w + 3 ≤ length words) where
    -- the worker has the checkpoint
    pub placed_start : start_in (placed log words w c) w ≡ (checkpoint_of log w c).index
    unfolding placed start_in
    placed_start =
        get_or-set_other (set words (3 * w + 1) (checkpoint_of log w c).index) (3 * w + 2) (3 * w + 1) c 0 (λ e. omega (arith, e))
        ∙ get_or-set_same words (3 * w + 1) (checkpoint_of log w c).index 0 (omega arith)

    pub placed_number : number_in (placed log words w c) w ≡ c
    unfolding placed identifier_in
    placed_number =
        get_or-set_same (set words (3 * w + 1) (checkpoint_of log w c).index) (3 * w + 2) c 0 (simp length-set (omega arith))
