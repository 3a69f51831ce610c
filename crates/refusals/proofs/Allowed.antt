-- What a call that is not refused may use of what it was lent. Assumes nothing.
use mathlib.Core.Path.{◌≡◌, refl, sym, ◌∙◌}
use mathlib.Core.Bool.{false, ◌||◌}
use mathlib.Core.Logic.{⊎_elim, ◌≢◌}
use mathlib.Core.List.{List}
use Prim.Native.Nat.{ℕ, ◌*◌, ◌<◌, ◌≤◌}
use native.Mathlib.Nat.{mul-le-mul}
use native.Mathlib.Omega.{arith}
use borrow.Author.Tests.{ltb-false, leb-false, eq-eqb, ne_eqb, eqb-false}
use lib.Dec.{eqb, leb, ltb}
use lib.ListN.{length}
use Rattle.ranges.specs.Fold.{any_below}
use Rattle.ranges.proofs.Any.{any_each}
use Rattle.ranges.proofs.Bools.{or_false_left, or_false_right}
use Rattle.ranges.proofs.Order.{eq_or_ne}
use mir.Syntax.{w64}
use mir.Val.{Fits}
use Rattle.lent.specs.Lent.{at, or_else, words_refusal}
use Rattle.lent.proofs.Lent.{peel, or_else_zero, or_else_first, words_ok, scratch_ok}
use Rattle.event_log.specs.Limits.{max_workers}
use Rattle.event_log.specs.Layout.{workers_of}
use Rattle.event_log.specs.Model.{Workers, worker_count, event_count, IsEvent}
use Rattle.accept.specs.Refusal.{Given, log_refusal, given}
use Rattle.refusals.specs.Refusals.{worker_refusal, event_refusal, scratch_words, scratch_refusal, over_count, cut_refusal, event_in_refusal, breakpoint_refusal, line_refusal, search_refusal, test_refusal}

module _ (log : Workers) where
  pub worker_ok : (w : ℕ) → worker_refusal log w ≡ 0 → w < worker_count log
  unfolding worker_refusal
  worker_ok w e = leb-false _ _ (peel (leb (worker_count log) w) 11 0 e).0

  event_ok : (w x : ℕ) → event_refusal log w x ≡ 0 → IsEvent log w x
  unfolding event_refusal
  event_ok w x e =
      let none = eqb x 0 in
      let past = ltb (event_count log w) x in
      let tested = (peel (none || past) 12 0 e).0 in
      let positive = eqb-false x 0 (or_false_left none past tested) in
      (omega (arith, positive), ltb-false _ _ (or_false_right none past tested))

  -- the event is one of the log
  pub event_in_ok : (w x : ℕ) → event_in_refusal log w x ≡ 0 → (w < worker_count log) × IsEvent log w x
  event_in_ok w x e = let tests = or_else_zero (worker_refusal log w) (event_refusal log w x) e in (worker_ok w tests.0, event_ok w x tests.1)

-- enough scratch has a row of words, one for each worker
rows_enough : (n lent : ℕ) → scratch_words n ≤ lent → n ≤ lent
unfolding scratch_words
rows_enough n lent h =
    ⊎_elim (λ one. let row = rw (eq-eqb n 1 one) at h in omega arith) (λ other. let rows = rw (ne_eqb n 1 other) at h in omega arith) (eq_or_ne n 1)

-- no log needs more than 2 words for each of as many workers as it may have
pub scratch_few : (n : ℕ) → n ≤ max_workers → scratch_words n ≤ 2 * max_workers
unfolding scratch_words
scratch_few n h = ⊎_elim (λ one. rw (eq-eqb n 1 one) (omega arith)) (λ other. rw (ne_eqb n 1 other) (omega arith)) (eq_or_ne n 1)

-- a number of workers fits with what a 32-bit number of words for each needs
pub each_fits : (each n : ℕ) → each < 4294967296 → n ≤ max_workers → Fits w64 (each * n)
each_fits each n small h = let below : each ≤ 4294967296 = omega arith in let few = mul-le-mul below h in record { fits = omega arith }

-- the breakpoint is an event of an accepted log
pub record IsBreakpoint (s : List ℕ) (w x : ℕ) : Type 0 where
  pub accepted : log_refusal s ≡ 0
  pub within : w < worker_count (workers_of s)
  pub event : IsEvent (workers_of s) w x

-- .. and there are words for each worker, and whatever else is lent is enough
pub record LineLent (s : List ℕ) (w x each lent others : ℕ) : Type 0 where
  pub breakpoint : IsBreakpoint s w x
  pub enough : each * worker_count (workers_of s) ≤ lent
  pub rest : others ≡ 0

-- .. and scratch
pub record SearchLent (s : List ℕ) (w x each lent others scratch : ℕ) : Type 0 where
  pub line : LineLent s w x each lent others
  pub room : worker_count (workers_of s) ≤ scratch

module _ {s : List ℕ} {w x : ℕ} where
  pub breakpoint_ok : {r : ℕ} → r ≡ breakpoint_refusal (given s) w x → r ≡ 0 → IsBreakpoint s w x
  unfolding breakpoint_refusal
  breakpoint_ok found none =
      let first = or_else_zero (log_refusal s) _ (sym found ∙ none) in
      let tests = event_in_ok (workers_of s) w x first.1 in
      record { accepted = first.0; within = tests.0; event = tests.1 }

  module _ {each lent others : ℕ} where
    pub line_ok : {r : ℕ} → r ≡ line_refusal (given s) w x each lent others → r ≡ 0 → LineLent s w x each lent others
    unfolding line_refusal
    line_ok found none =
        let first = or_else_zero (breakpoint_refusal (given s) w x) _ (sym found ∙ none) in
        let tests = or_else_zero (words_refusal lent (each * worker_count (workers_of s))) others first.1 in
        record { breakpoint = breakpoint_ok refl first.0; enough = words_ok lent _ tests.0; rest = tests.1 }

    pub search_ok : {scratch r : ℕ} → r ≡ search_refusal (given s) w x each lent others scratch → r ≡ 0 → SearchLent s w x each lent others scratch
    unfolding search_refusal scratch_refusal
    search_ok {scratch} found none =
        let tests = or_else_zero (line_refusal (given s) w x each lent others) (scratch_refusal (workers_of s) scratch) (sym found ∙ none) in
        record { line = line_ok refl tests.0; room = rows_enough _ scratch (scratch_ok scratch _ tests.1) }

-- a log that is refused: every chain gives its number
pub refused_log : (log : Given) (w x each lent others scratch : ℕ) → log.refusal ≢ 0 → search_refusal log w x each lent others scratch ≡ log.refusal
unfolding search_refusal line_refusal breakpoint_refusal
refused_log log w x each lent others scratch h =
    rw (or_else_first log.refusal _ h, or_else_first log.refusal _ h, or_else_first log.refusal _ h)

-- no word is over its worker's event count
pub under : (log : Workers) (words : List ℕ) → any_below (over_count log words) (worker_count log) ≡ false → (w : ℕ) → w < worker_count log → at words w ≤ event_count log w
unfolding over_count
under log words none w h = ltb-false _ _ (any_each (over_count log words) (worker_count log) none w h)

pub test_ok : (s words : List ℕ) (others : ℕ) {r : ℕ} → r ≡ test_refusal (given s) words (length words) others → r ≡ 0
    → (log_refusal s ≡ 0) × (worker_count (workers_of s) ≤ length words) × (any_below (over_count (workers_of s) words) (worker_count (workers_of s)) ≡ false) × (others ≡ 0)
unfolding test_refusal cut_refusal
test_ok s words others found none =
    let first = or_else_zero (log_refusal s) _ (sym found ∙ none) in
    let second = or_else_zero (or_else (words_refusal (length words) (worker_count (workers_of s))) others) (cut_refusal (workers_of s) words) first.1 in
    let lent = or_else_zero (words_refusal (length words) (worker_count (workers_of s))) others second.0 in
    (first.0, words_ok _ _ lent.0, (peel (any_below (over_count (workers_of s) words) (worker_count (workers_of s))) 15 0 second.1).0, lent.1)
