-- What the calls for a vector and for the cut test return and leave.
-- Assumes nothing.
use Rattle.std.specs.Prelude.{◌≡◌, Bool, false, cond, ◌↔◌, List, [], ◌∷◌, ℕ, eqb, length, take}
use Rattle.lent.specs.Lent.{words_refusal, Left, leaves, word_of}
use Rattle.event_log.specs.Model.{Workers, worker_count}
use Rattle.accept.specs.Refusal.{Given}
use Rattle.causality.specs.Cut.{vector, Consistent, is_consistent}
use Rattle.refusals.specs.Refusals.{line_refusal, test_refusal}

-- "A refusal returns its number with every other number 0, a test's yes or no included"
unfoldable pub yes_unless : ℕ → Bool → Bool
yes_unless refusal answer = cond (eqb refusal 0) answer false

-- `vector`: of a worker, an event and the words
abbrev pub vector_call : Given → ℕ → ℕ → List ℕ → Left
vector_call log w e words = leaves (line_refusal log w e 1 (length words) 0) (vector log.workers w e) words

-- `cut_test`: of the words tested and of those for the answer
abbrev pub cut_test_call : Given → List ℕ → List ℕ → Left
cut_test_call log words answer =
    leaves (test_refusal log words (length words) (words_refusal (length answer) 1))
    (word_of (is_consistent log.workers (take (worker_count log.workers) words)) ∷ []) answer

-- what the test's answer, 1 or 0, tells: "yes exactly when n given words are a consistent cut"
abbrev pub TellsConsistent : Workers → List ℕ → ℕ → Type 0
TellsConsistent log words answer = (answer ≡ 1) ↔ Consistent log (take (worker_count log) words)
