-- What the covering test returns and leaves.
-- Assumes nothing.
use Rattle.std.specs.Prelude.{List, [], ◌∷◌, ℕ, length}
use Rattle.lent.specs.Lent.{or_else, words_refusal, Left, leaves, word_of}
use Rattle.accept.specs.Refusal.{Given}
use Rattle.covering.specs.Covering.{covering_set}

-- `covers`: of the identifier and of the words for the answer
abbrev pub covers_call : Given → ℕ → List ℕ → Left
covers_call log t answer = leaves (or_else log.refusal (words_refusal (length answer) 1)) (word_of (covering_set log.workers t) ∷ []) answer
