-- What the lower cut returns and leaves: "A refusal returns its number with every other number 0".
-- Assumes nothing.
use Rattle.std.specs.Prelude.{cond, List, [], ◌∷◌, ℕ, eqb, length}
use Rattle.lent.specs.Lent.{words_refusal, Left, leaves_both}
use Rattle.event_log.specs.Model.{Workers, worker_count}
use Rattle.accept.specs.Refusal.{Given}
use Rattle.refusals.specs.Refusals.{search_refusal}
use Rattle.lower_cut.specs.declared.Cut.{Cut}
use Rattle.lower_cut.specs.Figure2.{figure2, lower_cut}
use Rattle.lower_cut.specs.Workers.{workers_word}

-- "The lower cut returns visits and the workers word"
unfoldable pub found_cut : Workers → ℕ → ℕ → Cut
found_cut log w e = record { refusal = 0; visits = (figure2 log w e).visits; workers = workers_word (lower_cut log w e) (worker_count log) }

unfoldable pub cut_answer : ℕ → Workers → ℕ → ℕ → Cut
cut_answer refusal log w e = cond (eqb refusal 0) (found_cut log w e) (record { refusal = refusal; visits = 0; workers = 0 })

-- how many words the exported call is lent for these two, and the two in them
abbrev pub cut_total_words : ℕ
cut_total_words = 2

unfoldable pub cut_totals : Cut → List ℕ
cut_totals found = found.visits ∷ found.workers ∷ []

-- `lower_cut`: of a worker, an event, the words, the number of scratch words and the totals
abbrev pub lower_cut_call : Given → ℕ → ℕ → List ℕ → ℕ → List ℕ → Left
lower_cut_call log w e words scratch totals =
    leaves_both (search_refusal log w e 1 (length words) (words_refusal (length totals) cut_total_words) scratch)
    (lower_cut log.workers w e) words (cut_totals (found_cut log.workers w e)) totals
