-- What a call that writes a log leaves in `written`: the number of bytes, in its first word. Assumes nothing.
use mathlib.Core.Path.{◌≡◌, refl, sym, ◌∙◌, ap}
use mathlib.Core.List.{List, [], ◌∷◌}
use Prim.Native.Nat.{ℕ, ◌≤◌}
use lib.ListN.{length, set}
use Rattle.lent.specs.Lent.{at, unless_refused}
use Rattle.lent.proofs.Lent.{put, store_each, stored_words}
use Rattle.event_log.specs.Model.{Workers}
use Rattle.pack.specs.declared.Packed.{Packed}
use Rattle.pack.specs.Packed.{packed_length}
use Rattle.pack.specs.Calls.{pack_answer}
use Rattle.pack.proofs.Allowed.{answer_written}
use Rattle.planner.proofs.Answered.{first_word}

-- of a call that is not refused and returned what there is to return of a log of these workers
module _ (log : Workers) {r : Packed} (is : r ≡ pack_answer r.refusal log) (none : r.refusal ≡ 0) (written : List ℕ) (enough : 1 ≤ length written) where
  number : r.written ≡ packed_length log
  number = ap (λ (p : Packed). p.written) is ∙ answer_written r.refusal log none

  pub number_stored : set written 0 r.written ≡ unless_refused 0 (packed_length log ∷ []) written
  unfolding store_each
  number_stored = rw number (stored_words (packed_length log ∷ []) written enough ∙ put 0 (packed_length log ∷ []) written refl)

  pub number_first : at (set written 0 r.written) 0 ≡ r.written
  number_first = first_word 0 (packed_length log) written _ number_stored refl ∙ sym number
