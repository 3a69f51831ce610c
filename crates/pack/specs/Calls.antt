-- What the writer of packed logs refuses, returns and leaves.
-- Assumes nothing.
use Rattle.std.specs.Prelude.{cond, List, [], ◌∷◌, ℕ, eqb, ltb, length}
use Rattle.lent.specs.Lent.{or_else, words_refusal, Left, leaves_both}
use Rattle.event_log.specs.Limits.{max_length}
use Rattle.event_log.specs.Model.{Workers, Log}
use Rattle.accept.specs.Refusal.{Given}
use Rattle.pack.specs.declared.Packed.{Packed}
use Rattle.pack.specs.Packed.{packed_length, packed}

-- "26, the packed log would exceed 4,194,304 bytes; 25, too few bytes lent for it": of its length and the number of bytes lent
unfoldable pub room_refusal : ℕ → ℕ → ℕ
room_refusal size lent = cond (ltb max_length size) 26 (cond (ltb lent size) 25 0)

-- "they follow 24 in that order": the log's, then these, then 14 where something else lent is too short, `others`
unfoldable pub pack_refusal : Given → ℕ → ℕ → ℕ
pack_refusal log lent others = or_else log.refusal (or_else (room_refusal (packed_length log.workers) lent) others)

-- "returns the bytes written"; "A refusal returns its number with every other number 0"
unfoldable pub pack_answer : ℕ → Workers → Packed
pack_answer refusal log = cond (eqb refusal 0) (record { refusal = 0; written = packed_length log }) (record { refusal = refusal; written = 0 })

-- `pack`, of what it is given of a log and of the log itself, whose form it keeps: of the bytes and of the word for their number
abbrev pub pack_call : Given → Log → List ℕ → List ℕ → Left
pack_call given log out written =
    leaves_both (pack_refusal given (length out) (words_refusal (length written) 1)) (packed log) out (packed_length log.workers ∷ []) written
