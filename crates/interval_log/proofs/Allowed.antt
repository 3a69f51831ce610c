-- What a conversion that is not refused may use of what it was lent. Assumes nothing.
use mathlib.Core.Path.{◌≡◌, sym, ◌∙◌, ap}
use mathlib.Core.Bool.{cond}
use mathlib.Core.List.{List}
use Prim.Native.Nat.{ℕ, ◌≤◌}
use Rattle.lent.proofs.Lent.{or_else_zero}
use Rattle.event_log.specs.Limits.{max_length}
use Rattle.event_log.specs.Layout.{workers_of}
use Rattle.accept.specs.Refusal.{log_refusal, given}
use Rattle.event_log.specs.Model.{Workers}
use Rattle.pack.specs.declared.Packed.{Packed}
use Rattle.pack.specs.Packed.{packed_length}
use Rattle.pack.specs.Calls.{room_refusal, pack_answer}
use Rattle.pack.proofs.Allowed.{room_ok, answer_written}
use Rattle.intervals.specs.Interval.{interval_workers}
use Rattle.interval_refusals.specs.Calls.{crowded, intervals_refusal}

pub record IntervalsLent (s : List ℕ) (lent others : ℕ) : Type 0 where
  pub accepted : log_refusal s ≡ 0
  pub fits : packed_length (interval_workers (workers_of s)) ≤ max_length
  pub enough : packed_length (interval_workers (workers_of s)) ≤ lent
  pub rest : others ≡ 0

pub intervals_ok : {s : List ℕ} {lent others refusal : ℕ} → refusal ≡ intervals_refusal (given s) lent others → refusal ≡ 0 → IntervalsLent s lent others
unfolding intervals_refusal
intervals_ok {s} {lent} {others} found none =
    let parts = or_else_zero (log_refusal s) _ (sym found ∙ none) in
    let apart = or_else_zero (cond (crowded (workers_of s)) 28 0) _ parts.1 in
    let behind = or_else_zero (room_refusal (packed_length (interval_workers (workers_of s))) lent) others apart.1 in
    let room = room_ok (packed_length (interval_workers (workers_of s))) lent behind.0 in
    record { accepted = parts.0; fits = room.0; enough = room.1; rest = behind.1 }

-- .. and the length that was judged is that of the interval log
pub judged_long : (log : Workers) {judged : Packed} → judged ≡ pack_answer judged.refusal (interval_workers log) → judged.refusal ≡ 0
    → judged.written ≡ packed_length (interval_workers log)
judged_long log answer none = ap (λ (r : Packed). r.written) answer ∙ answer_written _ _ none
