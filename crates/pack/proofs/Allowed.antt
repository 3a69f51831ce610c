-- What a call that is not refused may use of what it was lent. Assumes nothing.
use mathlib.Core.Path.{◌≡◌, sym, ◌∙◌}
use mathlib.Core.Bool.{cond}
use mathlib.Core.List.{List}
use Prim.Native.Nat.{ℕ, ◌≤◌}
use borrow.Author.Tests.{ltb-false, eq-eqb}
use lib.Dec.{ltb}
use Rattle.lent.proofs.Lent.{peel, or_else_zero}
use Rattle.bytes_le.specs.Little.{Bytes}
use Rattle.event_log.specs.Limits.{max_length}
use Rattle.event_log.specs.Layout.{workers_of}
use Rattle.event_log.specs.Model.{Workers}
use Rattle.accept.specs.Refusal.{log_refusal, given}
use Rattle.accept.proofs.Accepted.{accepted_layout, known_kind, well_formed}
use Rattle.pack.specs.Packed.{packed_length}
use Rattle.pack.specs.Calls.{room_refusal, pack_refusal, pack_answer}
use Rattle.pack.specs.Archive.{Packable}
use Rattle.pack.specs.Inner.Room.{KnownKinds, Room}

pub record PackLent (s : List ℕ) (lent others : ℕ) : Type 0 where
  pub accepted : log_refusal s ≡ 0
  pub room : Room s lent
  pub rest : others ≡ 0

-- the events of an accepted log are of the three kinds
pub accepted_kinds : (s : List ℕ) → log_refusal s ≡ 0 → KnownKinds (workers_of s)
accepted_kinds s accepted = known_kind (workers_of s) (well_formed s accepted)

pub room_ok : (size lent : ℕ) → room_refusal size lent ≡ 0 → (size ≤ max_length) × (size ≤ lent)
unfolding room_refusal
room_ok size lent e =
    let over = peel (ltb max_length size) 25 (cond (ltb lent size) 25 0) e in
    (ltb-false _ _ over.0, ltb-false _ _ (peel (ltb lent size) 24 0 over.1).0)

pub pack_ok : {s : List ℕ} {lent others refusal : ℕ} → refusal ≡ pack_refusal (given s) lent others → refusal ≡ 0 → PackLent s lent others
unfolding pack_refusal
pack_ok {s} {lent} {others} found none =
    let parts = or_else_zero (log_refusal s) _ (sym found ∙ none) in
    let behind = or_else_zero (room_refusal (packed_length (workers_of s)) lent) others parts.1 in
    let fits = room_ok (packed_length (workers_of s)) lent behind.0 in
    record {
      accepted = parts.0;
      room = record { layout = accepted_layout s parts.0; kinds = accepted_kinds s parts.0; fits = fits.0; enough = fits.1 };
      rest = behind.1;
    }

pub lent_packable : {s : List ℕ} {lent others : ℕ} → Bytes s → PackLent s lent others → Packable s
lent_packable all may = record { bytes = all; accepted = may.accepted; fits = may.room.fits }

pub answer_written : (refusal : ℕ) (log : Workers) → refusal ≡ 0 → (pack_answer refusal log).written ≡ packed_length log
unfolding pack_answer
answer_written refusal log none = rw (eq-eqb refusal 0 none)
