-- The packed log of an accepted log is the same log: `Archived`. Assumes nothing.
use mathlib.Core.Path.{◌≡◌, sym, ◌∙◌, ap}
use mathlib.Core.Bool.{false}
use mathlib.Core.List.{List}
use Prim.Native.Nat.{ℕ, ◌<◌}
use native.Mathlib.Omega.{arith}
use borrow.Author.Tests.{le-ltb}
use lib.ListN.{length, take}
use Rattle.ranges.specs.Fold.{join_below}
use Rattle.ranges.proofs.Any.{any_every}
use Rattle.ranges.proofs.Tabulate.{tabulate_same}
use Rattle.lent.proofs.Lent.{or_else_zero, or_else_second, named_words}
use Rattle.lent.specs.Lent.{unless_refused}
use Rattle.event_log.specs.Limits.{max_events, max_checkpoints, max_role}
use Rattle.event_log.specs.Header.{layout_refusal}
use Rattle.event_log.specs.Model.{Log, Workers, worker_count, role_of, event_count, checkpoint_count}
use Rattle.event_log.specs.Layout.{size_field, field, event_count_field, checkpoint_count_field, event_section, checkpoint_section, worker_of, workers_of, log_of}
use Rattle.event_log.proofs.Readable.{readable, length_passed}
use Rattle.event_log.proofs.Read.{size_read, workers_few, count_read, checkpoints_read, role_read, count_field, checkpoints_field, role_field_lem}
use Rattle.accept.specs.Refusal.{content_refusal, log_refusal}
use Rattle.accept.proofs.Accepted.{accepted_layout}
use Rattle.pack.specs.Packed.{event_at, checkpoint_at, packed_length, packed}
use Rattle.pack.specs.Archive.{Packable, Agree, Archived}
use Rattle.pack.specs.Inner.Room.{KnownKinds}
use Rattle.pack.proofs.Allowed.{accepted_kinds}
use Rattle.pack.proofs.Records.{events_long_lem, checkpoints_long, events_bytes, checkpoints_bytes}
use Rattle.pack.proofs.Header.{packed_all_long, packed_all_bytes}
use Rattle.pack.proofs.Writing.{header_within}
use Rattle.pack.proofs.ReadBack.{LogFits, over_limit, read_packed, packed_header, read_fits}

-- ---- a log that is accepted and that 26 does not refuse
module _ (s : List ℕ) (p : Packable s) where
  layout : layout_refusal s ≡ 0
  layout = accepted_layout s p.accepted

  known : KnownKinds (workers_of s)
  known = accepted_kinds s p.accepted

  abbrev workers : Workers
  workers = workers_of s

  abbrev file : List ℕ
  file = packed (log_of s)

  -- its packed bytes are read as the same log
  fits : LogFits (log_of s)
  fits = let short = p.fits in read_fits s p.bytes (omega arith)

  same_log : log_of file ≡ log_of s
  same_log = read_packed (log_of s) fits

  -- .. and are accepted: no count and no role is over its limit
  within_limits : (w : ℕ) → w < worker_count workers → over_limit workers w ≡ false
  unfolding over_limit
  within_limits w h =
      rw (
        le-ltb max_events (event_count workers w) (count_field s layout w).1,
        le-ltb max_checkpoints (checkpoint_count workers w) (checkpoints_field s layout w).1,
        le-ltb max_role (role_of workers w) (role_field_lem s layout w).1,
      )

  file_layout : layout_refusal file ≡ 0
  file_layout =
      let was = readable s layout in
      let size = size_read s in
      let long = packed_all_long (log_of s) in
      let header = header_within workers in
      let short = p.fits in
      length_passed file (omega arith) (omega arith) ∙ packed_header (log_of s) fits was.form (omega arith) (workers_few s layout)
      ∙ rw (any_every (over_limit workers) (worker_count workers) within_limits)

  file_accepted : log_refusal file ≡ 0
  unfolding log_refusal
  file_accepted =
      let content = (or_else_zero (layout_refusal s) (content_refusal (log_of s)) p.accepted).1 in
      or_else_second (layout_refusal file) (content_refusal (log_of file)) file_layout ∙ ap content_refusal same_log ∙ content

  file_packable : Packable file
  file_packable =
      record { bytes = packed_all_bytes (log_of s); accepted = file_accepted; fits = rw (ap (λ (log : Log). log.workers) same_log) p.fits }

-- ---- two of them
-- logs that agree hold the same workers
module _ (s t : List ℕ) (p : Packable s) (q : Packable t) (a : Agree s t) where
  agreed_worker : (w : ℕ) → w < size_field s → worker_of s w ≡ worker_of t w
  unfolding worker_of
  agreed_worker w h =
      let h' : w < size_field t = rw a.worker_count at h in
      let here : w < worker_count (workers_of s) = rw (size_read s) h in
      let there : w < worker_count (workers_of t) = rw (size_read t) h' in
      let events = ap (λ (l : List ℕ). length l) (a.event_records w h) in
      let checkpoints = ap (λ (l : List ℕ). length l) (a.checkpoint_records w h) in
      let long = events_long_lem s (layout s p) w here in
      let long' = events_long_lem t (layout t q) w there in
      let listed = checkpoints_long s (layout s p) w here in
      let listed' = checkpoints_long t (layout t q) w there in
      let counted = count_read s w h in
      let counted' = count_read t w h' in
      let recorded = checkpoints_read s w h in
      let recorded' = checkpoints_read t w h' in
      let count : field s w event_count_field ≡ field t w event_count_field = omega arith in
      let count' : field s w checkpoint_count_field ≡ field t w checkpoint_count_field = omega arith in
      rw (a.form, a.roles w h, count, count', a.event_records w h, a.checkpoint_records w h)

  agreed_log : log_of s ≡ log_of t
  unfolding workers_of
  agreed_log =
      rw (a.form, a.worker_count, tabulate_same (worker_of s) (worker_of t) (size_field t) (λ w h. agreed_worker w (rw a.worker_count h)))

-- the bytes of the records are those of the log that they hold
sections_of_log : (s t : List ℕ) → Packable s → Packable t → log_of s ≡ log_of t → (w : ℕ) → w < worker_count (workers_of s)
    → (event_section s w ≡ event_section t w) × (checkpoint_section s w ≡ checkpoint_section t w)
sections_of_log s t p q e w h =
    let workers : workers_of s ≡ workers_of t = ap (λ (log : Log). log.workers) e in
    let h' : w < worker_count (workers_of t) = rw workers at h in
    let events = events_bytes s (layout s p) w h p.bytes (known s p) in
    let checkpoints = checkpoints_bytes s (layout s p) w h p.bytes in (
      sym events ∙ ap (λ (ws : Workers). join_below (event_at ws w) (event_count ws w)) workers ∙ events_bytes t (layout t q) w h' q.bytes (known t q),
      sym checkpoints ∙ ap (λ (ws : Workers). join_below (checkpoint_at ws w) (checkpoint_count ws w)) workers ∙ checkpoints_bytes t (layout t q) w h' q.bytes,
    )

agree : (s t : List ℕ) → Packable s → Packable t → log_of s ≡ log_of t → Agree s t
agree s t p q e =
    let workers : workers_of s ≡ workers_of t = ap (λ (log : Log). log.workers) e in
    record {
      form = ap (λ (log : Log). log.form) e;
      worker_count = size;
      roles = λ w h. sym (role_read s w h) ∙ ap (λ (ws : Workers). role_of ws w) workers ∙ role_read t w (rw size at h);
      event_records = λ w h. (sections_of_log s t p q e w (rw (size_read s) h)).0;
      checkpoint_records = λ w h. (sections_of_log s t p q e w (rw (size_read s) h)).1;
    }
  where
    size : size_field s ≡ size_field t
    size = sym (size_read s) ∙ ap (λ (log : Log). worker_count log.workers) e ∙ size_read t

pub archived : (s : List ℕ) → Packable s → Archived s (packed (log_of s))
archived s p =
    record {
      long = packed_all_long (log_of s);
      packable = file_packable s p;
      same = same_log s p;
      again = ap packed (same_log s p);
      one = λ t q.
          (λ e. agree s t p q (sym (same_log s p) ∙ ap log_of e ∙ same_log t q), λ a. ap packed (agreed_log s t p q a));
    }

-- the bytes that a call leaves in front of the others are the packed log
pub file_archived : (s : List ℕ) → Packable s → (out : List ℕ) (number : ℕ) → number ≡ packed_length (workers_of s)
    → Archived s (take number (unless_refused 0 (packed (log_of s)) out))
unfolding unless_refused
file_archived s p out number is = rw (is, named_words (packed_length (workers_of s)) (packed (log_of s)) out (packed_all_long (log_of s))) (archived s p)
