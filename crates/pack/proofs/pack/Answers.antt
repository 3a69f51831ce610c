-- `pack::pack` meets its contract: the number is `pack_refusal`'s; where it is 0 (`pack_ok`) fields, entries and sections, each written
-- where the last ends, are the packed log (`packed_written`, `file_archived`), else no byte changes. Assumes nothing.
use mathlib.Core.Path.{refl, sym, ◌∙◌}
use borrow.Author.Tests.{ne_eqb}
use native.Mathlib.Omega.{arith}
use Rattle.lent.specs.Lent.{unless_refused}
use Rattle.lent.proofs.Lent.{put, untouched}
use Rattle.event_log.specs.Layout.{workers_of, log_of}
use Rattle.event_log.proofs.Readable.{readable}
use Rattle.pack.specs.Packed.{fields_of, packed}
use Rattle.pack.specs.Calls.{pack_answer}
use Rattle.pack.proofs.Allowed.{pack_ok, lent_packable}
use Rattle.pack.proofs.Archive.{file_archived}
use Rattle.pack.proofs.Writing.{header_within, room_same, packed_written}
use Rattle.pack.proofs.pack.Goals as goal

pub returns-then-refusal-ne0 : goal.returns-then-refusal-ne0
unfolding pack_answer
returns-then-refusal-ne0 c = record { refused = c.pack_refusal-refusal.ensures.answer; answer = rw (ne_eqb _ _ c.if-refusal-ne0.true); out = untouched _ _ _ c.if-refusal-ne0.true; archived = λ none. absurd (c.if-refusal-ne0.true none) }

pub packed_length-size-requires : goal.packed_length-size-requires
packed_length-size-requires c = (pack_ok c.pack_refusal-refusal.ensures.answer c.if-refusal-ne0.false).room.layout

pub form_field-requires : goal.form_field-requires
form_field-requires c = (readable _ (pack_ok c.pack_refusal-refusal.ensures.answer c.if-refusal-ne0.false).room.layout).long

pub worker_count-requires : goal.worker_count-requires
worker_count-requires c = (pack_ok c.pack_refusal-refusal.ensures.answer c.if-refusal-ne0.false).room.layout

pub write_fields-requires : goal.write_fields-requires
write_fields-requires c =
    let room = (pack_ok c.pack_refusal-refusal.ensures.answer c.if-refusal-ne0.false).room in
    let within = header_within (workers_of c.args.log.now) in
    (omega (arith, room.enough), c.worker_count.ensures.few, omega (arith, room.fits, c.packed_length-size.ensures.answer, (readable _ room.layout).short))

pub write_entries-requires : goal.write_entries-requires
write_entries-requires c = room_same (pack_ok c.pack_refusal-refusal.ensures.answer c.if-refusal-ne0.false).room c.out-1.given

pub write_sections-requires : goal.write_sections-requires
write_sections-requires c = room_same (pack_ok c.pack_refusal-refusal.ensures.answer c.if-refusal-ne0.false).room (c.out-2-1.given ∙ c.out-1.given)

pub returns : goal.returns
unfolding pack_answer fields_of
returns c =
    let none = c.if-refusal-ne0.false in
    let size = c.packed_length-size.ensures.answer in
    let log = c.args.log.now in
    let out = c.args.out.now in
    let filled =
    ◌∙◌ {c = unless_refused 0 (packed (log_of log)) out} c.write_sections.ensures.out
    (rw (c.write_entries.ensures.out, c.write_fields.ensures.out, c.worker_count.ensures.answer, c.form_field.ensures.answer, size) (packed_written (log_of log) out ∙ put 0 (packed (log_of log)) out refl)) in
    let p = lent_packable (λ i. omega (arith, c.shared_slice_known-1.given i)) (pack_ok c.pack_refusal-refusal.ensures.answer none) in record { refused = sym none ∙ c.pack_refusal-refusal.ensures.answer; answer = rw size; out = filled; archived = λ _. rw filled (file_archived log p out _ size) }
