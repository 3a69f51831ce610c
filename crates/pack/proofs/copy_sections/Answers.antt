-- `pack::copy_sections` meets its contract: the events are copied to `at` and the checkpoints to where those end, which are the sections of
-- worker w (`sections_copied`), and they end where the next worker's begin (`parts_end`). Assumes nothing.
use mathlib.Core.Path.{◌∙◌}
use native.Mathlib.Omega.{arith}
use Rattle.pack.proofs.Writing.{parts_end, parts_room, sections_copied}
use Rattle.pack.proofs.copy_sections.Goals as goal

pub overflow_add-behind : goal.overflow_add-behind
overflow_add-behind c =
    let room = parts_room c.requires.0 c.requires.1 c.requires.2 in
    rw c.events_part-events.ensures.answer (omega (arith, room.0))

pub copy_bytes-requires : goal.copy_bytes-requires
copy_bytes-requires c =
    let room = parts_room c.requires.0 c.requires.1 c.requires.2 in
    rw c.events_part-events.ensures.answer (omega (arith, room.1))

pub copy_bytes-requires-2 : goal.copy_bytes-requires-2
copy_bytes-requires-2 c =
    let room = parts_room c.requires.0 c.requires.1 c.requires.2 in
    rw (c.events_part-events.ensures.answer, c.checkpoints_part-checkpoints.ensures.answer)
    (omega (arith, room.1, c.out-1.given))

pub overflow_add-result : goal.overflow_add-result
overflow_add-result c =
    let room = parts_room c.requires.0 c.requires.1 c.requires.2 in
    rw (c.events_part-events.ensures.answer, c.checkpoints_part-checkpoints.ensures.answer) (omega (arith, room.0))

pub returns : goal.returns
returns c =
    let room = parts_room c.requires.0 c.requires.1 c.requires.2 in record {
      answer = rw (c.events_part-events.ensures.answer, c.checkpoints_part-checkpoints.ensures.answer, c.requires.2) (parts_end c.args.log.now c.requires.0.layout c.args.w c.requires.1);
      out = c.copy_bytes-2.ensures.bytes
          ∙ rw (c.copy_bytes.ensures.bytes, c.events_part-events.ensures.answer, c.checkpoints_part-checkpoints.ensures.answer)
          (sections_copied c.args.log.now c.requires.0.layout c.args.w c.requires.1 (λ i. omega (arith, c.shared_slice_known-1.given i)) c.requires.0.kinds c.args.at c.args.out.now (omega (arith, room.1)));
    }
