-- `records::event_record` meets its contract: each arm of the match gives the case that `kind_of` has for its byte, the record table has a
-- case for each byte below 256 (`table_at`), and every other field is read at its offset. Assumes nothing.
use Rattle.std.proofs.Common.{◌≡◌, ◌*◌, ◌+◌, ◌<◌, refl, sym, ◌∙◌, ap, arith, get_or}
use Rattle.bytes_le.proofs.Little.{byte_at}
use Rattle.records.specs.Kind.{kind_of}
use Rattle.records.specs.Event.{kind_byte, event_record}
use Rattle.records.proofs.EventKinds.{kind_rest, table_at}
use Rattle.records.proofs.event_record.Goals as goal
use Rattle.records.proofs.event_record.Goals.{in-1, in-2, in-3, in_default}

pub returns : goal.returns
unfolding event_record
returns c =
    let byte = get_or c.args.part.now (12 * c.args.k) 0 in
    let of_byte : c.match-byte.kind ≡ kind_of byte =
    elim c.match-byte.branch [
      | in-1 w ↦ w.kind-is ∙ ap kind_of (sym w.in-1.is)
      | in-2 w ↦ w.kind-is ∙ ap kind_of (sym w.in-2.is)
      | in-3 w ↦ w.kind-is ∙ ap kind_of (sym w.in-3.is)
      | in_default w ↦ w.kind-is ∙ sym (kind_rest byte (omega arith) (omega arith) (omega arith))
    ] in
    let same = of_byte ∙ ap kind_of (byte_at c.args.part.now (12 * c.args.k)) in
    record {
      answer = rw (same, ← byte_at c.args.part.now (12 * c.args.k + 1), c.read.ensures.answer, c.read-2.ensures.answer, c.read-3.ensures.answer) refl;
      kind = same ∙ table_at (kind_byte c.args.part.now c.args.k) (rw (← byte_at c.args.part.now (12 * c.args.k)) (omega (arith, c.type_inv.part (12 * c.args.k))));
    }
