-- `plan_text::write_text` meets its contract: an input under 8 bytes or over 65,536 gives the text of refusal 1; of any other the first 8
-- bytes are read as worker and event, and the log is what follows them. Assumes nothing.
use Prim.Native.Nat.{◌-◌, ◌≤◌}
use native.Mathlib.Omega.{arith}
use borrow.Author.Tests.{lt-ltb, le-ltb}
use lib.ListN.{length, drop, length-drop}
use lib.Seq.{take_all}
use Rattle.plan_text.specs.Text.{text_of}
use Rattle.plan_text.proofs.write_text.Goals as goal
use Rattle.plan_text.proofs.write_text.Goals.{then-input-lt8-via-then-input-lt8, then-input-lt8-via-else-input-lt8+then-input-gt-MAX_INPUT}

pub returns-then-input-lt8 : goal.returns-then-input-lt8
unfolding text_of
returns-then-input-lt8 c =
    elim c.then-input-lt8.branch [
      | then-input-lt8-via-then-input-lt8 w ↦ record { text = rw (lt-ltb _ _ w.if-input-lt8.true) c.put_refused.ensures.text }
      | then-input-lt8-via-else-input-lt8+then-input-gt-MAX_INPUT w ↦ record {
        text = rw (le-ltb _ _ w.if-input-lt8.false, lt-ltb _ _ w.if-input-gt-MAX_INPUT.true) c.put_refused.ensures.text;
      }
    ]

pub returns : goal.returns
unfolding text_of
returns c =
    let input = c.args.input.now in
    let all : length (drop 8 input) ≤ length input - 8 = omega (arith, length-drop 8 input) in
    record {
      text = rw (
        ← take_all (length input - 8) (drop 8 input) all,
        le-ltb _ _ c.if-input-lt8.false,
        le-ltb _ _ c.if-input-gt-MAX_INPUT.false,
        ← c.read-2.ensures.answer,
        ← c.read.ensures.answer,
      )
          c.put_plan.ensures.text;
    }
