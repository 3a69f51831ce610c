-- `interval_log::intervals` meets its contract: the number is `judge`'s; where it is 0 (`intervals_ok`) the interval log is written
-- (`file_converted`), else no byte changes. Assumes nothing.
use mathlib.Core.Path.{refl, ◌∙◌}
use native.Mathlib.Omega.{arith}
use Rattle.lent.proofs.Lent.{put, untouched}
use Rattle.bytes_le.specs.Little.{Bytes}
use Rattle.intervals.proofs.Conversion.{file_converted}
use Rattle.interval_log.proofs.Allowed.{intervals_ok, judged_long}
use Rattle.interval_log.proofs.intervals.Goals as goal

pub returns-then-judged-ne0-clause-out : goal.returns-then-judged-ne0-clause-out
returns-then-judged-ne0-clause-out c = untouched _ _ _ c.if-judged-ne0.true

pub write_packed-requires : goal.write_packed-requires
write_packed-requires c =
    let may = intervals_ok c.judge-judged.ensures.refused c.if-judged-ne0.false in
    record { accepted = may.accepted; long = judged_long _ c.judge-judged.ensures.answer c.if-judged-ne0.false; fits = may.fits; enough = may.enough }

pub returns-clause-out : goal.returns-clause-out
returns-clause-out c = c.write_packed.ensures.out ∙ put _ _ _ c.if-judged-ne0.false

pub returns-clause-converted : goal.returns-clause-converted
returns-clause-converted c =
    let may = intervals_ok c.judge-judged.ensures.refused c.if-judged-ne0.false in
    let all : Bytes c.args.log.now = λ i. omega (arith, c.type_inv.log i) in
    λ none. rw (c.write_packed.ensures.out, put 0 _ _ refl) (file_converted _ all may.accepted may.fits _ _ (judged_long _ c.judge-judged.ensures.answer none))
