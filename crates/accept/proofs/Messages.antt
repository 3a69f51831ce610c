-- What the test of repeats asks of a log, from what the tests 7 to 11 give. Assumes nothing.
use Prim.Native.Nat.{◌+◌}
use native.Mathlib.Omega.{arith}
use Rattle.event_log.specs.Model.{Workers}
use Rattle.repeats.specs.Inner.Again.{Messages}
use Rattle.record_tests.specs.Records.{send_of}
use Rattle.accept.specs.WellFormed.{WellFormed}

pub messages : (log : Workers) → WellFormed log → Messages log
unfolding send_of
messages log formed =
    record {
      peers = λ w k h. formed.peers w (k + 1) (omega arith) (omega arith);
      named = λ w k r. let sent = formed.sent w (k + 1) r in (sent.positive, sent.counted);
      addressed = λ w k r. (formed.sent w (k + 1) r).addressed;
    }
