-- `lent::words_refusal` meets its contract: the branch is taken where fewer words are lent than needed, and there `words_refusal` is 14;
-- else it is 0. Assumes nothing.
use mathlib.Core.Path.{sym}
use Rattle.lent.proofs.Lent.{words_short, words_enough}
use Rattle.lent.proofs.words_refusal.Goals as goal

pub returns-then-lent-needed : goal.returns-then-lent-needed
returns-then-lent-needed c = record { answer = sym (words_short _ _ c.if-lent-needed.true) }

pub returns : goal.returns
returns c = record { answer = sym (words_enough _ _ c.if-lent-needed.false) }
