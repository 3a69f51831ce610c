-- A covering set has no withdrawn checkpoint, and its identifier has no mark. Assumes nothing.
use mathlib.Core.Path.{◌≡◌, sym, ◌∙◌}
use mathlib.Core.Bool.{Bool, true, false}
use mathlib.Core.List.{List}
use Prim.Native.Nat.{ℕ}
use native.Mathlib.Omega.{arith}
use borrow.Author.Tests.{leb-true}
use lib.Dec.{leb}
use Rattle.ranges.proofs.Bools.{and_true_left, and_true_right, never_true}
use Rattle.lent.specs.Lent.{word_of}
use Rattle.lent.proofs.Left.{word_yes, word_no}
use Rattle.records.specs.Forms.{marks_withdrawn}
use Rattle.records.specs.Mark.{top_bit, has_mark}
use Rattle.event_log.specs.Model.{Workers}
use Rattle.event_log.specs.Layout.{form_field, workers_of, log_of}
use Rattle.event_log.proofs.Read.{identifier_below}
use Rattle.accept.specs.WellFormed.{WellFormed}
use Rattle.choice.proofs.Choosable.{may_recorded, may_kept}
use Rattle.covering.specs.Covering.{covering_set}
use Rattle.covering.specs.Withdrawn.{NoneWithdrawn, CoversNoneWithdrawn}
use Rattle.covering.proofs.CoveringSet.{set_identifier, set_may, identifier_unique, covering_iff}

-- the checkpoint with which a worker is in the set is the only one with this identifier
pub none_withdrawn : (log : Workers) (t : ℕ) → WellFormed log → covering_set log t ≡ true → NoneWithdrawn log t
none_withdrawn log t ok e w c h recorded same =
    let covers = (covering_iff log t ok).0 e in
    let d = covers.0 w in
    let set = covers.1.has w h in
    let may = set_may log t w d set in
    let one : c ≡ d = identifier_unique log ok w c d recorded (may_recorded log w d may) (same ∙ sym (set_identifier log t w d set)) in
    rw one (may_kept log w d may)

-- no identifier of a log whose form has the mark has it
pub marked_none : (s : List ℕ) (t : ℕ) → WellFormed (workers_of s) → has_mark (form_field s) t ≡ true → covering_set (workers_of s) t ≡ false
unfolding has_mark
marked_none s t ok marked =
    let log = workers_of s in
    let marks = marks_withdrawn (form_field s) in
    let high = leb-true top_bit t (and_true_right marks (leb top_bit t) marked) in
    never_true (covering_set log t)
    (λ e.
    let covers = (covering_iff log t ok).0 e in
    let same = set_identifier log t 0 (covers.0 0) (covers.1.has 0 ok.some) in
    let low = identifier_below s (and_true_left marks (leb top_bit t) marked) 0 (covers.0 0) in
    let no : ⊥ = omega arith in no)

-- both, of the test's answer
pub none_said : (s : List ℕ) (t : ℕ) → WellFormed (workers_of s) → {b : Bool} → b ≡ covering_set (workers_of s) t → CoversNoneWithdrawn (log_of s) t (word_of b)
none_said s t ok {b} test =
    record { none = λ e. none_withdrawn (workers_of s) t ok (sym test ∙ (word_yes b).0 e); marked = λ m. word_no b (test ∙ marked_none s t ok m) }
