-- A loop over records that writes those that stay, one behind the other: what it keeps, where a record does not stay, where one does, and at
-- the end. Assumes nothing.
use mathlib.Core.Path.{◌≡◌, sym, ◌∙◌, ap}
use mathlib.Core.List.{List}
use Prim.Native.Nat.{ℕ, ◌+◌, ◌*◌, ◌<◌, ◌≤◌}
use native.Mathlib.Nat.{le_antisymm, mul-zero, mul-suc, mul-le-mul_left}
use native.Mathlib.Numerals.{add-one}
use native.Mathlib.Omega.{arith}
use lib.ListN.{length}
use Rattle.ranges.specs.Fold.{join_below, sum_below}
use Rattle.ranges.proofs.Sum.{sum_none, sum_grows}
use Rattle.lent.specs.Inner.Overwrite.{overwrite}
use Rattle.pack.proofs.Records.{pieces_long}
use Rattle.pack.proofs.Writing.{Written, written_none, written_more}

-- of the first k of `count` records those of which `stay` is 1, not 0, stay and are written from place `first` on, each as a piece of `size`
-- bytes; the next has its place at `place`
pub record Staying (piece : ℕ → List ℕ) (stay : ℕ → ℕ) (size first : ℕ) (lent : List ℕ) (count k place : ℕ) (out : List ℕ) : Type 0 where
  pub few : k ≤ count
  pub placed : place ≡ first + size * sum_below stay k
  pub written : Written piece first lent (sum_below stay count) (sum_below stay k) out
  pub room : first + size * sum_below stay count ≤ length lent

module _ {piece : ℕ → List ℕ} {stay : ℕ → ℕ} {size first : ℕ} {lent : List ℕ} {count : ℕ} where
  pub staying_none : first + size * sum_below stay count ≤ length lent → Staying piece stay size first lent count 0 first lent
  staying_none room =
      record { few = omega arith; placed = rw (sum_none stay, mul-zero size) (omega arith); written = rw (sum_none stay) written_none; room = room }

  module _ {k place : ℕ} {out : List ℕ} (so : Staying piece stay size first lent count k place out) where
    -- the next record does not stay
    pub staying_past : k < count → sum_below stay (k + 1) ≡ sum_below stay k → Staying piece stay size first lent count (k + 1) place out
    staying_past h same = record { few = omega arith; placed = rw same so.placed; written = rw same so.written; room = so.room }

    -- the next record stays
    module _ (h : k < count) (more : sum_below stay (k + 1) ≡ sum_below stay k + 1) where
      grows : sum_below stay (k + 1) ≤ sum_below stay count
      grows = sum_grows stay (k + 1) count (omega arith)

      behind : first + size * sum_below stay k + size ≤ first + size * sum_below stay count
      behind =
          let next : size * (sum_below stay k + 1) ≡ size * sum_below stay k + size = rw (add-one (sum_below stay k)) (mul-suc size (sum_below stay k)) in
          let most : size * (sum_below stay k + 1) ≤ size * sum_below stay count = mul-le-mul_left size (rw more at grows) in
          omega arith

      pub staying_room : place + size ≤ length out
      staying_room = omega (arith, so.placed, so.written.long, so.room, behind)

      pub staying_more : ((j : ℕ) → length (piece j) ≡ size) → {left : List ℕ} → left ≡ overwrite place (piece (sum_below stay k)) out → length left ≡ length out
          → Staying piece stay size first lent count (k + 1) (place + size) left
      staying_more each wrote same =
          let next : size * (sum_below stay k + 1) ≡ size * sum_below stay k + size = rw (add-one (sum_below stay k)) (mul-suc size (sum_below stay k)) in
          let here = so.placed ∙ ap (λ (n : ℕ). first + n) (sym (pieces_long piece size each (sum_below stay k))) in
          record {
            few = omega arith;
            placed = rw more (omega (arith, so.placed));
            written = rw more (written_more so.written (omega (arith, grows, more)) (omega (arith, so.room, behind)) here wrote same);
            room = so.room;
          }

    -- the last record is passed
    module _ (h : count ≤ k) where
      all : k ≡ count
      all = le_antisymm so.few h

      pub staying_end : place ≡ first + size * sum_below stay count
      staying_end = rw all at so.placed

      pub staying_written : out ≡ overwrite first (join_below piece (sum_below stay count)) lent
      staying_written = rw all at so.written.holds
