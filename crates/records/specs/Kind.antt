-- The kind of an event as a case: "one case per kind, 1, 2, 3, and one for all the rest" (document 02, Note 5). `Kind` is the enum of
-- src/lib.rt. No other definition compares a kind with a number.
-- Assumes nothing.
use Rattle.std.specs.Prelude.{◌≡◌, Bool, cond, List, ◌∷◌, ◌≢◌, ℕ, ◌-◌, eqb, replicate}
use Rattle.ranges.specs.Fold.{tabulate}
use Rattle.records.specs.declared.Kind.{Kind}
use Rattle.records.specs.declared.Kind.TheVariants.{Send, Unlogged, Logged, Rest}

-- "Kind 1 is a send, 2 a receive without its data logged, 3 a receive with its data logged": the number of each case. The rest has the one
-- behind them, which is the number of no kind
abbrev pub kind_number : Kind → ℕ
kind_number Send = 1
kind_number Unlogged = 2
kind_number Logged = 3
kind_number Rest = 4

-- the case of a kind byte: the kind that has this number, and the rest where none has it
abbrev pub kind_of : ℕ → Kind
kind_of byte =
    cond (eqb byte (kind_number Send)) Send
    (cond (eqb byte (kind_number Unlogged)) Unlogged
    (cond (eqb byte (kind_number Logged)) Logged
    Rest))

-- whether a kind is this one
abbrev pub is_kind : Kind → Kind → Bool
is_kind this kind = eqb (kind_number kind) (kind_number this)

-- "(send, receive without data, receive with data)": the columns of the table of units, from 0. That of the rest is behind the last one
abbrev pub column : Kind → ℕ
column kind = kind_number kind - 1

-- the record table, byte by byte: 0 is of the rest, then come the three kinds, and 4 to 255 are of the rest
abbrev pub record_table : List Kind
record_table = Rest ∷ Send ∷ Unlogged ∷ Logged ∷ replicate 252 Rest

-- what Note 5 asks of the case for each byte
pub record KindTable (case : ℕ → Kind) : Type 0 where
  -- "For each of the 256 kind bytes the case is the record table's"
  pub cases : tabulate case 256 ≡ record_table
  -- the number of a case that is not the rest is the byte: by `cases`, for 1, 2 and 3
  pub back : (byte : ℕ) → case byte ≢ Rest → kind_number (case byte) ≡ byte
  -- "results and refusal 7 don't change": the test of the case for a kind is that of the byte for its number
  pub tests : (byte : ℕ) (this : Kind) → this ≢ Rest → is_kind this (case byte) ≡ eqb byte (kind_number this)
