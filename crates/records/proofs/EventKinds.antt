-- The kinds of events: each kind byte is read as the record table says, and what the kinds say of each other. Outside this
-- file only the proofs of functions that match on a kind, and `cost` Counted, look into one. Assumes nothing.
use mathlib.Core.Path.{◌≡◌, refl, sym, ◌∙◌, ap}
use mathlib.Core.Bool.{Bool, true, false, cond, ◌||◌, false≢true}
use mathlib.Core.List.{List}
use mathlib.Core.Logic.{◌⊎◌, ◌≢◌, ⊎_elim}
use Prim.Native.Nat.{ℕ, ◌+◌, ◌<◌}
use native.Mathlib.Omega.{arith}
use borrow.Author.Tests.{eqb-true, eqb-false, ne_eqb}
use lib.Dec.{eqb}
use lib.ListN.{get_or}
use Rattle.ranges.specs.Fold.{tabulate}
use Rattle.ranges.proofs.Tabulate.{get_d_tabulate}
use Rattle.records.specs.declared.Kind.{Kind}
use Rattle.records.specs.declared.Kind.TheVariants.{Send, Unlogged, Logged, Rest}
use Rattle.records.specs.declared.Event.{Event}
use Rattle.records.specs.Kind.{kind_number, kind_of, is_kind, column, record_table, KindTable}
use Rattle.records.specs.Event.{no_event, is_send, is_unlogged, is_logged, is_receive}

-- ---- the record table
module _ (byte : ℕ) where
  -- a byte that is the number of no kind is of the rest
  pub kind_rest : byte ≢ kind_number Send → byte ≢ kind_number Unlogged → byte ≢ kind_number Logged → kind_of byte ≡ Rest
  kind_rest a b c = rw (ne_eqb byte _ a, ne_eqb byte _ b, ne_eqb byte _ c)

  -- what holds of each case whose number the byte is, and of the rest where it is that of no kind, holds of the case of the byte
  by_case : (P : Kind → Type 0) → ((kind : Kind) → byte ≡ kind_number kind → P kind)
      → (byte ≢ kind_number Send → byte ≢ kind_number Unlogged → byte ≢ kind_number Logged → P Rest) → P (kind_of byte)
  by_case P known none = go (eqb byte (kind_number Send)) refl (eqb byte (kind_number Unlogged)) refl (eqb byte (kind_number Logged)) refl
    where
      go : (a : Bool) → eqb byte (kind_number Send) ≡ a → (b : Bool) → eqb byte (kind_number Unlogged) ≡ b → (c : Bool) → eqb byte (kind_number Logged) ≡ c
          → P (cond a Send (cond b Unlogged (cond c Logged Rest)))
      go true p b q c r = known Send (eqb-true byte _ p)
      go false p true q c r = known Unlogged (eqb-true byte _ q)
      go false p false q true r = known Logged (eqb-true byte _ r)
      go false p false q false r = none (eqb-false byte _ p) (eqb-false byte _ q) (eqb-false byte _ r)

  -- the number of a case that is not the rest is the byte
  read_back : kind_of byte ≢ Rest → kind_number (kind_of byte) ≡ byte
  read_back = by_case (λ kind. kind ≢ Rest → kind_number kind ≡ byte) (λ kind same some. sym same) (λ a b c some. absurd (some refl))

  -- a test of the case is that of the byte
  same_test : (this : Kind) → this ≢ Rest → is_kind this (kind_of byte) ≡ eqb byte (kind_number this)
  same_test this some = by_case (λ kind. is_kind this kind ≡ eqb byte (kind_number this)) (λ kind same. rw same) (none this some)
    where
      none : (this : Kind) → this ≢ Rest → byte ≢ kind_number Send → byte ≢ kind_number Unlogged → byte ≢ kind_number Logged
          → is_kind this Rest ≡ eqb byte (kind_number this)
      none Send some a b c = sym (ne_eqb byte _ a)
      none Unlogged some a b c = sym (ne_eqb byte _ b)
      none Logged some a b c = sym (ne_eqb byte _ c)
      none Rest some a b c = absurd (some refl)

-- each kind byte is read as the record table says: the 256 cases by computation
pub kind_table : KindTable kind_of
unfolding tabulate
kind_table = record { cases = refl; back = read_back; tests = same_test }

-- .. so a byte has the case that the table has at its place
pub table_at : (byte : ℕ) → byte < 256 → kind_of byte ≡ get_or record_table byte Rest
table_at byte small = sym (get_d_tabulate kind_of 256 byte Rest small) ∙ ap (λ (table : List Kind). get_or table byte Rest) kind_table.cases

-- .. and the number of a case, that of the rest too, is a byte that is read as the case
pub number_read : (kind : Kind) → kind_of (kind_number kind) ≡ kind
number_read Send = refl
number_read Unlogged = refl
number_read Logged = refl
number_read Rest = refl

pub number_small : (kind : Kind) → kind_number kind < 256
number_small Send = omega arith
number_small Unlogged = omega arith
number_small Logged = omega arith
number_small Rest = omega arith

-- one more than its column
pub column_number : (kind : Kind) → column kind + 1 ≡ kind_number kind
column_number Send = refl
column_number Unlogged = refl
column_number Logged = refl
column_number Rest = refl

-- ---- kinds beside each other
-- no event is neither a send nor a receive
pub no_send : is_send no_event ≡ false
unfolding is_send
no_send = refl

pub no_receive : is_receive no_event ≡ false
unfolding is_receive is_unlogged is_logged
no_receive = refl

pub not_send : (e : Event) → is_receive e ≡ true → is_send e ≡ false
unfolding is_receive is_unlogged is_logged is_send
not_send e = go e.kind
  where
    go : (kind : Kind) → (is_kind Unlogged kind || is_kind Logged kind) ≡ true → is_kind Send kind ≡ false
    go Send r = absurd (false≢true r)
    go Unlogged r = refl
    go Logged r = refl
    go Rest r = refl

pub not_receive : (e : Event) → is_send e ≡ true → is_receive e ≡ false
unfolding is_receive is_unlogged is_logged is_send
not_receive e = go e.kind
  where
    go : (kind : Kind) → is_kind Send kind ≡ true → (is_kind Unlogged kind || is_kind Logged kind) ≡ false
    go Send r = refl
    go Unlogged r = absurd (false≢true r)
    go Logged r = absurd (false≢true r)
    go Rest r = refl

-- a receive without its data is not one with it
pub not_logged : (e : Event) → is_unlogged e ≡ true → is_logged e ≡ false
unfolding is_unlogged is_logged
not_logged e = go e.kind
  where
    go : (kind : Kind) → is_kind Unlogged kind ≡ true → is_kind Logged kind ≡ false
    go Send r = refl
    go Unlogged r = refl
    go Logged r = absurd (false≢true r)
    go Rest r = refl

-- a send and a receive are not of the rest
pub some_kind : (e : Event) → (is_send e ≡ true) ⊎ (is_receive e ≡ true) → e.kind ≢ Rest
unfolding is_send is_receive is_unlogged is_logged
some_kind e known rest = ⊎_elim (λ q. false≢true (rw rest at q)) (λ q. false≢true (rw rest at q)) known
