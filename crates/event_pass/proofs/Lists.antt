-- The events of a block that name another, listed one by one: what is wrong with one of them is all that can be wrong in the block. Assumes nothing.
use mathlib.Core.Path.{◌≡◌, refl, sym, ◌∙◌}
use mathlib.Core.Bool.{Bool, true, false, cond, false≢true}
use mathlib.Core.Logic.{⊎_elim}
use mathlib.Core.List.{List}
use Prim.Native.Nat.{ℕ, ◌+◌, ◌<◌, ◌≤◌}
use native.Mathlib.Nat.{add-zero}
use native.Mathlib.Omega.{arith}
use lib.ListN.{length, set}
use lib.Seq.{get_or-set_same, get_or-set_other}
use Rattle.ranges.specs.Fold.{any_below}
use Rattle.ranges.proofs.Order.{lt_or_le, eq_or_ne}
use Rattle.ranges.proofs.Any.{any_each, any_every, any_some, any_found}
use Rattle.lent.specs.Lent.{at}
use Rattle.event_log.specs.Model.{Workers, event_count, event_of}
use Rattle.record_tests.specs.Records.{any_fault, event_fault, record_fault}
use Rattle.event_pass.specs.Inner.Message.{is_naming, names, own_fault}
use Rattle.event_pass.specs.Inner.Blocks.{listed_fault, NamesAnother, Lists}
use Rattle.event_pass.proofs.Message.{passes, naming_decides, own_peer}

module _ (log : Workers) (w first : ℕ) where
  -- no event was looked at
  pub lists_none : (list : List ℕ) → Lists log w first first list 0
  lists_none list =
      record {
        few = omega arith;
        own = λ k h l. let no : ⊥ = omega arith in absurd no;
        each = λ j h. let no : ⊥ = omega arith in absurd no;
        all = λ k h l r. let no : ⊥ = omega arith in absurd no;
      }

  -- event k + 1 is written behind those listed, and counted where it names another
  module _ (k : ℕ) (list : List ℕ) (count : ℕ) (before : Lists log w first k list count) (within : k < event_count log w) (room : count < length list)
      (own : own_fault log w (event_of log w k).stamp (event_of log w (k + 1)) ≡ false) where
    own_next : (x : ℕ) → first ≤ x → x < k + 1 → own_fault log w (event_of log w x).stamp (event_of log w (x + 1)) ≡ false
    own_next x h l = ⊎_elim (λ same. rw same own) (λ other. before.own x h (omega (arith, other))) (eq_or_ne x k)

    kept : (j : ℕ) → j < count → at (set list count k) j ≡ at list j
    kept j h = get_or-set_other list count j k 0 (λ same. let no : ⊥ = omega arith in no)

    each_before : (j : ℕ) → j < count → (first ≤ at (set list count k) j) × (at (set list count k) j < k + 1) × NamesAnother log w (at (set list count k) j)
    each_before j h = let old = before.each j h in rw (kept j h) (old.0, omega (arith, old.1), old.2)

    all_before : (x : ℕ) → first ≤ x → x < k → is_naming (event_of log w (x + 1)) ≡ true → (j : ℕ) × (j < count) × (at (set list count k) j ≡ x)
    all_before x h l r = let found = before.all x h l r in (found.0, found.1, kept found.0 found.1 ∙ found.2)

    lists_other : is_naming (event_of log w (k + 1)) ≡ false → Lists log w first (k + 1) (set list count k) count
    lists_other other =
        record {
          few = omega (arith, before.few);
          own = own_next;
          each = each_before;
          all = λ x h l r. ⊎_elim (λ same. absurd (false≢true (sym other ∙ (rw same at r)))) (λ less. all_before x h (omega (arith, less)) r) (eq_or_ne x k);
        }

    lists_naming : is_naming (event_of log w (k + 1)) ≡ true → Lists log w first (k + 1) (set list count k) (count + 1)
    lists_naming naming =
        let here = get_or-set_same list count k 0 room in
        let it : NamesAnother log w k = record { within = within; naming = naming; peer = own_peer log w k (event_of log w (k + 1)) own } in
        record {
          few = omega (arith, before.few);
          own = own_next;
          each = λ j h. ⊎_elim (λ same. rw same (rw here (omega (arith, before.few), omega arith, it))) (λ less. each_before j (omega (arith, less))) (eq_or_ne j count);
          all = λ x h l r.
              ⊎_elim
              (λ same. (count, omega arith, here ∙ sym same))
              (λ less. let found = all_before x h (omega (arith, less)) r in (found.0, omega (arith, found.1), found.2))
              (eq_or_ne x k);
        }

    pub lists_more : Lists log w first (k + 1) (set list count k) (count + names (event_of log w (k + 1)))
    unfolding names
    lists_more = go (is_naming (event_of log w (k + 1))) refl
      where
        go : (b : Bool) → is_naming (event_of log w (k + 1)) ≡ b → Lists log w first (k + 1) (set list count k) (count + cond b 1 0)
        go true q = lists_naming q
        go false q = rw add-zero (lists_other q)

  -- where the first events have no fault, one of the block has exactly if one that is listed has
  module _ (end : ℕ) (list : List ℕ) (count : ℕ) (lists : Lists log w first end list count) (none : any_below (record_fault 0 log w) first ≡ false) where
    some_listed : any_below (listed_fault log w list) count ≡ true → any_below (record_fault 0 log w) end ≡ true
    unfolding listed_fault record_fault event_fault
    some_listed found =
        let j = any_some (listed_fault log w list) count found in
        let it = lists.each j.0 j.1 in
        let k = at list j.0 in
        any_found (record_fault 0 log w) end k it.1 (sym (naming_decides log w k (event_of log w (k + 1)) (lists.own k it.0 it.1) it.2.naming) ∙ j.2)

    -- an event of the block, where none that is listed has a fault
    clear_listed : any_below (listed_fault log w list) count ≡ false → (k : ℕ) → first ≤ k → k < end → record_fault 0 log w k ≡ false
    unfolding listed_fault record_fault event_fault
    clear_listed clear k late h = go (is_naming (event_of log w (k + 1))) refl
      where
        go : (b : Bool) → is_naming (event_of log w (k + 1)) ≡ b → any_fault log w k (event_of log w (k + 1)) ≡ false
        go true q =
            let found = lists.all k late h q in
            sym (naming_decides log w k (event_of log w (k + 1)) (lists.own k late h) q) ∙ (rw found.2 at (any_each (listed_fault log w list) count clear found.0 found.1))
        go false q = passes log w k (event_of log w (k + 1)) (lists.own k late h) q

    pub listed_decide : any_below (listed_fault log w list) count ≡ any_below (record_fault 0 log w) end
    listed_decide = go (any_below (listed_fault log w list) count) refl
      where
        go : (b : Bool) → any_below (listed_fault log w list) count ≡ b → b ≡ any_below (record_fault 0 log w) end
        go true q = sym (some_listed q)
        go false q =
            sym (any_every (record_fault 0 log w) end
            (λ k h. ⊎_elim (λ early. any_each (record_fault 0 log w) first none k early) (λ late. clear_listed q k late h) (lt_or_le k first)))
