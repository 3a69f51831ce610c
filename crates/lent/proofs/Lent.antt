-- Laws of what a call is lent and leaves. Assumes nothing.
use mathlib.Core.Path.{◌≡◌, refl, sym, ◌∙◌, ap}
use mathlib.Core.Bool.{Bool, true, false, cond}
use mathlib.Core.Logic.{◌≢◌}
use mathlib.Core.List.{List, [], ◌∷◌, ◌++◌, append-nil}
use Prim.Native.Nat.{ℕ, suc, ◌+◌, ◌<◌, ◌≤◌}
use native.Mathlib.Omega.{arith}
use borrow.Author.Tests.{lt-ltb, le-ltb, ltb-false, eqb-true, eqb-false, eq-eqb, ne_eqb}
use lib.Dec.{eqb, ltb}
use lib.ListN.{length, take, drop, set, length-set, drop_of_length-le}
use lib.Seq.{take_at, drop_at}
use Rattle.lent.specs.Lent.{or_else, words_refusal, short_scratch, onto, unless_refused}
use Rattle.lent.specs.Inner.Overwrite.{overwrite}
use Rattle.lent.proofs.Overwrite.{overwrite_none, overwrite_one, overwrite_more}

-- ---- the first number that is not 0
-- a test that gives 0: it failed, and what follows gives 0
pub peel : (b : Bool) (k x : ℕ) → cond b (suc k) x ≡ 0 → (b ≡ false) × (x ≡ 0)
peel true k x e = let no : ⊥ = omega arith in absurd no
peel false k x e = (refl, e)

pub or_else_zero : (a b : ℕ) → or_else a b ≡ 0 → (a ≡ 0) × (b ≡ 0)
unfolding or_else
or_else_zero a b e = go (eqb a 0) refl e
  where
    go : (t : Bool) → eqb a 0 ≡ t → cond t b a ≡ 0 → (a ≡ 0) × (b ≡ 0)
    go true q f = (eqb-true a 0 q, f)
    go false q f = absurd (eqb-false a 0 q f)

pub or_else_first : (a b : ℕ) → a ≢ 0 → or_else a b ≡ a
unfolding or_else
or_else_first a b h = rw (ne_eqb a 0 h)

pub or_else_second : (a b : ℕ) → a ≡ 0 → or_else a b ≡ b
unfolding or_else
or_else_second a b h = rw (eq-eqb a 0 h)

pub or_else_none : (a : ℕ) → or_else a 0 ≡ a
unfolding or_else
or_else_none a = go (eqb a 0) refl
  where
    go : (t : Bool) → eqb a 0 ≡ t → cond t 0 a ≡ a
    go true q = sym (eqb-true a 0 q)
    go false q = refl

-- ---- 14
pub words_ok : (lent needed : ℕ) → words_refusal lent needed ≡ 0 → needed ≤ lent
unfolding words_refusal
words_ok lent needed e = ltb-false _ _ (peel (ltb lent needed) 13 0 e).0

pub words_enough : (lent needed : ℕ) → needed ≤ lent → words_refusal lent needed ≡ 0
unfolding words_refusal
words_enough lent needed h = rw (le-ltb lent needed h)

pub words_short : (lent needed : ℕ) → lent < needed → words_refusal lent needed ≡ 14
unfolding words_refusal
words_short lent needed h = rw (lt-ltb lent needed h)

-- ---- 15
pub scratch_ok : (lent needed : ℕ) → short_scratch lent needed ≡ 0 → needed ≤ lent
scratch_ok lent needed e = ltb-false _ _ (peel (ltb lent needed) 14 0 e).0

-- ---- the words after a call that is not refused, and after one that is
pub written : (refusal n : ℕ) (new lent : List ℕ) → refusal ≡ 0 → length new ≡ n → new ++ drop n lent ≡ unless_refused refusal new lent
unfolding unless_refused onto
written refusal n new lent e long = rw (eq-eqb refusal 0 e, long)

pub put : (refusal : ℕ) (new lent : List ℕ) → refusal ≡ 0 → onto new lent ≡ unless_refused refusal new lent
unfolding unless_refused
put refusal new lent e = rw (eq-eqb refusal 0 e)

-- words that are all written hold the new ones
pub whole : (refusal : ℕ) (new lent : List ℕ) → refusal ≡ 0 → length new ≡ length lent → new ≡ unless_refused refusal new lent
unfolding onto
whole refusal new lent none long =
    let end : length lent ≤ length new = omega arith in
    sym (append-nil new) ∙ sym (rw (drop_of_length-le lent end)) ∙ put refusal new lent none

pub untouched : (refusal : ℕ) (new lent : List ℕ) → refusal ≢ 0 → lent ≡ unless_refused refusal new lent
unfolding unless_refused
untouched refusal new lent e = rw (ne_eqb refusal 0 e)

-- words written in the place of others that were written before
pub written_over : (before new lent : List ℕ) (n : ℕ) → length before ≡ n → length new ≡ n → new ++ drop n (before ++ drop n lent) ≡ onto new lent
unfolding onto
written_over before new lent n long long' = rw (drop_at before (drop n lent) n long, long')

-- the words named, of those that a call leaves
pub named_words : (n : ℕ) (new lent : List ℕ) → length new ≡ n → take n (onto new lent) ≡ new
unfolding onto
named_words n new lent long = take_at new (drop (length new) lent) n long

-- ---- words stored one by one, from place k on
unfoldable pub store_each : ℕ → List ℕ → List ℕ → List ℕ
store_each k [] lent = lent
store_each k (a ∷ new) lent = store_each (suc k) new (set lent k a)

-- they are the new ones from there on
pub stored_at : (k : ℕ) (new lent : List ℕ) → k + length new ≤ length lent → store_each k new lent ≡ overwrite k new lent
unfolding store_each
stored_at k [] lent h = sym (overwrite_none k lent)
stored_at k (a ∷ new) lent h =
    let long : length (set lent k a) ≡ length lent = length-set lent k a in
    let next : suc k ≡ k + length (a ∷ []) = omega arith in
    stored_at (suc k) new (set lent k a) (omega arith) ∙ rw (overwrite_one k lent a (omega arith), next) (overwrite_more k lent (a ∷ []) new (omega arith))

pub stored_words : (new lent : List ℕ) → length new ≤ length lent → store_each 0 new lent ≡ onto new lent
unfolding overwrite
stored_words new lent h = stored_at 0 new lent (omega arith)

-- words of a value that a call found, where it is not refused
pub put_found : {A : Type 0} (words : A → List ℕ) (a b : A) (lent left : List ℕ) → a ≡ b → left ≡ onto (words a) lent → left ≡ unless_refused 0 (words b) lent
put_found words a b lent left same is = is ∙ ap (λ (x : _). onto (words x) lent) same ∙ put 0 (words b) lent refl
