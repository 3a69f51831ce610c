-- Laws of `overwrite`: nothing written, one piece after the other, and stores one by one. Assumes nothing.
use mathlib.Core.Path.{◌≡◌, sym, ◌∙◌, ap}
use mathlib.Core.List.{List, [], ◌∷◌, ◌++◌, append_assoc}
use Prim.Native.Nat.{ℕ, ◌+◌, ◌<◌, ◌≤◌}
use native.Mathlib.Numerals.{add-one}
use native.Mathlib.Omega.{arith}
use lib.ListN.{length, take, drop, get_or, set, length-append, length-drop, take-append-drop}
use lib.Seq.{take_at, drop_at, drop-drop, length-take-le, set_split, take-suc}
use Rattle.lent.specs.Lent.{onto}
use Rattle.lent.specs.Inner.Overwrite.{overwrite}

-- one element stored
pub overwrite_one : (k : ℕ) (lent : List ℕ) (a : ℕ) → k < length lent → set lent k a ≡ overwrite k (a ∷ []) lent
unfolding overwrite onto
overwrite_one k lent a h = set_split lent k a h ∙ rw (drop-drop 1 k lent, add-one)

module _ (k : ℕ) (lent : List ℕ) where
  pub overwrite_none : overwrite k [] lent ≡ lent
  unfolding overwrite onto
  overwrite_none = take-append-drop k lent

  pub length_overwrite : (new : List ℕ) → k + length new ≤ length lent → length (overwrite k new lent) ≡ length lent
  unfolding overwrite onto
  length_overwrite new h = simp (length-append, length-take-le k lent (omega arith), length-drop) (omega arith)

  -- a piece, and then another right behind it
  pub overwrite_more : (a b : List ℕ) → k ≤ length lent → overwrite (k + length a) b (overwrite k a lent) ≡ overwrite k (a ++ b) lent
  unfolding overwrite onto
  overwrite_more a b h =
      let front = length-take-le k lent h in
      let rest = drop (length a) (drop k lent) in
      let joined : take k lent ++ (a ++ rest) ≡ (take k lent ++ a) ++ rest = sym (append_assoc (take k lent) a rest) in
      let long : length (take k lent ++ a) ≡ k + length a = simp (length-append, front) in
      let more : drop (length b) rest ≡ drop (length (a ++ b)) (drop k lent) = rw (length-append a b) (drop-drop (length b) (length a) (drop k lent)) in
      rw (joined, take_at (take k lent ++ a) rest (k + length a) long, drop_at (take k lent ++ a) rest (k + length a) long, more)
      (append_assoc (take k lent) a (b ++ drop (length (a ++ b)) (drop k lent)) ∙ ap (λ (l : List ℕ). take k lent ++ l) (sym (append_assoc a b (drop (length (a ++ b)) (drop k lent)))))

  -- .. and the elements of a list stored one by one
  pub overwrite_next : (new : List ℕ) (j : ℕ) → j < length new → k + length new ≤ length lent
      → set (overwrite k (take j new) lent) (k + j) (get_or new j 0) ≡ overwrite k (take (j + 1) new) lent
  overwrite_next new j h fits =
      let done = overwrite k (take j new) lent in
      let front : length (take j new) ≡ j = length-take-le j new (omega arith) in
      let long : length done ≡ length lent = length_overwrite (take j new) (omega arith) in
      overwrite_one (k + j) done (get_or new j 0) (omega arith)
      ∙ (rw front at (overwrite_more (take j new) (get_or new j 0 ∷ []) (omega arith))) ∙ rw (add-one, take-suc new j 0 h)
