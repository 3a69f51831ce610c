-- A text that is put piece by piece into lent bytes.
-- Assumes nothing.
use mathlib.Core.Path.{◌≡◌, sym, ◌∙◌, ap}
use mathlib.Core.List.{List, [], ◌++◌}
use Prim.Native.Nat.{ℕ, ◌+◌, ◌-◌, ◌<◌, ◌≤◌, min}
use native.Mathlib.Omega.{arith}
use borrow.Rule.Slice.PartMut.{put_mid}
use lib.ListN.{length, take, drop, length-append, length-take}
use lib.Seq.{length_front, length-take-le, take-nil, take_all, take-append-le, take-append-add}
use Rattle.std.proofs.lemmas.List.{take_min}
use Rattle.lent.specs.Lent.{onto}
use Rattle.replay.proofs.Storing.{part_stored}
use Rattle.plan_text.specs.Buffer.{room, Holds, Adds}

-- ---- the bytes that hold a text
take_short : (n : ℕ) (text : List ℕ) → length (take n text) ≤ n
take_short n text = let kept = length-take n text in omega arith

pub length_onto : (lent new : List ℕ) → length new ≤ length lent → length (onto new lent) ≡ length lent
unfolding onto
length_onto lent new h = length_front lent new (length new) (sym (length-take-le (length new) lent h))

holds_length : (lent text bytes : List ℕ) (at : ℕ) → Holds lent text bytes at → length bytes ≡ length lent
holds_length lent text bytes at h = rw h.bytes (length_onto lent (room lent text) (take_short (length lent) text))

-- the text is within the bytes
pub holds_within : (lent text after : List ℕ) (place : ℕ) → Holds lent text after place → (place ≤ length lent) × (place ≤ length after)
holds_within lent text after place h =
    let long = holds_length lent text after place h in
    let short = take_short (length lent) text in
    (omega (arith, h.put), omega (arith, h.put))

-- nothing yet
pub holds_none : (lent : List ℕ) → Holds lent [] lent 0
unfolding onto
holds_none lent = record { bytes = rw (take-nil {A = ℕ} (length lent)); put = rw (take-nil {A = ℕ} (length lent)) }

-- no room for more bytes
pub adds_none : (before bytes : List ℕ) (at : ℕ) → length before ≤ at → Adds before at before at (λ text. text ++ bytes)
adds_none before bytes at full lent text h =
    let long = holds_length lent text before at h in
    let kept = length-take (length lent) text in
    let keep = take-append-le (length lent) text bytes (omega (arith, h.put)) in
    record { bytes = rw keep h.bytes; put = rw keep h.put }

-- as many of them are put behind the text as there is room for
pub adds_part : (before bytes : List ℕ) (at count : ℕ) → at < length before → count ≡ min (length bytes) (length before - at)
    → Adds before at (put_mid at (at + count - at) before (take count bytes)) (at + count) (λ text. text ++ bytes)
unfolding onto
adds_part before bytes at count inside most lent text h =
    let long = holds_length lent text before at h in
    let kept = length-take (length lent) text in
    let all : take (length lent) text ≡ text = take_all (length lent) text (omega (arith, h.put)) in
    let place : length text ≡ at = omega (arith, h.put, kept) in
    let front : before ≡ text ++ drop at lent = rw (all, place) at h.bytes in
    let space : length text + (length lent - at) ≡ length lent = omega arith in
    let least : min (length lent - at) (length bytes) ≡ count = omega arith in
    let more : take (length lent) (text ++ bytes) ≡ text ++ take count bytes =
    rw space at (take-append-add text bytes (length lent - at)) ∙ rw least at (ap (λ (l : List ℕ). text ++ l) (sym (take_min (length lent - at) bytes))) in
    let size : length (text ++ take count bytes) ≡ at + count = omega (arith, length-append text (take count bytes), length-take count bytes) in
    record {
      bytes = rw (front, more, size) (part_stored text lent (take count bytes) at (at + count) place (omega arith));
      put = rw more (sym size);
    }
