-- A text in a lent buffer.
-- Assumes nothing.
use Rattle.std.specs.Prelude.{◌≡◌, List, ℕ, length, take}
use Rattle.lent.specs.Lent.{onto}

-- as much of a text as the lent bytes have room for
abbrev pub room : List ℕ → List ℕ → List ℕ
room lent text = take (length lent) text

-- the lent bytes after a text has been put at their start, as much of it as there is room for, and the number of bytes put
pub record Holds (lent text after : List ℕ) (place : ℕ) : Type 0 where
  pub bytes : after ≡ onto (room lent text) lent
  pub put : place ≡ length (room lent text)

-- bytes that hold a text up to a place hold the text with more after it up to the next place
abbrev pub Adds : List ℕ → ℕ → List ℕ → ℕ → (List ℕ → List ℕ) → Type 0
Adds before at after next more = (lent text : List ℕ) → Holds lent text before at → Holds lent (more text) after next
