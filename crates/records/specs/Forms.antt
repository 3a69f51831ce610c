-- The forms of a log: document 01, "Bytes 0-1: form, 1", and document 02, Note 1, "Form 2 has the layout of form 1", and Note 6.
-- Assumes nothing.
use Rattle.std.specs.Prelude.{Bool, ◌||◌, ℕ, eqb}

abbrev pub first_form : ℕ
first_form = 1

abbrev pub second_form : ℕ
second_form = 2

-- Note 9: "an interval log: form 3", which is none of the forms that a call takes
abbrev pub third_form : ℕ
third_form = 3

-- the forms that a call takes
unfoldable pub is_form : ℕ → Bool
is_form form = eqb form first_form || eqb form second_form

-- "In form 2 the top bit of the identifier word marks a withdrawn checkpoint .. In form 1 the word is the identifier as before"
unfoldable pub marks_withdrawn : ℕ → Bool
marks_withdrawn form = eqb form second_form

-- "Form 2 .. a send is received at most once. Form 1 still permits repeats"
unfoldable pub receives_once : ℕ → Bool
receives_once form = eqb form second_form
