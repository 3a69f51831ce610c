-- What an event costs to replay: the table of document 01, "Plan", and the unit tables that hosts bring, document 02, Note 7.
-- Assumes nothing.
use Rattle.std.specs.Prelude.{Bool, not, cond, ◌||◌, List, [], ◌∷◌, ℕ, ◌+◌, ◌*◌, eqb, ltb, length, get_or}
use Rattle.ranges.specs.Fold.{any_below, join_below}
use Rattle.lent.specs.Lent.{at, words_refusal, Left, leaves}
use Rattle.records.specs.declared.Kind.{Kind}
use Rattle.records.specs.Kind.{column}

-- "12 words": for four roles and three kinds
abbrev pub table_words : ℕ
table_words = 12

-- "1 to 1,000"
abbrev pub max_units : ℕ
max_units = 1000

-- units for a role and a kind
abbrev pub Table : Type 0
Table = ℕ → Kind → ℕ

-- "role 0 intake 2, 3, 5; role 1 cleaner 2, 4, 6; role 2 gap filler 3, 8, 9; role 3 summariser 2, 5, 7"
abbrev pub rows : List (List ℕ)
rows = (2 ∷ 3 ∷ 5 ∷ []) ∷ (2 ∷ 4 ∷ 6 ∷ []) ∷ (3 ∷ 8 ∷ 9 ∷ []) ∷ (2 ∷ 5 ∷ 7 ∷ []) ∷ []

-- "this table (send, receive without data, receive with data)"
unfoldable pub built_in : Table
built_in role kind = get_or (get_or rows role []) (column kind) 0

-- "12 words of 32 bits, role by role, in the column order of document 01": what the words of a unit table give
unfoldable pub table_of : List ℕ → Table
table_of words role kind = at words (3 * role + column kind)

-- "The built-in table loads like any other": its rows as such words
unfoldable pub built_in_words : List ℕ
built_in_words = join_below (λ role. get_or rows role []) 4

-- "a word outside 1 to 1,000"
unfoldable pub unit_fault : List ℕ → ℕ → Bool
unit_fault words k = ltb (at words k) 1 || ltb max_units (at words k)

-- 27: "other than 12 words or a word outside 1 to 1,000"
unfoldable pub table_refusal : List ℕ → ℕ
table_refusal words = cond (not (eqb (length words) table_words) || any_below (unit_fault words) (length words)) 27 0

-- `built_in_table`: of the words for it
abbrev pub built_in_call : List ℕ → Left
built_in_call table = leaves (words_refusal (length table) table_words) built_in_words table
