-- What a function leaves that writes words or bytes from some place on: what loops that write one piece after the other cite.
-- Assumes nothing.
use Rattle.std.specs.Prelude.{List, ◌++◌, ℕ, take, drop}
use Rattle.lent.specs.Lent.{onto}

-- the new ones from place k on, and every other as it was
unfoldable pub overwrite : ℕ → List ℕ → List ℕ → List ℕ
overwrite k new lent = take k lent ++ onto new (drop k lent)
