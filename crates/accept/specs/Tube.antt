-- The tube log of document 01: 212 bytes, packed.
-- Assumes nothing.
use Rattle.std.specs.Prelude.{false, List, [], ◌∷◌, ℕ}
use Rattle.records.specs.declared.Kind.TheVariants.{Send, Unlogged}
use Rattle.event_log.specs.Model.{Log}

-- the bytes of the log, packed
abbrev pub tube : List ℕ
tube =
    1 ∷ 0 ∷ 3 ∷ 0 ∷ 212 ∷ 0 ∷ 0 ∷ 0 ∷
    3 ∷ 0 ∷ 0 ∷ 0 ∷ 68 ∷ 0 ∷ 0 ∷ 0 ∷ 1 ∷ 0 ∷ 0 ∷ 0 ∷ 104 ∷ 0 ∷ 0 ∷ 0 ∷ 3 ∷ 0 ∷ 0 ∷ 0 ∷
    4 ∷ 0 ∷ 0 ∷ 0 ∷ 112 ∷ 0 ∷ 0 ∷ 0 ∷ 1 ∷ 0 ∷ 0 ∷ 0 ∷ 160 ∷ 0 ∷ 0 ∷ 0 ∷ 1 ∷ 0 ∷ 0 ∷ 0 ∷
    3 ∷ 0 ∷ 0 ∷ 0 ∷ 168 ∷ 0 ∷ 0 ∷ 0 ∷ 1 ∷ 0 ∷ 0 ∷ 0 ∷ 204 ∷ 0 ∷ 0 ∷ 0 ∷ 0 ∷ 0 ∷ 0 ∷ 0 ∷
    2 ∷ 2 ∷ 0 ∷ 0 ∷ 1 ∷ 0 ∷ 0 ∷ 0 ∷ 2 ∷ 0 ∷ 0 ∷ 0 ∷
    2 ∷ 1 ∷ 0 ∷ 0 ∷ 3 ∷ 0 ∷ 0 ∷ 0 ∷ 5 ∷ 0 ∷ 0 ∷ 0 ∷
    1 ∷ 1 ∷ 0 ∷ 0 ∷ 0 ∷ 0 ∷ 0 ∷ 0 ∷ 6 ∷ 0 ∷ 0 ∷ 0 ∷
    1 ∷ 0 ∷ 0 ∷ 0 ∷ 1 ∷ 0 ∷ 0 ∷ 0 ∷
    1 ∷ 2 ∷ 0 ∷ 0 ∷ 0 ∷ 0 ∷ 0 ∷ 0 ∷ 1 ∷ 0 ∷ 0 ∷ 0 ∷
    2 ∷ 2 ∷ 0 ∷ 0 ∷ 2 ∷ 0 ∷ 0 ∷ 0 ∷ 3 ∷ 0 ∷ 0 ∷ 0 ∷
    1 ∷ 0 ∷ 0 ∷ 0 ∷ 0 ∷ 0 ∷ 0 ∷ 0 ∷ 4 ∷ 0 ∷ 0 ∷ 0 ∷
    2 ∷ 0 ∷ 0 ∷ 0 ∷ 3 ∷ 0 ∷ 0 ∷ 0 ∷ 7 ∷ 0 ∷ 0 ∷ 0 ∷
    1 ∷ 0 ∷ 0 ∷ 0 ∷ 1 ∷ 0 ∷ 0 ∷ 0 ∷
    1 ∷ 0 ∷ 0 ∷ 0 ∷ 0 ∷ 0 ∷ 0 ∷ 0 ∷ 1 ∷ 0 ∷ 0 ∷ 0 ∷
    1 ∷ 1 ∷ 0 ∷ 0 ∷ 0 ∷ 0 ∷ 0 ∷ 0 ∷ 2 ∷ 0 ∷ 0 ∷ 0 ∷
    2 ∷ 1 ∷ 0 ∷ 0 ∷ 1 ∷ 0 ∷ 0 ∷ 0 ∷ 3 ∷ 0 ∷ 0 ∷ 0 ∷
    2 ∷ 0 ∷ 0 ∷ 0 ∷ 1 ∷ 0 ∷ 0 ∷ 0 ∷ []

-- "Roles 3, 1, 0. Worker 0: receive 2/1 stamp 2, receive 1/3 stamp 5, send to 1 stamp 6. .."
abbrev pub tube_log : Log
tube_log =
    record {
      form = 1;
      workers =
          record {
            role = 3;
            events =
                record { kind = Unlogged; peer = 2; spare = 0; send = 1; stamp = 2 } ∷ record { kind = Unlogged; peer = 1; spare = 0; send = 3; stamp = 5 } ∷
                record { kind = Send; peer = 1; spare = 0; send = 0; stamp = 6 } ∷ [];
            checkpoints = record { index = 1; identifier = 1; withdrawn = false } ∷ [];
          } ∷
          record {
            role = 1;
            events =
                record { kind = Send; peer = 2; spare = 0; send = 0; stamp = 1 } ∷ record { kind = Unlogged; peer = 2; spare = 0; send = 2; stamp = 3 } ∷
                record { kind = Send; peer = 0; spare = 0; send = 0; stamp = 4 } ∷ record { kind = Unlogged; peer = 0; spare = 0; send = 3; stamp = 7 } ∷ [];
            checkpoints = record { index = 1; identifier = 1; withdrawn = false } ∷ [];
          } ∷
          record {
            role = 0;
            events =
                record { kind = Send; peer = 0; spare = 0; send = 0; stamp = 1 } ∷ record { kind = Send; peer = 1; spare = 0; send = 0; stamp = 2 } ∷
                record { kind = Unlogged; peer = 1; spare = 0; send = 1; stamp = 3 } ∷ [];
            checkpoints = record { index = 2; identifier = 1; withdrawn = false } ∷ [];
          } ∷ [];
    }
