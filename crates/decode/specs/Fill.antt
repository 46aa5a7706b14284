-- The table by value that records fill in from the left.
use Rattle.std.specs.Prelude.{cond, List, [], ◌∷◌, ℕ, eqb}
use Rattle.table.specs.declared.Read.TheVariants.{Counted, Refused}
use Rattle.table.specs.declared.Table.{Table}
use Rattle.wire.specs.Records.{Record, records}
use Rattle.wire.specs.Reading.{byte, read_of}
use Rattle.wire.specs.Listing.{guard_in}
use Rattle.filling.specs.Filling.{empty, put_head, put_guard, put_reset, put_step}

-- one record more
unfoldable pub put : Record → Table → Table
put r t =
    cond (eqb r.kind 1) (put_head (byte r 0) t)
    (cond (eqb r.kind 2) (put_guard (guard_in r) t)
    (cond (eqb r.kind 3) (put_reset (byte r 0) t)
    (cond (eqb r.kind 4) (put_step t)
    t)))

unfoldable pub filled : Table → List Record → Table
filled t [] = t
filled t (r ∷ rs) = filled (put r t) rs

-- the table by value of accepted bytes; of others the empty one
unfoldable pub table_of : List ℕ → Table
table_of bytes = elim (read_of bytes) [ Counted n l g ↦ filled empty (records bytes) | Refused f ↦ empty ]
