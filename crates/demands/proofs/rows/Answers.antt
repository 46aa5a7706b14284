-- Refused bytes are refused as the reader does; of accepted bytes the table by value has the demands asked for.
use borrow.Author.Rules.{rules}
use mathlib.Core.Path.{sym, ◌∙◌}
use Prim.Native.Nat.{min}
use native.Mathlib.Omega.{arith}
use Rattle.wire.specs.Records.{Bytes}
use Rattle.demands.specs.Listed.{row_room}
use Rattle.demands.specs.Accepted.{table_tabled, rows_counted, rows_refused}
use Rattle.demands.proofs.rows.Goals as goal
use Rattle.demands.proofs.rows.Goals.{After-shared_slice_known-1}

bytes : (c : After-shared_slice_known-1) → Bytes c.args.bytes.now
bytes c i = omega (arith, c.shared_slice_known-1.given i)

pub answer-requires : goal.answer-requires
answer-requires c =
    table_tabled _ (bytes (goal.at.answer-requires c).After-shared_slice_known-1) (sym c.parse-parsed.ensures.0 ∙ c.in-Counted.is)
    c.parse-parsed.ensures.1

pub returns-in-Refused : goal.returns-in-Refused
returns-in-Refused c =
    rows_refused _ _ _ _ _ _ (sym c.parse-parsed.ensures.0 ∙ c.in-Refused.is)

pub returns-in-Counted : goal.returns-in-Counted
returns-in-Counted c =
    let args = c.args in
    rows_counted _ (bytes (goal.at.returns-in-Counted c).After-shared_slice_known-1) (sym c.parse-parsed.ensures.0 ∙ c.in-Counted.is)
    c.parse-parsed.ensures.1
    args.start args.k (min (row_room args.row.now) args.limit) args.row.now
    c.answer.ensures.0 c.answer.ensures.1
