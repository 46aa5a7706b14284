-- The limit is the room of the row itself.
use borrow.Author.Rules.{rules}
use mathlib.Core.Path.{◌≡◌, ap, ◌∙◌}
use Prim.Native.Nat.{min}
use native.Mathlib.Omega.{arith}
use Rattle.demands.specs.Listed.{listed_of, row_room, row_of}
use Rattle.demands.proofs.demands.Goals as goal

pub returns : goal.returns
returns c =
    let args = c.args in
    let rows = c.rows.ensures in
    let row = args.row.now in
    let same : min (row_room row) (row_room row) ≡ row_room row = omega arith in (
      rows.0 ∙ ap (listed_of args.bytes.now args.start args.k) same,
      rows.1 ∙ ap (λ m. row_of args.bytes.now args.start args.k m row) same,
    )
