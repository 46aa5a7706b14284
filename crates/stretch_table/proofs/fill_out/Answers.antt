-- The table is filled from the part of the room that holds the table written out.
use borrow.Author.Rules.{rules}
use native.Mathlib.Omega.{arith}
use lib.Dec.{lit≤}
use Rattle.wire.specs.Records.{Bytes}
use Rattle.write_out.specs.Out.{out_front}
use Rattle.stretch_table.specs.Filled.{part_short, part_filled}
use Rattle.stretch_table.proofs.fill_out.Goals as goal
use Rattle.stretch_table.proofs.fill_out.Goals.{After-shared_slice_known-1}

-- each byte is below 256
small : (c : After-shared_slice_known-1) → Bytes c.args.bytes.now
small c i = omega (arith, c.shared_slice_known-1.given i)

pub slice_bounds-fill-end : goal.slice_bounds-fill-end
slice_bounds-fill-end c = let s = c in (out_front _ (small (goal.at.slice_bounds-fill-end c).After-shared_slice_known-1) c.requires _ _ _ (lit≤ tt) c.write_table-end.ensures).1

pub fill-requires : goal.fill-requires
fill-requires c = let s = c in part_short _ (small (goal.at.fill-requires c).After-shared_slice_known-1) c.requires (lit≤ tt) c.write_table-end.ensures

pub returns : goal.returns
returns c = let s = c in part_filled _ (small (goal.at.returns c).After-shared_slice_known-1) c.requires (lit≤ tt) c.write_table-end.ensures _ c.fill.ensures
