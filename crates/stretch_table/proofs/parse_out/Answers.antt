-- Where no stretch comes the answer is that of a table without, and the bytes are what they mean.
use borrow.Author.Rules.{rules}
use native.Mathlib.Omega.{arith}
use mathlib.Core.Path.{sym, ◌∙◌}
use Rattle.wire.specs.Records.{Bytes}
use Rattle.wire.specs.Laws.{counted_short}
use Rattle.stretch_table.specs.Filled.{table_none, table_same}
use Rattle.stretch_table.proofs.parse_out.Goals as goal
use Rattle.stretch_table.proofs.parse_out.Goals.{After-shared_slice_known-1}

-- each byte is below 256
small : (c : After-shared_slice_known-1) → Bytes c.args.bytes.now
small c i = omega (arith, c.shared_slice_known-1.given i)

pub fill-requires : goal.fill-requires
fill-requires c =
    let told = c.read_whole-whole.ensures in
    counted_short _ _ _ _ (sym (told.plain c.if-whole-bytes.true) ∙ c.in-Counted.is)

pub returns-then-whole-bytes : goal.returns-then-whole-bytes
returns-then-whole-bytes c =
    let told = c.read_whole-whole.ensures in
    let e = c.in-Counted.is in
    (told.answer, c.fill.ensures ∙ table_same _ (small (goal.at.returns-then-whole-bytes c).After-shared_slice_known-1) _ _ _ (sym told.answer ∙ e) (sym (told.plain c.if-whole-bytes.true) ∙ e))

pub fill_out-requires : goal.fill_out-requires
fill_out-requires c = record {
  clocks = _;
  steps = _;
  guards = _;
  counted = sym c.read_whole-whole.ensures.answer ∙ c.in-Counted.is;
}

pub returns-in-Refused : goal.returns-in-Refused
returns-in-Refused c =
    let told = c.read_whole-whole.ensures in
    (told.answer, c.empty_table.ensures ∙ table_none _ _ (sym told.answer ∙ c.in-Refused.is))

pub returns-else-whole-bytes : goal.returns-else-whole-bytes
returns-else-whole-bytes c = (c.read_whole-whole.ensures.answer, c.fill_out.ensures)
