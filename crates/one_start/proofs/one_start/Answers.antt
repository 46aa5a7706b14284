-- `one_start::one_start` meets its contract: the reader's refusal, or the answer of the table that the bytes write down.
use mathlib.Core.Path.{sym, ◌∙◌}
use Rattle.one_start.specs.Question.{refused_answers, counted_answers}
use Rattle.rounds.specs.Asking.{accepted_good, accepted_uses, accepted_same}
use Rattle.runs.specs.declared.Start.TheVariants.{MidShift}
use Rattle.wire.specs.Records.{Bytes}
use borrow.Author.Rules.{rules}
use native.Mathlib.Omega.{arith}
use Rattle.one_start.proofs.one_start.Goals as goal

pub start_in-requires : goal.start_in-requires
start_in-requires c =
    let b : Bytes c.args.bytes.now = λ i. omega (arith, c.shared_slice_known-1.given i) in (
      accepted_good c.args.bytes.now MidShift c.parse-parsed.result.answer c.parse-parsed.ensures.0 c.parse-parsed.result.table c.parse-parsed.ensures.1 b _ _ _ c.in-Counted.is,
      accepted_uses c.args.bytes.now MidShift c.parse-parsed.result.answer c.parse-parsed.ensures.0 c.parse-parsed.result.table c.parse-parsed.ensures.1 b _ _ _ c.in-Counted.is,
    )

pub returns-in-Refused : goal.returns-in-Refused
returns-in-Refused c =
    refused_answers _ _ _ (sym c.parse-parsed.ensures.0 ∙ c.in-Refused.is)

pub returns-in-Counted : goal.returns-in-Counted
returns-in-Counted c =
    let b : Bytes c.args.bytes.now = λ i. omega (arith, c.shared_slice_known-1.given i) in
    let q = c.in-Counted.is in
    let k = accepted_same c.args.bytes.now MidShift c.parse-parsed.result.answer c.parse-parsed.ensures.0 c.parse-parsed.result.table c.parse-parsed.ensures.1 b _ _ _ q in
    counted_answers _ _ _ _ _ (sym c.parse-parsed.ensures.0 ∙ q) c.parse-parsed.result.table k.0 k.1 k.2 _ _ c.start_in.ensures
