-- `rounds::rounds` meets its contract: the reader's refusal, or the count of the table that the bytes write down.
use Rattle.wire.specs.Records.{Bytes}
use Rattle.rounds.specs.Asking.{answers_refused, accepted_good, accepted_uses, answers_counted}
use borrow.Author.Rules.{rules}
use native.Mathlib.Omega.{arith}
use Rattle.rounds.proofs.rounds.Goals as goal

pub rounds_of-requires : goal.rounds_of-requires
rounds_of-requires c =
    let b : Bytes c.args.bytes.now = λ i. omega (arith, c.shared_slice_known-1.given i) in (
      accepted_good c.args.bytes.now c.args.start c.parse-parsed.result.answer c.parse-parsed.ensures.0
          c.parse-parsed.result.table c.parse-parsed.ensures.1 b _ _ _ c.in-Counted.is,
      accepted_uses c.args.bytes.now c.args.start c.parse-parsed.result.answer c.parse-parsed.ensures.0
          c.parse-parsed.result.table c.parse-parsed.ensures.1 b _ _ _ c.in-Counted.is,
    )

pub returns-in-Refused : goal.returns-in-Refused
returns-in-Refused c =
    answers_refused c.args.bytes.now c.args.start c.parse-parsed.result.answer c.parse-parsed.ensures.0 _
    c.in-Refused.is

pub returns-in-Counted : goal.returns-in-Counted
returns-in-Counted c =
    answers_counted c.args.bytes.now c.args.start c.parse-parsed.result.answer c.parse-parsed.ensures.0
    c.parse-parsed.result.table c.parse-parsed.ensures.1
    (λ i. omega (arith, c.shared_slice_known-1.given i)) _ _ _ c.in-Counted.is
    c.rounds_of.result c.rounds_of.ensures
