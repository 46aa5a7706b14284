-- The refusal is that of the test, and the answer that of the rounds.
use mathlib.Core.Path.{sym, ◌∙◌}
use borrow.Author.Rules.{rules}
use borrow.Author.Tests.{not-true, not-false}
use Rattle.constraints.specs.Sized.{rounds_of}
use Rattle.widest.specs.Question.{ranged_sized, meets_refused, meets_accepted}
use Rattle.widest.proofs.widest_table.Goals as goal

pub returns-then-not-in_range : goal.returns-then-not-in_range
returns-then-not-in_range c = meets_refused c.args.t c.args.k c.args.t.clocks (rounds_of c.args.t c.args.k) (sym c.in_range.ensures ∙ not-true _ c.if-not-in_range.true-raw)

pub widest_rounds-requires : goal.widest_rounds-requires
widest_rounds-requires c = ranged_sized c.args.t c.args.k c.requires (sym c.in_range.ensures ∙ not-false _ c.if-not-in_range.false-raw)

pub returns : goal.returns
returns c =
    meets_accepted c.args.t c.args.k c.args.t.clocks (rounds_of c.args.t c.args.k) c.widest_rounds.result (sym c.in_range.ensures ∙ not-false _ c.if-not-in_range.false-raw) c.widest_rounds.ensures
