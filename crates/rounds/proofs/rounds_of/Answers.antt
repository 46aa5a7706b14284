-- `rounds::rounds_of` meets its contract: what the search finds.
use Rattle.rounds.specs.Counting.{counts_endless}
use borrow.Author.Rules.{rules}
use Rattle.rounds.proofs.rounds_of.Goals as goal

pub returns-then-found : goal.returns-then-found
returns-then-found c =
    counts_endless c.args.t c.requires.0 c.args.start (c.search-found.ensures.unending c.if-found.true).always

pub returns : goal.returns
returns c =
    c.search-found.ensures.counted c.if-found.false
