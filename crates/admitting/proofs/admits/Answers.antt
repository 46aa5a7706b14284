-- `admitting::admits` meets its contract: what it closes is the left part with the variant's demands.
use Rattle.admitting.specs.Admitted.{admits_closable, admits_is, admits_all}
use mathlib.Core.Path.{sym, ◌∙◌}
use native.Mathlib.Omega.{arith}
use Rattle.admitting.proofs.admits.Goals as goal

pub returns-then-partners-eq0 : goal.returns-then-partners-eq0
returns-then-partners-eq0 c =
    λ σ o. admits_all c.requires.1 c.args.start (sym c.partners.ensures ∙ c.if-partners-eq0.true) o

pub close-requires : goal.close-requires
close-requires c =
    let (σ, o) = c.requires.3 in (
      omega arith,
      omega arith,
      admits_closable c.requires.1 c.args.start c.left_part.ensures c.clocks.ensures o,
    )

pub returns : goal.returns
returns c =
    λ σ o. admits_is c.requires.1 c.args.start c.left_part.ensures c.clocks.ensures o _ _ c.close.ensures
