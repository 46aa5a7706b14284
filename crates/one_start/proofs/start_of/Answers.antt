-- `one_start::start_of` meets its contract: the count, or the smallest readings of the settled left part.
use Rattle.one_start.specs.Found.{side, settled_effect, settled_lasts}
use borrow.Author.Tests.{not-true, not-false}
use mathlib.Core.Path.{refl}
use borrow.Author.Rules.{rules}
use native.Mathlib.Omega.{arith}
use Rattle.one_start.proofs.start_of.Goals as goal

pub returns-then-not-found : goal.returns-then-not-found
returns-then-not-found c =
    record { counts = c.search-found.ensures.counted (not-true _ c.if-not-found.true); room = refl }

pub smallest-requires : goal.smallest-requires
smallest-requires c =
    let e = c.search-found.ensures.unending (not-false _ c.if-not-found.false) in (
      search rules,
      search rules,
      omega (arith, e.low),
      side c.args.t c.requires.0 e,
      omega (arith, c.requires.2),
      (_, settled_effect c.args.t c.requires.0 e),
    )

pub returns : goal.returns
returns c =
    let e = c.search-found.ensures.unending (not-false _ c.if-not-found.false) in
    settled_lasts c.args.t c.requires.0 e _ _ c.smallest.ensures
