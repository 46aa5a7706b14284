-- `powers::joined` meets its contract: two effects are joined and kept, or have no run together.
use Rattle.powers.specs.Powers.{pair_joinable, pair_stuck, pair_kept}
use Rattle.std.proofs.Common.{arith, rules}
use Rattle.powers.proofs.joined.Goals as goal

pub join-both-requires : goal.join-both-requires
join-both-requires c =
    let (τ, (i, (j, h))) = c.requires.3 in
    let q = pair_joinable c.requires.2 h in
    (search rules, search rules, c.requires.2, omega (arith, h.places.0), omega (arith, h.places.1), q.0, q.1)

pub returns-then-not-both : goal.returns-then-not-both
returns-then-not-both c = λ τ i k h. pair_stuck c.requires.2 h c.join-both.ensures c.if-not-both.true

pub returns : goal.returns
returns c = λ τ i n h. pair_kept c.requires.2 h c.join-both.ensures c.if-not-both.false c.keep.ensures
