-- `climbing::add` meets its contract: the two do not run together from an allowed start, or their effect is kept.
use Rattle.climbing.specs.Ways.{down_joinable, down_stuck, down_runs, down_effect, down_refused, down_more}
use Rattle.admitting.specs.Grid.{cells_lie}
use Rattle.std.proofs.Common.{arith}
use Rattle.climbing.proofs.add.Goals as goal

pub join-more-requires : goal.join-more-requires
join-more-requires c =
    let (τ, h) = c.requires.7 in
    let q = down_joinable c.args.side c.requires.3 _ τ _ _ _ _ c.requires.4 c.requires.5 h in
    (c.requires.1, c.requires.0, c.requires.3, omega arith, omega arith, q.0, q.1)

pub returns-then-not-more : goal.returns-then-not-more
returns-then-not-more c =
    λ τ h. down_stuck c.args.side c.requires.3 _ τ _ _ _ _ c.requires.4 c.requires.5 h _ _ c.join-more.ensures c.if-not-more.true

pub admits-allowed-requires : goal.admits-allowed-requires
admits-allowed-requires c =
    let (τ, h) = c.requires.7 in
    let d = down_runs c.args.side c.requires.3 _ τ _ _ _ _ c.requires.4 c.requires.5 h _ _ c.join-more.ensures c.if-not-more.false in
    (c.requires.2, c.requires.3, cells_lie c.requires.3 (omega arith), (_, down_effect c.args.side c.requires.3 _ τ _ _ _ _ c.requires.4 c.requires.5 h _ d))

pub returns-then-not-allowed : goal.returns-then-not-allowed
returns-then-not-allowed c =
    λ τ h. let d = down_runs c.args.side c.requires.3 _ τ _ _ _ _ c.requires.4 c.requires.5 h _ _ c.join-more.ensures c.if-not-more.false in
    down_refused c.args.side c.requires.3 _ τ _ _ _ _ c.requires.4 c.requires.5 h _ (c.admits-allowed.ensures _ (down_effect c.args.side c.requires.3 _ τ _ _ _ _ c.requires.4 c.requires.5 h _ d)) c.if-not-allowed.true

pub returns : goal.returns
returns c =
    λ τ h. let d = down_runs c.args.side c.requires.3 _ τ _ _ _ _ c.requires.4 c.requires.5 h _ _ c.join-more.ensures c.if-not-more.false in
    rw c.requires.6
    (down_more c.args.side c.requires.3 _ τ _ _ _ _ c.requires.4 c.requires.5 h _ d _ c.keep.ensures
    ((c.admits-allowed.ensures _ (down_effect c.args.side c.requires.3 _ τ _ _ _ _ c.requires.4 c.requires.5 h _ d)).0 c.if-not-allowed.false))
