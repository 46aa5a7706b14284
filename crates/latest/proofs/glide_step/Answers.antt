-- The order demand of the step and its guards from below, and the checks forth where they lower an earlier moment.
use Rattle.std.proofs.Common.{refl, arith}
use Rattle.ways.specs.Forth.{going_placed}
use Rattle.latest.specs.Glide.{back_order_able, back_lower_able, back_falling, forth_able, glide_falling}
use Rattle.latest.proofs.glide_step.Goals as goal

pub bound-ordered-requires : goal.bound-ordered-requires
bound-ordered-requires c =
    let p = c.requires in
    back_order_able _ _ _ _ _ _ _ _ _ 1031 p.2 p.3 p.5 _ c.not_after.ensures

pub bound_side-lowest-requires : goal.bound_side-lowest-requires
bound_side-lowest-requires c =
    let p = c.requires in (
      going_placed _ _ _ _ _ _ _ p.0 p.3 p.2,
      back_lower_able _ _ _ _ _ _ _ _ _ _ p.2 p.3 p.5 _ c.not_after.ensures _ _ c.bound-ordered.ensures,
    )

pub returns-then-i-lowest : goal.returns-then-i-lowest
returns-then-i-lowest c =
    let p = c.requires in (
      back_falling _ _ _ _ _ _ _ _ _ _ p.2 p.3 p.5 _ c.not_after.ensures _ _ c.bound-ordered.ensures _ _ c.bound_side-lowest.ensures,
      omega (arith, p.2),
      omega (arith, p.4),
    )

pub rise-top-requires : goal.rise-top-requires
rise-top-requires c =
    let p = c.requires in (
      p.1,
      omega (arith, p.2),
      refl,
      forth_able _ _ _ _ _ _ _ _ _ _ p.2 p.3 p.5 _ c.not_after.ensures _ _ c.bound-ordered.ensures _ _ c.bound_side-lowest.ensures,
    )

pub returns : goal.returns
returns c =
    let p = c.requires in (
      glide_falling _ _ _ _ _ _ _ _ _ _ p.2 p.3 p.5 _ c.not_after.ensures _ _ c.bound-ordered.ensures _ _ c.bound_side-lowest.ensures _ _ _
          c.rise-top.ensures,
      c.rise-top.ensures.inside,
      omega (arith, c.saturating_sub.ensures, p.4, c.rise-top.ensures.since, c.if-i-lowest.false),
    )
