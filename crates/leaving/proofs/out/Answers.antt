use mathlib.Core.Path.{refl, sym}
use native.Mathlib.Nat.{mod-eq_of_lt}
use native.Mathlib.Omega.{arith}
use Rattle.leaving.specs.Leaving.{first_able, outward_first, outward_went, outward_able, outward_next}
use Rattle.leaving.proofs.out.Goals as goal

pub forth_from-gone-requires : goal.forth_from-gone-requires
forth_from-gone-requires c =
    let p = c.requires in (
      p.0,
      omega arith,
      omega arith,
      sym (mod-eq_of_lt p.0.some),
      omega arith,
      first_able _ _ _ _ _ _ _ _ p.3,
    )

pub loop-i-init : goal.loop-i-init
loop-i-init c = outward_first _ _ _ _ _ _ _ _ _ _ c.forth_from-gone.ensures.0

pub returns-then-last-next : goal.returns-then-last-next
returns-then-last-next c =
    outward_went _ _ _ _ _ _ _ _ _ _ c.forth_from-gone.ensures.0 _ _ _ c.loop-i.invariant c.requires.0.few

pub out_step-come-requires : goal.out_step-come-requires
out_step-come-requires c =
    let p = c.requires in (
      p.0,
      p.1,
      omega arith,
      refl,
      omega arith,
      outward_able _ _ _ _ _ _ _ _ _ _ c.forth_from-gone.ensures.0 _ _ _ c.loop-i.invariant p.3,
    )

pub loop-i-preserved : goal.loop-i-preserved
loop-i-preserved c =
    outward_next _ _ _ _ _ _ _ _ _ _ c.forth_from-gone.ensures.0 _ _ _ c.loop-i.invariant (omega arith) _ _ _
    c.out_step-come.ensures.0 c.out_step-come.ensures.2

pub returns : goal.returns
returns c =
    outward_went _ _ _ _ _ _ _ _ _ _ c.forth_from-gone.ensures.0 _ _ _ c.loop-i.invariant c.requires.0.few
