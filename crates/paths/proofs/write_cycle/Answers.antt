use Rattle.std.proofs.Common.{◌≡◌, refl, sym, ap, ◌∙◌, subst, ℕ, ◌<◌, length, arith, add-one, length-set}
use Rattle.paths.specs.Walk.{iter, Ring, ring_more, ring_end}
use Rattle.basics.specs.Places.{at, written_none, written_more, written_over}
use Rattle.paths.proofs.write_cycle.Goals as goal
use Rattle.paths.proofs.write_cycle.Goals.{In-loop-x}

-- the walk has not come round
further : (c : In-loop-x) (m : ℕ) → Ring (at c.args.parent.now) c.args.u m → c.loop-x.k < m
further c m r =
    ring_more _ _ m c.loop-x.k r (c.loop-x.invariant.4 m r)
    (λ e. c.loop-x-test.true (c.loop-x.invariant.2 ∙ e))

keeps : (c : In-loop-x) → length c.loop-x.out ≡ length c.args.out.now
keeps c = c.loop-x.invariant.1 ∙ simp length-set

room : (c : In-loop-x) → c.loop-x.k < length c.loop-x.out
room c = omega (arith, further c _ c.requires.ring, keeps c, c.requires.few)

pub loop-x-init : goal.loop-x-init
unfolding iter
loop-x-init c =
    let out = c.args.out.now in (
      omega arith,
      refl,
      refl,
      written_more _ 0 _ out out (omega arith) refl (written_none _ _)
          ∙ sym (written_over _ 1 0 _ _ (omega arith)),
      λ m r. r.pos,
    )

pub loop-x-preserved : goal.loop-x-preserved
unfolding iter
loop-x-preserved c =
    let i = (goal.at.loop-x-preserved c).In-loop-x in (
      omega arith,
      simp length-set (keeps i),
      rw add-one (ap (at c.args.parent.now) c.loop-x.invariant.2),
      written_more _ _ _ _ _ (omega (arith, room i)) c.loop-x.invariant.2 c.loop-x.invariant.3,
      λ m r. omega (arith, further i m r),
    )

pub returns : goal.returns
returns c =
    let p = c.requires in
    let e =
    ring_end (at c.args.parent.now) c.args.u p.turn c.loop-x.k p.ring c.loop-x.invariant.0
    (c.loop-x.invariant.4 _ p.ring) (sym c.loop-x.invariant.2 ∙ c.loop-x-test.false)
    in
    record {
      ring = subst (λ (n : ℕ). Ring (at c.args.parent.now) c.args.u n) e p.ring;
      few = omega (arith, e, p.few);
      contents = c.loop-x.invariant.3 ∙ written_over _ _ 0 _ _ c.loop-x.invariant.0;
    }
