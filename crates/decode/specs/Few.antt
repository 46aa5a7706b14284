-- A table by value has at most 16 steps, whatever is put in.
use Rattle.std.specs.Prelude.{Bool, true, false, cond, ℕ, ◌≤◌, ◌<◌, eqb, ltb}
use Rattle.std.proofs.Math.Decide.{dec_lt}
use native.Mathlib.Omega.{arith}
use Rattle.std.proofs.Common.{lt-ltb, le-ltb}
use Rattle.table.specs.declared.Guard.{Guard}
use Rattle.table.specs.declared.Table.{Table}
use Rattle.wire.specs.Records.{Record}
use Rattle.wire.specs.Reading.{byte}
use Rattle.wire.specs.Listing.{guard_in}
use Rattle.filling.specs.Filling.{empty, guards_so_far, put_head, put_guard, put_reset, put_step}
use Rattle.decode.specs.Fill.{put}

pub record Few (t : Table) : Type 0 where
  pub steps : t.steps ≤ 16

pub few_empty : Few empty
unfolding empty
few_empty = record { steps = omega arith }

few_either : (b : Bool) {t u : Table} → Few t → Few u → Few (cond b t u)
few_either true h k = h
few_either false h k = k

module _ (t : Table) (h : Few t) where
  few_head : (n : ℕ) → Few (put_head n t)
  unfolding put_head
  few_head n = record { steps = h.steps }

  few_guard : (g : Guard) → Few (put_guard g t)
  unfolding put_guard
  few_guard g = few_either (ltb t.steps 17) (few_either (ltb (guards_so_far t) 64) (record { steps = h.steps }) h) h

  few_reset : (j : ℕ) → Few (put_reset j t)
  unfolding put_reset
  few_reset j = few_either (ltb t.steps 17) (few_either (ltb j 7) (record { steps = h.steps }) h) h

  few_step : Few (put_step t)
  unfolding put_step
  few_step = room (dec_lt t.steps 16)
    where
      room : Dec (t.steps < 16) → Few (put_step t)
      room (yes l) = rw (lt-ltb t.steps 16 l) (record { steps = omega arith })
      room (no n) = rw (le-ltb t.steps 16 (omega arith)) h

  -- one record more
  pub few_put : (r : Record) → Few (put r t)
  unfolding put
  few_put r =
      few_either (eqb r.kind 1) (few_head (byte r 0))
      (few_either (eqb r.kind 2) (few_guard (guard_in r))
      (few_either (eqb r.kind 3) (few_reset (byte r 0)) (few_either (eqb r.kind 4) few_step h)))
