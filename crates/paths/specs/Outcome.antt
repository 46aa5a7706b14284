-- What passes from unstamped times tell: a pass that raised nothing has found the least solution above the start,
-- a cycle of parents is a negative cycle, and a raise in the N-th pass leads to such a cycle.
use Rattle.std.specs.Prelude.{◌≡◌, true, false, List, ℕ, suc, ◌+◌, ◌*◌, ◌≤◌, ◌<◌, length, take}
use Rattle.std.proofs.Common.{sym, subst, suc-mul, mul-le-mul_right, arith}
use Rattle.paths.specs.Walk.{iter, Ring}
use Rattle.basics.specs.Tab.{tab}
use Rattle.basics.specs.Places.{at}
use Rattle.paths.specs.Constraint.{Constraint, All, NegativeCycle}
use Rattle.paths.specs.State.{State, pass_of, hits_of, passes_of, passes_more, Below}
use Rattle.paths.specs.Bounds.{Room, room_kept, passes_size}
use Rattle.paths.specs.Invariant.{Inv}
use Rattle.paths.specs.Pass.{Start, settled, passes_least, loud, passes_inv}
use Rattle.paths.specs.Cycle.{Links, OnCycle, inv_links, parents_negative, late_cycle}
use Rattle.paths.specs.Code.{Wrote, wrote_first}

module _ (N : ℕ) (cs : List Constraint) (s : State) (start : Start N cs s) (n : ℕ) where
  abbrev E : ℕ
  E = length cs

  abbrev r : State
  r = passes_of cs n s

  inv : Inv N cs (n * E) r
  inv = passes_inv N cs start.fits s start n

  -- There is still room, and the parents can be followed.
  pub outcome_room : Room N r
  outcome_room = room_kept N s r (passes_size cs n s) start.room

  pub outcome_links : Links N r.parent r.stamp
  outcome_links = inv_links N cs start.fits (n * E) r inv outcome_room.parent outcome_room.stamp

  -- Pass number n raised nothing: the times are a solution.
  pub outcome_settled : hits_of cs (n * E + 1) r ≡ false → All cs (at (passes_of cs (n + 1) s).time)
  outcome_settled p =
      subst (λ (z : State). All cs (at z.time)) (sym (passes_more cs n s)) (settled cs (n * E + 1) r p)

  -- The times are at most every solution above the start.
  pub outcome_least : (x : ℕ → ℕ) → All cs x → Below N s.time x → Below N r.time x
  outcome_least x all b = passes_least N x cs n s start.fits start.room all b

  -- A cycle of parents, written out from u to its first return, is a negative cycle.
  pub outcome_cycle : (u m : ℕ) → OnCycle N r.parent r.stamp u → Ring (at r.parent) u m
      → NegativeCycle cs (tab (λ k. iter (at r.parent) k u) m)
  outcome_cycle u m o g = parents_negative N cs start.fits (n * E) r inv u m o g

  -- So are the vertices that `write_cycle` writes.
  pub outcome_wrote : (u m : ℕ) (out out' : List ℕ) → OnCycle N r.parent r.stamp u
      → Wrote r.parent u out out' m → NegativeCycle cs (take m out')
  outcome_wrote u m out out' o w =
      subst (NegativeCycle cs) (sym (wrote_first r.parent u out out' m w)) (outcome_cycle u m o w.ring)

  -- N steps of the walk of parents from a vertex with a stamp of the N-th pass, or a later one, lead to a cycle.
  module _ (v : ℕ) (below : v < N) (late : N * E < at r.stamp v + E) where
    pub outcome_ends : OnCycle N r.parent r.stamp (iter (at r.parent) N v)
    outcome_ends = late_cycle N cs start.fits (n * E) r inv v below late

  -- A pass that raises something leaves a vertex with a stamp of its own.
  pub outcome_late : hits_of cs (n * E + 1) r ≡ true → (v : ℕ) × (v < N) × (n * E < at (passes_of cs (n + 1) s).stamp v)
  outcome_late p =
      subst (λ (z : State). (v : ℕ) × (v < N) × (n * E < at z.stamp v)) (sym (passes_more cs n s))
      (go (loud N cs (n * E + 1) r start.fits outcome_room p))
    where
      go : (v : ℕ) × (v < N) × (n * E + 1 ≤ at (pass_of cs (n * E + 1) r).stamp v)
          → (v : ℕ) × (v < N) × (n * E < at (pass_of cs (n * E + 1) r).stamp v)
      go l = (l.0, l.1, omega (arith, l.2))

-- If the N-th pass, or a later one, raises something after n others, then there is a cycle of parents.
pub outcome_must : (N : ℕ) (cs : List Constraint) (s : State) → Start N cs s → (n : ℕ) → N ≤ suc n
    → hits_of cs (n * length cs + 1) (passes_of cs n s) ≡ true
    → (u : ℕ) × OnCycle N (passes_of cs (n + 1) s).parent (passes_of cs (n + 1) s).stamp u
outcome_must N cs s start n h p = go (outcome_late N cs s start n p)
  where
    go : (v : ℕ) × (v < N) × (n * length cs < at (passes_of cs (n + 1) s).stamp v)
        → (u : ℕ) × OnCycle N (passes_of cs (n + 1) s).parent (passes_of cs (n + 1) s).stamp u
    go l = (_, outcome_ends N cs s start (n + 1) l.0 l.1 (omega (arith, l.2, mul-le-mul_right (length cs) h, suc-mul n (length cs))))
