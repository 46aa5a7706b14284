-- Cycles of parents: each is a negative cycle, and a raise in the N-th pass leads to one.
use Rattle.std.specs.Prelude.{◌≡◌, ◌⊎◌, ◌≢◌, List, length}
use Rattle.std.proofs.Math.Path.{sym, subst}
use Rattle.std.proofs.Common.{ap, ◌∙◌, arith}
use Rattle.std.proofs.Math.Logic.{inl, inr}
use Prim.Native.Nat.{ℕ, zero, suc, ◌+◌, ◌*◌, ◌-◌, ◌≤◌, ◌<◌}
use Rattle.std.proofs.Math.Nat.{suc-mul, zero-mul, mul-le-mul_right}
use Rattle.basics.specs.Pigeon.{Twice, pigeon}
use Rattle.paths.specs.Walk.{iter, iter_add, iter_round, Among, among, Ring}
use Rattle.basics.specs.Numbers.{sum}
use Rattle.basics.specs.Tab.{tab, length_tab, get_d_tab}
use Rattle.basics.specs.Places.{at}
use Rattle.paths.specs.Constraint.{Constraint, Fits, NegativeCycle}
use Rattle.paths.specs.State.{State}
use Rattle.paths.specs.Invariant.{Edge, Inv}

-- The parents p lead from a stamped vertex below N to a vertex below N.
pub record Links (N : ℕ) (p st : List ℕ) : Type 0 where
  pub parents : N ≤ length p
  pub stamps : N ≤ length st
  pub inside : (v : ℕ) → v < N → 0 < at st v → at p v < N

-- The walk of parents from u comes back to u, and all its vertices are stamped and below N.
pub record OnCycle (N : ℕ) (p st : List ℕ) (u : ℕ) : Type 0 where
  pub turn : ℕ
  pub pos : 0 < turn
  pub back : iter (at p) turn u ≡ u
  pub inside : (k : ℕ) → iter (at p) k u < N
  pub stamped : (k : ℕ) → 0 < at st (iter (at p) k u)

-- It is enough that the vertices of the first turn are stamped.
pub on_cycle : (N : ℕ) (p st : List ℕ) (u m : ℕ) → Links N p st → u < N → 0 < m → iter (at p) m u ≡ u
    → ((k : ℕ) → k < m → 0 < at st (iter (at p) k u)) → OnCycle N p st u
unfolding iter
on_cycle N p st u m links h pos back marks =
    record { turn = m; pos = pos; back = back; inside = inside; stamped = stamped }
  where
    stamped : (k : ℕ) → 0 < at st (iter (at p) k u)
    stamped k = go (among (at p) u 0 m pos (sym back) k)
      where
        go : Among (at p) u m k → 0 < at st (iter (at p) k u)
        go a = rw a.same (marks a.index a.below)

    inside : (k : ℕ) → iter (at p) k u < N
    inside zero = h
    inside (suc k) = links.inside (iter (at p) k u) (inside k) (stamped k)

-- A walk over stamped vertices that goes round after n steps.
pub on_walk : (N : ℕ) (p st : List ℕ) (v n m : ℕ) → 0 < m → iter (at p) m (iter (at p) n v) ≡ iter (at p) n v
    → ((k : ℕ) → iter (at p) k v < N) → ((k : ℕ) → 0 < at st (iter (at p) k v)) → OnCycle N p st (iter (at p) n v)
on_walk N p st v n m pos back inside stamped = record {
  turn = m;
  pos = pos;
  back = back;
  inside = λ k. subst (λ (x : ℕ). x < N) (iter_add (at p) k n v) (inside (k + n));
  stamped = λ k. subst (λ (x : ℕ). 0 < at st x) (iter_add (at p) k n v) (stamped (k + n));
}

-- ---- sums along a walk: times t, stamps st, losses and gains of its edges
module _ (t st loss gain : ℕ → ℕ) (weak : (k : ℕ) → t k + loss k ≤ t (suc k) + gain k)
    (fall : (k : ℕ) → (st (suc k) < st k) ⊎ (t k + loss k < t (suc k) + gain k)) where
  record Climb (n : ℕ) : Type 0 where
    weakly : t 0 + sum loss n ≤ t n + sum gain n
    falls : (st n + n ≤ st 0) ⊎ (t 0 + sum loss n < t n + sum gain n)

  climb : (n : ℕ) → Climb n
  unfolding sum
  climb zero = record { weakly = omega arith; falls = inl (omega arith) }
  climb (suc n) = go (climb n) (fall n)
    where
      go : Climb n → (st (suc n) < st n) ⊎ (t n + loss n < t (suc n) + gain n) → Climb (suc n)
      go c f = record { weakly = omega (arith, c.weakly, weak n); falls = both c.falls f }
        where
          both : (st n + n ≤ st 0) ⊎ (t 0 + sum loss n < t n + sum gain n)
              → (st (suc n) < st n) ⊎ (t n + loss n < t (suc n) + gain n)
              → (st (suc n) + suc n ≤ st 0) ⊎ (t 0 + (sum loss n + loss n) < t (suc n) + (sum gain n + gain n))
          both (inl p) (inl q) = inl (omega arith)
          both (inl p) (inr q) = inr (omega (arith, c.weakly))
          both (inr p) q = inr (omega (arith, weak n))

  -- Round a cycle the losses are less than the gains: the stamps cannot fall all the way.
  cycle_sum : (m : ℕ) → 0 < m → t m ≡ t 0 → st m ≡ st 0 → sum loss m < sum gain m
  cycle_sum m h p q = go (climb m).falls
    where
      go : (st m + m ≤ st 0) ⊎ (t 0 + sum loss m < t m + sum gain m) → sum loss m < sum gain m
      go (inl l) = omega arith
      go (inr l) = omega arith

module _ (N : ℕ) (cs : List Constraint) (fits : Fits N cs) (n : ℕ) (s : State) (inv : Inv N cs n s) where
  abbrev p : ℕ → ℕ
  p = at s.parent

  -- A stamped vertex has a parent.
  pub inv_links : N ≤ length s.parent → N ≤ length s.stamp → Links N s.parent s.stamp
  inv_links a b = record { parents = a; stamps = b; inside = inside }
    where
      inside : (v : ℕ) → v < N → 0 < at s.stamp v → p v < N
      inside v w h = go (inv.edges v w h)
        where
          go : Edge cs s v → p v < N
          go d = rw d.parent (fits.to d.by d.member)

  -- Whenever parents close a cycle, it is a negative cycle of the constraints.
  pub parents_negative : (u m : ℕ) → OnCycle N s.parent s.stamp u → Ring p u m
      → NegativeCycle cs (tab (λ k. iter p k u) m)
  unfolding iter
  parents_negative u m o r = record {
    by = λ k. (edge k).by;
    member = λ k h. (edge k).member;
    from = λ k h. (edge k).from ∙ sym (get_d_tab x m k (omega (arith, length_tab x m)));
    to = λ k h. sym (edge k).parent ∙ sym (get_d_tab x m (suc k) (omega (arith, length_tab x m)));
    close = λ k h. sym (edge k).parent ∙ round k (h ∙ length_tab x m) ∙ sym (get_d_tab x m 0 r.pos);
    distinct = λ i j h l. apart i j h (omega (arith, length_tab x m));
    negative = subst (λ (k : ℕ). sum loss k < sum gain k) (sym (length_tab x m)) heavy;
  }
    where
      x : ℕ → ℕ
      x k = iter p k u

      edge : (k : ℕ) → Edge cs s (x k)
      edge k = inv.edges (x k) (o.inside k) (o.stamped k)

      loss : ℕ → ℕ
      loss k = (edge k).by.loss

      gain : ℕ → ℕ
      gain k = (edge k).by.gain

      round : (k : ℕ) → suc k ≡ m → x (suc k) ≡ x 0
      round k h = ap x h ∙ r.back

      apart : (i j : ℕ) → i < j → j < m → at (tab x m) i ≢ at (tab x m) j
      apart i j h l e = r.apart i j h l (sym (get_d_tab x m i (omega arith)) ∙ e ∙ get_d_tab x m j l)

      heavy : sum loss m < sum gain m
      heavy =
          cycle_sum (λ k. at s.time (x k)) (λ k. at s.stamp (x k)) loss gain
          (λ k. rw (edge k).parent (edge k).weak)
          (λ k. rw (edge k).parent (edge k).fall)
          m
          r.pos
          (ap (at s.time) r.back)
          (ap (at s.stamp) r.back)

  -- ---- a vertex v with a stamp of the N-th pass, or a later one
  module _ (v : ℕ) (below : v < N) (late : N * length cs < at s.stamp v + length cs) where
    abbrev w : ℕ → ℕ
    w k = iter p k v

    record High (i : ℕ) : Type 0 where
      inside : w i < N
      stamp : N * length cs < at s.stamp (w i) + suc i * length cs

    -- each step goes back by at most one pass
    high : (i : ℕ) → i ≤ N → High i
    unfolding iter
    high zero h = record { inside = below; stamp = omega (arith, suc-mul 0 (length cs), zero-mul (length cs)) }
    high (suc i) h = go (high i (omega arith))
      where
        go : High i → High (suc i)
        go a = more (inv.edges (w i) a.inside stamped)
          where
            stamped : 0 < at s.stamp (w i)
            stamped = omega (arith, a.stamp, mul-le-mul_right (length cs) h)

            more : Edge cs s (w i) → High (suc i)
            more d = record {
              inside = rw d.parent (fits.to d.by d.member);
              stamp = rw d.parent (omega (arith, a.stamp, d.near, suc-mul (suc i) (length cs)));
            }

    early : (i : ℕ) → i < N → 0 < at s.stamp (w i)
    early i h = omega (arith, (high i (omega arith)).stamp, mul-le-mul_right (length cs) h)

    twice : Twice w N
    twice = pigeon N w (λ i h. (high i h).inside)

    abbrev again : (k : ℕ) → Among p v twice.j k
    again = among p v twice.i twice.j twice.less twice.same

    -- Its walk of parents stays on stamped vertices below N, however far it goes.
    pub late_stamped : (k : ℕ) → 0 < at s.stamp (w k)
    late_stamped k = rw (again k).same (early (again k).index (omega (arith, twice.last, (again k).below)))

    pub late_inside : (k : ℕ) → w k < N
    late_inside k =
        rw (again k).same (high (again k).index (omega (arith, twice.last, (again k).below))).inside

    -- N steps lead to a cycle.
    pub late_cycle : OnCycle N s.parent s.stamp (w N)
    late_cycle =
        on_walk N s.parent s.stamp v N (twice.j - twice.i) (omega (arith, twice.less))
        (iter_round p v twice.i twice.j N twice.less (omega (arith, twice.less, twice.last)) twice.same)
        late_inside
        late_stamped
