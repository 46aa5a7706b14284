-- How a cycle of parents is found: each vertex in turn marks its walk, as far as nothing is marked.
use Rattle.std.specs.Prelude.{◌≡◌, refl, ◌⊎◌, ◌≢◌, List, length, set}
use Rattle.std.proofs.Common.{sym, ◌∙◌, subst, inl, inr, not-suc-le-zero, lt_irrefl, arith, get_or-set_other}
use Rattle.std.proofs.Math.Path.{ap}
use Prim.Native.Nat.{ℕ, zero, suc, ◌+◌, ◌-◌, ◌≤◌, ◌<◌}
use Rattle.std.proofs.Math.Numerals.{add-one}
use Rattle.std.proofs.Math.Decide.{dec_lt, ℕ_discrete}
use Rattle.std.proofs.Math.Seq.{get_or-set_same}
use borrow.Author.Count.{below_more}
use Rattle.basics.specs.Pigeon.{Twice, pigeon}
use Rattle.paths.specs.Walk.{iter, iter_zero, iter_add, iter_later, iter_back}
use Rattle.basics.specs.Places.{at}
use Rattle.paths.specs.Cycle.{Links, OnCycle, on_cycle, on_walk}
use Rattle.paths.specs.Search.{Marked, marked_none, marked_trans, marked_set, Unmarked, Met}

-- ---- the walk from v
-- y is one of the first k vertices of the walk from v.
abbrev pub Passed : List ℕ → ℕ → ℕ → ℕ → Type 0
Passed p v k y = (i : ℕ) × (i < k) × (y ≡ iter (at p) i v)

-- After k steps from v the walk is at x; its k vertices are distinct, stamped and marked v + 1, other marks are kept.
pub record Trail (n : ℕ) (p st : List ℕ) (v k x : ℕ) (marks marks' : List ℕ) : Type 0 where
  pub few : k ≤ n
  pub here : x ≡ iter (at p) k v
  pub inside : x < n
  pub marked : Marked n marks marks'
  pub stamped : (i : ℕ) → i < k → 0 < at st (iter (at p) i v)
  pub passed : (i : ℕ) → i < k → at marks' (iter (at p) i v) ≡ v + 1
  pub apart : (i j : ℕ) → i < j → j < k → iter (at p) i v ≢ iter (at p) j v
  pub each : (y : ℕ) → (at marks' y ≡ at marks y) ⊎ Passed p v k y

-- The walk from v has ended at x, at a marked vertex or at one without a stamp.
pub record Trailed (n : ℕ) (p st : List ℕ) (v : ℕ) (marks marks' : List ℕ) (x : ℕ) : Type 0 where
  pub steps : ℕ
  pub trail : Trail n p st v steps x marks marks'
  pub stop : (0 < at marks' x) ⊎ (at st x ≡ 0)

-- No step is made.
pub trail_none : (n : ℕ) (p st : List ℕ) (v : ℕ) (marks : List ℕ) → v < n → Trail n p st v 0 v marks marks
unfolding iter
trail_none n p st v marks h = record {
  few = omega arith;
  here = refl;
  inside = h;
  marked = marked_none n marks;
  stamped = λ i l. absurd (not-suc-le-zero l);
  passed = λ i l. absurd (not-suc-le-zero l);
  apart = λ i j h l. absurd (not-suc-le-zero l);
  each = λ y. inl refl;
}

module _ (n : ℕ) (p st : List ℕ) (links : Links n p st) (v k x : ℕ) (marks marks' : List ℕ)
    (t : Trail n p st v k x marks marks') where
  abbrev w : ℕ → ℕ
  w i = iter (at p) i v

  -- One step more, to the parent of an unmarked and stamped vertex.
  pub trail_more : n ≤ length marks → k < n → at marks' x ≡ 0 → 0 < at st x
      → Trail n p st v (k + 1) (at p x) marks (set marks' x (v + 1))
  unfolding iter
  trail_more room more clear stamp = record {
    few = omega arith;
    here = rw add-one (ap (at p) t.here);
    inside = links.inside x t.inside stamp;
    marked = marked_set n marks marks' x (v + 1) t.inside t.marked;
    stamped = below_more _ k t.stamped (omega (arith, ap (at st) t.here));
    passed = below_more _ k old (ap (at (set marks' x (v + 1))) (sym t.here) ∙ new);
    apart = λ i j h l. apart i j h (dec_lt j k) l;
    each = λ y. go y (ℕ_discrete y x) (t.each y);
  }
    where
      new : at (set marks' x (v + 1)) x ≡ v + 1
      new = get_or-set_same marks' x (v + 1) 0 (omega (arith, t.inside, t.marked.size))

      old : (i : ℕ) → i < k → at (set marks' x (v + 1)) (w i) ≡ v + 1
      old i l =
          get_or-set_other marks' x (w i) (v + 1) 0 (λ e. omega (arith, ap (at marks') e, t.passed i l)) ∙ t.passed i l

      apart : (i j : ℕ) → i < j → Dec (j < k) → j < k + 1 → w i ≢ w j
      apart i j h (yes b) l e = t.apart i j h b e
      apart i j h (no b) l e =
          let q : j ≡ k = omega arith in
          let same : w i ≡ x = e ∙ ap w q ∙ sym t.here in
          omega (arith, ap (at marks') same, t.passed i (omega arith))

      go : (y : ℕ) → Dec (y ≡ x) → (at marks' y ≡ at marks y) ⊎ Passed p v k y
          → (at (set marks' x (v + 1)) y ≡ at marks y) ⊎ Passed p v (k + 1) y
      go y (yes e) o = inr (k, omega arith, e ∙ t.here)
      go y (no e) (inl o) = inl (get_or-set_other marks' x y (v + 1) 0 e ∙ o)
      go y (no e) (inr o) = inr (o.0, omega (arith, o.1), o.2)

  module _ (start : v < n) where
    trail_inside : (i : ℕ) → i ≤ k → w i < n
    unfolding iter
    trail_inside zero h = start
    trail_inside (suc i) h = links.inside (w i) (trail_inside i (omega arith)) (t.stamped i h)

    -- After n steps the walk has met itself.
    full : n ≤ k → 0 < at marks' x
    full h = go (pigeon n w (λ i l. trail_inside i (omega arith)))
      where
        go : Twice w n → 0 < at marks' x
        go f = more (dec_lt f.j k)
          where
            more : Dec (f.j < k) → 0 < at marks' x
            more (yes l) = absurd (t.apart f.i f.j f.less l f.same)
            more (no l) =
                let q : f.j ≡ k = omega (arith, f.last, t.few) in
                let same : w f.i ≡ x = f.same ∙ ap w q ∙ sym t.here in
                omega (arith, ap (at marks') same, t.passed f.i (omega (arith, f.less)))

    pub trail_full : n ≤ k → Trailed n p st v marks marks' x
    trail_full h = record { steps = k; trail = t; stop = inl (full h) }

-- ---- the vertices in turn
-- The walks from the vertices below v are done, and met no cycle: no marked vertex lies on one.
pub record Swept (n : ℕ) (p st : List ℕ) (v : ℕ) (marks marks' : List ℕ) : Type 0 where
  pub few : v ≤ n
  pub marked : Marked n marks marks'
  pub low : (y : ℕ) → y < n → at marks' y ≤ v
  pub off : (y : ℕ) → y < n → 0 < at marks' y → ¬ OnCycle n p st y
  pub done : (y : ℕ) → y < v → ¬ OnCycle n p st y

-- No walk is done.
pub swept_none : (n : ℕ) (p st marks : List ℕ) → Unmarked n p st marks → Swept n p st 0 marks marks
swept_none n p st marks m = record {
  few = omega arith;
  marked = marked_none n marks;
  low = λ y h. omega (arith, m.clear y h);
  off = λ y h l o. omega (arith, m.clear y h);
  done = λ y h. absurd (not-suc-le-zero h);
}

-- All walks are done.
pub swept_all : (n : ℕ) (p st : List ℕ) (v : ℕ) (marks marks' : List ℕ) → Swept n p st v marks marks' → n ≤ v
    → Met n p st marks marks' n
unfolding iter
swept_all n p st v marks marks' s h = record {
  found = record {
    within = omega arith;
    cycle = λ l. absurd (lt_irrefl n l);
    none = λ q u o. s.done u (omega (arith, o.inside 0)) o;
  };
  marked = s.marked;
}

-- A cycle is one from each of its vertices.
on_later : (n : ℕ) (p st : List ℕ) (u j : ℕ) → OnCycle n p st u → OnCycle n p st (iter (at p) j u)
on_later n p st u j o =
    on_walk n p st u j o.turn o.pos (iter_back (at p) o.turn j u o.back) o.inside o.stamped

on_unstamped : (n : ℕ) (p st : List ℕ) (u : ℕ) → at st u ≡ 0 → ¬ OnCycle n p st u
on_unstamped n p st u e o = omega (arith, o.stamped 0, ap (at st) (iter_zero (at p) u))

module _ (n : ℕ) (p st : List ℕ) (links : Links n p st) (v x : ℕ) (marks marks' marks'' : List ℕ)
    (s : Swept n p st v marks marks') (more : v < n) (d : Trailed n p st v marks' marks'' x) where
  abbrev k : ℕ
  k = d.steps

  -- The walk from v has met a vertex of its own: it lies on a cycle.
  pub swept_met : at marks'' x ≡ v + 1 → Met n p st marks marks'' x
  swept_met e = record {
    found = record {
      within = omega (arith, d.trail.inside);
      cycle = λ h. go (d.trail.each x);
      none = λ q. absurd (lt_irrefl _ (subst (λ (y : ℕ). y < n) q d.trail.inside));
    };
    marked = marked_trans n marks marks' marks'' s.marked d.trail.marked;
  }
    where
      go : (at marks'' x ≡ at marks' x) ⊎ Passed p v k x → OnCycle n p st x
      go (inl o) = absurd (none (s.low x d.trail.inside))
        where
          none : at marks' x ≤ v → ⊥
          none l = omega arith
      go (inr o) = back o.0 o.1 o.2
        where
          back : (i : ℕ) → i < k → x ≡ iter (at p) i v → OnCycle n p st x
          back i l q =
              on_cycle n p st x (k - i) links d.trail.inside (omega arith)
              (from (k - i) ∙ ap (λ (j : ℕ). iter (at p) j v) (omega arith) ∙ sym d.trail.here)
              (λ j h. subst (λ (y : ℕ). 0 < at st y) (sym (from j)) (d.trail.stamped (j + i) (omega arith)))
            where
              from : (j : ℕ) → iter (at p) j x ≡ iter (at p) (j + i) v
              from j = ap (iter (at p) j) q ∙ sym (iter_add (at p) j i v)

  -- It has not: none of its vertices lies on a cycle.
  module _ (other : at marks'' x ≢ v + 1) where
    end_off : ¬ OnCycle n p st x
    end_off = go d.stop (d.trail.each x)
      where
        go : (0 < at marks'' x) ⊎ (at st x ≡ 0)
            → (at marks'' x ≡ at marks' x) ⊎ Passed p v k x → ¬ OnCycle n p st x
        go (inr e) o = on_unstamped n p st x e
        go (inl h) (inl o) = s.off x d.trail.inside (omega arith)
        go (inl h) (inr o) = absurd (other (ap (at marks'') o.2 ∙ d.trail.passed o.0 o.1))

    walk_off : (i : ℕ) → i ≤ k → ¬ OnCycle n p st (iter (at p) i v)
    walk_off i h o = end_off (subst (OnCycle n p st) ends (on_later n p st (iter (at p) i v) (k - i) o))
      where
        ends : iter (at p) (k - i) (iter (at p) i v) ≡ x
        ends = iter_later (at p) i k v h ∙ sym d.trail.here

    pub swept_more : Swept n p st (v + 1) marks marks''
    swept_more = record {
      few = omega arith;
      marked = marked_trans n marks marks' marks'' s.marked d.trail.marked;
      low = λ y h. low y h (d.trail.each y);
      off = λ y h l. off y h l (d.trail.each y);
      done = below_more _ v s.done start_off;
    }
      where
        start_off : ¬ OnCycle n p st v
        start_off = subst (λ (y : ℕ). ¬ OnCycle n p st y) (iter_zero (at p) v) (walk_off 0 (omega arith))

        low : (y : ℕ) → y < n → (at marks'' y ≡ at marks' y) ⊎ Passed p v k y
            → at marks'' y ≤ v + 1
        low y h (inl o) = omega (arith, s.low y h)
        low y h (inr o) = omega (arith, ap (at marks'') o.2, d.trail.passed o.0 o.1)

        off : (y : ℕ) → y < n → 0 < at marks'' y
            → (at marks'' y ≡ at marks' y) ⊎ Passed p v k y → ¬ OnCycle n p st y
        off y h l (inl o) = s.off y h (omega arith)
        off y h l (inr o) =
            subst (λ (z : ℕ). ¬ OnCycle n p st z) (sym o.2) (walk_off o.0 (omega (arith, o.1)))
