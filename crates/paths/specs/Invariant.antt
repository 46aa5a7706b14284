-- What the checks of a list of constraints in turn keep: the constraint that accounts for each raised vertex,
-- and when each constraint was checked last.
use Rattle.std.specs.Prelude.{◌≡◌, refl, ◌⊎◌, ◌≢◌, ℕ, suc, ◌+◌, ◌-◌, ◌%◌, ◌≤◌, ◌<◌, length}
use Rattle.std.proofs.Common.{sym, ap, ◌∙◌, inl, inr, ⊎_elim, mod-lt, not-suc-le-zero, arith}
use mathlib.Core.List.{List, Memᴰ}
use Rattle.std.proofs.Math.Nat.{add-mod_right}
use Rattle.std.proofs.Math.Decide.{dec_lt, ℕ_discrete}
use Rattle.basics.specs.Places.{at}
use Rattle.paths.specs.Constraint.{Constraint, Holds, nth, nth_member, member_some, Fits}
use Rattle.paths.specs.State.{State}
use Rattle.paths.specs.Relaxed.{Kept, Raised, Relaxed}

-- The constraint that accounts for the time of a raised vertex v. It leads to the parent of v; v has at most the time
-- that it asks for now; the parent has an earlier stamp, or v has less than that time; and one pass earlier at most.
pub record Edge (cs : List Constraint) (s : State) (v : ℕ) : Type 0 where
  pub by : Constraint
  pub member : Memᴰ by cs
  pub from : by.from ≡ v
  pub parent : at s.parent v ≡ by.to
  pub weak : at s.time v + by.loss ≤ at s.time by.to + by.gain
  pub fall : (at s.stamp by.to < at s.stamp v) ⊎ (at s.time v + by.loss < at s.time by.to + by.gain)
  pub near : at s.stamp v ≤ at s.stamp by.to + length cs

-- c holds, or its end was raised after the check number k.
abbrev pub Checked : State → ℕ → Constraint → Type 0
Checked s k c = Holds c (at s.time) ⊎ (k < at s.stamp c.to)

-- After n checks: check number k, from 0, was of the constraint k % length cs, with the stamp k + 1.
pub record Inv (N : ℕ) (cs : List Constraint) (n : ℕ) (s : State) : Type 0 where
  pub fresh : (v : ℕ) → v < N → at s.stamp v ≤ n
  pub edges : (v : ℕ) → v < N → 0 < at s.stamp v → Edge cs s v
  pub checked : (k : ℕ) → k < n → Checked s k (nth cs (k % length cs))

-- No check is done and no vertex is stamped.
pub inv_none : (N : ℕ) (cs : List Constraint) (s : State) → ((v : ℕ) → v < N → at s.stamp v ≡ 0) → Inv N cs 0 s
inv_none N cs s z = record {
  fresh = λ v w. omega (arith, z v w);
  edges = λ v w h. absurd (none v w h);
  checked = λ k h. absurd (not-suc-le-zero h);
}
  where
    none : (v : ℕ) → v < N → 0 < at s.stamp v → ⊥
    none v w h = omega (arith, z v w)

-- ---- one check more, the n-th, of the constraint c
module _ (N : ℕ) (cs : List Constraint) (fits : Fits N cs) (n : ℕ) (c : Constraint) (member : Memᴰ c cs)
    (turn : nth cs (n % length cs) ≡ c) (s s' : State) (inv : Inv N cs n s) where
  abbrev E : ℕ
  E = length cs

  abbrev a : ℕ
  a = c.from

  abbrev b : ℕ
  b = c.to

  -- c was checked one pass ago; if it does not hold now, then its end was raised since
  near_now : ¬ Holds c (at s.time) → suc n ≤ at s.stamp b + E
  near_now broken = go (dec_lt n E)
    where
      go : Dec (n < E) → suc n ≤ at s.stamp b + E
      go (yes h) = omega arith
      go (no h) = more (inv.checked k (omega (arith, split, member_some cs member)))
        where
          k : ℕ
          k = n - E

          split : k + E ≡ n
          split = omega arith

          same : nth cs (k % E) ≡ c
          same = ap (nth cs) (sym (add-mod_right k E) ∙ ap (λ (x : ℕ). x % E) split) ∙ turn

          more : Checked s k (nth cs (k % E)) → suc n ≤ at s.stamp b + E
          more (inl h) = absurd (broken (rw same at h))
          more (inr h) = let l : k < at s.stamp b = rw same at h in omega (arith, split)

  checked_now : (s'' : State) → ((k : ℕ) → k < n → Checked s'' k (nth cs (k % E))) → Checked s'' n c
      → (k : ℕ) → k < suc n → Checked s'' k (nth cs (k % E))
  checked_now s'' old new k h = go (dec_lt k n)
    where
      go : Dec (k < n) → Checked s'' k (nth cs (k % E))
      go (yes l) = old k l
      go (no l) = let p : k ≡ n = omega arith in rw (p, turn) new

  module _ (r : Raised c (suc n) s s') where
    time_up : (v : ℕ) → at s.time v ≤ at s'.time v
    time_up v = go (ℕ_discrete v a)
      where
        go : Dec (v ≡ a) → at s.time v ≤ at s'.time v
        go (yes p) = rw p (omega arith)
        go (no p) = omega (arith, (r.other v p).time)

    stamp_up : (v : ℕ) → v < N → at s.stamp v ≤ at s'.stamp v
    stamp_up v w = go (ℕ_discrete v a)
      where
        go : Dec (v ≡ a) → at s.stamp v ≤ at s'.stamp v
        go (yes p) = omega (arith, inv.fresh v w, ap (at s'.stamp) p)
        go (no p) = omega (arith, (r.other v p).stamp)

    edge_new : Edge cs s' a
    edge_new = go (ℕ_discrete b a)
      where
        go : Dec (b ≡ a) → Edge cs s' a
        go (yes p) = record {
          by = c;
          member = member;
          from = refl;
          parent = r.parent;
          weak = omega (arith, ap (at s.time) p, ap (at s'.time) p);
          fall = inr (omega (arith, ap (at s.time) p, ap (at s'.time) p));
          near = omega (arith, ap (at s'.stamp) p);
        }
        go (no p) =
            let end : Kept s s' b = r.other b p in
            record {
              by = c;
              member = member;
              from = refl;
              parent = r.parent;
              weak = omega arith;
              fall = inl (omega (arith, inv.fresh b (fits.to c member)));
              near = omega (arith, near_now (λ h. omega arith));
            }

    edge_old : (v : ℕ) → v ≢ a → Edge cs s v → Edge cs s' v
    edge_old v p d = go (ℕ_discrete d.by.to a)
      where
        kept : Kept s s' v
        kept = r.other v p

        u : ℕ
        u = d.by.to

        go : Dec (u ≡ a) → Edge cs s' v
        go (yes q) =
            let up : at s.time u < at s'.time u = rw q (omega arith) in
            record {
              by = d.by;
              member = d.member;
              from = d.from;
              parent = kept.parent ∙ d.parent;
              weak = omega (arith, d.weak, kept.time);
              fall = inr (omega (arith, d.weak, kept.time));
              near = omega (arith, d.near, kept.stamp, stamp_up u (fits.to d.by d.member));
            }
        go (no q) =
            let same : Kept s s' u = r.other u q in
            record {
              by = d.by;
              member = d.member;
              from = d.from;
              parent = kept.parent ∙ d.parent;
              weak = omega (arith, d.weak, kept.time);
              fall = ⊎_elim (λ h. inl (omega (arith, kept.stamp))) (λ h. inr (omega (arith, kept.time))) d.fall;
              near = omega (arith, d.near, kept.stamp);
            }

    checked_new : Checked s' n c
    checked_new = go (ℕ_discrete b a)
      where
        go : Dec (b ≡ a) → Checked s' n c
        go (yes p) = inr (omega (arith, ap (at s'.stamp) p))
        go (no p) = inl (omega (arith, (r.other b p).time))

    checked_old : (k : ℕ) (d : Constraint) → k < n → d.to < N → Checked s k d → Checked s' k d
    checked_old k d h w (inr l) = inr (omega (arith, stamp_up d.to w))
    checked_old k d h w (inl l) = go (ℕ_discrete d.to a)
      where
        go : Dec (d.to ≡ a) → Checked s' k d
        go (yes q) = inr (rw q (omega arith))
        go (no q) = inl (omega (arith, (r.other d.to q).time, time_up d.from))

    raise : Inv N cs (suc n) s'
    raise = record {
      fresh = fresh;
      edges = edges;
      checked = checked_now s' (λ k h. checked_old k (nth cs (k % E)) h (inside k) (inv.checked k h)) checked_new;
    }
      where
        inside : (k : ℕ) → (nth cs (k % E)).to < N
        inside k = fits.to _ (nth_member cs (k % E) (mod-lt k (member_some cs member)))

        fresh : (v : ℕ) → v < N → at s'.stamp v ≤ suc n
        fresh v w = go (ℕ_discrete v a)
          where
            go : Dec (v ≡ a) → at s'.stamp v ≤ suc n
            go (yes p) = rw p (omega arith)
            go (no p) = omega (arith, (r.other v p).stamp, inv.fresh v w)

        edges : (v : ℕ) → v < N → 0 < at s'.stamp v → Edge cs s' v
        edges v w h = go (ℕ_discrete v a)
          where
            go : Dec (v ≡ a) → Edge cs s' v
            go (yes p) = rw p edge_new
            go (no p) = edge_old v p (inv.edges v w (omega (arith, (r.other v p).stamp)))

  skip : Holds c (at s.time) → Inv N cs (suc n) s
  skip h = record {
    fresh = λ v w. omega (arith, inv.fresh v w);
    edges = inv.edges;
    checked = checked_now s inv.checked (inl h);
  }

  -- The invariant holds after the check.
  pub step : Relaxed c (suc n) s s' → Inv N cs (suc n) s'
  step (inl h) = rw h.1 (skip h.0)
  step (inr r) = raise r
