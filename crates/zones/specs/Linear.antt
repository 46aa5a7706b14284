-- After the pivots from .. k - 1 no entry weighs more than k + 1 of the entries given: its way goes through a vertex at
-- most once.
use Rattle.std.specs.Prelude.{◌≡◌, refl, ◌⊎◌, ◌≢◌, ℕ, zero, suc, ◌+◌, ◌*◌, ◌≤◌, ◌<◌}
use Rattle.std.proofs.Common.{inl, inr, arith, mul-le-mul_right}
use Rattle.std.proofs.Math.Decide.{dec_lt, ℕ_discrete}
use Rattle.basics.specs.Choice.{choose, choose_yes, choose_no, choose_cases, not_below_zero}
use Rattle.zones.specs.Bound.{◌⊑◌, ◌⊕◌, weak_zero, dec⊑, ⊑_refl, ⊑_trans, ⊕-mono, ⊕-assoc, ⊕-comm, ⊕-left}
use Rattle.zones.specs.Matrix.{Matrix, Settled, Pivot, Pivots, start, next}
use Rattle.zones.specs.Floyd.{pivots_settle}
use Rattle.zones.specs.Weight.{Within, within_sum, within_same, within_wider}

-- Every entry among the first N vertices weighs at most g.
abbrev pub AllWithin : ℕ → ℕ → Matrix → Type 0
AllWithin N g M = (a b : ℕ) → a < N → b < N → Within g (M a b)

-- u 0 + .. + u (n - 1).
sum_to : ℕ → (ℕ → ℕ) → ℕ
sum_to zero u = 0
sum_to (suc n) u = sum_to n u + u n

-- The inner vertices of a way from a to b that weighs as much as the entry: `used` marks each of them once, all lie
-- among from .. k - 1, the entry can be split at each, and it weighs at most one D for each part of the way.
record Support (from k D : ℕ) (M : Matrix) (a b : ℕ) : Type 0 where
  used : ℕ → ℕ
  once : (c : ℕ) → used c ≤ 1
  above : (c : ℕ) → c < from → used c ≡ 0
  below : (c : ℕ) → k ≤ c → used c ≡ 0
  split : (c : ℕ) → 0 < used c → M a c ⊕ M c b ⊑ M a b
  near : Within (suc (sum_to k used) * D) (M a b)

sum_le : (n : ℕ) (u : ℕ → ℕ) → ((c : ℕ) → u c ≤ 1) → sum_to n u ≤ n
unfolding sum_to
sum_le zero u h = omega arith
sum_le (suc n) u h = omega (arith, sum_le n u h, h n)

sum_add : (n : ℕ) (u v w : ℕ → ℕ) → ((c : ℕ) → c < n → w c ≡ u c + v c) → sum_to n w ≡ sum_to n u + sum_to n v
unfolding sum_to
sum_add zero u v w h = omega arith
sum_add (suc n) u v w h = omega (arith, sum_add n u v w (λ c l. h c (omega arith)), h n (omega arith))

used_among : {from k D : ℕ} {M : Matrix} {a b : ℕ} (s : Support from k D M a b) (c : ℕ) → 0 < s.used c
    → (from ≤ c) × (c < k)
used_among {from} {k} s c h = (go (dec_lt c from), stop (dec_lt c k))
  where
    clash : s.used c ≡ 0 → ⊥
    clash e = omega arith

    go : Dec (c < from) → from ≤ c
    go (yes l) = absurd (clash (s.above c l))
    go (no l) = omega arith

    stop : Dec (c < k) → c < k
    stop (yes l) = l
    stop (no l) = absurd (clash (s.below c (omega arith)))

module _ (N D from p : ℕ) (M L : Matrix) (f : from ≤ p) (hp : p < N) (zp : weak_zero ⊑ M p p) (v : Pivot N p M L)
    (d : (c : ℕ) → from ≤ c → c < p → Settled N M c) (sup : (a b : ℕ) → a < N → b < N → Support from p D M a b)
    (a b : ℕ) (ha : a < N) (hb : b < N) where
  -- An entry that the pivot left as it was.
  same : M a b ⊑ L a b → Support from (suc p) D L a b
  unfolding sum_to
  same h = record {
    used = s.used;
    once = s.once;
    above = s.above;
    below = λ c l. s.below c (omega arith);
    split = split;
    near = near;
  }
    where
      s : Support from p D M a b
      s = sup a b ha hb

      split : (c : ℕ) → 0 < s.used c → L a c ⊕ L c b ⊑ L a b
      split c u =
          let l : c < N = omega (arith, used_among s c u) in
          ⊑_trans (⊕-mono (v.low a c ha l) (v.low c b l hb)) (⊑_trans (s.split c u) h)

      near : Within (suc (sum_to p s.used + s.used p) * D) (L a b)
      near =
          rw (s.below p (omega arith))
          (within_wider (suc (sum_to p s.used) * D) _ (L a b) (omega arith)
          (within_same _ (M a b) (L a b) h (v.low a b ha hb) s.near))

  -- An entry that the way through the pivot made tighter: the two ways have no vertex in common.
  joined : M a p ⊕ M p b ⊑ L a b → ¬ (M a b ⊑ M a p ⊕ M p b) → Support from (suc p) D L a b
  unfolding sum_to
  joined h n = record { used = used; once = once; above = above; below = below; split = split; near = near }
    where
      s : Support from p D M a p
      s = sup a p ha hp

      t : Support from p D M p b
      t = sup p b hp hb

      here : ℕ → ℕ
      here c = choose (ℕ_discrete c p) 1 0

      here_other : (c : ℕ) → c ≢ p → here c ≡ 0
      here_other c k = choose_no (ℕ_discrete c p) 1 0 k

      here_self : here p ≡ 1
      here_self = choose_yes (ℕ_discrete p p) 1 0 refl

      used : ℕ → ℕ
      used c = s.used c + t.used c + here c

      -- A vertex on both ways would make the way through p no shorter than the entry.
      clash : (c : ℕ) → 0 < s.used c → 0 < t.used c → M a b ⊑ M a p ⊕ M p b
      clash c x y =
          ⊑_trans (settled.tri a b ha hb)
          (⊑_trans (⊕-mono (⊑_refl (M a c)) (⊕-left (M c b) (M c p ⊕ M p c) round))
          (regroup (⊕-mono (s.split c x) (t.split c y))))
        where
          settled : Settled N M c
          settled = d c (used_among s c x).0 (used_among s c x).1

          round : weak_zero ⊑ M c p ⊕ M p c
          round = rw (⊕-comm (M c p) (M p c)) (⊑_trans zp (settled.tri p p hp hp))

          regroup : (M a c ⊕ M c p) ⊕ (M p c ⊕ M c b) ⊑ M a p ⊕ M p b
              → M a c ⊕ ((M c p ⊕ M p c) ⊕ M c b) ⊑ M a p ⊕ M p b
          regroup q = rw (⊕-assoc (M c p) (M p c) (M c b), ← ⊕-assoc (M a c) (M c p) (M p c ⊕ M c b)) q

      apart : (c : ℕ) → s.used c + t.used c ≤ 1
      apart c = go (dec_lt 0 (s.used c)) (dec_lt 0 (t.used c))
        where
          go : Dec (0 < s.used c) → Dec (0 < t.used c) → s.used c + t.used c ≤ 1
          go (yes x) (yes y) = absurd (n (clash c x y))
          go (yes x) (no y) = omega (arith, s.once c)
          go (no x) y = omega (arith, t.once c)

      once : (c : ℕ) → used c ≤ 1
      once c =
          choose_cases (λ w. s.used c + t.used c + w ≤ 1) (ℕ_discrete c p) 1 0
          (λ e. omega (arith, s.below c (omega arith), t.below c (omega arith))) (λ e. omega (arith, apart c))

      above : (c : ℕ) → c < from → used c ≡ 0
      above c l = omega (arith, s.above c l, t.above c l, here_other c (omega arith))

      below : (c : ℕ) → suc p ≤ c → used c ≡ 0
      below c l = omega (arith, s.below c (omega arith), t.below c (omega arith), here_other c (omega arith))

      split : (c : ℕ) → 0 < used c → L a c ⊕ L c b ⊑ L a b
      split c u = go (dec_lt 0 (s.used c)) (dec_lt 0 (t.used c)) (ℕ_discrete c p)
        where
          go : Dec (0 < s.used c) → Dec (0 < t.used c) → Dec (c ≡ p) → L a c ⊕ L c b ⊑ L a b
          go (yes x) y e =
              let l : c < N = omega (arith, used_among s c x) in
              ⊑_trans (⊕-mono (v.low a c ha l) (v.via c b l hb))
              (⊑_trans (rw (← ⊕-assoc (M a c) (M c p) (M p b)) (⊕-mono (s.split c x) (⊑_refl (M p b)))) h)
          go (no x) (yes y) e =
              let l : c < N = omega (arith, used_among t c y) in
              ⊑_trans (⊕-mono (v.via a c ha l) (v.low c b l hb))
              (⊑_trans (rw (⊕-assoc (M a p) (M p c) (M c b)) (⊕-mono (⊑_refl (M a p)) (t.split c y))) h)
          go (no x) (no y) (yes e) = rw e (⊑_trans (⊕-mono (v.low a p ha hp) (v.low p b hp hb)) h)
          go (no x) (no y) (no e) = absurd (nothing (here_other c e))
            where
              nothing : here c ≡ 0 → ⊥
              nothing z = omega arith

      total : sum_to p used + used p ≡ suc (sum_to p s.used + sum_to p t.used)
      total = omega (
        arith,
        sum_add p s.used t.used used (λ c l. omega (arith, here_other c (omega arith))),
        s.below p (omega arith),
        t.below p (omega arith),
        here_self,
      )

      near : Within (suc (sum_to p used + used p) * D) (L a b)
      near =
          rw total
          (within_wider (suc (sum_to p s.used) * D + suc (sum_to p t.used) * D) _ (L a b) (omega arith)
          (within_same _ (M a p ⊕ M p b) (L a b) h (v.via a b ha hb)
          (within_sum _ _ (M a p) (M p b) s.near t.near)))

  next_support : Support from (suc p) D L a b
  next_support = go (v.kept a b ha hb) (dec⊑ (M a b) (M a p ⊕ M p b))
    where
      go : (M a b ⊑ L a b) ⊎ (M a p ⊕ M p b ⊑ L a b) → Dec (M a b ⊑ M a p ⊕ M p b) → Support from (suc p) D L a b
      go (inl h) e = same h
      go (inr h) (yes e) = same (⊑_trans e h)
      go (inr h) (no n) = joined h n

support : {N from : ℕ} {M : Matrix} {k : ℕ} {L : Matrix} (D : ℕ) → AllWithin N D M → Pivots N from M k L → (a b : ℕ) → a < N → b < N
    → Support from k D L a b
support {M = M} D w (start f) a b ha hb = record {
  used = λ c. 0;
  once = λ c. omega arith;
  above = λ c h. refl;
  below = λ c h. refl;
  split = λ c h. absurd (not_below_zero 0 h);
  near = within_wider D _ (M a b) (omega arith) (w a b ha hb);
}
support {N} {from} D w (next {k} {K} {L} r f h z v) a b ha hb =
    next_support N D from k K L f h z v (pivots_settle r) (λ i j hi hj. support D w r i j hi hj) a b ha hb

-- From entries within D, the pivots from .. k - 1 make entries within (k + 1) * D.
pub linear : {N from : ℕ} {M : Matrix} {k : ℕ} {L : Matrix} (D : ℕ) → AllWithin N D M → Pivots N from M k L → AllWithin N (suc k * D) L
linear {k = k} {L = L} D w r a b ha hb =
    let s = support D w r a b ha hb in
    within_wider (suc (sum_to k s.used) * D) _ (L a b)
    (mul-le-mul_right D (omega (arith, sum_le k s.used s.once))) s.near
