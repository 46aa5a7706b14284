-- The walks of a function on numbers, and the first return.
use Rattle.std.specs.Prelude.{◌≡◌, ◌⊎◌, ◌≢◌}
use Rattle.std.proofs.Math.Path.{refl, sym, ap}
use Rattle.std.proofs.Common.{◌∙◌, subst, inl, inr}
use Prim.Native.Nat.{ℕ, zero, suc, ◌+◌, ◌-◌, ◌≤◌, ◌<◌}
use Rattle.std.proofs.Math.Nat.{suc-add, zero-add}
use native.Mathlib.Omega.{arith}
use Rattle.std.proofs.Math.Decide.{dec_lt, ℕ_discrete}
use Rattle.basics.specs.Pigeon.{First, first, Twice, pigeon}

-- The walk of p from v: where k steps lead.
unfoldable pub iter : (ℕ → ℕ) → ℕ → ℕ → ℕ
iter p zero v = v
iter p (suc k) v = p (iter p k v)

-- The walk from u is back at u after m steps, and not before: u, p u, .. are m vertices of a cycle, each once.
pub record Ring (p : ℕ → ℕ) (u m : ℕ) : Type 0 where
  pub pos : 0 < m
  pub back : iter p m u ≡ u
  pub apart : (i j : ℕ) → i < j → j < m → iter p i u ≢ iter p j u

-- The k-th vertex of the walk is among the first j.
pub record Among (p : ℕ → ℕ) (v j k : ℕ) : Type 0 where
  pub index : ℕ
  pub below : index < j
  pub same : iter p k v ≡ iter p index v

-- ---- walks
module _ (p : ℕ → ℕ) where
  pub iter_zero : (v : ℕ) → iter p zero v ≡ v
  unfolding iter
  iter_zero v = refl

  pub iter_add : (a b v : ℕ) → iter p (a + b) v ≡ iter p a (iter p b v)
  unfolding iter
  iter_add zero b v = rw zero-add
  iter_add (suc a) b v = rw suc-add (ap p (iter_add a b v))

  -- From the i-th vertex on to the n-th.
  pub iter_later : (i n v : ℕ) → i ≤ n → iter p (n - i) (iter p i v) ≡ iter p n v
  iter_later i n v h = sym (iter_add (n - i) i v) ∙ ap (λ (k : ℕ). iter p k v) (omega arith)

  -- A walk that comes back to u comes back to each of its vertices.
  pub iter_back : (m k u : ℕ) → iter p m u ≡ u → iter p m (iter p k u) ≡ iter p k u
  iter_back m k u e =
      sym (iter_add m k u) ∙ ap (λ (n : ℕ). iter p n u) (omega arith) ∙ iter_add k m u ∙ ap (iter p k) e

  -- A walk that is at a vertex for the second time goes round from then on.
  pub iter_round : (v i j n : ℕ) → i < j → i ≤ n → iter p i v ≡ iter p j v → iter p (j - i) (iter p n v) ≡ iter p n v
  iter_round v i j n h l same =
      subst (λ (x : ℕ). iter p (j - i) x ≡ x) (iter_later i n v l)
      (iter_back (j - i) (n - i) (iter p i v) (iter_later i j v (omega arith) ∙ sym same))

  -- Once a walk is where it was, it stays among the vertices that it has passed.
  pub among : (v i j : ℕ) → i < j → iter p i v ≡ iter p j v → (k : ℕ) → Among p v j k
  unfolding iter
  among v i j h e zero = record { index = 0; below = omega arith; same = refl }
  among v i j h e (suc k) = go (among v i j h e k)
    where
      go : Among p v j k → Among p v j (suc k)
      go a = more (dec_lt (suc a.index) j)
        where
          more : Dec (suc a.index < j) → Among p v j (suc k)
          more (yes l) = record { index = suc a.index; below = l; same = ap p a.same }
          more (no l) =
              let q : suc a.index ≡ j = omega arith in
              record { index = i; below = h; same = ap p a.same ∙ ap (λ (n : ℕ). iter p n v) q ∙ sym e }

  -- Where there is a return there is a first one.
  pub ring : (u n : ℕ) → 0 < n → iter p n u ≡ u → (m : ℕ) × Ring p u m
  ring u n h e = go (first (λ k. iter p (suc k) u ≡ u) (λ k. ℕ_discrete (iter p (suc k) u) u) n)
    where
      go : First (λ k. iter p (suc k) u ≡ u) n ⊎ ((k : ℕ) → k < n → ¬ (iter p (suc k) u ≡ u))
          → (m : ℕ) × Ring p u m
      go (inl f) = (suc f.index, record { pos = omega arith; back = f.here; apart = apart })
        where
          apart : (i j : ℕ) → i < j → j < suc f.index → iter p i u ≢ iter p j u
          apart i j l r q =
              let d : ℕ = f.index - j in
              f.before (d + i) (omega arith)
              (ap (λ (n : ℕ). iter p n u) (omega arith)
              ∙ iter_add (suc d) i u
              ∙ ap (iter p (suc d)) q
              ∙ sym (iter_add (suc d) j u)
              ∙ ap (λ (n : ℕ). iter p n u) (omega arith)
              ∙ f.here)
      go (inr f) =
          let q : suc (n - 1) ≡ n = omega arith in
          absurd (f (n - 1) (omega arith) (ap (λ (k : ℕ). iter p k u) q ∙ e))

  -- A cycle of vertices below N has at most N of them.
  pub ring_few : (N u m : ℕ) → Ring p u m → ((k : ℕ) → iter p k u < N) → m ≤ N
  ring_few N u m r inside = go (dec_lt N m)
    where
      go : Dec (N < m) → m ≤ N
      go (no h) = omega arith
      go (yes h) = absurd (none (pigeon N (λ k. iter p k u) (λ i l. inside i)))
        where
          none : Twice (λ k. iter p k u) N → ⊥
          none t = r.apart t.i t.j t.less (omega (arith, t.last)) t.same

  -- A walk that is not back yet is before its first return, and one that is back for the first time is at it.
  pub ring_more : (u m k : ℕ) → Ring p u m → k ≤ m → iter p k u ≢ u → k < m
  ring_more u m k r h n = go (dec_lt k m)
    where
      go : Dec (k < m) → k < m
      go (yes l) = l
      go (no l) = let q : k ≡ m = omega arith in absurd (n (ap (λ (j : ℕ). iter p j u) q ∙ r.back))

  pub ring_end : (u m k : ℕ) → Ring p u m → 0 < k → k ≤ m → iter p k u ≡ u → m ≡ k
  unfolding iter
  ring_end u m k r pos h e = go (dec_lt k m)
    where
      go : Dec (k < m) → m ≡ k
      go (yes l) = absurd (r.apart 0 k pos l (sym e))
      go (no l) = omega arith
