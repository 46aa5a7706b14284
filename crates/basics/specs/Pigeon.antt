-- The first number with a property, and the pigeonhole.
use Rattle.std.specs.Prelude.{◌≡◌, ◌⊎◌, ◌≢◌, ℕ, zero, suc, ◌-◌, ◌≤◌, ◌<◌, min}
use Rattle.std.proofs.Common.{inl, inr, arith}
use Rattle.std.proofs.Math.Decide.{dec_lt, ℕ_discrete}

-- the first k below n with P k
pub record First (P : ℕ → Type 0) (n : ℕ) : Type 0 where
  pub index : ℕ
  pub below : index < n
  pub here : P index
  pub before : (k : ℕ) → k < index → ¬ P k

pub first : (P : ℕ → Type 0) → ((k : ℕ) → Dec (P k)) → (n : ℕ) → First P n ⊎ ((k : ℕ) → k < n → ¬ P k)
first P d zero = inr (λ k h p. omega arith)
first P d (suc n) = go (first P d n) (d n)
  where
    go : First P n ⊎ ((k : ℕ) → k < n → ¬ P k) → Dec (P n) → First P (suc n) ⊎ ((k : ℕ) → k < suc n → ¬ P k)
    go (inl f) e = inl (record { index = f.index; below = omega arith; here = f.here; before = f.before })
    go (inr f) (yes p) = inl (record { index = n; below = omega arith; here = p; before = f })
    go (inr f) (no p) = inr (λ k h. more k (dec_lt k n) h)
      where
        more : (k : ℕ) → Dec (k < n) → k < suc n → ¬ P k
        more k (yes l) h = f k l
        more k (no l) h = let e : k ≡ n = omega arith in rw e p

-- Two of f 0, .., f N are equal.
pub record Twice (f : ℕ → ℕ) (N : ℕ) : Type 0 where
  pub i : ℕ
  pub j : ℕ
  pub less : i < j
  pub last : j ≤ N
  pub same : f i ≡ f j

-- x among the numbers other than y: those above y moved down by one
out : ℕ → ℕ → ℕ
out y x = x - min 1 (x - y)

out_low : (y x : ℕ) → x < y → out y x ≡ x
unfolding out
out_low y x h = omega arith

out_high : (y x : ℕ) → y < x → suc (out y x) ≡ x
unfolding out
out_high y x h = omega arith

out_lt : (y x n : ℕ) → x ≢ y → x < suc n → y < suc n → out y x < n
unfolding out
out_lt y x n h a b = omega arith

out_inj : (y x z : ℕ) → x ≢ y → z ≢ y → out y x ≡ out y z → x ≡ z
out_inj y x z h k e = go (dec_lt x y) (dec_lt z y)
  where
    go : Dec (x < y) → Dec (z < y) → x ≡ z
    go (yes a) (yes b) = omega (arith, out_low y x a, out_low y z b)
    go (yes a) (no b) = let l : y < z = omega arith in omega (arith, out_low y x a, out_high y z l)
    go (no a) (yes b) = let l : y < x = omega arith in omega (arith, out_high y x l, out_low y z b)
    go (no a) (no b) =
        let l : y < x = omega arith in
        let r : y < z = omega arith in
        omega (arith, out_high y x l, out_high y z r)

-- Of N + 1 numbers below N two are equal.
pub pigeon : (N : ℕ) (f : ℕ → ℕ) → ((i : ℕ) → i ≤ N → f i < N) → Twice f N
pigeon zero f b = absurd (none (b 0 (omega arith)))
  where
    none : f 0 < 0 → ⊥
    none h = omega arith
pigeon (suc n) f b = go (pigeon n) (first (λ i. f i ≡ f (suc n)) (λ i. ℕ_discrete (f i) (f (suc n))) (suc n))
  where
    y : ℕ
    y = f (suc n)

    go : ((g : ℕ → ℕ) → ((i : ℕ) → i ≤ n → g i < n) → Twice g n)
        → First (λ i. f i ≡ y) (suc n) ⊎ ((i : ℕ) → i < suc n → ¬ (f i ≡ y)) → Twice f (suc n)
    go ih (inl r) = record { i = r.index; j = suc n; less = r.below; last = omega arith; same = r.here }
    go ih (inr h) =
        more
        (ih (λ i. out y (f i))
        (λ i l. out_lt y (f i) n (h i (omega arith)) (b i (omega arith)) (b (suc n) (omega arith))))
      where
        more : Twice (λ i. out y (f i)) n → Twice f (suc n)
        more t = record {
          i = t.i;
          j = t.j;
          less = t.less;
          last = omega arith;
          same = out_inj y (f t.i) (f t.j) (h t.i (omega arith)) (h t.j (omega arith)) t.same;
        }
