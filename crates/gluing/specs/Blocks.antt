-- Blocks of w rows of w codes laid over cells: a cell keeps the tighter of its code and the one that comes to it.
use Rattle.std.specs.Prelude.{◌≡◌, List, length, set}
use Rattle.std.proofs.Math.Path.{refl}
use Rattle.std.proofs.Common.{◌∙◌, add-one, get_or-set_other}
use Prim.Native.Nat.{ℕ, zero, suc, ◌+◌, ◌*◌, ◌≤◌, ◌<◌, min}
use native.Mathlib.Omega.{arith}
use Rattle.std.proofs.Math.Decide.{dec_lt, ℕ_discrete}
use Rattle.std.proofs.Math.ListN.{get_or, length-set}
use Rattle.std.proofs.Math.Seq.{get_or-set_same}
use Rattle.basics.specs.Choice.{not_below_zero, min_cases}

-- The n codes of m from index `from` on, laid over the cells from index `to` on.
unfoldable pub strip_of : ℕ → ℕ → List ℕ → ℕ → List ℕ → List ℕ
strip_of to from m zero l = l
strip_of to from m (suc n) l =
    set (strip_of to from m n l) (to + n) (min (get_or (strip_of to from m n l) (to + n) 0) (get_or m (from + n) 0))

-- n rows of w, which are 14 codes apart and come to cells that are 21 apart.
unfoldable pub block_of : ℕ → ℕ → List ℕ → ℕ → ℕ → List ℕ → List ℕ
block_of to from m w zero l = l
block_of to from m w (suc n) l = strip_of (to + n * 21) (from + n * 14) m w (block_of to from m w n l)

-- ---- Codes and rows one by one, as a loop takes them

module _ (to from : ℕ) (m l : List ℕ) where
  pub strip_none : l ≡ strip_of to from m 0 l
  unfolding strip_of
  strip_none = refl

  pub strip_more : (n : ℕ) (z : List ℕ) (v : ℕ) → z ≡ strip_of to from m n l
      → v ≡ min (get_or z (to + n) 0) (get_or m (from + n) 0) → set z (to + n) v ≡ strip_of to from m (n + 1) l
  unfolding strip_of
  strip_more n z v e f = rw (add-one, f, e) refl

  pub block_none : (w : ℕ) → l ≡ block_of to from m w 0 l
  unfolding block_of
  block_none w = refl

  pub block_more : (w n : ℕ) (z y : List ℕ) → z ≡ block_of to from m w n l
      → y ≡ strip_of (to + n * 21) (from + n * 14) m w z → y ≡ block_of to from m w (n + 1) l
  unfolding block_of
  block_more w n z y e f = rw (add-one, f, e) refl

-- ---- Strips

module _ (to from : ℕ) (m l : List ℕ) where
  pub strip_length : (n : ℕ) → length (strip_of to from m n l) ≡ length l
  unfolding strip_of
  strip_length zero = refl
  strip_length (suc n) = length-set (strip_of to from m n l) _ _ ∙ strip_length n

  -- What a strip makes of the cell at k: it is laid over there, or not.
  strip_step : (n k : ℕ) → to + n < length l → (Q : ℕ → Type 0)
      → (k ≡ to + n → Q (min (get_or (strip_of to from m n l) k 0) (get_or m (from + n) 0)))
      → (¬ (k ≡ to + n) → Q (get_or (strip_of to from m n l) k 0)) → Q (get_or (strip_of to from m (suc n) l) k 0)
  unfolding strip_of
  strip_step n k h Q here other = go (ℕ_discrete k (to + n))
    where
      go : Dec (k ≡ to + n) → Q (get_or (strip_of to from m (suc n) l) k 0)
      go (yes e) =
          rw (
            e,
            get_or-set_same (strip_of to from m n l) (to + n)
                (min (get_or (strip_of to from m n l) (to + n) 0) (get_or m (from + n) 0)) 0 (omega (arith, strip_length n)),
          )
          (rw e at (here e))
      go (no e) = rw (get_or-set_other (strip_of to from m n l) (to + n) k _ 0 e) (other e)

  -- Cells only get tighter,
  strip_low : (n : ℕ) → to + n ≤ length l → (k : ℕ) → get_or (strip_of to from m n l) k 0 ≤ get_or l k 0
  strip_low zero h k = unfold strip_of in omega arith
  strip_low (suc n) h k = go (strip_low n (omega arith) k)
    where
      go : get_or (strip_of to from m n l) k 0 ≤ get_or l k 0 → get_or (strip_of to from m (suc n) l) k 0 ≤ get_or l k 0
      go b = strip_step n k (omega arith) (λ e. e ≤ get_or l k 0) (λ e. omega arith) (λ e. b)

  -- as tight as what comes to them,
  strip_at : (n : ℕ) → to + n ≤ length l → (c : ℕ) → c < n
      → get_or (strip_of to from m n l) (to + c) 0 ≤ get_or m (from + c) 0
  strip_at zero h c b = absurd (not_below_zero c b)
  strip_at (suc n) h c b = go (strip_at n (omega arith) c)
    where
      go : (c < n → get_or (strip_of to from m n l) (to + c) 0 ≤ get_or m (from + c) 0)
          → get_or (strip_of to from m (suc n) l) (to + c) 0 ≤ get_or m (from + c) 0
      go before =
          strip_step n (to + c) (omega arith) (λ e. e ≤ get_or m (from + c) 0)
          (λ e. let q : c ≡ n = omega arith in rw q (omega arith)) (λ e. before (omega arith))

  -- and are what they were or what comes to them.
  strip_cases : (n : ℕ) → to + n ≤ length l → (Q : ℕ → Type 0) (k : ℕ) → Q (get_or l k 0)
      → ((c : ℕ) → c < n → k ≡ to + c → Q (get_or m (from + c) 0)) → Q (get_or (strip_of to from m n l) k 0)
  strip_cases zero h Q k q p = unfold strip_of in q
  strip_cases (suc n) h Q k q p = go (strip_cases n (omega arith) Q k q (λ c b e. p c (omega arith) e))
    where
      go : Q (get_or (strip_of to from m n l) k 0) → Q (get_or (strip_of to from m (suc n) l) k 0)
      go b =
          strip_step n k (omega arith) Q (λ e. min_cases Q _ _ b (p n (omega arith) e)) (λ e. b)

-- ---- Blocks: the same of rows

module _ (to from w : ℕ) (m l : List ℕ) (full : length l ≡ 441) (fit : to + w * 22 ≤ 462) where
  pub block_length : (n : ℕ) → length (block_of to from m w n l) ≡ 441
  unfolding block_of
  block_length zero = full
  block_length (suc n) = strip_length (to + n * 21) (from + n * 14) m (block_of to from m w n l) w ∙ block_length n

  room : (n : ℕ) → n < w → to + n * 21 + w ≤ length (block_of to from m w n l)
  room n h = omega (arith, block_length n)

  pub block_low : (n : ℕ) → n ≤ w → (k : ℕ) → get_or (block_of to from m w n l) k 0 ≤ get_or l k 0
  unfolding block_of
  block_low zero h k = omega arith
  block_low (suc n) h k = omega (
    arith,
    block_low n (omega arith) k,
    strip_low (to + n * 21) (from + n * 14) m (block_of to from m w n l) w (room n (omega arith)) k,
  )

  pub block_at : (n : ℕ) → n ≤ w → (r c : ℕ) → r < n → c < w
      → get_or (block_of to from m w n l) (to + r * 21 + c) 0 ≤ get_or m (from + r * 14 + c) 0
  unfolding block_of
  block_at zero h r c hr hc = absurd (not_below_zero r hr)
  block_at (suc n) h r c hr hc = go (block_at n (omega arith) r c) (dec_lt r n)
    where
      go : (r < n → c < w → get_or (block_of to from m w n l) (to + r * 21 + c) 0 ≤ get_or m (from + r * 14 + c) 0)
          → Dec (r < n) → get_or (block_of to from m w (suc n) l) (to + r * 21 + c) 0 ≤ get_or m (from + r * 14 + c) 0
      go before (yes b) = omega (
        arith,
        before b hc,
        strip_low (to + n * 21) (from + n * 14) m (block_of to from m w n l) w (room n (omega arith)) (to + r * 21 + c),
      )
      go before (no b) =
          let q : r ≡ n = omega arith in
          rw q (strip_at (to + n * 21) (from + n * 14) m (block_of to from m w n l) w (room n (omega arith)) c hc)

  pub block_cases : (n : ℕ) → n ≤ w → (Q : ℕ → Type 0) (k : ℕ) → Q (get_or l k 0)
      → ((r c : ℕ) → r < w → c < w → k ≡ to + r * 21 + c → Q (get_or m (from + r * 14 + c) 0))
      → Q (get_or (block_of to from m w n l) k 0)
  unfolding block_of
  block_cases zero h Q k q p = q
  block_cases (suc n) h Q k q p =
      strip_cases (to + n * 21) (from + n * 14) m (block_of to from m w n l) w (room n (omega arith)) Q k
      (block_cases n (omega arith) Q k q p) (λ c b e. p n c (omega arith) b e)
