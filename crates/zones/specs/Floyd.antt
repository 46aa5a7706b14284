-- Floyd and Warshall: pivots in turn close a matrix. A pivot settles its own vertex and keeps settled what is, so that
-- vertices that are settled before need no pivot.
use Rattle.std.specs.Prelude.{◌≡◌, ◌⊎◌, ℕ, ◌≤◌, ◌<◌}
use Rattle.std.proofs.Common.{inl, inr, ⊎_elim, arith}
use Rattle.std.proofs.Math.Decide.{dec_lt}
use Rattle.basics.specs.Choice.{not_below_zero}
use Rattle.zones.specs.Bound.{◌⊑◌, ◌⊕◌, weak_zero, ⊑_refl, ⊑_trans, ⊕-mono, ⊕-assoc, ⊕-comm, ⊕-left, ⊕-right}
use Rattle.zones.specs.Matrix.{Matrix, Settled, OthersSettled, Closed, settled_closed, Pivot, Pivots, start, next}

module _ (N p : ℕ) (M L : Matrix) (hp : p < N) (zp : weak_zero ⊑ M p p) (v : Pivot N p M L) where
  -- The pivot's row and column do not change.
  column : (a : ℕ) → a < N → M a p ⊑ L a p
  column a ha = ⊎_elim (λ h. h) (λ h. ⊑_trans (⊕-right (M a p) (M p p) zp) h) (v.kept a p ha hp)

  row : (b : ℕ) → b < N → M p b ⊑ L p b
  row b hb = ⊎_elim (λ h. h) (λ h. ⊑_trans (⊕-left (M p b) (M p p) zp) h) (v.kept p b hp hb)

  -- So it is settled.
  pub pivot_settles : Settled N L p
  pivot_settles = record {
    tri = λ a b ha hb. ⊑_trans (v.via a b ha hb) (⊕-mono (column a ha) (row b hb));
    diag = ⊑_trans zp (column p hp);
  }

  module _ (c : ℕ) (hc : c < N) (s : Settled N M c) where
    -- The way from p by c back to p is not below zero.
    round : weak_zero ⊑ M p c ⊕ M c p
    round = ⊑_trans zp (s.tri p p hp hp)

    -- A way by c: each half is an old entry or goes through p.
    module _ (a b : ℕ) (ha : a < N) (hb : b < N) where
      neither : L a b ⊑ M a c ⊕ M c b
      neither = ⊑_trans (v.low a b ha hb) (s.tri a b ha hb)

      second : L a b ⊑ M a c ⊕ (M c p ⊕ M p b)
      second =
          rw (← ⊕-assoc (M a c) (M c p) (M p b))
          (⊑_trans (v.via a b ha hb) (⊕-mono (s.tri a p ha hp) (⊑_refl (M p b))))

      first : L a b ⊑ (M a p ⊕ M p c) ⊕ M c b
      first =
          rw (⊕-assoc (M a p) (M p c) (M c b))
          (⊑_trans (v.via a b ha hb) (⊕-mono (⊑_refl (M a p)) (s.tri p b hp hb)))

      -- Through p twice.
      both : L a b ⊑ (M a p ⊕ M p c) ⊕ (M c p ⊕ M p b)
      both =
          rw (⊕-assoc (M a p) (M p c) (M c p ⊕ M p b), ← ⊕-assoc (M p c) (M c p) (M p b))
          (⊑_trans (v.via a b ha hb) (⊕-mono (⊑_refl (M a p)) (⊕-left (M p b) _ round)))

      by_settled : L a b ⊑ L a c ⊕ L c b
      by_settled = go (v.kept a c ha hc) (v.kept c b hc hb)
        where
          go : (M a c ⊑ L a c) ⊎ (M a p ⊕ M p c ⊑ L a c) → (M c b ⊑ L c b) ⊎ (M c p ⊕ M p b ⊑ L c b)
              → L a b ⊑ L a c ⊕ L c b
          go (inl h) (inl k) = ⊑_trans neither (⊕-mono h k)
          go (inl h) (inr k) = ⊑_trans second (⊕-mono h k)
          go (inr h) (inl k) = ⊑_trans first (⊕-mono h k)
          go (inr h) (inr k) = ⊑_trans both (⊕-mono h k)

    -- What is settled stays so.
    pub pivot_keeps_settled : Settled N L c
    pivot_keeps_settled = record {
      tri = by_settled;
      diag = ⊎_elim (λ h. ⊑_trans s.diag h) (λ h. ⊑_trans (rw (⊕-comm (M c p) (M p c)) round) h) (v.kept c c hc hc);
    }

-- Pivots in turn keep what is settled,
pub pivots_keep_settled : {N from : ℕ} {M : Matrix} {k : ℕ} {L : Matrix} → Pivots N from M k L
    → (c : ℕ) → c < N → Settled N M c → Settled N L c
pivots_keep_settled (start f) c hc s = s
pivots_keep_settled {N} (next {k} {K} {L} r f h z v) c hc s =
    pivot_keeps_settled N k K L h z v c hc (pivots_keep_settled r c hc s)

-- settle their own vertices,
pub pivots_settle : {N from : ℕ} {M : Matrix} {k : ℕ} {L : Matrix} → Pivots N from M k L → (c : ℕ) → from ≤ c → c < k → Settled N L c
pivots_settle (start f) c l hc = absurd (not_below_zero 0 (omega arith))
pivots_settle {N} (next {k} {K} {L} r f h z v) c l hc = go (pivots_settle r c l) (dec_lt c k)
  where
    go : (c < k → Settled N K c) → Dec (c < k) → Settled N L c
    go before (yes q) = pivot_keeps_settled N k K L h z v c (omega arith) (before q)
    go before (no q) = let e : c ≡ k = omega arith in rw e (pivot_settles N k K L h z v)

-- and so close a matrix whose other vertices are settled.
pub pivots_closed : {N from : ℕ} {M : Matrix} {k : ℕ} {L : Matrix} → Pivots N from M k L → OthersSettled N from k M → Closed N L
pivots_closed {N} {from} {M} {k} {L} r others = settled_closed (λ c hc. go c hc (dec_lt c from) (dec_lt c k))
  where
    go : (c : ℕ) → c < N → Dec (c < from) → Dec (c < k) → Settled N L c
    go c hc (yes l) d = pivots_keep_settled r c hc (others c hc (inl l))
    go c hc (no l) (yes h) = pivots_settle r c (omega arith) h
    go c hc (no l) (no h) = pivots_keep_settled r c hc (others c hc (inr (omega arith)))
