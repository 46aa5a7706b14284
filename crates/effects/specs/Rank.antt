-- Matrices whose left part lies within g ticks of zero, ranked: a number that falls with every entry made tighter.
use Rattle.std.specs.Prelude.{◌≡◌, ◌⊎◌, ℕ, zero, suc, ◌+◌, ◌*◌, ◌-◌, ◌≤◌, ◌<◌}
use Rattle.std.proofs.Common.{sym, subst, inl, inr, ⊎_elim, arith}
use Rattle.std.proofs.Math.Decide.{dec_lt}
use Rattle.basics.specs.Numbers.{sum}
use Rattle.effects.specs.Sums.{sum_mono, sum_less, sum_top, seek}
use Rattle.zones.specs.Bound.{Bound, none, some, ◌⊑◌, dec⊑}
use Rattle.zones.specs.Matrix.{Matrix}
use Rattle.zones.specs.Weight.{Within}
use Rattle.effects.specs.Settle.{Left}

-- The place of a bound among those within g ticks of zero.
rank : ℕ → Bound → ℕ
rank g none = 4 * g + 2
rank g (some e z) = e + 2 * g - 2 * z

rank_top : (g : ℕ) (a : Bound) → Within g a → rank g a ≤ 4 * g + 2
unfolding rank
rank_top g none w = omega arith
rank_top g (some e z) w = omega (arith, w.spans)

rank_mono : (g : ℕ) (a b : Bound) → Within g a → Within g b → a ⊑ b → rank g a ≤ rank g b
unfolding rank
rank_mono g none none v w h = omega arith
rank_mono g none (some f y) v w h = absurd h.le
rank_mono g (some e z) none v w h = omega (arith, v.spans)
rank_mono g (some e z) (some f y) v w h = omega (arith, v.spans, w.spans, h.le)

rank_less : (g : ℕ) (a b : Bound) → Within g a → Within g b → ¬ (b ⊑ a) → rank g a < rank g b
unfolding rank
rank_less g none b v w n = absurd (n (record { le = tt }))
rank_less g (some e z) none v w n = omega (arith, v.spans)
rank_less g (some e z) (some f y) v w n =
    let h : ¬ (f + 2 * z ≤ e + 2 * y) = λ l. n (record { le = l }) in omega (arith, v.spans, w.spans)

-- ---- The ranks of a left part, added up

-- The entries of the left part lie within g ticks of zero.
abbrev pub LeftWithin : ℕ → Matrix → Type 0
LeftWithin g M = (a b : ℕ) → a < 7 → b < 7 → Within g (M a b)

module _ (g : ℕ) where
  pub total : Matrix → ℕ
  total M = sum (λ a. sum (λ b. rank g (M a b)) 7) 7

  pub total_top : (M : Matrix) → LeftWithin g M → total M ≤ 49 * (4 * g + 2)
  unfolding total
  total_top M w = omega (arith, sum_top 7 (7 * (4 * g + 2)) (λ a. sum (λ b. rank g (M a b)) 7) row)
    where
      row : (a : ℕ) → a < 7 → sum (λ b. rank g (M a b)) 7 ≤ 7 * (4 * g + 2)
      row a ha = sum_top 7 (4 * g + 2) (λ b. rank g (M a b)) (λ b hb. rank_top g (M a b) (w a b ha hb))

  module _ (M L : Matrix) (w : LeftWithin g M) (x : LeftWithin g L) (h : Left L M) where
    mono : (a b : ℕ) → a < 7 → b < 7 → rank g (L a b) ≤ rank g (M a b)
    mono a b ha hb = rank_mono g (L a b) (M a b) (x a b ha hb) (w a b ha hb) (h a b ha hb)

    less : (a b : ℕ) → a < 7 → b < 7 → ¬ (M a b ⊑ L a b) → total L < total M
    unfolding total
    less a b ha hb n =
        sum_less 7 _ _ (λ i hi. sum_mono 7 _ _ (λ j hj. mono i j hi hj)) a ha
        (sum_less 7 _ _ (λ j hj. mono a j ha hj) b hb
        (rank_less g (L a b) (M a b) (x a b ha hb) (w a b ha hb) n))

    -- A left part as tight as another is no tighter, or the sum of its ranks is less.
    pub same_or_less : Left M L ⊎ (total L < total M)
    same_or_less =
        ⊎_elim (λ k. inl (λ a b ha hb. k a ha b hb)) (λ (a, ha, l). inr l)
        (seek 7 (λ a. (b : ℕ) → b < 7 → M a b ⊑ L a b) (λ a. total L < total M) (λ a ha.
        ⊎_elim inl (λ (b, hb, l). inr l)
        (seek 7 (λ b. M a b ⊑ L a b) (λ b. total L < total M) (λ b hb. at a b ha hb (dec⊑ (M a b) (L a b))))))
      where
        at : (a b : ℕ) → a < 7 → b < 7 → Dec (M a b ⊑ L a b) → (M a b ⊑ L a b) ⊎ (total L < total M)
        at a b ha hb (yes k) = inl k
        at a b ha hb (no n) = inr (less a b ha hb n)
