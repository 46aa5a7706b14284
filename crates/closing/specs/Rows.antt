-- A pivot among the first N vertices, by rows and in place.
use Rattle.std.specs.Prelude.{◌≡◌, ◌⊎◌, ◌≢◌, List, ℕ, ◌+◌, ◌*◌, ◌-◌, ◌%◌, ◌^◌, ◌≤◌, ◌<◌, min, max, length, set}
use Rattle.std.proofs.Math.Path.{refl}
use Rattle.std.proofs.Common.{◌∙◌, inl, inr, ⊎_elim, arith, length-set, get_or-set_same, get_or-set_other, below_more}
use Rattle.std.proofs.Math.Decide.{dec_lt, ℕ_discrete}
use Rattle.basics.specs.Choice.{choose_yes, choose_cases, not_below_zero}
use Rattle.zones.specs.Codes.{BIAS, NONE, ZERO, sum_of, Coded, coded_top}
use Rattle.zones.specs.Cells.{cell, Ranged}

-- The cell from a to b, or the way by p where that is tighter.
abbrev pub via : ℕ → List ℕ → ℕ → ℕ → ℕ
via p l a b = min (cell l a b) (sum_of (cell l a p) (cell l p b))

-- z is l with the first n columns of row a pivoted.
pub record RowTo (N a p n : ℕ) (l z : List ℕ) : Type 0 where
  pub full : length z ≡ 441
  pub done : (b : ℕ) → b < n → cell z a b ≡ via p l a b
  pub rest : (i b : ℕ) → i < N → b < N → (i ≢ a) ⊎ (n ≤ b) → cell z i b ≡ cell l i b

-- z is l with its first n rows pivoted.
pub record RowsTo (N p n : ℕ) (l z : List ℕ) : Type 0 where
  pub full : length z ≡ 441
  pub done : (a b : ℕ) → a < n → b < N → cell z a b ≡ via p l a b
  pub rest : (a b : ℕ) → n ≤ a → a < N → b < N → cell z a b ≡ cell l a b

-- Row a may be pivoted at p: the sums asked for do not wrap.
pub record RowReady (N a p : ℕ) (l : List ℕ) : Type 0 where
  pub full : length l ≡ 441
  pub most : N ≤ 21
  pub row_fits : a < N
  pub pivot_fits : p < N
  pub top : (b : ℕ) → b < N → cell l a b ≤ NONE
  pub first : Coded (2 ^ 57) (cell l a p)
  pub second : (b : ℕ) → b < N → Coded (2 ^ 57) (cell l p b)

-- ---- One row

module _ {N a p : ℕ} {l : List ℕ} (q : RowReady N a p l) where
  -- None of its columns yet.
  pub row_none : RowTo N a p 0 l l
  row_none = record { full = q.full; done = λ b h. absurd (not_below_zero b h); rest = λ i b hi hb o. refl }

  -- Without a bound from a to p there is no way: the row stays as it is.
  pub row_same : cell l a p ≡ NONE → RowTo N a p N l l
  row_same e = record { full = q.full; done = done; rest = λ i b hi hb o. refl }
    where
      none_sum : (f : ℕ) → sum_of NONE f ≡ NONE
      none_sum f = unfold sum_of in choose_yes (ℕ_discrete NONE NONE) _ _ refl

      done : (b : ℕ) → b < N → cell l a b ≡ via p l a b
      done b h = rw (e, none_sum) (omega (arith, q.top b h))

  module _ (n : ℕ) (h : n < N) (z : List ℕ) (r : RowTo N a p n l z) where
    -- The row of the pivot is read where it is still that of the start.
    row_way : cell z p n ≡ cell l p n
    row_way = r.rest p n q.pivot_fits h (inr (omega arith))

    pub row_asks : Coded (2 ^ 57) (cell l a p) × Coded (2 ^ 57) (cell z p n)
    row_asks = (q.first, rw row_way (q.second n h))

    -- One column more.
    pub row_more : (v : ℕ) → v ≡ min (cell z a n) (sum_of (cell l a p) (cell z p n))
        → RowTo N a p (n + 1) l (set z (a * 21 + n) v)
    row_more v e = record { full = length-set z _ _ ∙ r.full; done = done; rest = rest }
      where
        new : v ≡ via p l a n
        new = rw (row_way, r.rest a n q.row_fits h (inr (omega arith))) at e

        done : (b : ℕ) → b < n + 1 → cell (set z (a * 21 + n) v) a b ≡ via p l a b
        done = below_more (λ b. cell (set z (a * 21 + n) v) a b ≡ via p l a b) n
            (λ b k. get_or-set_other z (a * 21 + n) (a * 21 + b) v 0 (omega arith) ∙ r.done b k)
            (get_or-set_same z (a * 21 + n) v 0 (omega (arith, r.full, q.most, q.row_fits)) ∙ new)

        rest : (i b : ℕ) → i < N → b < N → (i ≢ a) ⊎ (n + 1 ≤ b) → cell (set z (a * 21 + n) v) i b ≡ cell l i b
        rest i b hi hb o =
            get_or-set_other z (a * 21 + n) (i * 21 + b) v 0
            (⊎_elim (λ k. omega (arith, q.most)) (λ k. omega (arith, q.most)) o)
            ∙ r.rest i b hi hb (⊎_elim inl (λ k. inr (omega arith)) o)

-- ---- All rows

-- A way that goes on from one not below zero is no shorter.
sum_over : (d e : ℕ) → ZERO ≤ d → e ≤ NONE → e ≤ sum_of d e
unfolding sum_of
sum_over d e h t =
    choose_cases (λ s. e ≤ s) (ℕ_discrete d NONE) NONE _ (λ q. t)
    (λ q. choose_cases (λ s. e ≤ s) (ℕ_discrete e NONE) NONE _ (λ w. t)
    (λ w. num (d % 2) (e % 2) (omega arith) (omega arith)))
  where
    num : (i j : ℕ) → i ≤ 1 → j ≤ 1 → e ≤ d + e - 2 * BIAS - max i j
    num i j hi hj = omega arith

module _ {N : ℕ} (p : ℕ) (l : List ℕ) (most : N ≤ 21) (hp : p < N) (r : Ranged (2 ^ 57) N l) (zero : ZERO ≤ cell l p p)
  where
    pub rows_none : RowsTo N p 0 l l
    rows_none = record {
      full = r.full;
      done = λ a b h. absurd (not_below_zero a h);
      rest = λ a b h ha hb. refl;
    }

    low : (a b : ℕ) → a < N → b < N → cell l a b ≤ NONE
    low a b ha hb = coded_top (2 ^ 57) (cell l a b) (omega arith) (r.coded a b ha hb)

    module _ (n : ℕ) (z : List ℕ) (s : RowsTo N p n l z) where
      -- The row of the pivot is as it was.
      own : (b : ℕ) → b < N → cell z p b ≡ cell l p b
      own b h = go (dec_lt p n)
        where
          go : Dec (p < n) → cell z p b ≡ cell l p b
          go (yes q) =
              s.done p b q h ∙ omega (arith, sum_over (cell l p p) (cell l p b) zero (low p b hp h))
          go (no q) = s.rest p b (omega arith) hp h

      pub rows_ready : n < N → RowReady N n p z
      rows_ready h = record {
        full = s.full;
        most = most;
        row_fits = h;
        pivot_fits = hp;
        top = λ b k. rw (s.rest n b (omega arith) h k) (low n b h k);
        first = rw (s.rest n p (omega arith) h hp) (r.coded n p h hp);
        second = λ b k. rw (own b k) (r.coded p b hp k);
      }

      -- One row more.
      pub rows_more : n < N → (y : List ℕ) → RowTo N n p N z y → RowsTo N p (n + 1) l y
      rows_more h y t = record {
        full = t.full;
        done = done;
        rest = λ a b k ha hb. t.rest a b ha hb (inl (omega arith)) ∙ s.rest a b (omega arith) ha hb;
      }
        where
          done : (a b : ℕ) → a < n + 1 → b < N → cell y a b ≡ via p l a b
          done a b k hb = below_more (λ a. cell y a b ≡ via p l a b) n before here a k
            where
              before : (a : ℕ) → a < n → cell y a b ≡ via p l a b
              before a i = t.rest a b (omega arith) hb (inl (omega arith)) ∙ s.done a b i hb

              here : cell y n b ≡ via p l n b
              here =
                  t.done b hb
                  ∙ rw (s.rest n b (omega arith) h hb, s.rest n p (omega arith) h hp, own b hb)
