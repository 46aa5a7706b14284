-- A list of numbers that a loop goes through from the front and replaces one by one.
use Rattle.std.specs.Prelude.{◌≡◌, refl, cond, List, ℕ, ◌+◌, ◌≤◌, ◌<◌, ltb, length, get_or, set}
use Rattle.std.proofs.Common.{sym, ap, ◌∙◌, arith, length-set, get_or-set_same, get_or-set_other, lt-ltb, le-ltb}
use Rattle.std.proofs.Math.Decide.{ℕ_discrete, dec_lt}
use Rattle.basics.specs.Tab.{tab, is_tab}

-- what stands at a place is made of the place and of what stood there
module _ (f : ℕ → ℕ → ℕ) (was : List ℕ) where
  -- the first i are replaced
  pub record MappedTo (i : ℕ) (l : List ℕ) : Type 0 where
    pub size : length l ≡ length was
    pub done : (j : ℕ) → j < i → get_or l j 0 ≡ f j (get_or was j 0)
    pub rest : (j : ℕ) → i ≤ j → get_or l j 0 ≡ get_or was j 0

  -- none yet
  pub mapped_none : MappedTo 0 was
  mapped_none = record { size = refl; done = λ j h. absurd (omega arith); rest = λ j h. refl }

  -- one more
  pub mapped_more : (i v : ℕ) (l : List ℕ) → i < length was → MappedTo i l → v ≡ f i (get_or l i 0) → MappedTo (i + 1) (set l i v)
  mapped_more i v l h m e =
      record {
        size = length-set l i v ∙ m.size;
        done = λ j b. at j b (ℕ_discrete j i);
        rest = λ j b. get_or-set_other l i j v 0 (λ q. omega arith) ∙ m.rest j (omega arith);
      }
    where
      here : get_or (set l i v) i 0 ≡ f i (get_or was i 0)
      here = get_or-set_same l i v 0 (omega (arith, m.size)) ∙ e ∙ ap (f i) (m.rest i (omega arith))

      at : (j : ℕ) → j < i + 1 → Dec (j ≡ i) → get_or (set l i v) j 0 ≡ f j (get_or was j 0)
      at j b (yes q) = ap (λ n. get_or (set l i v) n 0) q ∙ here ∙ ap (λ n. f n (get_or was n 0)) (sym q)
      at j b (no q) = get_or-set_other l i j v 0 q ∙ m.done j (omega arith)

  -- the first i of n, and the others as they were
  pub mapped_first : (n i : ℕ) (l : List ℕ) → length was ≡ n → MappedTo i l → l ≡ tab (λ j. cond (ltb j i) (f j (get_or was j 0)) (get_or was j 0)) n
  mapped_first n i l size m = is_tab n _ l (m.size ∙ size) (λ j b. at j (dec_lt j i))
    where
      at : (j : ℕ) → Dec (j < i) → get_or l j 0 ≡ cond (ltb j i) (f j (get_or was j 0)) (get_or was j 0)
      at j (yes q) = m.done j q ∙ ap (λ b. cond b (f j (get_or was j 0)) (get_or was j 0)) (sym (lt-ltb j i q))
      at j (no q) = m.rest j (omega arith) ∙ ap (λ b. cond b (f j (get_or was j 0)) (get_or was j 0)) (sym (le-ltb j i (omega arith)))

  -- all of n
  pub mapped_all : (n i : ℕ) (l : List ℕ) → length was ≡ n → n ≤ i → MappedTo i l → l ≡ tab (λ j. f j (get_or was j 0)) n
  mapped_all n i l size h m = is_tab n _ l (m.size ∙ size) (λ j b. m.done j (omega arith))
