-- Lists of numbers told by a function of the index, as a loop fills an array from the front.
use Rattle.std.specs.Prelude.{◌≡◌, refl, List, [], ◌∷◌, ◌++◌, ℕ, zero, suc, ◌+◌, ◌<◌, length, get_or, set}
use Rattle.std.proofs.Common.{sym, ◌∙◌, arith, not-suc-le-zero, length-append, ext_get_or, get_or-set_same, get_or-set_other, below_more}
use Rattle.std.proofs.Math.Decide.{dec_lt}
use Rattle.std.proofs.Math.ListN.{get_or-append}
use Rattle.std.proofs.lemmas.List.{get_or_at}

-- f 0, f 1, .., f (n - 1).
unfoldable pub tab : (ℕ → ℕ) → ℕ → List ℕ
tab f zero = []
tab f (suc n) = tab f n ++ (f n ∷ [])

pub length_tab : (f : ℕ → ℕ) (n : ℕ) → length (tab f n) ≡ n
unfolding tab
length_tab f zero = refl
length_tab f (suc n) = length-append (tab f n) (f n ∷ []) ∙ omega (arith, length_tab f n)

pub get_d_tab : (f : ℕ → ℕ) (n k : ℕ) → k < n → get_or (tab f n) k 0 ≡ f k
unfolding tab
get_d_tab f zero k h = absurd (not-suc-le-zero h)
get_d_tab f (suc n) k h = go (get_d_tab f n k) (dec_lt k n)
  where
    go : (k < n → get_or (tab f n) k 0 ≡ f k) → Dec (k < n) → get_or (tab f n ++ (f n ∷ [])) k 0 ≡ f k
    go below (yes l) = get_or-append (tab f n) (f n ∷ []) 0 k (omega (arith, length_tab f n)) ∙ below l
    go below (no l) =
        let e : k ≡ n = omega arith in
        rw e (get_or_at (tab f n) (f n) [] 0 n (length_tab f n))

-- A list of n numbers that are f 0, f 1, .. is this one.
pub is_tab : (n : ℕ) (f : ℕ → ℕ) (l : List ℕ) → length l ≡ n → ((k : ℕ) → k < n → get_or l k 0 ≡ f k) → l ≡ tab f n
is_tab n f l e h =
    ext_get_or 0 l (tab f n) (e ∙ sym (length_tab f n))
    (λ k lt. let b : k < n = omega arith in h k b ∙ sym (get_d_tab f n k b))

-- A list whose first k numbers are those of f, with f k stored at k.
pub tab_more : (f : ℕ → ℕ) (l : List ℕ) (k v : ℕ) → k < length l → v ≡ f k
    → ((i : ℕ) → i < k → get_or l i 0 ≡ f i) → (i : ℕ) → i < k + 1 → get_or (set l k v) i 0 ≡ f i
tab_more f l k v b e all =
    below_more (λ (i : ℕ). get_or (set l k v) i 0 ≡ f i) k
    (λ i lt. get_or-set_other l k i v 0 (omega arith) ∙ all i lt)
    (get_or-set_same l k v 0 b ∙ e)
