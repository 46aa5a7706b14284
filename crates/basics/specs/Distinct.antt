-- Lists in which no number stands twice.
use Rattle.std.specs.Prelude.{◌≢◌, List, [], ◌∷◌, ◌++◌, ℕ, zero, suc, ◌-◌, ◌≤◌, ◌<◌, length, get_or}
use Rattle.std.proofs.Common.{arith}
use Rattle.std.proofs.Math.Decide.{dec_le}
use Rattle.basics.specs.Pigeon.{Twice, pigeon}

abbrev pub Distinct : List ℕ → Type 0
Distinct xs = (i j : ℕ) → i < j → j < length xs → get_or xs i 0 ≢ get_or xs j 0

-- every number of a list has a property
abbrev pub Each : (ℕ → Type 0) → List ℕ → Type 0
Each P xs = (k : ℕ) → k < length xs → P (get_or xs k 0)

pub each_last : (P : ℕ → Type 0) (xs : List ℕ) (x : ℕ) → Each P xs → P x → Each P (xs ++ (x ∷ []))
each_last P [] x h p zero b = p
each_last P [] x h p (suc k) b = absurd (omega arith)
each_last P (y ∷ xs) x h p zero b = h 0 (omega arith)
each_last P (y ∷ xs) x h p (suc k) b = each_last P xs x (λ i l. h (suc i) (omega arith)) p k (omega arith)

-- without the first; and with one more at the end that is none of the others
pub distinct_rest : (x : ℕ) (xs : List ℕ) → Distinct (x ∷ xs) → Distinct xs
distinct_rest x xs d i j l b = d (suc i) (suc j) (omega arith) (omega arith)

pub distinct_last : (xs : List ℕ) (x : ℕ) → Distinct xs → Each (λ y. y ≢ x) xs → Distinct (xs ++ (x ∷ []))
distinct_last [] x d h i zero l b = absurd (omega arith)
distinct_last [] x d h i (suc j) l b = absurd (omega arith)
distinct_last (y ∷ xs) x d h i zero l b = absurd (omega arith)
distinct_last (y ∷ xs) x d h zero (suc j) l b =
    each_last (λ z. y ≢ z) xs x (λ k m. d 0 (suc k) (omega arith) (omega arith)) (h 0 (omega arith)) j (omega arith)
distinct_last (y ∷ xs) x d h (suc i) (suc j) l b =
    distinct_last xs x (distinct_rest y xs d) (λ k m. h (suc k) (omega arith)) i j (omega arith) (omega arith)

-- at most n numbers from 1 to n are distinct
pub distinct_few : (n : ℕ) (xs : List ℕ) → Distinct xs → Each (λ x. (1 ≤ x) × (x ≤ n)) xs → length xs ≤ n
distinct_few n xs d h = go (dec_le (length xs) n)
  where
    f : ℕ → ℕ
    f i = get_or xs i 0 - 1

    none : n < length xs → Twice f n → ⊥
    none l t =
        let a = h t.i (omega (arith, t.less, t.last)) in
        let b = h t.j (omega (arith, t.last)) in
        d t.i t.j t.less (omega (arith, t.last)) (omega (arith, t.same, a.0, b.0))

    go : Dec (length xs ≤ n) → length xs ≤ n
    go (yes l) = l
    go (no l) =
        let more : n < length xs = omega arith in
        absurd (none more (pigeon n f (λ i m. let b = h i (omega arith) in omega (arith, b.0, b.1))))
