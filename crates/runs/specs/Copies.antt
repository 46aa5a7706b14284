-- Laws of rounds joined end to end.
use Rattle.std.specs.Prelude.{◌≡◌, refl, ℕ, zero, suc, ◌+◌, ◌*◌, ◌-◌, ◌%◌, ◌≤◌, ◌<◌, length, get_or}
use Rattle.std.proofs.Common.{ap, sym, ◌∙◌, ⊎_elim, arith, mod-eq_of_lt, length-append, get_or-append-add}
use mathlib.Core.List.Memᴰ
use mathlib.Core.List.{List, [], ◌∷◌, ◌++◌, Memᴰ, append_assoc}
use Rattle.std.proofs.Math.Decide.{dec_lt}
use Rattle.std.proofs.Math.Nat.{add-mod_left}
use Rattle.std.proofs.Math.ListN.{get_or-append}
use Rattle.table.specs.Step.{Step, Fairs}
use Rattle.runs.specs.Run.{copies, done}
use Rattle.runs.specs.Demand.{Starts, Allowed, Exists, Clocks}

pub copies_zero : (σ : List Step) → copies σ 0 ≡ []
unfolding copies
copies_zero σ = refl

pub copies_suc : (σ : List Step) (k : ℕ) → copies σ (suc k) ≡ σ ++ copies σ k
unfolding copies
copies_suc σ k = refl

-- no rounds run, from every allowed start
pub exists_none : (n : ℕ) (D : Starts) (σ : List Step) (P : ℕ) (s : ℕ → ℕ) → 0 < P → Allowed P D n s → Exists n D (copies σ 0)
unfolding copies
exists_none n D σ P s p a =
    record {
      parts = P;
      positive = p;
      moments = λ i. 0;
      starts = s;
      allowed = a;
      run = record { start = refl; goes = done };
    }

-- one round is the table
pub copies_one : (σ : List Step) → copies σ 1 ≡ σ
unfolding copies
copies_one [] = refl
copies_one (s ∷ σ) = ap (λ τ. s ∷ τ) (copies_one σ)

-- j rounds and then k rounds
pub copies_add : (σ : List Step) (j k : ℕ) → copies σ (j + k) ≡ copies σ j ++ copies σ k
unfolding copies
copies_add σ zero k = let e : 0 + k ≡ k = omega arith in rw e
copies_add σ (suc j) k =
    let e : suc j + k ≡ suc (j + k) = omega arith in
    rw (e, copies_add σ j k) (sym (append_assoc σ (copies σ j) (copies σ k)))

-- k rounds begin with j rounds
pub copies_split : (σ : List Step) (j k : ℕ) → j ≤ k → copies σ k ≡ copies σ j ++ copies σ (k - j)
copies_split σ j k l = let e : k ≡ j + (k - j) = omega arith in ap (copies σ) e ∙ copies_add σ j (k - j)

-- k rounds of L steps have k * L steps
pub length_copies : (σ : List Step) (k : ℕ) → length (copies σ k) ≡ k * length σ
unfolding copies
length_copies σ zero = omega arith
length_copies σ (suc k) = omega (arith, length-append σ (copies σ k), length_copies σ k)

-- step i of the rounds, from 0, is step i % L of the table, which has L steps
pub copies_at : (σ : List Step) (k i : ℕ) (d : Step) → i < k * length σ
    → get_or (copies σ k) i d ≡ get_or σ (i % length σ) d
unfolding copies
copies_at σ zero i d l = absurd (omega arith)
copies_at σ (suc k) i d l = go (copies_at σ k (i - length σ) d) (dec_lt i (length σ))
  where
    go : (i - length σ < k * length σ → get_or (copies σ k) (i - length σ) d ≡ get_or σ ((i - length σ) % length σ) d)
        → Dec (i < length σ) → get_or (σ ++ copies σ k) i d ≡ get_or σ (i % length σ) d
    go h (yes b) = rw (mod-eq_of_lt b) (get_or-append σ (copies σ k) d i b)
    go h (no b) =
        let e : length σ + (i - length σ) ≡ i = omega arith in
        ap (λ n. get_or (σ ++ copies σ k) n d) (sym e)
        ∙ get_or-append-add σ (copies σ k) (i - length σ) d
        ∙ h (omega arith)
        ∙ ap (λ n. get_or σ n d) (sym (add-mod_left (length σ) (i - length σ)) ∙ ap (λ n. n % length σ) e)

-- a step of the rounds is a step of the table
pub copies_member : (σ : List Step) (k : ℕ) {s : Step} → Memᴰ s (copies σ k) → Memᴰ s σ
unfolding copies
copies_member σ zero m = absurd (Memᴰ.not-nil m)
copies_member σ (suc k) m = ⊎_elim (λ h. h) (λ h. copies_member σ k h) (Memᴰ.append_cases σ m)

-- rounds of a fair table are fair, and on the same clocks
pub fairs_copies : (σ : List Step) (k : ℕ) → Fairs σ → Fairs (copies σ k)
fairs_copies σ k f s m = f s (copies_member σ k m)

pub clocks_copies : (n : ℕ) (σ : List Step) (k : ℕ) → Clocks n σ → Clocks n (copies σ k)
clocks_copies n σ k f s m = f s (copies_member σ k m)
