-- Difference constraints, their solutions, and negative cycles.
use Rattle.std.specs.Prelude.{◌≡◌, refl, ◌≢◌, get_or, length}
use Rattle.std.proofs.Common.{sym, ◌∙◌, not-suc-le-zero, le_of_suc-le-suc}
use mathlib.Core.List.{List, [], ◌∷◌, Memᴰ}
use mathlib.Core.List.Memᴰ
use Prim.Native.Nat.{ℕ, zero, suc, ◌+◌, ◌≤◌, ◌<◌}
use native.Mathlib.Omega.{arith}
use Rattle.std.proofs.Math.Decide.{dec_lt}
use Rattle.basics.specs.Numbers.{sum}
use Rattle.basics.specs.Places.{at}

-- A difference constraint (a demand, in parts): the time of `to` plus gain is at most the time of `from` plus loss.
pub record Constraint : Type 0 where
  pub from : ℕ
  pub to : ℕ
  pub gain : ℕ
  pub loss : ℕ

abbrev pub constraint : ℕ → ℕ → ℕ → ℕ → Constraint
constraint f t g l = record { from = f; to = t; gain = g; loss = l }

-- The assignment x of times to vertices satisfies c.
abbrev pub Holds : Constraint → (ℕ → ℕ) → Type 0
Holds c x = x c.to + c.gain ≤ x c.from + c.loss

-- x is a solution of the constraints of a list.
abbrev pub All : List Constraint → (ℕ → ℕ) → Type 0
All cs x = (c : Constraint) → Memᴰ c cs → Holds c x

-- The constraint at place k.
abbrev pub nth : List Constraint → ℕ → Constraint
nth cs k = get_or cs k (constraint 0 0 0 0)

-- What stands at a place is a member, and a list with a member is not empty.
pub nth_member : (cs : List Constraint) (k : ℕ) → k < length cs → Memᴰ (nth cs k) cs
nth_member [] k h = absurd (not-suc-le-zero h)
nth_member (c ∷ cs) zero h = Memᴰ.head refl
nth_member (c ∷ cs) (suc k) h = Memᴰ.tail (nth_member cs k (le_of_suc-le-suc h))

pub member_some : {c : Constraint} (cs : List Constraint) → Memᴰ c cs → 0 < length cs
member_some [] m = absurd (Memᴰ.not-nil m)
member_some (c ∷ cs) m = omega arith

-- Every vertex of a constraint is below N.
pub record Fits (N : ℕ) (cs : List Constraint) : Type 0 where
  pub from : (c : Constraint) → Memᴰ c cs → c.from < N
  pub to : (c : Constraint) → Memᴰ c cs → c.to < N

pub fits_tail : (N : ℕ) (c : Constraint) (cs : List Constraint) → Fits N (c ∷ cs) → Fits N cs
fits_tail N c cs f =
    record { from = λ d m. f.from d (Memᴰ.tail m); to = λ d m. f.to d (Memᴰ.tail m) }

-- A negative cycle (a loop): distinct vertices, a constraint from each to the next and from the last to the first,
-- and the losses sum up to less than the gains.
pub record NegativeCycle (cs : List Constraint) (vs : List ℕ) : Type 0 where
  pub by : ℕ → Constraint
  pub member : (k : ℕ) → k < length vs → Memᴰ (by k) cs
  pub from : (k : ℕ) → k < length vs → (by k).from ≡ at vs k
  pub to : (k : ℕ) → suc k < length vs → (by k).to ≡ at vs (suc k)
  pub close : (k : ℕ) → suc k ≡ length vs → (by k).to ≡ at vs 0
  pub distinct : (i j : ℕ) → i < j → j < length vs → at vs i ≢ at vs j
  pub negative : sum (λ k. (by k).loss) (length vs) < sum (λ k. (by k).gain) (length vs)

module _ (cs : List Constraint) (vs : List ℕ) (c : NegativeCycle cs vs) where
  abbrev losses : ℕ → ℕ
  losses = sum (λ k. (c.by k).loss)

  abbrev gains : ℕ → ℕ
  gains = sum (λ k. (c.by k).gain)

  -- A negative cycle has a vertex.
  pub cycle_some : 0 < length vs
  unfolding sum
  cycle_some = go (length vs) c.negative
    where
      go : (n : ℕ) → losses n < gains n → 0 < n
      go zero h = omega arith
      go (suc n) h = omega arith

  -- Where no constraint leads from a vertex to itself, a negative cycle has two vertices or more.
  pub cycle_two : ((d : Constraint) → Memᴰ d cs → d.from ≢ d.to) → 2 ≤ length vs
  cycle_two plain = go (dec_lt 1 (length vs))
    where
      go : Dec (1 < length vs) → 2 ≤ length vs
      go (yes h) = h
      go (no h) =
          let one : 1 ≡ length vs = omega (arith, cycle_some) in
          absurd (plain (c.by 0) (c.member 0 cycle_some) (c.from 0 cycle_some ∙ sym (c.close 0 one)))
