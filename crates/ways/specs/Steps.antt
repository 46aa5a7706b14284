-- The demands of the steps, and checks of some of them: so many at most, in any order.
use Rattle.std.specs.Prelude.{◌≡◌, true, false, ℕ, suc, ◌+◌, ◌%◌, ◌≤◌, ◌<◌}
use Rattle.std.proofs.Common.{ap, ◌∙◌, arith}
use mathlib.Core.List.Memᴰ
use mathlib.Core.List.{List, [], ◌∷◌, ◌++◌, Memᴰ}
use Rattle.runs.specs.declared.Demand.{Demand}
use Rattle.runs.specs.Demand.{plus}
use Rattle.sweeps.specs.Order.{side_of, forth_at, forth_of, upper_of}
use Rattle.sweeps.specs.Covered.{among_forth, among_upper}
use Rattle.paths.specs.State.{State}
use Rattle.checks.specs.Some.{Some, Onto, onto_none, onto_append, onto_wider}

-- forth and back
abbrev pub steps_of : List ℕ → List ℕ → List ℕ → ℕ → ℕ → ℕ → List Demand
steps_of low up far L n K = forth_of low far L n K 0 K ++ upper_of up far L n K K

module _ (low up far : List ℕ) (L n K : ℕ) where
  pub some_forth : Some (steps_of low up far L n K) (forth_of low far L n K 0 K)
  some_forth d m = Memᴰ.append_left (upper_of up far L n K K) m

  pub some_back : Some (steps_of low up far L n K) (upper_of up far L n K K)
  some_back d m = Memᴰ.append_right (forth_of low far L n K 0 K) m

-- ---- those of step i, which is step s of its round
module _ (keys far : List ℕ) (L n K i s : ℕ) (l : i < K) (e : s ≡ i % L) where
  forth_at_lem : Some (forth_of keys far L n K 0 K) (forth_at keys far L n K i)
  forth_at_lem d m = among_forth keys far L n K 0 K i d (omega arith) (omega arith) m

  -- the order demand
  pub some_order : (d : Demand) → d ≡ plus (i + 1) i 0 false → Some (forth_of keys far L n K 0 K) (d ∷ [])
  some_order d f x m = forth_at_lem x (Memᴰ.append_left _ (same m))
    where
      k : plus (i + 1) i 0 false ≡ plus (suc i) i 0 false
      k = ap (λ n. plus n i 0 false) (omega arith)

      same : Memᴰ x (d ∷ []) → Memᴰ x (plus (suc i) i 0 false ∷ [])
      same h = rw (f ∙ k) at h

  -- its guards from below, and from above
  pub some_lower : Some (forth_of keys far L n K 0 K) (side_of false keys far K s i 1 n)
  some_lower d m = forth_at_lem d (Memᴰ.append_right (plus (suc i) i 0 false ∷ []) (rw e at m))

  pub some_upper : Some (upper_of keys far L n K K) (side_of true keys far K s i 1 n)
  some_upper d m = among_upper keys far L n K K i d l (rw e at m)

-- ---- s' is s after at most m checks of demands of `all`, in any order, from the stamp q to the stamp r
pub record Went (all : List Demand) (m q : ℕ) (s s' : State) (r : ℕ) : Type 0 where
  pub onto : Onto all q s s' r
  pub few : r ≤ q + m

pub went_none : (all : List Demand) (m q : ℕ) (s : State) → Went all m q s s q
went_none all m q s = record { onto = onto_none all q s; few = omega arith }

pub went_then : (all : List Demand) (m n q : ℕ) (s s' s'' : State) (r t : ℕ) → Went all m q s s' r → Went all n r s' s'' t
    → Went all (m + n) q s s'' t
went_then all m n q s s' s'' r t a b =
    record { onto = onto_append all q s s' r a.onto s'' t b.onto; few = omega (arith, a.few, b.few) }

-- as checks of more demands, and as more of them
pub went_wider : (all more : List Demand) (m n q : ℕ) (s s' : State) (r : ℕ) → Some more all → m ≤ n → Went all m q s s' r → Went more n q s s' r
went_wider all more m n q s s' r h l w = record { onto = onto_wider all q s s' r w.onto more h; few = omega (arith, w.few) }
