-- Times, parents and stamps as lists; one check of a constraint, and the checks of a list of constraints in turn.
use Rattle.std.specs.Prelude.{◌≡◌, refl, Bool, true, false, cond, ◌||◌, List, [], ◌∷◌, ◌++◌, ℕ, zero, suc, ◌+◌, ◌*◌, ◌-◌, ◌≤◌, ◌<◌, ltb, length, set}
use Rattle.std.proofs.Common.{sym, ap, ◌∙◌, add-one, arith, ltb-true, ltb-false}
use Rattle.std.proofs.Math.Bool.{or_assoc}
use Rattle.basics.specs.Places.{at}
use Rattle.paths.specs.Constraint.{Constraint, Holds}

-- For each vertex its time, the vertex that its time came from, and the number of the check that raised it last, or 0.
pub record State : Type 0 where
  pub time : List ℕ
  pub parent : List ℕ
  pub stamp : List ℕ

abbrev pub state : List ℕ → List ℕ → List ℕ → State
state t p s = record { time = t; parent = p; stamp = s }

-- Whether the times t break c, so that a check raises the time of its vertex.
abbrev pub low_of : Constraint → List ℕ → Bool
low_of c t = ltb (at t c.from + c.loss) (at t c.to + c.gain)

-- The raise: the vertex of c gets the time that c asks for, its end as parent, and the stamp q.
abbrev pub raise_of : Constraint → ℕ → State → State
raise_of c q s =
    state
    (set s.time c.from (at s.time c.to + c.gain - c.loss))
    (set s.parent c.from c.to)
    (set s.stamp c.from q)

-- One check of c, with the stamp q: its vertex gets the least time that satisfies c, if its time is below.
unfoldable pub relax_of : Constraint → ℕ → State → State
relax_of c q s = cond (low_of c s.time) (raise_of c q s) s

-- A check of each constraint in turn, with the stamps q, q + 1, ..
unfoldable pub pass_of : List Constraint → ℕ → State → State
pass_of [] q s = s
pass_of (c ∷ cs) q s = pass_of cs (suc q) (relax_of c q s)

-- Whether one of these checks has raised a time.
unfoldable pub hits_of : List Constraint → ℕ → State → Bool
hits_of [] q s = false
hits_of (c ∷ cs) q s = low_of c s.time || hits_of cs (suc q) (relax_of c q s)

-- n passes over cs, the stamps numbered through from 1.
unfoldable pub passes_of : List Constraint → ℕ → State → State
passes_of cs zero s = s
passes_of cs (suc n) s = pass_of cs (n * length cs + 1) (passes_of cs n s)

-- The times of the vertices below N are at most x.
abbrev pub Below : ℕ → List ℕ → (ℕ → ℕ) → Type 0
Below N t x = (v : ℕ) → v < N → at t v ≤ x v

-- The test of a check says whether c holds.
pub low_broken : (c : Constraint) (t : List ℕ) → low_of c t ≡ true → ¬ Holds c (at t)
low_broken c t p h = omega (arith, ltb-true (at t c.from + c.loss) (at t c.to + c.gain) p)

pub low_holds : (c : Constraint) (t : List ℕ) → low_of c t ≡ false → Holds c (at t)
low_holds c t p = ltb-false (at t c.from + c.loss) (at t c.to + c.gain) p

-- A check of a broken constraint is a raise, and one of a constraint that holds changes nothing.
pub relax_hit : (c : Constraint) (q : ℕ) (s : State) → low_of c s.time ≡ true → relax_of c q s ≡ raise_of c q s
unfolding relax_of
relax_hit c q s p = rw p refl

pub relax_miss : (c : Constraint) (q : ℕ) (s : State) → low_of c s.time ≡ false → relax_of c q s ≡ s
unfolding relax_of
relax_miss c q s p = rw p refl

-- ---- no constraint, one list after the other, and one constraint more
pub pass_none : (q : ℕ) (s : State) → pass_of [] q s ≡ s
unfolding pass_of
pass_none q s = refl

pub hits_none : (q : ℕ) (s : State) → hits_of [] q s ≡ false
unfolding hits_of
hits_none q s = refl

pub pass_append : (xs ys : List Constraint) (q : ℕ) (s : State)
    → pass_of (xs ++ ys) q s ≡ pass_of ys (q + length xs) (pass_of xs q s)
unfolding pass_of
pass_append [] ys q s = ap (λ (k : ℕ). pass_of ys k s) (omega arith)
pass_append (c ∷ xs) ys q s =
    pass_append xs ys (suc q) (relax_of c q s)
    ∙ ap (λ (k : ℕ). pass_of ys k (pass_of xs (suc q) (relax_of c q s))) (omega arith)

pub hits_append : (xs ys : List Constraint) (q : ℕ) (s : State)
    → hits_of (xs ++ ys) q s ≡ (hits_of xs q s || hits_of ys (q + length xs) (pass_of xs q s))
unfolding pass_of hits_of
hits_append [] ys q s = ap (λ (k : ℕ). hits_of ys k s) (omega arith)
hits_append (c ∷ xs) ys q s =
    ap (λ (b : Bool). low_of c s.time || b)
    (hits_append xs ys (suc q) (relax_of c q s)
    ∙ ap (λ (k : ℕ). hits_of xs (suc q) (relax_of c q s) || hits_of ys k (pass_of xs (suc q) (relax_of c q s)))
    (omega arith))
    ∙ sym (or_assoc (low_of c s.time) _ _)

pub passes_none : (cs : List Constraint) (s : State) → passes_of cs 0 s ≡ s
unfolding passes_of
passes_none cs s = refl

pub passes_more : (cs : List Constraint) (n : ℕ) (s : State)
    → passes_of cs (n + 1) s ≡ pass_of cs (n * length cs + 1) (passes_of cs n s)
unfolding passes_of
passes_more cs n s = ap (λ (k : ℕ). passes_of cs k s) (add-one n)
