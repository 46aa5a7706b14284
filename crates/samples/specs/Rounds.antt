-- Runs of numbers of rounds.
use Rattle.std.specs.Prelude.{◌≡◌, Bool, true, ◌&&◌, List, ℕ, zero, suc, ◌+◌, ◌≤◌, ◌<◌, ltb}
use Rattle.std.proofs.Common.{◌∙◌, ap, subst, arith, ltb-true}
use Rattle.table.specs.Step.{Step, Fairs}
use Rattle.runs.specs.Run.{copies}
use Rattle.runs.specs.Demand.{Starts, Exists, Places}
use Rattle.runs.specs.Start.{Upper, upper_places}
use Rattle.runs.specs.Copies.{copies_zero, copies_suc, fairs_copies}
use Rattle.runs.specs.ExistsSteps.{exists_walk}
use Rattle.runs.specs.Steps.{Config, Steps, stay, steps_same, steps_join, same_refl}
use Rattle.effects.specs.Begins.{fewer_steps}
use Rattle.effects.specs.Starts.{starts_exist}
use Rattle.samples.specs.Checks.{both, three, below, below_each}
use Rattle.samples.specs.Lines.{Line, line, value, onward, same, same_value, next_value}
use Rattle.samples.specs.Walks.{Lines, config, walks, end, walks_steps}
use Rattle.samples.specs.Begins.{begins, begins_is}

-- The steps may happen from the lines u on, in P parts, and D allows the start, with n clocks.
unfoldable pub runs : ℕ → Starts → Line → List Step → List Line → Lines → Bool
runs n D P σ ts u = ltb 0 P.base && begins n D P u && walks P σ ts u

-- A round leads from each round's configuration u to the next.
unfoldable pub repeats : ℕ → Starts → Line → List Step → List Line → Lines → Bool
repeats n D P τ ts u = runs n D P τ ts u && below 7 (λ a. same (end τ ts u a) (onward (u a)))

module _ (n : ℕ) (D : Starts) where
  runs_says : (P : Line) (σ : List Step) (ts : List Line) (u : Lines) → runs n D P σ ts u ≡ true
      → (ltb 0 P.base ≡ true) × (begins n D P u ≡ true) × (walks P σ ts u ≡ true)
  unfolding runs
  runs_says P σ ts u e = three e

  repeats_says : (P : Line) (τ : List Step) (ts : List Line) (u : Lines) → repeats n D P τ ts u ≡ true
      → (runs n D P τ ts u ≡ true) × (below 7 (λ a. same (end τ ts u a) (onward (u a))) ≡ true)
  unfolding repeats
  repeats_says P τ ts u e = both e

module _ (n : ℕ) (D : Starts) (b : n < 7) (places : Places n D) where
  -- Where steps lead on from round 0 of k, and D allows it, a run exists.
  begins_exists : (k : ℕ) (P : Line) (σ : List Step) (u : Lines) (v : Config) → 0 < k → Fairs σ
      → ltb 0 P.base ≡ true → begins n D P u ≡ true → Steps (value 0 k P) σ (config 0 k u) v → Exists n D σ
  begins_exists k P σ u v l f some start steps =
      let (old, allowed) = begins_is k l n D P u start in
      (exists_walk n D σ b f places).1 (record {
        parts = value 0 k P;
        positive = omega (arith, ltb-true 0 P.base some);
        first = config 0 k u;
        end = v;
        old = old;
        allowed = allowed;
        steps = steps;
      })

  -- Where steps may happen a run exists.
  pub runs_exists : (P : Line) (σ : List Step) (ts : List Line) (u : Lines) → Fairs σ
      → runs n D P σ ts u ≡ true → Exists n D σ
  runs_exists P σ ts u f e =
      let (some, start, steps) = runs_says n D P σ ts u e in
      begins_exists 1 P σ u (config 0 1 (end σ ts u)) (omega arith) f some start
      (walks_steps 0 1 (omega arith) P σ ts u steps)

  -- A run of k rounds begins with one of j.
  pub fewer_exists : (τ : List Step) (j k : ℕ) → j ≤ k → Fairs τ → Exists n D (copies τ k) → Exists n D (copies τ j)
  fewer_exists τ j k l f r =
      let w = (exists_walk n D (copies τ k) b (fairs_copies τ k f) places).0 r in
      let t = fewer_steps τ j k w.parts l w.steps in
      (exists_walk n D (copies τ j) b (fairs_copies τ j f) places).1 (record {
        parts = w.parts;
        positive = w.positive;
        first = w.first;
        end = t.0;
        old = w.old;
        allowed = w.allowed;
        steps = t.1;
      })

-- ---- A round that repeats
module _ (n : ℕ) (D : Starts) (p q : ℕ) (τ : List Step) (ts : List Line) (u : Lines) (f : Fairs τ)
    (e : repeats n D (line p 0 q) τ ts u ≡ true) where
  -- the parts for k rounds
  abbrev parts : ℕ → ℕ
  parts k = value 0 k (line p 0 q)

  -- round r of k
  round : (r k : ℕ) → r < k → Steps (parts k) τ (config r k u) (config (suc r) k u)
  round r k l =
      let alike : value r k (line p 0 q) ≡ parts k = omega arith in
      let (once, closed) = repeats_says n D (line p 0 q) τ ts u e in
      let (some, start, steps) = runs_says n D (line p 0 q) τ ts u once in
      subst (λ P. Steps P τ (config r k u) (config (suc r) k u)) alike
      (steps_same (value r k (line p 0 q)) τ f (same_refl (config r k u))
      (λ a m. same_value r k (end τ ts u a) (onward (u a)) (below_each 7 _ closed a m) ∙ next_value r k (u a))
      (walks_steps r k l (line p 0 q) τ ts u steps))

  -- the last j rounds of k, from round r on
  rest : (k j r : ℕ) → r + j ≡ k → Steps (parts k) (copies τ j) (config r k u) (config k k u)
  rest k zero r s =
      let t : r ≡ k = omega arith in
      rw (copies_zero τ) (stay (λ a l. ap (λ m. value m k (u a)) t))
  rest k (suc j) r s =
      rw (copies_suc τ j)
      (steps_join (parts k) τ (copies τ j) (fairs_copies τ j f)
      (round r k (omega arith))
      (rest k j (suc r) (omega arith)))

  -- Every number of rounds has a run.
  pub repeats_exists : n < 7 → Upper n D → (k : ℕ) → Exists n D (copies τ k)
  repeats_exists b up zero = rw (copies_zero τ) (starts_exist n D up)
  repeats_exists b up (suc k) =
      let (once, closed) = repeats_says n D (line p 0 q) τ ts u e in
      let (some, start, steps) = runs_says n D (line p 0 q) τ ts u once in
      begins_exists n D b (upper_places n D up) (suc k) (line p 0 q) (copies τ (suc k)) u (config (suc k) (suc k) u)
      (omega arith) (fairs_copies τ (suc k) f) some start
      (rest (suc k) (suc k) 0 (omega arith))
