-- What the numbers of "rounds" and "plan" say of the answers behind them.
use Rattle.std.specs.Prelude.{◌≡◌, refl, ◌↔◌, ◌⊎◌, List, ℕ, ◌+◌, ◌*◌, ◌≤◌, length, take}
use Rattle.std.proofs.Math.Path.{sym, ap, subst}
use Rattle.std.proofs.Common.{◌∙◌, arith}
use Rattle.std.proofs.Math.Logic.{inl, inr}
use Rattle.std.proofs.Math.ListN.{get_or}
use Rattle.std.proofs.lemmas.List.{length-map}
use Rattle.table.specs.Step.{Step}
use Rattle.wire.specs.Listing.{listing, step_of}
use Rattle.format.proofs.Accepted.{accepted_counted}
use Rattle.runs.specs.declared.Start.{Start}
use Rattle.runs.specs.Demand.{Starts, starts_of}
use Rattle.runs.specs.Loop.{Loop}
use Rattle.runs.specs.Copies.{length_copies}
use Rattle.asking.specs.Rounds.{clocks_of, cycle_of, rounds_in, demands_in}
use Rattle.asking.specs.declared.Admission.{Admission}
use Rattle.asking.specs.declared.Admission.TheVariants as admission
use Rattle.rounds.specs.declared.Count.{Count}
use Rattle.rounds.specs.declared.Count.TheVariants as count
use Rattle.rounds.specs.Answer as rounds
use Rattle.plan.specs.declared.Outcome.{Outcome}
use Rattle.plan.specs.declared.Outcome.TheVariants as outcome
use Rattle.plan.specs.Answer as plan
use Rattle.numbers.specs.Numbers.{count_numbers, plan_numbers}
use Rattle.promises.specs.Told.{IsTable, PlanSays, NotRefused, AllowsRounds, GivesPlan, GivesLoop}
use Rattle.promises.specs.Rows.{number_some}

-- ---- rounds
pub count_allows : (r : Count) (k : ℕ) → rounds.Allows r k ↔ AllowsRounds (count_numbers r) k
count_allows (count.Finite c) k = ((λ h. (refl, inr (refl, h))), λ h. least h.1)
  where
    least : (◌≡◌ {A = ℕ} 0 1) ⊎ ((◌≡◌ {A = ℕ} 0 0) × (k ≤ c)) → k ≤ c
    least (inl e) = absurd (omega arith)
    least (inr e) = e.1
count_allows count.Endless k = ((λ h. (refl, inl refl)), λ h. tt)
count_allows (count.Refused f) k = ((λ h. absurd h), λ h. absurd (omega (arith, number_some f.fault, h.0)))

-- ---- plan
-- the answer is a plan
plan_is : (o : Outcome) (P : ℕ) → GivesPlan (plan_numbers o) P → o ≡ outcome.Found P
plan_is (outcome.Found Q) P h = ap outcome.Found h.2
plan_is (outcome.Loop m) P h = absurd (omega (arith, h.1))
plan_is (outcome.Refused f) P h = absurd (omega (arith, number_some f.fault, h.0))

-- a plan is given only where nothing is refused
planning : (q : Admission) (n : ℕ) (σ : List Step) (D : Starts) (r r' : plan.Rooms) (P : ℕ) → plan.Meets q n σ D r r' (outcome.Found P)
    → plan.Planning n σ D r r' P
planning (admission.Refused f) n σ D r r' P m = clash m.0
  where
    clash : {A : Type 0} → outcome.Found P ≡ outcome.Refused f → A
    clash e = let z : ◌≡◌ {A = ℕ} 0 1 = cc in absurd (omega arith)
planning admission.Accepted n σ D r r' P m = m

-- and so is a loop
looping : (q : Admission) (n : ℕ) (σ : List Step) (D : Starts) (r r' : plan.Rooms) (m : ℕ) → plan.Meets q n σ D r r' (outcome.Loop m)
    → plan.Refuted n σ D r r' m
looping (admission.Refused f) n σ D r r' m h = clash h.0
  where
    clash : {A : Type 0} → outcome.Loop m ≡ outcome.Refused f → A
    clash e = let z : ◌≡◌ {A = ℕ} 0 1 = cc in absurd (omega arith)
looping admission.Accepted n σ D r r' m h = h

-- ---- of a table with n clocks and L steps
module _ (bytes : List ℕ) (n L g : ℕ) (table : IsTable bytes n L g) where
  pub clocks_are : clocks_of bytes ≡ n
  clocks_are = sym (accepted_counted bytes table.small n L g table.accepted).clocks

  pub steps_are : (k : ℕ) → length (rounds_in bytes k) ≡ k * L
  steps_are k =
      length_copies (cycle_of bytes) k
      ∙ ap (λ m. k * m)
      (length-map (listing bytes).steps step_of ∙ sym (accepted_counted bytes table.small n L g table.accepted).steps)

  module _ (v : Start) (k : ℕ) (before after : plan.Rooms) (a : List ℕ) (s : PlanSays bytes v k before after a) where
    pub plan_given : (P : ℕ) → GivesPlan a P → plan.Planning (clocks_of bytes) (rounds_in bytes k) (starts_of v) before after P
    plan_given P h =
        planning (plan.asking_of bytes k before) _ _ _ before after P
        (subst (λ o. plan.Meets (plan.asking_of bytes k before) (clocks_of bytes) (rounds_in bytes k) (starts_of v) before after o)
        (plan_is s.outcome P (subst (λ l. GivesPlan l P) s.numbers h)) s.answers.answers)

    pub plan_parts : (P : ℕ) → GivesPlan a P → P ≡ k * L + n + 1
    plan_parts P h = omega (arith, (plan_given P h).parts, clocks_are, steps_are k)

    pub plan_or_loop : NotRefused a → GivesPlan a (k * L + n + 1) ⊎ GivesLoop bytes v k after a
    unfolding demands_in
    plan_or_loop h = go s.outcome s.numbers s.answers.answers
      where
        go : (o : Outcome) → a ≡ plan_numbers o
            → plan.Meets (plan.asking_of bytes k before) (clocks_of bytes) (rounds_in bytes k) (starts_of v) before after o
            → GivesPlan a (k * L + n + 1) ⊎ GivesLoop bytes v k after a
        go (outcome.Found P) e m =
            let p = (planning (plan.asking_of bytes k before) _ _ _ before after P m).parts in
            let same : P ≡ k * L + n + 1 = omega (arith, p, clocks_are, steps_are k) in
            inl (h, ap (λ l. get_or l 1 0) e, ap (λ l. get_or l 2 0) e ∙ same)
        go (outcome.Loop m) e w =
            let size : m ≡ get_or a 2 0 = sym (ap (λ l. get_or l 2 0) e) in
            let ring = (looping (plan.asking_of bytes k before) _ _ _ before after m w).loop in
            inr (h, ap (λ l. get_or l 1 0) e, subst (λ i. Loop (demands_in bytes v k) (take i after.loop)) size ring)
        go (outcome.Refused f) e m =
            let z = ap (λ l. get_or l 0 0) e in absurd (omega (arith, number_some f.fault, z, h))
