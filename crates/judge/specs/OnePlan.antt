-- Steps have one plan, and no loop beside it; and which loop is found is left free.
use Rattle.std.specs.Prelude.{◌≡◌, refl, List, [], ◌∷◌, ℕ, zero, suc, ◌-◌, ◌≤◌, ◌<◌, length, get_or, drop}
use Rattle.std.proofs.Common.{sym, ap, subst, ◌∙◌, arith}
use Rattle.basics.specs.Places.{KeptFrom}
use Rattle.table.specs.Step.{Step}
use Rattle.table.specs.declared.Refusal.{Refusal}
use Rattle.runs.specs.Run.{Run}
use Rattle.runs.specs.Demand.{Starts, Clocks, Places}
use Rattle.runs.specs.Refutes.{loop_refutes}
use Rattle.plan.specs.declared.Outcome.{Outcome}
use Rattle.plan.specs.declared.Outcome.TheVariants.{Found, Loop, Refused}
use Rattle.asking.specs.declared.Admission.{Admission}
use Rattle.asking.specs.declared.Admission.TheVariants as admission
use Rattle.plan.specs.Answer as plan

abbrev pub IsLoop : Outcome → Type 0
IsLoop (Found P) = ⊥
IsLoop (Loop m) = Unit {0}
IsLoop (Refused f) = ⊥

-- Two answers, and the three rooms after them: the same; or two loops, and then the rooms for a plan are the same.
abbrev pub Agree : Outcome → plan.Rooms → Outcome → plan.Rooms → Type 0
Agree (Found P) r b s = (Found P ≡ b) × (r ≡ s)
Agree (Loop m) r b s = IsLoop b × (r.times ≡ s.times) × (r.starts ≡ s.starts)
Agree (Refused f) r b s = (Refused f ≡ b) × (r ≡ s)

-- two lists with the same first n places and the same rest
same_list : (n : ℕ) (l l' : List ℕ) → length l ≡ length l' → ((i : ℕ) → i < n → get_or l i 0 ≡ get_or l' i 0) → drop n l ≡ drop n l'
    → l ≡ l'
same_list zero l l' e f d = d
same_list (suc n) [] [] e f d = refl
same_list (suc n) [] (y ∷ l') e f d = absurd (omega arith)
same_list (suc n) (x ∷ l) [] e f d = absurd (omega arith)
same_list (suc n) (x ∷ l) (y ∷ l') e f d =
    ap (λ z. z ∷ l) (f 0 (omega arith))
    ∙ ap (λ z. y ∷ z) (same_list n l l' (omega arith) (λ i h. f (suc i) (omega arith)) d)

-- the same for rooms that are kept from place n on
same_kept : (n : ℕ) (l a b : List ℕ) → KeptFrom n l a → KeptFrom n l b → ((i : ℕ) → i < n → get_or a i 0 ≡ get_or b i 0)
    → a ≡ b
same_kept n l a b p q f = same_list n a b (p.size ∙ sym q.size) f (p.rest ∙ sym q.rest)

-- two refusals agree
pub refused : (r : plan.Rooms) (f : Refusal) (x y : Outcome) (a b : plan.Rooms) → (x ≡ Refused f) × (a ≡ r) → (y ≡ Refused f) × (b ≡ r)
    → Agree x a y b
refused r f x y a b p q = subst (λ z. Agree z a y b) (sym p.0) (sym q.0, p.1 ∙ sym q.1)

module _ (n : ℕ) (σ : List Step) (D : Starts) (on : Clocks n σ) (places : Places n D) (r : plan.Rooms) where
  -- two plans have the same moments, and then the same starts
  no_later : (P : ℕ) (a b : plan.Rooms) → plan.Planning n σ D r a P → plan.Planning n σ D r b P → (i : ℕ) → i < length σ
      → get_or a.times i 0 ≤ get_or b.times i 0
  no_later P a b p q i h =
      p.planned.earliest (plan.moments_in b.times) (plan.starts_in b.starts) q.planned.run q.planned.allowed (suc i) h

  same_times : (P : ℕ) (a b : plan.Rooms) → plan.Planning n σ D r a P → plan.Planning n σ D r b P → a.times ≡ b.times
  same_times P a b p q =
      same_kept (length σ) r.times a.times b.times p.times q.times
      (λ i h. omega (arith, no_later P a b p q i h, no_later P b a q p i h))

  no_larger : (P : ℕ) (a b : plan.Rooms) → plan.Planning n σ D r a P → plan.Planning n σ D r b P → (i : ℕ) → i < n
      → get_or a.starts i 0 ≤ get_or b.starts i 0
  no_larger P a b p q i h =
      let place : suc i - 1 ≡ i = omega arith in
      subst (λ j. get_or a.starts j 0 ≤ get_or b.starts j 0) place
      (p.planned.smallest (plan.starts_in b.starts) run q.planned.allowed (suc i) (omega arith) h)
    where
      run : Run P σ (plan.moments_in a.times) (plan.starts_in b.starts)
      run = subst (λ l. Run P σ (plan.moments_in l) (plan.starts_in b.starts)) (sym (same_times P a b p q)) q.planned.run

  same_starts : (P : ℕ) (a b : plan.Rooms) → plan.Planning n σ D r a P → plan.Planning n σ D r b P → a.starts ≡ b.starts
  same_starts P a b p q =
      same_kept n r.starts a.starts b.starts p.starts q.starts
      (λ i h. omega (arith, no_larger P a b p q i h, no_larger P b a q p i h))

  same_rooms : (P : ℕ) (a b : plan.Rooms) → plan.Planning n σ D r a P → plan.Planning n σ D r b P → a ≡ b
  same_rooms P a b p q =
      ap (λ l. plan.rooms l a.starts a.loop) (same_times P a b p q)
      ∙ ap (λ l. plan.rooms b.times l a.loop) (same_starts P a b p q)
      ∙ ap (λ l. plan.rooms b.times b.starts l) (p.loop ∙ sym q.loop)

  -- where there is a plan, there is no loop
  no_loop : (P m : ℕ) (a b : plan.Rooms) → plan.Planning n σ D r a P → plan.Refuted n σ D r b m → ⊥
  no_loop P m a b p q =
      loop_refutes n σ D _ on places q.loop
      (record {
        parts = P;
        positive = omega (arith, p.parts);
        moments = plan.moments_in a.times;
        starts = plan.starts_in a.starts;
        allowed = p.planned.allowed;
        run = p.planned.run;
      })

  agree : (x y : Outcome) (a b : plan.Rooms) → plan.Answered n σ D r a x → plan.Answered n σ D r b y → Agree x a y b
  agree (Found P) (Found Q) a b p q =
      let e : Q ≡ P = q.parts ∙ sym p.parts in
      (ap Found (sym e), same_rooms P a b p (subst (λ c. plan.Planning n σ D r b c) e q))
  agree (Found P) (Loop m) a b p q = absurd (no_loop P m a b p q)
  agree (Found P) (Refused f) a b p q = absurd q
  agree (Loop m) (Found Q) a b p q = absurd (no_loop Q m b a q p)
  agree (Loop m) (Loop m') a b p q = (tt, p.times ∙ sym q.times, p.starts ∙ sym q.starts)
  agree (Loop m) (Refused f) a b p q = absurd q
  agree (Refused f) y a b p q = absurd p

  pub meets : (q : Admission) (x y : Outcome) (a b : plan.Rooms) → plan.Meets q n σ D r a x → plan.Meets q n σ D r b y
      → Agree x a y b
  meets (admission.Refused f) x y a b p q = refused r f x y a b p q
  meets admission.Accepted x y a b p q = agree x y a b p q
