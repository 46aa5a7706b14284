-- The rooms after the question "plan for k", put to bytes, are determined; only which loop is written is left free.
use Rattle.std.specs.Prelude.{◌≡◌, refl, ◌⊎◌, Bool, true, false, List, ℕ}
use Rattle.std.proofs.Common.{sym, ap, subst, ◌∙◌, inl, inr}
use Rattle.table.specs.Step.{Step}
use Rattle.table.specs.declared.Refusal.{Refusal}
use Rattle.table.specs.declared.Read.{Read}
use Rattle.table.specs.declared.Read.TheVariants as read
use Rattle.wire.specs.Reading.{read_of}
use Rattle.wire.specs.Listing.{listing, cycle}
use Rattle.wire.specs.Records.{Bytes}
use Rattle.asking.specs.Rounds.{guards_on}
use Rattle.runs.specs.Run.{copies}
use Rattle.runs.specs.declared.Start.{Start}
use Rattle.runs.specs.Demand.{starts_of}
use Rattle.runs.specs.Start.{upper_places, start_upper}
use Rattle.plan.specs.declared.Outcome.{Outcome}
use Rattle.plan.specs.declared.Outcome.TheVariants.{Found, Loop, Refused}
use Rattle.asking.specs.declared.Admission.TheVariants as admission
use Rattle.plan.specs.Answer as plan
use Rattle.numbers.specs.Numbers.{plan_numbers}
use Rattle.answers.specs.Answered.{answered}
use Rattle.judge.specs.Room.{PlanTold}
use Rattle.judge.specs.OnePlan.{Agree, refused, meets}

-- what the reader refuses
asking_refused : (bytes : List ℕ) (k : ℕ) (r : plan.Rooms) (f : Refusal) → read_of bytes ≡ read.Refused f
    → plan.asking_of bytes k r ≡ admission.Refused f
unfolding plan.asking_of
asking_refused bytes k r f e =
    ap (λ o. elim o [ read.Counted n L g ↦ plan.admit_rooms n L k r | read.Refused f ↦ admission.Refused f ]) e

-- Two answers to the question "plan for k" agree.
pub plan_answers_agree : (bytes : List ℕ) → Bytes bytes → (v : Start) (k : ℕ) (r a b : plan.Rooms) (x y : Outcome)
    → plan.Answers bytes v k r a x → plan.Answers bytes v k r b y → Agree x a y b
plan_answers_agree bytes small v k r a b x y p q = go (read_of bytes) refl
  where
    n : ℕ
    n = (listing bytes).clocks

    σ : List Step
    σ = copies (cycle (listing bytes)) k

    go : (o : Read) → read_of bytes ≡ o → Agree x a y b
    go (read.Counted m L g) e =
        meets n σ (starts_of v) (guards_on bytes small k m L g e) (upper_places n (starts_of v) (start_upper v n)) r (plan.asking_of bytes k r) x y
        a b p.answers q.answers
    go (read.Refused f) e =
        let asking = asking_refused bytes k r f e in
        refused r f x y a b
        (subst (λ z. plan.Meets z n σ (starts_of v) r a x) asking p.answers)
        (subst (λ z. plan.Meets z n σ (starts_of v) r b y) asking q.answers)

-- a loop is told in the answer room
pub record LoopTold (room room' : List ℕ) : Type 0 where
  pub size : ℕ
  pub numbers : room' ≡ answered room (plan_numbers (Loop size))

-- The rooms after two answers are the same; or loops are told, and the rooms for a plan are the same.
abbrev pub OneOrLoops : plan.Rooms → plan.Rooms → List ℕ → List ℕ → List ℕ → Type 0
OneOrLoops a b room c d = ((a ≡ b) × (c ≡ d)) ⊎ (LoopTold room c × LoopTold room d × (a.times ≡ b.times) × (a.starts ≡ b.starts))

-- The rooms of the entry "plan" are determined, the answer room too, unless no run exists.
pub plan_told_one : (roomy : Bool) (bytes : List ℕ) → Bytes bytes → (v : Start) (k : ℕ) (r a b : plan.Rooms) (room c d : List ℕ)
    → PlanTold roomy bytes v k r a room c → PlanTold roomy bytes v k r b room d
    → OneOrLoops a b room c d
plan_told_one false bytes small v k r a b room c d p q = inl (p.0 ∙ sym q.0, p.1 ∙ sym q.1)
plan_told_one true bytes small v k r a b room c d p q =
    go p.outcome q.outcome p.numbers q.numbers
    (plan_answers_agree bytes small v k r a b p.outcome q.outcome p.answers q.answers)
  where
    same : (x y : Outcome) → c ≡ answered room (plan_numbers x) → d ≡ answered room (plan_numbers y) → x ≡ y → c ≡ d
    same x y e f h = e ∙ ap (λ z. answered room (plan_numbers z)) h ∙ sym f

    loops : (m : ℕ) (y : Outcome) → c ≡ answered room (plan_numbers (Loop m)) → d ≡ answered room (plan_numbers y)
        → Agree (Loop m) a y b
        → OneOrLoops a b room c d
    loops m (Found Q) e f h = absurd h.0
    loops m (Loop o) e f h = inr (record { size = m; numbers = e }, record { size = o; numbers = f }, h.1, h.2)
    loops m (Refused x) e f h = absurd h.0

    go : (x y : Outcome) → c ≡ answered room (plan_numbers x) → d ≡ answered room (plan_numbers y) → Agree x a y b
        → OneOrLoops a b room c d
    go (Found P) y e f h = inl (h.1, same (Found P) y e f h.0)
    go (Loop m) y e f h = loops m y e f h
    go (Refused x) y e f h = inl (h.1, same (Refused x) y e f h.0)
