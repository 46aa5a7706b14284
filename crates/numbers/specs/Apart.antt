-- The four numbers tell the cases of an answer apart: the answer can be made again from them.
use Rattle.std.specs.Prelude.{◌≡◌, refl, cond, List, [], ◌∷◌, ℕ, ◌-◌, eqb, get_or}
use Rattle.std.proofs.Common.{sym, ap, ◌∙◌}
use Rattle.table.specs.Refusal.{number_of}
use Rattle.table.specs.declared.Fault.{Fault}
use Rattle.table.specs.declared.Fault.TheVariants as fault
use Rattle.table.specs.declared.Refusal.{Refusal}
use Rattle.table.specs.declared.Read.{Read}
use Rattle.table.specs.declared.Read.TheVariants as read
use Rattle.rounds.specs.declared.Count.{Count}
use Rattle.rounds.specs.declared.Count.TheVariants as count
use Rattle.plan.specs.declared.Outcome.{Outcome}
use Rattle.plan.specs.declared.Outcome.TheVariants as outcome
use Rattle.demands.specs.declared.Listed.{Listed}
use Rattle.demands.specs.declared.Listed.TheVariants as listed
use Rattle.answers.specs.Four.{four, refused_numbers, read_numbers}
use Rattle.numbers.specs.Numbers.{count_numbers, plan_numbers, demands_numbers}

-- the faults in the order of 01's numbers, from 1; none has the number 22
abbrev faults : List Fault
faults =
    fault.Length ∷ fault.Cut ∷ fault.Kind ∷ fault.Head ∷ fault.Bounds ∷ fault.Timer ∷ fault.Relation ∷ fault.Constant
    ∷ fault.Steps ∷ fault.Tail ∷ fault.Rounds ∷ fault.Times ∷ fault.Starts ∷ fault.Loop ∷ fault.List ∷ fault.Twice
    ∷ fault.Record ∷ fault.Tray ∷ fault.Verdicts ∷ fault.Card ∷ fault.Output ∷ fault.Length ∷ fault.Stretch ∷ []

-- an answer from its numbers: a refusal, unless the first is 0
abbrev answer_from : {A : Type 0} → (Refusal → A) → (ℕ → ℕ → ℕ → A) → List ℕ → A
answer_from refused other l =
    cond (eqb (get_or l 0 0) 0)
    (other (get_or l 1 0) (get_or l 2 0) (get_or l 3 0))
    (refused (record { fault = get_or faults (get_or l 0 0 - 1) fault.Length; place = get_or l 1 0 }))

refused_from : {A : Type 0} (refused : Refusal → A) (other : ℕ → ℕ → ℕ → A) (f : Refusal)
    → answer_from refused other (refused_numbers f) ≡ refused f
refused_from refused other f = go f.fault f.place
  where
    go : (e : Fault) (place : ℕ)
        → answer_from refused other (four (number_of e) place 0 0) ≡ refused (record { fault = e; place = place })
    go fault.Length place = refl
    go fault.Cut place = refl
    go fault.Kind place = refl
    go fault.Head place = refl
    go fault.Bounds place = refl
    go fault.Timer place = refl
    go fault.Relation place = refl
    go fault.Constant place = refl
    go fault.Steps place = refl
    go fault.Tail place = refl
    go fault.Rounds place = refl
    go fault.Times place = refl
    go fault.Starts place = refl
    go fault.Loop place = refl
    go fault.List place = refl
    go fault.Twice place = refl
    go fault.Record place = refl
    go fault.Tray place = refl
    go fault.Verdicts place = refl
    go fault.Card place = refl
    go fault.Output place = refl
    go fault.Stretch place = refl

-- what can be made again from its numbers is the only one with these numbers
only : {A : Type 0} (numbers : A → List ℕ) (from : List ℕ → A) → ((a : A) → from (numbers a) ≡ a)
    → (a b : A) → numbers a ≡ numbers b → a ≡ b
only numbers from again a b e = sym (again a) ∙ ap from e ∙ again b

-- ---- the four answers
pub read_numbers_one : (a b : Read) → read_numbers a ≡ read_numbers b → a ≡ b
read_numbers_one = only read_numbers (answer_from read.Refused read.Counted) again
  where
    again : (a : Read) → answer_from read.Refused read.Counted (read_numbers a) ≡ a
    again (read.Counted n L g) = refl
    again (read.Refused f) = refused_from read.Refused read.Counted f

pub count_numbers_one : (a b : Count) → count_numbers a ≡ count_numbers b → a ≡ b
count_numbers_one = only count_numbers (answer_from count.Refused other) again
  where
    other : ℕ → ℕ → ℕ → Count
    other b c d = cond (eqb b 0) (count.Finite c) count.Endless

    again : (a : Count) → answer_from count.Refused other (count_numbers a) ≡ a
    again (count.Finite c) = refl
    again count.Endless = refl
    again (count.Refused f) = refused_from count.Refused other f

pub plan_numbers_one : (a b : Outcome) → plan_numbers a ≡ plan_numbers b → a ≡ b
plan_numbers_one = only plan_numbers (answer_from outcome.Refused other) again
  where
    other : ℕ → ℕ → ℕ → Outcome
    other b c d = cond (eqb b 0) (outcome.Found c) (outcome.Loop c)

    again : (a : Outcome) → answer_from outcome.Refused other (plan_numbers a) ≡ a
    again (outcome.Found P) = refl
    again (outcome.Loop m) = refl
    again (outcome.Refused f) = refused_from outcome.Refused other f

pub demands_numbers_one : (a b : Listed) → demands_numbers a ≡ demands_numbers b → a ≡ b
demands_numbers_one = only demands_numbers (answer_from listed.Refused other) again
  where
    other : ℕ → ℕ → ℕ → Listed
    other b c d = listed.Written b

    again : (a : Listed) → answer_from listed.Refused other (demands_numbers a) ≡ a
    again (listed.Written n) = refl
    again (listed.Refused f) = refused_from listed.Refused other f
