-- The rows of 01's table as tests one after the other, for any kind of answer.
use Rattle.std.specs.Prelude.{◌≡◌, refl, Bool, true, false, cond, List, ℕ, ◌<◌, get_or}
use Rattle.std.proofs.Common.{sym, ap, ◌∙◌, arith}
use Rattle.table.specs.Refusal.{number_of, placeless}
use Rattle.table.specs.declared.Fault.{Fault}
use Rattle.table.specs.declared.Fault.TheVariants as fault
use Rattle.table.specs.declared.Refusal.{Refusal}
use Rattle.answers.specs.Four.{four, refused_numbers}
use Rattle.promises.specs.First.{row, Refuses}

-- no refusal has the number 0
pub number_some : (f : Fault) → 0 < number_of f
number_some fault.Length = omega arith
number_some fault.Cut = omega arith
number_some fault.Kind = omega arith
number_some fault.Head = omega arith
number_some fault.Bounds = omega arith
number_some fault.Timer = omega arith
number_some fault.Relation = omega arith
number_some fault.Constant = omega arith
number_some fault.Steps = omega arith
number_some fault.Tail = omega arith
number_some fault.Rounds = omega arith
number_some fault.Times = omega arith
number_some fault.Starts = omega arith
number_some fault.Loop = omega arith
number_some fault.List = omega arith
number_some fault.Twice = omega arith
number_some fault.Record = omega arith
number_some fault.Tray = omega arith
number_some fault.Verdicts = omega arith
number_some fault.Card = omega arith
number_some fault.Output = omega arith
number_some fault.Stretch = omega arith

module _ {A : Type 0} (refused : Refusal → A) (done : A → Type 0) where
  -- q is the refusal with this number, and place 0; or it is done, and the number is 0
  pub data Told (q : A) (number : ℕ) : Type 0 where
    fails : (f : Fault) → q ≡ refused (placeless f) → number ≡ number_of f → Told q number
    passes : done q → number ≡ 0 → Told q number

  -- one test more in front
  pub told_test : (b : Bool) (f : Fault) (rest : A) (number : ℕ) → Told rest number
      → Told (cond b rest (refused (placeless f))) (row (number_of f) b number)
  told_test true f rest number t = t
  told_test false f rest number t = fails f refl refl

-- what is told of a refusal, in numbers
pub refuses_fault : (f : Fault) (number : ℕ) (kept : Type 0) (a : List ℕ) → number ≡ number_of f → a ≡ refused_numbers (placeless f) → kept
    → Refuses number kept a
refuses_fault f number kept a e h k =
    record {
      first = ap (λ l. get_or l 0 0) h ∙ sym e;
      refused = λ _. (h ∙ ap (λ m. four m 0 0 0) (sym e), k);
    }

pub refuses_none : (number : ℕ) (kept : Type 0) (a : List ℕ) → number ≡ 0 → get_or a 0 0 ≡ 0 → Refuses number kept a
refuses_none number kept a e h = record { first = h ∙ sym e; refused = λ p. absurd (omega arith) }
