-- The answer, case by case.
use Rattle.std.specs.Prelude.{◌≡◌, true, false, List, ℕ, ◌≤◌, ◌<◌}
use Rattle.std.proofs.Common.{ap, sym}
use borrow.Author.Tests.{le-leb, lt-leb}
use Rattle.table.specs.declared.Fault.{Fault}
use Rattle.table.specs.declared.Fault.TheVariants as fault
use Rattle.table.specs.declared.Table.{Table}
use Rattle.asking.specs.Admission.{in_range}
use Rattle.asking.specs.Admitted.{range_true}
use Rattle.constraints.specs.Sized.{Tabled, Sized}
use Rattle.demands.specs.declared.Listed.{Listed}
use Rattle.demands.specs.declared.Listed.TheVariants.{Written}
use Rattle.demands.specs.Listed.{refused_for, answer_of, unless_refused}

module _ (L k count room : ℕ) where
  pub answer_rounds : in_range k L ≡ false → refused_for fault.Rounds ≡ answer_of L k count room
  unfolding answer_of
  answer_rounds e = rw e

  pub answer_list : in_range k L ≡ true → room < count → refused_for fault.List ≡ answer_of L k count room
  unfolding answer_of
  answer_list e h = rw (e, lt-leb count room h)

  pub answer_written : in_range k L ≡ true → count ≤ room → Written count ≡ answer_of L k count room
  unfolding answer_of
  answer_written e h = rw (e, le-leb count room h)

-- where it is a refusal nothing is written
pub kept : {A : Type 0} {r : Listed} {f : Fault} (new old : List A) → r ≡ refused_for f → old ≡ unless_refused r new old
kept new old e = sym (ap (λ x. unless_refused x new old) e)

-- rounds in range are ready for the code
pub in_range_sized : {t : Table} {k : ℕ} → Tabled t → in_range k t.steps ≡ true → Sized t k
in_range_sized s e = let (some, few) = range_true _ _ e in record { good = s.good; clocks = s.clocks; some = some; few = few }
