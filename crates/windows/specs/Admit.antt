-- What is refused after the table: a number of rounds as of plans, and then either room that is too short; with place 0.
use Rattle.std.specs.Prelude.{◌≡◌, ◌⊎◌, List, ℕ, ◌*◌, ◌≤◌, ◌<◌, leb}
use Rattle.std.proofs.Common.{sym, subst, ◌∙◌, inl, inr, arith}
use Rattle.std.proofs.Math.Bool.{and-false}
use Rattle.std.proofs.Math.Decide.{dec_le}
use borrow.Author.Tests.{le-leb, lt-leb}
use Rattle.table.specs.declared.Fault.{Fault}
use Rattle.table.specs.declared.Fault.TheVariants as fault
use Rattle.table.specs.declared.Refusal.{Refusal}
use Rattle.table.specs.declared.Read.TheVariants.{Counted, Refused}
use Rattle.wire.specs.Reading.{read_of}
use Rattle.asking.specs.declared.Admission.{Admission}
use Rattle.asking.specs.declared.Admission.TheVariants as admission
use Rattle.asking.specs.Admission.{refused_for, need, in_range}

-- k rounds of L steps, and the lengths of the rooms for marks and for times
unfoldable pub admit_of : ℕ → ℕ → ℕ → ℕ → Admission
admit_of L k marks times =
    need (in_range k L) fault.Rounds
    (need (leb (k * L) marks) fault.Times
    (need (leb (k * L * 2) times) fault.Times
    admission.Accepted))

-- the whole question: the table first
unfoldable pub asking_of : List ℕ → ℕ → ℕ → ℕ → Admission
asking_of bytes k marks times = elim (read_of bytes) [ Counted n L g ↦ admit_of L k marks times | Refused f ↦ admission.Refused f ]

-- ---- the tests, one by one
abbrev accepted : Admission → Type 0
accepted (admission.Refused f) = ⊥
accepted admission.Accepted = Unit {0}

pub refused_not : {f : Refusal} → admission.Refused f ≡ admission.Accepted → ⊥
refused_not e = subst accepted (sym e) tt

module _ (L k marks times : ℕ) where
  pub admit_rounds : (k < 1) ⊎ (1024 < k * L) → admit_of L k marks times ≡ refused_for fault.Rounds
  unfolding admit_of
  admit_rounds (inl h) = rw (lt-leb 1 k h)
  admit_rounds (inr h) = rw (lt-leb (k * L) 1024 h, and-false (leb 1 k))

  module _ (some : 1 ≤ k) (few : k * L ≤ 1024) where
    pub admit_marks : marks < k * L → admit_of L k marks times ≡ refused_for fault.Times
    unfolding admit_of
    admit_marks h = rw (le-leb 1 k some, le-leb (k * L) 1024 few, lt-leb (k * L) marks h)

    pub admit_times : k * L ≤ marks → times < k * L * 2 → admit_of L k marks times ≡ refused_for fault.Times
    unfolding admit_of
    admit_times m h = rw (le-leb 1 k some, le-leb (k * L) 1024 few, le-leb (k * L) marks m, lt-leb (k * L * 2) times h)

    pub admit_all : k * L ≤ marks → k * L * 2 ≤ times → admit_of L k marks times ≡ admission.Accepted
    unfolding admit_of
    admit_all m h = rw (le-leb 1 k some, le-leb (k * L) 1024 few, le-leb (k * L) marks m, le-leb (k * L * 2) times h)

  -- all tests have held
  pub record Held : Type 0 where
    pub some : 1 ≤ k
    pub few : k * L ≤ 1024
    pub for_marks : k * L ≤ marks
    pub for_times : k * L * 2 ≤ times

  pub admit_held : admit_of L k marks times ≡ admission.Accepted → Held
  admit_held e = go (dec_le 1 k) (dec_le (k * L) 1024) (dec_le (k * L) marks) (dec_le (k * L * 2) times)
    where
      none : (f : Fault) → admit_of L k marks times ≡ refused_for f → ⊥
      none f d = refused_not (sym d ∙ e)

      go : Dec (1 ≤ k) → Dec (k * L ≤ 1024) → Dec (k * L ≤ marks) → Dec (k * L * 2 ≤ times) → Held
      go (yes a) (yes b) (yes m) (yes t) = record { some = a; few = b; for_marks = m; for_times = t }
      go (no a) b m t = absurd (none fault.Rounds (admit_rounds (inl (omega arith))))
      go (yes a) (no b) m t = absurd (none fault.Rounds (admit_rounds (inr (omega arith))))
      go (yes a) (yes b) (no m) t = absurd (none fault.Times (admit_marks a b (omega arith)))
      go (yes a) (yes b) (yes m) (no t) = absurd (none fault.Times (admit_times a b m (omega arith)))
