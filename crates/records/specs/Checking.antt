-- Records to the answer, whatever they are written as: from the left, each judged by the tally of those before it, and the first fault counts.
use Rattle.std.specs.Prelude.{◌≡◌, refl, List, [], ◌∷◌, ℕ}
use Rattle.std.proofs.Common.{ap, ◌∙◌}
use Rattle.table.specs.declared.Fault.TheVariants as fault
use Rattle.table.specs.declared.Read.{Read}
use Rattle.table.specs.declared.Read.TheVariants as read
use Rattle.records.specs.declared.Tally.{Tally}
use Rattle.records.specs.declared.Verdict.{Verdict}
use Rattle.records.specs.declared.Verdict.TheVariants.{Refused, Next, Last}

-- before the first record
abbrev pub start : Tally
start = record { clocks = 0; steps = 0; guards = 0; pending = 0 }

module _ {R : Type 0} (place : R → ℕ) where
  -- after the end no record begins
  abbrev pub tail_of : Tally → List R → Read
  tail_of t [] = read.Counted t.clocks t.steps t.guards
  tail_of t (r ∷ rs) = read.Refused (record { fault = fault.Tail; place = place r })

  module _ (judge : Tally → R → Verdict) where
    -- the records of a text of a length
    unfoldable pub check_of : ℕ → Tally → List R → Read
    check_of len t [] = read.Refused (record { fault = fault.Cut; place = len })
    check_of len t (r ∷ rs) = elim (judge t r) [ Refused f ↦ read.Refused f | Next u ↦ check_of len u rs | Last ↦ tail_of t rs ]

    -- what a verdict makes of the records after it
    abbrev pub onward_of : ℕ → Tally → List R → Verdict → Read
    onward_of len t rs (Refused f) = read.Refused f
    onward_of len t rs (Next u) = check_of len u rs
    onward_of len t rs Last = tail_of t rs

    pub check_judged : (len : ℕ) (t : Tally) (r : R) (rs : List R) (v : Verdict) → judge t r ≡ v → check_of len t (r ∷ rs) ≡ onward_of len t rs v
    check_judged len t r rs v e = first (judge t r) refl ∙ ap (onward_of len t rs) e
      where
        first : (w : Verdict) → judge t r ≡ w → check_of len t (r ∷ rs) ≡ onward_of len t rs w
        first (Refused f) e = unfold check_of in rw (e, check_of)
        first (Next u) e = unfold check_of in rw (e, check_of)
        first Last e = unfold check_of in rw (e, check_of)
