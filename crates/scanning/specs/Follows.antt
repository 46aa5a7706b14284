-- How what is found of a step goes on, one record at a time.
use Rattle.std.specs.Prelude.{◌≡◌, List, ◌∷◌, ℕ, ◌+◌, ◌≤◌, ◌<◌, length, get_or, drop}
use Rattle.std.proofs.Math.Path.{refl, ap}
use Rattle.std.proofs.Common.{sym, ◌∙◌}
use Rattle.records.specs.declared.Tally.{Tally}
use Rattle.records.specs.declared.Verdict.{Verdict}
use Rattle.records.specs.declared.Verdict.TheVariants.{Refused, Next, Last}
use Rattle.records.specs.Rules.{body_size}
use Rattle.wire.specs.Records.{Record, record_at, records_at, records_none, records_next}
use Rattle.wire.specs.Reading.{judge_of}
use Rattle.wire.specs.Listing.{content_of}
use Rattle.scanning.specs.declared.Progress.{Progress}
use Rattle.scanning.specs.Progress.{noted, followed, progress_of}

module _ (step : ℕ) (readings : List ℕ) (ticks : ℕ) where
  -- what a verdict on a record makes of the records after it
  abbrev pub further : Tally → Progress → Record → List Record → Verdict → Progress
  further t p r rs (Refused f) = p
  further t p r rs (Next u) = followed step readings ticks u (noted step readings ticks t p (content_of r)) rs
  further t p r rs Last = p

  pub follow_one : (t : Tally) (p : Progress) (r : Record) (rs : List Record)
      → followed step readings ticks t p (r ∷ rs) ≡ further t p r rs (judge_of t r)
  follow_one t p r rs = unfold followed in split (judge_of t r)
    where
      split : (v : Verdict)
          → elim v [
            | Refused f ↦ p
            | Next u ↦ followed step readings ticks u (noted step readings ticks t p (content_of r)) rs
            | Last ↦ p
          ]
          ≡ further t p r rs v
      split (Refused f) = refl
      split (Next u) = refl
      split Last = refl

  -- a verdict on the record at a place, and what was due there
  pub follow_on : (bytes : List ℕ) (t : Tally) (p : Progress) (at kind size : ℕ) (v : Verdict) → at < length bytes
      → v ≡ judge_of t (record_at at (get_or bytes at 0) (drop (at + 1) bytes)) → kind ≡ get_or bytes at 0 → size ≡ body_size kind
      → followed step readings ticks t p (records_at bytes at) ≡ progress_of step readings ticks bytes
      → further t p (record_at at kind (drop (at + 1) bytes)) (records_at bytes (at + 1 + size)) v ≡ progress_of step readings ticks bytes
  follow_on bytes t p at kind size v h judged k s due =
      (λ i. further t p (record_at at (k i) (drop (at + 1) bytes)) (records_at bytes (at + 1 + (s ∙ ap body_size k) i)) (judged i))
      ∙ sym (follow_one t p _ _) ∙ sym (ap (followed step readings ticks t p) (records_next bytes at h)) ∙ due

  -- the same of a record that is taken, as it is noted
  pub follow_next : (t u : Tally) (p q whole : Progress) (r : Record) (rs : List Record) (v : Verdict) → v ≡ Next u
      → q ≡ noted step readings ticks t p (content_of r) → further t p r rs v ≡ whole → followed step readings ticks u q rs ≡ whole
  follow_next t u p q whole r rs v told note due =
      ap (λ x. followed step readings ticks u x rs) note ∙ ap (further t p r rs) (sym told) ∙ due

  -- no record begins where the bytes end
  pub follow_out : (bytes : List ℕ) (t : Tally) (p : Progress) (at : ℕ) → length bytes ≤ at
      → followed step readings ticks t p (records_at bytes at) ≡ p
  unfolding followed
  follow_out bytes t p at h = ap (followed step readings ticks t p) (records_none bytes at h)
