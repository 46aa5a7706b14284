-- A reading compared with a constant, by a relation's byte, and a guard tested, by its record's bytes.
use Rattle.std.specs.Prelude.{◌≡◌, false, List, ℕ, zero, suc, ◌+◌, ◌-◌, ◌*◌, ◌≤◌, ◌<◌, ltb, get_or, drop}
use Rattle.std.proofs.Common.{sym, ap, ◌∙◌, arith, lt-ltb, le-ltb, le-leb, eq-eqb, ne_eqb}
use Rattle.std.proofs.Math.Bool.{and-false}
use Rattle.std.proofs.lemmas.Bool.{lt-leb}
use Rattle.table.specs.declared.Relation.TheVariants.{Over}
use Rattle.records.specs.Rules.{relation_of, within}
use Rattle.wire.specs.Records.{record_at}
use Rattle.wire.specs.Listing.{guard_in}
use Rattle.wire.specs.Laws.{guard_in_lem}
use Rattle.scans.specs.Scan.{compares}
use Rattle.scanning.specs.Progress.{meets}

-- from 4 on, a byte says "over"
is_over : (c : ℕ) → 4 ≤ c → relation_of c ≡ Over
is_over c h = simp (ne_eqb c 0 (λ e. omega arith), ne_eqb c 1 (λ e. omega arith), ne_eqb c 2 (λ e. omega arith), ne_eqb c 3 (λ e. omega arith))

module _ (constant reading : ℕ) where
  -- a reading under the constant: under and at most hold
  pub when_under : (c : ℕ) → reading < constant → ltb c 2 ≡ compares (relation_of c) constant reading
  when_under zero h = sym (lt-ltb reading constant h)
  when_under (suc zero) h = sym (le-leb reading constant (omega arith))
  when_under (suc (suc zero)) h = sym (ne_eqb reading constant (λ e. omega arith))
  when_under (suc (suc (suc zero))) h = sym (lt-leb constant reading h)
  when_under (suc (suc (suc (suc c)))) h =
      le-ltb (suc (suc (suc (suc c)))) 2 (omega arith) ∙ sym (le-ltb constant reading (omega arith))
      ∙ ap (λ r. compares r constant reading) (sym (is_over (suc (suc (suc (suc c)))) (omega arith)))

  -- over it: at least and over hold
  pub when_over : (c : ℕ) → constant < reading → ltb 2 c ≡ compares (relation_of c) constant reading
  when_over zero h = sym (le-ltb reading constant (omega arith))
  when_over (suc zero) h = sym (lt-leb reading constant h)
  when_over (suc (suc zero)) h = sym (ne_eqb reading constant (λ e. omega arith))
  when_over (suc (suc (suc zero))) h = sym (le-leb constant reading (omega arith))
  when_over (suc (suc (suc (suc c)))) h =
      lt-ltb 2 (suc (suc (suc (suc c)))) (omega arith) ∙ sym (lt-ltb constant reading h)
      ∙ ap (λ r. compares r constant reading) (sym (is_over (suc (suc (suc (suc c)))) (omega arith)))

  -- the same: all but under and over hold
  pub when_same : (c : ℕ) → constant ≤ reading → reading ≤ constant → within 1 c 3 ≡ compares (relation_of c) constant reading
  when_same zero h g = sym (le-ltb reading constant h)
  when_same (suc zero) h g = sym (le-leb reading constant g)
  when_same (suc (suc zero)) h g = sym (eq-eqb reading constant (omega arith))
  when_same (suc (suc (suc zero))) h g = sym (le-leb constant reading h)
  when_same (suc (suc (suc (suc c)))) h g = above ∙ sym (le-ltb constant reading g) ∙ ap (λ r. compares r constant reading) (sym (is_over K (omega arith)))
    where
      K : ℕ
      K = suc (suc (suc (suc c)))

      above : within 1 K 3 ≡ false
      above = simp (lt-leb K 3 (omega arith), and-false)

-- the guard whose record begins at a place, by its four bytes
pub meets_by : (bytes : List ℕ) (at : ℕ) (readings : List ℕ) (ticks clock relation low high : ℕ) → clock ≡ get_or bytes (at + 1) 0
    → relation ≡ get_or bytes (at + 2) 0 → low ≡ get_or bytes (at + 3) 0 → high ≡ get_or bytes (at + 4) 0
    → compares (relation_of relation) (low + high * 256) (get_or readings (clock - 1) 0 + ticks)
    ≡ meets readings ticks (guard_in (record_at at 2 (drop (at + 1) bytes)))
unfolding meets
meets_by bytes at readings ticks clock relation low high e₁ e₂ e₃ e₄ =
    ap (meets readings ticks) (guard_in_lem bytes at clock relation low high e₁ e₂ e₃ e₄)
