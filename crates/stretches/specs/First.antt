-- The first record of some kinds, and the first that opens a stretch.
use Rattle.std.specs.Prelude.{◌≡◌, Bool, true, ℕ, ◌<◌, eqb, length, get_or}
use Rattle.std.proofs.Math.Path.{refl, sym, ap}
use Rattle.std.proofs.Common.{◌∙◌, arith}
use Rattle.std.proofs.Math.Bool.{false, cond}
use mathlib.Core.List.{List, [], ◌∷◌}
use Rattle.std.proofs.Math.Decide.{ℕ_discrete}
use borrow.Author.Tests.{eq-eqb, ne_eqb}
use Rattle.table.specs.declared.Fault.{Fault}
use Rattle.table.specs.declared.Fault.TheVariants as fault
use Rattle.table.specs.declared.Read.TheVariants as read
use Rattle.records.specs.declared.Tally.{Tally}
use Rattle.records.specs.declared.Verdict.{Verdict}
use Rattle.records.specs.declared.Verdict.TheVariants.{Refused, Next, Last}
use Rattle.records.specs.Rules.{within}
use Rattle.wire.specs.Records.{Record, records_at, records_next}
use Rattle.wire.specs.Reading.{judge_of, tail, check}
use Rattle.wire.specs.Laws.{onward}
use Rattle.format.specs.Judged.{within_true}
use Rattle.format.specs.Reach.{after}
use Rattle.format.specs.Shapes.{check_judged, refused_counted}
use Rattle.stretches.specs.Reading.{Said, refused, lift, closed, judge_in, check_in}
use Rattle.stretches.specs.Laws.{onward_in, check_said, plain_said, no_kind}

-- the place of the first record of some kinds; where there is none, the length of the bytes
unfoldable pub first_of : (ℕ → Bool) → ℕ → List Record → ℕ
first_of kinds len [] = len
first_of kinds len (r ∷ rs) = cond (kinds r.kind) r.place (first_of kinds len rs)

-- the kinds of a stretch: its open and its close
abbrev pub of_stretch : ℕ → Bool
of_stretch k = within 7 k 8

abbrev pub is_open : ℕ → Bool
is_open k = eqb k 7

module _ (kinds : ℕ → Bool) (len : ℕ) where
  first_is : (r : Record) (rs : List Record) (b : Bool) → kinds r.kind ≡ b
      → first_of kinds len (r ∷ rs) ≡ cond b r.place (first_of kinds len rs)
  unfolding first_of
  first_is r rs b e = ap (λ x. cond x r.place (first_of kinds len rs)) e

  -- by the record at a place
  module _ (bytes : List ℕ) (at : ℕ) (here : at < length bytes) where
    pub first_here : kinds (get_or bytes at 0) ≡ true → first_of kinds len (records_at bytes at) ≡ at
    first_here e = ap (first_of kinds len) (records_next bytes at here) ∙ first_is _ _ true e

    pub first_later : kinds (get_or bytes at 0) ≡ false → first_of kinds len (records_at bytes at) ≡ first_of kinds len (records_at bytes (after bytes at))
    first_later e = ap (first_of kinds len) (records_next bytes at here) ∙ first_is _ _ false e

-- ---- where records are accepted

-- after the end there are none
tail_first : (kinds : ℕ → Bool) (len : ℕ) (t : Tally) (rs : List Record) {n L g : ℕ} → tail t rs ≡ read.Counted n L g → first_of kinds len rs ≡ len
unfolding first_of
tail_first kinds len t [] e = refl
tail_first kinds len t (r ∷ rs) e = refused_counted e

module _ (len n L g : ℕ) where
  -- the first of a stretch opens it
  pub opens_first : (rs : List Record) (t : Tally) → check_in len t [] rs ≡ read.Counted n L g → first_of of_stretch len rs ≡ first_of is_open len rs
  unfolding check_in first_of
  opens_first [] t e = refl
  opens_first (r ∷ rs) t e = go (ℕ_discrete r.kind 7) (ℕ_discrete r.kind 8) (λ u. opens_first rs u)
    where
      at : Fault → Said
      at f = refused (record { fault = f; place = r.place })

      onwards : (v : Said) → judge_in t [] r ≡ v → onward_in len t rs v ≡ read.Counted n L g
      onwards v s = sym (check_said len t [] r rs v s) ∙ e

      pass : (r.kind ≡ 7 → ⊥) → (r.kind ≡ 8 → ⊥) → within 7 r.kind 8 ≡ false
      pass n₇ n₈ = by (within 7 r.kind 8) refl
        where
          by : (b : Bool) → within 7 r.kind 8 ≡ b → within 7 r.kind 8 ≡ false
          by true e = let h = within_true 7 r.kind 8 e in absurd (n₈ (omega (arith, h.0, h.1, n₇)))
          by false e = e

      on : within 7 r.kind 8 ≡ false → ((u : Tally) → check_in len u [] rs ≡ read.Counted n L g → first_of of_stretch len rs ≡ first_of is_open len rs)
          → (v : Verdict) → judge_of t r ≡ v → first_of of_stretch len rs ≡ first_of is_open len rs
      on other again v s = by v (onwards (lift [] v) (plain_said t [] r other (λ _. refl) ∙ ap (lift []) s))
        where
          by : (v : Verdict) → onward_in len t rs (lift [] v) ≡ read.Counted n L g → first_of of_stretch len rs ≡ first_of is_open len rs
          by (Refused f) q = refused_counted q
          by (Next u) q = again u q
          by Last q = tail_first of_stretch len t rs q ∙ sym (tail_first is_open len t rs q)

      go : Dec (r.kind ≡ 7) → Dec (r.kind ≡ 8)
          → ((u : Tally) → check_in len u [] rs ≡ read.Counted n L g → first_of of_stretch len rs ≡ first_of is_open len rs)
          → first_of of_stretch len (r ∷ rs) ≡ first_of is_open len (r ∷ rs)
      go (yes k) d again = first_is of_stretch len r rs true (ap of_stretch k) ∙ sym (first_is is_open len r rs true (ap is_open k))
      go (no n₇) (yes k) again = closes (eqb r.place 0) refl
        where
          closes : (b : Bool) → eqb r.place 0 ≡ b → first_of of_stretch len (r ∷ rs) ≡ first_of is_open len (r ∷ rs)
          closes true z = refused_counted (onwards (at fault.Head) (unfold judge_in in rw (ne_eqb r.kind 7 n₇, eq-eqb r.kind 8 k, z)))
          closes false z = refused_counted (onwards (at fault.Stretch) (unfold judge_in closed in rw (ne_eqb r.kind 7 n₇, eq-eqb r.kind 8 k, z)))
      go (no n₇) (no n₈) again =
          first_is of_stretch len r rs false (pass n₇ n₈)
          ∙ on (pass n₇ n₈) again (judge_of t r) refl
          ∙ sym (first_is is_open len r rs false (ne_eqb r.kind 7 n₇))

  -- without stretches there is none
  pub plain_first : (rs : List Record) (t : Tally) → check len t rs ≡ read.Counted n L g → first_of of_stretch len rs ≡ len
  unfolding first_of
  plain_first [] t e = refl
  plain_first (r ∷ rs) t e = go (within 7 r.kind 8) refl (λ u. plain_first rs u)
    where
      onwards : (v : Verdict) → judge_of t r ≡ v → onward len t rs v ≡ read.Counted n L g
      onwards v s = sym (check_judged len t r rs v s) ∙ e

      on : ((u : Tally) → check len u rs ≡ read.Counted n L g → first_of of_stretch len rs ≡ len) → (v : Verdict) → judge_of t r ≡ v
          → first_of of_stretch len rs ≡ len
      on again (Refused f) s = refused_counted (onwards (Refused f) s)
      on again (Next u) s = again u (onwards (Next u) s)
      on again Last s = tail_first of_stretch len t rs (onwards Last s)

      go : (b : Bool) → within 7 r.kind 8 ≡ b → ((u : Tally) → check len u rs ≡ read.Counted n L g → first_of of_stretch len rs ≡ len)
          → first_of of_stretch len (r ∷ rs) ≡ len
      go true k again = refused_counted (onwards _ (no_kind t r k))
      go false k again = first_is of_stretch len r rs false k ∙ on again (judge_of t r) refl
