-- What a verdict says of the record that was judged: by which of 01's rows a record is refused.
use Rattle.std.specs.Prelude.{◌≡◌, ◌⊎◌, ◌≢◌, Bool, cond, not, ◌&&◌, List, ℕ, ◌≤◌, ◌<◌, ltb, length}
use Rattle.std.proofs.Math.Path.{refl}
use Rattle.std.proofs.Common.{sym, ap, subst, ◌∙◌, inl, inr, arith, leb-true, leb-false}
use Rattle.std.proofs.Math.Bool.{true, false}
use Rattle.std.proofs.Math.Dec.{eqb, leb}
use Rattle.table.specs.Refusal.{number_of, of_table}
use Rattle.table.specs.declared.Fault.{Fault}
use Rattle.table.specs.declared.Fault.TheVariants as fault
use Rattle.table.specs.declared.Refusal.{Refusal}
use Rattle.records.specs.declared.Tally.{Tally}
use Rattle.records.specs.declared.Verdict.{Verdict}
use Rattle.records.specs.declared.Verdict.TheVariants.{Refused, Next, Last}
use Rattle.records.specs.Rules.{body_size, need, within, is_free, headed, guarded, cleared, finished, ended, agree}
use Rattle.wire.specs.Records.{Record}
use Rattle.wire.specs.Reading.{byte, constant_of, whole_of, judge_of}
use Rattle.records.specs.Tests.{both}
use Rattle.format.specs.Shapes.{false_true}
use Rattle.format.specs.Reach.{stands}

-- the number of a fault that a record has by itself: one of a table's, but no cut and no tail
abbrev of_record : ℕ → Bool
of_record number = of_table number && (not (eqb number 2) && not (eqb number 10))

of_table_lem : (number : ℕ) → of_record number ≡ true → of_table number ≡ true
of_table_lem number h = (both (of_table number) (not (eqb number 2) && not (eqb number 10)) h).0

not_of_record : (g : Fault) (n : ℕ) → of_record (number_of g) ≡ true → of_record n ≡ false → number_of g ≢ n
not_of_record g n h k e = false_true (sym k ∙ ap of_record (sym e) ∙ h)

-- the verdict on a body: a refusal at the record's place, neither for a cut nor for a tail, or none
pub data OfBody (r : Record) : Verdict → Type 0 where
  stops : (f : Refusal) → f.place ≡ r.place → of_record (number_of f.fault) ≡ true → OfBody r (Refused f)
  goes : (u : Tally) → OfBody r (Next u)
  ends : OfBody r Last

-- the verdict on a record, for its kind, for being cut, or on its body
pub data Row (r : Record) : Verdict → Type 0 where
  of_kind : stands r.place r.kind ≡ false → (g : Fault) → of_record (number_of g) ≡ true
      → Row r (Refused (record { fault = g; place = r.place }))
  of_cut : length r.body < body_size r.kind
      → Row r (Refused (record { fault = fault.Cut; place = r.place }))
  of_body : {v : Verdict} → body_size r.kind ≤ length r.body → OfBody r v → Row r v

module _ (r : Record) where
  needs : (b : Bool) (g : Fault) → of_record (number_of g) ≡ true → (v : Verdict) → OfBody r v → OfBody r (need b g r.place v)
  needs true g o v h = h
  needs false g o v h = stops _ refl o

  either : (b : Bool) (v w : Verdict) → OfBody r v → OfBody r w → OfBody r (cond b v w)
  either true v w h k = h
  either false v w h k = k

  whole : (t : Tally) → OfBody r (whole_of t r)
  unfolding whole_of headed guarded cleared finished ended
  whole t =
      either (eqb r.kind 1) _ _ (needs (within 1 (byte r 0) 6) fault.Head refl _ (goes _))
      (either (eqb r.kind 2) _ _
      (needs (ltb t.guards 64) fault.Bounds refl _
      (needs (within 1 (byte r 0) t.clocks) fault.Timer refl _
      (needs (leb (byte r 1) 4) fault.Relation refl _
      (needs (leb (constant_of r) 4000) fault.Constant refl _ (goes _)))))
      (either (eqb r.kind 3) _ _
      (needs (within 1 (byte r 0) t.clocks) fault.Timer refl _
      (needs (is_free t.pending (byte r 0)) fault.Twice refl _ (goes _)))
      (either (eqb r.kind 4) _ _ (needs (ltb t.steps 16) fault.Steps refl _ (goes _))
      (needs (leb 1 t.steps && eqb t.pending 0) fault.Steps refl _ ends))))

  judged : (t : Tally) → Row r (judge_of t r)
  unfolding judge_of
  judged t =
      go (within 1 r.kind 5) refl (agree (eqb r.place 0) (eqb r.kind 1)) refl
      (leb (body_size r.kind) (length r.body)) refl
    where
      go : (a : Bool) → within 1 r.kind 5 ≡ a → (b : Bool) → agree (eqb r.place 0) (eqb r.kind 1) ≡ b
          → (c : Bool) → leb (body_size r.kind) (length r.body) ≡ c
          → Row r (need a fault.Kind r.place (need b fault.Head r.place (need c fault.Cut r.place (whole_of t r))))
      go false p b q c s = of_kind (λ i. p i && q i) fault.Kind refl
      go true p false q c s = of_kind (λ i. p i && q i) fault.Head refl
      go true p true q false s = of_cut (leb-false (body_size r.kind) (length r.body) s)
      go true p true q true s = of_body (leb-true (body_size r.kind) (length r.body) s) (whole t)

  pub row_is : (t : Tally) {v : Verdict} → judge_of t r ≡ v → Row r v
  row_is t e = subst (Row r) e (judged t)

  -- an accepted record is not cut
  pub next_whole : {u : Tally} → Row r (Next u) → body_size r.kind ≤ length r.body
  next_whole (of_body h _) = h

  -- a record is refused at its own place
  pub refused_place : {f : Refusal} → Row r (Refused f) → f.place ≡ r.place
  refused_place (of_kind _ g _) = refl
  refused_place (of_cut _) = refl
  refused_place (of_body _ (stops f p _)) = p

  -- for a fault of a table, and not for a tail
  pub refused_of_table : {f : Refusal} → Row r (Refused f) → of_table (number_of f.fault) ≡ true
  refused_of_table (of_kind _ g o) = of_table_lem (number_of g) o
  refused_of_table (of_cut _) = refl
  refused_of_table (of_body _ (stops f _ o)) = of_table_lem (number_of f.fault) o

  pub refused_number : {f : Refusal} → Row r (Refused f) → number_of f.fault ≢ 10
  refused_number (of_kind _ g o) = not_of_record g 10 o refl
  refused_number (of_cut _) = λ e. omega arith
  refused_number (of_body _ (stops f _ o)) = not_of_record f.fault 10 o refl

  -- for a cut, where its body is cut; for another fault, where its kind may not stand there, or its body is whole
  pub refused_cut : {f : Refusal} → Row r (Refused f) → f.fault ≡ fault.Cut → length r.body < body_size r.kind
  refused_cut (of_kind _ g o) e = absurd (not_of_record g 2 o refl (ap number_of e))
  refused_cut (of_cut h) e = h
  refused_cut (of_body _ (stops f _ o)) e = absurd (not_of_record f.fault 2 o refl (ap number_of e))

  pub refused_uncut : {f : Refusal} → Row r (Refused f) → f.fault ≢ fault.Cut
      → (stands r.place r.kind ≡ false) ⊎ (body_size r.kind ≤ length r.body)
  refused_uncut (of_kind s g _) n = inl s
  refused_uncut (of_cut h) n = absurd (n refl)
  refused_uncut (of_body h _) n = inr h

  -- where its kind may not stand, its body does not matter
  pub kind_alone : (t : Tally) (body : List ℕ) → stands r.place r.kind ≡ false
      → judge_of t r ≡ judge_of t (record { place = r.place; kind = r.kind; body = body })
  unfolding judge_of
  kind_alone t body = go (within 1 r.kind 5) (agree (eqb r.place 0) (eqb r.kind 1)) _ _
    where
      go : (a b : Bool) (v w : Verdict) → (a && b) ≡ false
          → need a fault.Kind r.place (need b fault.Head r.place v)
          ≡ need a fault.Kind r.place (need b fault.Head r.place w)
      go false b v w e = refl
      go true false v w e = refl
      go true true v w e = false_true (sym e)
