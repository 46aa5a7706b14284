-- The records of a table as it is encoded, and the tally after each.
use Rattle.std.specs.Prelude.{◌≡◌, refl, Bool, true, false, List, [], ◌∷◌, ◌++◌, ℕ, ◌+◌, ◌*◌, ◌/◌, ◌%◌, length}
use Rattle.std.proofs.Common.{sym, ap, arith}
use Rattle.table.specs.declared.Guard.{Guard}
use Rattle.table.specs.declared.Relation.{Relation}
use Rattle.table.specs.declared.Relation.TheVariants.{Under, AtMost, Exactly, AtLeast, Over}
use Rattle.table.specs.declared.Refusal.{Refusal}
use Rattle.table.specs.declared.Read.TheVariants as read
use Rattle.table.specs.Step.{Plain}
use Rattle.records.specs.declared.Tally.{Tally}
use Rattle.records.specs.declared.Verdict.{Verdict}
use Rattle.records.specs.declared.Verdict.TheVariants.{Refused}
use Rattle.records.specs.Checking as checking
use Rattle.wire.specs.Records.{Record}
use Rattle.wire.specs.Reading.{judge_of, check}
use Rattle.wire.specs.Laws.{onward}
use Rattle.records.specs.Rules.{relation_of, is_free, marked}
use Rattle.wire.specs.Listing.{Entry, guard, reset, entry, content_of, steps_in, guards_of}
use Rattle.format.specs.Encode.{relation_code, LegalEntry}

-- the record of the head; and at a place, of an entry, of a finished step and of the end
abbrev pub head_with : ℕ → Record
head_with n = record { place = 0; kind = 1; body = n ∷ [] }

abbrev pub entry_at : ℕ → Entry → Record
entry_at at (guard g) =
    record {
      place = at;
      kind = 2;
      body = g.clock ∷ relation_code g.relation ∷ g.constant % 256 ∷ g.constant / 256 ∷ [];
    }
entry_at at (reset j) = record { place = at; kind = 3; body = j ∷ [] }

abbrev pub finish_at : ℕ → Record
finish_at at = record { place = at; kind = 4; body = [] }

abbrev pub end_at : ℕ → Record
end_at at = record { place = at; kind = 5; body = [] }

-- what an entry adds to the number of guards
abbrev pub weight : Entry → ℕ
weight (guard g) = 1
weight (reset j) = 0

-- the digit that an entry marks, and whether it resets no clock a second time
abbrev pub digit_of : Entry → ℕ
digit_of (guard g) = 0
digit_of (reset j) = j

abbrev pub fresh : ℕ → Entry → Bool
fresh m (guard g) = true
fresh m (reset j) = is_free m j

-- the tally after the head; after an entry; and after a step, with the number of guards by then
abbrev pub head_tally : ℕ → Tally
head_tally n = record { clocks = n; steps = 0; guards = 0; pending = 0 }

abbrev pub entered : Tally → Entry → Tally
entered t e =
    record {
      clocks = t.clocks;
      steps = t.steps;
      guards = t.guards + weight e;
      pending = marked t.pending (digit_of e);
    }

abbrev pub stepped : Tally → ℕ → Tally
stepped t c = record { clocks = t.clocks; steps = t.steps + 1; guards = c; pending = 0 }

-- a relation and a constant are read back from their bytes
pub relation_back : (r : Relation) → relation_of (relation_code r) ≡ r
relation_back Under = refl
relation_back AtMost = refl
relation_back Exactly = refl
relation_back AtLeast = refl
relation_back Over = refl

pub constant_back : (c : ℕ) → c % 256 + c / 256 * 256 ≡ c
constant_back c = omega arith

-- so a guard of one clock is read back
pub guard_back : (g : Guard) → Plain g
    → record {
      clock = g.clock;
      second = 0;
      relation = relation_of (relation_code g.relation);
      minus = false;
      constant = g.constant % 256 + g.constant / 256 * 256;
    } ≡ g
guard_back g h =
    λ i. record {
      clock = g.clock;
      second = sym h.second i;
      relation = relation_back g.relation i;
      minus = sym h.minus i;
      constant = constant_back g.constant i;
    }

-- the record of a guard of one clock says that guard, and that of an entry that a table may have says that entry
pub content_guard : (at : ℕ) (g : Guard) → Plain g → content_of (entry_at at (guard g)) ≡ entry (guard g)
content_guard at g h = ap (λ b. entry (guard b)) (guard_back g h)

pub content_entry : (n at : ℕ) (e : Entry) → LegalEntry n e → content_of (entry_at at e) ≡ entry e
content_entry n at (guard g) l = content_guard at g l.3
content_entry n at (reset j) l = refl

-- how the answer goes on from a verdict, and the steps from an entry
pub check_judged : (len : ℕ) (t : Tally) (r : Record) (rs : List Record) (v : Verdict) → judge_of t r ≡ v
    → check len t (r ∷ rs) ≡ onward len t rs v
check_judged = checking.check_judged (λ r. r.place) judge_of

pub steps_entry : (begun : List Entry) (n at : ℕ) (e : Entry) (rs : List Record) → LegalEntry n e
    → steps_in begun (entry_at at e ∷ rs) ≡ steps_in (begun ++ (e ∷ [])) rs
steps_entry begun n at e rs l = says (entry_at at e) (content_entry n at e l)
  where
    says : (r : Record) → content_of r ≡ entry e → steps_in begun (r ∷ rs) ≡ steps_in (begun ++ (e ∷ [])) rs
    says r c = unfold steps_in in rw (c, steps_in)

pub guards_more : (e : Entry) (es : List Entry) → length (guards_of (e ∷ es)) ≡ weight e + length (guards_of es)
unfolding guards_of
guards_more (guard g) es = omega arith
guards_more (reset j) es = omega arith

-- a refusal is no count, and false is not true
pub refused_counted : {A : Type 0} {f : Refusal} {n L g : ℕ} → read.Refused f ≡ read.Counted n L g → A
refused_counted e = let z : ◌≡◌ {A = ℕ} 0 1 = cc in absurd (omega arith)

pub false_true : {A : Type 0} → false ≡ true → A
false_true e = let z : ◌≡◌ {A = ℕ} 0 1 = cc in absurd (omega arith)
