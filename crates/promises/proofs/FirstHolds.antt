-- The first promise holds.
use Rattle.std.specs.Prelude.{◌≡◌, Bool, true, false, cond, List, ℕ, ◌+◌, ◌*◌, ◌/◌, ◌≤◌, leb, ℤ, length}
use Rattle.std.proofs.Math.Path.{refl, ap, subst}
use Rattle.std.proofs.Common.{sym, ◌∙◌, arith, le-leb}
use Rattle.std.proofs.Math.Decide.{dec_le}
use Rattle.std.proofs.Math.ListN.{get_or}
use Rattle.std.proofs.lemmas.Bool.{lt-leb}
use Rattle.table.specs.Refusal.{placeless}
use Rattle.table.specs.Step.{Step}
use Rattle.table.specs.declared.Fault.{Fault}
use Rattle.table.specs.declared.Fault.TheVariants as fault
use Rattle.table.specs.declared.Refusal.{Refusal}
use Rattle.table.specs.declared.Read.{Read}
use Rattle.table.specs.declared.Read.TheVariants as read
use Rattle.runs.specs.declared.Start.{Start}
use Rattle.runs.specs.Demand.{Starts, starts_of}
use Rattle.runs.specs.Start.{start_upper}
use Rattle.wire.specs.Records.{Bytes}
use Rattle.wire.specs.Reading.{read_of}
use Rattle.wire.specs.Listing.{Listing, listing}
use Rattle.format.specs.Encode.{encode, Legal}
use Rattle.format.proofs.Encoded.{read_encoded}
use Rattle.format.proofs.Accepted.{accepted_written}
use Rattle.format.specs.FirstFault.{fault_number}
use Rattle.asking.specs.Admission.{in_range, admit_of}
use Rattle.asking.specs.Rounds.{clocks_of, cycle_of, rounds_in, demands_in}
use Rattle.asking.specs.declared.Admission.{Admission}
use Rattle.asking.specs.declared.Admission.TheVariants as admission
use Rattle.rounds.specs.declared.Count.{Count}
use Rattle.rounds.specs.declared.Count.TheVariants as count
use Rattle.rounds.specs.Answer as rounds
use Rattle.rounds.specs.One.{counts_nothing}
use Rattle.plan.specs.declared.Outcome.{Outcome}
use Rattle.plan.specs.declared.Outcome.TheVariants as outcome
use Rattle.plan.specs.Answer as plan
use Rattle.demands.specs.declared.Listed.{Listed}
use Rattle.demands.specs.declared.Listed.TheVariants as listed
use Rattle.demands.specs.Listed.{need, answer_of, listed_of, unless_refused, row_room, row_of}
use Rattle.cells.specs.Lines.{cells, over}
use Rattle.answers.specs.Four.{four, read_numbers}
use Rattle.numbers.specs.Numbers.{count_numbers, plan_numbers, demands_numbers}
use Rattle.promises.specs.First.{row, plan_row, demands_row, Refuses, AcceptedBy, RefusedBy, First}
use Rattle.promises.specs.Rows.{number_some, Told, fails, passes, told_test, refuses_fault, refuses_none}

-- ---- rounds: a count is no refusal, since 0 rounds always run
counted_first : (r : Count) → rounds.Allows r 0 → get_or (count_numbers r) 0 0 ≡ 0
counted_first (count.Finite c) h = refl
counted_first count.Endless h = refl
counted_first (count.Refused f) h = absurd h

-- ---- plan: the rows of 01's table are the tests of the question
abbrev Accepted : Admission → Type 0
Accepted q = q ≡ admission.Accepted

plan_told : (n L k : ℕ) (r : plan.Rooms)
    → Told admission.Refused Accepted (plan.admit_rooms n L k r) (plan_row n L k r)
unfolding admit_of
plan_told n L k r =
    told_test admission.Refused Accepted (in_range k L) fault.Rounds _ _
    (told_test admission.Refused Accepted (leb (k * L) (length r.times)) fault.Times _ _
    (told_test admission.Refused Accepted (leb n (length r.starts)) fault.Starts _ _
    (told_test admission.Refused Accepted (leb (k * L + n + 1) (length r.loop)) fault.Loop admission.Accepted 0 (passes refl refl))))

answered_first : (n : ℕ) (σ : List Step) (D : Starts) (r r' : plan.Rooms) (o : Outcome) → plan.Answered n σ D r r' o → get_or (plan_numbers o) 0 0 ≡ 0
answered_first n σ D r r' (outcome.Found P) h = refl
answered_first n σ D r r' (outcome.Loop m) h = refl
answered_first n σ D r r' (outcome.Refused f) h = absurd h

plan_refuses : (q : Admission) (number n : ℕ) (σ : List Step) (D : Starts) (r r' : plan.Rooms) (o : Outcome)
    → Told admission.Refused Accepted q number → plan.Meets q n σ D r r' o
    → Refuses number (r' ≡ r) (plan_numbers o)
plan_refuses q number n σ D r r' o (fails f e h) m =
    let told = subst (λ p. plan.Meets p n σ D r r' o) e m in refuses_fault f number (r' ≡ r) _ h (ap plan_numbers told.0) told.1
plan_refuses q number n σ D r r' o (passes e h) m =
    refuses_none number (r' ≡ r) _ h (answered_first n σ D r r' o (subst (λ p. plan.Meets p n σ D r r' o) e m))

-- ---- demands: a row has four places to a demand
four_places : (c r : ℕ) → leb c (r / 4) ≡ leb (4 * c) r
four_places c r = go (dec_le c (r / 4))
  where
    go : Dec (c ≤ r / 4) → leb c (r / 4) ≡ leb (4 * c) r
    go (yes h) = le-leb c (r / 4) h ∙ sym (le-leb (4 * c) r (omega arith))
    go (no h) = lt-leb c (r / 4) (omega arith) ∙ sym (lt-leb (4 * c) r (omega arith))

abbrev Wrote : ℕ → Listed → Type 0
Wrote m o = o ≡ listed.Written m

abbrev placed : Bool → Fault → Listed → Listed
placed b f rest = cond b rest (listed.Refused (placeless f))

need_placed : (b : Bool) (f : Fault) (rest : Listed) → need b f rest ≡ placed b f rest
need_placed true f rest = refl
need_placed false f rest = refl

demands_told : (L k count room : ℕ)
    → Told listed.Refused (Wrote count) (answer_of L k count (room / 4)) (demands_row L k count room)
unfolding answer_of
demands_told L k count room =
    subst (λ o. Told listed.Refused (Wrote count) o (demands_row L k count room)) (sym shape)
    (told_test listed.Refused (Wrote count) (in_range k L) fault.Rounds _ _
    (told_test listed.Refused (Wrote count) (leb (4 * count) room) fault.List (listed.Written count) 0 (passes refl refl)))
  where
    shape : need (in_range k L) fault.Rounds (need (leb count (room / 4)) fault.List (listed.Written count))
        ≡ placed (in_range k L) fault.Rounds (placed (leb (4 * count) room) fault.List (listed.Written count))
    shape =
        need_placed (in_range k L) fault.Rounds _
        ∙ ap (placed (in_range k L) fault.Rounds)
        (need_placed (leb count (room / 4)) fault.List (listed.Written count)
        ∙ ap (λ b. placed b fault.List (listed.Written count)) (four_places count room))

demands_refuses : (m : ℕ) (o : Listed) (number : ℕ) (new before after : List ℤ) → Told listed.Refused (Wrote m) o number
    → after ≡ unless_refused o new before → Refuses number (after ≡ before) (demands_numbers o)
demands_refuses m o number new before after (fails f e h) w =
    refuses_fault f number (after ≡ before) _ h (ap demands_numbers e) (w ∙ ap (λ q. unless_refused q new before) e)
demands_refuses m o number new before after (passes e h) w =
    refuses_none number (after ≡ before) _ h (ap (λ q. get_or (demands_numbers q) 0 0) e)

demands_written : (m : ℕ) (o : Listed) (number : ℕ) (new before after : List ℤ) → Told listed.Refused (Wrote m) o number
    → after ≡ unless_refused o new before → number ≡ 0 → (demands_numbers o ≡ four 0 m 0 0) × (after ≡ over new before)
demands_written m o number new before after (fails f e h) w z = absurd (omega (arith, number_some f))
demands_written m o number new before after (passes e h) w z =
    (ap demands_numbers e, w ∙ ap (λ q. unless_refused q new before) e)

-- ---- bytes that are accepted
module _ (bytes : List ℕ) (n L g : ℕ) (e : read_of bytes ≡ read.Counted n L g) where
  asking : (k : ℕ) (r : plan.Rooms) → plan.asking_of bytes k r ≡ plan.admit_rooms n L k r
  unfolding plan.asking_of
  asking k r = rw (plan.asking_of, e) refl

  listing_of : (v : Start) (k room : ℕ) → listed_of bytes v k room ≡ answer_of L k (length (demands_in bytes v k)) room
  unfolding listed_of
  listing_of v k room = rw (listed_of, e) refl

  demands_asked : (v : Start) (k : ℕ) (before : List ℤ)
      → Told listed.Refused (Wrote (length (demands_in bytes v k))) (listed_of bytes v k (row_room before))
      (demands_row L k (length (demands_in bytes v k)) (length before))
  demands_asked v k before =
      subst
      (λ o. Told listed.Refused (Wrote (length (demands_in bytes v k))) o (demands_row L k (length (demands_in bytes v k)) (length before)))
      (sym (listing_of v k (row_room before))) (demands_told L k (length (demands_in bytes v k)) (length before))

  accepted_by_lem : AcceptedBy bytes n L g
  unfolding row_of
  accepted_by_lem =
      record {
        read = λ a s. s ∙ ap read_numbers e;
        rounds = λ v a s.
            let counts : rounds.Counts (clocks_of bytes) (starts_of v) (cycle_of bytes) s.count =
            subst (λ q. rounds.Answers q bytes v s.count) e s.answers in
            ap (λ l. get_or l 0 0) s.numbers
            ∙ counted_first s.count (counts_nothing _ _ _ s.count (start_upper v (clocks_of bytes)) counts);
        plan = λ v k before after a s.
            subst (Refuses (plan_row n L k before) (after ≡ before)) (sym s.numbers)
            (plan_refuses (plan.admit_rooms n L k before) (plan_row n L k before) (clocks_of bytes) (rounds_in bytes k) (starts_of v) before after s.outcome
            (plan_told n L k before)
            (subst (λ q. plan.Meets q (clocks_of bytes) (rounds_in bytes k) (starts_of v) before after s.outcome) (asking k before) s.answers.answers));
        demands = λ v k before after a s.
            subst (Refuses (demands_row L k (length (demands_in bytes v k)) (length before)) (after ≡ before)) (sym s.numbers)
            (demands_refuses (length (demands_in bytes v k)) (listed_of bytes v k (row_room before))
            (demands_row L k (length (demands_in bytes v k)) (length before)) (cells (demands_in bytes v k)) before after
            (demands_asked v k before) s.row);
        demanded = λ v k before after a s z.
            let w =
            demands_written (length (demands_in bytes v k)) (listed_of bytes v k (row_room before))
            (demands_row L k (length (demands_in bytes v k)) (length before)) (cells (demands_in bytes v k)) before after
            (demands_asked v k before) s.row z in
            (s.numbers ∙ w.0, w.1);
      }

-- ---- bytes that are refused
module _ (bytes : List ℕ) (f : Refusal) (e : read_of bytes ≡ read.Refused f) where
  not_asking : (k : ℕ) (r : plan.Rooms) → plan.asking_of bytes k r ≡ admission.Refused f
  unfolding plan.asking_of
  not_asking k r = rw (plan.asking_of, e) refl

  not_listing : (v : Start) (k room : ℕ) → listed_of bytes v k room ≡ listed.Refused f
  unfolding listed_of
  not_listing v k room = rw (listed_of, e) refl

  refused_by : RefusedBy bytes
  unfolding row_of
  refused_by =
      record {
        fault = f;
        found = e;
        number = fault_number bytes f e;
        read = λ a s. s ∙ ap read_numbers e;
        rounds = λ v a s. s.numbers ∙ ap count_numbers (subst (λ q. rounds.Answers q bytes v s.count) e s.answers);
        plan = λ v k before after a s.
            let m =
            subst (λ q. plan.Meets q (clocks_of bytes) (rounds_in bytes k) (starts_of v) before after s.outcome) (not_asking k before)
            s.answers.answers in
            (s.numbers ∙ ap plan_numbers m.0, m.1);
        demands = λ v k before after a s. (
          s.numbers ∙ ap demands_numbers (not_listing v k (row_room before)),
          s.row ∙ ap (λ o. unless_refused o (cells (demands_in bytes v k)) before) (not_listing v k (row_room before)),
        );
      }

-- The first promise.
pub first_holds : First
first_holds =
    record {
      legal = λ l h. accepted_by_lem (encode l) _ _ _ (read_encoded l h).0;
      other = λ bytes h none. by_answer bytes h none (read_of bytes) refl;
    }
  where
    by_answer : (bytes : List ℕ) → Bytes bytes → ((l : Listing) → Legal l → encode l ≡ bytes → ⊥)
        → (r : Read) → read_of bytes ≡ r → RefusedBy bytes
    by_answer bytes h none (read.Refused f) e = refused_by bytes f e
    by_answer bytes h none (read.Counted n L g) e =
        let w = accepted_written bytes h n L g e in absurd (none (listing bytes) w.legal w.written)
