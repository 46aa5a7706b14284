-- Exactly the encodings of tables within the limits are accepted.
use Rattle.std.specs.Prelude.{◌≡◌, refl, ℕ, suc, ◌≤◌, length}
use Rattle.std.proofs.Common.{sym, ◌∙◌, ap, subst, arith}
use mathlib.Core.List.{List, [], ◌∷◌, Memᴰ}
use Rattle.table.specs.declared.Read.TheVariants as read
use Rattle.records.specs.declared.Verdict.{Verdict}
use Rattle.records.specs.Rules.{body_size}
use Rattle.wire.specs.Records.{Record, record_at, records_from, records}
use Rattle.records.specs.Checking.{start, check_of}
use Rattle.wire.specs.Reading.{byte, judge_of, check, read_of}
use Rattle.wire.specs.Laws.{onward, read_short, counted_short}
use Rattle.wire.specs.Listing.{Listing, steps_in, listing, guards_of}
use Rattle.format.specs.Encode.{encode, guard_count, Legal}
use Rattle.format.proofs.Longest.{longest}
use Rattle.format.specs.Shapes.{head_tally, check_judged, refused_counted}
use Rattle.wire.specs.Records.{Bytes}
use Rattle.format.specs.Located.{Located, bytes_in, bytes_in_lem, located}
use Rattle.format.specs.Judged.{Told, is_refused, is_head, is_entry, is_finish, is_end, judged}
use Rattle.format.proofs.Ending.{before, Ends, kept_none, ends}

-- A table within the limits, and the counts are its own.
pub record Counted (l : Listing) (n L g : ℕ) : Type 0 where
  pub legal : Legal l
  pub clocks : n ≡ l.clocks
  pub steps : L ≡ length l.steps
  pub guards : g ≡ guard_count l.steps

-- Bytes write a table down: it is within the limits, they are its encoding, and the counts are its own.
pub record Written (l : Listing) (bytes : List ℕ) (n L g : ℕ) : Type 0 where
  pub legal : Legal l
  pub written : encode l ≡ bytes
  pub clocks : n ≡ l.clocks
  pub steps : L ≡ length l.steps
  pub guards : g ≡ guard_count l.steps

-- the head, and then the rest
written_judged : (bytes : List ℕ) (r : Record) (rs : List Record) → r.place ≡ 0
    → bytes_in (r ∷ rs) ≡ bytes → ((x : Record) → Memᴰ x rs → Located 1 x) → (n L g : ℕ)
    → {v : Verdict} → Told start r v → onward (length bytes) start rs v ≡ read.Counted n L g
    → Written (record { clocks = byte r 0; steps = steps_in [] (r ∷ rs) }) bytes n L g
unfolding bytes_in steps_in encode before guards_of
written_judged bytes r rs first b f n L g (is_refused _) q = refused_counted q
written_judged bytes r rs first b f n L g (is_entry e p shape h new room) q = absurd (omega arith)
written_judged bytes r rs first b f n L g (is_finish p shape h) q = absurd (omega arith)
written_judged bytes r rs first b f n L g (is_end p shape some none) q = absurd (omega arith)
written_judged bytes r rs first b f n L g (is_head m _ shape low high) q =
    subst (λ x. Written (record { clocks = byte x 0; steps = steps_in [] (x ∷ rs) }) bytes n L g) (sym shape)
    (record {
      legal = record {
        clocks_some = low;
        clocks_few = high;
        steps_some = omega (arith, w.steps, w.some);
        steps_few = omega (arith, w.steps, w.few);
        guards_few = omega (arith, w.guards, w.room);
        each = w.entries;
      };
      written = whole;
      clocks = w.clocks;
      steps = omega (arith, w.steps);
      guards = omega (arith, w.guards);
    })
  where
    w : Ends (head_tally m) [] (bytes_in rs) (steps_in [] rs) n L g
    w =
        ends (length bytes) n L g rs f (head_tally m) [] (kept_none (head_tally m) (omega arith) (omega arith)) q

    whole : encode (record { clocks = m; steps = steps_in [] rs }) ≡ bytes
    whole = ap (λ bs. 1 ∷ m ∷ bs) (sym w.written) ∙ ap (λ x. bytes_in (x ∷ rs)) (sym shape) ∙ b

-- the same by the records alone, whatever their length
pub written_checked : (bytes : List ℕ) → Bytes bytes → (n L g : ℕ)
    → check (length bytes) start (records bytes) ≡ read.Counted n L g → Written (listing bytes) bytes n L g
unfolding check_of records_from listing
written_checked [] h n L g e = refused_counted e
written_checked (k ∷ rest) h n L g e =
    let r = record_at 0 k rest in
    let rs = records_from (body_size k) 1 rest in
    written_judged (k ∷ rest) r rs refl (bytes_in_lem 0 0 (k ∷ rest)) (located (body_size k) 1 rest (λ i. h (suc i))) n L g
    (judged start r (located 0 0 (k ∷ rest) h r (Memᴰ.head refl)) (omega arith))
    (sym (check_judged (length (k ∷ rest)) start r rs (judge_of start r) refl) ∙ e)

-- Accepted bytes write down the table that is read from them, and the counts of the answer are that table's. So with
-- `read_encoded` exactly the encodings are accepted, with the guards and resets of a step in any order.
pub accepted_written : (bytes : List ℕ) → Bytes bytes → (n L g : ℕ) → read_of bytes ≡ read.Counted n L g
    → Written (listing bytes) bytes n L g
accepted_written bytes h n L g e =
    let short = counted_short bytes n L g e in
    written_checked bytes h n L g (sym (read_short bytes short) ∙ e)

-- What most laws ask of accepted bytes.
pub accepted_counted : (bytes : List ℕ) → Bytes bytes → (n L g : ℕ) → read_of bytes ≡ read.Counted n L g → Counted (listing bytes) n L g
accepted_counted bytes h n L g e =
    let w = accepted_written bytes h n L g e in record { legal = w.legal; clocks = w.clocks; steps = w.steps; guards = w.guards }

-- So what is accepted has at most 531 bytes.
pub accepted_longest : (bytes : List ℕ) → Bytes bytes → (n L g : ℕ) → read_of bytes ≡ read.Counted n L g → length bytes ≤ 531
accepted_longest bytes h n L g e =
    let w = accepted_written bytes h n L g e in
    subst (λ bs. length bs ≤ 531) w.written (longest (listing bytes) w.legal)
