-- What the records that are taken keep to, so that they can be noted.
use Rattle.std.specs.Prelude.{◌≡◌, List, ℕ, ◌+◌, ◌≤◌, ◌<◌, length, get_or, take, drop}
use Rattle.std.proofs.Common.{sym, ap, subst, ◌∙◌, arith, lit<, length-take, length-drop}
use Rattle.table.specs.declared.Guard.{Guard}
use Rattle.records.specs.declared.Tally.{Tally}
use Rattle.records.specs.declared.Verdict.TheVariants.{Next}
use Rattle.records.specs.Rules.{body_size}
use Rattle.wire.specs.Records.{Bytes, record_at}
use Rattle.wire.specs.Reading.{byte, judge_of}
use Rattle.wire.specs.Listing.{guard, reset}
use Rattle.wire.specs.Laws.{byte_is}
use Rattle.format.specs.Located.{located_here}
use Rattle.format.specs.Shapes.{entry_at}
use Rattle.format.specs.Judged.{Told, is_head, is_entry, is_finish, judged}

-- A guard's record stands whole at a place, on a clock from 1 to 6.
pub record GuardAt (bytes : List ℕ) (at : ℕ) : Type 0 where
  pub whole : at + 4 < length bytes
  pub short : length bytes ≤ 4096
  pub low : 1 ≤ get_or bytes (at + 1) 0
  pub high : get_or bytes (at + 1) 0 ≤ 6

-- The record of a kind at a place can be noted after those that a tally counts.
pub record Counts (bytes : List ℕ) (at k : ℕ) (t : Tally) : Type 0 where
  pub guard : k ≡ 2 → GuardAt bytes at
  pub guards : t.guards ≤ 64
  pub steps : k ≡ 4 → t.steps ≤ 16

-- a tally of a table that is not refused so far
pub record Few (t : Tally) : Type 0 where
  pub clocks : t.clocks ≤ 6
  pub guards : t.guards ≤ 64

-- a guard's record, by its length and its first byte
guard_at_lem : (bytes : List ℕ) (at k : ℕ) (g : Guard) → length bytes ≤ 4096
    → record_at at k (drop (at + 1) bytes) ≡ entry_at at (guard g) → 1 ≤ g.clock → g.clock ≤ 6 → GuardAt bytes at
guard_at_lem bytes at k g short shape low high =
    record {
      whole = omega (arith, size, length-take (body_size k) (drop (at + 1) bytes), length-drop (at + 1) bytes);
      short = short;
      low = omega (arith, first);
      high = omega (arith, first);
    }
  where
    kind : k ≡ 2
    kind = ap (λ r. r.kind) shape

    size : length (take (body_size k) (drop (at + 1) bytes)) ≡ 4
    size = ap (λ r. length r.body) shape

    first : get_or bytes (at + 1) 0 ≡ g.clock
    first =
        byte_is bytes at k 0 (subst (λ n. 0 < body_size n) (sym kind) (lit< tt)) (at + 1) (omega arith)
        ∙ ap (λ r. byte r 0) shape

-- what the record at a place was, if it is taken
told_counts : (bytes : List ℕ) (at k : ℕ) → length bytes ≤ 4096 → (t u : Tally) → Few t
    → Told t (record_at at k (drop (at + 1) bytes)) (Next u) → Counts bytes at k t × Few u
told_counts bytes at k short t u few (is_head n _ shape low high) =
    let kind : k ≡ 1 = ap (λ r. r.kind) shape in (
      record { guard = λ e. absurd (omega arith); guards = few.guards; steps = λ e. absurd (omega arith) },
      record { clocks = high; guards = omega arith },
    )
told_counts bytes at k short t u few (is_entry (guard g) _ shape legal _ room) =
    let kind : k ≡ 2 = ap (λ r. r.kind) shape in
    let clocks = few.clocks in
    let guards = few.guards in (
      record {
        guard = λ _. guard_at_lem bytes at k g short shape legal.0 (omega (arith, legal.1));
        guards = guards;
        steps = λ e. absurd (omega arith);
      },
      record { clocks = clocks; guards = room },
    )
told_counts bytes at k short t u few (is_entry (reset j) _ shape legal _ room) =
    let kind : k ≡ 3 = ap (λ r. r.kind) shape in (
      record { guard = λ e. absurd (omega arith); guards = few.guards; steps = λ e. absurd (omega arith) },
      record { clocks = few.clocks; guards = room },
    )
told_counts bytes at k short t u few (is_finish _ shape more) =
    let kind : k ≡ 4 = ap (λ r. r.kind) shape in (
      record { guard = λ e. absurd (omega arith); guards = few.guards; steps = λ _. omega arith },
      record { clocks = few.clocks; guards = few.guards },
    )

-- A record that is taken can be noted, and the tally after it is such a one too.
pub counts : (bytes : List ℕ) → Bytes bytes → length bytes ≤ 4096 → (t u : Tally) (at : ℕ) → Few t
    → judge_of t (record_at at (get_or bytes at 0) (drop (at + 1) bytes)) ≡ Next u → Counts bytes at (get_or bytes at 0) t × Few u
counts bytes small short t u at few e =
    told_counts bytes at (get_or bytes at 0) short t u few
    (subst (Told t _) e (judged t _ (located_here bytes at small) few.guards))
