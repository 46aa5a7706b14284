-- The bytes of a line are written one after the other.
use borrow.Author.Rules.{rules}
use borrow.Author.Tests.{ne_eqb}
use mathlib.Core.Path.{◌≡◌, refl}
use mathlib.Core.List.{List, [], ◌∷◌, ◌++◌}
use Prim.Native.Nat.{ℕ, ◌+◌, ◌/◌, ◌%◌}
use native.Mathlib.Omega.{arith}
use lib.ListN.{set}
use Rattle.text.specs.Over.{over, Written, written_then, written_as}
use Rattle.card_lines.specs.declared.Found.{Found}
use Rattle.card_reading.specs.Judged.{found_bytes}
use Rattle.card_reading.proofs.put_found.Goals as goal

-- one byte is written, and one more
first_byte : {l m : List ℕ} (at b : ℕ) → m ≡ set l at b → Written l at (b ∷ []) m (at + 1)
unfolding over
first_byte at b e = record { contents = e; place = refl }

next_byte : {l m k xs : List ℕ} {at : ℕ} (n b : ℕ) → Written l at xs m (at + n) → k ≡ set m (at + n) b
    → Written l at (xs ++ b ∷ []) k (at + (n + 1))
unfolding over
next_byte {at = at} n b w e = written_then w (record { contents = e; place = omega arith })

-- the bytes by the kind
bound_bytes : (f : Found) → f.kind ≡ 2
    → f.kind % 256 ∷ f.first % 256 ∷ f.relation % 256 ∷ f.second % 256 ∷ f.second / 256 % 256 ∷ [] ≡ found_bytes f
unfolding found_bytes
bound_bytes f e = simp e refl

step_bytes_lem : (f : Found) → f.kind ≡ 4 → f.kind % 256 ∷ [] ≡ found_bytes f
unfolding found_bytes
step_bytes_lem f e = simp e refl

end_bytes : (f : Found) → f.kind ≡ 5 → f.kind % 256 ∷ [] ≡ found_bytes f
unfolding found_bytes
end_bytes f e = simp e refl

short_bytes : (f : Found) → (f.kind ≡ 2 → ⊥) → (f.kind ≡ 4 → ⊥) → (f.kind ≡ 5 → ⊥)
    → f.kind % 256 ∷ f.first % 256 ∷ [] ≡ found_bytes f
unfolding found_bytes
short_bytes f a b c = simp (ne_eqb f.kind 2 a, ne_eqb f.kind 4 b, ne_eqb f.kind 5 c) refl

pub returns-then-f-eq2 : goal.returns-then-f-eq2
returns-then-f-eq2 c =
    let a = c.args in
    let f = a.f in record {
      written = written_as (bound_bytes f c.if-f-eq2.true)
          (next_byte 4 (f.second / 256 % 256)
          (next_byte 3 (f.second % 256)
          (next_byte 2 (f.relation % 256)
          (next_byte 1 (f.first % 256)
          (first_byte a.to (f.kind % 256) c.put_byte.ensures)
          c.put_byte-then-f-eq2.ensures)
          c.put_byte-then-f-eq2-2.ensures)
          c.put_byte-then-f-eq2-3.ensures)
          c.put_byte-then-f-eq2-4.ensures);
      upper_bound = omega arith;
    }

pub returns-then-f-eq4 : goal.returns-then-f-eq4
returns-then-f-eq4 c =
    let a = c.args in record {
      written = written_as (step_bytes_lem a.f c.if-f-eq4.true)
          (first_byte a.to (a.f.kind % 256) c.put_byte.ensures);
      upper_bound = omega arith;
    }

pub returns-then-f-eq5 : goal.returns-then-f-eq5
returns-then-f-eq5 c =
    let a = c.args in record {
      written = written_as (end_bytes a.f c.if-f-eq5.true)
          (first_byte a.to (a.f.kind % 256) c.put_byte.ensures);
      upper_bound = omega arith;
    }

pub returns : goal.returns
returns c =
    let a = c.args in
    let f = a.f in record {
      written = written_as (short_bytes f c.if-f-eq2.false c.if-f-eq4.false c.if-f-eq5.false)
          (next_byte 1 (f.first % 256)
          (first_byte a.to (f.kind % 256) c.put_byte.ensures)
          c.put_byte-2.ensures);
      upper_bound = omega arith;
    }
