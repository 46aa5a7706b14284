-- The bytes of a record, by their places in the table.
use mathlib.Core.Path.{◌≡◌, sym, ◌∙◌, ap, subst}
use mathlib.Core.List.{List}
use mathlib.Core.Bool.{true, false}
use Prim.Native.Nat.{ℕ, ◌+◌, ◌*◌, ◌-◌, ◌≤◌, ◌<◌, min}
use native.Mathlib.Omega.{arith}
use lib.ListN.{length, get_or, take, drop, length-take, length-drop}
use lib.Dec.{leb, lit<}
use borrow.Author.Tests.{ne_eqb, le-leb, lt-leb, leb-true}
use Rattle.records.specs.Rules.{body_size, headed, guarded, cleared, finished, ended}
use Rattle.wire.specs.Records.{record_at}
use Rattle.wire.specs.Laws.{byte_is}
use Rattle.records.specs.declared.Tally.{Tally}
use Rattle.records.specs.declared.Verdict.{Verdict}
use Rattle.wire.specs.Reading.{whole_of}

-- the record of each kind, by its bytes
module _ (bytes : List ℕ) (at : ℕ) (t : Tally) where
  abbrev whole : ℕ → Verdict
  whole k = whole_of t (record_at at k (drop (at + 1) bytes))

  pub head_is : (k : ℕ) → k ≡ 1 → headed at (get_or bytes (at + 1) 0) ≡ whole k
  unfolding whole_of
  head_is k e = ap (headed at) (byte_is bytes at 1 0 (lit< tt) (at + 1) (omega arith)) ∙ ap whole (sym e)

  pub guard_is : (k : ℕ) → k ≡ 2
      → guarded t at (get_or bytes (at + 1) 0) (get_or bytes (at + 2) 0) (get_or bytes (at + 3) 0 + get_or bytes (at + 4) 0 * 256) ≡ whole k
  unfolding whole_of
  guard_is k e =
      (λ j. guarded t at (byte_is bytes at 2 0 (lit< tt) (at + 1) (omega arith) j) (byte_is bytes at 2 1 (lit< tt) (at + 2) (omega arith) j)
      (byte_is bytes at 2 2 (lit< tt) (at + 3) (omega arith) j + byte_is bytes at 2 3 (lit< tt) (at + 4) (omega arith) j * 256))
      ∙ ap whole (sym e)

  pub reset_is : (k : ℕ) → k ≡ 3 → cleared t at (get_or bytes (at + 1) 0) ≡ whole k
  unfolding whole_of
  reset_is k e = ap (cleared t at) (byte_is bytes at 3 0 (lit< tt) (at + 1) (omega arith)) ∙ ap whole (sym e)

  pub step_is : (k : ℕ) → k ≡ 4 → finished t at ≡ whole k
  unfolding whole_of
  step_is k e = ap whole (sym e)

  pub end_is : (k : ℕ) → (k ≡ 1 → ⊥) → (k ≡ 2 → ⊥) → (k ≡ 3 → ⊥) → (k ≡ 4 → ⊥) → ended t at ≡ whole k
  unfolding whole_of
  end_is k n₁ n₂ n₃ n₄ = simp (ne_eqb k 1 n₁, ne_eqb k 2 n₂, ne_eqb k 3 n₃, ne_eqb k 4 n₄)

-- whether a body is cut short
body_long : (bytes : List ℕ) (at n : ℕ) → length (take n (drop (at + 1) bytes)) ≡ min n (length bytes - (at + 1))
body_long bytes at n = simp (length-take, length-drop)

-- the body of a kind, by the kind's number
pub kind_within : (k n at size : ℕ) → k ≡ n → at + body_size k < size → at + body_size n < size
kind_within k n at size e h = subst (λ j. at + body_size j < size) e h

-- a body that is not cut short is within the bytes
pub body_within : (bytes : List ℕ) (at n : ℕ) → at < length bytes → leb n (length (take n (drop (at + 1) bytes))) ≡ true
    → at + n < length bytes
body_within bytes at n h e = omega (arith, leb-true n _ e, body_long bytes at n)

pub cut : (bytes : List ℕ) (at n : ℕ) → length bytes - at - 1 < n → leb n (length (take n (drop (at + 1) bytes))) ≡ false
cut bytes at n h = lt-leb n _ (omega (arith, body_long bytes at n))

pub uncut : (bytes : List ℕ) (at n : ℕ) → n ≤ length bytes - at - 1 → leb n (length (take n (drop (at + 1) bytes))) ≡ true
uncut bytes at n h = le-leb n _ (omega (arith, body_long bytes at n))
