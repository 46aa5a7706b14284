-- The left part of an effect: its bounds among the vertices of the configuration before.
use Rattle.std.specs.Prelude.{◌≡◌, refl, Bool, true, false, ◌≢◌, ◌↔◌, List, ℕ, ◌+◌, ◌-◌, ◌*◌, ◌≤◌, ◌<◌, length, take, drop, get_or}
use Rattle.std.proofs.Common.{ap, sym, ◌∙◌, arith, not-suc-le-zero, below_more, zero-add, nat_eq, get_or-drop, get_or-take, length-drop, length-take-le}
use Rattle.std.proofs.lemmas.List.{ext_get_or}
use Rattle.std.proofs.lemmas.List.FromFn.{length-range_with_len, get_or-range_with_len}
use Rattle.std.specs.Bool.{MatchBool}
use Rattle.std.specs.Cmp.Lexicographic.{pointwise, same_text, other_text}
use Rattle.std.specs.List.{AllWithin, HoldsAt, range_with_len}
use Rattle.zones.specs.Bound.{⊑_refl}
use Rattle.zones.specs.Codes.{bound}
use Rattle.zones.specs.Cells.{cell, matrix}
use Rattle.effects.specs.Whole.{Side, whole, whole_left}
use Rattle.effects.specs.Settle.{Left}
use Rattle.gluing.specs.Laying.{code, effect_at}

-- n codes of m from index `at` on are those of l from index `from` on.
pub record SameLine (at from n : ℕ) (m l : List ℕ) : Type 0 where
  pub same : (c : ℕ) → c < n → get_or m (at + c) 0 ≡ get_or l (from + c) 0

-- The first n rows of w codes of the effect of m at `at` are those of the cells of l.
pub record SameLeft (w n at : ℕ) (m l : List ℕ) : Type 0 where
  pub same : (a b : ℕ) → a < n → b < w → code m at a b ≡ cell l a b

-- All of them: then the left part of one is as tight as that of the other.
pub same_tight : {w at : ℕ} {m l : List ℕ} → Side w → SameLeft w w at m l
    → Left (whole w (effect_at m at)) (whole w (matrix l))
same_tight {w} {at} {m} {l} side e a b ha hb =
    rw (whole_left w side (effect_at m at) (matrix l) (λ u v hu hv. ap bound (e.same u v hu hv)) a b ha hb) (⊑_refl _)

pub clash : false ≡ true → ⊥
clash q = let z : ◌≡◌ {A = ℕ} 0 1 = cc in omega arith

-- ---- Code by code

module _ {at from : ℕ} {m l : List ℕ} where
  pub line_none : SameLine at from 0 m l
  line_none = record { same = λ c h. absurd (not-suc-le-zero h) }

  pub line_more : {n : ℕ} → SameLine at from n m l → get_or m (at + n) 0 ≡ get_or l (from + n) 0 → SameLine at from (n + 1) m l
  line_more {n} h e =
      record { same = below_more (λ (c : ℕ). get_or m (at + c) 0 ≡ get_or l (from + c) 0) n h.same e }

  pub line_all : {n : ℕ} → SameLine at from n m l → (true ≡ true) ↔ SameLine at from n m l
  line_all h = (λ t. h, λ s. refl)

  pub line_not : {n : ℕ} (c : ℕ) → c < n → get_or m (at + c) 0 ≢ get_or l (from + c) 0 → (false ≡ true) ↔ SameLine at from n m l
  line_not c h e = (λ t. absurd (clash t), λ s. absurd (e (s.same c h)))

-- ---- As parts of the two lists

part_at : (a n : ℕ) (x : List ℕ) (c : ℕ) → c < n → get_or x (a + c) 0 ≡ get_or (take (a + n - a) (drop a x)) c 0
part_at a n x c h = sym (get_or-take (a + n - a) (drop a x) c 0 (omega arith) ∙ get_or-drop a x c 0)

part_length : (a n : ℕ) (x : List ℕ) → a + n ≤ length x → length (take (a + n - a) (drop a x)) ≡ n
part_length a n x h =
    length-take-le (a + n - a) (drop a x) (omega (arith, length-drop a x)) ∙ omega arith

-- What their comparison tells.
pub parts_told : (at from n : ℕ) (m l : List ℕ) → true ≡ pointwise nat_eq (take (at + n - at) (drop at m)) (take (from + n - from) (drop from l))
    → SameLine at from n m l
parts_told at from n m l e =
    record { same = λ c b. part_at at n m c b ∙ ap (λ x. get_or x c 0) (same_text _ _ e) ∙ sym (part_at from n l c b) }

pub parts_differ : (at from n : ℕ) (m l : List ℕ) → at + n ≤ length m → from + n ≤ length l
    → false ≡ pointwise nat_eq (take (at + n - at) (drop at m)) (take (from + n - from) (drop from l)) → ¬ SameLine at from n m l
parts_differ at from n m l h k e s = other_text _ _ e equal
  where
    equal : take (at + n - at) (drop at m) ≡ take (from + n - from) (drop from l)
    equal =
        ext_get_or 0 _ _ (part_length at n m h ∙ sym (part_length from n l k)) (λ c b.
        let i : c < n = omega (arith, part_length at n m h) in
        sym (part_at at n m c i) ∙ s.same c i ∙ part_at from n l c i)

-- ---- Row by row

module _ {w at : ℕ} {m l : List ℕ} where
  pub left_none : SameLeft w 0 at m l
  left_none = record { same = λ a b h. absurd (not-suc-le-zero h) }

  pub left_more : {n : ℕ} → SameLeft w n at m l → SameLine (at + n * 14) (n * 21) w m l → SameLeft w (n + 1) at m l
  left_more {n} h e = record {
    same = λ a b ha hb.
        below_more (λ (a : ℕ). code m at a b ≡ cell l a b) n (λ a k. h.same a b k hb) (e.same b hb) a ha;
  }

  pub left_all : {n : ℕ} → SameLeft w n at m l → (true ≡ true) ↔ SameLeft w n at m l
  left_all h = (λ t. h, λ s. refl)

  pub left_not : {n : ℕ} (a : ℕ) → a < n → (b : Bool) → b ≡ false → (b ≡ true) ↔ SameLine (at + a * 14) (a * 21) w m l
      → (false ≡ true) ↔ SameLeft w n at m l
  left_not a h b e i = (
    (λ t. absurd (clash t)),
    λ s. absurd (clash (sym e ∙ i.1 (record { same = λ c k. s.same a c h k }))),
  )

-- ---- All rows at once

-- Row r.
abbrev pub Row : ℕ → ℕ → List ℕ → List ℕ → ℕ → Type 0
Row w at m l r = SameLine (at + r * 14) (r * 21) w m l

row_of : (n r : ℕ) → r < n → (r < length (range_with_len 0 n)) × (get_or (range_with_len 0 n) r 0 ≡ r)
row_of n r h = (omega (arith, length-range_with_len 0 n), get_or-range_with_len 0 n r 0 h ∙ zero-add r)

pub left_rows : (w n at : ℕ) (m l : List ℕ) (b : Bool)
    → MatchBool b (AllWithin (Row w at m l) (range_with_len 0 n) 0 (length (range_with_len 0 n)))
    ((r : ℕ) × (r < length (range_with_len 0 n)) × HoldsAt (λ k. k < n → ¬ Row w at m l k) (range_with_len 0 n) r)
    → (b ≡ true) ↔ SameLeft w n at m l
left_rows w n at m l true h = left_all (record { same = λ a b ha hb. (row a ha).same b hb })
  where
    row : (r : ℕ) → r < n → Row w at m l r
    row r k = let q = row_of n r k in rw q.1 at (h r 0 (omega arith) q.0)
left_rows w n at m l false (r, k, h) = (
  λ t. absurd (clash t),
  λ s. absurd (rw (row_of n r i).1 at (h 0) i (record { same = λ c b. s.same r c i b })),
)
  where
    i : r < n
    i = omega (arith, length-range_with_len 0 n, k)
