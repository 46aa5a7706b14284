-- Guards by the readings that they allow, which are those from a least to one past the greatest.
use Rattle.std.specs.Prelude.{Option, Some, None, ◌≡◌, refl, Bool, true, false, cond, not, ◌&&◌, List, [], ◌∷◌, map, ltb, leb, eqb, length, get_or}
use Rattle.std.proofs.Math.Path.{sym, ap}
use Rattle.std.proofs.Common.{◌∙◌, lt-ltb, le-ltb, le-leb, eq-eqb, ne_eqb}
use Rattle.std.proofs.Math.Bool.{and-true}
use Prim.Native.Nat.{ℕ, zero, suc, ◌+◌, ◌-◌, ◌≤◌, ◌<◌}
use native.Mathlib.Omega.{arith}
use Rattle.std.specs.List.{All, position, position_or_len}
use Rattle.std.specs.Option.{option_map, unwrap_or}
use Rattle.std.proofs.lemmas.Bool.Decides.{nat_tests}
use Rattle.std.proofs.lemmas.List.{length-map}
use mathlib.Core.List.{Memᴰ}
use Rattle.std.proofs.Math.Decide.{dec_lt}
use Rattle.std.proofs.lemmas.Bool.{lt-leb}
use Rattle.table.specs.declared.Guard.{Guard}
use Rattle.table.specs.declared.Relation.{Relation}
use Rattle.table.specs.declared.Relation.TheVariants.{Under, AtMost, Exactly, AtLeast, Over}
use Rattle.table.specs.declared.Table.{Table}
use Rattle.scans.specs.Scan.{compares, holds, first_failing}
use Rattle.ranges.specs.declared.Range.{Range}

-- the least reading that a relation and a constant allow
abbrev pub least_of : Relation → ℕ → ℕ
least_of Under c = 0
least_of AtMost c = 0
least_of Exactly c = c
least_of AtLeast c = c
least_of Over c = c + 1

-- one past the greatest; readings are at most 4,001
abbrev pub past_of : Relation → ℕ → ℕ
past_of Under c = c
past_of AtMost c = c + 1
past_of Exactly c = c + 1
past_of AtLeast c = 4002
past_of Over c = 4002

-- the readings that a guard allows
abbrev pub range_of : Guard → Range
range_of g = record { clock = g.clock; least = least_of g.relation g.constant; past = past_of g.relation g.constant }

-- those of all guards of a table
abbrev pub ranges_of : Table → List Range
ranges_of t = map range_of t.guards

-- ---- readings tested

-- whether the reading of its clock is in a range
abbrev pub inside : List ℕ → Range → Bool
inside readings r = let x = get_or readings (r.clock - 1) 0 in leb r.least x && ltb x r.past

-- the number, from 1, of the first of some guards that does not allow the reading of its clock, where there is one
abbrev pub first_outside : List ℕ → List Range → Option ℕ
first_outside readings ranges = option_map (λ k. k + 1) (position (λ r. not (inside readings r)) ranges)

-- what the test of guards asks: clocks 1 to 6
abbrev pub Asked : List Range → Type 0
Asked ranges = All (λ r. (1 ≤ r.clock) × (r.clock ≤ 6)) ranges

-- ---- laws

-- A guard holds of a reading exactly where it is among those that it allows.
pub allowed_compares : (rel : Relation) (c x : ℕ) → x ≤ 4001 → (leb (least_of rel c) x && ltb x (past_of rel c)) ≡ compares rel c x
allowed_compares Under c x h = rw (le-leb 0 x (omega arith))
allowed_compares AtMost c x h = rw (le-leb 0 x (omega arith)) (go (dec_lt c x))
  where
    go : Dec (c < x) → ltb x (c + 1) ≡ leb x c
    go (yes l) = le-ltb x (c + 1) (omega arith) ∙ sym (lt-leb x c l)
    go (no l) = lt-ltb x (c + 1) (omega arith) ∙ sym (le-leb x c (omega arith))
allowed_compares Exactly c x h = go (dec_lt x c) (dec_lt c x)
  where
    go : Dec (x < c) → Dec (c < x) → (leb c x && ltb x (c + 1)) ≡ eqb x c
    go (yes l) g = rw (lt-leb c x l, ne_eqb x c (λ e. omega arith))
    go (no l) (yes g) = rw (le-leb c x (omega arith), le-ltb x (c + 1) (omega arith), ne_eqb x c (λ e. omega arith))
    go (no l) (no g) = rw (le-leb c x (omega arith), lt-ltb x (c + 1) (omega arith), eq-eqb x c (omega arith))
allowed_compares AtLeast c x h = rw (lt-ltb x 4002 (omega arith)) (and-true (leb c x))
allowed_compares Over c x h = rw (lt-ltb x 4002 (omega arith)) (and-true (leb (c + 1) x) ∙ go (dec_lt c x))
  where
    go : Dec (c < x) → leb (c + 1) x ≡ ltb c x
    go (yes l) = le-leb (c + 1) x (omega arith) ∙ sym (lt-ltb c x l)
    go (no l) = lt-leb (c + 1) x (omega arith) ∙ sym (le-ltb c x (omega arith))

-- the place of one of some, if there is one, counted from a number on; else 0
number_cond : (b : ℕ) (v : Bool) (p : ℕ) → unwrap_or (option_map (λ k. b + k + 1) (cond v (Some p) None)) 0 ≡ cond v (b + p + 1) 0
number_cond b true p = refl
number_cond b false p = refl

-- from 0 on it is the place and 1
from_zero : (o : Option ℕ) → unwrap_or (option_map (λ k. k + 1) o) 0 ≡ unwrap_or (option_map (λ k. 0 + k + 1) o) 0
from_zero None = refl
from_zero (Some k) = omega arith

-- The number of the first that a test turns away, from b on, is one of theirs.
pub outside_few : {A : Type 0} (test : A → Bool) (b : ℕ) (xs : List A)
    → unwrap_or (option_map (λ k. b + k + 1) (position (λ x. not (test x)) xs)) 0 ≤ b + length xs
outside_few test b xs = few (position_or_len (λ x. not (test x)) xs) (length xs)
  where
    few : (p n : ℕ) → unwrap_or (option_map (λ k. b + k + 1) (cond (ltb p n) (Some p) None)) 0 ≤ b + n
    few p n = rw (number_cond b (ltb p n) p) (grind (arith, nat_tests))

-- and so is that of the first whose clock has a reading that is not inside
pub inside_few : (r : List ℕ) (rs : List Range) → unwrap_or (first_outside r rs) 0 ≤ length rs
inside_few r rs = omega (arith, from_zero (position (λ x. not (inside r x)) rs), outside_few (inside r) 0 rs)

-- the guards' clocks are those of their ranges
pub asked_clocks : (gs : List Guard) → ((g : Guard) → Memᴰ g gs → (1 ≤ g.clock) × (g.clock ≤ 6)) → Asked (map range_of gs)
asked_clocks [] h k d l = absurd (omega arith)
asked_clocks (g ∷ gs) h zero d l = h g (Memᴰ.head refl)
asked_clocks (g ∷ gs) h (suc k) d l = asked_clocks gs (λ x m. h x (Memᴰ.tail m)) k d (omega arith)

-- one more before the others
place_more : (v : Bool) (later n b x : ℕ) → x ≡ cond (ltb later n) (suc b + later + 1) 0
    → let place = cond (not (not v)) (1 + later) 0 in cond v x (suc b) ≡ cond (ltb place (suc n)) (b + place + 1) 0
place_more true later n b x e = grind (arith, nat_tests)
place_more false later n b x e = grind (arith, nat_tests)

-- a test that says of each of some guards, by what stands at its place, whether it holds
module _ {A : Type 0} (test : A → Bool) (r : List ℕ) where
  abbrev pub Tells : List Guard → List A → Type 0
  Tells gs xs = (length xs ≡ length gs) × ((i : ℕ) (d : A) (e : Guard) → i < length gs → test (get_or xs i d) ≡ holds (get_or gs i e) r)

  abbrev place : List A → ℕ
  place xs = position_or_len (λ x. not (test x)) xs

  failing_place : (b : ℕ) (gs : List Guard) (xs : List A) → Tells gs xs
      → first_failing b gs r ≡ cond (ltb (place xs) (length gs)) (b + place xs + 1) 0
  unfolding first_failing
  failing_place b [] [] h = refl
  failing_place b [] (x ∷ xs) h = absurd (omega (arith, h.0))
  failing_place b (g ∷ gs) [] h = absurd (omega (arith, h.0))
  failing_place b (g ∷ gs) (x ∷ xs) h =
      ap (λ v. cond v (first_failing (suc b) gs r) (suc b)) (sym (h.1 0 x g (omega arith)))
      ∙ place_more (test x) (place xs) (length gs) b _
      (failing_place (suc b) gs xs (omega (arith, h.0), λ i d e l. h.1 (suc i) d e (omega (arith, l))))

  -- The number of the first that fails, from b on, is that of the first that does not hold.
  pub outside_failing : (b : ℕ) (gs : List Guard) (xs : List A) → Tells gs xs
      → unwrap_or (option_map (λ k. b + k + 1) (position (λ x. not (test x)) xs)) 0 ≡ first_failing b gs r
  outside_failing b gs xs h =
      ap (λ n. unwrap_or (option_map (λ k. b + k + 1) (cond (ltb (place xs) n) (Some (place xs)) None)) 0) h.0
      ∙ number_cond b (ltb (place xs) (length gs)) (place xs)
      ∙ sym (failing_place b gs xs h)

-- readings that are held
module _ (r : List ℕ) where
  abbrev pub Held : List Guard → Type 0
  Held gs = (g : Guard) → Memᴰ g gs → get_or r (g.clock - 1) 0 ≤ 4001

  -- tell by their ranges which guards hold
  held_at : (gs : List Guard) → Held gs → (i : ℕ) (d : Range) (e : Guard) → i < length gs
      → inside r (get_or (map range_of gs) i d) ≡ holds (get_or gs i e) r
  held_at [] h i d e l = absurd (omega arith)
  held_at (g ∷ gs) h zero d e l = allowed_compares g.relation g.constant _ (h g (Memᴰ.head refl))
  held_at (g ∷ gs) h (suc i) d e l = held_at gs (λ x m. h x (Memᴰ.tail m)) i d e (omega arith)

  pub held_tells : (gs : List Guard) → Held gs → Tells (inside r) r gs (map range_of gs)
  held_tells gs h = (length-map gs range_of, held_at gs h)

  -- The first guard outside is the first that does not hold.
  pub held_failing : (gs : List Guard) → Held gs → unwrap_or (first_outside r (map range_of gs)) 0 ≡ first_failing 0 gs r
  held_failing gs h = from_zero _ ∙ outside_failing (inside r) r 0 gs (map range_of gs) (held_tells gs h)
