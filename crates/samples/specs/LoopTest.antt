-- A test of a row of moments and of bounds that only a loop whose demands have these bounds passes.
use Rattle.std.specs.Prelude.{◌≡◌, refl, ◌⊎◌, Bool, true, false, not, ◌&&◌, ◌||◌, ℕ, ◌+◌, ◌<◌, eqb, leb, ℤ, pos, negsuc, length, get_or}
use Rattle.std.proofs.Math.Path.{ap}
use Rattle.std.proofs.Common.{inl, inr}
use Rattle.std.proofs.lemmas.Bool.{false≢true}
use mathlib.Core.List.{List, [], ◌∷◌, map, Memᴰ}
use native.Mathlib.Omega.{arith}
use Rattle.std.proofs.Math.Dec.{ltb}
use borrow.Author.Tests.{eqb-true, eqb-false, eq-eqb, ltb-true, leb-true, not-true}
use Rattle.runs.specs.declared.Demand.{Demand}
use Rattle.basics.specs.Distinct.{Distinct}
use Rattle.runs.specs.Loop.{Link, AsTight, Tightest, Along, last, then, total, Loop}
use Rattle.runs.specs.Parts.{gain, loss, stricts_few, parts_negative}
use Rattle.runs.specs.Cycle.{distinct_nil, distinct_cons}
use Rattle.runs.specs.Demand.{ticks_of}
use Rattle.samples.specs.Follows.{LoopIs}
use Rattle.samples.specs.Checks.{both, either, all, all_every, some, some_member}

-- no moment stands twice
unfoldable pub apart : List ℕ → Bool
apart [] = true
apart (a ∷ ms) = all (λ b. not (eqb a b)) ms && apart ms

apart_distinct : (ms : List ℕ) → apart ms ≡ true → Distinct ms
unfolding apart
apart_distinct [] e = distinct_nil
apart_distinct (a ∷ ms) e =
    let (first, rest) = both e in
    distinct_cons a ms
    (λ b m. eqb-false a b (not-true (eqb a b) (all_every (λ c. not (eqb a c)) ms first b m)))
    (apart_distinct ms rest)

-- a bound is c
abbrev pub same : ℤ → ℤ → Bool
same (pos a) (pos b) = eqb a b
same (negsuc a) (negsuc b) = eqb a b
same (pos a) (negsuc b) = false
same (negsuc a) (pos b) = false

same_is : (c d : ℤ) → same c d ≡ true → c ≡ d
same_is (pos a) (pos b) e = ap pos (eqb-true a b e)
same_is (negsuc a) (negsuc b) e = ap negsuc (eqb-true a b e)
same_is (pos a) (negsuc b) e = absurd (false≢true e)
same_is (negsuc a) (pos b) e = absurd (false≢true e)

-- e is at least as tight as d
abbrev pub closer : Demand → Demand → Bool
closer e d =
    ltb (e.up + d.down) (d.up + e.down)
    || (eqb (e.up + d.down) (d.up + e.down) && (not d.strict || e.strict))

closer_tight : (e d : Demand) → closer e d ≡ true → AsTight e d
closer_tight e d h = go (either (ltb (e.up + d.down) (d.up + e.down)) _ h)
  where
    equal : Bool
    equal = eqb (e.up + d.down) (d.up + e.down)

    implied : (a b : Bool) → (not a || b) ≡ true → a ≡ true → b ≡ true
    implied true b i j = i
    implied false b i j = absurd (false≢true j)

    go : (ltb (e.up + d.down) (d.up + e.down) ≡ true) ⊎ ((equal && (not d.strict || e.strict)) ≡ true)
        → AsTight e d
    go (inl i) = inl (ltb-true _ _ i)
    go (inr i) =
        let (j, k) = both {a = equal} {b = not d.strict || e.strict} i in
        inr (eqb-true _ _ j, implied d.strict e.strict k)

-- a demand from a to b
abbrev pub joins : ℕ → ℕ → Demand → Bool
joins a b e = eqb e.from a && eqb e.to b

module _ (P : ℕ) (ds : List Demand) where
  -- the tightest demand from a to b, with bound c
  abbrev pub chosen : ℕ → ℕ → ℤ → Demand → Bool
  chosen a b c e = joins a b e && (same (ticks_of e) c && all (λ d. not (joins a b d) || closer e d) ds)

  chosen_tightest : (a b : ℕ) (c : ℤ) (e : Demand) → Memᴰ e ds → chosen a b c e ≡ true
      → Tightest ds a b e × (ticks_of e ≡ c)
  chosen_tightest a b c e m h =
      let (ends, h1) = both {a = joins a b e} {b = same (ticks_of e) c && all (λ d. not (joins a b d) || closer e d) ds} h in
      let (from, to) = both {a = eqb e.from a} {b = eqb e.to b} ends in
      let (bound, tight) = both {a = same (ticks_of e) c} {b = all (λ d. not (joins a b d) || closer e d) ds} h1 in (
        record {
          link = record { among = m; from = eqb-true e.from a from; to = eqb-true e.to b to };
          least = λ d l. least d l (all_every (λ d. not (joins a b d) || closer e d) ds tight d l.among);
        },
        same_is (ticks_of e) c bound,
      )
    where
      least : (d : Demand) → Link ds a b d → (not (joins a b d) || closer e d) ≡ true → AsTight e d
      least d l = go (joins a b d) (rw (eq-eqb d.from a l.from, eq-eqb d.to b l.to))
        where
          go : (i : Bool) → i ≡ true → (not i || closer e d) ≡ true → AsTight e d
          go true p q = closer_tight e d q
          go false p q = absurd (false≢true p)

  module _ (z : ℕ) where
    -- The tightest demands from each moment to the next and from the last to z have these bounds and gain more than they
    -- lose, when those before gained g and lost l.
    unfoldable pub gains : List ℕ → List ℤ → ℕ → ℕ → Bool
    gains [] cs g l = false
    gains (a ∷ []) [] g l = false
    gains (a ∷ []) (c ∷ d ∷ cs) g l = false
    gains (a ∷ b ∷ ms) [] g l = false
    gains (a ∷ []) (c ∷ []) g l = some (λ e. chosen a z c e && ltb (l + loss P e) (g + gain P e)) ds
    gains (a ∷ b ∷ ms) (c ∷ cs) g l = some (λ e. chosen a b c e && gains (b ∷ ms) cs (g + gain P e) (l + loss P e)) ds

    record Gains (ms : List ℕ) (cs : List ℤ) (g l : ℕ) : Type 0 where
      used : List Demand
      along : Along (Tightest ds) ms z used
      bounded : map ticks_of used ≡ cs
      many : length used ≡ length ms
      more : l + total (loss P) used < g + total (gain P) used

    pick : (p : Demand → Bool) (a b : ℕ) (c : ℤ) → some (λ e. chosen a b c e && p e) ds ≡ true
        → (e : Demand) × Tightest ds a b e × (ticks_of e ≡ c) × (p e ≡ true)
    pick p a b c h =
        let (e, m, i) = some_member (λ e. chosen a b c e && p e) ds h in
        let (j, rest) = both {a = chosen a b c e} {b = p e} i in
        let (t, q) = chosen_tightest a b c e m j in
        (e, t, q, rest)

    gains_more : (ms : List ℕ) (cs : List ℤ) (g l : ℕ) → gains ms cs g l ≡ true → Gains ms cs g l
    unfolding gains
    gains_more [] cs g l h = absurd (false≢true h)
    gains_more (a ∷ []) [] g l h = absurd (false≢true h)
    gains_more (a ∷ b ∷ ms) [] g l h = absurd (false≢true h)
    gains_more (a ∷ []) (c ∷ d ∷ cs) g l h = absurd (false≢true h)
    gains_more (a ∷ []) (c ∷ []) g l h =
        let (e, t, q, i) = pick (λ e. ltb (l + loss P e) (g + gain P e)) a z c h in
        let more : l + loss P e < g + gain P e = ltb-true _ _ i in
        record { used = e ∷ []; along = last t; bounded = ap (λ d. d ∷ []) q; many = refl; more = omega arith }
    gains_more (a ∷ b ∷ ms) (c ∷ cs) g l h =
        let (e, t, q, i) = pick (λ e. gains (b ∷ ms) cs (g + gain P e) (l + loss P e)) a b c h in
        let r = gains_more (b ∷ ms) cs (g + gain P e) (l + loss P e) i in
        record {
          used = e ∷ r.used;
          along = then t r.along;
          bounded = rw (q, r.bounded);
          many = omega (arith, r.many);
          more = omega (arith, r.more);
        }

-- At least one moment, all of them distinct, and the tightest demands between them, which gain more than they lose in as many parts.
unfoldable pub is_loop : List Demand → List ℕ → List ℤ → Bool
is_loop ds ms cs = leb 1 (length ms) && (apart ms && gains (length ms) ds (get_or ms 0 0) ms cs 0 0)

-- Moments and bounds that pass are a loop and the bounds of its demands.
pub loop_sound : (ds : List Demand) (ms : List ℕ) (cs : List ℤ) → is_loop ds ms cs ≡ true → LoopIs ds ms cs
unfolding is_loop
loop_sound ds ms cs e =
    let (size, e1) = both e in
    let (distinct, more) = both e1 in
    let r = gains_more (length ms) ds (get_or ms 0 0) ms cs 0 0 more in
    record {
      loop = record {
        size = leb-true 1 (length ms) size;
        distinct = apart_distinct ms distinct;
        used = r.used;
        around = r.along;
        negative = parts_negative (length ms) r.used (omega (arith, r.many, stricts_few r.used)) (omega (arith, r.more));
      };
      bounded = r.bounded;
    }
