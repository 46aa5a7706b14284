-- What checks ask of the bounds, so that no sum wraps and no difference is below 0: a solution that is not above them.
use Rattle.std.specs.Prelude.{◌≡◌, refl, ◌≢◌, Bool, true, false, ◌&&◌, ℕ, ◌+◌, ◌*◌, ◌-◌, ◌≤◌, ◌<◌, ◌^◌, ltb, length, set}
use Rattle.std.proofs.Common.{sym, ap, subst, ◌∙◌, mul-le-mul_right, arith, length-set, get_or-set_same, get_or-set_other, ltb-true, ltb-false, lt-ltb}
use Rattle.std.proofs.Math.Bool.{and-eq-true_iff}
use mathlib.Core.List.Memᴰ
use mathlib.Core.List.{List, [], ◌∷◌, ◌++◌, Memᴰ}
use Rattle.std.proofs.Math.Decide.{ℕ_discrete, dec_lt}
use Rattle.basics.specs.Places.{at}
use Rattle.paths.specs.Constraint.{Constraint, Holds, All}
use Rattle.lowering.specs.Lowered.{Bounds, none, high_of, lower_of, lowers_of, lower_hit, lower_miss}
use Rattle.lowering.specs.Count.{reached, reached_few, reached_more, reached_same}

-- no gain and no loss is above 2^22
abbrev pub unit : ℕ
unit = 4194304

-- what one check asks of the code
pub record Lowerable (c : Constraint) (l : List ℕ) : Type 0 where
  pub from : c.from < length l
  pub to : c.to < length l
  pub loss_fits : at l c.from + c.loss < 2 ^ 64
  pub gain_fits : at l c.to + c.gain < 2 ^ 64
  pub enough : at l c.from < none → c.gain ≤ at l c.from + c.loss

-- What checks of cs ask, on vertices below N. The j-th vertex to be reached has a bound of at most j times the unit.
pub record Bounded (N : ℕ) (cs : List Constraint) (l : List ℕ) : Type 0 where
  pub room : N ≤ length l
  pub few : N ≤ 1031
  pub from : (c : Constraint) → Memᴰ c cs → c.from < N
  pub to : (c : Constraint) → Memᴰ c cs → c.to < N
  pub gain : (c : Constraint) → Memᴰ c cs → c.gain ≤ unit
  pub loss : (c : Constraint) → Memᴰ c cs → c.loss ≤ unit
  pub high : (v : ℕ) → v < N → at l v ≤ none
  pub near : (v : ℕ) → v < N → at l v < none → at l v ≤ reached l N * unit
  pub low : ℕ → ℕ
  pub solves : All cs low
  pub below : (v : ℕ) → v < N → at l v < none → low v ≤ at l v

module _ (N : ℕ) (cs : List Constraint) (l : List ℕ) (b : Bounded N cs l) where
  -- so no bound is above 2^33
  pub bounded_near : (v : ℕ) → v < N → at l v < none → at l v ≤ 1031 * unit
  bounded_near v w h =
      let k : reached l N ≤ 1031 = omega (arith, reached_few l N, b.few) in
      omega (arith, b.near v w h, mul-le-mul_right unit k)

  -- one check
  pub lowerable : (c : Constraint) → Memᴰ c cs → Lowerable c l
  lowerable c m =
      record {
        from = omega (arith, b.from c m, b.room);
        to = omega (arith, b.to c m, b.room);
        loss_fits = omega (arith, b.high c.from (b.from c m), b.loss c m);
        gain_fits = omega (arith, b.high c.to (b.to c m), b.gain c m);
        enough = λ h. omega (arith, b.solves c m, b.below c.from (b.from c m) h);
      }

-- ---- one check, in two cases
-- c has a bound at its vertex, and is broken by it
pub record Broken (c : Constraint) (l : List ℕ) : Type 0 where
  pub bound : at l c.from < none
  pub broken : at l c.from + c.loss < at l c.to + c.gain

pub high_broken : (c : Constraint) (l : List ℕ) → high_of c l ≡ true → Broken c l
high_broken c l p =
    let k = (and-eq-true_iff (ltb (at l c.from) none) (ltb (at l c.from + c.loss) (at l c.to + c.gain))).0 p in
    record {
      bound = ltb-true (at l c.from) none k.0;
      broken = ltb-true (at l c.from + c.loss) (at l c.to + c.gain) k.1;
    }

pub high_holds : (c : Constraint) (l : List ℕ) → high_of c l ≡ false → at l c.from < none → Holds c (at l)
high_holds c l p h =
    ltb-false (at l c.from + c.loss) (at l c.to + c.gain)
    (ap (λ b. b && ltb (at l c.from + c.loss) (at l c.to + c.gain)) (sym (lt-ltb (at l c.from) none h)) ∙ p)

-- the list with the end of c lowered
abbrev pub lowered : Constraint → List ℕ → List ℕ
lowered c l = set l c.to (at l c.from + c.loss - c.gain)

-- a place of it
module _ (c : Constraint) (l : List ℕ) (a : Lowerable c l) (k : Broken c l) where
  pub lowered_to : at (lowered c l) c.to + c.gain ≡ at l c.from + c.loss
  lowered_to =
      omega (arith, get_or-set_same l c.to (at l c.from + c.loss - c.gain) 0 a.to, a.enough k.bound)

  pub lowered_other : (v : ℕ) → v ≢ c.to → at (lowered c l) v ≡ at l v
  lowered_other v e = get_or-set_other l c.to v (at l c.from + c.loss - c.gain) 0 e

  -- what holds of the place that is lowered, and of the others, holds of all
  pub lowered_each : (Q : ℕ → ℕ → Type 0) → Q c.to (at (lowered c l) c.to) → ((v : ℕ) → Q v (at l v)) → (v : ℕ)
      → Q v (at (lowered c l) v)
  lowered_each Q q r v = go (ℕ_discrete v c.to)
    where
      go : Dec (v ≡ c.to) → Q v (at (lowered c l) v)
      go (yes e) = rw e q
      go (no e) = subst (Q v) (sym (lowered_other v e)) (r v)

-- ---- what is asked is kept
module _ (N : ℕ) (cs : List Constraint) where
  module _ (c : Constraint) (l : List ℕ) (m : Memᴰ c cs) (b : Bounded N cs l) (k : Broken c l) where
    abbrev a : Lowerable c l
    a = lowerable N cs l b c m

    abbrev new : ℕ
    new = at l c.from + c.loss - c.gain

    small : new < none
    small = omega (arith, bounded_near N cs l b c.from (b.from c m) k.bound, b.loss c m)

    more : reached l N * unit ≤ reached (lowered c l) N * unit
    more = go (dec_lt (at l c.to) none)
      where
        go : Dec (at l c.to < none) → reached l N * unit ≤ reached (lowered c l) N * unit
        go (yes h) = omega (arith, reached_same l c.to new a.to small h N)
        go (no h) = omega (arith, reached_more l c.to new a.to small (omega arith) N (b.to c m))

    to_near : at (lowered c l) c.to ≤ reached (lowered c l) N * unit
    to_near = go (dec_lt (at l c.to) none)
      where
        go : Dec (at l c.to < none) → at (lowered c l) c.to ≤ reached (lowered c l) N * unit
        go (yes h) = omega (arith, more, lowered_to c l a k, k.broken, b.near c.to (b.to c m) h)
        go (no h) =
            omega (
              arith,
              lowered_to c l a k,
              b.loss c m,
              b.near c.from (b.from c m) k.bound,
              reached_more l c.to new a.to small (omega arith) N (b.to c m),
            )

    lowered_bounded : Bounded N cs (lowered c l)
    lowered_bounded =
        record {
          room = omega (arith, b.room, size);
          few = b.few;
          from = b.from;
          to = b.to;
          gain = b.gain;
          loss = b.loss;
          high =
              lowered_each c l a k (λ v x. v < N → x ≤ none)
              (λ w. omega (arith, lowered_to c l a k, k.broken, b.high c.to w)) b.high;
          near =
              lowered_each c l a k (λ v x. v < N → x < none → x ≤ reached (lowered c l) N * unit) (λ w h. to_near)
              (λ v w h. omega (arith, more, b.near v w h));
          low = b.low;
          solves = b.solves;
          below =
              lowered_each c l a k (λ v x. v < N → x < none → b.low v ≤ x)
              (λ w h. omega (arith, lowered_to c l a k, b.solves c m, b.below c.from (b.from c m) k.bound)) b.below;
        }
      where
        size : length (lowered c l) ≡ length l
        size = simp length-set

  pub bounded_lower : (c : Constraint) (s : Bounds) → Memᴰ c cs → Bounded N cs s.late → Bounded N cs (lower_of c s).late
  bounded_lower c s m b = go (high_of c s.late) refl
    where
      go : (h : Bool) → high_of c s.late ≡ h → Bounded N cs (lower_of c s).late
      go true p =
          subst (λ (t : Bounds). Bounded N cs t.late) (sym (lower_hit c s p))
          (lowered_bounded c s.late m b (high_broken c s.late p))
      go false p = subst (λ (t : Bounds). Bounded N cs t.late) (sym (lower_miss c s p)) b

  pub bounded_lowers : (ds : List Constraint) (s : Bounds) → ((c : Constraint) → Memᴰ c ds → Memᴰ c cs)
      → Bounded N cs s.late → Bounded N cs (lowers_of ds s).late
  unfolding lowers_of
  bounded_lowers [] s h b = b
  bounded_lowers (c ∷ ds) s h b =
      bounded_lowers ds (lower_of c s) (λ d m. h d (Memᴰ.tail m)) (bounded_lower c s (h c (Memᴰ.head refl)) b)

  -- fewer constraints ask less
  pub bounded_some : (ds : List Constraint) (l : List ℕ) → ((c : Constraint) → Memᴰ c ds → Memᴰ c cs) → Bounded N cs l
      → Bounded N ds l
  bounded_some ds l h b =
      record {
        room = b.room;
        few = b.few;
        from = λ c m. b.from c (h c m);
        to = λ c m. b.to c (h c m);
        gain = λ c m. b.gain c (h c m);
        loss = λ c m. b.loss c (h c m);
        high = b.high;
        near = b.near;
        low = b.low;
        solves = λ c m. b.solves c (h c m);
        below = b.below;
      }

-- one list and then another
module _ (N : ℕ) (xs ys : List Constraint) where
  pub bounded_left : (l : List ℕ) → Bounded N (xs ++ ys) l → Bounded N xs l
  bounded_left l b = bounded_some N (xs ++ ys) xs l (λ c m. Memᴰ.append_left ys m) b

  pub bounded_next : (s : Bounds) → Bounded N (xs ++ ys) s.late → Bounded N ys (lowers_of xs s).late
  bounded_next s b =
      bounded_some N (xs ++ ys) ys (lowers_of xs s).late (λ c m. Memᴰ.append_right xs m)
      (bounded_lowers N (xs ++ ys) xs s (λ c m. Memᴰ.append_left ys m) b)
