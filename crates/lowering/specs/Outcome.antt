-- What checks give: bounds fall, what every solution keeps stays true, and where nothing is lowered all constraints hold that have a bound.
use Rattle.std.specs.Prelude.{◌≡◌, refl, Bool, true, false, ◌⊎◌, ℕ, zero, suc, ◌+◌, ◌-◌, ◌≤◌, ◌<◌, min, length, set}
use Rattle.std.proofs.Common.{sym, ap, subst, ◌∙◌, inl, inr, not-suc-le-zero, arith}
use mathlib.Core.List.Memᴰ
use mathlib.Core.List.{List, [], ◌∷◌, Memᴰ}
use Rattle.std.proofs.Math.Decide.{dec_lt}
use Rattle.basics.specs.Places.{at}
use Rattle.paths.specs.Constraint.{Constraint, Holds, All}
use Rattle.lowering.specs.Lowered.{Bounds, bounds, none, high_of, lower_of, lowers_of, lower_hit, lower_miss, lowers_size}
use Rattle.lowering.specs.Bounded.{Lowerable, Bounded, lowerable, Broken, high_broken, high_holds}
use Rattle.lowering.specs.Bounded.{lowered, lowered_to, lowered_each, bounded_lower, bounded_lowers}

-- ---- the sum of all bounds
unfoldable pub total : List ℕ → ℕ
total [] = 0
total (x ∷ l) = x + total l

total_set : (l : List ℕ) (k v : ℕ) → k < length l → v < at l k → total (set l k v) < total l
unfolding total
total_set [] k v b h = absurd (not-suc-le-zero b)
total_set (x ∷ l) zero v b h = omega arith
total_set (x ∷ l) (suc k) v b h = omega (arith, total_set l k v (omega arith) h)

-- ---- what is said of bounds
-- No vertex of y is later than its bound says, when time is counted from k.
abbrev pub Under : ℕ → List ℕ → ℕ → (ℕ → ℕ) → Type 0
Under N l k y = (v : ℕ) → v < N → at l v < none → y v ≤ at l v + k

-- All constraints hold that have a bound at their vertex.
abbrev pub Settled : List Constraint → List ℕ → Type 0
Settled cs l = (c : Constraint) → Memᴰ c cs → at l c.from < none → Holds c (at l)

-- What checks of cs on vertices below N give, from s to s'.
pub record Lowers (N : ℕ) (cs : List Constraint) (s s' : Bounds) : Type 0 where
  pub falls : (v : ℕ) → at s'.late v ≤ at s.late v
  pub keeps : (y : ℕ → ℕ) → All cs y → (k : ℕ) → Under N s.late k y → Under N s'.late k y
  pub sum : total s'.late ≤ total s.late
  pub low : s'.low ≤ s.low
  pub less : s'.low < s.low → total s'.late < total s.late
  pub quiet : N ≤ s'.low → (s' ≡ s) × Settled cs s.late

-- ---- one check
module _ (N : ℕ) (c : Constraint) (s : Bounds) (a : Lowerable c s.late) (f : c.from < N) (t : c.to < N) where
  hit_lowers : Broken c s.late → Lowers N (c ∷ []) s (bounds (lowered c s.late) (min s.low c.to))
  hit_lowers k =
      record {
        falls = lowered_each c s.late a k (λ v x. x ≤ at s.late v) (omega (arith, to)) (λ v. omega arith);
        keeps = λ y h n u.
            lowered_each c s.late a k (λ v x. v < N → x < none → y v ≤ x + n)
            (λ w q. omega (arith, h c (Memᴰ.head refl), u c.from f k.bound, lowered_to c s.late a k)) u;
        sum = omega (arith, fell);
        low = omega arith;
        less = λ _. fell;
        quiet = λ h. absurd (omega arith);
      }
    where
      to : at (lowered c s.late) c.to < at s.late c.to
      to = omega (arith, lowered_to c s.late a k, k.broken)

      fell : total (lowered c s.late) < total s.late
      fell =
          total_set s.late c.to (at s.late c.from + c.loss - c.gain) a.to
          (omega (arith, k.broken, a.enough k.bound))

  miss_lowers : high_of c s.late ≡ false → Lowers N (c ∷ []) s s
  miss_lowers p =
      record {
        falls = λ v. omega arith;
        keeps = λ y h n u. u;
        sum = omega arith;
        low = omega arith;
        less = λ h. absurd (omega arith);
        quiet = λ h. (refl, λ d m. holds d (Memᴰ.cases_cons m));
      }
    where
      holds : (d : Constraint) → (d ≡ c) ⊎ Memᴰ d [] → at s.late d.from < none → Holds d (at s.late)
      holds d (inl e) = rw e (high_holds c s.late p)
      holds d (inr n) = absurd (Memᴰ.not-nil n)

  lower_lowers : Lowers N (c ∷ []) s (lower_of c s)
  lower_lowers = go (high_of c s.late) refl
    where
      go : (b : Bool) → high_of c s.late ≡ b → Lowers N (c ∷ []) s (lower_of c s)
      go true p = subst (Lowers N (c ∷ []) s) (sym (lower_hit c s p)) (hit_lowers (high_broken c s.late p))
      go false p = subst (Lowers N (c ∷ []) s) (sym (lower_miss c s p)) (miss_lowers p)

lowers_nothing : (N : ℕ) (s : Bounds) → Lowers N [] s s
lowers_nothing N s =
    record {
      falls = λ v. omega arith;
      keeps = λ y h n u. u;
      sum = omega arith;
      low = omega arith;
      less = λ h. absurd (omega arith);
      quiet = λ h. (refl, λ c m. absurd (Memᴰ.not-nil m));
    }

-- ---- one check, and then others
lowers_more : (N : ℕ) (c : Constraint) (cs : List Constraint) (s s' s'' : Bounds) → Lowers N (c ∷ []) s s' → Lowers N cs s' s''
    → Lowers N (c ∷ cs) s s''
lowers_more N c cs s s' s'' a b =
    record {
      falls = λ v. omega (arith, a.falls v, b.falls v);
      keeps = λ y h n u. b.keeps y (λ d m. h d (Memᴰ.tail m)) n (a.keeps y (λ d m. one y h d (Memᴰ.cases_cons m)) n u);
      sum = omega (arith, a.sum, b.sum);
      low = omega (arith, a.low, b.low);
      less = λ h. less h (dec_lt s'.low s.low);
      quiet = λ h. ((b.quiet h).0 ∙ (first h).0, λ d m. all h d (Memᴰ.cases_cons m));
    }
  where
    one : (y : ℕ → ℕ) → All (c ∷ cs) y → (d : Constraint) → (d ≡ c) ⊎ Memᴰ d [] → Holds d y
    one y h d (inl e) = h d (Memᴰ.head e)
    one y h d (inr n) = absurd (Memᴰ.not-nil n)

    less : s''.low < s.low → Dec (s'.low < s.low) → total s''.late < total s.late
    less h (yes l) = omega (arith, a.less l, b.sum)
    less h (no l) = omega (arith, a.sum, b.less (omega arith))

    first : N ≤ s''.low → (s' ≡ s) × Settled (c ∷ []) s.late
    first h = a.quiet (omega (arith, b.low))

    all : N ≤ s''.low → (d : Constraint) → (d ≡ c) ⊎ Memᴰ d cs → at s.late d.from < none → Holds d (at s.late)
    all h d (inl e) = (first h).1 d (Memᴰ.head e)
    all h d (inr m) =
        subst (λ (t : Bounds). at t.late d.from < none → Holds d (at t.late)) (first h).0 ((b.quiet h).1 d m)

-- the checks of ds, all of them among cs
pub lowers_outcome : (N : ℕ) (cs ds : List Constraint) (s : Bounds) → ((c : Constraint) → Memᴰ c ds → Memᴰ c cs)
    → Bounded N cs s.late → Lowers N ds s (lowers_of ds s)
unfolding lowers_of
lowers_outcome N cs [] s h b = lowers_nothing N s
lowers_outcome N cs (c ∷ ds) s h b =
    let m = h c (Memᴰ.head refl) in
    lowers_more N c ds s (lower_of c s) (lowers_of ds (lower_of c s))
    (lower_lowers N c s (lowerable N cs s.late b c m) (b.from c m) (b.to c m))
    (lowers_outcome N cs ds (lower_of c s) (λ d k. h d (Memᴰ.tail k)) (bounded_lower N cs c s m b))

-- ---- checks until nothing is lowered
-- From the bounds l₀ to l by checks of cs: no solution that is under l₀ is above l.
pub record Falling (N : ℕ) (cs : List Constraint) (l₀ l : List ℕ) : Type 0 where
  pub size : length l ≡ length l₀
  pub falls : (v : ℕ) → at l v ≤ at l₀ v
  pub sum : total l ≤ total l₀
  pub bounded : Bounded N cs l
  pub greatest : (y : ℕ → ℕ) → All cs y → (k : ℕ) → Under N l₀ k y → Under N l k y

-- At the end all constraints hold that have a bound at their vertex.
pub record Greatest (N : ℕ) (cs : List Constraint) (l₀ l : List ℕ) : Type 0 where
  pub falling : Falling N cs l₀ l
  pub settled : Settled cs l

module _ (N : ℕ) (cs : List Constraint) where
  pub falling_first : (l : List ℕ) → Bounded N cs l → Falling N cs l l
  falling_first l b = record { size = refl; falls = λ v. omega arith; sum = omega arith; bounded = b; greatest = λ y h k u. u }

  pub falling_then : (l l' l'' : List ℕ) → Falling N cs l l' → Falling N cs l' l'' → Falling N cs l l''
  falling_then l l' l'' f g =
      record {
        size = g.size ∙ f.size;
        falls = λ v. omega (arith, f.falls v, g.falls v);
        sum = omega (arith, f.sum, g.sum);
        bounded = g.bounded;
        greatest = λ y a k u. g.greatest y a k (f.greatest y a k u);
      }

  -- checks of ds, some of cs, take s to s'
  module _ (s s' : Bounds) (b : Bounded N cs s.late) (ds : List Constraint)
      (among : (c : Constraint) → Memᴰ c ds → Memᴰ c cs) (e : s' ≡ lowers_of ds s) where
    pub checks_lowers : Lowers N ds s s'
    checks_lowers = subst (Lowers N ds s) (sym e) (lowers_outcome N cs ds s among b)

    pub checks_falling : Falling N cs s.late s'.late
    checks_falling =
        record {
          size = ap (λ (t : Bounds). length t.late) e ∙ lowers_size ds s;
          falls = checks_lowers.falls;
          sum = checks_lowers.sum;
          bounded = subst (λ (t : Bounds). Bounded N cs t.late) (sym e) (bounded_lowers N cs ds s among b);
          greatest = λ y a k u. checks_lowers.keeps y (λ c m. a c (among c m)) k u;
        }

-- What checks of ds do they do among checks of cs.
pub falling_among : (N : ℕ) (cs ds : List Constraint) (l l' : List ℕ) → ((c : Constraint) → Memᴰ c ds → Memᴰ c cs)
    → Bounded N cs l → Falling N ds l l' → Falling N cs l l'
falling_among N cs ds l l' among b f =
    record {
      size = f.size;
      falls = f.falls;
      sum = f.sum;
      bounded =
          record {
            room = f.bounded.room;
            few = b.few;
            from = b.from;
            to = b.to;
            gain = b.gain;
            loss = b.loss;
            high = f.bounded.high;
            near = f.bounded.near;
            low = b.low;
            solves = b.solves;
            below = λ v w h. omega (arith, below v w h);
          };
      greatest = λ y a k u. f.greatest y (λ c m. a c (among c m)) k u;
    }
  where
    below : (v : ℕ) → v < N → at l' v < none → b.low v ≤ at l' v + 0
    below = f.greatest b.low (λ c m. b.solves c (among c m)) 0 (λ v w h. omega (arith, b.below v w h))
