-- Of the guards of a step, the tightest on each clock and side: their demands stand for those of all guards.
use Rattle.std.specs.Prelude.{◌≡◌, refl, ◌⊎◌, Bool, cond, ℕ, zero, suc, ◌+◌, ◌*◌, ◌-◌, ◌/◌, ◌%◌, ◌≤◌, ◌<◌, min, ltb, eqb, length}
use Rattle.std.proofs.Common.{sym, ◌∙◌, subst, inl, inr, ⊎_elim, arith, lt-ltb, le-ltb, eq-eqb, ne_eqb, length-append}
use Rattle.std.proofs.Math.Path.{ap}
use Rattle.std.proofs.Math.Bool.{true, false}
use mathlib.Core.List.{List, [], ◌∷◌, ◌++◌, Memᴰ}
use Rattle.std.proofs.Math.Decide.{ℕ_discrete, dec_le, dec_lt}
use Rattle.basics.specs.Choice.{both}
use Rattle.table.specs.Step.{up_plain, down_plain, end_none, FairGuard}
use Rattle.table.specs.declared.Guard.{Guard}
use Rattle.table.specs.declared.Relation.{Relation}
use Rattle.runs.specs.declared.Demand.{Demand}
use Rattle.runs.specs.Demand.{plus, minus, guard_demands, demands_at, guards_demands, OnClocks}
use Rattle.runs.specs.Tighten.{tight_refl}
use Rattle.runs.specs.Tools.{Every}
use Rattle.scaling.specs.Scaled.{most}
use Rattle.sides.specs.Sides.{Side, Has, strictly, side_demand, none, side_key, key_has, has_key, key_tight, upper_key, lower_key}
use Rattle.sides.specs.Sides.{slack, side_listed, Listed, listed_side}
use Rattle.sides.specs.Covers.{Stronger, Covers}

-- the key of a guard's side, and none if it has a second clock
abbrev pub solo_key : Side → Guard → ℕ
solo_key s g = cond (eqb g.second 0) (side_key s g.relation g.constant) none

-- the key of a guard's side on a clock
unfoldable pub key_on : Side → ℕ → Guard → ℕ
key_on s clock g = cond (eqb g.clock clock) (solo_key s g) none

-- a guard on this clock alone
abbrev pub Own : ℕ → Guard → Type 0
Own clock g = (g.clock ≡ clock) × (g.second ≡ 0)

pub own? : (clock : ℕ) (g : Guard) → Dec (Own clock g)
own? clock g = both (ℕ_discrete g.clock clock) (ℕ_discrete g.second 0)

-- the guards that have a second clock
unfoldable pub paired : List Guard → List Guard
paired [] = []
paired (g ∷ gs) = cond (eqb g.second 0) (paired gs) (g ∷ paired gs)

-- the smallest key on a clock
unfoldable pub least : Side → ℕ → List Guard → ℕ
least s clock [] = none
least s clock (g ∷ gs) = min (key_on s clock g) (least s clock gs)

-- the demand of a key on a side, at moment i, on a clock last reset at moment z
unfoldable pub key_demand : Side → ℕ → ℕ → ℕ → Demand
key_demand true key z i = plus z i (key / 2) (eqb (key % 2) 0)
key_demand false key z i = minus i z ((2 * most + 1 - key) / 2) (eqb (key % 2) 0)

-- and none where there is no such side
unfoldable pub key_demands : Side → ℕ → ℕ → ℕ → List Demand
key_demands s key z i = cond (ltb key none) (key_demand s key z i ∷ []) []

-- The tightest demands of a side of guards at moment i, when clock j was last reset at moment z j: on m clocks from clock j on.
unfoldable pub tight : Side → List Guard → ℕ → (ℕ → ℕ) → ℕ → ℕ → List Demand
tight s gs i z j zero = []
tight s gs i z j (suc m) = key_demands s (least s j gs) (z j) i ++ tight s gs i z (suc j) m

pub tight_zero : (s : Side) (gs : List Guard) (i : ℕ) (z : ℕ → ℕ) (j : ℕ) → tight s gs i z j 0 ≡ []
unfolding tight
tight_zero s gs i z j = refl

pub tight_suc : (s : Side) (gs : List Guard) (i : ℕ) (z : ℕ → ℕ) (j m : ℕ)
    → tight s gs i z j (suc m) ≡ key_demands s (least s j gs) (z j) i ++ tight s gs i z (suc j) m
unfolding tight
tight_suc s gs i z j m = refl

-- resets that agree on these clocks give the same demands
pub tight_same : (s : Side) (gs : List Guard) (i : ℕ) (y z : ℕ → ℕ) (j m : ℕ) → ((c : ℕ) → j ≤ c → c < j + m → y c ≡ z c)
    → tight s gs i y j m ≡ tight s gs i z j m
unfolding tight
tight_same s gs i y z j zero h = refl
tight_same s gs i y z j (suc m) h =
    rw (h j (omega arith) (omega arith), tight_same s gs i y z (suc j) m (λ c a b. h c (omega arith) (omega arith)))

-- ---- the demands of a key
pub key_demands_some : (s : Side) (key z i : ℕ) → key < none → key_demands s key z i ≡ key_demand s key z i ∷ []
unfolding key_demands
key_demands_some s key z i l = rw (lt-ltb key none l)

pub key_demands_none : (s : Side) (key z i : ℕ) → none ≤ key → key_demands s key z i ≡ []
unfolding key_demands
key_demands_none s key z i l = rw (le-ltb key none l)

pub key_demands_few : (s : Side) (key z i : ℕ) → length (key_demands s key z i) ≤ 1
key_demands_few s key z i = go (dec_lt key none)
  where
    go : Dec (key < none) → length (key_demands s key z i) ≤ 1
    go (yes l) = rw (key_demands_some s key z i l) (omega arith)
    go (no l) = rw (key_demands_none s key z i (omega arith)) (omega arith)

-- at most one demand for each clock
pub tight_few : (s : Side) (gs : List Guard) (i : ℕ) (z : ℕ → ℕ) (j m : ℕ) → length (tight s gs i z j m) ≤ m
unfolding tight
tight_few s gs i z j zero = omega arith
tight_few s gs i z j (suc m) =
    rw (length-append (key_demands s (least s j gs) (z j) i) (tight s gs i z (suc j) m))
    (omega (arith, key_demands_few s (least s j gs) (z j) i, tight_few s gs i z (suc j) m))

pub key_demands_listed : (s : Side) (key z i : ℕ) (d : Demand) → Memᴰ d (key_demands s key z i)
    → (key < none) × (d ≡ key_demand s key z i)
key_demands_listed s key z i d m = go (dec_lt key none)
  where
    only : (d ≡ key_demand s key z i) ⊎ Memᴰ d [] → d ≡ key_demand s key z i
    only (inl e) = e
    only (inr n) = absurd (mathlib.Core.List.Memᴰ.not-nil n)

    go : Dec (key < none) → (key < none) × (d ≡ key_demand s key z i)
    go (yes l) = (l, only (mathlib.Core.List.Memᴰ.cases_cons (rw (key_demands_some s key z i l) at m)))
    go (no l) = absurd (mathlib.Core.List.Memᴰ.not-nil (rw (key_demands_none s key z i (omega arith)) at m))

-- A demand of a key is the one of each side that has the key.
upper_halves : (b : Bool) (c key : ℕ) → key ≡ 2 * c + slack b → (key / 2 ≡ c) × (eqb (key % 2) 0 ≡ b)
upper_halves true c key e = (omega arith, eq-eqb (key % 2) 0 (omega arith))
upper_halves false c key e = (omega arith, ne_eqb (key % 2) 0 (omega arith))

lower_halves : (b : Bool) (c key : ℕ) → key + 2 * c ≡ 2 * most + slack b → ((2 * most + 1 - key) / 2 ≡ c) × (eqb (key % 2) 0 ≡ b)
lower_halves true c key e = (omega arith, eq-eqb (key % 2) 0 (omega arith))
lower_halves false c key e = (omega arith, ne_eqb (key % 2) 0 (omega arith))

pub key_demand_lem : (s : Side) (r : Relation) (c z i : ℕ) → c ≤ most → Has s r
    → key_demand s (side_key s r c) z i ≡ side_demand s r c z i
unfolding key_demand
key_demand_lem true r c z i l h =
    let e = upper_halves (strictly r) c (side_key true r c) (upper_key r c h) in rw (e.0, e.1)
key_demand_lem false r c z i l h =
    let e = lower_halves (strictly r) c (side_key false r c) (lower_key r c l h) in rw (e.0, e.1)

-- ---- the smallest key
pub key_own : (s : Side) (clock : ℕ) (g : Guard) → Own clock g → key_on s clock g ≡ side_key s g.relation g.constant
unfolding key_on
key_own s clock g e = rw (eq-eqb g.clock clock e.0, eq-eqb g.second 0 e.1)

pub key_other : (s : Side) (clock : ℕ) (g : Guard) → ¬ Own clock g → key_on s clock g ≡ none
unfolding key_on
key_other s clock g n = go (ℕ_discrete g.second 0) (ℕ_discrete g.clock clock)
  where
    go : Dec (g.second ≡ 0) → Dec (g.clock ≡ clock)
        → cond (eqb g.clock clock) (cond (eqb g.second 0) (side_key s g.relation g.constant) none) none ≡ none
    go a (no b) = rw (ne_eqb g.clock clock b)
    go (no a) (yes b) = rw (eq-eqb g.clock clock b, ne_eqb g.second 0 a)
    go (yes a) (yes b) = absurd (n (b, a))

key_clock : (s : Side) (clock : ℕ) (g : Guard) → key_on s clock g < none → Own clock g
key_clock s clock g h = go (own? clock g)
  where
    go : Dec (Own clock g) → Own clock g
    go (yes e) = e
    go (no e) = absurd (omega (arith, key_other s clock g e))

pub least_nil : (s : Side) (clock : ℕ) → least s clock [] ≡ none
unfolding least
least_nil s clock = refl

-- it is at most `none`,
pub least_none : (s : Side) (clock : ℕ) (gs : List Guard) → least s clock gs ≤ none
unfolding least
least_none s clock [] = omega arith
least_none s clock (g ∷ gs) = omega (arith, least_none s clock gs)

-- at most the key of each guard,
least_under : (s : Side) (clock : ℕ) (gs : List Guard) (g : Guard) → Memᴰ g gs → least s clock gs ≤ key_on s clock g
unfolding least
least_under s clock [] g m = absurd (mathlib.Core.List.Memᴰ.not-nil m)
least_under s clock (h ∷ gs) g m =
    ⊎_elim (λ e. omega (arith, ap (key_on s clock) e)) (λ k. omega (arith, least_under s clock gs g k)) (mathlib.Core.List.Memᴰ.cases_cons m)

-- and with one guard more it falls to that guard's key on its own clock.
least_more : (s : Side) (clock : ℕ) (gs : List Guard) (g : Guard)
    → least s clock (gs ++ g ∷ []) ≡ min (least s clock gs) (key_on s clock g)
unfolding least
least_more s clock [] g = omega arith
least_more s clock (h ∷ gs) g = omega (arith, least_more s clock gs g)

pub least_own : (s : Side) (clock : ℕ) (gs : List Guard) (g : Guard) → g.clock ≡ clock
    → least s clock (gs ++ g ∷ []) ≡ min (least s clock gs) (solo_key s g)
least_own s clock gs g e = least_more s clock gs g ∙ ap (min (least s clock gs)) own
  where
    own : key_on s clock g ≡ solo_key s g
    own = unfold key_on in rw (eq-eqb g.clock clock e)

pub least_other : (s : Side) (clock : ℕ) (gs : List Guard) (g : Guard) → ¬ (g.clock ≡ clock)
    → least s clock (gs ++ g ∷ []) ≡ least s clock gs
least_other s clock gs g e =
    omega (arith, least_more s clock gs g, key_other s clock g (λ o. e o.0), least_none s clock gs)

-- a guard on the clock with this key
record Best (s : Side) (clock key : ℕ) (gs : List Guard) : Type 0 where
  guard : Guard
  member : Memᴰ guard gs
  on : Own clock guard
  has : Has s guard.relation
  keyed : side_key s guard.relation guard.constant ≡ key

best_more : (s : Side) (clock key : ℕ) (g : Guard) (gs : List Guard) → Best s clock key gs → Best s clock key (g ∷ gs)
best_more s clock key g gs b =
    record { guard = b.guard; member = mathlib.Core.List.Memᴰ.tail b.member; on = b.on; has = b.has; keyed = b.keyed }

least_best : (s : Side) (clock : ℕ) (gs : List Guard) → least s clock gs < none → Best s clock (least s clock gs) gs
unfolding least
least_best s clock [] l = absurd (omega arith)
least_best s clock (g ∷ gs) l = pick (dec_le (key_on s clock g) (least s clock gs)) (least_best s clock gs)
  where
    key : ℕ
    key = min (key_on s clock g) (least s clock gs)

    here : key_on s clock g ≤ least s clock gs → Best s clock key (g ∷ gs)
    here k =
        let on : Own clock g = key_clock s clock g (omega arith) in
        let own : key_on s clock g ≡ side_key s g.relation g.constant = key_own s clock g on in
        record {
          guard = g;
          member = mathlib.Core.List.Memᴰ.head refl;
          on = on;
          has = key_has s g.relation g.constant (omega arith);
          keyed = omega arith;
        }

    pick : Dec (key_on s clock g ≤ least s clock gs) → (least s clock gs < none → Best s clock (least s clock gs) gs)
        → Best s clock key (g ∷ gs)
    pick (yes k) r = here k
    pick (no k) r =
        let e : least s clock gs ≡ key = omega arith in
        subst (λ n. Best s clock n (g ∷ gs)) e (best_more s clock (least s clock gs) g gs (r (omega arith)))

-- ---- the tightest demands are those of the smallest keys
record OnClock (s : Side) (gs : List Guard) (i : ℕ) (z : ℕ → ℕ) (j m : ℕ) (d : Demand) : Type 0 where
  clock : ℕ
  first : j ≤ clock
  last : clock < j + m
  some : least s clock gs < none
  is : d ≡ key_demand s (least s clock gs) (z clock) i

tight_listed : (s : Side) (gs : List Guard) (i : ℕ) (z : ℕ → ℕ) (j m : ℕ) (d : Demand) → Memᴰ d (tight s gs i z j m)
    → OnClock s gs i z j m d
unfolding tight
tight_listed s gs i z j zero d l = absurd (mathlib.Core.List.Memᴰ.not-nil l)
tight_listed s gs i z j (suc m) d l =
    ⊎_elim here (λ k. there (tight_listed s gs i z (suc j) m d k))
    (mathlib.Core.List.Memᴰ.append_cases (key_demands s (least s j gs) (z j) i) l)
  where
    here : Memᴰ d (key_demands s (least s j gs) (z j) i) → OnClock s gs i z j (suc m) d
    here k =
        let e = key_demands_listed s (least s j gs) (z j) i d k in
        record { clock = j; first = omega arith; last = omega arith; some = e.0; is = e.1 }

    there : OnClock s gs i z (suc j) m d → OnClock s gs i z j (suc m) d
    there o =
        record {
          clock = o.clock;
          first = omega (arith, o.first);
          last = omega (arith, o.last);
          some = o.some;
          is = o.is;
        }

listed_tight : (s : Side) (gs : List Guard) (i : ℕ) (z : ℕ → ℕ) (j m clock : ℕ) → j ≤ clock → clock < j + m
    → least s clock gs < none → Memᴰ (key_demand s (least s clock gs) (z clock) i) (tight s gs i z j m)
unfolding tight
listed_tight s gs i z j zero clock a b l = absurd (omega arith)
listed_tight s gs i z j (suc m) clock a b l = go (ℕ_discrete j clock) (listed_tight s gs i z (suc j) m clock)
  where
    D : ℕ → Demand
    D n = key_demand s (least s n gs) (z n) i

    here : least s j gs < none → Memᴰ (D j) (tight s gs i z j (suc m))
    here k =
        let one : Memᴰ (D j) (key_demands s (least s j gs) (z j) i) =
        rw (key_demands_some s (least s j gs) (z j) i k) (mathlib.Core.List.Memᴰ.head refl) in
        mathlib.Core.List.Memᴰ.append_left (tight s gs i z (suc j) m) one

    go : Dec (j ≡ clock)
        → (suc j ≤ clock → clock < suc j + m → least s clock gs < none → Memᴰ (D clock) (tight s gs i z (suc j) m))
        → Memᴰ (D clock) (tight s gs i z j (suc m))
    go (yes e) r = subst (λ n. Memᴰ (D n) (tight s gs i z j (suc m))) e (here (rw (← e) at l))
    go (no n) r = mathlib.Core.List.Memᴰ.append_right (key_demands s (least s j gs) (z j) i) (r (omega arith) (omega arith) l)

-- ---- their ends: the moment, and a last reset
-- x is the last reset of one of m clocks from clock j on
pub record LastReset (z : ℕ → ℕ) (j m x : ℕ) : Type 0 where
  pub clock : ℕ
  pub first : j ≤ clock
  pub last : clock < j + m
  pub is : x ≡ z clock

module _ (gs : List Guard) (i : ℕ) (z : ℕ → ℕ) (j m : ℕ) (d : Demand) where
  pub tight_lower_ends : Memᴰ d (tight false gs i z j m) → (d.from ≡ i) × LastReset z j m d.to
  unfolding key_demand
  tight_lower_ends l =
      let o = tight_listed false gs i z j m d l in
      (ap (λ e. e.from) o.is, record { clock = o.clock; first = o.first; last = o.last; is = ap (λ e. e.to) o.is })

  pub tight_upper_ends : Memᴰ d (tight true gs i z j m) → (d.to ≡ i) × LastReset z j m d.from
  unfolding key_demand
  tight_upper_ends l =
      let o = tight_listed true gs i z j m d l in
      (ap (λ e. e.to) o.is, record { clock = o.clock; first = o.first; last = o.last; is = ap (λ e. e.from) o.is })

-- ---- the demands of guards, one guard at a time
abbrev of : ℕ → (ℕ → ℕ) → Guard → List Demand
of i z g = demands_at g i z

-- those of a guard on one clock alone
alone : (i : ℕ) (z : ℕ → ℕ) (g : Guard) → FairGuard g → g.second ≡ 0
    → of i z g ≡ guard_demands g.relation g.constant 0 (z g.clock) i
alone i z g f e = rw (up_plain g (f.plain e), down_plain g (f.plain e), end_none g.second i z e)

-- ---- guards with a second clock
pub paired_few : (gs : List Guard) → length (paired gs) ≤ length gs
unfolding paired
paired_few [] = omega arith
paired_few (g ∷ gs) = go (eqb g.second 0) (paired_few gs)
  where
    go : (b : Bool) → length (paired gs) ≤ length gs → length (cond b (paired gs) (g ∷ paired gs)) ≤ suc (length gs)
    go true h = omega arith
    go false h = omega arith

pub paired_append : (gs hs : List Guard) → paired (gs ++ hs) ≡ paired gs ++ paired hs
unfolding paired
paired_append [] hs = refl
paired_append (g ∷ gs) hs = go (eqb g.second 0) (paired_append gs hs)
  where
    go : (b : Bool) → paired (gs ++ hs) ≡ paired gs ++ paired hs
        → cond b (paired (gs ++ hs)) (g ∷ paired (gs ++ hs)) ≡ cond b (paired gs) (g ∷ paired gs) ++ paired hs
    go true e = e
    go false e = ap (λ l. g ∷ l) e

pub paired_twice : (gs : List Guard) → paired (paired gs) ≡ paired gs
unfolding paired
paired_twice [] = refl
paired_twice (g ∷ gs) = go (ℕ_discrete g.second 0) (paired_twice gs)
  where
    go : Dec (g.second ≡ 0) → paired (paired gs) ≡ paired gs → paired (paired (g ∷ gs)) ≡ paired (g ∷ gs)
    go (yes n) e = rw (eq-eqb g.second 0 n) e
    go (no n) e = rw (ne_eqb g.second 0 n, ne_eqb g.second 0 n) (ap (λ l. g ∷ l) e)

paired_member : (gs : List Guard) (g : Guard) → Memᴰ g gs → ¬ (g.second ≡ 0) → Memᴰ g (paired gs)
unfolding paired
paired_member [] g m n = absurd (mathlib.Core.List.Memᴰ.not-nil m)
paired_member (h ∷ gs) g m n = go (ℕ_discrete h.second 0) (mathlib.Core.List.Memᴰ.cases_cons m) (λ k. paired_member gs g k n)
  where
    go : Dec (h.second ≡ 0) → (g ≡ h) ⊎ Memᴰ g gs → (Memᴰ g gs → Memᴰ g (paired gs))
        → Memᴰ g (cond (eqb h.second 0) (paired gs) (h ∷ paired gs))
    go (yes e) (inl q) later = absurd (n (ap (λ (x : Guard). x.second) q ∙ e))
    go (yes e) (inr k) later = rw (eq-eqb h.second 0 e) (later k)
    go (no e) (inl q) later = rw (ne_eqb h.second 0 e) (mathlib.Core.List.Memᴰ.head q)
    go (no e) (inr k) later = rw (ne_eqb h.second 0 e) (mathlib.Core.List.Memᴰ.tail (later k))

pub member_paired : (gs : List Guard) (g : Guard) → Memᴰ g (paired gs) → Memᴰ g gs
unfolding paired
member_paired [] g m = m
member_paired (h ∷ gs) g m = go (ℕ_discrete h.second 0) (λ k. member_paired gs g k) m
  where
    go : Dec (h.second ≡ 0) → (Memᴰ g (paired gs) → Memᴰ g gs)
        → Memᴰ g (cond (eqb h.second 0) (paired gs) (h ∷ paired gs)) → Memᴰ g (h ∷ gs)
    go (yes e) later k = mathlib.Core.List.Memᴰ.tail (later (rw (eq-eqb h.second 0 e) at k))
    go (no e) later k =
        ⊎_elim (λ q. mathlib.Core.List.Memᴰ.head q) (λ q. mathlib.Core.List.Memᴰ.tail (later q))
        (mathlib.Core.List.Memᴰ.cases_cons (rw (ne_eqb h.second 0 e) at k))

listed_guards : (gs : List Guard) (i : ℕ) (z : ℕ → ℕ) (g : Guard) (d : Demand) → Memᴰ g gs → Memᴰ d (of i z g)
    → Memᴰ d (guards_demands gs i z)
unfolding guards_demands
listed_guards [] i z g d m l = absurd (mathlib.Core.List.Memᴰ.not-nil m)
listed_guards (h ∷ gs) i z g d m l =
    ⊎_elim (λ e. mathlib.Core.List.Memᴰ.append_left (guards_demands gs i z) (subst (λ q. Memᴰ d (of i z q)) e l))
    (λ k. mathlib.Core.List.Memᴰ.append_right (of i z h) (listed_guards gs i z g d k l))
    (mathlib.Core.List.Memᴰ.cases_cons m)

guards_listed : (gs : List Guard) (i : ℕ) (z : ℕ → ℕ) (d : Demand) → Memᴰ d (guards_demands gs i z)
    → (g : Guard) × Memᴰ g gs × Memᴰ d (of i z g)
unfolding guards_demands
guards_listed [] i z d m = absurd (mathlib.Core.List.Memᴰ.not-nil m)
guards_listed (h ∷ gs) i z d m =
    ⊎_elim (λ l. (h, mathlib.Core.List.Memᴰ.head refl, l))
    (λ l. let k = guards_listed gs i z d l in (k.0, mathlib.Core.List.Memᴰ.tail k.1, k.2))
    (mathlib.Core.List.Memᴰ.append_cases (of i z h) m)

stronger : (s : Side) (r q : Relation) (c e z i : ℕ) → c ≤ most → e ≤ most → Has s r → Has s q
    → side_key s r c ≤ side_key s q e → Stronger (side_demand s r c z i) (side_demand s q e z i)
stronger true r q c e z i l m h k le = record { from = refl; to = refl; tight = key_tight true r q c e z i l m h k le }
stronger false r q c e z i l m h k le = record { from = refl; to = refl; tight = key_tight false r q c e z i l m h k le }

-- ---- together
module _ (n : ℕ) (gs : List Guard) (f : Every FairGuard gs) (on : Every (OnClocks n) gs) (i : ℕ) (z : ℕ → ℕ) where
  -- the tightest demand on a clock is the one of its guard
  best_demand : (s : Side) (clock : ℕ) (b : Best s clock (least s clock gs) gs)
      → key_demand s (least s clock gs) (z clock) i ≡ side_demand s b.guard.relation b.guard.constant (z clock) i
  best_demand s clock b =
      ap (λ k. key_demand s k (z clock) i) (sym b.keyed)
      ∙ key_demand_lem s b.guard.relation b.guard.constant (z clock) i (omega (arith, (f b.guard b.member).small)) b.has

  among_side : (s : Side) (e : Demand) → Memᴰ e (tight s gs i z 1 n) → Memᴰ e (guards_demands gs i z)
  among_side s e m =
      listed_guards gs i z g e b.member
      (subst (λ d. Memᴰ d (of i z g)) (sym is) (subst (Memᴰ _) (sym (alone i z g (f g b.member) b.on.1)) listed))
    where
      o : OnClock s gs i z 1 n e
      o = tight_listed s gs i z 1 n e m

      b : Best s o.clock (least s o.clock gs) gs
      b = least_best s o.clock gs o.some

      g : Guard
      g = b.guard

      is : e ≡ side_demand s g.relation g.constant (z g.clock) i
      is =
          o.is
          ∙ best_demand s o.clock b
          ∙ ap (λ c. side_demand s g.relation g.constant (z c) i) (sym b.on.0)

      listed : Memᴰ (side_demand s g.relation g.constant (z g.clock) i) (guard_demands g.relation g.constant 0 (z g.clock) i)
      listed = side_listed g.constant (z g.clock) i s g.relation b.has

  -- the tightest of each side, and all those between two clocks
  abbrev pub tightest : List Demand
  tightest = tight false gs i z 1 n ++ (tight true gs i z 1 n ++ guards_demands (paired gs) i z)

  among_paired : (e : Demand) → Memᴰ e (guards_demands (paired gs) i z) → Memᴰ e (guards_demands gs i z)
  among_paired e m = let k = guards_listed (paired gs) i z e m in listed_guards gs i z k.0 e (member_paired gs k.0 k.1) k.2

  in_both : (s : Side) (d : Demand) → Memᴰ d (tight s gs i z 1 n) → Memᴰ d tightest
  in_both true d m = mathlib.Core.List.Memᴰ.append_right (tight false gs i z 1 n) (mathlib.Core.List.Memᴰ.append_left (guards_demands (paired gs) i z) m)
  in_both false d m = mathlib.Core.List.Memᴰ.append_left (tight true gs i z 1 n ++ guards_demands (paired gs) i z) m

  covered_alone : (d : Demand) (g : Guard) → Memᴰ g gs → g.second ≡ 0 → Memᴰ d (of i z g)
      → (e : Demand) × Memᴰ e tightest × Stronger e d
  covered_alone d g k c l = (
    e,
    in_both s e (listed_tight s gs i z 1 n g.clock (on g k).0 (omega (arith, (on g k).1)) some),
    subst (Stronger e) (sym q.is)
        (rw (best_demand s g.clock b)
        (stronger s b.guard.relation g.relation b.guard.constant g.constant (z g.clock) i
        (omega (arith, (f b.guard b.member).small)) (omega (arith, (f g k).small)) b.has q.has (omega (arith, b.keyed, under)))),
  )
    where
      q : Listed g.constant (z g.clock) i g.relation d
      q = listed_side g.constant (z g.clock) i g.relation d (subst (Memᴰ d) (alone i z g (f g k) c) l)

      s : Side
      s = q.side

      e : Demand
      e = key_demand s (least s g.clock gs) (z g.clock) i

      under : least s g.clock gs ≤ side_key s g.relation g.constant
      under = omega (arith, least_under s g.clock gs g k, key_own s g.clock g (refl, c))

      some : least s g.clock gs < none
      some = omega (arith, under, has_key s g.relation g.constant (omega (arith, (f g k).small)) q.has)

      b : Best s g.clock (least s g.clock gs) gs
      b = least_best s g.clock gs some

  covered : (d : Demand) → Memᴰ d (guards_demands gs i z) → (e : Demand) × Memᴰ e tightest × Stronger e d
  covered d m = go (guards_listed gs i z d m)
    where
      go : (g : Guard) × Memᴰ g gs × Memᴰ d (of i z g) → (e : Demand) × Memᴰ e tightest × Stronger e d
      go (g, k, l) = pick (ℕ_discrete g.second 0)
        where
          pick : Dec (g.second ≡ 0) → (e : Demand) × Memᴰ e tightest × Stronger e d
          pick (yes c) = covered_alone d g k c l
          pick (no c) = (
            d,
            mathlib.Core.List.Memᴰ.append_right (tight false gs i z 1 n)
                (mathlib.Core.List.Memᴰ.append_right (tight true gs i z 1 n) (listed_guards (paired gs) i z g d (paired_member gs g k c) l)),
            record { from = refl; to = refl; tight = tight_refl d },
          )

pub covers_tight : (n : ℕ) (gs : List Guard) (f : Every FairGuard gs) (on : Every (OnClocks n) gs) (i : ℕ) (z : ℕ → ℕ)
    → Covers (tightest n gs f on i z) (guards_demands gs i z)
covers_tight n gs f on i z =
    record {
      among = λ e m.
          ⊎_elim (among_side n gs f on i z false e)
          (λ l. ⊎_elim (among_side n gs f on i z true e) (among_paired n gs f on i z e) (mathlib.Core.List.Memᴰ.append_cases (tight true gs i z 1 n) l))
          (mathlib.Core.List.Memᴰ.append_cases (tight false gs i z 1 n) m);
      covered = covered n gs f on i z;
    }
