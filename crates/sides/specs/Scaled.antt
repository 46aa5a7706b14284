-- Guards in P parts to a tick: the tightest are the same, and their demands are the same with the constants in parts.
use Rattle.std.specs.Prelude.{◌≡◌, refl, ◌⊎◌, Bool, true, false, cond, eqb, ℕ, ◌+◌, ◌*◌, ◌≤◌, ◌<◌, min}
use Rattle.std.proofs.Common.{sym, ap, ◌∙◌, inl, arith, mul-le-mul_right}
use Rattle.std.proofs.Math.Logic.{inr}
use mathlib.Core.List.Memᴰ
use mathlib.Core.List.{List, [], ◌∷◌, ◌++◌, map, map-append}
use Rattle.std.proofs.Math.Decide.{dec_le, dec_lt}
use Rattle.table.specs.Step.{up_of, down_of, end_of, FairGuard}
use Rattle.table.specs.declared.Guard.{Guard}
use Rattle.table.specs.declared.Relation.{Relation}
use Rattle.table.specs.declared.Relation.TheVariants.{Under, AtMost, Exactly, AtLeast, Over}
use Rattle.runs.specs.declared.Demand.{Demand}
use Rattle.runs.specs.Demand.{guard_demands, demands_at, guards_demands}
use Rattle.runs.specs.Tools.{Every}
use Rattle.scaling.specs.Scaled.{most, scaled_most}
use Rattle.scaling.specs.Constants.{scale_guard}
use Rattle.sides.specs.Sides.{Side, Has, strictly, slack, side_demand, none, side_key, has_key, upper_key, lower_key}
use Rattle.sides.specs.Tight.{Own, own?, paired, least, key_on, key_demands, key_own, key_other, key_demand_lem, key_demands_some, key_demands_none}

-- a demand with its constants in P parts to a tick
abbrev pub scale_demand : ℕ → Demand → Demand
scale_demand P d = record { from = d.from; to = d.to; up = d.up * P; down = d.down * P; strict = d.strict }

-- ---- numbers
slack_small : (b : Bool) → slack b ≤ 1
slack_small true = omega arith
slack_small false = omega arith

-- the order of constants c and e, of which each is strict or weak
order_scaled : (P : ℕ) (b d : Bool) (c e : ℕ) → 0 < P → 2 * c + slack b ≤ 2 * e + slack d
    → 2 * (c * P) + slack b ≤ 2 * (e * P) + slack d
order_scaled P b d c e p h = go (dec_lt c e)
  where
    go : Dec (c < e) → 2 * (c * P) + slack b ≤ 2 * (e * P) + slack d
    go (yes l) = omega (arith, mul-le-mul_right P l, slack_small b)
    go (no l) = let q : c ≡ e = omega (arith, slack_small d) in omega (arith, ap (λ n. n * P) q)

-- a guard of a relation has a side, or its keys there are none
side_or_none : (s : Side) (r : Relation) → Has s r ⊎ ((c : ℕ) → side_key s r c ≡ none)
side_or_none true Under = inl tt
side_or_none true AtMost = inl tt
side_or_none true Exactly = inl tt
side_or_none true AtLeast = inr (λ c. refl)
side_or_none true Over = inr (λ c. refl)
side_or_none false Under = inr (λ c. refl)
side_or_none false AtMost = inr (λ c. refl)
side_or_none false Exactly = inl tt
side_or_none false AtLeast = inl tt
side_or_none false Over = inl tt

-- ---- the demand of a side
side_demands : (s : Side) (r : Relation) (c z i : ℕ) → c ≤ most → Has s r
    → key_demands s (side_key s r c) z i ≡ side_demand s r c z i ∷ []
side_demands s r c z i l h =
    key_demands_some s (side_key s r c) z i (has_key s r c l h) ∙ ap (λ d. d ∷ []) (key_demand_lem s r c z i l h)

demand_scaled : (P : ℕ) (s : Side) (r : Relation) (c z i : ℕ)
    → side_demand s r (c * P) z i ≡ scale_demand P (side_demand s r c z i)
demand_scaled P true r c z i = let e : 0 * P ≡ 0 = omega arith in rw e
demand_scaled P false r c z i = let e : 0 * P ≡ 0 = omega arith in rw e

-- ---- keys
module _ (P : ℕ) (p : 0 < P) (few : P ≤ 1031) where
  -- a side as tight as another is so in parts
  key_order : (s : Side) (r q : Relation) (c e : ℕ) → c ≤ 4000 → e ≤ 4000 → Has s r → Has s q
      → side_key s r c ≤ side_key s q e → side_key s r (c * P) ≤ side_key s q (e * P)
  key_order true r q c e l m h k le =
      let order : 2 * c + slack (strictly r) ≤ 2 * e + slack (strictly q) = omega (arith, upper_key r c h, upper_key q e k) in
      omega (arith, upper_key r (c * P) h, upper_key q (e * P) k, order_scaled P (strictly r) (strictly q) c e p order)
  key_order false r q c e l m h k le =
      let order : 2 * e + slack (strictly r) ≤ 2 * c + slack (strictly q) =
      omega (arith, lower_key r c (omega arith) h, lower_key q e (omega arith) k) in
      omega (
        arith,
        lower_key r (c * P) (scaled_most c P l few) h,
        lower_key q (e * P) (scaled_most e P m few) k,
        order_scaled P (strictly r) (strictly q) e c p order,
      )

  module _ (s : Side) where
    -- the keys of one side, in ticks and in parts
    record Pair (key parts : ℕ) : Type 0 where
      relation : Relation
      constant : ℕ
      small : constant ≤ 4000
      has : Has s relation
      ticks : key ≡ side_key s relation constant
      scaled : parts ≡ side_key s relation (constant * P)

    -- these, or no key in either
    abbrev Paired : ℕ → ℕ → Type 0
    Paired key parts = Pair key parts ⊎ ((key ≡ none) × (parts ≡ none))

    pair_order : (a b c d : ℕ) → Paired a b → Paired c d → a ≤ c → b ≤ d
    pair_order a b c d (inl f) (inl g) h =
        omega (
          arith,
          f.scaled,
          g.scaled,
          key_order s f.relation g.relation f.constant g.constant f.small g.small f.has g.has
              (omega (arith, f.ticks, g.ticks)),
        )
    pair_order a b c d (inl f) (inr n) h =
        omega (arith, f.scaled, n.1, has_key s f.relation (f.constant * P) (scaled_most f.constant P f.small few) f.has)
    pair_order a b c d (inr n) (inl g) h =
        absurd (omega (arith, n.0, g.ticks, has_key s g.relation g.constant (omega (arith, g.small)) g.has))
    pair_order a b c d (inr n) (inr k) h = omega (arith, n.1, k.1)

    pair_min : (a b c d : ℕ) → Paired a b → Paired c d → Paired (min a c) (min b d)
    pair_min a b c d f g = go (dec_le a c)
      where
        go : Dec (a ≤ c) → Paired (min a c) (min b d)
        go (yes l) =
            let e : a ≡ min a c = omega arith in
            let h : b ≡ min b d = omega (arith, pair_order a b c d f g l) in
            rw (← e, ← h) f
        go (no l) =
            let e : c ≡ min a c = omega arith in
            let h : d ≡ min b d = omega (arith, pair_order c d a b g f (omega arith)) in
            rw (← e, ← h) g

    -- the keys of a guard,
    guard_paired : (j : ℕ) (g : Guard) → FairGuard g → Paired (key_on s j g) (key_on s j (scale_guard P g))
    guard_paired j g f = go (own? j g) (side_or_none s g.relation)
      where
        go : Dec (Own j g) → Has s g.relation ⊎ ((c : ℕ) → side_key s g.relation c ≡ none)
            → Paired (key_on s j g) (key_on s j (scale_guard P g))
        go (no n) h = inr (key_other s j g n, key_other s j (scale_guard P g) n)
        go (yes e) (inr h) =
            inr (key_own s j g e ∙ h g.constant, key_own s j (scale_guard P g) e ∙ h (g.constant * P))
        go (yes e) (inl h) =
            inl
            (record {
              relation = g.relation;
              constant = g.constant;
              small = f.small;
              has = h;
              ticks = key_own s j g e;
              scaled = key_own s j (scale_guard P g) e;
            })

    -- and the smallest of those of guards
    least_paired : (j : ℕ) (gs : List Guard) → Every FairGuard gs → Paired (least s j gs) (least s j (map (scale_guard P) gs))
    unfolding least
    least_paired j [] f = inr (refl, refl)
    least_paired j (g ∷ gs) f =
        pair_min (key_on s j g) (key_on s j (scale_guard P g)) (least s j gs) (least s j (map (scale_guard P) gs))
        (guard_paired j g (f g (Memᴰ.head refl))) (least_paired j gs (λ h m. f h (Memᴰ.tail m)))

    paired_demands : (key parts z i : ℕ) → Paired key parts → key_demands s parts z i ≡ map (scale_demand P) (key_demands s key z i)
    paired_demands key parts z i (inr n) =
        key_demands_none s parts z i (omega (arith, n.1))
        ∙ ap (map (scale_demand P)) (sym (key_demands_none s key z i (omega (arith, n.0))))
    paired_demands key parts z i (inl f) =
        ap (λ n. key_demands s n z i) f.scaled
        ∙ side_demands s f.relation (f.constant * P) z i (scaled_most f.constant P f.small few) f.has
        ∙ ap (λ d. d ∷ []) (demand_scaled P s f.relation f.constant z i)
        ∙ ap (map (scale_demand P))
        (sym (ap (λ n. key_demands s n z i) f.ticks
        ∙ side_demands s f.relation f.constant z i (omega (arith, f.small)) f.has))

-- The tightest demand on a clock is the same in parts.
pub key_demands_scaled : (P : ℕ) → 0 < P → P ≤ 1031 → (s : Side) (j : ℕ) (gs : List Guard) → Every FairGuard gs → (z i : ℕ)
    → key_demands s (least s j (map (scale_guard P) gs)) z i ≡ map (scale_demand P) (key_demands s (least s j gs) z i)
key_demands_scaled P p q s j gs f z i =
    paired_demands P p q s (least s j gs) (least s j (map (scale_guard P) gs)) z i (least_paired P p q s j gs f)

-- ---- guards between two clocks
guard_scaled : (P : ℕ) (r : Relation) (u d a b : ℕ)
    → guard_demands r (u * P) (d * P) a b ≡ map (scale_demand P) (guard_demands r u d a b)
guard_scaled P Under u d a b = refl
guard_scaled P AtMost u d a b = refl
guard_scaled P Exactly u d a b = refl
guard_scaled P AtLeast u d a b = refl
guard_scaled P Over u d a b = refl

up_scaled : (P : ℕ) (g : Guard) → up_of (scale_guard P g) ≡ up_of g * P
unfolding up_of
up_scaled P g = go g.minus
  where
    go : (b : Bool) → cond b 0 (g.constant * P) ≡ cond b 0 g.constant * P
    go true = omega arith
    go false = refl

down_scaled : (P : ℕ) (g : Guard) → down_of (scale_guard P g) ≡ down_of g * P
unfolding down_of
down_scaled P g = go g.minus
  where
    go : (b : Bool) → cond b (g.constant * P) 0 ≡ cond b g.constant 0 * P
    go true = refl
    go false = omega arith

guards_scaled : (P : ℕ) (gs : List Guard) (i : ℕ) (z : ℕ → ℕ)
    → guards_demands (map (scale_guard P) gs) i z ≡ map (scale_demand P) (guards_demands gs i z)
unfolding guards_demands
guards_scaled P [] i z = refl
guards_scaled P (g ∷ gs) i z =
    rw (up_scaled P g, down_scaled P g, guards_scaled P gs i z)
    (ap (λ ds. ds ++ map (scale_demand P) (guards_demands gs i z))
    (guard_scaled P g.relation (up_of g) (down_of g) (z g.clock) (end_of g.second i z))
    ∙ sym (map-append (scale_demand P) (demands_at g i z) (guards_demands gs i z)))

paired_scaled : (P : ℕ) (gs : List Guard) → paired (map (scale_guard P) gs) ≡ map (scale_guard P) (paired gs)
unfolding paired
paired_scaled P [] = refl
paired_scaled P (g ∷ gs) = go (eqb g.second 0) (paired_scaled P gs)
  where
    go : (b : Bool) → paired (map (scale_guard P) gs) ≡ map (scale_guard P) (paired gs)
        → cond b (paired (map (scale_guard P) gs)) (scale_guard P g ∷ paired (map (scale_guard P) gs))
        ≡ map (scale_guard P) (cond b (paired gs) (g ∷ paired gs))
    go true h = h
    go false h = ap (λ l. scale_guard P g ∷ l) h

-- Their demands are the same in parts.
pub leads_scaled : (P : ℕ) (gs : List Guard) (i : ℕ) (z : ℕ → ℕ)
    → guards_demands (paired (map (scale_guard P) gs)) i z ≡ map (scale_demand P) (guards_demands (paired gs) i z)
leads_scaled P gs i z = ap (λ l. guards_demands l i z) (paired_scaled P gs) ∙ guards_scaled P (paired gs) i z
