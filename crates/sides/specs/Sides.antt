-- The two sides of a guard: it may bound a reading from above and from below. A key tells how tight a side is.
use Rattle.std.specs.Prelude.{◌≡◌, refl, ◌⊎◌, Bool, true, false, cond, eqb, ℕ, ◌+◌, ◌*◌, ◌-◌, ◌≤◌, ◌<◌}
use Rattle.std.proofs.Common.{inl, inr, eq-eqb, ne_eqb, arith}
use mathlib.Core.List.Memᴰ
use mathlib.Core.List.{[], ◌∷◌, Memᴰ}
use Rattle.std.proofs.Math.Decide.{dec_lt}
use Rattle.table.specs.declared.Relation.{Relation}
use Rattle.table.specs.declared.Relation.TheVariants.{Under, AtMost, Exactly, AtLeast, Over}
use Rattle.runs.specs.declared.Demand.{Demand}
use Rattle.runs.specs.Demand.{plus, minus, guard_demands}
use Rattle.runs.specs.Loop.{AsTight}
use Rattle.scaling.specs.Scaled.{most}

-- The upper side is `true`, the lower one `false`.
abbrev pub Side : Type 0
Side = Bool

-- whether a guard of a relation has a side
abbrev pub Has : Side → Relation → Type 0
Has true Under = Unit {0}
Has true AtMost = Unit {0}
Has true Exactly = Unit {0}
Has true AtLeast = ⊥
Has true Over = ⊥
Has false Under = ⊥
Has false AtMost = ⊥
Has false Exactly = Unit {0}
Has false AtLeast = Unit {0}
Has false Over = Unit {0}

abbrev pub strictly : Relation → Bool
strictly Under = true
strictly AtMost = false
strictly Exactly = false
strictly AtLeast = false
strictly Over = true

-- the demand of a side: of a guard with constant c at moment i on a clock last reset at moment z
abbrev pub side_demand : Side → Relation → ℕ → ℕ → ℕ → Demand
side_demand true r c z i = plus z i c (strictly r)
side_demand false r c z i = minus i z c (strictly r)

-- ---- keys
-- the key of a side that is not there: past all others
abbrev pub none : ℕ
none = 2 * most + 2

-- The smaller the tighter, for constants up to `most`.
abbrev pub side_key : Side → Relation → ℕ → ℕ
side_key true Under c = 2 * c
side_key true AtMost c = 2 * c + 1
side_key true Exactly c = 2 * c + 1
side_key true AtLeast c = none
side_key true Over c = none
side_key false Under c = none
side_key false AtMost c = none
side_key false Exactly c = 2 * most + 1 - 2 * c
side_key false AtLeast c = 2 * most + 1 - 2 * c
side_key false Over c = 2 * most - 2 * c

-- the key of a side and a relation that are known
pub key_known : (s q : Side) (r p : Relation) (c a : ℕ) → a ≡ side_key s r c → q ≡ s → p ≡ r → a ≡ side_key q p c
key_known s q r p c a h e f = rw (e, f) h

-- the key of a guard with a second clock m is none, and that of another is its side's
pub solo_no : (s : Side) (r : Relation) (c m : ℕ) → 0 < m → none ≡ cond (eqb m 0) (side_key s r c) none
solo_no s r c m h = rw (ne_eqb m 0 (omega arith))

pub solo_yes : (s : Side) (r : Relation) (c m a : ℕ) → m ≡ 0 → a ≡ side_key s r c → a ≡ cond (eqb m 0) (side_key s r c) none
solo_yes s r c m a e h = rw (eq-eqb m 0 e) h

-- a side is there exactly where its key is not `none`
pub key_has : (s : Side) (r : Relation) (c : ℕ) → side_key s r c < none → Has s r
key_has true Under c h = tt
key_has true AtMost c h = tt
key_has true Exactly c h = tt
key_has true AtLeast c h = absurd (omega arith)
key_has true Over c h = absurd (omega arith)
key_has false Under c h = absurd (omega arith)
key_has false AtMost c h = absurd (omega arith)
key_has false Exactly c h = tt
key_has false AtLeast c h = tt
key_has false Over c h = tt

pub has_key : (s : Side) (r : Relation) (c : ℕ) → c ≤ most → Has s r → side_key s r c < none
has_key true Under c l h = omega arith
has_key true AtMost c l h = omega arith
has_key true Exactly c l h = omega arith
has_key true AtLeast c l h = absurd h
has_key true Over c l h = absurd h
has_key false Under c l h = absurd h
has_key false AtMost c l h = absurd h
has_key false Exactly c l h = omega arith
has_key false AtLeast c l h = omega arith
has_key false Over c l h = omega arith

-- ---- a smaller key is as tight
-- 0 for strict, 1 for weak
abbrev pub slack : Bool → ℕ
slack true = 0
slack false = 1

upper_tight : (b d : Bool) (c e z i : ℕ) → 2 * c + slack b ≤ 2 * e + slack d → AsTight (plus z i c b) (plus z i e d)
upper_tight b d c e z i h = go (dec_lt c e) b d h
  where
    go : Dec (c < e) → (b d : Bool) → 2 * c + slack b ≤ 2 * e + slack d → AsTight (plus z i c b) (plus z i e d)
    go (yes l) b d h = inl (omega arith)
    go (no l) true true h = inr (omega arith, λ _. refl)
    go (no l) true false h = inr (omega arith, λ _. refl)
    go (no l) false true h = absurd (omega arith)
    go (no l) false false h = inr (omega arith, λ q. q)

lower_tight : (b d : Bool) (c e z i : ℕ) → 2 * e + slack b ≤ 2 * c + slack d → AsTight (minus i z c b) (minus i z e d)
lower_tight b d c e z i h = go (dec_lt e c) b d h
  where
    go : Dec (e < c) → (b d : Bool) → 2 * e + slack b ≤ 2 * c + slack d → AsTight (minus i z c b) (minus i z e d)
    go (yes l) b d h = inl (omega arith)
    go (no l) true true h = inr (omega arith, λ _. refl)
    go (no l) true false h = inr (omega arith, λ _. refl)
    go (no l) false true h = absurd (omega arith)
    go (no l) false false h = inr (omega arith, λ q. q)

pub upper_key : (r : Relation) (c : ℕ) → Has true r → side_key true r c ≡ 2 * c + slack (strictly r)
upper_key Under c h = omega arith
upper_key AtMost c h = refl
upper_key Exactly c h = refl
upper_key AtLeast c h = absurd h
upper_key Over c h = absurd h

pub lower_key : (r : Relation) (c : ℕ) → c ≤ most → Has false r → side_key false r c + 2 * c ≡ 2 * most + slack (strictly r)
lower_key Under c l h = absurd h
lower_key AtMost c l h = absurd h
lower_key Exactly c l h = omega arith
lower_key AtLeast c l h = omega arith
lower_key Over c l h = omega arith

pub key_tight : (s : Side) (r q : Relation) (c e z i : ℕ) → c ≤ most → e ≤ most → Has s r → Has s q
    → side_key s r c ≤ side_key s q e → AsTight (side_demand s r c z i) (side_demand s q e z i)
key_tight true r q c e z i l m h k le =
    upper_tight (strictly r) (strictly q) c e z i (omega (arith, upper_key r c h, upper_key q e k))
key_tight false r q c e z i l m h k le =
    lower_tight (strictly r) (strictly q) c e z i (omega (arith, lower_key r c l h, lower_key q e m k))

-- ---- the demands of a guard are those of its sides
module _ (c z i : ℕ) where
  pub side_listed : (s : Side) (r : Relation) → Has s r → Memᴰ (side_demand s r c z i) (guard_demands r c 0 z i)
  side_listed true Under h = Memᴰ.head refl
  side_listed true AtMost h = Memᴰ.head refl
  side_listed true Exactly h = Memᴰ.head refl
  side_listed true AtLeast h = absurd h
  side_listed true Over h = absurd h
  side_listed false Under h = absurd h
  side_listed false AtMost h = absurd h
  side_listed false Exactly h = Memᴰ.tail (Memᴰ.head refl)
  side_listed false AtLeast h = Memᴰ.head refl
  side_listed false Over h = Memᴰ.head refl

  only : (d e : Demand) → Memᴰ d (e ∷ []) → d ≡ e
  only d e m = go (Memᴰ.cases_cons m)
    where
      go : (d ≡ e) ⊎ Memᴰ d [] → d ≡ e
      go (inl q) = q
      go (inr n) = absurd (Memᴰ.not-nil n)

  pub record Listed (r : Relation) (d : Demand) : Type 0 where
    pub side : Side
    pub has : Has side r
    pub is : d ≡ side_demand side r c z i

  pub listed_side : (r : Relation) (d : Demand) → Memᴰ d (guard_demands r c 0 z i) → Listed r d
  listed_side Under d m = record { side = true; has = tt; is = only d _ m }
  listed_side AtMost d m = record { side = true; has = tt; is = only d _ m }
  listed_side Exactly d m = go (Memᴰ.cases_cons m)
    where
      go : (d ≡ plus z i c false) ⊎ Memᴰ d (minus i z c false ∷ []) → Listed Exactly d
      go (inl q) = record { side = true; has = tt; is = q }
      go (inr n) = record { side = false; has = tt; is = only d _ n }
  listed_side AtLeast d m = record { side = false; has = tt; is = only d _ m }
  listed_side Over d m = record { side = false; has = tt; is = only d _ m }
