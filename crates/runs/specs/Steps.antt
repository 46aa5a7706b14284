-- A run step by step: what a list of steps does to a configuration.
use Rattle.std.specs.Prelude.{◌≡◌, refl, ◌⊎◌, Bool, true, false, cond, ℕ, zero, suc, ◌+◌, ◌*◌, ◌≤◌, ◌<◌, length}
use Rattle.std.proofs.Common.{ap, sym, inl, inr, arith, mul-le-mul_left}
use mathlib.Core.List.{List, [], ◌∷◌, ◌++◌, Memᴰ}
use Rattle.table.specs.Step.{Step, resets, up_of, down_of, end_of, Fair, Fairs}
use Rattle.table.specs.declared.Guard.{Guard}
use Rattle.table.specs.declared.Relation.{Relation}
use Rattle.table.specs.declared.Relation.TheVariants.{Under, AtMost, Exactly, AtLeast, Over}

-- A configuration is a row of times: place 0 is now, places 1 to 6 are the last resets of the clocks. No other matters.
abbrev pub Config : Type 0
Config = ℕ → ℕ

-- equal in all places that matter
abbrev pub Same : Config → Config → Type 0
Same u v = (a : ℕ) → a < 7 → u a ≡ v a

-- no clock was last reset after now
abbrev pub Old : Config → Type 0
Old u = (j : ℕ) → j < 7 → u j ≤ u 0

-- the reading at time t of a clock last reset at time z, compared with a constant c
abbrev pub Meets : Relation → ℕ → ℕ → ℕ → Type 0
Meets Under c z t = t < z + c
Meets AtMost c z t = t ≤ z + c
Meets Exactly c z t = t ≡ z + c
Meets AtLeast c z t = z + c ≤ t
Meets Over c z t = z + c < t

-- as a record, so that its arguments are found
pub record Met (r : Relation) (c z t : ℕ) : Type 0 where
  pub met : Meets r c z t

-- A guard is met at time t, when u j is the time of clock j's last reset: the time it is compared with is t, or that of the second
-- clock's last reset, and what its constant takes off stands on the other side.
abbrev pub MetBy : ℕ → Guard → (ℕ → ℕ) → ℕ → Type 0
MetBy P g u t = Met g.relation (up_of g * P) (u g.clock) (end_of g.second t u + down_of g * P)

-- one step, at time v 0, in P parts to a tick
pub record Move (P : ℕ) (s : Step) (u v : Config) : Type 0 where
  pub later : u 0 ≤ v 0
  pub old : Old u
  pub guarded : (g : Guard) → Memᴰ g s.guards → MetBy P g u (v 0)
  pub reset : (j : ℕ) → 0 < j → j < 7 → resets s j ≡ true → v j ≡ v 0
  pub kept : (j : ℕ) → 0 < j → j < 7 → resets s j ≡ false → v j ≡ u j

-- a list of steps, one after the other
pub data Steps (P : ℕ) : List Step → Config → Config → Type 0 where
  stay : {u v : Config} → Same u v → Steps P [] u v
  move : {s : Step} {σ : List Step} {u w v : Config} → Move P s u w → Steps P σ w v → Steps P (s ∷ σ) u v

-- ---- fair lists of steps
pub fairs_head : {s : Step} {σ : List Step} → Fairs (s ∷ σ) → Fair s
fairs_head {s} f = f s (Memᴰ.head refl)

pub fairs_tail : {s : Step} {σ : List Step} → Fairs (s ∷ σ) → Fairs σ
fairs_tail f c i = f c (Memᴰ.tail i)

-- ---- only places below 7 matter
pub same_refl : (u : Config) → Same u u
same_refl u a l = refl

-- the end of a guard's bound is the same, if the times are
pub end_equal : (j t r : ℕ) (u x : ℕ → ℕ) → t ≡ r → (0 < j → u j ≡ x j) → end_of j t u ≡ end_of j r x
unfolding end_of
end_equal zero t r u x f e = f
end_equal (suc j) t r u x f e = e (omega arith)

pub end_same : (j : ℕ) {u x : Config} {t r : ℕ} → j < 7 → Same u x → t ≡ r → end_of j t u ≡ end_of j r x
unfolding end_of
end_same zero l e f = f
end_same (suc j) l e f = e (suc j) l

pub move_same : (P : ℕ) (s : Step) {u v x y : Config} → Fair s → Same u x → Same v y → Move P s u v → Move P s x y
move_same P s f e h m =
    record {
      later = omega (arith, e 0 (omega arith), h 0 (omega arith), m.later);
      old = λ j l. omega (arith, e 0 (omega arith), e j l, m.old j l);
      guarded = λ g i.
          rw (← e g.clock (f.guards g i).last, ← end_same g.second (f.guards g i).second e (h 0 (omega arith))) (m.guarded g i);
      reset = λ j p l r. omega (arith, h 0 (omega arith), h j l, m.reset j p l r);
      kept = λ j p l r. omega (arith, e j l, h j l, m.kept j p l r);
    }

-- Steps between two configurations are steps between any that are the same.
pub steps_same : (P : ℕ) (σ : List Step) {u v x y : Config} → Fairs σ → Same u x → Same v y
    → Steps P σ u v → Steps P σ x y
steps_same P [] {u} {v} {x} {y} f e h (stay r) = stay {u = x} {v = y} (λ a l. omega (arith, e a l, h a l, r a l))
steps_same P (s ∷ σ) f e h (move {w = w} m r) =
    move (move_same P s (fairs_head f) e (same_refl w) m) (steps_same P σ (fairs_tail f) (same_refl w) h r)

-- ---- join two lists of steps, and split one
-- Steps through w join.
pub steps_join : (P : ℕ) (σ τ : List Step) {u w v : Config} → Fairs τ
    → Steps P σ u w → Steps P τ w v → Steps P (σ ++ τ) u v
steps_join P [] τ {v = v} f (stay r) t = steps_same P τ f (λ a l. sym (r a l)) (same_refl v) t
steps_join P (s ∷ σ) τ f (move m r) t = move m (steps_join P σ τ f r t)

-- Steps split at some w.
pub steps_split : (P : ℕ) (σ τ : List Step) {u v : Config}
    → Steps P (σ ++ τ) u v → (w : Config) × Steps P σ u w × Steps P τ w v
steps_split P [] τ {u} r = (u, stay (same_refl u), r)
steps_split P (s ∷ σ) τ (move m r) = let t = steps_split P σ τ r in (t.0, move m t.1, t.2)

-- ---- time never goes back
-- A configuration that a step leaves has no clock reset after now.
pub steps_old : (P : ℕ) (σ : List Step) {u v : Config} → 0 < length σ → Steps P σ u v → Old u
steps_old P [] l r = absurd (omega arith)
steps_old P (s ∷ σ) l (move m r) = m.old

-- after a step a clock was reset by it, or is as before
pub clock_cases : (P : ℕ) (s : Step) {u v : Config} → Move P s u v → (j : ℕ) → j < 7
    → (v j ≡ v 0) ⊎ ((v j ≡ u j) × (0 < j) × (resets s j ≡ false))
clock_cases P s m zero l = inl refl
clock_cases P s {u} {v} m (suc j) l = go (resets s (suc j)) refl
  where
    go : (b : Bool) → resets s (suc j) ≡ b
        → (v (suc j) ≡ v 0) ⊎ ((v (suc j) ≡ u (suc j)) × (0 < suc j) × (resets s (suc j) ≡ false))
    go true e = inl (m.reset (suc j) (omega arith) l e)
    go false e = inr (m.kept (suc j) (omega arith) l e, omega arith, e)

-- a step leads to a configuration with no clock reset after now
pub move_old : (P : ℕ) (s : Step) {u v : Config} → Move P s u v → Old v
move_old P s {u} {v} m j l = go (clock_cases P s m j l)
  where
    go : (v j ≡ v 0) ⊎ ((v j ≡ u j) × (0 < j) × (resets s j ≡ false)) → v j ≤ v 0
    go (inl e) = omega arith
    go (inr e) = omega (arith, m.later, m.old j l)

-- ---- the configuration after the step s at time t
pub after : Step → ℕ → Config → Config
after s t u zero = t
after s t u (suc j) = cond (resets s (suc j)) t (u (suc j))

pub after_now : (s : Step) (t : ℕ) (u : Config) → after s t u 0 ≡ t
unfolding after
after_now s t u = refl

pub after_reset : (s : Step) (t : ℕ) (u : Config) (j : ℕ) → 0 < j → resets s j ≡ true → after s t u j ≡ t
unfolding after
after_reset s t u zero h e = refl
after_reset s t u (suc j) h e = rw e

pub after_kept : (s : Step) (t : ℕ) (u : Config) (j : ℕ) → 0 < j → resets s j ≡ false → after s t u j ≡ u j
unfolding after
after_kept s t u zero h e = absurd (omega arith)
after_kept s t u (suc j) h e = rw e

-- ---- a map of the times that keeps their order and the guards met
pub record Keeps (Q : ℕ) (φ : ℕ → ℕ) (s : Step) (u v : Config) : Type 0 where
  pub mono : (a b : ℕ) → a ≤ b → φ a ≤ φ b
  pub meets : (g : Guard) → Memᴰ g s.guards → MetBy Q g (λ a. φ (u a)) (φ (v 0))

-- Such a map of the times makes a step of a step.
pub move_map : (P Q : ℕ) (φ : ℕ → ℕ) (s : Step) {u v : Config} → Keeps Q φ s u v
    → Move P s u v → Move Q s (λ a. φ (u a)) (λ a. φ (v a))
move_map P Q φ s k m =
    record {
      later = k.mono _ _ m.later;
      old = λ j l. k.mono _ _ (m.old j l);
      guarded = k.meets;
      reset = λ j p l r. ap φ (m.reset j p l r);
      kept = λ j p l r. ap φ (m.kept j p l r);
    }

-- ---- scale and shift in one
met_affine : (r : Relation) (a h c d P z t : ℕ) → 0 < a
    → Met r (c * P) z (t + d * P) → Met r (c * (a * P)) (a * z + h) (a * t + h + d * (a * P))
met_affine Under a h c d P z t p m = omega (arith, mul-le-mul_left a m.met)
met_affine AtMost a h c d P z t p m = omega (arith, mul-le-mul_left a m.met)
met_affine Exactly a h c d P z t p m = omega (arith, ap (λ n. a * n) m.met)
met_affine AtLeast a h c d P z t p m = omega (arith, mul-le-mul_left a m.met)
met_affine Over a h c d P z t p m = omega (arith, mul-le-mul_left a m.met)

-- a map of the times maps the end of a bound
pub end_map : (φ : ℕ → ℕ) (j t : ℕ) (u : Config) → end_of j (φ t) (λ a. φ (u a)) ≡ φ (end_of j t u)
unfolding end_of
end_map φ zero t u = refl
end_map φ (suc j) t u = refl

-- Steps in P parts are steps in a * P parts, all times multiplied by a and shifted by h.
pub steps_affine : (P a h : ℕ) {σ : List Step} {u v : Config} → 0 < a
    → Steps P σ u v → Steps (a * P) σ (λ j. a * u j + h) (λ j. a * v j + h)
steps_affine P a h p (stay r) = stay (λ j l. ap (λ n. a * n + h) (r j l))
steps_affine P a h p (move {s = s} {u = u} {w = w} m r) =
    move (move_map P (a * P) (λ n. a * n + h) s keeps m) (steps_affine P a h p r)
  where
    keeps : Keeps (a * P) (λ n. a * n + h) s u w
    keeps =
        record {
          mono = λ b c l. omega (arith, mul-le-mul_left a l);
          meets = λ g i.
              rw (end_map (λ n. a * n + h) g.second (w 0) u)
              (met_affine g.relation a h (up_of g) (down_of g) P _ _ p (m.guarded g i));
        }
