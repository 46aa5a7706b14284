-- Guards tested on held readings.
use Rattle.std.specs.Prelude.{◌≡◌, ◌↔◌, Bool, ℕ, suc, ◌+◌, ◌*◌, ◌≤◌, ◌<◌, get_or}
use Rattle.std.proofs.Math.Path.{refl}
use Rattle.std.proofs.Common.{sym, ◌∙◌, arith, ltb-true, leb-true, eqb-true, lt-ltb, le-leb, eq-eqb}
use Rattle.std.proofs.Math.Bool.{true, false}
use Rattle.std.proofs.lemmas.Bool.{false≢true}
use mathlib.Core.List.{List, [], ◌∷◌, Memᴰ}
use Rattle.table.specs.Step.{Step, resets}
use Rattle.table.specs.declared.Guard.{Guard}
use Rattle.table.specs.declared.Relation.{Relation}
use Rattle.table.specs.declared.Relation.TheVariants.{Under, AtMost, Exactly, AtLeast, Over}
use Rattle.basics.specs.Tab.{get_d_tab}
use Rattle.ticks.specs.Ticks.{held, later_of}
use Rattle.runs.specs.Run.{Compares}
use Rattle.runs.specs.Tools.{Every, every_nil, every_cons}
use Rattle.scans.specs.Scan.{compares, holds, first_failing, cleared}
use Rattle.shifts.specs.Sound.{First, here, later}

-- ---- readings

-- No guard of a table tells a held reading from the true one, in whole ticks.
pub compares_held : (r : Relation) (c a : ℕ) → c ≤ 4000 → (compares r c (held a) ≡ true) ↔ Compares r (c * 1) a
compares_held Under c a h = ((λ e. omega (arith, ltb-true (held a) c e)), λ l. lt-ltb (held a) c (omega arith))
compares_held AtMost c a h = ((λ e. omega (arith, leb-true (held a) c e)), λ l. le-leb (held a) c (omega arith))
compares_held Exactly c a h = ((λ e. omega (arith, eqb-true (held a) c e)), λ l. eq-eqb (held a) c (omega arith))
compares_held AtLeast c a h = ((λ e. omega (arith, leb-true c (held a) e)), λ l. le-leb c (held a) (omega arith))
compares_held Over c a h = ((λ e. omega (arith, ltb-true c (held a) e)), λ l. lt-ltb c (held a) (omega arith))

-- a held reading some ticks later is the held later reading
pub held_later : (a ticks : ℕ) → later_of (held a) ticks ≡ held (a + ticks)
held_later a ticks = omega arith

-- the resets of a step: of a clock that it resets, and of another
pub cleared_reset : (s : Step) (r : List ℕ) (i : ℕ) → i < 6 → resets s (i + 1) ≡ true → get_or (cleared s r) i 0 ≡ 0
unfolding cleared
cleared_reset s r i h e = get_d_tab _ 6 i h ∙ rw e

pub cleared_kept : (s : Step) (r : List ℕ) (i : ℕ) → i < 6 → resets s (i + 1) ≡ false → get_or (cleared s r) i 0 ≡ get_or r i 0
unfolding cleared
cleared_kept s r i h e = get_d_tab _ 6 i h ∙ rw e

-- ---- the first guard that fails
module _ (r : List ℕ) (m : ℕ) (g : Guard) (gs : List Guard) where
  -- not this one, if it holds
  failing_later : holds g r ≡ true → first_failing m (g ∷ gs) r ≡ first_failing (suc m) gs r
  unfolding first_failing
  failing_later e = rw e

  -- else this one
  failing_here : holds g r ≡ false → first_failing m (g ∷ gs) r ≡ suc m
  unfolding first_failing
  failing_here e = rw e

-- Readings tell of some guards which of them have Q.
abbrev pub Tells : (Guard → Type 0) → List ℕ → List Guard → Type 0
Tells Q r gs = (g : Guard) → Memᴰ g gs → (holds g r ≡ true) ↔ Q g

module _ (Q : Guard → Type 0) (r : List ℕ) where
  -- they tell of the first, and of the others
  tells_head : (g : Guard) (gs : List Guard) → Tells Q r (g ∷ gs) → (holds g r ≡ true) ↔ Q g
  tells_head g gs t = t g (Memᴰ.head refl)

  tells_tail : (g : Guard) (gs : List Guard) → Tells Q r (g ∷ gs) → Tells Q r gs
  tells_tail g gs t c i = t c (Memᴰ.tail i)

  -- a guard that fails does not have Q
  tells_not : (g : Guard) → (holds g r ≡ true) ↔ Q g → holds g r ≡ false → Q g → ⊥
  tells_not g t e q = false≢true (sym e ∙ t.1 q)

  -- None fails exactly where each has Q,
  pub none_failing : (m : ℕ) (gs : List Guard) → Tells Q r gs → (first_failing m gs r ≡ 0) ↔ Every Q gs
  none_failing m [] t = ((λ e. every_nil Q), λ h. unfold first_failing in refl)
  none_failing m (g ∷ gs) t = go (none_failing (suc m) gs (tells_tail g gs t)) (holds g r) refl
    where
      go : (first_failing (suc m) gs r ≡ 0) ↔ Every Q gs → (b : Bool) → holds g r ≡ b
          → (first_failing m (g ∷ gs) r ≡ 0) ↔ Every Q (g ∷ gs)
      go rest true e = (
        (λ z. (every_cons Q g gs).1 ((tells_head g gs t).0 e, rest.0 (sym (failing_later r m g gs e) ∙ z))),
        λ h. failing_later r m g gs e ∙ rest.1 ((every_cons Q g gs).0 h).1,
      )
      go rest false e = (
        (λ z. absurd (omega (arith, failing_here r m g gs e))),
        λ h. absurd (tells_not g (tells_head g gs t) e ((every_cons Q g gs).0 h).0),
      )

  -- and one is the first that fails exactly where it is the first without Q.
  pub failing_first : (m : ℕ) (gs : List Guard) → Tells Q r gs → (b : ℕ) → 0 < b → first_failing m gs r ≡ b → First Q m gs b
  failing_first m [] t b p e = absurd (unfold first_failing in omega arith)
  failing_first m (g ∷ gs) t b p e = go (failing_first (suc m) gs (tells_tail g gs t) b p) (holds g r) refl
    where
      go : (first_failing (suc m) gs r ≡ b → First Q (suc m) gs b) → (v : Bool) → holds g r ≡ v → First Q m (g ∷ gs) b
      go rest true v = later ((tells_head g gs t).0 v) (rest (sym (failing_later r m g gs v) ∙ e))
      go rest false v = rw (sym e ∙ failing_here r m g gs v) (here (tells_not g (tells_head g gs t) v))

  pub first_failing_lem : {m b : ℕ} {gs : List Guard} → Tells Q r gs → First Q m gs b → (0 < b) × (first_failing m gs r ≡ b)
  first_failing_lem t (here {m = m} {g = g} {gs = gs} n) = (omega arith, go (holds g r) refl)
    where
      go : (v : Bool) → holds g r ≡ v → first_failing m (g ∷ gs) r ≡ suc m
      go true v = absurd (n ((tells_head g gs t).0 v))
      go false v = failing_here r m g gs v
  first_failing_lem t (later {m = m} {b = b} {g = g} {gs = gs} q f) =
      let rest = first_failing_lem (tells_tail g gs t) f in
      (rest.0, failing_later r m g gs ((tells_head g gs t).1 q) ∙ rest.1)
