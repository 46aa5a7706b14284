-- The left part of an effect with the demands of the starts: it has a solution exactly where the steps run from an allowed start.
use Rattle.std.specs.Prelude.{◌≡◌, refl, Bool, true, false, ◌↔◌, List, [], ◌∷◌, ℕ, ◌%◌, ◌-◌, ◌^◌, ◌<◌, length}
use Rattle.std.proofs.Common.{sym, subst, ◌∙◌}
use Rattle.std.proofs.Math.Path.{ap}
use native.Mathlib.Omega.{arith}
use Rattle.std.proofs.Math.Decide.{dec_lt, ℕ_discrete}
use Rattle.table.specs.Step.{Step, Fairs}
use Rattle.runs.specs.declared.Start.{Start}
use Rattle.runs.specs.Demand.{Holds, Starts, starts_of}
use Rattle.runs.specs.Satisfies.{Satisfies}
use Rattle.runs.specs.Start.{Upper, upper_places, start_upper}
use Rattle.runs.specs.Steps.{Config}
use Rattle.runs.specs.Tools.{Every, every_nil}
use Rattle.zones.specs.Bound.{Sat}
use Rattle.zones.specs.Matrix.{Matrix, Solves, Solution}
use Rattle.zones.specs.Closure.{Closure, no_others}
use Rattle.zones.specs.Extend.{solve}
use Rattle.zones.specs.Cells.{matrix, Ranged}
use Rattle.closing.specs.Closing.{Closing, closing_closure, closing_fails}
use Rattle.effects.specs.Demands.{each, every_each}
use Rattle.effects.specs.Describes.{Describes}
use Rattle.effects.specs.Begins.{Begins, effect_begins}
use Rattle.effects.specs.Settle.{left_sound, left_exact, from_begins}
use Rattle.effects.specs.Starts.{start_matrix, starts_for, start_is}
use Rattle.effects.specs.Sides.{On, upper, upper_on, fill_on, fill_same, fill_off}
use Rattle.effects.specs.Whole.{Side, whole, place, whole_before, upper_before, upper_same}
use Rattle.constraints.specs.Partner.{partners_of, partners_are}
use Rattle.steps.specs.Puts.{puts_of, Put, puts}
use Rattle.effects.specs.Stored.{grid_of, EffectOf}
use Rattle.admitting.specs.Grid.{LeftTo, left_same, left_ranged}
use Rattle.admitting.specs.Demands.{starts_short}

-- Some row of values solves the left part of M and satisfies D's demands for clocks 1 to w - 1.
abbrev Admitted : ℕ → Starts → Matrix → Type 0
Admitted w D M = (P : ℕ) × (0 < P) × ((x : ℕ → ℕ) × Solves w P M x × Satisfies P x (each (w - 1) D))

module _ (w : ℕ) (side : Side w) (D : Starts) (up : Upper (w - 1) D) where
  -- What the matrix of the starts is solved by.
  allowed_is : (P : ℕ) (u : Config) → 0 < P → Solves 7 P (start_matrix (w - 1) D) u ↔ Satisfies P u (each (w - 1) D)
  allowed_is = start_is (w - 1) D (omega (arith, side.1)) (upper_places (w - 1) D up)

  -- ---- The clocks that the table does not have

  -- They may have been last reset at the start.
  pad : (ℕ → ℕ) → Config
  pad x a = x (upper w (place w) a)

  pad_same : (x : ℕ → ℕ) (a : ℕ) → a < w → pad x a ≡ x a
  unfolding pad
  pad_same x a h = ap x (upper_same w side a h)

  pad_solves : (M : Matrix) (P : ℕ) (x : ℕ → ℕ) → Solves w P M x → Solves 7 P (whole w M) (pad x)
  unfolding pad
  pad_solves M P x s a b ha hb = go (dec_lt (a % 7) w) (ℕ_discrete (a % 7) (b % 7))
    where
      go : Dec (On w a) → Dec (a % 7 ≡ b % 7) → Sat P (whole w M a b) (pad x a) (pad x b)
      go (yes k) e =
          rw (fill_on w (place w) M a b k, ← upper_on w (place w) a k)
          (s (upper w (place w) a) (upper w (place w) b) (upper_before w side a ha) (upper_before w side b hb))
      go (no k) (yes e) =
          let q : a ≡ b = omega arith in
          rw (fill_same w (place w) M a b k e) (rw q (record { holds = omega arith }))
      go (no k) (no e) = rw (fill_off w (place w) M a b k e) (record { holds = tt })

  pad_satisfies : (P : ℕ) (x : ℕ → ℕ) → Satisfies P x (each (w - 1) D) → Satisfies P (pad x) (each (w - 1) D)
  pad_satisfies P x s d m =
      let h = starts_short w D side.0 up d m in
      record { holds = rw (pad_same x d.from h.from, pad_same x d.to h.to) (s d m).holds }

  module _ {σ : List Step} (f : Fairs σ) (M : Matrix) (d : Describes σ (whole w M)) where
    -- The start of a run is such a row of values,
    begins_admitted : Begins (start_matrix (w - 1) D) σ → Admitted w D M
    begins_admitted r = (
      r.parts,
      r.positive,
      (r.first, before, (allowed_is r.parts r.first r.positive).0 r.allowed),
    )
      where
        before : Solves w r.parts M r.first
        before a b ha hb =
            rw (whole_before w side M a b ha hb) at
            (left_sound f d r.parts r.first r.end r.positive r.run a b (omega (arith, side.1)) (omega (arith, side.1)))

    -- and from such a row a run starts, up to scale and shift.
    admitted_begins : Admitted w D M → Begins (start_matrix (w - 1) D) σ
    admitted_begins (P, p, (x, s, t)) =
        from_begins (start_matrix (w - 1) D) σ P (pad x) p ((allowed_is P (pad x) p).1 (pad_satisfies P x t))
        (left_exact f d P (pad x) p (pad_solves M P x s))

-- ---- What the program finds

told : {A : Type 0} (ok : Bool) → (ok ≡ true → A) → (ok ≡ false → ¬ A) → (ok ≡ true) ↔ A
told true f g = (f, λ a. refl)
told false f g = (f, λ a. absurd (g refl a))

module _ {w base stride : ℕ} (side : Side w) (v : Start) {m l k : List ℕ} (t : LeftTo w w base stride m l)
    (e : k ≡ puts_of (each (w - 1) (starts_of v)) l) where
  abbrev up : Upper (w - 1) (starts_of v)
  up = start_upper v (w - 1)

  module _ {σ : List Step} (o : EffectOf w base stride m σ) where
    tight : Put (2 ^ 52) w (each (w - 1) (starts_of v)) l k
    tight =
        subst (Put (2 ^ 52) w (each (w - 1) (starts_of v)) l) (sym e)
        (puts (2 ^ 52) w (omega arith) (omega arith) (omega (arith, side.1)) (each (w - 1) (starts_of v))
        (starts_short w (starts_of v) side.0 up) l (left_ranged side t o))

    -- The cells may be closed,
    pub admits_closable : Ranged (2 ^ 52) w k
    admits_closable = tight.ranged

    -- and that tells whether the steps run from an allowed start.
    pub admits_is : (ok : Bool) (z : List ℕ) → Closing w 0 k z ok → (ok ≡ true) ↔ Begins (starts_for w v) σ
    admits_is ok z c =
        told ok (λ q. admitted_begins w side (starts_of v) up o.sized.fair M o.describes (found q))
        (λ q r. none q (begins_admitted w side (starts_of v) up o.sized.fair M o.describes r))
      where
        M : Matrix
        M = grid_of m base stride

        found : ok ≡ true → Admitted w (starts_of v) M
        found q = (P, p, (x, (λ a b ha hb. rw (left_same side t a b ha hb) at (h.0 a b ha hb)), h.1))
          where
            c' : Closure w (matrix k) (matrix z)
            c' = closing_closure c (no_others w (matrix k)) q

            r : Solution w (matrix z)
            r = solve w (matrix z) c'.closed

            P : ℕ
            P = r.0

            p : 0 < P
            p = r.1

            x : ℕ → ℕ
            x = r.2.0

            h : Solves w P (matrix l) x × Satisfies P x (each (w - 1) (starts_of v))
            h = (tight.solves P x p).0 (c'.back P x p r.2.1)

        none : ok ≡ false → ¬ Admitted w (starts_of v) M
        none q (P, p, (x, s, h)) =
            closing_fails c q
            (P, p, (x, (tight.solves P x p).1 ((λ a b ha hb. rw (left_same side t a b ha hb) (s a b ha hb)), h)))

-- A variant without demands allows every start.
pub admits_all : {w base stride : ℕ} → Side w → (v : Start) → partners_of v ≡ 0 → {m : List ℕ} {σ : List Step}
    → EffectOf w base stride m σ → (true ≡ true) ↔ Begins (starts_for w v) σ
admits_all {w} side v e {m} {σ} o = ((λ q. begins), λ r. refl)
  where
    every_none : {A : Type 0} (Q : A → Type 0) (ds : List A) → length ds ≡ 0 → Every Q ds
    every_none Q [] q = every_nil Q
    every_none Q (d ∷ ds) q = absurd (omega arith)

    begins : Begins (starts_for w v) σ
    begins =
        let (P, p, (x, s)) = solve 14 _ o.describes.closed in
        effect_begins (starts_for w v) o.describes P x p s
        ((allowed_is w side (starts_of v) (start_upper v (w - 1)) P x p).1
        ((every_each (Holds P x) (starts_of v) (w - 1)).1
        (λ j h k. every_none (Holds P x) (starts_of v j) (partners_are v j ∙ e))))
