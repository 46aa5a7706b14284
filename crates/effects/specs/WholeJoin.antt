-- The effect of two lists of steps, one after the other, made without the clocks that are left out.
use Rattle.std.specs.Prelude.{◌≡◌, refl, ◌⊎◌, ◌↔◌, List, [], ◌∷◌, ◌++◌, ℕ, ◌+◌, ◌%◌, ◌-◌, ◌≤◌, ◌<◌}
use Rattle.std.proofs.Common.{ap, sym, ◌∙◌}
use Rattle.std.proofs.Math.Logic.{inl, inr}
use native.Mathlib.Omega.{arith}
use Rattle.std.proofs.Math.Decide.{dec_lt, ℕ_discrete}
use Rattle.table.specs.Step.{Step, Fairs}
use Rattle.runs.specs.Steps.{Config, Steps, stay, move}
use Rattle.basics.specs.Choice.{choose, choose_cases, not_below_zero}
use Rattle.zones.specs.Bound.{◌⊑◌, weak_zero}
use Rattle.zones.specs.Matrix.{Matrix, Solves}
use Rattle.zones.specs.Values.{sat_mono}
use Rattle.zones.specs.Closure.{Canonical, canonical_for}
use Rattle.effects.specs.Describes.{past, Describes, NoRun, tightest, describes_same}
use Rattle.effects.specs.Outer.{outer, restrict, outer_left, outer_right}
use Rattle.effects.specs.Join.{Both, joined, join_fails}
use Rattle.effects.specs.Sides.{On, Naming, Kept, upper, upper_on, upper_off, filled, fill_on, fill_same, fill_off}
use Rattle.effects.specs.Sides.{filled_is, filled_canonical}
use Rattle.effects.specs.Whole.{Side, place, back, whole, Placed, placed, Backed, backed, naming, whole_flat}

-- ---- Three configurations: before at vertices 0 to w - 1, after at the next w, between at the last w

unfoldable place3 : ℕ → ℕ → ℕ
place3 w a = choose (dec_lt a 7) a (choose (dec_lt a 14) (w + w + (a - 7)) (w + (a - 14)))

unfoldable back3 : ℕ → ℕ → ℕ
back3 w v = choose (dec_lt v w) v (choose (dec_lt v (w + w)) (14 + (v - w)) (7 + (v - (w + w))))

-- The vertices of the first two, and of the last two.
unfoldable pub front : ℕ → ℕ → ℕ
front w u = choose (dec_lt u w) u (w + u)

unfoldable pub rear : ℕ → ℕ → ℕ
rear w u = choose (dec_lt u w) (w + w + u) u

-- y solves A between before and between, and B between between and after.
abbrev pub Halves : ℕ → Matrix → Matrix → ℕ → (ℕ → ℕ) → Type 0
Halves w A B P y = Solves (w + w) P A (λ u. y (front w u)) × Solves (w + w) P B (λ u. y (rear w u))

abbrev Placed3 : ℕ → ℕ → ℕ → Type 0
Placed3 w a b =
    ((a < 7) × (b ≡ a)) ⊎ (((7 ≤ a) × (a < 14) × (b + 7 ≡ w + w + a)) ⊎ ((14 ≤ a) × (b + 14 ≡ w + a)))

abbrev Backed3 : ℕ → ℕ → ℕ → Type 0
Backed3 w v b =
    ((v < w) × (b ≡ v)) ⊎ (((w ≤ v) × (v < w + w) × (b + w ≡ 14 + v)) ⊎ ((w + w ≤ v) × (b + (w + w) ≡ 7 + v)))

abbrev pub Front : ℕ → ℕ → ℕ → Type 0
Front w u b = ((u < w) × (b ≡ u)) ⊎ ((w ≤ u) × (b ≡ w + u))

abbrev pub Rear : ℕ → ℕ → ℕ → Type 0
Rear w u b = ((u < w) × (b ≡ w + w + u)) ⊎ ((w ≤ u) × (b ≡ u))

module _ (w : ℕ) where
  placed3 : (a : ℕ) → Placed3 w a (place3 w a)
  unfolding place3
  placed3 a =
      choose_cases (Placed3 w a) (dec_lt a 7) a _ (λ h. inl (h, refl))
      (λ h. choose_cases (Placed3 w a) (dec_lt a 14) (w + w + (a - 7)) (w + (a - 14))
      (λ k. inr (inl (omega arith, k, omega arith))) (λ k. inr (inr (omega arith, omega arith))))

  backed3 : (v : ℕ) → Backed3 w v (back3 w v)
  unfolding back3
  backed3 v =
      choose_cases (Backed3 w v) (dec_lt v w) v _ (λ h. inl (h, refl))
      (λ h. choose_cases (Backed3 w v) (dec_lt v (w + w)) (14 + (v - w)) (7 + (v - (w + w)))
      (λ k. inr (inl (omega arith, k, omega arith))) (λ k. inr (inr (omega arith, omega arith))))

  pub fronted : (u : ℕ) → Front w u (front w u)
  unfolding front
  fronted u = choose_cases (Front w u) (dec_lt u w) u (w + u) (λ h. inl (h, refl)) (λ h. inr (omega arith, refl))

  pub reared : (u : ℕ) → Rear w u (rear w u)
  unfolding rear
  reared u = choose_cases (Rear w u) (dec_lt u w) (w + w + u) u (λ h. inl (h, refl)) (λ h. inr (omega arith, refl))

module _ (w : ℕ) (side : Side w) where
  place3_low : (a b : ℕ) → Placed3 w a b → a < 21 → On w a → b < w + w + w
  place3_low a b (inl h) l k = omega arith
  place3_low a b (inr (inl h)) l k = omega arith
  place3_low a b (inr (inr h)) l k = omega arith

  back3_on : (v b : ℕ) → Backed3 w v b → v < w + w + w → (b < 21) × On w b
  back3_on v b (inl h) l = (omega arith, omega arith)
  back3_on v b (inr (inl h)) l = (omega arith, omega arith)
  back3_on v b (inr (inr h)) l = (omega arith, omega arith)

  place3_back3 : (v b c : ℕ) → Backed3 w v b → Placed3 w b c → v < w + w + w → c ≡ v
  place3_back3 v b c (inl h) (inl k) l = omega arith
  place3_back3 v b c (inl h) (inr (inl k)) l = omega arith
  place3_back3 v b c (inl h) (inr (inr k)) l = omega arith
  place3_back3 v b c (inr (inl h)) (inl k) l = omega arith
  place3_back3 v b c (inr (inl h)) (inr (inl k)) l = omega arith
  place3_back3 v b c (inr (inl h)) (inr (inr k)) l = omega arith
  place3_back3 v b c (inr (inr h)) (inl k) l = omega arith
  place3_back3 v b c (inr (inr h)) (inr (inl k)) l = omega arith
  place3_back3 v b c (inr (inr h)) (inr (inr k)) l = omega arith

  back3_place3 : (a b c : ℕ) → Placed3 w a b → Backed3 w b c → a < 21 → On w a → c ≡ a
  back3_place3 a b c (inl h) (inl k) l o = omega arith
  back3_place3 a b c (inl h) (inr (inl k)) l o = omega arith
  back3_place3 a b c (inl h) (inr (inr k)) l o = omega arith
  back3_place3 a b c (inr (inl h)) (inl k) l o = omega arith
  back3_place3 a b c (inr (inl h)) (inr (inl k)) l o = omega arith
  back3_place3 a b c (inr (inl h)) (inr (inr k)) l o = omega arith
  back3_place3 a b c (inr (inr h)) (inl k) l o = omega arith
  back3_place3 a b c (inr (inr h)) (inr (inl k)) l o = omega arith
  back3_place3 a b c (inr (inr h)) (inr (inr k)) l o = omega arith

  naming3 : Naming w 21 (w + w + w) (place3 w) (back3 w)
  naming3 = record {
    f_low = λ a l k. place3_low a (place3 w a) (placed3 w a) l k;
    g_low = λ v l. (back3_on v (back3 w v) (backed3 w v) l).0;
    g_on = λ v l. (back3_on v (back3 w v) (backed3 w v) l).1;
    f_g = λ v l. place3_back3 v (back3 w v) (place3 w (back3 w v)) (backed3 w v) (placed3 w (back3 w v)) l;
    g_f = λ a l k. back3_place3 a (place3 w a) (back3 w (place3 w a)) (placed3 w a) (backed3 w (place3 w a)) l k;
    zero_on = omega arith;
    f_zero = place_zero (placed3 w 0);
    some = omega arith;
  }
    where
      place_zero : Placed3 w 0 (place3 w 0) → place3 w 0 ≡ 0
      place_zero (inl h) = h.1
      place_zero (inr (inl h)) = omega arith
      place_zero (inr (inr h)) = omega arith

  -- The vertices of each half, among twenty-one.
  back_front : (u : ℕ) → u < w + w → back3 w (front w u) ≡ back w u
  back_front u l = go (front w u) (back3 w (front w u)) (back w u) (fronted w u) (backed3 w (front w u)) (backed w u)
    where
      go : (v b c : ℕ) → Front w u v → Backed3 w v b → Backed w u c → b ≡ c
      go v b c (inl f) (inl h) (inl k) = omega arith
      go v b c (inl f) (inl h) (inr k) = omega arith
      go v b c (inl f) (inr (inl h)) k = absurd (not_below_zero 0 (omega arith))
      go v b c (inl f) (inr (inr h)) k = absurd (not_below_zero 0 (omega arith))
      go v b c (inr f) (inl h) k = absurd (not_below_zero 0 (omega arith))
      go v b c (inr f) (inr (inl h)) k = absurd (not_below_zero 0 (omega arith))
      go v b c (inr f) (inr (inr h)) (inl k) = omega arith
      go v b c (inr f) (inr (inr h)) (inr k) = omega arith

  back_rear : (u : ℕ) → u < w + w → back3 w (rear w u) ≡ 7 + back w u
  back_rear u l = go (rear w u) (back3 w (rear w u)) (back w u) (reared w u) (backed3 w (rear w u)) (backed w u)
    where
      go : (v b c : ℕ) → Rear w u v → Backed3 w v b → Backed w u c → b ≡ 7 + c
      go v b c (inl f) (inl h) k = absurd (not_below_zero 0 (omega arith))
      go v b c (inl f) (inr (inl h)) k = absurd (not_below_zero 0 (omega arith))
      go v b c (inl f) (inr (inr h)) (inl k) = omega arith
      go v b c (inl f) (inr (inr h)) (inr k) = omega arith
      go v b c (inr f) (inl h) k = absurd (not_below_zero 0 (omega arith))
      go v b c (inr f) (inr (inl h)) (inl k) = omega arith
      go v b c (inr f) (inr (inl h)) (inr k) = omega arith
      go v b c (inr f) (inr (inr h)) k = absurd (not_below_zero 0 (omega arith))

-- ---- Two lists of steps

solves_same : {N P : ℕ} (M : Matrix) {x y : ℕ → ℕ} → ((a : ℕ) → a < N → x a ≡ y a) → Solves N P M x → Solves N P M y
solves_same M e s a b ha hb = rw (← e a ha, ← e b hb) (s a b ha hb)

-- Time does not go back.
steps_later : (P : ℕ) (σ : List Step) {u v : Config} → Steps P σ u v → u 0 ≤ v 0
steps_later P [] (stay r) = omega (arith, r 0 (omega arith))
steps_later P (s ∷ σ) (move m r) = omega (arith, m.later, steps_later P σ r)

module _ (w : ℕ) (side : Side w) {σ τ : List Step} (fσ : Fairs σ) (fτ : Fairs τ) (A B : Matrix)
    (dA : Describes σ (whole w A)) (dB : Describes τ (whole w B)) where
  later : (P : ℕ) (x : ℕ → ℕ) → 0 < P → Solves 14 P (whole w A) x → x 0 ≤ x 7
  later P x p s = omega (arith, (sat_mono P (x 7) (x 0) p before (s 7 0 (omega arith) (omega arith))).holds)
    where
      before : whole w A 7 0 ⊑ weak_zero
      before =
          tightest dA 7 0 (omega arith) (omega arith) weak_zero
          (λ P x p r. record { holds = omega (arith, steps_later P σ r) })

  -- Solutions of both halves, with the clocks left out kept, solve both effects.
  both_is : (P : ℕ) (x : ℕ → ℕ) → 0 < P
      → (Halves w A B P (λ v. x (back3 w v)) × Kept w 21 x) ↔ Both (whole w A) (whole w B) P x
  both_is P x p = (λ h. into h.0 h.1, λ h. out h.0 h.1)
    where
      is_a : Solves 14 P (whole w A) x ↔ (Solves (w + w) P A (λ v. x (back w v)) × Kept w 14 x)
      is_a = filled_is (naming w side) A (whole_flat w side A dA.flat) P x p

      is_b : Solves 14 P (whole w B) (past x) ↔ (Solves (w + w) P B (λ v. past x (back w v)) × Kept w 14 (past x))
      is_b = filled_is (naming w side) B (whole_flat w side B dB.flat) P (past x) p

      into : Halves w A B P (λ v. x (back3 w v)) → Kept w 21 x → Both (whole w A) (whole w B) P x
      into h k = (first, is_b.1 (solves_same B (λ u l. ap x (back_rear w side u l)) h.1, last))
        where
          first : Solves 14 P (whole w A) x
          first = is_a.1 (
            solves_same A (λ u l. ap x (back_front w side u l)) h.0,
            record {
              same = λ a b ha hb. k.same a b (omega arith) (omega arith);
              low = λ a ha. k.low a (omega arith);
            },
          )

          last : Kept w 14 (past x)
          last = record {
            same = λ a b ha hb n e.
                k.same (7 + a) (7 + b) (omega arith) (omega arith) (λ o. n (omega arith)) (omega arith);
            low = λ a ha n.
                omega (arith, k.low (7 + a) (omega arith) (λ o. n (omega arith)), later P x p first);
          }

      out : Solves 14 P (whole w A) x → Solves 14 P (whole w B) (past x)
          → Halves w A B P (λ v. x (back3 w v)) × Kept w 21 x
      out s t = (
        (
          solves_same A (λ u l. ap x (sym (back_front w side u l))) a.0,
          solves_same B (λ u l. ap x (sym (back_rear w side u l))) b.0,
        ),
        record {
          same = λ c d hc hd n e.
              base c hc n (dec_lt c 14) ∙ ap x e ∙ sym (base d hd (λ o. n (rw e o)) (dec_lt d 14));
          low = λ c hc n. omega (arith, base c hc n (dec_lt c 14), a.1.low (c % 7) (omega arith) (omega arith));
        },
      )
        where
          a : Solves (w + w) P A (λ v. x (back w v)) × Kept w 14 x
          a = is_a.0 s

          b : Solves (w + w) P B (λ v. past x (back w v)) × Kept w 14 (past x)
          b = is_b.0 t

          -- Each is as it was at the start.
          base : (c : ℕ) → c < 21 → ¬ On w c → Dec (c < 14) → x c ≡ x (c % 7)
          base c hc n (yes l) = a.1.same c (c % 7) l (omega arith) n (omega arith)
          base c hc n (no l) =
              let e : 7 + (c - 7) ≡ c = omega arith in
              let q : 7 + (c - 14) ≡ c - 7 = omega arith in
              let r : x (7 + (c - 7)) ≡ x (7 + (c - 14)) =
              b.1.same (c - 7) (c - 14) (omega arith) (omega arith) (λ o. n (omega arith)) (omega arith) in
              (rw (e, q) at r) ∙ a.1.same (c - 7) (c % 7) (omega arith) (omega arith) (λ o. n (omega arith)) (omega arith)

  module _ {C : Matrix} (c : Canonical (w + w + w) C (Halves w A B)) where
    -- The first two configurations of three are the outer ones.
    place_outer : (a : ℕ) → a < 14 → (place3 w (outer a) ≡ place w a) × (outer a % 7 ≡ a % 7)
    place_outer a h = go (dec_lt a 7)
      where
        left : (b d : ℕ) → Placed3 w a b → Placed w a d → a < 7 → b ≡ d
        left b d (inl i) (inl j) l = omega arith
        left b d (inl i) (inr j) l = omega arith
        left b d (inr (inl i)) j l = absurd (not_below_zero 0 (omega arith))
        left b d (inr (inr i)) j l = absurd (not_below_zero 0 (omega arith))

        right : (b d : ℕ) → Placed3 w (7 + a) b → Placed w a d → 7 ≤ a → b ≡ d
        right b d (inl i) j l = absurd (not_below_zero 0 (omega arith))
        right b d (inr (inl i)) j l = absurd (not_below_zero 0 (omega arith))
        right b d (inr (inr i)) (inl j) l = omega arith
        right b d (inr (inr i)) (inr j) l = omega arith

        go : Dec (a < 7) → (place3 w (outer a) ≡ place w a) × (outer a % 7 ≡ a % 7)
        go (yes l) = rw (outer_left a l) (left (place3 w a) (place w a) (placed3 w a) (placed w a) l, refl)
        go (no l) =
            rw (outer_right a (omega arith))
            (right (place3 w (7 + a)) (place w a) (placed3 w (7 + a)) (placed w a) (omega arith), omega arith)

    upper_outer : (b : ℕ) → b < 14 → upper w (place3 w) (outer b) ≡ upper w (place w) b
    upper_outer b h = go (dec_lt (b % 7) w)
      where
        go : Dec (On w b) → upper w (place3 w) (outer b) ≡ upper w (place w) b
        go (yes k) =
            upper_on w (place3 w) (outer b) (rw (place_outer b h).1 k) ∙ (place_outer b h).0
            ∙ sym (upper_on w (place w) b k)
        go (no k) =
            upper_off w (place3 w) (outer b) (λ o. k (rw (place_outer b h).1 at o)) ∙ sym (upper_off w (place w) b k)

    entries : (a b : ℕ) → a < 14 → b < 14 → restrict (filled w (place3 w) C) a b ≡ whole w C a b
    unfolding restrict
    entries a b ha hb = go (dec_lt (a % 7) w) (ℕ_discrete (a % 7) (b % 7))
      where
        off : ¬ On w a → ¬ On w (outer a)
        off k o = k (rw (place_outer a ha).1 at o)

        go : Dec (On w a) → Dec (a % 7 ≡ b % 7) → filled w (place3 w) C (outer a) (outer b) ≡ whole w C a b
        go (yes k) e =
            fill_on w (place3 w) C (outer a) (outer b) (rw (place_outer a ha).1 k)
            ∙ rw ((place_outer a ha).0, upper_outer b hb) (sym (fill_on w (place w) C a b k))
        go (no k) (yes e) =
            fill_same w (place3 w) C (outer a) (outer b) (off k)
            ((place_outer a ha).1 ∙ e ∙ sym (place_outer b hb).1) ∙ sym (fill_same w (place w) C a b k e)
        go (no k) (no e) =
            fill_off w (place3 w) C (outer a) (outer b) (off k)
            (λ q. e (sym (place_outer a ha).1 ∙ q ∙ (place_outer b hb).1)) ∙ sym (fill_off w (place w) C a b k e)

    -- The canonical matrix of both halves is, with the vertices between left out, the effect of both lists of steps;
    pub whole_joined : Describes (σ ++ τ) (whole w C)
    whole_joined =
        describes_same entries
        (joined σ τ (whole w A) (whole w B) fσ fτ dA dB (filled w (place3 w) C)
        (canonical_for (Both (whole w A) (whole w B)) (filled_canonical (naming3 w side) C c) both_is))

  -- and where nothing solves both, they have no run.
  pub join_stuck : ((P : ℕ) (y : ℕ → ℕ) → 0 < P → ¬ Halves w A B P y) → NoRun (σ ++ τ)
  join_stuck n =
      join_fails σ τ (whole w A) (whole w B) fσ fτ dA dB (λ P x p s. n P (λ v. x (back3 w v)) p ((both_is P x p).1 s).0)
