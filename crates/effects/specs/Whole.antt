-- Matrices of effects with w vertices for each of two configurations, and with the clocks that are left out filled in.
use Rattle.std.specs.Prelude.{◌≡◌, refl, ◌⊎◌, List, ℕ, ◌+◌, ◌%◌, ◌-◌, ◌≤◌, ◌<◌}
use Rattle.std.proofs.Common.{sym, ◌∙◌, inl, inr, arith}
use Rattle.std.proofs.Math.Decide.{dec_lt, ℕ_discrete}
use Rattle.table.specs.Step.{Step}
use Rattle.basics.specs.Choice.{choose, choose_cases}
use Rattle.zones.specs.Bound.{Bound}
use Rattle.zones.specs.Matrix.{Matrix, Closed, Flat}
use Rattle.effects.specs.Describes.{Describes, describes_same}
use Rattle.effects.specs.Sides.{On, Naming, upper, upper_on, upper_off, filled, fill_on, fill_same, fill_off}
use Rattle.effects.specs.Sides.{upper_low}

-- The vertex among 2 * w of vertex a among fourteen,
unfoldable pub place : ℕ → ℕ → ℕ
place w a = choose (dec_lt a 7) a (w + (a - 7))

-- and the other way round.
unfoldable pub back : ℕ → ℕ → ℕ
back w v = choose (dec_lt v w) v (7 + (v - w))

-- M has w vertices for each of two configurations: with the clocks that are left out, it has seven.
abbrev pub whole : ℕ → Matrix → Matrix
whole w M = filled w (place w) M

abbrev pub Placed : ℕ → ℕ → ℕ → Type 0
Placed w a b = ((a < 7) × (b ≡ a)) ⊎ ((7 ≤ a) × (b + 7 ≡ w + a))

abbrev pub Backed : ℕ → ℕ → ℕ → Type 0
Backed w v b = ((v < w) × (b ≡ v)) ⊎ ((w ≤ v) × (b + w ≡ 7 + v))

pub placed : (w a : ℕ) → Placed w a (place w a)
unfolding place
placed w a =
    choose_cases (Placed w a) (dec_lt a 7) a (w + (a - 7)) (λ h. inl (h, refl)) (λ h. inr (omega arith, omega arith))

pub backed : (w v : ℕ) → Backed w v (back w v)
unfolding back
backed w v =
    choose_cases (Backed w v) (dec_lt v w) v (7 + (v - w)) (λ h. inl (h, refl)) (λ h. inr (omega arith, omega arith))

-- A number of vertices that a configuration may have.
abbrev pub Side : ℕ → Type 0
Side w = (0 < w) × (w ≤ 7)

module _ (w : ℕ) (side : Side w) where
  place_low : (a b : ℕ) → Placed w a b → a < 14 → On w a → b < w + w
  place_low a b (inl h) l k = omega arith
  place_low a b (inr h) l k = omega arith

  back_on : (v b : ℕ) → Backed w v b → v < w + w → (b < 14) × On w b
  back_on v b (inl h) l = (omega arith, omega arith)
  back_on v b (inr h) l = (omega arith, omega arith)

  place_back : (v b c : ℕ) → Backed w v b → Placed w b c → v < w + w → c ≡ v
  place_back v b c (inl h) (inl k) l = omega arith
  place_back v b c (inl h) (inr k) l = omega arith
  place_back v b c (inr h) (inl k) l = omega arith
  place_back v b c (inr h) (inr k) l = omega arith

  back_place : (a b c : ℕ) → Placed w a b → Backed w b c → a < 14 → On w a → c ≡ a
  back_place a b c (inl h) (inl k) l o = omega arith
  back_place a b c (inl h) (inr k) l o = omega arith
  back_place a b c (inr h) (inl k) l o = omega arith
  back_place a b c (inr h) (inr k) l o = omega arith

  pub naming : Naming w 14 (w + w) (place w) (back w)
  naming = record {
    f_low = λ a l k. place_low a (place w a) (placed w a) l k;
    g_low = λ v l. (back_on v (back w v) (backed w v) l).0;
    g_on = λ v l. (back_on v (back w v) (backed w v) l).1;
    f_g = λ v l. place_back v (back w v) (place w (back w v)) (backed w v) (placed w (back w v)) l;
    g_f = λ a l k. back_place a (place w a) (back w (place w a)) (placed w a) (backed w (place w a)) l k;
    zero_on = omega arith;
    f_zero = place_zero (placed w 0);
    some = omega arith;
  }
    where
      place_zero : Placed w 0 (place w 0) → place w 0 ≡ 0
      place_zero (inl h) = h.1
      place_zero (inr h) = omega arith

  pub back_left : (j : ℕ) → j < w → back w j ≡ j
  back_left j l = go (backed w j)
    where
      go : Backed w j (back w j) → back w j ≡ j
      go (inl h) = h.1
      go (inr h) = omega arith

  pub back_right : (j : ℕ) → back w (w + j) ≡ 7 + j
  back_right j = go (backed w (w + j))
    where
      go : Backed w (w + j) (back w (w + j)) → back w (w + j) ≡ 7 + j
      go (inl h) = omega arith
      go (inr h) = omega arith

-- ---- The matrix of an effect without the clocks left out

module _ (w : ℕ) (side : Side w) (M : Matrix) where
  pub whole_entry : (u v : ℕ) → u < w + w → v < w + w → whole w M (back w u) (back w v) ≡ M u v
  whole_entry u v hu hv =
      let n = naming w side in
      rw (
        fill_on w (place w) M (back w u) (back w v) (n.g_on u hu),
        upper_on w (place w) (back w v) (n.g_on v hv),
        n.f_g u hu,
        n.f_g v hv,
      )

  -- Among the vertices before, the two have the same entries.
  pub whole_before : (u v : ℕ) → u < w → v < w → whole w M u v ≡ M u v
  whole_before u v hu hv =
      rw (back_left w side u hu, back_left w side v hv) at (whole_entry u v (omega arith) (omega arith))

  -- What holds of every entry of the effect holds of its own.
  pub whole_entries : (Q : Bound → Type 0) → ((a b : ℕ) → a < 14 → b < 14 → Q (whole w M a b))
      → (u v : ℕ) → u < w + w → v < w + w → Q (M u v)
  whole_entries Q h u v hu hv =
      let n = naming w side in
      rw (whole_entry u v hu hv) at (h (back w u) (back w v) (n.g_low u hu) (n.g_low v hv))

  pub whole_closed : Closed 14 (whole w M) → Closed (w + w) M
  whole_closed c = record {
    tri = λ a b d ha hb hd.
        rw (whole_entry a b ha hb, whole_entry a d ha hd, whole_entry d b hd hb)
        at (c.tri (back w a) (back w b) (back w d) (n.g_low a ha) (n.g_low b hb) (n.g_low d hd));
    diag = λ a ha. rw (whole_entry a a ha ha) at (c.diag (back w a) (n.g_low a ha));
  }
    where
      n : Naming w 14 (w + w) (place w) (back w)
      n = naming w side

  pub whole_flat : Flat 14 (whole w M) → Flat (w + w) M
  whole_flat f a ha = rw (whole_entry a a ha ha) at (f (back w a) ((naming w side).g_low a ha))

-- Only the entries among the 2 * w vertices matter.
pub whole_same : (w : ℕ) (side : Side w) (A B : Matrix) → ((u v : ℕ) → u < w + w → v < w + w → A u v ≡ B u v)
    → {σ : List Step} → Describes σ (whole w A) → Describes σ (whole w B)
whole_same w side A B e = describes_same entries
  where
    entries : (a b : ℕ) → a < 14 → b < 14 → whole w A a b ≡ whole w B a b
    entries a b ha hb = go (dec_lt (a % 7) w) (ℕ_discrete (a % 7) (b % 7))
      where
        n : Naming w 14 (w + w) (place w) (back w)
        n = naming w side

        go : Dec (On w a) → Dec (a % 7 ≡ b % 7) → whole w A a b ≡ whole w B a b
        go (yes k) d =
            fill_on w (place w) A a b k ∙ e (place w a) (upper w (place w) b) (n.f_low a ha k) (upper_low n b hb)
            ∙ sym (fill_on w (place w) B a b k)
        go (no k) (yes d) = fill_same w (place w) A a b k d ∙ sym (fill_same w (place w) B a b k d)
        go (no k) (no d) = fill_off w (place w) A a b k d ∙ sym (fill_off w (place w) B a b k d)

-- Of the configuration before, only the entries among its w vertices.
module _ (w : ℕ) (side : Side w) where
  -- To these a vertex before leads.
  pub upper_before : (a : ℕ) → a < 7 → upper w (place w) a < w
  upper_before a h = go (dec_lt (a % 7) w)
    where
      at : (b : ℕ) → Placed w a b → On w a → b < w
      at b (inl p) k = omega arith
      at b (inr p) k = omega arith

      go : Dec (On w a) → upper w (place w) a < w
      go (yes k) = rw (upper_on w (place w) a k) (at (place w a) (placed w a) k)
      go (no k) = rw (upper_off w (place w) a k) side.0

  -- From one of the w vertices it leads to itself.
  pub upper_same : (a : ℕ) → a < w → upper w (place w) a ≡ a
  upper_same a h = upper_on w (place w) a (omega arith) ∙ go (place w a) (placed w a)
    where
      go : (b : ℕ) → Placed w a b → b ≡ a
      go b (inl k) = k.1
      go b (inr k) = omega arith

  pub whole_left : (A B : Matrix) → ((u v : ℕ) → u < w → v < w → A u v ≡ B u v)
      → (a b : ℕ) → a < 7 → b < 7 → whole w A a b ≡ whole w B a b
  whole_left A B e a b ha hb = go (dec_lt (a % 7) w) (ℕ_discrete (a % 7) (b % 7))
    where
      low : On w a → place w a < w
      low k = rw (upper_on w (place w) a k) at (upper_before a ha)

      go : Dec (On w a) → Dec (a % 7 ≡ b % 7) → whole w A a b ≡ whole w B a b
      go (yes k) d =
          fill_on w (place w) A a b k ∙ e (place w a) (upper w (place w) b) (low k) (upper_before b hb)
          ∙ sym (fill_on w (place w) B a b k)
      go (no k) (yes d) = fill_same w (place w) A a b k d ∙ sym (fill_same w (place w) B a b k d)
      go (no k) (no d) = fill_off w (place w) A a b k d ∙ sym (fill_off w (place w) B a b k d)
