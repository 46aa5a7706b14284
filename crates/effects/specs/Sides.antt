-- Matrices without the clocks that a table does not have. A configuration then has w vertices, now and the clocks 1 to
-- w - 1; the others are never looked at, so that all that is known of one is that it was not last reset after the start,
-- and it can be filled in again.
use Rattle.std.specs.Prelude.{◌≡◌, refl, ◌≢◌, ◌↔◌, ℕ, ◌%◌, ◌≤◌, ◌<◌}
use Rattle.std.proofs.Common.{sym, ◌∙◌, arith}
use Rattle.std.proofs.Math.Decide.{dec_lt, ℕ_discrete}
use Rattle.basics.specs.Choice.{choose, choose_yes, choose_no, choose_cases}
use Rattle.zones.specs.Bound.{Bound, none, some, ◌⊑◌, ◌⊕◌, weak_zero, Sat, ⊑_refl, ⊕-right, ⊕-comm}
use Rattle.zones.specs.Values.{sat_mono}
use Rattle.zones.specs.Matrix.{Matrix, Solves, Closed, Flat}
use Rattle.zones.specs.Closure.{Canonical}

-- Vertex a is one of the w of its configuration.
abbrev pub On : ℕ → ℕ → Type 0
On w a = a % 7 < w

-- f and g lead from those of the first N vertices to n vertices and back.
pub record Naming (w N n : ℕ) (f g : ℕ → ℕ) : Type 0 where
  pub f_low : (a : ℕ) → a < N → On w a → f a < n
  pub g_low : (v : ℕ) → v < n → g v < N
  pub g_on : (v : ℕ) → v < n → On w (g v)
  pub f_g : (v : ℕ) → v < n → f (g v) ≡ v
  pub g_f : (a : ℕ) → a < N → On w a → g (f a) ≡ a
  pub zero_on : 0 < w
  pub f_zero : f 0 ≡ 0
  pub some : 0 < n

-- The vertex that a lies at or before: itself, or the start where it is left out.
unfoldable pub upper : ℕ → (ℕ → ℕ) → ℕ → ℕ
upper w f b = choose (dec_lt (b % 7) w) (f b) 0

-- M, with the vertices that are left out filled in.
unfoldable pub filled : ℕ → (ℕ → ℕ) → Matrix → Matrix
filled w f M a b =
    choose (dec_lt (a % 7) w) (M (f a) (upper w f b)) (choose (ℕ_discrete (a % 7) (b % 7)) weak_zero none)

-- The clocks left out stay as they are, and were not last reset after the start.
pub record Kept (w N : ℕ) (x : ℕ → ℕ) : Type 0 where
  pub same : (a b : ℕ) → a < N → b < N → ¬ On w a → a % 7 ≡ b % 7 → x a ≡ x b
  pub low : (a : ℕ) → a < N → ¬ On w a → x a ≤ x 0

-- ---- Its entries

module _ (w : ℕ) (f : ℕ → ℕ) (M : Matrix) (a b : ℕ) where
  pub fill_on : On w a → filled w f M a b ≡ M (f a) (upper w f b)
  unfolding filled
  fill_on h = choose_yes (dec_lt (a % 7) w) _ _ h

  pub fill_same : ¬ On w a → a % 7 ≡ b % 7 → filled w f M a b ≡ weak_zero
  unfolding filled
  fill_same h e = choose_no (dec_lt (a % 7) w) _ _ h ∙ choose_yes (ℕ_discrete (a % 7) (b % 7)) _ _ e

  pub fill_off : ¬ On w a → a % 7 ≢ b % 7 → filled w f M a b ≡ none
  unfolding filled
  fill_off h e = choose_no (dec_lt (a % 7) w) _ _ h ∙ choose_no (ℕ_discrete (a % 7) (b % 7)) _ _ e

module _ (w : ℕ) (f : ℕ → ℕ) (b : ℕ) where
  pub upper_on : On w b → upper w f b ≡ f b
  unfolding upper
  upper_on h = choose_yes (dec_lt (b % 7) w) (f b) 0 h

  pub upper_off : ¬ On w b → upper w f b ≡ 0
  unfolding upper
  upper_off h = choose_no (dec_lt (b % 7) w) (f b) 0 h

-- ---- Its solutions

no_sum : (a b : Bound) → a ⊑ b ⊕ none
no_sum a b = rw (⊕-comm b none) (record { le = tt })

-- A value that is no larger keeps the bound too.
sat_lower : (P u v t : ℕ) (e : Bound) → t ≤ v → Sat P e u v → Sat P e u t
sat_lower P u v t none l s = record { holds = tt }
sat_lower P u v t (some e z) l s = omega (arith, s.holds)

pub upper_low : {w N n : ℕ} {f g : ℕ → ℕ} → Naming w N n f g → (b : ℕ) → b < N → upper w f b < n
unfolding upper
upper_low {w} {N} {n} {f} nm b h =
    choose_cases (λ v. v < n) (dec_lt (b % 7) w) (f b) 0 (λ k. nm.f_low b h k) (λ k. nm.some)

module _ {w N n : ℕ} {f g : ℕ → ℕ} (nm : Naming w N n f g) (M : Matrix) where
  filled_closed : Closed n M → Closed N (filled w f M)
  filled_closed c = record {
    tri = λ a b d ha hb hd.
        tri a b d ha hb hd (dec_lt (a % 7) w) (dec_lt (d % 7) w) (ℕ_discrete (a % 7) (b % 7)) (ℕ_discrete (a % 7) (d % 7))
        (ℕ_discrete (d % 7) (b % 7));
    diag = λ a ha. diag a ha (dec_lt (a % 7) w);
  }
    where
      diag : (a : ℕ) → a < N → Dec (On w a) → weak_zero ⊑ filled w f M a a
      diag a ha (yes k) = rw (fill_on w f M a a k, upper_on w f a k) (c.diag (f a) (nm.f_low a ha k))
      diag a ha (no k) = rw (fill_same w f M a a k refl) (⊑_refl weak_zero)

      tri : (a b d : ℕ) → a < N → b < N → d < N → Dec (On w a) → Dec (On w d) → Dec (a % 7 ≡ b % 7)
          → Dec (a % 7 ≡ d % 7) → Dec (d % 7 ≡ b % 7) → filled w f M a b ⊑ filled w f M a d ⊕ filled w f M d b
      tri a b d ha hb hd (yes i) (yes k) s t q =
          rw (
            fill_on w f M a b i,
            fill_on w f M a d i,
            fill_on w f M d b k,
            upper_on w f d k,
          )
          (c.tri (f a) (upper w f b) (f d) (nm.f_low a ha i) (upper_low nm b hb) (nm.f_low d hd k))
      tri a b d ha hb hd (yes i) (no k) s t (yes e) =
          rw (
            fill_on w f M a b i,
            fill_on w f M a d i,
            fill_same w f M d b k e,
            upper_off w f d k,
            upper_off w f b (λ h. k (rw e h)),
          )
          (⊕-right (M (f a) 0) weak_zero (⊑_refl weak_zero))
      tri a b d ha hb hd (yes i) (no k) s t (no e) = rw (fill_off w f M d b k e) (no_sum (filled w f M a b) (filled w f M a d))
      tri a b d ha hb hd (no i) k (yes e) (yes t) q =
          rw (
            fill_same w f M a b i e,
            fill_same w f M a d i t,
            fill_same w f M d b (λ h. i (rw t h)) (sym t ∙ e),
          )
          (⊕-right weak_zero weak_zero (⊑_refl weak_zero))
      tri a b d ha hb hd (no i) k s (no t) q = rw (fill_off w f M a d i t) (record { le = tt })
      tri a b d ha hb hd (no i) k (no e) (yes t) q =
          rw (fill_off w f M d b (λ h. i (rw t h)) (λ r. e (t ∙ r))) (no_sum (filled w f M a b) (filled w f M a d))

  filled_flat : Flat n M → Flat N (filled w f M)
  filled_flat l a ha = go (dec_lt (a % 7) w)
    where
      go : Dec (On w a) → filled w f M a a ⊑ weak_zero
      go (yes k) = rw (fill_on w f M a a k, upper_on w f a k) (l (f a) (nm.f_low a ha k))
      go (no k) = rw (fill_same w f M a a k refl) (⊑_refl weak_zero)

  -- Those of M, with the clocks left out kept.
  pub filled_is : Flat n M → (P : ℕ) (x : ℕ → ℕ) → 0 < P
      → Solves N P (filled w f M) x ↔ (Solves n P M (λ v. x (g v)) × Kept w N x)
  filled_is l P x p = (λ s. (out s, kept s), λ h. into h.0 h.1)
    where
      zero_low : 0 < N
      zero_low = omega (arith, nm.g_low 0 nm.some)

      out : Solves N P (filled w f M) x → Solves n P M (λ v. x (g v))
      out s u v hu hv =
          rw (
            fill_on w f M (g u) (g v) (nm.g_on u hu),
            upper_on w f (g v) (nm.g_on v hv),
            nm.f_g u hu,
            nm.f_g v hv,
          )
          at (s (g u) (g v) (nm.g_low u hu) (nm.g_low v hv))

      order : (a b : ℕ) → a < N → b < N → ¬ On w a → a % 7 ≡ b % 7 → Solves N P (filled w f M) x → x b ≤ x a
      order a b ha hb k e s = omega (arith, (rw (fill_same w f M a b k e) at (s a b ha hb)).holds)

      kept : Solves N P (filled w f M) x → Kept w N x
      kept s = record {
        same = λ a b ha hb k e. omega (arith, order a b ha hb k e s, order b a hb ha (λ h. k (rw e h)) (sym e) s);
        low = λ a ha k.
            let t : Sat P (M 0 0) (x 0) (x a) =
            rw (fill_on w f M 0 a nm.zero_on, upper_off w f a k, nm.f_zero) at (s 0 a zero_low ha) in
            omega (arith, (sat_mono P (x 0) (x a) p (l 0 nm.some) t).holds);
      }

      into : Solves n P M (λ v. x (g v)) → Kept w N x → Solves N P (filled w f M) x
      into s k a b ha hb = go (dec_lt (a % 7) w) (dec_lt (b % 7) w) (ℕ_discrete (a % 7) (b % 7))
        where
          go : Dec (On w a) → Dec (On w b) → Dec (a % 7 ≡ b % 7) → Sat P (filled w f M a b) (x a) (x b)
          go (yes i) (yes j) e =
              rw (fill_on w f M a b i, upper_on w f b j)
              (rw (nm.g_f a ha i, nm.g_f b hb j) at (s (f a) (f b) (nm.f_low a ha i) (nm.f_low b hb j)))
          go (yes i) (no j) e =
              let t : Sat P (M (f a) 0) (x a) (x 0) =
              rw (nm.g_f a ha i, nm.g_f 0 zero_low nm.zero_on, nm.f_zero) at
              (s (f a) (f 0) (nm.f_low a ha i) (nm.f_low 0 zero_low nm.zero_on)) in
              rw (fill_on w f M a b i, upper_off w f b j)
              (sat_lower P (x a) (x 0) (x b) (M (f a) 0) (k.low b hb j) t)
          go (no i) j (yes e) =
              rw (fill_same w f M a b i e) (record { holds = omega (arith, k.same a b ha hb i e) })
          go (no i) j (no e) = rw (fill_off w f M a b i e) (record { holds = tt })

  pub filled_canonical : {S : ℕ → (ℕ → ℕ) → Type 0} → Canonical n M S
      → Canonical N (filled w f M) (λ P x. S P (λ v. x (g v)) × Kept w N x)
  filled_canonical c = record {
    closed = filled_closed c.closed;
    flat = filled_flat c.flat;
    is = λ P x p.
        let h = filled_is c.flat P x p in
        let k = c.is P (λ v. x (g v)) p in
        ((λ s. let t = h.0 s in (k.0 t.0, t.1)), λ s. h.1 (k.1 s.0, s.1));
  }
