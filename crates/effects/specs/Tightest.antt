-- The tightest bounds that every run keeps between its start, the last resets before it, its last step and the last resets at its end; and
-- that the entries of an effect are these.
use Rattle.std.specs.Prelude.{◌≡◌, refl, ◌↔◌, List, ℕ, zero, suc, ◌+◌, ◌*◌, ◌-◌, ◌≤◌, ◌<◌, length, ℤ, pos, neg_ℤ, ◌+ℤ◌, ◌-ℤ◌}
use Rattle.std.proofs.Math.Path.{sym, ap}
use Rattle.std.proofs.Common.{◌∙◌, inl, inr, arith, mul-pos}
use Rattle.std.proofs.Math.Decide.{dec_lt}
use Rattle.std.proofs.Math.IntN.{+ℤ_assoc, +ℤ_comm, +ℤ_idl, +ℤ_idr, pos-+ℤ-pos, +ℤ-neg_ℤ_cancel}
use Rattle.basics.specs.Choice.{choose, choose_yes, choose_no}
use Rattle.table.specs.Step.{Step, Fairs}
use Rattle.runs.specs.Run.{Run}
use Rattle.runs.specs.Demand.{any_starts, moment, Exists, Clocks}
use Rattle.runs.specs.Allowed.{any_allowed}
use Rattle.runs.specs.Steps.{Config, Same, Steps}
use Rattle.runs.specs.Rows.{row_at}
use Rattle.runs.specs.Ends.{conf_at, conf_now, conf_clock, before, at_end, run_ends, RunOf, ends_run}
use Rattle.zones.specs.Bound.{Bound, none, some, half, strict, weak_zero, ◌⊑◌, Sat}
use Rattle.zones.specs.Values.{self_sat}
use Rattle.zones.specs.Matrix.{Matrix}
use Rattle.zones.specs.Extend.{solve}
use Rattle.effects.specs.Describes.{past, Describes, ends, ends_left, ends_right, sound_ends, tightest}
use Rattle.effects.specs.Sides.{Naming}
use Rattle.effects.specs.Whole.{Side, whole, place, back, Backed, backed, naming, whole_entry}

-- The last step, and the last reset (02: zeroing) of clock j at the end.
abbrev pub last_moment : List Step → ℕ → ℕ
last_moment σ zero = length σ
last_moment σ (suc j) = at_end σ (suc j)

-- The 2 * n + 2 moments, in 02's order: the start, the last resets of clocks 1 to n before it, the last step, and the last resets of these
-- clocks at the end. A clock that is never reset has the same last reset at both ends.
unfoldable pub moment_of : ℕ → List Step → ℕ → ℕ
moment_of n σ v = choose (dec_lt v (n + 1)) (moment (length σ) v) (last_moment σ (v - (n + 1)))

-- Every run of σ, in any parts and from any readings of clocks 1 to n, keeps the bound e from the a-th of these moments to the b-th. Its
-- start is at time S, and the clocks were last reset before it.
pub record Keeps (n : ℕ) (σ : List Step) (a b : ℕ) (e : Bound) : Type 0 where
  pub keeps : (P S : ℕ) (t s : ℕ → ℕ) → 0 < P → ((j : ℕ) → 0 < j → j ≤ n → s j ≤ S) → Run P σ t s
      → Sat P e (row_at S (length σ) t s (moment_of n σ a)) (row_at S (length σ) t s (moment_of n σ b))

-- e is the tightest of them.
pub record Tightest (n : ℕ) (σ : List Step) (a b : ℕ) (e : Bound) : Type 0 where
  pub kept : Keeps n σ a b e
  pub least : (f : Bound) → Keeps n σ a b f → e ⊑ f

-- Two tightest bounds are as tight.
pub tightest_one : {n : ℕ} {σ : List Step} {a b : ℕ} {e f : Bound} → Tightest n σ a b e → Tightest n σ a b f → (e ⊑ f) × (f ⊑ e)
tightest_one t u = (t.least _ u.kept, u.least _ t.kept)

-- ---- The moments are the vertices of an effect

module _ (n : ℕ) (side : Side (n + 1)) (σ : List Step) (x : ℕ → ℕ) (u v : Config) (first : Same u (conf_at x 0 (before σ)))
    (last : Same v (conf_at x (length σ) (at_end σ))) where
  at_first : (a : ℕ) → a < 7 → u a ≡ x (moment (length σ) a)
  at_first zero l = first 0 l ∙ conf_now x 0 (before σ)
  at_first (suc j) l = first (suc j) l ∙ conf_clock x 0 (before σ) (suc j) (omega arith)

  at_last : (a : ℕ) → a < 7 → v a ≡ x (last_moment σ a)
  at_last zero l = last 0 l ∙ conf_now x (length σ) (at_end σ)
  at_last (suc j) l = last (suc j) l ∙ conf_clock x (length σ) (at_end σ) (suc j) (omega arith)

  abbrev w : ℕ
  w = n + 1

  -- y is the row of values for both configurations.
  vertex : (y : ℕ → ℕ) → Same u y → Same v (past y) → (a : ℕ) → a < n + 1 + (n + 1) → y (back (n + 1) a) ≡ x (moment_of n σ a)
  unfolding moment_of
  vertex y p q a l = go (backed w a) (dec_lt a w)
    where
      go : Backed w a (back w a) → (d : Dec (a < w))
          → y (back w a) ≡ x (choose (dec_lt a w) (moment (length σ) a) (last_moment σ (a - w)))
      go (inl h) (yes k) =
          let e : x (choose (dec_lt a w) (moment (length σ) a) (last_moment σ (a - w))) ≡ x (moment (length σ) a) =
          ap x (choose_yes (dec_lt a w) _ _ k) in
          ap y h.1 ∙ sym (p a (omega (arith, side.1))) ∙ at_first a (omega (arith, side.1)) ∙ sym e
      go (inl h) (no k) = absurd (k h.0)
      go (inr h) (yes k) = absurd (omega arith)
      go (inr h) (no k) =
          let e : x (choose (dec_lt a w) (moment (length σ) a) (last_moment σ (a - w))) ≡ x (last_moment σ (a - w)) =
          ap x (choose_no (dec_lt a w) _ _ k) in
          let c : back w a ≡ 7 + (a - w) = omega (arith, h.1) in
          ap y c ∙ sym (q (a - w) (omega (arith, side.1))) ∙ at_last (a - w) (omega (arith, side.1)) ∙ sym e

-- The entries of an effect are the tightest bounds that every run keeps.
pub describes_tightest : (n : ℕ) → Side (n + 1) → (σ : List Step) → Fairs σ → Clocks n σ → 0 < length σ → (M : Matrix)
    → Describes σ (whole (n + 1) M) → (a b : ℕ) → a < n + 1 + (n + 1) → b < n + 1 + (n + 1) → Tightest n σ a b (M a b)
describes_tightest n side σ f on long M d a b ha hb = record { kept = record { keeps = keeps }; least = least }
  where
    w : ℕ
    w = n + 1

    names : Naming w 14 (w + w) (place w) (back w)
    names = naming w side

    keeps : (P S : ℕ) (t s : ℕ → ℕ) → 0 < P → ((j : ℕ) → 0 < j → j ≤ n → s j ≤ S) → Run P σ t s
        → Sat P (M a b) (row_at S (length σ) t s (moment_of n σ a)) (row_at S (length σ) t s (moment_of n σ b))
    keeps P S t s p l r = rw (← at a ha, ← at b hb) (rw (whole_entry w side M a b ha hb) at
        (sound_ends f d P u v p (run_ends P S n σ t s f on l r) (back w a) (back w b) (names.g_low a ha) (names.g_low b hb)))
      where
        x : ℕ → ℕ
        x = row_at S (length σ) t s

        u : Config
        u = conf_at x 0 (before σ)

        v : Config
        v = conf_at x (length σ) (at_end σ)

        at : (c : ℕ) → c < w + w → ends u v (back w c) ≡ x (moment_of n σ c)
        at = vertex n side σ x u v (λ c h. refl) (λ c h. refl) (ends u v) (ends_left u v) (ends_right u v)

    least : (e : Bound) → Keeps n σ a b e → M a b ⊑ e
    least e k =
        rw (whole_entry w side M a b ha hb) at (tightest d (back w a) (back w b) (names.g_low a ha) (names.g_low b hb) e met)
      where
        met : (P : ℕ) (y : ℕ → ℕ) → 0 < P → Steps P σ y (past y) → Sat P e (y (back w a)) (y (back w b))
        met P y p r = rw (at a ha, at b hb) (k.keeps P (y 0) o.moments o.starts p (λ j q l. o.late j) o.run)
          where
            o : RunOf P σ y (past y)
            o = ends_run P σ y (past y) f long r

            at : (c : ℕ) → c < w + w → y (back w c) ≡ row_at (y 0) (length σ) o.moments o.starts (moment_of n σ c)
            at = vertex n side σ (row_at (y 0) (length σ) o.moments o.starts) y (past y) o.first o.last y
                (λ c h. refl) (λ c h. refl)

-- Where steps have an effect, they have a run.
pub describes_exists : (n : ℕ) {σ : List Step} {M : Matrix} → Fairs σ → 0 < length σ → Describes σ M → Exists n any_starts σ
describes_exists n {σ} {M} f long d =
    let (P, p, (x, s)) = solve 14 M d.closed in
    let t = d.exact P x p s in
    let o = ends_run (t.scale * P) σ _ _ f long t.run in
    record {
      parts = t.scale * P;
      positive = mul-pos t.scale_pos p;
      moments = o.moments;
      starts = o.starts;
      allowed = any_allowed _ n _;
      run = o.run;
    }

-- ---- How a bound is told

-- Its ticks, 0 where there is none, and its mark: 0 none, 1 weak, 2 strict.
abbrev pub ticks_told : Bound → ℤ
ticks_told none = pos 0
ticks_told (some e z) = pos (half e) -ℤ pos z

abbrev pub mark_told : Bound → ℕ
mark_told none = 0
mark_told (some e z) = 1 + strict e

difference_same : (a b c d : ℕ) → a + d ≡ c + b → pos a -ℤ pos b ≡ pos c -ℤ pos d
difference_same a b c d e = ap (λ k. k -ℤ pos b) (sym whole_is) ∙ +ℤ-neg_ℤ_cancel (pos c -ℤ pos d) (pos b)
  where
    whole_is : pos c -ℤ pos d +ℤ pos b ≡ pos a
    whole_is =
        +ℤ_assoc (pos c) (neg_ℤ (pos d)) (pos b) ∙ ap (λ k. pos c +ℤ k) (+ℤ_comm (neg_ℤ (pos d)) (pos b))
        ∙ sym (+ℤ_assoc (pos c) (pos b) (neg_ℤ (pos d)))
        ∙ ap (λ k. k -ℤ pos d) (pos-+ℤ-pos c b ∙ ap pos (sym e) ∙ sym (pos-+ℤ-pos a d)) ∙ +ℤ-neg_ℤ_cancel (pos a) (pos d)

-- What is told says what the bound demands of two moments u and v, in P parts to a tick. With h ticks told, v is at most (mark 1) or under
-- (mark 2) h ticks after u;
pub told_after : (P u v e z h : ℕ) → half e ≡ h + z
    → (ticks_told (some e z) ≡ pos h) × (Sat P (some e z) u v ↔ v + mark_told (some e z) ≤ u + h * P + 1)
told_after P u v e z h q = (
  difference_same (half e) z h 0 (omega arith) ∙ +ℤ_idr (pos h),
  ((λ s. omega (arith, s.holds, ap (λ k. k * P) q)), λ k. record { holds = omega (arith, k, ap (λ k. k * P) q) }),
)

-- and with h ticks told below 0, v is at least, or over, h ticks before u.
pub told_before : (P u v e z h : ℕ) → half e + h ≡ z
    → (ticks_told (some e z) ≡ neg_ℤ (pos h)) × (Sat P (some e z) u v ↔ v + h * P + mark_told (some e z) ≤ u + 1)
told_before P u v e z h q = (
  difference_same (half e) z 0 h (omega arith) ∙ +ℤ_idl (neg_ℤ (pos h)),
  ((λ s. omega (arith, s.holds, ap (λ k. k * P) q)), λ k. record { holds = omega (arith, k, ap (λ k. k * P) q) }),
)

-- Bounds that are as tight are told alike, so that the tightest bound of two moments is told in one way.
pub told_same : (e f : Bound) → e ⊑ f → f ⊑ e → (ticks_told e ≡ ticks_told f) × (mark_told e ≡ mark_told f)
told_same none none p q = (refl, refl)
told_same none (some f y) p q = absurd p.le
told_same (some e z) none p q = absurd q.le
told_same (some e z) (some f y) p q = (
  difference_same (half e) z (half f) y (omega (arith, p.le, q.le)),
  omega (arith, p.le, q.le),
)

pub told_one : {n : ℕ} {σ : List Step} {a b : ℕ} {e f : Bound} → Tightest n σ a b e → Tightest n σ a b f
    → (ticks_told e ≡ ticks_told f) × (mark_told e ≡ mark_told f)
told_one {e = e} {f = f} t u = let h = tightest_one t u in told_same e f h.0 h.1

-- Where a run exists, that of a moment and itself is told as 0, weak.
pub told_self : {n : ℕ} {σ : List Step} {a : ℕ} {e : Bound} → Tightest n σ a a e → (P S : ℕ) (t s : ℕ → ℕ) → 0 < P
    → ((j : ℕ) → 0 < j → j ≤ n → s j ≤ S) → Run P σ t s → (ticks_told e ≡ pos 0) × (mark_told e ≡ 1)
told_self {n} {σ} {a} {e} h P S t s p l r =
    told_same e weak_zero (h.least weak_zero (record { keeps = λ P S t s p l r. record { holds = omega arith } }))
    (self_sat P _ e p (h.kept.keeps P S t s p l r))
