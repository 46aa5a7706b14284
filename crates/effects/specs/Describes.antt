-- The effect of a list of steps: a difference bound matrix between the configuration before them, vertices 0 to 6, and
-- the one after them, vertices 7 to 13.
use Rattle.std.specs.Prelude.{◌≡◌, List, ℕ, ◌+◌, ◌*◌, ◌-◌, ◌<◌}
use Rattle.std.proofs.Common.{sym, arith, mul-pos}
use Rattle.std.proofs.Math.Decide.{dec_lt}
use Rattle.table.specs.Step.{Step, Fairs}
use Rattle.runs.specs.Steps.{Config, Same, Steps, steps_same}
use Rattle.basics.specs.Choice.{choose, choose_yes, choose_no}
use Rattle.zones.specs.Bound.{Bound, ◌⊑◌, Sat}
use Rattle.zones.specs.Values.{sat_unscale}
use Rattle.zones.specs.Matrix.{Matrix, Solves, Closed, Flat}
use Rattle.zones.specs.Tight.{tight}

-- The configuration after, of a row of values for both.
abbrev pub past : (ℕ → ℕ) → Config
past x a = x (7 + a)

-- x, scaled and shifted, is the two ends of a run of σ.
pub record Scaled (σ : List Step) (P : ℕ) (x : ℕ → ℕ) : Type 0 where
  pub scale : ℕ
  pub shift : ℕ
  pub scale_pos : 0 < scale
  pub run : Steps (scale * P) σ (λ a. scale * x a + shift) (λ a. scale * x (7 + a) + shift)

-- M is the effect of σ: a closed matrix that the two ends of every run solve (sound), and whose every solution is the
-- two ends of a run, up to scale and shift (exact).
pub record Describes (σ : List Step) (M : Matrix) : Type 0 where
  pub closed : Closed 14 M
  pub flat : Flat 14 M
  pub sound : (P : ℕ) (x : ℕ → ℕ) → 0 < P → Steps P σ x (past x) → Solves 14 P M x
  pub exact : (P : ℕ) (x : ℕ → ℕ) → 0 < P → Solves 14 P M x → Scaled σ P x

-- σ has no run.
abbrev pub NoRun : List Step → Type 0
NoRun σ = (P : ℕ) (u v : Config) → 0 < P → Steps P σ u v → ⊥

-- ---- Two configurations as one row of values

unfoldable pub ends : Config → Config → ℕ → ℕ
ends u v a = choose (dec_lt a 7) (u a) (v (a - 7))

pub ends_left : (u v : Config) → Same u (ends u v)
unfolding ends
ends_left u v a l = sym (choose_yes (dec_lt a 7) (u a) (v (a - 7)) l)

pub ends_right : (u v : Config) → Same v (past (ends u v))
unfolding ends
ends_right u v a l =
    let e : 7 + a - 7 ≡ a = omega arith in
    sym (rw (choose_no (dec_lt (7 + a) 7) (u (7 + a)) (v (7 + a - 7)) (omega arith), e))

-- The two ends of a run solve the effect.
pub sound_ends : {σ : List Step} {M : Matrix} → Fairs σ → Describes σ M
    → (P : ℕ) (u v : Config) → 0 < P → Steps P σ u v → Solves 14 P M (ends u v)
sound_ends {σ} f d P u v p r = d.sound P (ends u v) p (steps_same P σ f (ends_left u v) (ends_right u v) r)

-- ---- An effect says no more than its runs

-- An entry is the tightest bound that every run keeps.
pub tightest : {σ : List Step} {M : Matrix} → Describes σ M → (a b : ℕ) → a < 14 → b < 14 → (e : Bound)
    → ((P : ℕ) (x : ℕ → ℕ) → 0 < P → Steps P σ x (past x) → Sat P e (x a) (x b)) → M a b ⊑ e
tightest {σ} {M} d a b ha hb e h = tight 14 M d.closed a b ha hb e d.flat meets
  where
    meets : (P : ℕ) (x : ℕ → ℕ) → 0 < P → Solves 14 P M x → Sat P e (x a) (x b)
    meets P x p s =
        let t : Scaled σ P x = d.exact P x p s in
        sat_unscale t.scale t.shift P (x a) (x b) e t.scale_pos
        (h (t.scale * P) (λ c. t.scale * x c + t.shift) (mul-pos t.scale_pos p) t.run)

-- What has the same fourteen rows of fourteen entries is an effect too.
pub describes_same : {σ : List Step} {A B : Matrix} → ((a b : ℕ) → a < 14 → b < 14 → A a b ≡ B a b)
    → Describes σ A → Describes σ B
describes_same e d = record {
  closed = record {
    tri = λ a b c ha hb hc. rw (← e a b ha hb, ← e a c ha hc, ← e c b hc hb) (d.closed.tri a b c ha hb hc);
    diag = λ a ha. rw (← e a a ha ha) (d.closed.diag a ha);
  };
  flat = λ a ha. rw (← e a a ha ha) (d.flat a ha);
  sound = λ P x p r a b ha hb. rw (← e a b ha hb) (d.sound P x p r a b ha hb);
  exact = λ P x p s. d.exact P x p (λ a b ha hb. rw (e a b ha hb) (s a b ha hb));
}
