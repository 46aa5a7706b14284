-- A gap of more than 4001 ticks between the moments of a run may be made longer or shorter.
use Rattle.std.specs.Prelude.{◌≡◌, ◌⊎◌, ℕ, zero, suc, ◌+◌, ◌*◌, ◌-◌, ◌≤◌, ◌<◌, max, length}
use Rattle.std.proofs.Common.{sym, ap, subst, inl, inr, ⊎_elim, arith}
use mathlib.Core.List.{List, [], ◌∷◌, Memᴰ}
use Rattle.std.proofs.Math.Decide.{dec_le, dec_lt}
use Rattle.table.specs.Step.{Step, end_of, FairGuard, Fairs}
use Rattle.table.specs.declared.Guard.{Guard}
use Rattle.runs.specs.Steps.{Config, Old, Same, MetBy, Move, Steps, stay, move, fairs_head, fairs_tail, clock_cases, end_map, Keeps, move_map}
use Rattle.runs.specs.Replay.{Apart, met_fair}
use Rattle.basics.specs.Choice.{choose, choose_yes, choose_no}
use Rattle.basics.specs.Numbers.{sum}
use Rattle.effects.specs.Sums.{sum_less, sum_top, seek}

-- ---- A map of the times

-- A run whose moments are all in G.
pub data StepsIn (P : ℕ) (G : ℕ → Type 0) : List Step → Config → Config → Type 0 where
  stays : {u v : Config} → Same u v → StepsIn P G [] u v
  moves : {s : Step} {σ : List Step} {u w v : Config} → Move P s u w → G (w 0) → StepsIn P G σ w v
      → StepsIn P G (s ∷ σ) u v

-- A map of the times under which any two of them are as far from each other, or farther than any constant.
record Faithful (P : ℕ) (G : ℕ → Type 0) (φ : ℕ → ℕ) : Type 0 where
  mono : (a b : ℕ) → a ≤ b → φ a ≤ φ b
  apart : (a b : ℕ) → G a → G b → Apart (4001 * P) a b (φ a) (φ b)

-- the times of a configuration are all in G
abbrev pub AllIn : (ℕ → Type 0) → Config → Type 0
AllIn G u = (j : ℕ) → j < 7 → G (u j)

end_in : (G : ℕ → Type 0) (j t : ℕ) (u : Config) → j < 7 → G t → AllIn G u → G (end_of j t u)
unfolding end_of
end_in G zero t u l g c = g
end_in G (suc j) t u l g c = c (suc j) l

-- It makes a run of a run.
remap : (P : ℕ) (G : ℕ → Type 0) (φ : ℕ → ℕ) (σ : List Step) {u v : Config} → 0 < P → Faithful P G φ → Fairs σ
    → AllIn G u → StepsIn P G σ u v → Steps P σ (λ a. φ (u a)) (λ a. φ (v a))
remap P G φ [] p k f c (stays r) = stay (λ a l. ap φ (r a l))
remap P G φ (s ∷ σ) {u} p k f c (moves {w = w} m g r) =
    move (move_map P P φ s keeps m) (remap P G φ σ p k (fairs_tail f) after r)
  where
    after : AllIn G w
    after j l = ⊎_elim (λ e. subst G (sym e) g) (λ e. subst G (sym e.0) (c j l)) (clock_cases P s m j l)

    meets : (h : Guard) → Memᴰ h s.guards → MetBy P h (λ a. φ (u a)) (φ (w 0))
    meets h i =
        let q = (fairs_head f).guards h i in
        rw (end_map φ h.second (w 0) u)
        (met_fair P h (u h.clock) (end_of h.second (w 0) u) _ _ p q
        (k.apart (u h.clock) (end_of h.second (w 0) u) (c h.clock q.last) (end_in G h.second (w 0) u q.second g c))
        (m.guarded h i))

    keeps : Keeps P φ s u w
    keeps = record { mono = k.mono; meets = meets }

-- ---- Gaps

-- No moment lies after t and before t + B.
abbrev pub Clear : ℕ → ℕ → ℕ → Type 0
Clear B t m = (m ≤ t) ⊎ (t + B ≤ m)

-- A run that starts at t + B or later has a gap after t.
pub beyond : (P B t : ℕ) (σ : List Step) {u v : Config} → t + B ≤ u 0 → Steps P σ u v → StepsIn P (Clear B t) σ u v
beyond P B t [] h (stay r) = stays r
beyond P B t (s ∷ σ) {u} h (move {w = w} m r) =
    let k : t + B ≤ w 0 = omega (arith, m.later) in moves m (inr k) (beyond P B t σ k r)

-- A gap of B that begins at q or later, and no later than n gaps after it.
pub record Gap (P B n q : ℕ) (σ : List Step) (u v : Config) : Type 0 where
  pub at : ℕ
  pub low : q ≤ at
  pub high : at ≤ q + n * B
  pub clear : StepsIn P (Clear B at) σ u v

gap_from : (P B q : ℕ) (σ : List Step) {u v : Config} → u 0 ≤ q → Steps P σ u v → Gap P B (length σ) q σ u v
gap_from P B q [] h (stay r) = record { at = q; low = omega arith; high = omega arith; clear = stays r }
gap_from P B q (s ∷ σ) {u} {v} h (move {w = w} m r) =
    go (dec_le (q + B) (w 0)) (gap_from P B (max q (w 0)) σ (omega arith) r)
  where
    go : Dec (q + B ≤ w 0) → Gap P B (length σ) (max q (w 0)) σ w v → Gap P B (suc (length σ)) q (s ∷ σ) u v
    go (yes k) g = record {
      at = q;
      low = omega arith;
      high = omega arith;
      clear = moves m (inr k) (beyond P B q σ k r);
    }
    go (no k) g = record {
      at = g.at;
      low = omega (arith, g.low);
      high = omega (arith, g.high);
      clear = moves m (inl (omega (arith, g.low))) g.clear;
    }

-- ---- The last resets before the start are moments too

-- How many of the times of a configuration are after q.
one : ℕ → ℕ → ℕ
one q n = choose {B = ℕ} (dec_lt q n) 1 0

one_yes : (q n : ℕ) → q < n → one q n ≡ 1
unfolding one
one_yes q n h = choose_yes {B = ℕ} (dec_lt q n) 1 0 h

one_no : (q n : ℕ) → n ≤ q → one q n ≡ 0
unfolding one
one_no q n h = choose_no {B = ℕ} (dec_lt q n) 1 0 (omega arith)

one_most : (q n : ℕ) → one q n ≤ 1
one_most q n = go (dec_lt q n)
  where
    go : Dec (q < n) → one q n ≤ 1
    go (yes h) = omega (arith, one_yes q n h)
    go (no h) = omega (arith, one_no q n (omega arith))

above : Config → ℕ → ℕ
above u q = sum (λ j. one q (u j)) 7

above_top : (u : Config) (q : ℕ) → above u q ≤ 7
unfolding above
above_top u q = sum_top 7 1 (λ j. one q (u j)) (λ i l. one_most q (u i))

above_falls : (u : Config) (q j : ℕ) → j < 7 → q < u j → above u (u j) < above u q
unfolding above
above_falls u q j l h =
    sum_less 7 _ _ (λ i li. each i (dec_lt (u j) (u i))) j l
    (omega (arith, one_no (u j) (u j) (omega arith), one_yes q (u j) h))
  where
    each : (i : ℕ) → Dec (u j < u i) → one (u j) (u i) ≤ one q (u i)
    each i (yes k) = omega (arith, one_most (u j) (u i), one_yes q (u i) (omega arith))
    each i (no k) = omega (arith, one_no (u j) (u i) (omega arith))

-- A gap of B from q on, and no later than n gaps after it, in which no time of u lies.
pub record Level (B n q : ℕ) (u : Config) : Type 0 where
  pub at : ℕ
  pub low : q ≤ at
  pub high : at ≤ q + n * B
  pub clear : AllIn (Clear B at) u

abbrev Between : ℕ → ℕ → Config → ℕ → Type 0
Between B q u j = (q < u j) × (u j < q + B)

look : (B q : ℕ) (u : Config) → AllIn (Clear B q) u ⊎ ((j : ℕ) × (j < 7) × Between B q u j)
look B q u = seek 7 (λ j. Clear B q (u j)) (Between B q u) (λ j l. split j (dec_le (u j) q) (dec_le (q + B) (u j)))
  where
    split : (j : ℕ) → Dec (u j ≤ q) → Dec (q + B ≤ u j) → Clear B q (u j) ⊎ Between B q u j
    split j (yes a) b = inl (inl a)
    split j (no a) (yes b) = inl (inr b)
    split j (no a) (no b) = inr (omega arith, omega arith)

level_from : (B k q : ℕ) (u : Config) → above u q ≤ k → Level B k q u
level_from B zero q u h = go (look B q u)
  where
    nothing : (n : ℕ) → n < above u q → ⊥
    nothing n l = omega arith

    go : AllIn (Clear B q) u ⊎ ((j : ℕ) × (j < 7) × Between B q u j) → Level B 0 q u
    go (inl c) = record { at = q; low = omega arith; high = omega arith; clear = c }
    go (inr r) = absurd (nothing (above u (u r.0)) (above_falls u q r.0 r.1 r.2.0))
level_from B (suc k) q u h = go (look B q u) (λ j. level_from B k (u j) u)
  where
    go : AllIn (Clear B q) u ⊎ ((j : ℕ) × (j < 7) × Between B q u j)
        → ((j : ℕ) → above u (u j) ≤ k → Level B k (u j) u) → Level B (suc k) q u
    go (inl c) more = record { at = q; low = omega arith; high = omega arith; clear = c }
    go (inr r) more =
        let g = more r.0 (omega (arith, above_falls u q r.0 r.1 r.2.0)) in
        record { at = g.at; low = omega (arith, g.low, r.2.0); high = omega (arith, g.high, r.2.1); clear = g.clear }

-- Each of the seven can fill one gap only: so there is one after q.
pub level : (B q : ℕ) (u : Config) → Level B 7 q u
level B q u = level_from B 7 q u (above_top u q)

-- Each step can fill one gap too.
pub gap : (P B q : ℕ) (σ : List Step) (u v : Config) → Old u → Steps P σ u v
    → (g : Level B (7 + length σ) q u) × StepsIn P (Clear B g.at) σ u v
gap P B q σ u v o r = go (level B q u)
  where
    go : Level B 7 q u → (g : Level B (7 + length σ) q u) × StepsIn P (Clear B g.at) σ u v
    go g = pick (g.clear 0 (omega arith))
      where
        near : u 0 ≤ g.at → Gap P B (length σ) g.at σ u v
            → (g : Level B (7 + length σ) q u) × StepsIn P (Clear B g.at) σ u v
        near h d = (
          record {
            at = d.at;
            low = omega (arith, g.low, d.low);
            high = omega (arith, g.high, d.high);
            clear = λ j l. inl (omega (arith, o j l, d.low));
          },
          d.clear,
        )

        pick : Clear B g.at (u 0) → (g : Level B (7 + length σ) q u) × StepsIn P (Clear B g.at) σ u v
        pick (inl h) = near h (gap_from P B g.at σ h r)
        pick (inr h) = (
          record { at = g.at; low = g.low; high = omega (arith, g.high); clear = g.clear },
          beyond P B g.at σ h r,
        )

-- ---- The slide

-- Everything after t is T later, less one.
pub slide : ℕ → ℕ → ℕ → ℕ
slide t T n = choose (dec_le n t) n (n - 1 + T)

pub slide_low : (t T n : ℕ) → n ≤ t → slide t T n ≡ n
unfolding slide
slide_low t T n h = choose_yes (dec_le n t) n (n - 1 + T) h

pub slide_high : (t T n : ℕ) → t < n → slide t T n ≡ n - 1 + T
unfolding slide
slide_high t T n h = choose_no (dec_le n t) n (n - 1 + T) (omega arith)

slide_faithful : (P t T : ℕ) → Faithful P (Clear (4001 * P + 1) t) (slide t T)
slide_faithful P t T = record {
  mono = λ a b l. mono a b l (dec_le a t) (dec_le b t);
  apart = λ a b g h. apart a b g h (dec_le a t) (dec_le b t);
}
  where
    mono : (a b : ℕ) → a ≤ b → Dec (a ≤ t) → Dec (b ≤ t) → slide t T a ≤ slide t T b
    mono a b l (yes h) (yes k) = rw (slide_low t T a h, slide_low t T b k) l
    mono a b l (yes h) (no k) = rw (slide_low t T a h, slide_high t T b (omega arith)) (omega arith)
    mono a b l (no h) (yes k) = absurd (h (omega arith))
    mono a b l (no h) (no k) = rw (slide_high t T a (omega arith), slide_high t T b (omega arith)) (omega arith)

    apart : (a b : ℕ) → Clear (4001 * P + 1) t a → Clear (4001 * P + 1) t b → Dec (a ≤ t) → Dec (b ≤ t)
        → Apart (4001 * P) a b (slide t T a) (slide t T b)
    apart a b x y (yes h) (yes k) = inl (omega (arith, slide_low t T a h, slide_low t T b k))
    apart a b x (inl y) (yes h) (no k) = absurd (k y)
    apart a b x (inr y) (yes h) (no k) =
        inr (inl (omega arith, omega (arith, slide_low t T a h, slide_high t T b (omega arith))))
    apart a b (inl x) y (no h) (yes k) = absurd (h x)
    apart a b (inr x) y (no h) (yes k) =
        inr (inr (omega arith, omega (arith, slide_high t T a (omega arith), slide_low t T b k)))
    apart a b x y (no h) (no k) = inl (omega (arith, slide_high t T a (omega arith), slide_high t T b (omega arith)))

-- A gap longer than 4001 ticks may be made one part shorter, or longer at will.
pub slid : (P t T : ℕ) (σ : List Step) {u v : Config} → 0 < P → Fairs σ → AllIn (Clear (4001 * P + 1) t) u
    → StepsIn P (Clear (4001 * P + 1) t) σ u v → Steps P σ (λ a. slide t T (u a)) (λ a. slide t T (v a))
slid P t T σ p f c r = remap P (Clear (4001 * P + 1) t) (slide t T) σ p (slide_faithful P t T) f c r
