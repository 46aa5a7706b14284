-- Starting readings may be cut down where there is a gap of more than 4001 ticks between them. So no run needs a longer start than
-- `longest` ticks.
use Rattle.std.specs.Prelude.{◌≡◌, refl, ◌⊎◌, Bool, true, false, length}
use Rattle.std.proofs.Common.{sym, ap, subst, ⊎_elim, arith, mul-le-mul_right}
use Rattle.std.proofs.Math.Logic.{inl, inr}
use mathlib.Core.List.{List, [], ◌∷◌, Memᴰ}
use Prim.Native.Nat.{ℕ, zero, suc, ◌+◌, ◌*◌, ◌-◌, ◌≤◌, ◌<◌}
use Rattle.std.proofs.Math.Decide.{dec_le, dec_lt}
use Rattle.table.specs.Step.{Step, up_of, down_of, FairGuard, Fairs}
use Rattle.table.specs.declared.Guard.{Guard}
use Rattle.basics.specs.Choice.{choose, choose_yes, choose_no}
use Rattle.basics.specs.Numbers.{sum}
use Rattle.runs.specs.Run.{Compares, reading, second_reading, zeroed, Passes, Goes, done, next, Run}
use Rattle.runs.specs.declared.Demand.{Demand}
use Rattle.runs.specs.Demand.{Within, Starts, demands, back, Suits, Allowed, Clocks, Places}
use Rattle.runs.specs.DemandRange.{Proper}
use Rattle.runs.specs.Steps.{fairs_head, fairs_tail}
use Rattle.runs.specs.Replay.{Apart, compares_apart, up_small, down_small}
use Rattle.runs.specs.Satisfies.{Satisfies}
use Rattle.runs.specs.Rows.{row_at, run_row}
use Rattle.runs.specs.Tools.{Every}

-- no start need be longer, in ticks: a gap for each of six clocks
abbrev pub longest : ℕ
longest = 24012

-- ---- starting readings that no guard tells apart

-- the start itself is place 0: any two of the starts are as far from each other in r as in s, or farther than any constant
abbrev pub Alike : ℕ → (ℕ → ℕ) → (ℕ → ℕ) → Type 0
Alike B s r = (a b : ℕ) → a < 7 → b < 7 → Apart B (back s a) (back s b) (back r a) (back r b)

module _ (P : ℕ) (p : 0 < P) (t s r : ℕ → ℕ) (k : Alike (4001 * P) s r) where
  -- the readings of two clocks, c of which the second may be none
  readings_apart : (z : ℕ → ℕ) (i c d : ℕ) → 0 < c → c < 7 → d < 7
      → Apart (4001 * P) (second_reading t s z i d) (reading t (s c) (z c) i) (second_reading t r z i d) (reading t (r c) (z c) i)
  unfolding second_reading
  readings_apart z i zero d l b e = absurd (omega arith)
  readings_apart z i (suc c) zero l b e = go (z (suc c)) (k 0 (suc c) (omega arith) b)
    where
      go : (m : ℕ) → Apart (4001 * P) 0 (s (suc c)) 0 (r (suc c))
          → Apart (4001 * P) 0 (reading t (s (suc c)) m i) 0 (reading t (r (suc c)) m i)
      go zero (inl h) = inl (omega arith)
      go zero (inr (inl h)) = inr (inl (omega arith))
      go zero (inr (inr h)) = absurd (omega arith)
      go (suc m) h = inl (omega arith)
  readings_apart z i (suc c) (suc d) l b e =
      go (z (suc c)) (z (suc d)) (k (suc d) (suc c) e b) (k 0 (suc c) (omega arith) b) (k (suc d) 0 e (omega arith))
    where
      go : (m n : ℕ) → Apart (4001 * P) (s (suc d)) (s (suc c)) (r (suc d)) (r (suc c))
          → Apart (4001 * P) 0 (s (suc c)) 0 (r (suc c)) → Apart (4001 * P) (s (suc d)) 0 (r (suc d)) 0
          → Apart (4001 * P) (reading t (s (suc d)) n i) (reading t (s (suc c)) m i) (reading t (r (suc d)) n i) (reading t (r (suc c)) m i)
      go zero zero (inl h) x y = inl (omega arith)
      go zero zero (inr (inl h)) x y = inr (inl (omega arith))
      go zero zero (inr (inr h)) x y = inr (inr (omega arith))
      go zero (suc n) h (inl x) y = inl (omega arith)
      go zero (suc n) h (inr (inl x)) y = inr (inl (omega arith))
      go zero (suc n) h (inr (inr x)) y = absurd (omega arith)
      go (suc m) zero h x (inl y) = inl (omega arith)
      go (suc m) zero h x (inr (inl y)) = absurd (omega arith)
      go (suc m) zero h x (inr (inr y)) = inr (inr (omega arith))
      go (suc m) (suc n) h x y = inl (omega arith)

  goes_alike : (σ : List Step) (i : ℕ) (z : ℕ → ℕ) → Fairs σ → Goes P t s σ i z → Goes P t r σ i z
  goes_alike [] i z f done = done
  goes_alike (c ∷ σ) i z f (next l g w) = next l guards (goes_alike σ (suc i) (zeroed c (suc i) z) (fairs_tail f) w)
    where
      guards : (q : Guard) → Memᴰ q c.guards → Passes P t r z (suc i) q
      guards q m =
          let h : FairGuard q = (fairs_head f).guards q m in
          compares_apart q.relation (4001 * P) (up_of q * P) (down_of q * P) _ _ _ _ (up_small P q p h) (down_small P q p h)
          (readings_apart z (suc i) q.clock q.second h.first h.last h.second) (g q m)

  -- The same moments are a run from r too,
  pub run_alike : (σ : List Step) → Fairs σ → Run P σ t s → Run P σ t r
  run_alike σ f h = record { start = h.start; goes = goes_alike σ 0 (λ j. 0) f h.goes }

  within_apart : (b : Bool) (B c d z y u v : ℕ) → c < B → d < B → Apart B z y u v → Within b (z + c) (y + d) → Within b (u + c) (v + d)
  within_apart true B c d z y u v x w (inl e) h = omega arith
  within_apart true B c d z y u v x w (inr (inl e)) h = omega arith
  within_apart true B c d z y u v x w (inr (inr e)) h = omega arith
  within_apart false B c d z y u v x w (inl e) h = omega arith
  within_apart false B c d z y u v x w (inr (inl e)) h = omega arith
  within_apart false B c d z y u v x w (inr (inr e)) h = omega arith

  -- and r is allowed where s is.
  pub allowed_alike : (D : Starts) (n : ℕ) → n < 7 → ((j : ℕ) → 0 < j → j ≤ n → Every (Proper n) (D j))
      → Allowed P D n s → Allowed P D n r
  allowed_alike D n few q h = record { allowed = λ j l b d m. go d (q j l b d m) (h.allowed j l b d m) }
    where
      go : (d : Demand) → Proper n d → Suits P s d → Suits P r d
      go d o w =
          within_apart d.strict (4001 * P) (d.down * P) (d.up * P) _ _ _ _
          (omega (arith, mul-le-mul_right P o.down)) (omega (arith, mul-le-mul_right P o.up))
          (k d.from d.to (omega (arith, o.from)) (omega (arith, o.to))) w

-- ---- how many of the starts lie above q
one : ℕ → ℕ → ℕ
one q n = choose {B = ℕ} (dec_lt q n) 1 0

one_yes : (q n : ℕ) → q < n → one q n ≡ 1
unfolding one
one_yes q n h = choose_yes {B = ℕ} (dec_lt q n) 1 0 h

one_no : (q n : ℕ) → n ≤ q → one q n ≡ 0
unfolding one
one_no q n h = choose_no {B = ℕ} (dec_lt q n) 1 0 (omega arith)

one_most : (q n : ℕ) → one q n ≤ 1
one_most q n = go (dec_lt q n)
  where
    go : Dec (q < n) → one q n ≤ 1
    go (yes h) = omega (arith, one_yes q n h)
    go (no h) = omega (arith, one_no q n (omega arith))

above : (ℕ → ℕ) → ℕ → ℕ
above u q = sum (λ j. one q (u (suc j))) 6

sum_mono : (n : ℕ) (u v : ℕ → ℕ) → ((i : ℕ) → i < n → u i ≤ v i) → sum u n ≤ sum v n
unfolding sum
sum_mono zero u v h = omega arith
sum_mono (suc n) u v h = omega (arith, sum_mono n u v (λ i l. h i (omega arith)), h n (omega arith))

sum_less : (n : ℕ) (u v : ℕ → ℕ) → ((i : ℕ) → i < n → u i ≤ v i) → (i : ℕ) → i < n → u i < v i → sum u n < sum v n
unfolding sum
sum_less zero u v h i l k = omega arith
sum_less (suc n) u v h i l k = go (dec_lt i n) (sum_less n u v (λ i l. h i (omega arith)) i)
  where
    go : Dec (i < n) → (i < n → u i < v i → sum u n < sum v n) → sum u n + u n < sum v n + v n
    go (yes m) r = omega (arith, r m k, h n (omega arith))
    go (no m) r =
        let e : i ≡ n = omega arith in
        let q : u n < v n = rw e at k in
        omega (arith, sum_mono n u v (λ i l. h i (omega arith)))

-- Q of every number below n, or R of one
seek : (n : ℕ) (Q R : ℕ → Type 0) → ((i : ℕ) → i < n → Q i ⊎ R i)
    → ((i : ℕ) → i < n → Q i) ⊎ ((i : ℕ) × (i < n) × R i)
seek zero Q R d = inl (λ i l. absurd (nothing i l))
  where
    nothing : (i : ℕ) → i < 0 → ⊥
    nothing i l = omega arith
seek (suc n) Q R d = go (seek n Q R (λ i l. d i (omega arith))) (d n (omega arith))
  where
    go : ((i : ℕ) → i < n → Q i) ⊎ ((i : ℕ) × (i < n) × R i) → Q n ⊎ R n
        → ((i : ℕ) → i < suc n → Q i) ⊎ ((i : ℕ) × (i < suc n) × R i)
    go (inr r) e = inr (r.0, omega arith, r.2)
    go (inl h) (inr q) = inr (n, omega arith, q)
    go (inl h) (inl q) = inl (λ i l. pick i l (dec_lt i n))
      where
        pick : (i : ℕ) → i < suc n → Dec (i < n) → Q i
        pick i l (yes m) = h i m
        pick i l (no m) = let e : i ≡ n = omega arith in subst Q (sym e) q

above_top : (u : ℕ → ℕ) (q : ℕ) → above u q ≤ 6
unfolding above sum
above_top u q =
    omega (
      arith,
      one_most q (u 1),
      one_most q (u 2),
      one_most q (u 3),
      one_most q (u 4),
      one_most q (u 5),
      one_most q (u 6),
    )

above_falls : (u : ℕ → ℕ) (q j : ℕ) → j < 6 → q < u (suc j) → above u (u (suc j)) < above u q
unfolding above
above_falls u q j l h =
    sum_less 6 _ _ (λ i li. each i (dec_lt (u (suc j)) (u (suc i)))) j l
    (omega (arith, one_no (u (suc j)) (u (suc j)) (omega arith), one_yes q (u (suc j)) h))
  where
    each : (i : ℕ) → Dec (u (suc j) < u (suc i)) → one (u (suc j)) (u (suc i)) ≤ one q (u (suc i))
    each i (yes k) = omega (arith, one_most (u (suc j)) (u (suc i)), one_yes q (u (suc i)) (omega arith))
    each i (no k) = omega (arith, one_no (u (suc j)) (u (suc i)) (omega arith))

-- A level from q on, at most n gaps of B up, with no start after it and before the gap's end.
record Level (B n q : ℕ) (u : ℕ → ℕ) : Type 0 where
  at : ℕ
  low : q ≤ at
  high : at ≤ q + n * B
  clear : (j : ℕ) → j < 6 → (u (suc j) ≤ at) ⊎ (at + B ≤ u (suc j))

abbrev Between : ℕ → ℕ → (ℕ → ℕ) → ℕ → Type 0
Between B q u j = (q < u (suc j)) × (u (suc j) < q + B)

look : (B q : ℕ) (u : ℕ → ℕ)
    → ((j : ℕ) → j < 6 → (u (suc j) ≤ q) ⊎ (q + B ≤ u (suc j))) ⊎ ((j : ℕ) × (j < 6) × Between B q u j)
look B q u =
    seek 6 (λ j. (u (suc j) ≤ q) ⊎ (q + B ≤ u (suc j))) (Between B q u)
    (λ j l. split j (dec_le (u (suc j)) q) (dec_le (q + B) (u (suc j))))
  where
    split : (j : ℕ) → Dec (u (suc j) ≤ q) → Dec (q + B ≤ u (suc j))
        → ((u (suc j) ≤ q) ⊎ (q + B ≤ u (suc j))) ⊎ Between B q u j
    split j (yes a) b = inl (inl a)
    split j (no a) (yes b) = inl (inr b)
    split j (no a) (no b) = inr (omega arith, omega arith)

level_from : (B k q : ℕ) (u : ℕ → ℕ) → above u q ≤ k → Level B k q u
level_from B zero q u h = go (look B q u)
  where
    nothing : (n : ℕ) → n < above u q → ⊥
    nothing n l = omega arith

    go : ((j : ℕ) → j < 6 → (u (suc j) ≤ q) ⊎ (q + B ≤ u (suc j))) ⊎ ((j : ℕ) × (j < 6) × Between B q u j) → Level B 0 q u
    go (inl c) = record { at = q; low = omega arith; high = omega arith; clear = c }
    go (inr r) = absurd (nothing (above u (u (suc r.0))) (above_falls u q r.0 r.1 r.2.0))
level_from B (suc k) q u h = go (look B q u) (λ j. level_from B k (u (suc j)) u)
  where
    go : ((j : ℕ) → j < 6 → (u (suc j) ≤ q) ⊎ (q + B ≤ u (suc j))) ⊎ ((j : ℕ) × (j < 6) × Between B q u j)
        → ((j : ℕ) → above u (u (suc j)) ≤ k → Level B k (u (suc j)) u) → Level B (suc k) q u
    go (inl c) more = record { at = q; low = omega arith; high = omega arith; clear = c }
    go (inr r) more =
        let g = more r.0 (omega (arith, above_falls u q r.0 r.1 r.2.0)) in
        record { at = g.at; low = omega (arith, g.low, r.2.0); high = omega (arith, g.high, r.2.1); clear = g.clear }

-- ---- one part less of every start above the level
lowered : ℕ → (ℕ → ℕ) → ℕ → ℕ
lowered q s j = choose (dec_le (s j) q) (s j) (s j - 1)

lowered_low : (q : ℕ) (s : ℕ → ℕ) (j : ℕ) → s j ≤ q → lowered q s j ≡ s j
unfolding lowered
lowered_low q s j h = choose_yes (dec_le (s j) q) (s j) (s j - 1) h

lowered_high : (q : ℕ) (s : ℕ → ℕ) (j : ℕ) → q < s j → lowered q s j ≡ s j - 1
unfolding lowered
lowered_high q s j h = choose_no (dec_le (s j) q) (s j) (s j - 1) (omega arith)

module _ (P : ℕ) (p : 0 < P) where
  abbrev B : ℕ
  B = 4001 * P + 1

  -- a place is low and stays, or high and one part less
  abbrev Place : ℕ → (ℕ → ℕ) → ℕ → Type 0
  Place q s j =
      ((back s j ≤ q) × (back (lowered q s) j ≡ back s j)) ⊎ ((q + B ≤ back s j) × (back (lowered q s) j + 1 ≡ back s j))

  abbrev Clear : ℕ → (ℕ → ℕ) → Type 0
  Clear q s = (j : ℕ) → j < 6 → (s (suc j) ≤ q) ⊎ (q + B ≤ s (suc j))

  place : (q : ℕ) (s : ℕ → ℕ) → Clear q s → (j : ℕ) → j < 7 → Place q s j
  place q s c zero l = inl (omega arith, refl)
  place q s c (suc j) l = pick (c j (omega arith))
    where
      pick : (s (suc j) ≤ q) ⊎ (q + B ≤ s (suc j)) → Place q s (suc j)
      pick (inl h) = inl (h, lowered_low q s (suc j) h)
      pick (inr h) = inr (h, omega (arith, lowered_high q s (suc j) (omega arith)))

  lowered_alike : (q : ℕ) (s : ℕ → ℕ) → Clear q s → Alike (4001 * P) s (lowered q s)
  lowered_alike q s c a b la lb = go (place q s c a la) (place q s c b lb)
    where
      go : Place q s a → Place q s b → Apart (4001 * P) (back s a) (back s b) (back (lowered q s) a) (back (lowered q s) b)
      go (inl x) (inl y) = inl (omega (arith, x.1, y.1))
      go (inl x) (inr y) = inr (inl (omega (arith, x.0, x.1, y.0, y.1), omega (arith, x.0, x.1, y.0, y.1)))
      go (inr x) (inl y) = inr (inr (omega (arith, x.0, x.1, y.0, y.1), omega (arith, x.0, x.1, y.0, y.1)))
      go (inr x) (inr y) = inl (omega (arith, x.1, y.1))

  -- a run from a start that is allowed, with the same moments and none longer than it need be
  pub record Short (σ : List Step) (D : Starts) (n : ℕ) (t : ℕ → ℕ) : Type 0 where
    pub starts : ℕ → ℕ
    pub run : Run P σ t starts
    pub allowed : Allowed P D n starts
    pub short : (j : ℕ) → 0 < j → j < 7 → starts j ≤ longest * P

  total : (ℕ → ℕ) → ℕ
  total s = sum (λ j. s (suc j)) 6

  -- such a run with starts that add up to less
  record Less (σ : List Step) (D : Starts) (n : ℕ) (t s : ℕ → ℕ) : Type 0 where
    starts : ℕ → ℕ
    run : Run P σ t starts
    allowed : Allowed P D n starts
    less : total starts < total s

  module _ (σ : List Step) (f : Fairs σ) (D : Starts) (n : ℕ) (few : n < 7) (q : (j : ℕ) → 0 < j → j ≤ n → Every (Proper n) (D j))
      (t : ℕ → ℕ) where
    -- all starts are short, or there is a gap below one of them
    once : (s : ℕ → ℕ) → Run P σ t s → Allowed P D n s → Level B 6 0 s → Short σ D n t ⊎ Less σ D n t s
    once s r a g = go (seek 6 (λ j. s (suc j) ≤ g.at) (λ j. g.at + B ≤ s (suc j)) g.clear)
      where
        alike : Alike (4001 * P) s (lowered g.at s)
        alike = lowered_alike g.at s g.clear

        no_more : (j : ℕ) → j < 6 → lowered g.at s (suc j) ≤ s (suc j)
        no_more j l =
            ⊎_elim (λ h. omega (arith, lowered_low g.at s (suc j) h))
            (λ h. omega (arith, lowered_high g.at s (suc j) (omega arith))) (g.clear j l)

        go : ((j : ℕ) → j < 6 → s (suc j) ≤ g.at) ⊎ ((j : ℕ) × (j < 6) × (g.at + B ≤ s (suc j)))
            → Short σ D n t ⊎ Less σ D n t s
        go (inl h) = inl (record { starts = s; run = r; allowed = a; short = each })
          where
            each : (j : ℕ) → 0 < j → j < 7 → s j ≤ longest * P
            each zero x y = absurd (omega arith)
            each (suc j) x y = omega (arith, h j (omega arith), g.high)
        go (inr (j, l, h)) = inr (record {
          starts = lowered g.at s;
          run = run_alike P p t s (lowered g.at s) alike σ f r;
          allowed = allowed_alike P p t s (lowered g.at s) alike D n few q a;
          less = unfold total in sum_less 6 _ _ no_more j l (omega (arith, lowered_high g.at s (suc j) (omega arith)));
        })

    shorten : (k : ℕ) (s : ℕ → ℕ) → total s ≤ k → Run P σ t s → Allowed P D n s → Short σ D n t
    shorten zero s b r a = go (once s r a (level_from B 6 0 s (above_top s 0)))
      where
        nothing : (m : ℕ) → m < total s → ⊥
        nothing m l = omega arith

        go : Short σ D n t ⊎ Less σ D n t s → Short σ D n t
        go (inl h) = h
        go (inr l) = absurd (nothing (total l.starts) l.less)
    shorten (suc k) s b r a = go (once s r a (level_from B 6 0 s (above_top s 0))) (shorten k)
      where
        go : Short σ D n t ⊎ Less σ D n t s
            → ((u : ℕ → ℕ) → total u ≤ k → Run P σ t u → Allowed P D n u → Short σ D n t) → Short σ D n t
        go (inl h) more = h
        go (inr l) more = more l.starts (omega (arith, l.less)) l.run l.allowed

    -- Every run from an allowed start has a twin with the same moments and short starts,
    pub twin : (s : ℕ → ℕ) → Run P σ t s → Allowed P D n s → Short σ D n t
    twin s r a = shorten (total s) s (omega arith) r a

    -- whose row of times has the start at `longest` ticks.
    pub twin_satisfies : Clocks n σ → Places n D → (w : Short σ D n t)
        → Satisfies P (row_at (longest * P) (length σ) t w.starts) (demands n σ D)
    twin_satisfies c g w =
        run_row P (longest * P) n σ D t w.starts c g (λ j x l. w.short j x (omega arith)) w.run w.allowed
