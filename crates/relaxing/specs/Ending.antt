-- Pass after pass, with ways between them, until one has raised nothing on the way back or there is a cycle of parents.
use Rattle.std.specs.Prelude.{◌≡◌, refl, Bool, true, false, List, ℕ, zero, suc, ◌+◌, ◌*◌, ◌-◌, ◌%◌, ◌≤◌, ◌<◌, ◌^◌, length}
use Rattle.std.proofs.Common.{sym, ap, subst, ◌∙◌, ⊎_elim, add-one}
use mathlib.Core.List.Memᴰ
use native.Mathlib.Omega.{arith}
use Rattle.std.proofs.Math.Decide.{dec_le, dec_lt, ℕ_discrete}
use Rattle.runs.specs.declared.Demand.{Demand}
use Rattle.runs.specs.Demand.{starts_of}
use Rattle.leads.specs.Leads.{led_by, led_few}
use Rattle.sweeps.specs.Order.{forth_of, partners_from}
use Rattle.sweeps.specs.Number.{sweep_few}
use Rattle.basics.specs.Places.{at, filled, length_written}
use Rattle.paths.specs.Constraint.{Constraint, All, Fits}
use Rattle.paths.specs.State.{State, state, pass_of, hits_of, passes_of, passes_none, passes_more}
use Rattle.paths.specs.Bounds.{SameSize, Under, room_kept}
use Rattle.paths.specs.Pass.{Start}
use Rattle.paths.specs.Cycle.{OnCycle}
use Rattle.paths.specs.Outcome.{outcome_must}
use Rattle.paths.specs.Search.{Searchable, Search, found_some}
use Rattle.checks.specs.Checks.{length_edges, slight_fits}
use Rattle.checks.specs.Some.{Some, Able, onto_wider, able_narrower}
use Rattle.ways.specs.Steps.{Went}
use Rattle.led_ways.specs.Home.{led_steps}
use Rattle.relaxing.specs.Rows.{Rows, sweep, moments, constraints_of, Sound, sound_moments}
use Rattle.relaxing.specs.Pass.{Passable, Swept}
use Rattle.relaxing.specs.Passes.{Begins, Ended}
use Rattle.relaxing.specs.Reached.{Reached, reached_first, reached_more, reached_size, reached_able, reached_passable, reached_under, reached_links}
use Rattle.relaxing.specs.Reached.{reached_rises, reached_least, reached_negative, reached_cleared, onto_swept}

-- ---- what comes before a pass
-- Ways by demands of `all`, after which the stamps of N moments are taken away.
pub record Cleared (N : ℕ) (all : List Demand) (q : ℕ) (s s' : State) : Type 0 where
  pub home : State
  pub next : ℕ
  pub went : Went all (2 ^ 19) q s home next
  pub stamp : List ℕ
  pub filled : stamp ≡ filled 0 N home.stamp
  pub after : s' ≡ state home.time home.parent stamp

pub home_cleared : (N : ℕ) (all : List Demand) (q : ℕ) (s : State) (time parent stamp stamp' : List ℕ) (next : ℕ)
    → Went all (2 ^ 19) q s (state time parent stamp) next → stamp' ≡ filled 0 N stamp → Cleared N all q s (state time parent stamp')
home_cleared N all q s time parent stamp stamp' next w e =
    record { home = state time parent stamp; next = next; went = w; stamp = stamp'; filled = e; after = refl }

-- When m passes are made: s is the state before and s' after, q the stamp of the next check before and r after. The first seventeen passes
-- have ways before them, of so many checks at most; after those of the last no moment is stamped, and the others have none.
pub record Approached (N : ℕ) (all : List Demand) (m q : ℕ) (s s' : State) (r : ℕ) : Type 0 where
  pub near : m < 16 → Went all (2 ^ 19) q s s' r
  pub clear : m ≡ 16 → Cleared N all q s s' × (r ≡ 1)
  pub kept : 16 < m → (s' ≡ s) × (r ≡ q)

module _ (N : ℕ) (all : List Demand) (m q : ℕ) (s s' : State) (r : ℕ) where
  pub approached_near : m < 16 → Went all (2 ^ 19) q s s' r → Approached N all m q s s' r
  approached_near l w = record { near = λ h. w; clear = λ h. absurd (omega arith); kept = λ h. absurd (omega arith) }

  pub approached_clear : m ≡ 16 → Cleared N all q s s' → r ≡ 1 → Approached N all m q s s' r
  approached_clear l c e = record { near = λ h. absurd (omega arith); clear = λ h. (c, e); kept = λ h. absurd (omega arith) }

  pub approached_kept : 16 < m → s' ≡ s → r ≡ q → Approached N all m q s s' r
  approached_kept l e f = record { near = λ h. absurd (omega arith); clear = λ h. absurd (omega arith); kept = λ h. (e, f) }

-- ---- on the way
-- s is the state after c passes from s₁ alone, of which each has raised something and left no cycle of parents, and q is the next stamp.
pub record Turned (R : Rows) (s₁ : State) (c q : ℕ) (s : State) : Type 0 where
  pub after : s ≡ passes_of (constraints_of R) c s₁
  pub stamp : q ≡ c * length (constraints_of R) + 1
  pub few : c < moments R

-- When m passes are made from the start values s₀, none the last: the state s, and the stamp q of the next check. From the pass
-- with the number f on only passes are made.
pub record Passing (R : Rows) (s₀ : State) (f m most q : ℕ) (s : State) : Type 0 where
  pub since : State
  pub reached : Reached R s₀ since s q
  pub few : q ≤ most
  pub early : m < f → Under (moments R) (2 ^ 60) since.time
  pub turned : f ≤ m → (c : ℕ) → m ≡ 16 + c → Turned R since c q s

-- the demands of the steps are in the sweep
pub steps_swept : (R : Rows) → Some (sweep R) (led_steps R.low R.up R.leads R.far R.steps R.clocks R.total)
steps_swept R d m =
    Memᴰ.append_right (partners_from R.total (starts_of R.start) 1 R.clocks)
    (⊎_elim (Memᴰ.append_left _)
    (λ k. Memᴰ.append_right (forth_of R.low R.far R.steps R.clocks R.total 0 R.total) (Memᴰ.append_left _ k))
    (Memᴰ.append_cases (forth_of R.low R.far R.steps R.clocks R.total 0 R.total) m))

module _ (R : Rows) (s₀ : State) (z : Sound R) (b : Begins R.total R.clocks s₀) where
  abbrev N : ℕ
  N = moments R

  abbrev cs : List Constraint
  cs = constraints_of R

  abbrev steps : List Demand
  steps = led_steps R.low R.up R.leads R.far R.steps R.clocks R.total

  -- the most that the next stamp is after m passes
  abbrev most : ℕ → ℕ
  most m = 1 + m * 2 ^ 20

  few_checks : length cs ≤ 144396
  unfolding constraints_of
  few_checks =
      omega (
        arith,
        length_edges (sweep R),
        sweep_few R.low R.up (led_by R.leads) R.far R.start R.steps R.clocks R.total z.clocks z.few
            (λ s. led_few R.leads z.leads.size (s % R.steps)),
      )

  fits : Fits N cs
  unfolding constraints_of
  fits = slight_fits N (sweep R) z.slight

  -- ---- before the first pass
  low : Under N (2 ^ 60) s₀.time
  low v w = go (dec_le v R.total)
    where
      go : Dec (v ≤ R.total) → at s₀.time v ≤ 2 ^ 60
      go (yes l) = omega (arith, b.now v l, sound_moments R z)
      go (no l) = omega (arith, b.past v (omega arith) w)

  pub passing_first : Passing R s₀ 17 0 (most 0) 1 s₀
  passing_first =
      record {
        since = s₀;
        reached = reached_first R z s₀ b.room b.unstamped (λ v w. omega (arith, low v w));
        few = omega arith;
        early = λ l. low;
        turned = λ l. absurd (omega arith);
      }

  -- ---- after m passes, before the next
  module _ (m q : ℕ) (s : State) (p : Passing R s₀ 17 m (most m) q s) where
    pub passing_size : SameSize s₀ s
    passing_size = reached_size R z s₀ b.room p.since s q p.reached

    -- the last pass has not been made yet
    pub passing_few : m < N + 16
    passing_few = go (dec_lt 16 m)
      where
        go : Dec (16 < m) → m < N + 16
        go (no l) = omega arith
        go (yes l) = over m l (λ c e. (p.turned (omega arith) c e).few)
          where
            over : (n : ℕ) → 16 < n → ((c : ℕ) → n ≡ 16 + c → c < N) → n < N + 16
            over n h k = omega (arith, k (n - 16) (omega arith))

    pub passing_low : q ≤ 2 ^ 36
    passing_low = omega (arith, p.few, passing_few, sound_moments R z)

    pub passing_able : Able N steps s q
    passing_able =
        able_narrower (sweep R) q s N (reached_able R z s₀ b.room p.since s q p.reached) steps (steps_swept R)

    -- what comes before it is done
    module _ (s' : State) (r : ℕ) (a : Approached N steps m q s s' r) where
      abbrev near : ℕ
      near = most m + 2 ^ 19

      -- after a way
      onward : (x : State) (n k : ℕ) → Went steps k q s x n → Reached R s₀ p.since x n
      onward x n k w =
          reached_more R z s₀ b.room p.since s q p.reached x n
          (onto_wider steps q s x n w.onto (sweep R) (steps_swept R))

      cleared : m ≡ 16 → (k : Cleared N steps q s s') → Reached R s₀ s' s' 1
      cleared e k =
          subst (λ (x : State). Reached R s₀ x x 1) (sym k.after)
          (reached_cleared R z s₀ b.room p.since k.home k.next t k.stamp k.filled
          (λ v w. omega (arith, reached_under R z s₀ b.room p.since k.home k.next t (2 ^ 60) (p.early (omega arith)) v w, k.went.few, passing_low)))
        where
          t : Reached R s₀ p.since k.home k.next
          t = onward k.home k.next (2 ^ 19) k.went

      pub approached_passing : Passing R s₀ 16 m near r s'
      approached_passing = go (dec_lt m 16) (ℕ_discrete m 16)
        where
          go : Dec (m < 16) → Dec (m ≡ 16) → Passing R s₀ 16 m near r s'
          go (yes l) d =
              record {
                since = p.since;
                reached = onward s' r (2 ^ 19) (a.near l);
                few = omega (arith, (a.near l).few, p.few);
                early = λ h. p.early (omega arith);
                turned = λ h. absurd (omega arith);
              }
          go (no l) (yes e) =
              let k = a.clear e in
              record {
                since = s';
                reached = subst (Reached R s₀ s' s') (sym k.1) (cleared e k.0);
                few = omega (arith, k.1);
                early = λ h. absurd (omega arith);
                turned = λ h c f. fresh c (omega arith) k.1;
              }
            where
              fresh : (c : ℕ) → c ≡ 0 → r ≡ 1 → Turned R s' c r s'
              fresh c f h =
                  rw f (record { after = sym (passes_none cs s'); stamp = omega arith; few = omega arith })
          go (no l) (no e) =
              let k = a.kept (omega arith) in
              record {
                since = p.since;
                reached = rw (k.0, k.1) p.reached;
                few = omega (arith, k.1, p.few);
                early = λ h. absurd (omega arith);
                turned = λ h c f. rw (k.0, k.1) (p.turned (omega arith) c f);
              }

      -- the pass can be made
      pub approached_passable : Passable R s' r
      approached_passable =
          let k = approached_passing in
          reached_passable R z s₀ b.room k.since s' r k.reached
          (omega (arith, k.few, passing_few, sound_moments R z))

      -- ---- after it
      module _ (s'' : State) (h : Bool) (q' : ℕ) (w : Swept R r s' s'' h q') where
        abbrev at_hand : Passing R s₀ 16 m near r s'
        at_hand = approached_passing

        again : Reached R s₀ at_hand.since s'' q'
        again =
            reached_more R z s₀ b.room at_hand.since s' r at_hand.reached s'' q' (onto_swept R r s' s'' h q' w)

        pub more_size : SameSize s₀ s''
        more_size = reached_size R z s₀ b.room at_hand.since s'' q' again

        more_few : q' ≤ most (m + 1)
        more_few = omega (arith, w.stamp, few_checks, at_hand.few)

        ended : (u : ℕ) → (u < N → OnCycle N s''.parent s''.stamp u) → (N ≤ u → All cs (at s''.time)) → Ended N cs s₀ s'' u
        ended u c e =
            record {
              size = more_size;
              under = λ v k. omega (arith, (reached_able R z s₀ b.room at_hand.since s'' q' again).under v k, more_few, passing_few, sound_moments R z);
              rises = reached_rises R z s₀ b.room at_hand.since s'' q' again;
              least = reached_least R z s₀ b.room at_hand.since s'' q' again;
              cycle = c;
              negative = λ l n out out'. reached_negative R z s₀ b.room at_hand.since s'' q' again u n out out' (c l);
              solved = e;
            }

        -- Nothing was raised on the way back: the times are a solution.
        pub ended_quiet : h ≡ false → Ended N cs s₀ s'' N
        ended_quiet e = ended N (λ l. absurd (omega arith)) (λ l. w.quiet e)

        -- Otherwise look for a cycle of parents.
        pub more_searchable : (marks : List ℕ) → N ≤ length marks → Searchable N s''.parent s''.stamp marks
        more_searchable marks l =
            record { links = reached_links R z s₀ b.room at_hand.since s'' q' again; room = l }

        module _ (marks marks' : List ℕ) (u : ℕ) (f : Search N s''.parent s''.stamp marks marks' u) where
          pub ended_cycle : u < N → Ended N cs s₀ s'' u
          ended_cycle l = ended u f.found.cycle (λ g. absurd (omega arith))

          -- There is none: of the passes that are made alone the N-th has not been made yet.
          turned_more : h ≡ true → N ≤ u → (c : ℕ) → Turned R at_hand.since c r s' → Turned R at_hand.since (c + 1) q' s''
          turned_more e l c t =
              record {
                after = more;
                stamp = omega (arith, w.stamp, t.stamp);
                few = go (dec_lt (c + 1) N);
              }
            where
              start : Start N cs at_hand.since
              start =
                  record {
                    fits = fits;
                    room = room_kept N s₀ _ at_hand.reached.size b.room;
                    unstamped = at_hand.reached.unstamped;
                  }

              more : s'' ≡ passes_of cs (c + 1) at_hand.since
              more =
                  w.after
                  ∙ ap (λ (i : ℕ). pass_of cs i s') t.stamp
                  ∙ ap (λ (x : State). pass_of cs (c * length cs + 1) x) t.after
                  ∙ sym (passes_more cs c at_hand.since)

              hit : hits_of cs (c * length cs + 1) (passes_of cs c at_hand.since) ≡ true
              hit =
                  ap (λ (x : State). hits_of cs (c * length cs + 1) x) (sym t.after)
                  ∙ ap (λ (i : ℕ). hits_of cs i s') (sym t.stamp)
                  ∙ w.loud e

              go : Dec (c + 1 < N) → c + 1 < N
              go (yes g) = g
              go (no g) =
                  let o = outcome_must N cs at_hand.since start c (omega arith) hit in
                  let k : OnCycle N s''.parent s''.stamp o.0 =
                  subst (λ (x : State). OnCycle N x.parent x.stamp o.0) (sym more) o.1 in
                  absurd (omega (arith, found_some N s''.parent s''.stamp u o.0 f.found k))

          pub passing_more : h ≡ true → N ≤ u → Passing R s₀ 17 (m + 1) (most (m + 1)) q' s''
          passing_more e l =
              record {
                since = at_hand.since;
                reached = again;
                few = more_few;
                early = λ g. at_hand.early (omega arith);
                turned = λ g c k. one c g k (at_hand.turned (omega arith));
              }
            where
              one : (c : ℕ) → 17 ≤ m + 1 → m + 1 ≡ 16 + c → ((d : ℕ) → m ≡ 16 + d → Turned R at_hand.since d r s')
                  → Turned R at_hand.since c q' s''
              one zero g k t = absurd (omega arith)
              one (suc c) g k t = rw (sym (add-one c)) (turned_more e l c (t c (omega arith)))

-- the marks are as many as before
pub search_size : (n : ℕ) (p st marks marks' : List ℕ) (r : ℕ) → n ≤ length marks → Search n p st marks marks' r
    → length marks' ≡ length marks
search_size n p st marks marks' r l f = ap length f.cleared ∙ length_written (λ k. 0) n marks l
