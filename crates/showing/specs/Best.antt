-- The widest closed window so far, one step at a time.
use Rattle.std.specs.Prelude.{◌≡◌, refl, Bool, true, false, not, ◌&&◌, cond, ℕ, suc, ◌+◌, ◌-◌, ◌≤◌, ◌<◌, T, leb}
use Rattle.std.proofs.Common.{sym, ap, ◌∙◌, subst, true≢false, arith, add-one, le_of_lt, le_of_eq, leb→le}
use Rattle.std.proofs.Math.Decide.{dec_lt}
use Rattle.std.proofs.Math.Dec.{nleb→lt}
use Rattle.basics.specs.Choice.{not_below_zero}
use Rattle.seconds.specs.Seconds.{seconds_of}
use Rattle.window.specs.declared.Span.{Span}
use Rattle.window.specs.declared.Span.TheVariants.{Closed, Open, Absent}
use Rattle.window.specs.declared.Choice.{Choice}
use Rattle.window.specs.declared.Choice.TheVariants.{Widest, NoneClosed}
use Rattle.window.specs.Spans.{same_from, same_upto, open_not_closed, absent_not_closed}
use Rattle.window.specs.Widest.{FirstWidest, Chosen}
use Rattle.showing.specs.declared.Best.{Best}

-- the window from a to b as the widest, with P parts to a tick
abbrev pub best_of : ℕ → ℕ → ℕ → Best
best_of P a b = record { found = true; width = b - a; times = record { first = seconds_of a P; last = seconds_of b P } }

-- the first among equals stays: a window takes the place only where it is wider, by its parts
abbrev pub closed_of : ℕ → Best → ℕ → ℕ → Best
closed_of P best a b = cond (best.found && leb (b - a) best.width) best (best_of P a b)

-- windows that are not closed leave the widest as it was
abbrev pub better_of : ℕ → Best → Span → Best
better_of P best (Closed a b) = closed_of P best a b
better_of P best (Open a) = best
better_of P best Absent = best

-- the answer: the widest's two times, or that none is closed
abbrev pub choice_of : Best → Choice
choice_of best = cond best.found (Widest best.times) NoneClosed

-- ---- the widest of the first n steps
-- best is that of n steps: the widest window's width and its two times
pub record Held (P : ℕ) (s : ℕ → Span) (n : ℕ) (best : Best) : Type 0 where
  pub step : ℕ
  pub from : ℕ
  pub upto : ℕ
  pub widest : FirstWidest s n step from upto
  pub width : best.width ≡ upto - from
  pub seconds : best.times ≡ record { first = seconds_of from P; last = seconds_of upto P }

-- best is that of n steps, or none of them is closed
pub record Kept (P : ℕ) (s : ℕ → Span) (n : ℕ) (best : Best) : Type 0 where
  pub none : best.found ≡ false → (j a b : ℕ) → j < n → s j ≡ Closed a b → ⊥
  pub some : best.found ≡ true → Held P s n best

same_width : {a b c d : ℕ} → Closed a b ≡ Closed c d → b - a ≡ d - c
same_width e = rw (same_from e, same_upto e)

-- a step of the first n + 1 is one of the first n, or step n
either : {A : Type 0} (n j : ℕ) → j < suc n → (j < n → A) → (j ≡ n → A) → A
either {A} n j h f g = go (dec_lt j n)
  where
    go : Dec (j < n) → A
    go (yes l) = f l
    go (no l) = g (omega arith)

pub kept_none : (P : ℕ) (s : ℕ → Span) (best : Best) → best.found ≡ false → Kept P s 0 best
kept_none P s best e = record {
  none = λ _ j a b h. absurd (not_below_zero j h);
  some = λ t. absurd (true≢false (sym t ∙ e));
}

module _ (P : ℕ) (s : ℕ → Span) (n : ℕ) (best : Best) (k : Kept P s n best) where
  -- step n is not wider: what was the widest still is
  stays : ((c d : ℕ) → s n ≡ Closed c d → (best.found ≡ true) × (d - c ≤ best.width)) → Kept P s (suc n) best
  stays h = record {
    none = λ e j a b l q. either n j l (λ m. k.none e j a b m q) (λ m. true≢false (sym (h a b (ap s (sym m) ∙ q)).0 ∙ e));
    some = λ e. longer (k.some e);
  }
    where
      longer : Held P s n best → Held P s (suc n) best
      longer v = record {
        step = v.step;
        from = v.from;
        upto = v.upto;
        widest = record {
          inside = omega (arith, v.widest.inside);
          closed = v.widest.closed;
          none_wider = λ j c d l q.
              either n j l (λ m. v.widest.none_wider j c d m q) (λ m. omega (arith, v.width, (h c d (ap s (sym m) ∙ q)).1));
          first = v.widest.first;
        };
        width = v.width;
        seconds = v.seconds;
      }

  -- step n is wider than all before it
  takes : (a b : ℕ) → s n ≡ Closed a b → (best.found ≡ true → best.width < b - a) → Kept P s (suc n) (best_of P a b)
  takes a b e h = record {
    none = λ f. absurd (true≢false f);
    some = λ _. record {
      step = n;
      from = a;
      upto = b;
      widest = record {
        inside = omega arith;
        closed = e;
        none_wider = λ j c d l q. either n j l (λ m. le_of_lt (under j c d m q)) (λ m. le_of_eq (same_width (sym q ∙ ap s m ∙ e)));
        first = under;
      };
      width = refl;
      seconds = refl;
    };
  }
    where
      under : (j c d : ℕ) → j < n → s j ≡ Closed c d → d - c < b - a
      under j c d l q = go best.found refl
        where
          go : (t : Bool) → best.found ≡ t → d - c < b - a
          go true f = omega (arith, h f, (k.some f).width, (k.some f).widest.none_wider j c d l q)
          go false f = absurd (k.none f j c d l q)

  closed_more : (a b : ℕ) → s n ≡ Closed a b → Kept P s (suc n) (closed_of P best a b)
  closed_more a b e = go best.found (leb (b - a) best.width) refl (leb→le (b - a) best.width) (nleb→lt (b - a) best.width)
    where
      go : (t u : Bool) → best.found ≡ t → (T u → b - a ≤ best.width) → (T (not u) → best.width < b - a)
          → Kept P s (suc n) (cond (t && u) best (best_of P a b))
      go true true f y z = stays (λ c d q. (f, subst (λ w. w ≤ best.width) (same_width (sym e ∙ q)) (y tt)))
      go true false f y z = takes a b e (λ _. z tt)
      go false u f y z = takes a b e (λ g. absurd (true≢false (sym g ∙ f)))

  kept_suc : Kept P s (suc n) (better_of P best (s n))
  kept_suc = go (s n) refl
    where
      go : (x : Span) → s n ≡ x → Kept P s (suc n) (better_of P best x)
      go (Closed a b) e = closed_more a b e
      go (Open a) e = stays (λ c d q. absurd (open_not_closed (sym e ∙ q)))
      go Absent e = stays (λ c d q. absurd (absent_not_closed (sym e ∙ q)))

  -- One step more.
  pub kept_more : (x : Span) (next : Best) → x ≡ s n → next ≡ better_of P best x → Kept P s (n + 1) next
  kept_more x next e f = rw (f, e, add-one n) kept_suc

  -- The choice is that of the windows.
  pub chosen_kept : (c : Choice) → c ≡ choice_of best → Chosen P s n c
  chosen_kept c e = rw e (go best.found refl)
    where
      go : (t : Bool) → best.found ≡ t → Chosen P s n (cond t (Widest best.times) NoneClosed)
      go true f =
          let v = k.some f in
          record { step = v.step; from = v.from; upto = v.upto; widest = v.widest; seconds = v.seconds }
      go false f = k.none f
