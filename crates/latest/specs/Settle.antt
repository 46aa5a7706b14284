-- Checks back and forth in turn, until those forth lower nothing.
use Rattle.std.specs.Prelude.{◌≡◌, refl, Bool, true, false, cond, List, ◌++◌, ℕ, ◌+◌, ◌*◌, ◌<◌}
use Rattle.std.proofs.Common.{sym, subst, true≢false, arith}
use Rattle.paths.specs.Constraint.{Constraint}
use Rattle.lowering.specs.Bounded.{Bounded, bounded_some}
use Rattle.lowering.specs.Outcome.{total, Settled, Falling, Greatest, falling_first, falling_then, falling_among}
use Rattle.latest.specs.Steps.{forth_edges, left_member, either_settled}
use Rattle.latest.specs.Descent.{Descended, descended_settled}
use Rattle.latest.specs.Ascending.{Ascended}

module _ (low far : List ℕ) (L n K : ℕ) (back : List Constraint) where
  -- the number of moments
  abbrev N : ℕ
  N = K + n + 1

  abbrev forth : List Constraint
  forth = forth_edges low far L n K

  abbrev cs : List Constraint
  cs = forth ++ back

  -- h says whether to go on
  pub record Settling (l₀ l : List ℕ) (h : Bool) : Type 0 where
    pub falling : Falling N cs l₀ l
    pub settled : h ≡ false → Settled cs l

  -- what falls: the bounds, or at last the wish to go on
  abbrev pub measure : List ℕ → Bool → ℕ
  measure l h = total l * 2 + cond h 1 0

  -- at first
  pub settling_begin : (l : List ℕ) → Bounded N cs l → Settling l l true
  settling_begin l b = record { falling = falling_first N cs l b; settled = λ p. absurd (true≢false p) }

  -- after a glide
  pub settling_glide : (l₀ l : List ℕ) (h : Bool) → Settling l₀ l h → (l' : List ℕ) → Falling N cs l l' → Settling l₀ l' true
  settling_glide l₀ l h u l' f =
      record { falling = falling_then N cs l₀ l l' u.falling f; settled = λ p. absurd (true≢false p) }

  pub glide_less : (l l' : List ℕ) (h : Bool) → h ≡ true → Falling N cs l l' → (x : ℕ) → x < measure l' true → x < measure l h
  glide_less l l' h p f x w = rw p (omega (arith, f.sum, w))

  module _ (l₀ l : List ℕ) (h : Bool) (u : Settling l₀ l h) where
    pub forth_able : Bounded N forth l
    forth_able = bounded_some N cs forth l (left_member forth back) u.falling.bounded

    module _ (l₁ : List ℕ) (bottom : ℕ) (d : Descended low far L n K K 0 l l₁ bottom) where
      down : Falling N cs l l₁
      down = falling_among N cs forth l l₁ (left_member forth back) u.falling.bounded d.falling

      pub all_able : Bounded N cs l₁
      all_able = down.bounded

      module _ (l₂ : List ℕ) (r : Bool) (a : Ascended low far L n K back l₁ l₂ r) where
        pub settling_next : Settling l₀ l₂ r
        settling_next =
            record {
              falling = falling_then N cs l₀ l l₂ u.falling (falling_then N cs l l₁ l₂ down a.falling);
              settled = λ p.
                  let q = a.quiet p in
                  either_settled forth back l₂ (subst (Settled forth) (sym q.0) (descended_settled low far L n K l l₁ bottom d)) q.1;
            }

        pub settling_less : h ≡ true → measure l₂ r < measure l h
        settling_less p = rw p (go r refl)
          where
            go : (b : Bool) → r ≡ b → total l₂ * 2 + cond r 1 0 < total l * 2 + 1
            go true q = rw q (omega (arith, a.loud q, down.sum))
            go false q = rw q (omega (arith, a.falling.sum, down.sum))

    -- at the end
    pub settling_done : h ≡ false → Greatest N cs l₀ l
    settling_done p = record { falling = u.falling; settled = u.settled p }

    -- after checks forth before all
    module _ (begin : List ℕ) (r : Bool) (a : Ascended low far L n K back begin l₀ r) where
      pub settling_falling : Falling N cs begin l
      settling_falling = falling_then N cs begin l₀ l a.falling u.falling

      pub settling_last : h ≡ false → Greatest N cs begin l
      settling_last p = record { falling = settling_falling; settled = u.settled p }
