-- Between two moments with a demand there is a tightest one.
use Rattle.std.specs.Prelude.{◌≡◌, refl, ◌⊎◌, Bool, true, false, ℕ, ◌+◌, ◌<◌}
use Rattle.std.proofs.Common.{sym, ◌∙◌, inl, inr, ⊎_elim, arith}
use Rattle.std.proofs.lemmas.Bool.{false≢true}
use mathlib.Core.List.Memᴰ
use mathlib.Core.List.{List, [], ◌∷◌, Memᴰ}
use Rattle.std.proofs.Math.Decide.{dec_lt, ℕ_discrete}
use Rattle.runs.specs.declared.Demand.{Demand}
use Rattle.runs.specs.Loop.{Link, AsTight, Tightest}

pub tight_refl : (e : Demand) → AsTight e e
tight_refl e = inr (refl, λ h. h)

pub tight_trans : (e d c : Demand) → AsTight e d → AsTight d c → AsTight e c
tight_trans e d c (inl h) (inl k) = inl (omega arith)
tight_trans e d c (inl h) (inr k) = inl (omega arith)
tight_trans e d c (inr h) (inl k) = inl (omega arith)
tight_trans e d c (inr h) (inr k) = inr (omega arith, λ s. h.1 (k.1 s))

tight_total : (e d : Demand) → AsTight e d ⊎ AsTight d e
tight_total e d = first (dec_lt (e.up + d.down) (d.up + e.down)) (dec_lt (d.up + e.down) (e.up + d.down))
  where
    marks : (e.up + d.down ≡ d.up + e.down) → (b : Bool) → e.strict ≡ b → AsTight e d ⊎ AsTight d e
    marks k true h = inl (inr (k, λ s. h))
    marks k false h = inr (inr (omega arith, λ s. absurd (false≢true (sym h ∙ s))))

    first : Dec (e.up + d.down < d.up + e.down) → Dec (d.up + e.down < e.up + d.down)
        → AsTight e d ⊎ AsTight d e
    first (yes h) k = inl (inl h)
    first (no h) (yes k) = inr (inl (omega arith))
    first (no h) (no k) = marks (omega arith) e.strict refl

-- ---- the demands from a to b
module _ (a b : ℕ) where
  abbrev HasTightest : List Demand → Type 0
  HasTightest ds = (e : Demand) × Tightest ds a b e

  abbrev None : List Demand → Type 0
  None ds = (d : Demand) → Link ds a b d → ⊥

  -- a link is the first demand or a link in the rest
  link_cases : (d : Demand) (ds : List Demand) (e : Demand) → Link (d ∷ ds) a b e → (e ≡ d) ⊎ Link ds a b e
  link_cases d ds e l = go (Memᴰ.cases_cons l.among)
    where
      go : (e ≡ d) ⊎ Memᴰ e ds → (e ≡ d) ⊎ Link ds a b e
      go (inl q) = inl q
      go (inr m) = inr (record { among = m; from = l.from; to = l.to })

  link_more : (d : Demand) (ds : List Demand) (e : Demand) → Link ds a b e → Link (d ∷ ds) a b e
  link_more d ds e l = record { among = Memᴰ.tail l.among; from = l.from; to = l.to }

  -- a link as tight as the first demand, if that is a link, and as the links after it is the tightest
  keep : (e d : Demand) (ds : List Demand) → Link (d ∷ ds) a b e
      → (Link (d ∷ ds) a b d → AsTight e d) → ((c : Demand) → Link ds a b c → AsTight e c) → HasTightest (d ∷ ds)
  keep e d ds l f g = (e, record { link = l; least = λ c k. rest c k (link_cases d ds c k) })
    where
      rest : (c : Demand) → Link (d ∷ ds) a b c → (c ≡ d) ⊎ Link ds a b c → AsTight e c
      rest c k (inl q) = rw q (f (rw q at k))
      rest c k (inr m) = g c m

  add : (d : Demand) (ds : List Demand) → Dec (Link (d ∷ ds) a b d)
      → HasTightest ds ⊎ None ds → HasTightest (d ∷ ds) ⊎ None (d ∷ ds)
  add d ds (no n) (inl f) =
      inl (keep f.0 d ds (link_more d ds f.0 f.1.link) (λ l. absurd (n l)) f.1.least)
  add d ds (no n) (inr f) = inr (λ e l. ⊎_elim (λ q. n (rw q at l)) (f e) (link_cases d ds e l))
  add d ds (yes l) (inr f) = inl (keep d d ds l (λ k. tight_refl d) (λ c k. absurd (f c k)))
  add d ds (yes l) (inl f) = inl (go (tight_total d f.0))
    where
      go : AsTight d f.0 ⊎ AsTight f.0 d → HasTightest (d ∷ ds)
      go (inl h) = keep d d ds l (λ k. tight_refl d) (λ c k. tight_trans d f.0 c h (f.1.least c k))
      go (inr h) = keep f.0 d ds (link_more d ds f.0 f.1.link) (λ k. h) f.1.least

  link_dec : (d : Demand) (ds : List Demand) → Dec (d.from ≡ a) → Dec (d.to ≡ b) → Dec (Link (d ∷ ds) a b d)
  link_dec d ds (yes p) (yes q) = yes (record { among = Memᴰ.head refl; from = p; to = q })
  link_dec d ds (yes p) (no q) = no (λ l. q l.to)
  link_dec d ds (no p) q = no (λ l. p l.from)

  look : (ds : List Demand) → HasTightest ds ⊎ None ds
  look [] = inr (λ e l. Memᴰ.not-nil l.among)
  look (d ∷ ds) = add d ds (link_dec d ds (ℕ_discrete d.from a) (ℕ_discrete d.to b)) (look ds)

  -- Where there is a demand there is a tightest one.
  pub tightest : (ds : List Demand) (e : Demand) → Link ds a b e → (d : Demand) × Tightest ds a b d
  tightest ds e l = ⊎_elim (λ f. f) (λ f. absurd (f e l)) (look ds)
