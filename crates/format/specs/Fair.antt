-- The guards of a table within the limits are on its clocks, of one clock each, and fair; no other clock is reset.
use Rattle.std.specs.Prelude.{◌≡◌, refl, Bool, true, ℕ, ◌≤◌, ◌<◌, replicate}
use Rattle.std.proofs.Common.{sym, ap, ◌∙◌, arith, get_or-set_other}
use Rattle.std.proofs.Math.Path.{subst}
use Rattle.std.proofs.Math.Bool.{false}
use mathlib.Core.List.Memᴰ
use mathlib.Core.List.{List, [], ◌∷◌, Memᴰ}
use Rattle.std.proofs.Math.ListN.{get_or, get_or-replicate}
use Rattle.table.specs.declared.Guard.{Guard}
use Rattle.table.specs.Step.{Step, resets, Plain, Fairs}
use Rattle.wire.specs.Listing.{Entry, guard, reset, Listing, guards_of, flagged, step_of, cycle}
use Rattle.format.specs.Encode.{LegalEntry, Legal}

-- a guard of a step is one of its entries
guard_member : {g : Guard} (es : List Entry) → Memᴰ g (guards_of es) → Memᴰ (guard g) es
unfolding guards_of
guard_member {g = g} [] m = elim m [ ]
guard_member (guard g ∷ es) (Memᴰ.head e) = Memᴰ.head (ap guard e)
guard_member (guard g ∷ es) (Memᴰ.tail m) = Memᴰ.tail (guard_member es m)
guard_member (reset j ∷ es) m = Memᴰ.tail (guard_member es m)

-- a flag beyond the clocks of the entries is as it was
flagged_other : (n j : ℕ) → n < j → (es : List Entry) → ((e : Entry) → Memᴰ e es → LegalEntry n e) → (flags : List Bool)
    → get_or (flagged flags es) j false ≡ get_or flags j false
unfolding flagged
flagged_other n j h [] legal flags = refl
flagged_other n j h (guard g ∷ es) legal flags = flagged_other n j h es (λ e m. legal e (Memᴰ.tail m)) flags
flagged_other n j h (reset k ∷ es) legal flags =
    let l = legal (reset k) (Memᴰ.head refl) in
    flagged_other n j h es (λ e m. legal e (Memᴰ.tail m)) _
    ∙ get_or-set_other flags k j true false (omega arith)

module _ (l : Listing) (legal : Legal l) where
  legal_guard : (s : Step) → Memᴰ s (cycle l) → (g : Guard) → Memᴰ g s.guards → LegalEntry l.clocks (guard g)
  unfolding step_of
  legal_guard s m g i =
      let (es, at, e) = Memᴰ.of_map step_of l.steps m in
      (legal.each es at).entries (guard g) (guard_member es (subst (λ x. Memᴰ g x.guards) (sym e) i))

  pub legal_plain : (s : Step) → Memᴰ s (cycle l) → (g : Guard) → Memᴰ g s.guards → Plain g
  legal_plain s m g i = (legal_guard s m g i).3

  pub legal_clocks : (s : Step) → Memᴰ s (cycle l) → (g : Guard) → Memᴰ g s.guards
      → (0 < g.clock) × (g.clock ≤ l.clocks) × (g.second ≤ l.clocks)
  legal_clocks s m g i = let h = legal_guard s m g i in (h.0, h.1, omega (arith, h.3.second))

  pub legal_resets : (s : Step) → Memᴰ s (cycle l) → (j : ℕ) → l.clocks < j → j < 7 → resets s j ≡ false
  unfolding step_of
  legal_resets s m j h k =
      let (es, at, e) = Memᴰ.of_map step_of l.steps m in
      subst (λ x. get_or x.flags j false ≡ false) e
      (flagged_other l.clocks j h es (legal.each es at).entries (replicate 7 false) ∙ get_or-replicate 7 j false false k)

  pub legal_fair : Fairs (cycle l)
  legal_fair s m =
      record {
        guards = λ g i.
            let h = legal_guard s m g i in
            record {
              first = h.0;
              last = omega (arith, h.1, legal.clocks_few);
              second = omega (arith, h.3.second);
              plain = λ _. h.3.minus;
              small = h.2;
            };
      }
