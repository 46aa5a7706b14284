-- Two effects glued and closed by pivots at the vertices between: what they are joined to.
use Rattle.std.specs.Prelude.{◌≡◌, refl, ◌⊎◌, ◌↔◌, Bool, List, ℕ, ◌+◌, ◌-◌, ◌^◌, ◌≤◌, ◌<◌}
use Rattle.std.proofs.Common.{sym, ◌∙◌, inl, inr, ⊎_elim, arith}
use Rattle.std.proofs.Math.Decide.{dec_lt}
use Rattle.basics.specs.Choice.{not_below_zero}
use Rattle.zones.specs.Bound.{Bound, ◌⊑◌, ◌⊕◌, weak_zero, Sat, ⊑_trans, ⊕-comm}
use Rattle.zones.specs.Values.{sat_mono}
use Rattle.zones.specs.Matrix.{Matrix, Solves, Flat, Settled, OthersSettled}
use Rattle.zones.specs.Closure.{closure_canonical, canonical_for}
use Rattle.zones.specs.Codes.{NONE, bound, bound_none, bound_mono, Coded, coded_top, within_coded}
use Rattle.zones.specs.Cells.{cell, matrix, Ranged}
use Rattle.closing.specs.Closing.{Closing, closing_closure, closing_fails}
use Rattle.effects.specs.WholeJoin.{Front, Rear, front, rear, fronted, reared, Halves}
use Rattle.effects.specs.Joining.{Joinable, Joins}
use Rattle.gluing.specs.Laying.{code, effect_at}
use Rattle.gluing.specs.Gluing.{Glued}

-- No bound is tighter than none, nor than a sum with none.
under_none : (a b : Bound) → a ⊑ bound NONE ⊕ b
under_none a b = rw (bound_none NONE refl) (record { le = tt })

under_none_right : (a b : Bound) → a ⊑ b ⊕ bound NONE
under_none_right a b = rw (⊕-comm b (bound NONE)) (under_none a b)

front_low : (w u x : ℕ) → Front w u x → u < w + w → x < w + w + w
front_low w u x (inl h) l = omega arith
front_low w u x (inr h) l = omega arith

rear_low : (w u x : ℕ) → Rear w u x → u < w + w → x < w + w + w
rear_low w u x (inl h) l = omega arith
rear_low w u x (inr h) l = omega arith

module _ (w : ℕ) {a b : ℕ} {m g : List ℕ} (gl : Glued w a b m g)
    (jA : Joinable w (effect_at m a)) (jB : Joinable w (effect_at m b)) where
  abbrev A : Matrix
  A = effect_at m a

  abbrev B : Matrix
  B = effect_at m b

  abbrev G : Matrix
  G = matrix g

  low_front : (u : ℕ) → u < w + w → front w u < w + w + w
  low_front u = front_low w u (front w u) (fronted w u)

  low_rear : (u : ℕ) → u < w + w → rear w u < w + w + w
  low_rear u = rear_low w u (rear w u) (reared w u)

  -- What holds of none, of the codes of A and of those of B, each at its place, holds of a glued cell.
  glued_cases : (Q : ℕ → Type 0) (x y : ℕ) → x < w + w + w → y < w + w + w → Q NONE
      → ((u v : ℕ) → u < w + w → v < w + w → x ≡ front w u → y ≡ front w v → Q (code m a u v))
      → ((u v : ℕ) → u < w + w → v < w + w → x ≡ rear w u → y ≡ rear w v → Q (code m b u v)) → Q (cell g x y)
  glued_cases Q x y hx hy q p r =
      ⊎_elim (λ e. rw e q)
      (⊎_elim (λ k. rw k.is (p k.u k.v k.u_low k.v_low k.x_is k.y_is))
      (λ k. rw k.is (r k.u k.v k.u_low k.v_low k.x_is k.y_is))) (gl.comes x y hx hy)

  coded : (M : Matrix) (e u v : ℕ) → Joinable w M → M u v ≡ bound e → u < w + w → v < w + w → Coded (2 ^ 52) e
  coded M e u v j q hu hv = within_coded (2 ^ 52) e (rw q at (j.within u v hu hv))

  -- Glued cells are in range,
  pub glued_ranged : Ranged (2 ^ 52) (w + w + w) g
  glued_ranged = record {
    full = gl.full;
    coded = λ x y hx hy. glued_cases (Coded (2 ^ 52)) x y hx hy (λ n. absurd (n refl))
        (λ u v hu hv e f. coded A (code m a u v) u v jA refl hu hv)
        (λ u v hu hv e f. coded B (code m b u v) u v jB refl hu hv);
  }

  -- no looser than either,
  first_low : (u v : ℕ) → u < w + w → v < w + w → G (front w u) (front w v) ⊑ A u v
  first_low u v hu hv =
      bound_mono _ (code m a u v) (gl.first u v hu hv)
      (coded_top (2 ^ 52) (code m a u v) (omega arith) (coded A (code m a u v) u v jA refl hu hv))

  second_low : (u v : ℕ) → u < w + w → v < w + w → G (rear w u) (rear w v) ⊑ B u v
  second_low u v hu hv =
      bound_mono _ (code m b u v) (gl.second u v hu hv)
      (coded_top (2 ^ 52) (code m b u v) (omega arith) (coded B (code m b u v) u v jB refl hu hv))

  -- flat,
  glued_flat : Flat (w + w + w) G
  glued_flat x h = go (dec_lt x w) (dec_lt x (w + w))
    where
      at_front : (u : ℕ) → u < w + w → x ≡ front w u → G x x ⊑ weak_zero
      at_front u l e = rw e (⊑_trans (first_low u u l l) (jA.flat u l))

      at_rear : (u : ℕ) → u < w + w → x ≡ rear w u → G x x ⊑ weak_zero
      at_rear u l e = rw e (⊑_trans (second_low u u l l) (jB.flat u l))

      in_front : (u y : ℕ) → Front w u y → ((u < w) × (x ≡ u)) ⊎ ((w ≤ u) × (x ≡ w + u)) → x ≡ y
      in_front u y (inl h) (inl k) = omega arith
      in_front u y (inl h) (inr k) = omega arith
      in_front u y (inr h) (inl k) = omega arith
      in_front u y (inr h) (inr k) = omega arith

      in_rear : (y : ℕ) → Rear w x y → w ≤ x → x ≡ y
      in_rear y (inl h) k = omega arith
      in_rear y (inr h) k = omega arith

      go : Dec (x < w) → Dec (x < w + w) → G x x ⊑ weak_zero
      go (yes l) d = at_front x (omega arith) (in_front x (front w x) (fronted w x) (inl (l, refl)))
      go (no l) (yes k) = at_rear x k (in_rear (rear w x) (reared w x) (omega arith))
      go (no l) (no k) =
          at_front (x - w) (omega arith)
          (in_front (x - w) (front w (x - w)) (fronted w (x - w)) (inr (omega arith, omega arith)))

  -- and have the solutions of both.
  glued_is : (P : ℕ) (y : ℕ → ℕ) → 0 < P → Solves (w + w + w) P G y ↔ Halves w A B P y
  glued_is P y p = (out, into)
    where
      out : Solves (w + w + w) P G y → Halves w A B P y
      out s = (
        (λ u v hu hv. sat_mono P (y (front w u)) (y (front w v)) p (first_low u v hu hv)
            (s (front w u) (front w v) (low_front u hu) (low_front v hv))),
        λ u v hu hv. sat_mono P (y (rear w u)) (y (rear w v)) p (second_low u v hu hv)
            (s (rear w u) (rear w v) (low_rear u hu) (low_rear v hv)),
      )

      into : Halves w A B P y → Solves (w + w + w) P G y
      into s x t hx ht =
          glued_cases (λ e. Sat P (bound e) (y x) (y t)) x t hx ht (rw (bound_none NONE refl) (record { holds = tt }))
          (λ u v hu hv e f. rw (e, f) (s.0 u v hu hv)) (λ u v hu hv e f. rw (e, f) (s.1 u v hu hv))

  -- ---- Only the vertices between are left to pivot

  -- Each of the others is a vertex of one part alone: of A before,
  only_front : (c u y : ℕ) → Front w u y → c ≡ y → c < w → c ≡ u
  only_front c u y (inl h) e l = omega arith
  only_front c u y (inr h) e l = omega arith

  not_rear : (c u y : ℕ) → Rear w u y → c ≡ y → c < w → ⊥
  not_rear c u y (inl h) e l = omega arith
  not_rear c u y (inr h) e l = omega arith

  -- and of B after.
  only_rear : (c u y : ℕ) → Rear w u y → c ≡ y → w ≤ c → c < w + w → c ≡ u
  only_rear c u y (inl h) e l k = omega arith
  only_rear c u y (inr h) e l k = omega arith

  not_front : (c u y : ℕ) → Front w u y → c ≡ y → w ≤ c → c < w + w → ⊥
  not_front c u y (inl h) e l k = omega arith
  not_front c u y (inr h) e l k = omega arith

  module _ (c : ℕ) (hc : c < w + w) where
    module _ (x y : ℕ) (hx : x < w + w + w) (hy : y < w + w + w) where
      by_first : c < w → G x y ⊑ G x c ⊕ G c y
      by_first l =
          glued_cases (λ e. G x y ⊑ bound e ⊕ G c y) x c hx (omega arith) (under_none (G x y) (G c y)) left
          (λ u v hu hv e f. absurd (not_rear c v (rear w v) (reared w v) f l))
        where
          left : (u v : ℕ) → u < w + w → v < w + w → x ≡ front w u → c ≡ front w v → G x y ⊑ A u v ⊕ G c y
          left u v hu hv e f =
              glued_cases (λ d. G x y ⊑ A u v ⊕ bound d) c y (omega arith) hy (under_none_right (G x y) (A u v))
              (λ i j hi hj d k.
              let p : v ≡ i = sym (only_front c v (front w v) (fronted w v) f l) ∙
              only_front c i (front w i) (fronted w i) d l in
              rw (e, k, p) (⊑_trans (first_low u j hu hj) (jA.closed.tri u j i hu hj hi)))
              (λ i j hi hj d k. absurd (not_rear c i (rear w i) (reared w i) d l))

      by_second : w ≤ c → G x y ⊑ G x c ⊕ G c y
      by_second l =
          glued_cases (λ e. G x y ⊑ bound e ⊕ G c y) x c hx (omega arith) (under_none (G x y) (G c y))
          (λ u v hu hv e f. absurd (not_front c v (front w v) (fronted w v) f l hc)) right
        where
          right : (u v : ℕ) → u < w + w → v < w + w → x ≡ rear w u → c ≡ rear w v → G x y ⊑ B u v ⊕ G c y
          right u v hu hv e f =
              glued_cases (λ d. G x y ⊑ B u v ⊕ bound d) c y (omega arith) hy (under_none_right (G x y) (B u v))
              (λ i j hi hj d k. absurd (not_front c i (front w i) (fronted w i) d l hc))
              (λ i j hi hj d k.
              let p : v ≡ i = sym (only_rear c v (rear w v) (reared w v) f l hc) ∙
              only_rear c i (rear w i) (reared w i) d l hc in
              rw (e, k, p) (⊑_trans (second_low u j hu hj) (jB.closed.tri u j i hu hj hi)))

    diag : weak_zero ⊑ G c c
    diag =
        glued_cases (λ e. weak_zero ⊑ bound e) c c (omega arith) (omega arith)
        (rw (bound_none NONE refl) (record { le = tt }))
        (λ u v hu hv e f. go (dec_lt c w) u v hu hv e f) other
      where
        go : Dec (c < w) → (u v : ℕ) → u < w + w → v < w + w → c ≡ front w u → c ≡ front w v → weak_zero ⊑ A u v
        go (yes l) u v hu hv e f =
            let p : v ≡ u = sym (only_front c v (front w v) (fronted w v) f l) ∙
            only_front c u (front w u) (fronted w u) e l in
            rw p (jA.closed.diag u hu)
        go (no l) u v hu hv e f = absurd (not_front c u (front w u) (fronted w u) e (omega arith) hc)

        other : (u v : ℕ) → u < w + w → v < w + w → c ≡ rear w u → c ≡ rear w v → weak_zero ⊑ B u v
        other u v hu hv e f = at (dec_lt c w)
          where
            at : Dec (c < w) → weak_zero ⊑ B u v
            at (yes l) = absurd (not_rear c u (rear w u) (reared w u) e l)
            at (no l) =
                let p : v ≡ u = sym (only_rear c v (rear w v) (reared w v) f (omega arith) hc) ∙
                only_rear c u (rear w u) (reared w u) e (omega arith) hc in
                rw p (jB.closed.diag u hu)

    settled : Settled (w + w + w) G c
    settled = record { tri = λ x y hx hy. go x y hx hy (dec_lt c w); diag = diag }
      where
        go : (x y : ℕ) → x < w + w + w → y < w + w + w → Dec (c < w) → G x y ⊑ G x c ⊕ G c y
        go x y hx hy (yes l) = by_first x y hx hy l
        go x y hx hy (no l) = by_second x y hx hy (omega arith)

  others : OthersSettled (w + w + w) (w + w) (w + w + w) G
  others c hc q = ⊎_elim (settled c) (λ l. absurd (not_below_zero 0 (omega arith))) q

  -- So closing joins them.
  pub glued_joins : (z : List ℕ) (ok : Bool) → Closing (w + w + w) (w + w) g z ok → Joins w A B ok (matrix z)
  glued_joins z ok c = record {
    runs = λ e. canonical_for (Halves w A B) (closure_canonical (closing_closure c others e) glued_flat) glued_is;
    stuck = λ e P y p s. closing_fails c e (P, p, (y, (glued_is P y p).1 s));
  }
