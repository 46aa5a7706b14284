-- Two effects as one matrix, with the vertices before first, those after next, and those between last.
use Rattle.std.specs.Prelude.{◌≡◌, refl, ◌⊎◌, List, ℕ, ◌+◌, ◌*◌, ◌≤◌, ◌<◌, length}
use Rattle.std.proofs.Common.{subst, sym, inl, inr, arith}
use Rattle.zones.specs.Codes.{NONE}
use Rattle.zones.specs.Cells.{cell, Clear}
use Rattle.effects.specs.WholeJoin.{Front, Rear, front, rear, fronted, reared}
use Rattle.gluing.specs.Laying.{code, lay_of, Comes, lay_length, lay_low, lay_at, lay_cases}

-- The code e comes from the effect of the row m at a, whose vertices f leads to x and y.
pub record Part (w a : ℕ) (f : ℕ → ℕ) (m : List ℕ) (x y e : ℕ) : Type 0 where
  pub u : ℕ
  pub v : ℕ
  pub u_low : u < w + w
  pub v_low : v < w + w
  pub x_is : x ≡ f u
  pub y_is : y ≡ f v
  pub is : e ≡ code m a u v

-- No bound, or a code of one of two effects.
abbrev ComesTo : (w a b : ℕ) (m : List ℕ) (x y e : ℕ) → Type 0
ComesTo w a b m x y e = (e ≡ NONE) ⊎ (Part w a (front w) m x y e ⊎ Part w b (rear w) m x y e)

-- The effects of the row m at a and at b are glued in z: each cell is no looser than what comes to it, and is none or what
-- comes to it.
pub record Glued (w a b : ℕ) (m z : List ℕ) : Type 0 where
  pub full : length z ≡ 441
  pub first : (u v : ℕ) → u < w + w → v < w + w → cell z (front w u) (front w v) ≤ code m a u v
  pub second : (u v : ℕ) → u < w + w → v < w + w → cell z (rear w u) (rear w v) ≤ code m b u v
  pub comes : (x y : ℕ) → x < w + w + w → y < w + w + w
      → (cell z x y ≡ NONE) ⊎ (Part w a (front w) m x y (cell z x y) ⊎ Part w b (rear w) m x y (cell z x y))

module _ (w : ℕ) where
  comes_front : (u : ℕ) → u < w + w → Comes w 0 (w * 2) u (front w u)
  comes_front u h = go (front w u) (fronted w u)
    where
      go : (x : ℕ) → Front w u x → Comes w 0 (w * 2) u x
      go x (inl k) = inl (omega arith, omega arith)
      go x (inr k) = inr (omega arith, omega arith, omega arith)

  front_comes : (u x : ℕ) → Comes w 0 (w * 2) u x → (u < w + w) × (x ≡ front w u)
  front_comes u x c = go (front w u) (fronted w u) c
    where
      go : (y : ℕ) → Front w u y → Comes w 0 (w * 2) u x → (u < w + w) × (x ≡ y)
      go y (inl k) (inl h) = (omega arith, omega arith)
      go y (inl k) (inr h) = (omega arith, omega arith)
      go y (inr k) (inl h) = (omega arith, omega arith)
      go y (inr k) (inr h) = (omega arith, omega arith)

  comes_rear : (u : ℕ) → u < w + w → Comes w (w * 2) w u (rear w u)
  comes_rear u h = go (rear w u) (reared w u)
    where
      go : (x : ℕ) → Rear w u x → Comes w (w * 2) w u x
      go x (inl k) = inl (omega arith, omega arith)
      go x (inr k) = inr (omega arith, omega arith, omega arith)

  rear_comes : (u x : ℕ) → Comes w (w * 2) w u x → (u < w + w) × (x ≡ rear w u)
  rear_comes u x c = go (rear w u) (reared w u) c
    where
      go : (y : ℕ) → Rear w u y → Comes w (w * 2) w u x → (u < w + w) × (x ≡ y)
      go y (inl k) (inl h) = (omega arith, omega arith)
      go y (inl k) (inr h) = (omega arith, omega arith)
      go y (inr k) (inl h) = (omega arith, omega arith)
      go y (inr k) (inr h) = (omega arith, omega arith)

-- Laid one after the other over cells that are clear.
pub glue_is : (w a b : ℕ) (m l y z : List ℕ) → w ≤ 7 → Clear (w * 3 * 21) l → y ≡ lay_of w a 0 (w * 2) m l
    → z ≡ lay_of w b (w * 2) w m y → Glued w a b m z
glue_is w a b m l y z side clear ey ez = subst (λ q. Glued w a b m q) (sym ez) (record {
  full = lay_length w b (w * 2) w m y full (omega arith) (omega arith);
  first = λ u v hu hv. omega (
    arith,
    lay_low w b (w * 2) w m y full (omega arith) (omega arith) (front w u * 21 + front w v),
    front_at u v hu hv,
  );
  second = λ u v hu hv.
      lay_at w b (w * 2) w m y full (omega arith) (omega arith) u v (rear w u) (rear w v) (comes_rear w u hu)
      (comes_rear w v hv);
  comes = comes;
})
  where
    full : length y ≡ 441
    full = subst (λ q. length q ≡ 441) (sym ey) (lay_length w a 0 (w * 2) m l clear.full (omega arith) (omega arith))

    front_at : (u v : ℕ) → u < w + w → v < w + w → cell y (front w u) (front w v) ≤ code m a u v
    front_at u v hu hv =
        subst (λ q. cell q (front w u) (front w v) ≤ code m a u v) (sym ey)
        (lay_at w a 0 (w * 2) m l clear.full (omega arith) (omega arith) u v (front w u) (front w v) (comes_front w u hu)
        (comes_front w v hv))

    comes : (x t : ℕ) → x < w + w + w → t < w + w + w → ComesTo w a b m x t (cell (lay_of w b (w * 2) w m y) x t)
    comes x t hx ht =
        lay_cases w b (w * 2) w m y full (omega arith) (omega arith) (ComesTo w a b m x t) x t (omega arith) (omega arith)
        before (λ u v c d. inr (inr (part (rear_comes w u x c) (rear_comes w v t d))))
      where
        part : {f : ℕ → ℕ} {c u v : ℕ} → (u < w + w) × (x ≡ f u) → (v < w + w) × (t ≡ f v) → Part w c f m x t (code m c u v)
        part {f} {c} {u} {v} h k =
            record { u = u; v = v; u_low = h.0; v_low = k.0; x_is = h.1; y_is = k.1; is = refl }

        before : ComesTo w a b m x t (cell y x t)
        before =
            subst (λ k. ComesTo w a b m x t (cell k x t)) (sym ey)
            (lay_cases w a 0 (w * 2) m l clear.full (omega arith) (omega arith) (ComesTo w a b m x t) x t (omega arith)
            (omega arith) (inl (clear.none (x * 21 + t) (omega arith)))
            (λ u v c d. inr (inl (part (front_comes w u x c) (front_comes w v t d)))))
