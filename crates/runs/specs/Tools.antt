-- What holds of every member of a list.
use Rattle.std.specs.Prelude.{◌≡◌, refl, ◌⊎◌, ◌↔◌}
use Rattle.std.proofs.Common.{inl, inr, ⊎_elim}
use mathlib.Core.List.Memᴰ
use mathlib.Core.List.{List, [], ◌∷◌, ◌++◌, map, Memᴰ}

abbrev pub Every : {A : Type 0} → (A → Type 0) → List A → Type 0
Every {A} Q l = (a : A) → Memᴰ a l → Q a

pub every_nil : {A : Type 0} (Q : A → Type 0) → Every Q []
every_nil Q a m = absurd (Memᴰ.not-nil m)

pub every_cons : {A : Type 0} (Q : A → Type 0) (c : A) (l : List A) → Every Q (c ∷ l) ↔ (Q c × Every Q l)
every_cons {A} Q c l = (
  (λ h. (h c (Memᴰ.head refl), λ a m. h a (Memᴰ.tail m))),
  λ h a m. back h a (Memᴰ.cases_cons m),
)
  where
    back : Q c × Every Q l → (a : A) → (a ≡ c) ⊎ Memᴰ a l → Q a
    back h a (inl p) = rw p h.0
    back h a (inr m) = h.1 a m

pub every_append : {A : Type 0} (Q : A → Type 0) (l k : List A) → Every Q (l ++ k) ↔ (Every Q l × Every Q k)
every_append Q l k = (
  (λ h. ((λ a m. h a (Memᴰ.append_left k m)), λ a m. h a (Memᴰ.append_right l m))),
  λ h a m. ⊎_elim (h.0 a) (h.1 a) (Memᴰ.append_cases l m),
)

pub every_map : {A B : Type 0} (Q : B → Type 0) (f : A → B) (l : List A) → Every Q (map f l) ↔ Every (λ a. Q (f a)) l
every_map {A} {B} Q f l = ((λ h a m. h (f a) (Memᴰ.map f m)), λ h b m. back h b (Memᴰ.of_map f l m))
  where
    back : Every (λ a. Q (f a)) l → (b : B) → (a : A) × Memᴰ a l × (f a ≡ b) → Q b
    back h b m = rw (← m.2) (h m.0 m.1)
