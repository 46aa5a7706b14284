-- The pieces of a text between the places of a byte.
use Rattle.std.specs.Prelude.{◌≡◌, refl, Bool, true, false, cond, ◌⊎◌, ℕ, eqb}
use Rattle.std.proofs.Common.{sym, ◌∙◌, ap, inl, inr, ⊎_elim, eqb-true, eq-eqb, ne_eqb}
use mathlib.Core.List.Memᴰ
use mathlib.Core.List.{List, [], ◌∷◌, ◌++◌, Memᴰ}
use Rattle.std.proofs.lemmas.Bool.{eqb-false}
use Rattle.cards.specs.Words.{onto, pieces}

-- a byte that a text does not have
abbrev pub Free : ℕ → List ℕ → Type 0
Free b s = (d : ℕ) → Memᴰ d s → d ≡ b → ⊥

pub free_append : (b : ℕ) (s t : List ℕ) → Free b s → Free b t → Free b (s ++ t)
free_append b s t left right d in-it = ⊎_elim (left d) (right d) (Memᴰ.append_cases s in-it)

pub free_cons : (b c : ℕ) (s : List ℕ) → (c ≡ b → ⊥) → Free b s → Free b (c ∷ s)
free_cons b c s other free d in-it e = ⊎_elim (λ is. other (sym is ∙ e)) (λ later. free d later e) (Memᴰ.cases_cons in-it)

-- A text up to the byte is the first piece, and one without it is the only piece.
pub pieces_next : (b : ℕ) (w rest : List ℕ) → Free b w → pieces b (w ++ b ∷ rest) ≡ w ∷ pieces b rest
unfolding pieces onto
pieces_next b [] rest free = simp (eq-eqb b b refl)
pieces_next b (c ∷ w) rest free =
    simp (ne_eqb c b (free c (Memᴰ.head refl)), pieces_next b w rest (λ d in-it. free d (Memᴰ.tail in-it)))

pub pieces_last : (b : ℕ) (w : List ℕ) → Free b w → pieces b w ≡ w ∷ []
unfolding pieces onto
pieces_last b [] free = refl
pieces_last b (c ∷ w) free =
    simp (ne_eqb c b (free c (Memᴰ.head refl)), pieces_last b w (λ d in-it. free d (Memᴰ.tail in-it)))

-- Which of the two a text is.
abbrev pub First : ℕ → List ℕ → Type 0
First b s = (w : List ℕ) × (rest : List ℕ) × Free b w × (s ≡ w ++ b ∷ rest)

pub parted : (b : ℕ) (s : List ℕ) → Free b s ⊎ First b s
parted b [] = inl (λ d in-it e. Memᴰ.not-nil in-it)
parted b (c ∷ cs) = go (eqb c b) refl (parted b cs)
  where
    go : (t : Bool) → eqb c b ≡ t → Free b cs ⊎ First b cs → Free b (c ∷ cs) ⊎ First b (c ∷ cs)
    go true e below = inr ([], cs, (λ d in-it is. Memᴰ.not-nil in-it), ap (λ (d : ℕ). d ∷ cs) (eqb-true c b e))
    go false e (inl free) = inl (free_cons b c cs (eqb-false c b e) free)
    go false e (inr (w, rest, free, is)) =
        inr (c ∷ w, rest, free_cons b c w (eqb-false c b e) free, ap (λ (l : List ℕ). c ∷ l) is)

-- there is a piece
pub pieces_some : (b : ℕ) (s : List ℕ) → (p : List ℕ) × (ps : List (List ℕ)) × (pieces b s ≡ p ∷ ps)
pieces_some b s = ⊎_elim
    (λ free. (s, [], pieces_last b s free))
    (λ first. (first.0, pieces b first.1, ap (pieces b) first.3 ∙ pieces_next b first.0 first.1 first.2))
    (parted b s)

-- Pieces with the byte between them are the text again.
unfoldable pub joined : ℕ → List (List ℕ) → List ℕ
joined b [] = []
joined b (p ∷ []) = p
joined b (p ∷ q ∷ ps) = p ++ b ∷ joined b (q ∷ ps)

joined_onto : (b c : ℕ) (ps : List (List ℕ)) → joined b (onto c ps) ≡ c ∷ joined b ps
unfolding joined onto
joined_onto b c [] = refl
joined_onto b c (p ∷ []) = refl
joined_onto b c (p ∷ q ∷ ps) = refl

joined_cons : (b : ℕ) (p s : List ℕ) → joined b (p ∷ pieces b s) ≡ p ++ b ∷ joined b (pieces b s)
unfolding joined
joined_cons b p s = let h = pieces_some b s in rw h.2 refl

pub joined_pieces : (b : ℕ) (s : List ℕ) → joined b (pieces b s) ≡ s
unfolding pieces joined
joined_pieces b [] = refl
joined_pieces b (c ∷ cs) = go (eqb c b) refl (joined_pieces b cs)
  where
    go : (t : Bool) → eqb c b ≡ t → joined b (pieces b cs) ≡ cs → joined b (cond t ([] ∷ pieces b cs) (onto c (pieces b cs))) ≡ c ∷ cs
    go true e below = joined_cons b [] cs ∙ ap (λ (l : List ℕ). b ∷ l) below ∙ ap (λ (d : ℕ). d ∷ cs) (sym (eqb-true c b e))
    go false e below = joined_onto b c (pieces b cs) ∙ ap (λ (l : List ℕ). c ∷ l) below
