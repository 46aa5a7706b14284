-- What is found at a place of a card is its first line there (`front`).
use Rattle.std.specs.Prelude.{◌≡◌, refl, List, [], ◌∷◌, ◌++◌, ℕ, ◌+◌, ◌≤◌, ◌<◌, length, drop}
use Rattle.std.proofs.Common.{sym, ◌∙◌, ap, append_assoc, arith, length-drop, length-append}
use Rattle.std.proofs.Math.Option.{none, some}
use Rattle.wire.specs.Listing.{guard, reset, Content, head, entry, finish, close}
use Rattle.cards.specs.Card.{Line, lines_at}
use Rattle.cards.specs.Convert.{line_text}
use Rattle.cards.specs.LineByLine.{lines_text, lines_wrong}
use Rattle.card_lines.specs.declared.Found.{Found}
pub use Rattle.card_lines.specs.Front.{wrong_found, line_at}
use Rattle.card_lines.specs.Standing.{stands_within}
pub use Rattle.card_lines.specs.Told.{found_of}
use Rattle.card_lines.specs.Told.{Tells, nothing, a_line, told}
use Rattle.card_lines.specs.Heard.{heard}

-- a line that is found, or a wrong one
pub data Fronts (text : List ℕ) (at : ℕ) : Found → Type 0 where
  is_wrong : (ls : List Line) → lines_at at (drop at text) ≡ record { place = at; content = none } ∷ ls → Fronts text at wrong_found
  is_line : (c : Content) (next : ℕ) → lines_at at (drop at text) ≡ record { place = at; content = some c } ∷ lines_at next (drop next text)
      → at < next → next ≤ length text → Fronts text at (found_of c next)

-- every content has a kind
kind_some : (c : Content) → 0 ≡ (found_of c 0).kind → ⊥
kind_some (head n) e = omega arith
kind_some (entry (guard g)) e = omega arith
kind_some (entry (reset j)) e = omega arith
kind_some finish e = omega arith
kind_some close e = omega arith

pub front : (text : List ℕ) (at : ℕ) → at < length text → Fronts text at (line_at text at)
front text at inside = go (line_at text at) refl (told text at)
  where
    more : drop at text ≡ [] → ⊥
    more e = omega (arith, ap length e, length-drop at text)

    go : (f : Found) → line_at text at ≡ f → Tells text at f → Fronts text at f
    go _ e nothing =
        let w = lines_wrong at (drop at text) more (λ c rest is. kind_some c (ap (λ f. f.kind) (sym e) ∙ heard text at c rest is)) in
        is_wrong w.0 w.1
    go _ e (a_line c next plain there) =
        is_line c next
        (ap (lines_at at) begins ∙ lines_text at c (drop next text) plain
        ∙ ap (λ n. record { place = at; content = some c } ∷ lines_at n (drop next text)) (sym size))
        (omega (arith, size))
        (stands_within (omega arith) there)
      where
        begins : drop at text ≡ line_text c ++ 10 ∷ drop next text
        begins = there.rest ∙ append_assoc (line_text c) (10 ∷ []) (drop next text)

        size : next ≡ at + length (line_text c) + 1
        size = omega (arith, there.place, length-append (line_text c) (10 ∷ []))
