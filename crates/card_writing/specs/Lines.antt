-- The line of a record, by its bytes.
use Rattle.std.specs.Prelude.{◌≡◌, List, [], ◌∷◌, ◌++◌, ℕ, ◌+◌, ◌*◌, ◌≤◌, ◌<◌, length, get_or, drop}
use Rattle.std.proofs.Common.{sym, ◌∙◌, append_assoc, arith, lit<, ne_eqb}
use Rattle.std.proofs.Math.Path.{ap}
use Rattle.text.specs.Decimal.{decimal}
use Rattle.lines.specs.Line.{newline, line1}
use Rattle.records.specs.Rules.{body_size, relation_of}
use Rattle.wire.specs.Records.{Record, record_at, records_at, records_none, records_next}
use Rattle.wire.specs.Laws.{byte_is, guard_in_lem}
use Rattle.wire.specs.Listing.{guard, head, entry, reset, content_of}
use Rattle.cards.specs.Words.{timers_word, zero_word, step_word, end_word, over_sign}
use Rattle.cards.specs.Convert.{numeral, sign_of, line_text, text_of}
use Rattle.cards.specs.Numbers.{decimal_numeral}

-- the line of a record, with its line feed
abbrev pub line_of : Record → List ℕ
line_of r = line_text (content_of r) ++ newline

-- the sign of a relation's number, after a blank
abbrev pub sign_word : ℕ → List ℕ
sign_word x = 32 ∷ sign_of (relation_of x)

pub sign_over : (x : ℕ) → (x ≡ 0 → ⊥) → (x ≡ 1 → ⊥) → (x ≡ 2 → ⊥) → (x ≡ 3 → ⊥) → 32 ∷ over_sign ≡ sign_word x
sign_over x n₀ n₁ n₂ n₃ = simp (ne_eqb x 0 n₀, ne_eqb x 1 n₁, ne_eqb x 2 n₂, ne_eqb x 3 n₃)

-- a clock, the sign of a relation and a constant, as they are written
abbrev pub bound_line : ℕ → ℕ → ℕ → List ℕ
bound_line clock relation constant = decimal clock ++ sign_word relation ++ line1 (32 ∷ []) constant

few : (x : ℕ) → x < 65536 → decimal x ≡ numeral x
few x h = decimal_numeral x (omega arith)

text_first : (r : Record) (rs : List Record) → text_of (r ∷ rs) ≡ line_of r ++ text_of rs
unfolding text_of
text_first r rs = sym (append_assoc (line_text (content_of r)) newline (text_of rs))

-- the record of each kind at a place, by its bytes
module _ (bytes : List ℕ) (at : ℕ) where
  abbrev pub line_at : ℕ → List ℕ
  line_at k = line_of (record_at at k (drop (at + 1) bytes))

  pub head_line : (k x : ℕ) → k ≡ 1 → x ≡ get_or bytes (at + 1) 0 → x < 256 → line1 (timers_word ++ 32 ∷ []) x ≡ line_at k
  head_line k x e b h =
      ap (λ (ds : List ℕ). timers_word ++ 32 ∷ ds ++ newline) (few x (omega arith))
      ∙ ap (λ (n : ℕ). line_text (head n) ++ newline) (b ∙ byte_is bytes at 1 0 (lit< tt) (at + 1) (omega arith)) ∙ ap line_at (sym e)

  pub reset_line : (k x : ℕ) → k ≡ 3 → x ≡ get_or bytes (at + 1) 0 → x < 256 → line1 (zero_word ++ 32 ∷ []) x ≡ line_at k
  reset_line k x e b h =
      ap (λ (ds : List ℕ). zero_word ++ 32 ∷ ds ++ newline) (few x (omega arith))
      ∙ ap (λ (n : ℕ). line_text (entry (reset n)) ++ newline) (b ∙ byte_is bytes at 3 0 (lit< tt) (at + 1) (omega arith)) ∙ ap line_at (sym e)

  pub step_line : (k : ℕ) → k ≡ 4 → step_word ++ newline ≡ line_at k
  step_line k e = ap line_at (sym e)

  pub end_line : (k : ℕ) → (k ≡ 1 → ⊥) → (k ≡ 2 → ⊥) → (k ≡ 3 → ⊥) → (k ≡ 4 → ⊥) → end_word ++ newline ≡ line_at k
  end_line k n₁ n₂ n₃ n₄ = simp (ne_eqb k 1 n₁, ne_eqb k 2 n₂, ne_eqb k 3 n₃, ne_eqb k 4 n₄)

  pub guard_line : (clock relation low high : ℕ) → clock ≡ get_or bytes (at + 1) 0 → relation ≡ get_or bytes (at + 2) 0
      → low ≡ get_or bytes (at + 3) 0 → high ≡ get_or bytes (at + 4) 0 → clock < 256 → low < 256 → high < 256
      → bound_line clock relation (low + high * 256) ≡ line_at 2
  guard_line clock relation low high e₁ e₂ e₃ e₄ h₁ h₃ h₄ =
      (λ i. few clock (omega arith) i ++ sign_word relation ++ (32 ∷ few (low + high * 256) (omega arith) i ++ newline))
      ∙ sym (append_assoc (numeral clock ++ sign_word relation) (32 ∷ numeral (low + high * 256)) newline)
      ∙ ap (λ g. line_text (entry (guard g)) ++ newline) (guard_in_lem bytes at clock relation low high e₁ e₂ e₃ e₄)

  -- the text of the records from a place on begins with the line of the first
  pub text_next : (next : ℕ) → next ≡ at + 1 + body_size (get_or bytes at 0) → at < length bytes
      → text_of (records_at bytes at) ≡ line_at (get_or bytes at 0) ++ text_of (records_at bytes next)
  text_next next e h =
      ap text_of (records_next bytes at h) ∙ text_first _ _
      ∙ ap (λ n. line_at (get_or bytes at 0) ++ text_of (records_at bytes n)) (sym e)

  pub text_none : length bytes ≤ at → text_of (records_at bytes at) ≡ []
  unfolding text_of
  text_none h = ap text_of (records_none bytes at h)
