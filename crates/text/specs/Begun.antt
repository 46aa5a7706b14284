-- A text that is written from the front, line by line.
use Rattle.std.specs.Prelude.{◌≡◌, refl, List, [], ◌++◌, ℕ, ◌≤◌, length}
use Rattle.std.proofs.Common.{sym, ◌∙◌, ap, append_assoc, append-nil, arith, length-append}
use Rattle.text.specs.Over.{Written, written_none, written_then, written_as}

-- `after` is `before` with a text at its front up to the place `end`, and `rest` is still to be written of it.
pub record Begun (before text rest after : List ℕ) (end : ℕ) : Type 0 where
  pub done : List ℕ
  pub written : Written before 0 done after end
  pub whole : done ++ rest ≡ text

pub begun_none : (l text : List ℕ) → Begun l text text l 0
begun_none l text = record { done = []; written = written_none l 0; whole = refl }

pub begun_more : {l m k text rest line next : List ℕ} {a r : ℕ} → rest ≡ line ++ next → Begun l text rest m a → Written m a line k r
    → Begun l text next k r
begun_more {line} {next} e b w = record {
  done = b.done ++ line;
  written = written_then b.written w;
  whole = append_assoc b.done line next ∙ ap (λ xs. b.done ++ xs) (sym e) ∙ b.whole;
}

pub begun_all : {l m text rest : List ℕ} {r : ℕ} → rest ≡ [] → Begun l text rest m r → Written l 0 text m r
begun_all {m} e b =
    written_as (sym (append-nil b.done) ∙ ap (λ xs. b.done ++ xs) (sym e) ∙ b.whole) b.written

-- what is written is no longer than the text
pub begun_fits : {l m text rest : List ℕ} {r : ℕ} → Begun l text rest m r → r ≤ length text
begun_fits {rest} b = omega (arith, b.written.place, length-append b.done rest, ap length b.whole)
