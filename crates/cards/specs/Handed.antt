-- A draft that is handed over: its front is the text that was written there.
use Rattle.std.specs.Prelude.{◌≡◌, List, ℕ, ◌≤◌, length, take, drop}
use Rattle.std.proofs.Common.{◌∙◌, ap}
use Rattle.std.proofs.Math.Seq.{take-append_seam}
use Rattle.text.specs.Over.{Written, written_front}
use Rattle.cards.specs.declared.Converted.{Converted}
use Rattle.cards.specs.Convert.{handed, room_after}

-- the answer for so many bytes of a text and a room, and the room after it
abbrev pub Handed : ℕ → List ℕ → List ℕ → List ℕ → Converted → Type 0
Handed n text room after a = (a ≡ handed n (length room)) × (after ≡ room_after a text room)

-- the front of a draft is the text that was written there
pub draft_handed : (n : ℕ) (text room after : List ℕ) (a : Converted) {l m : List ℕ} → Written l 0 text m n → n ≤ length l
    → Handed n (take n m) room after a → Handed (length text) text room after a
draft_handed n text room after a {l} {m} w fits h =
    (h.0 ∙ ap (λ k. handed k (length room)) size, h.1 ∙ ap (λ s. room_after a s room) front)
  where
    size : n ≡ length text
    size = (written_front w fits).0

    front : take n m ≡ text
    front = (λ i. take (size i) ((written_front w fits).1 i)) ∙ take-append_seam text (drop n l)
