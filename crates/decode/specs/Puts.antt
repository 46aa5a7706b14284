-- What the records of an encoding fill in: the entries of its steps, in order.
use Rattle.std.specs.Prelude.{◌≡◌, refl, ℕ, ◌+◌, length}
use Rattle.std.proofs.Common.{ap, ◌∙◌, arith, length-append}
use mathlib.Core.List.{List, [], ◌∷◌, ◌++◌, append_assoc, Memᴰ}
use Rattle.table.specs.declared.Table.{Table}
use Rattle.wire.specs.Records.{records_from, records}
use Rattle.wire.specs.Listing.{Entry, guard, reset, Listing}
use Rattle.format.specs.Encode.{entry_bytes, step_bytes, steps_bytes, encode, LegalEntry, LegalSteps, Legal}
use Rattle.format.specs.Shapes.{guard_back}
use Rattle.filling.specs.Filling.{empty, put_head, put_guard, put_reset, put_step}
use Rattle.decode.specs.Fill.{put, filled}

-- an entry of the step that is under way
abbrev pub put_entry : Entry → Table → Table
put_entry (guard g) = put_guard g
put_entry (reset j) = put_reset j

unfoldable pub put_entries : List Entry → Table → Table
put_entries [] t = t
put_entries (e ∷ es) t = put_entries es (put_entry e t)

-- whole steps
unfoldable pub put_steps : List (List Entry) → Table → Table
put_steps [] t = t
put_steps (s ∷ ss) t = put_steps ss (put_step (put_entries s t))

-- a table by value, filled in from the bytes that begin at a place
abbrev filled_from : Table → ℕ → List ℕ → Table
filled_from t at bytes = filled t (records_from 0 at bytes)

-- the record of an entry, the records of a step, and those of all steps
filled_entry : (n : ℕ) (e : Entry) (t : Table) (at : ℕ) (rest : List ℕ) → LegalEntry n e
    → filled_from t at (entry_bytes e ++ rest) ≡ filled_from (put_entry e t) (at + length (entry_bytes e)) rest
unfolding records_from filled put
filled_entry n (guard g) t at rest legal =
    ap (λ g'. filled_from (put_guard g' t) (at + 1 + 1 + 1 + 1 + 1) rest) (guard_back g legal.3)
    ∙ ap (λ n. filled_from (put_guard g t) n rest) (omega arith)
filled_entry n (reset j) t at rest legal = ap (λ n. filled_from (put_reset j t) n rest) (omega arith)

filled_step : (n : ℕ) (s : List Entry) (t : Table) (at : ℕ) (rest : List ℕ) → ((e : Entry) → Memᴰ e s → LegalEntry n e)
    → filled_from t at (step_bytes s ++ rest) ≡ filled_from (put_step (put_entries s t)) (at + length (step_bytes s)) rest
unfolding records_from filled put put_entries step_bytes
filled_step n [] t at rest legal = refl
filled_step n (e ∷ es) t at rest legal =
    ap (filled_from t at) (append_assoc (entry_bytes e) (step_bytes es) rest)
    ∙ filled_entry n e t at (step_bytes es ++ rest) (legal e (Memᴰ.head refl))
    ∙ filled_step n es (put_entry e t) (at + length (entry_bytes e)) rest (λ f m. legal f (Memᴰ.tail m))
    ∙ ap (λ n. filled_from (put_step (put_entries es (put_entry e t))) n rest)
    (omega (arith, length-append (entry_bytes e) (step_bytes es)))

filled_steps : (n : ℕ) (ss : List (List Entry)) (t : Table) (at : ℕ) → LegalSteps n ss → filled_from t at (steps_bytes ss) ≡ put_steps ss t
unfolding records_from filled put put_steps steps_bytes
filled_steps n [] t at legal = refl
filled_steps n (s ∷ ss) t at legal =
    filled_step n s t at (steps_bytes ss) (legal s (Memᴰ.head refl)).entries
    ∙ filled_steps n ss (put_step (put_entries s t)) (at + length (step_bytes s)) (λ x m. legal x (Memᴰ.tail m))

-- the records of a legal table's encoding fill in its head and its steps
pub filled_written : (l : Listing) → Legal l → filled empty (records (encode l)) ≡ put_steps l.steps (put_head l.clocks empty)
unfolding records_from filled put encode
filled_written l legal = filled_steps l.clocks l.steps (put_head l.clocks empty) (0 + 1 + 1) legal.each
