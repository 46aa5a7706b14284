-- What a table with stretches means: the table with every stretch written out.
use Rattle.std.specs.Prelude.{cond, List, [], ◌∷◌, ◌++◌, ℕ, eqb}
use Rattle.wire.specs.Records.{Record, records}
use Rattle.wire.specs.Reading.{byte}
use Rattle.wire.specs.Listing.{Entry, Listing, head, entry, finish, close, content_of, clocks_in}
use Rattle.stretches.specs.Tree.{copies}

-- a stretch that is open: how often it comes, and the steps before it in the one around it
pub record Level : Type 0 where
  pub times : ℕ
  pub steps : List (List Entry)

-- after its close: the steps, with its own written out; and the stretches that are still open
abbrev pub close_out : List (List Entry) → List Level → List (List Entry)
close_out done [] = done
close_out done (l ∷ around) = l.steps ++ copies l.times done

abbrev pub outward : List Level → List Level
outward [] = []
outward (l ∷ around) = around

-- the steps that records finish, of which one has begun with some entries, after those that are done in the innermost open stretch
unfoldable pub steps_out : List Entry → List (List Entry) → List Level → List Record → List (List Entry)
steps_out begun done around [] = done
steps_out begun done around (r ∷ rs) =
    cond (eqb r.kind 7) (steps_out [] [] (record { times = byte r 0; steps = done } ∷ around) rs)
    (cond (eqb r.kind 8) (steps_out [] (close_out done around) (outward around) rs)
    (elim (content_of r) [
      | head n ↦ steps_out begun done around rs
      | entry e ↦ steps_out (begun ++ (e ∷ [])) done around rs
      | finish ↦ steps_out [] (done ++ (begun ∷ [])) around rs
      | close ↦ done
    ]))

-- the table that bytes mean, if they are accepted
unfoldable pub written_out : List ℕ → Listing
written_out bytes = record { clocks = clocks_in (records bytes); steps = steps_out [] [] [] (records bytes) }
