-- The fields are written one after the other, and then the end of the line.
use Rattle.std.proofs.Common.{◌≡◌, ◌+◌, ◌<◌, ◌++◌, ℕ, List, [], ◌∷◌, length, take, refl, sym, ap, ◌∙◌, arith, get_or, append_assoc, take_all}
use Rattle.std.specs.List.{flat_map}
use Rattle.std.proofs.lemmas.List.{take_more, flat_map_more}
use Rattle.std.proofs.lemmas.Grind.{common_steps}
use Rattle.text.specs.Over.{Written, written_none, written_then, written_as}
use Rattle.lines.specs.Line.{Field, field_of, line_of, newline}
use Rattle.lines.proofs.put_line.Goals as goal

-- one field more
more : {l m k : List ℕ} {at a r : ℕ} (fs : List Field) (i : ℕ) (d : Field) → i < length fs
    → Written l at (flat_map field_of (take i fs)) m a → Written m a (field_of (get_or fs i d)) k r
    → Written l at (flat_map field_of (take (i + 1) fs)) k r
more fs i d h w x =
    written_as (flat_map_more field_of [] (take i fs) (get_or fs i d) ∙ ap (flat_map field_of) (sym (take_more fs i d h)))
    (written_then w x)

all : (fs : List Field) → flat_map field_of fs ++ newline ≡ line_of fs
all [] = refl
all (f ∷ fs) = append_assoc (field_of f) (flat_map field_of fs) newline ∙ ap (λ l. field_of f ++ l) (all fs)

pub loop-word-init : goal.loop-word-init
loop-word-init c = (written_none _ _, omega arith)

pub loop-word-preserved : goal.loop-word-preserved
loop-word-preserved c =
    (more _ _ _ c.loop-word-test.true c.loop-word.invariant.0 c.put_field-next.ensures.written, grind (arith, common_steps))

pub returns-clause-written : goal.returns-clause-written
returns-clause-written c =
    let fs = c.args.fields.now in
    written_as (ap (λ done. flat_map field_of done ++ newline) (take_all c.loop-word.word-index fs c.loop-word-test.false) ∙ all fs)
    (written_then c.loop-word.invariant.0 c.put_word.ensures)
