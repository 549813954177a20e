-- Blocks that fit a frame go on to fit it where they are asked for templates that fit, and where roots over such are added.
use Rattle.std.specs.Prelude.{List, [], ◌∷◌}
use Rattle.op_forest.specs.declared.frame.Slot.{Slot}
use Rattle.op_forest.specs.declared.suffix.Suffix.{Suffix}
use Rattle.op_forest.specs.Nodes.{Head}
use Rattle.c_rows_agree.specs.Templates.{Template, Root}
use Rattle.dag_forest.specs.declared.entry.Entry.{Entry}
use Rattle.dag_seam.specs.Fitting.{FitsBlock}
use Rattle.lowered_forms.specs.Asked.{asked, rooted, rooted_one}
use Rattle.lowered_fit.specs.Fitted.{FitsHead, FitsTree, FitsRoot, standing, IsFound, GoesOn}

abbrev pub TemplatesAreFound : Type 0
TemplatesAreFound =
    (slots : List Slot) (es : List Entry) (t : Template) (s : Suffix)
    → FitsBlock slots es → FitsTree (standing slots es) t s → IsFound slots es s (asked t es)

abbrev pub RootsGoOn : Type 0
RootsGoOn =
    (slots : List Slot) (es : List Entry) (r : Root)
    → FitsBlock slots es → FitsRoot (standing slots es) r → GoesOn slots es (rooted r es)

-- a root with one operand
abbrev pub LoneRootsGoOn : Type 0
LoneRootsGoOn =
    (slots : List Slot) (es : List Entry) (h : Head) (t : Template) (s : Suffix)
    → FitsBlock slots es → FitsHead slots h (s ∷ []) → FitsTree (standing slots es) t s → GoesOn slots es (rooted_one h t es)
