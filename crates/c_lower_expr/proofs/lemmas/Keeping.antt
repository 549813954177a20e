-- What stays where an expression is lowered stays where its node is asked for behind it.
use Rattle.std.specs.Prelude.{ℕ, List, [], ◌∷◌}
use Rattle.std.proofs.Common.{arith}
use Rattle.c_meaning.specs.Values.{CoreTree}
use Rattle.dag_forest.specs.declared.entry.Entry.{Entry}
use Rattle.piece_runs.specs.Pieces.{Piece, OfBlock, Mark}
use Rattle.c_rows_agree.specs.Templates.{Template}
use Rattle.lowered_forms.specs.Asked.{asked}
use Rattle.lowered_forms.specs.Contexts.{Context}
use Rattle.lowered_forms.specs.Expressions.{low_e}
use Rattle.lowered_forms.specs.Handed.{handed, handed_as}
use Rattle.lowered_forms.specs.Later.{GoesOn, HoldsOpen, IsFront, IsLater}
use Rattle.lowered_forms.specs.Lows.{Low}
use Rattle.lowered_forms.specs.Straight.{roots_for}
use Rattle.lowered_forms.specs.Values.{Lowered}
use Rattle.lowered_forms.proofs.lemmas.Adding.{lowering_adds}
use Rattle.lowered_forms.proofs.lemmas.Fronts.{asked_adds, front_joins}
use Rattle.lowered_forms.proofs.lemmas.Going.{straight_goes_on}
use Rattle.lowered_forms.proofs.lemmas.HandedNodes.{expressions_are_nodes}
use Rattle.c_lower_expr.specs.Keeping.{NodeKeeps}

open_on : (es : List Entry) (ps : List Piece) (fs gs : List Entry) → HoldsOpen es ps fs → IsFront fs gs → HoldsOpen es ps gs
open_on es [] fs gs h f = front_joins es fs gs h f
open_on es (OfBlock before xs ∷ ps) fs gs h f = h
open_on es (Mark n ∷ ps) fs gs h f = h

handed_later : (l : Low) (r : Lowered) → IsLater l r.low → IsLater l (handed r).low
handed_later l r h =
    let t : Template = handed_as r.value.suffix r.value.tree in
    record {
      pieces = h.pieces;
      slots = h.slots;
      labels = h.labels;
      begins = open_on l.entries h.pieces.more r.low.entries (asked t r.low.entries).entries h.begins (asked_adds t r.low.entries).front;
    }

handed_goes_on : (n : ℕ) (l : Low) (r : Lowered) → GoesOn n l r.low → GoesOn n l (handed r).low
handed_goes_on n l r h =
    let t : Template = handed_as r.value.suffix r.value.tree in
    let adds = asked_adds t r.low.entries in
    record {
      pieces = h.pieces;
      labels = h.labels;
      entries = front_joins l.entries r.low.entries (asked t r.low.entries).entries h.entries adds.front;
      roots = (let e = h.roots in let f = adds.roots in omega (arith, e, f));
    }

pub node_keeps : (s : Context) (e : CoreTree) (l : Low) → NodeKeeps s e l
node_keeps s e l = record {
  later = handed_later l (low_e s e l) (lowering_adds s e l);
  goes_on = λ h. handed_goes_on (roots_for e) l (low_e s e l) (straight_goes_on s e h l);
  node = λ h. expressions_are_nodes s e l h;
}
