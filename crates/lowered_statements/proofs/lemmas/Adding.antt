-- The lowering of statements adds to a body.
use Rattle.std.specs.Prelude.{◌≡◌, ◌≤◌, ℕ, List, [], ◌∷◌, ◌++◌}
use Rattle.std.proofs.Common.{refl, ◌∙◌, arith, append_assoc}
use Rattle.lcc_base.specs.declared.order.Order.{Order}
use Rattle.c_meaning.specs.Units.{FunctionTree, UnitTree}
use Rattle.dag_forest.specs.declared.entry.Entry.{Entry}
use Rattle.piece_runs.specs.Pieces.{Piece, OfBlock, Mark}
use Rattle.lowered_forms.specs.Later.{IsFront, HoldsOpen, IsLater}
use Rattle.lowered_forms.specs.Lows.{Low, with_entries, with_label, with_slot, ended, marked}
use Rattle.lowered_forms.proofs.lemmas.Fronts.{itself_is, join_is, front_itself, front_joins, front_before, asked_adds, rooted_adds, rooted_one_adds}
use Rattle.lowered_statements.specs.Bodies.{Body, with_low}
use Rattle.lowered_statements.specs.FunctionBodies.{function_in, begun, low_f}
use Rattle.lowered_statements.specs.Functions.{Function, Exits}
use Rattle.lowered_statements.specs.Later.{GoesOn}
use Rattle.lowered_statements.specs.Layouts.{layout}
use Rattle.lowered_statements.specs.Statements.{StmtTree, low_s}
use Rattle.lowered_statements.specs.Steps.{BodyRelation, BodySteps}
use Rattle.lowered_statements.proofs.lemmas.Induction.{statement_steps, function_steps}

-- ---- what is lowered

open_joins : (es fs gs : List Entry) (ps qs : List Piece) → HoldsOpen es ps fs → HoldsOpen fs qs gs → HoldsOpen es (ps ++ qs) gs
open_joins es fs gs [] [] x y = front_joins es fs gs x y
open_joins es fs gs [] (OfBlock before hs ∷ qs) x y = front_joins es fs hs x y
open_joins es fs gs [] (Mark n ∷ qs) x y = y
open_joins es fs gs (OfBlock before hs ∷ ps) qs x y = x
open_joins es fs gs (Mark n ∷ ps) qs x y = x

pub later_joins : (a b c : Low) → IsLater a b → IsLater b c → IsLater a c
later_joins a b c x y = record {
  pieces = record { more = x.pieces.more ++ y.pieces.more; is = join_is a.pieces b.pieces c.pieces x.pieces.more y.pieces.more x.pieces.is y.pieces.is };
  slots = front_joins a.slots b.slots c.slots x.slots y.slots;
  labels = (let e = x.labels in let f = y.labels in omega (arith, e, f));
  begins = open_joins a.entries b.entries c.entries x.pieces.more y.pieces.more x.begins y.begins;
}

-- in the open block
same_pieces : (a b : Low) → b.pieces ≡ a.pieces → IsFront a.slots b.slots → a.labels ≤ b.labels → IsFront a.entries b.entries → IsLater a b
same_pieces a b p s h f = record { pieces = record { more = []; is = p ∙ itself_is a.pieces }; slots = s; labels = h; begins = f }

more_entries : (l : Low) (es : List Entry) → IsFront l.entries es → IsLater l (with_entries es l)
more_entries l es h = same_pieces l (with_entries es l) refl (front_itself l.slots) (omega arith) h

ended_later : (l : Low) → IsLater l (ended l)
ended_later l = record {
  pieces = record { more = OfBlock l.slots l.entries ∷ []; is = refl };
  slots = front_before l.slots _;
  labels = omega arith;
  begins = front_itself l.entries;
}

marked_later : (n : ℕ) (l : Low) → IsLater l (marked n l)
marked_later n l = record {
  pieces = record { more = OfBlock l.slots l.entries ∷ Mark n ∷ []; is = append_assoc l.pieces (OfBlock l.slots l.entries ∷ []) (Mark n ∷ []) };
  slots = front_before l.slots _;
  labels = omega arith;
  begins = front_itself l.entries;
}

-- ---- bodies

abbrev pub goes_on : BodyRelation
goes_on a b = GoesOn a b

-- no table is made
no_table : (b : Body) (l : Low) → IsLater b.low l → GoesOn b (with_low l b)
no_table b l h = record { low = h; tables = front_itself b.tables }

same_low : (l : Low) → IsLater l l
same_low l = same_pieces l l refl (front_itself l.slots) (omega arith) (front_itself l.entries)

pub adding_steps : BodySteps goes_on
adding_steps = record {
  same = λ b. no_table b b.low (same_low b.low);
  joins = λ a b c x y. record { low = later_joins a.low b.low c.low x.low y.low; tables = front_joins a.tables b.tables c.tables x.tables y.tables };
  asks = λ t b. no_table b _ (more_entries b.low _ (asked_adds t b.low.entries).front);
  acts = λ r b. no_table b _ (more_entries b.low _ (rooted_adds r b.low.entries).front);
  acts_one = λ h t b. no_table b _ (more_entries b.low _ (rooted_one_adds h t b.low.entries).front);
  returns = λ b. no_table b _ (more_entries b.low _ (front_before b.low.entries _));
  slot = λ b. no_table b _ (same_pieces b.low (with_slot b.low) refl (front_before b.low.slots _) (omega arith) (front_itself b.low.entries));
  ends = λ b. no_table b _ (ended_later b.low);
  marks = λ n b. no_table b _ (marked_later n b.low);
  label = λ b. no_table b _ (same_pieces b.low (with_label b.low) refl (front_itself b.low.slots) (omega arith) (front_itself b.low.entries));
  table = λ labels b. record { low = same_low b.low; tables = front_before b.tables (labels ∷ []) };
}

pub statements_add : (f : Function) (y : Exits) (t : StmtTree) (b : Body) → GoesOn b (low_s f y t b)
statements_add f y t b = statement_steps goes_on adding_steps f y t b

pub functions_add : (u : UnitTree) (order : Order) (n m : ℕ) (f : FunctionTree) → GoesOn (begun (function_in u order n m f) (layout u.tags f)) (low_f u order n m f)
functions_add u order n m f = function_steps goes_on adding_steps u order n m f
