-- What open blocks come to be, and which tables are the unit's, before statements; and that the locals have slots behind them.
use Rattle.std.specs.Prelude.{◌≤◌, ℕ, Bool, Option, None, List, length, slice_get}
use Rattle.std.proofs.Common.{ap, ◌∙◌, arith}
use Rattle.op_forest.specs.declared.op.Op.TheVariants as op
use Rattle.op_forest.specs.declared.suffix.Suffix.TheVariants.{P, V}
use Rattle.op_forest.specs.declared.sym.Sym.TheVariants as sym
use Rattle.c_meaning.specs.declared.core_stmt.CoreCase.{CoreCase}
use Rattle.c_meaning.specs.CoreTrees.{type_of}
use Rattle.c_meaning.specs.Scalars.{is_signed}
use Rattle.c_meaning.specs.Values.{CoreTree}
use Rattle.switch_tables.specs.Searches.{search_over}
use Rattle.switch_tables.specs.Tables.{tables_of}
use Rattle.c_rows_agree.specs.Templates.{Leaf}
use Rattle.c_rows_agree.specs.Typed.{head, head_with}
use Rattle.piece_runs.specs.Pieces.{Piece}
use Rattle.dag_seam.proofs.lemmas.Acts.{get_left}
use Rattle.lowered_forms.specs.Contexts.{Context}
use Rattle.lowered_forms.specs.Expressions.{low_e, low_test}
use Rattle.lowered_forms.specs.Later.{IsFront}
use Rattle.lowered_forms.specs.Lows.{Low, acted_one, jumped, marked, with_label, slot_offset, with_slot}
use Rattle.lowered_forms.specs.Values.{stored_in}
use Rattle.lowered_forms.proofs.lemmas.Adding.{lowering_adds, testing_adds}
use Rattle.lowered_forms.proofs.lemmas.Fronts.{front_before}
use Rattle.lowered_statements.specs.Bodies.{Body, with_low}
use Rattle.lowered_statements.specs.Functions.{Function, Exits, label_or, placed_cases}
use Rattle.lowered_statements.specs.Searches.{Choice, searched}
use Rattle.lowered_statements.specs.Statements.{StmtTree, StmtTrees, low_s, low_all}
use Rattle.lowered_statements.specs.Steps.{BodyRelation, BodySteps}
use Rattle.lowered_statements.proofs.lemmas.Adding.{goes_on, adding_steps, statements_add}
use Rattle.lowered_statements.proofs.lemmas.Induction.{statement_steps, statements_steps}
use Rattle.lowered_statements.proofs.lemmas.SearchSteps.{searched_step}
use Rattle.c_straight_agree.specs.Finals.{Final}
use Rattle.c_straight_agree.proofs.lemmas.Finals.{fewer_entries, back_steps, back_jumps}
use Rattle.c_tests_agree.proofs.lemmas.Valuing.{slots_more}
use Rattle.c_stmt_agreement.specs.Comings.{Activation}
use Rattle.c_stmts_agree.specs.Parts.{search_row}
use Rattle.c_stmts_agree.specs.Tables.{HasTables}

-- ---- final blocks

module _ (all : List Piece) where
  abbrev pub bodies_back : BodyRelation
  bodies_back a b = Final all b.low → Final all a.low

  pub backs : BodySteps bodies_back
  backs = record {
    same = λ b f. f;
    joins = λ a b c x y f. x (y f);
    asks = λ t b. (back_steps all).asks t b.low;
    acts = λ r b. (back_steps all).acts r b.low;
    acts_one = λ h t b. (back_steps all).acts_one h t b.low;
    returns = λ b. fewer_entries all b.low _ (front_before b.low.entries _);
    slot = λ b. (back_steps all).slot b.low;
    ends = λ b. (back_jumps all).ends b.low;
    marks = λ n b. (back_jumps all).marks n b.low;
    label = λ b. (back_jumps all).label b.low;
    table = λ labels b f. f;
  }

  pub statement_back : (f : Function) (y : Exits) (t : StmtTree) (b : Body) → Final all (low_s f y t b).low → Final all b.low
  statement_back f y t b = statement_steps bodies_back backs f y t b

  pub sequence_back : (f : Function) (y : Exits) (ts : StmtTrees) (b : Body) → Final all (low_all f y ts b).low → Final all b.low
  sequence_back f y ts b = statements_steps bodies_back backs f y ts b

  pub mark_back : (n : ℕ) (l : Low) → Final all (marked n l) → Final all l
  mark_back n l = (back_jumps all).marks n l

  pub jump_back : (n : ℕ) (l : Low) → Final all (jumped n l) → Final all l
  jump_back n l final =
      (back_steps all).acts_one (head op.Jump V) (Leaf (head_with op.Addrg P (sym.Label n) None)) l
      ((back_jumps all).ends (acted_one (head op.Jump V) (Leaf (head_with op.Addrg P (sym.Label n) None)) l) final)

  -- labels are nothing to it
  pub label_back : (l : Low) (labels : ℕ) → Final all (record { pieces = l.pieces; entries = l.entries; slots = l.slots; labels = labels }) → Final all l
  label_back l labels final = record { front = final.front; slots = final.slots }

-- ---- tables

module _ (p : Activation) (f : Function) where
  -- those made before are among those made behind it
  pub has_before : (b d : Body) → IsFront b.tables d.tables → HasTables p f d → HasTables p f b
  has_before b d front has n labels e = has n labels (ap (λ (ts : List (List ℕ)). slice_get ts n) front.is ∙ get_left b.tables front.more n labels e)

  pub statement_has : (y : Exits) (t : StmtTree) (b : Body) → HasTables p f (low_s f y t b) → HasTables p f b
  statement_has y t b = has_before b (low_s f y t b) (statements_add f y t b).tables

  pub sequence_has : (y : Exits) (ts : StmtTrees) (b : Body) → HasTables p f (low_all f y ts b) → HasTables p f b
  sequence_has y ts b = has_before b (low_all f y ts b) (statements_steps goes_on adding_steps f y ts b).tables

-- ---- slots

module _ (locals : ℕ) where
  at_least : (m n : ℕ) → locals ≤ m → m ≤ n → locals ≤ n
  at_least m n a b = omega (arith, a, b)

  pub room : (l m : Low) → IsFront l.slots m.slots → locals ≤ length l.slots → locals ≤ length m.slots
  room l m more le = at_least (length l.slots) (length m.slots) le (slots_more l m more)

  pub room_marked : (n : ℕ) (l : Low) → locals ≤ length l.slots → locals ≤ length (marked n l).slots
  room_marked n l le = room l (marked n l) (front_before l.slots _) le

  pub room_jumped : (n : ℕ) (l : Low) → locals ≤ length l.slots → locals ≤ length (jumped n l).slots
  room_jumped n l le = room l (jumped n l) (front_before l.slots _) le

  pub room_lowered : (x : Context) (e : CoreTree) (l : Low) → locals ≤ length l.slots → locals ≤ length (low_e x e l).low.slots
  room_lowered x e l le = room l (low_e x e l).low (lowering_adds x e l).slots le

  pub room_tested : (x : Context) (e : CoreTree) (n : ℕ) (when : Bool) (l : Low) → locals ≤ length l.slots → locals ≤ length (low_test x e n when l).slots
  room_tested x e n when l le = room l (low_test x e n when l) (testing_adds x e n when l).slots le

  pub room_stated : (f : Function) (y : Exits) (t : StmtTree) (b : Body) → locals ≤ length b.low.slots → locals ≤ length (low_s f y t b).low.slots
  room_stated f y t b le = room b.low (low_s f y t b).low (statements_add f y t b).low.slots le

  -- behind the search of a switch
  pub room_searched : (f : Function) (x : CoreTree) (cases : List CoreCase) (default : Option ℕ) (b : Body) → locals ≤ length b.low.slots → locals ≤ length (search_row f x cases default b).low.slots
  room_searched f x cases default b le =
      let r = low_e f.context x b.low in
      let z = slot_offset r.low in
      let choice : Choice = record { slot = z; signed = is_signed (type_of x); default = label_or f r.low.labels default } in
      let b1 = with_low (with_label (stored_in z r.value (with_slot r.low))) b in
      let tables = search_over (tables_of choice.signed choice.default (placed_cases f cases)) in
      room b1.low (searched f choice tables b1).low (searched_step goes_on adding_steps f choice tables b1).low.slots
      (room r.low b1.low (front_before r.low.slots _) (room_lowered f.context x b.low le))
