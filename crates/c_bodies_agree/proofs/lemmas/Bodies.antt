-- The parts of a checked function's statements agree, in a call of its lowering.
use Rattle.std.specs.Prelude.{◌≡◌, ℕ, Bool, true, Some, List, length}
use Rattle.std.proofs.Common.{refl, sym, ◌∙◌}
use Rattle.op_forest.specs.Lowered.{LoweredUnit}
use Rattle.forests.specs.Worlds.{World}
use Rattle.c_types.specs.CType.{CType}
use Rattle.c_meaning.specs.Each.{EachIs}
use Rattle.c_meaning.specs.StmtTrees as stmt
use Rattle.c_meaning.specs.StmtTrees.{FilledOf}
use Rattle.c_meaning.specs.Types.{is_record}
use Rattle.c_meaning.specs.Units.{FunctionTree, UnitTree, IsLocal, IsReturned, labels}
use Rattle.c_meaning.specs.Values.{CoreTree}
use Rattle.c_runs.specs.Calls.{Call}
use Rattle.c_match.specs.Ranges.{Map}
use Rattle.c_match_worlds.specs.Texts.{HasTexts}
use Rattle.lowered_statements.specs.Functions.{Function}
use Rattle.lowered_statements.specs.Initialisers.{initialised}
use Rattle.lowered_statements.specs.Returns.{return_row}
use Rattle.c_straight_agree.proofs.lemmas.Putting.{each_at, each_map}
use Rattle.c_tests_agree.specs.Tested.{AreMarkedOnce}
use Rattle.c_expressions_agree.specs.Expressions.{ExpressionsAgree}
use Rattle.c_stmt_agreement.specs.Comings.{Activation, HasFrame, Ending}
use Rattle.c_stmts_agree.specs.CheckedParts.{ExpressionAgrees, PlaceAgrees, OthersAgree, CheckedPartsAgree}
use Rattle.c_stmts_agree.specs.Parts.{ValueAgrees, RowAgrees, PartsAgree}
use Rattle.c_checked_units.specs.Checked.{IsCheckedFunction, IsCheckedUnit}
use Rattle.c_checked_units.specs.Modest.{CheckedIsModest}
use Rattle.c_searches_agree.specs.Laws.{CheckedSwitchesLead}
use Rattle.c_stores_agree.specs.Initialisers as store
use Rattle.c_stores_agree.specs.Returns.{CopiesResult, StructureReturnsAgree}
use Rattle.c_entries_agree.specs.Activations.{lowering, activation, ending}
use Rattle.c_entries_agree.specs.Laws.{IsCallOf}
use Rattle.c_entries_agree.specs.Lowered.{IsFunctionLowering}
use Rattle.c_entries_agree.proofs.lemmas.Frames.{result_whole}
use Rattle.c_bodies_agree.specs.BuiltIns.{ProvidesBuiltIns}
use Rattle.c_bodies_agree.specs.Laws.{PartsOfBodiesAgree}
use Rattle.c_bodies_agree.proofs.lemmas.Expressions.{expressions_known}

module _ (initialisers : store.InitialisersAgree) (structures : StructureReturnsAgree) (searches : CheckedSwitchesLead) (u : UnitTree) (l : LoweredUnit) (texts : HasTexts l (length u.objects) u.texts)
    (f : FunctionTree) (a : Call) (map : Map) (w : World) (is : IsCallOf u l f a map w) (x : IsFunctionLowering u l a.function f)
    (frame : HasFrame (activation u l a.function f x a w)) (once : AreMarkedOnce (activation u l a.function f x a w).scene.body) where
  abbrev p : Activation
  p = activation u l a.function f x a w

  abbrev g : Function
  g = lowering u l a.function f x

  abbrev e : Ending
  e = ending u l a.function f x a

  -- ---- initialisers

  values_agree : (xs : List (FilledOf CType)) → EachIs (PlaceAgrees p g) xs → EachIs (λ (y : FilledOf CType). ValueAgrees p g y.value) xs
  values_agree xs h = each_map (PlaceAgrees p g) (λ (y : FilledOf CType). ValueAgrees p g y.value) xs (λ (y : FilledOf CType) k. k.value) h

  initialiser_agrees : (n : ℕ) (clears : Bool) (xs : List (FilledOf CType)) → IsLocal u f n xs → EachIs (PlaceAgrees p g) xs → RowAgrees p e (stmt.Initialise n clears xs) (λ m. initialised g n clears xs m)
  initialiser_agrees n clears xs local agree =
      initialisers p frame texts once g e n local.0 (record { context = refl; listed = local.1; typed = local.1 }) f.locals xs local.2 (values_agree xs agree) clears

  -- ---- structures that are returned

  copies_result : is_record g.result ≡ true → CopiesResult p g e
  copies_result whole =
      let given = is.called.passed.result (sym (result_whole u l f a map w is x) ∙ whole) in
      record { place = given.0; copy = given.1; result = given.1; of = refl; tags = refl }

  structure_agrees : (y : CoreTree) → IsReturned u f (Some y) → is_record g.result ≡ true → ExpressionAgrees p g y → RowAgrees p e (stmt.Return (Some y)) (λ m. return_row g (Some y) m)
  structure_agrees y returned whole agree = structures p frame g e whole (copies_result whole) y agree.value

  pub others_agree : OthersAgree p g e u f
  others_agree = record { initialisers = initialiser_agrees; structures = structure_agrees; searches = searches p frame once g u f }

-- ---- the whole body

pub parts_agree : ExpressionsAgree → CheckedIsModest → CheckedPartsAgree → store.InitialisersAgree → StructureReturnsAgree → CheckedSwitchesLead → PartsOfBodiesAgree
parts_agree expressions modest parts initialisers structures searches u l checked provides texts f a map w is x frame once =
    let one : IsCheckedFunction u f = each_at (IsCheckedFunction u) u.functions a.function f checked.functions is.defined in
    parts (activation u l a.function f x a w) (lowering u l a.function f x) (ending u l a.function f x a) u f (others_agree initialisers structures searches u l texts f a map w is x frame once) (labels f.body) f.body one.fits.body one.own.cases
    (expressions_known expressions modest u l provides a.function f x a w frame once f.body one.expressions)
