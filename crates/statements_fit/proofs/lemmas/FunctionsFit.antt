-- What functions are lowered to fits.
use Rattle.std.specs.Prelude.{◌≡◌, ◌<◌, ℕ, suc, ◌+◌, ◌*◌, ◌^◌, Bool, true, false, List, [], ◌∷◌, length, take, slice_get}
use Rattle.std.proofs.Common.{refl, arith}
use Rattle.lcc_base.specs.declared.order.Order.{Order}
use Rattle.op_forest.specs.declared.frame.Slot.{Slot}
use Rattle.op_forest.specs.declared.op.Op.TheVariants as op
use Rattle.op_forest.specs.declared.suffix.Suffix.TheVariants.{P}
use Rattle.c_types.specs.CType.{CType}
use Rattle.c_meaning.specs.Scalars.{scalar_of}
use Rattle.c_meaning.specs.Units.{FunctionTree, UnitTree}
use Rattle.c_rows_agree.specs.Places.{stored_as}
use Rattle.lowered_forms.specs.Lows.{Low}
use Rattle.lowered_forms.specs.Places.{local_by}
use Rattle.lowered_fit.specs.Fitted.{Standing, FitsTyped}
use Rattle.lowered_fit.specs.States.{IsFitState, IsWider, IsFitAfter, standing_in, FitsContext}
use Rattle.lowered_fit.proofs.lemmas.Operands.{acted_goes, goes_after, after_behind, ended_fits}
use Rattle.lowered_fit.proofs.lemmas.PlacesFit.{by_fits, offset_wider, parameter_fits}
use Rattle.lowered_fit.proofs.lemmas.RowsFit.{store_fits}
use Rattle.lowered_statements.specs.Bodies.{with_low}
use Rattle.lowered_statements.specs.FunctionBodies.{function_in, word_passed, parameter_stored, parameters_stored, begun, no_exits, low_f}
use Rattle.lowered_statements.specs.Functions.{Function}
use Rattle.lowered_statements.specs.Layouts.{is_narrow, first_word, words_of, layout}
use Rattle.lowered_statements.specs.Returns.{end_by}
use Rattle.lowered_statements.specs.Statements.{low_s}
use Rattle.statements_fit.specs.Statements.{FitsStmt}
use Rattle.statements_fit.proofs.lemmas.LayoutsFit.{few_taken, layouts_fit}
use Rattle.statements_fit.proofs.lemmas.Rows.{nothing_fits}
use Rattle.statements_fit.proofs.lemmas.StatementsFit.{statements_fit}

-- ---- parameters

word_fits : (g : Standing) (word : ℕ) → 4 * word < 2 ^ 32 → FitsTyped g (word_passed word)
word_fits g word small = record {
  fits = (
    P,
    record { fits = record { operator = omega arith; part = tt; operands = refl; local = λ e. absurd (indir_no e) }; value = refl; suffix = refl },
    (parameter_fits g (4 * word) small).fits,
  );
  scalar = tt;
}
  where
    indir_no : op.Indir ≡ op.Addrl → ⊥
    indir_no e = cc

module _ (f : Function) (slots : List Slot) (places : FitsContext f.context slots) where
  parameter_stored_fits : (narrow : Bool) (n word : ℕ) (t : CType) (l : Low) → 4 * word < 2 ^ 32 → IsWider slots l.slots → IsFitState l → IsFitAfter l (parameter_stored narrow f n word t l)
  parameter_stored_fits true n word t l small w h =
      let g = standing_in l in
      let to = local_by false (slice_get f.context.places n) in
      let r = stored_as (scalar_of t).width to (word_passed word) in
      let fit = by_fits g false (slice_get f.context.places n) (λ z e. offset_wider slots l.slots z w (places n z e)) in
      goes_after l (parameter_stored true f n word t l) (acted_goes r l h (store_fits g to (word_passed word) fit (word_fits g word small) (scalar_of t).width))
  parameter_stored_fits false n word t l small w h = record { state = h; wide = λ z e. e }

  parameters_fit : (n word : ℕ) (ts : List CType) (l : Low) → 4 * (word + length ts) < 2 ^ 32 → IsWider slots l.slots → IsFitState l → IsFitAfter l (parameters_stored f n word ts l)
  parameters_fit n word [] l small w h = record { state = h; wide = λ z e. e }
  parameters_fit n word (t ∷ ts) l small w h =
      let m = parameter_stored (is_narrow f.context.unit.tags t) f n word t l in
      let a = parameter_stored_fits (is_narrow f.context.unit.tags t) n word t l (omega (arith, small)) w h in
      after_behind l m (parameters_stored f (suc n) (suc word) ts m) a.wide
      (parameters_fit (suc n) (suc word) ts m (omega (arith, small)) (λ z e. a.wide z (w z e)) a.state)

  end_fits : (gives : Bool) (l : Low) → IsFitState l → IsFitAfter l (end_by gives l)
  end_fits true l h = nothing_fits f slots places true l h
  end_fits false l h = record { state = h; wide = λ z e. e }

-- ---- bodies

pub functions_fit : (u : UnitTree) (order : Order) (number tables : ℕ) (f : FunctionTree)
    → FitsStmt (function_in u order number tables f) (layout u.tags f).slots f.body → 4 * words_of f < 2 ^ 32 → IsFitState (low_f u order number tables f).low
functions_fit u order number tables f k small =
    let places = layouts_fit u.tags f small in
    let g = function_in u order number tables f in
    let slots = (layout u.tags f).slots in
    let b = begun g (layout u.tags f) in
    let few = few_taken f.parameters f.locals in
    let l1 = parameters_stored g 0 (first_word f) (take f.parameters f.locals) b.low in
    let a = parameters_fit g slots places 0 (first_word f) (take f.parameters f.locals) b.low (omega (arith, few, small)) (λ z e. e) (record { current = tt; pieces = tt }) in
    let b2 = low_s g no_exits f.body (with_low l1 b) in
    let c = statements_fit g slots no_exits f.body (with_low l1 b) places k a.wide a.state in
    let l3 = end_by g.gives_zero b2.low in
    let d = end_fits g slots places g.gives_zero b2.low c.state in
    (ended_fits l3 d.state).state
