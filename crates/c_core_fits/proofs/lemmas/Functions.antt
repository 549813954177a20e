-- A function that fits keeps what a checked one promises when its unit is made whole.
use Rattle.std.proofs.Common.{◌≡◌, ◌+◌, ◌≤◌, true, List, [], ◌∷◌, ◌++◌, length, take, drop, sym, ap, subst, ◌∙◌, arith, take-append-drop}
use Rattle.std.proofs.lemmas.List.{length-append, take-append-le}
use Rattle.std.proofs.Math.Seq.{drop-append_seam}
use Rattle.c_meaning.specs.Copies.{locals_from}
use Rattle.c_meaning.specs.Each.{EachIs}
use Rattle.c_meaning.specs.Fits.{is_whole}
use Rattle.c_meaning.specs.Rows.{parameters_type, result_type}
use Rattle.c_meaning.specs.State.{State}
use Rattle.c_meaning.specs.Units.{AreParameters, IsFunction, are_apart, count, declared, function_copies, labels, total}
use Rattle.c_units.specs.Ends.{stmt_uses}
use Rattle.c_units.specs.Externals.{Parts}
use Rattle.c_units.specs.Functions.{DefinedFunction}
use Rattle.c_units.specs.Wholes.{FunctionHasWords, copied_types, stands_for, stmt_literals, texts_of, whole_function, whole_functions, whole_stmt, whole_unit}
use Rattle.c_fits.specs.OpenDeclares.{IsOpenLocal}
use Rattle.c_fits.proofs.lemmas.DeclaredFits.{each_join}
use Rattle.c_unit_fits.specs.OpenUnits.{IsOpenDefined}
use Rattle.c_whole_fits.specs.There.{IsOfFunction}
use Rattle.c_whole_fits.proofs.lemmas.Bodies.{body_fits}
use Rattle.c_whole_fits.proofs.lemmas.Meant.{symbols_meant}
use Rattle.c_whole_fits.proofs.lemmas.Statements.{placed_labels, whole_labels}
use Rattle.c_linked_names.specs.Laws.{FunctionSymbolsFit}
use Rattle.c_local_names.specs.Laws.{LocalsFit}
use Rattle.c_core_fits.proofs.lemmas.Copies.{locals_count, whole_from}
use Rattle.c_core_fits.proofs.lemmas.Found.{IsKnown}
use Rattle.c_core_fits.proofs.lemmas.Labels.{AreFromZero, IsLabelled, low_labels}
use Rattle.c_core_fits.proofs.lemmas.Lists.{get_before}
use Rattle.c_core_fits.proofs.lemmas.Shapes.{placed_declared, placed_next, whole_declared, whole_next}
use Rattle.c_core_fits.proofs.lemmas.Sizes.{copied_types_sized}
use Rattle.c_core_fits.proofs.lemmas.Texts.{IsText}
use Rattle.c_core_fits.proofs.lemmas.There.{stmt_there}

-- what is known of a function when its unit ends
pub record FunctionReady (s : State) (p : Parts) (f : DefinedFunction) : Type 0 where
  pub fits : IsOpenDefined s.tags f
  pub labelled : IsLabelled f
  pub symbols : FunctionSymbolsFit s p f
  pub own : LocalsFit s.tags f
  pub known : EachIs (IsKnown s p) (stmt_uses f.function.body)
  pub texts : EachIs (IsText (texts_of p)) (stmt_literals f.function.body)

module _ (s : State) (p : Parts) where
  -- the types of functions in the whole unit
  pub functions_typed : (fs : List DefinedFunction) → EachIs (IsOpenDefined s.tags) fs → EachIs IsOfFunction (whole_functions (stands_for s p) (texts_of p) fs)
  functions_typed [] h = tt
  functions_typed (f ∷ fs) h = (h.0.type, functions_typed fs h.1)

  module _ (types : EachIs IsOfFunction (whole_unit s p).functions) where
    function_is : (f : DefinedFunction) → FunctionReady s p f → FunctionHasWords (whole_function (stands_for s p) (texts_of p) f.function) → count (whole_function (stands_for s p) (texts_of p) f.function).body ≤ 2147483648
        → IsFunction (whole_unit s p) (whole_function (stands_for s p) (texts_of p) f.function)
    function_is f r words few =
        let x = f.function in
        let g = whole_function (stands_for s p) (texts_of p) x in
        let n = length x.locals in
        let w = whole_stmt (stands_for s p) (texts_of p) x.body in
        let behind = copied_types x.body in
        let o = r.fits in
        let meant = symbols_meant (whole_unit s p) g.locals s p types in
        let inside : x.parameters ≤ n = (let e = o.all in omega (arith, e)) in
        let first : take x.parameters (x.locals ++ behind) ≡ take x.parameters x.locals = take-append-le x.parameters x.locals behind inside in
        let own : EachIs (IsOpenLocal s.tags) x.locals =
        subst (EachIs (IsOpenLocal s.tags)) (take-append-drop x.parameters x.locals) (each_join (IsOpenLocal s.tags) (take x.parameters x.locals) (drop x.parameters x.locals) o.sized.0 o.locals) in
        let number : declared g ≡ n = ap (λ k. x.parameters + k) (placed_declared n w ∙ whole_declared (stands_for s p) (texts_of p) x.body) ∙ o.all in
        let copies : function_copies g ≡ locals_from n behind = whole_from (stands_for s p) (texts_of p) meant.meaning n x.body in
        let same : labels g.body ≡ labels x.body = placed_labels n w ∙ whole_labels (stands_for s p) (texts_of p) x.body in
        let copied : length (function_copies g) ≡ length behind = ap length copies ∙ locals_count n behind in
        let together = length-append x.locals behind in
        record {
          type = o.type;
          result = o.result;
          listed = subst (AreParameters (parameters_type x.of)) (sym first) o.listed;
          parameters = subst (EachIs (λ t. is_whole s.tags t ≡ true)) (sym first) o.sized.1;
          locals = each_join (IsOpenLocal s.tags) x.locals behind own (copied_types_sized s.tags (result_type x.of) x.body o.body);
          blocks = placed_next n x.parameters w ∙ (whole_next (stands_for s p) (texts_of p) x.parameters x.body ∙ o.blocks);
          all = omega (arith, number, copied, together);
          copies = copies ∙ sym (ap (λ k. locals_from k (drop k (x.locals ++ behind))) number ∙ ap (locals_from n) (drop-append_seam x.locals behind));
          once = subst (λ ls. are_apart ls ≡ true) (sym same) o.once;
          low = low_labels g.body 2147483648 (subst AreFromZero (sym same) r.labelled) few;
          body =
              body_fits (whole_unit s p) x (stands_for s p) (texts_of p) meant o.body o.shaped
              (stmt_there s p g x.locals (λ i of e. get_before x.locals behind i of e) (result_type x.of) x.body o.body r.symbols r.own.names r.own.fills r.known r.texts);
          words = words;
        }

    pub functions_are : (fs : List DefinedFunction) → EachIs (FunctionReady s p) fs → EachIs FunctionHasWords (whole_functions (stands_for s p) (texts_of p) fs) → total (whole_functions (stands_for s p) (texts_of p) fs) ≤ 2147483648
        → EachIs (IsFunction (whole_unit s p)) (whole_functions (stands_for s p) (texts_of p) fs)
    functions_are [] h w l = tt
    functions_are (f ∷ fs) h w l = (function_is f h.0 w.0 (omega (arith, l)), functions_are fs h.1 w.1 (omega (arith, l)))
