-- Expressions of any kind.
use Rattle.std.specs.Prelude.{◌≡◌, ◌≤◌, ℕ, Bool, true, false, List, [], ◌∷◌, ◌++◌, length}
use Rattle.std.proofs.Common.{true≢false, refl, sym, ◌∙◌}
use Rattle.c_types.specs.CType.{CType}
use Rattle.c_meaning.specs.declared.core_expr.Conversion.TheVariants as to
use Rattle.c_meaning.specs.declared.core_expr.CoreKind.{CoreKind}
use Rattle.c_meaning.specs.declared.core_expr.CoreKind.TheVariants as kind
use Rattle.c_meaning.specs.Copies.{own_copies, copies_in, copies_in_all}
use Rattle.c_meaning.specs.CoreTrees.{Core, NoCore, Cores, type_of}
use Rattle.c_meaning.specs.Each.{EachIs}
use Rattle.c_meaning.specs.Fits.{IsRow, AllFit}
use Rattle.c_meaning.specs.Types.{is_void}
use Rattle.c_meaning.specs.Units.{IsExpr, IsLeaf}
use Rattle.c_meaning.specs.Values.{CoreTree, CoreTrees, is_lvalue}
use Rattle.c_runs.specs.Soundness.{IsTame, AreTame}
use Rattle.c_expr_agreement.specs.Scenes.{Scene}
use Rattle.lowered_forms.specs.Contexts.{Context}
use Rattle.lowered_forms.specs.Expressions.{is_test, low_e}
use Rattle.lowered_forms.specs.Lows.{Low}
use Rattle.c_straight_agree.specs.Agreement.{IsLowered, IsPerformed}
use Rattle.c_straight_agree.specs.Layouts.{FrameLayout, context_in, IsLaidOut, IsFair, AreFair}
use Rattle.c_straight_agree.specs.Parts.{is_unused, IsPerformedPart, AreLoweredParts, IsLastLowered, EachTree}
use Rattle.c_straight_agree.specs.Standing.{IsBody}
use Rattle.c_straight_agree.proofs.lemmas.Checked.{checked_is_fair}
use Rattle.c_straight_agree.proofs.lemmas.Performing.{lowered_performed}
use Rattle.c_parts_agree.specs.Plain.{PlainExpressionsAgree, ConversionsToVoidAreLowered, CommasAreLowered, CommasArePerformed}
use Rattle.c_tests_agree.specs.Comparisons.{ComparisonsAreTested}
use Rattle.c_tests_agree.specs.Connectives.{IsTestedAnywhere, NegationsAreTested, ConjunctionsAreTested, DisjunctionsAreTested}
use Rattle.c_tests_agree.specs.Scalars.{ScalarsAreTested}
use Rattle.c_tests_agree.specs.Tested.{AreMarkedOnce}
use Rattle.c_choices_agree.specs.Conditionals.{ConditionalsAreLowered, VoidConditionalsArePerformed}
use Rattle.c_choices_agree.specs.Truths.{TruthsAreLowered}
use Rattle.c_calls_agree.specs.Laws.{IsCopy, HasCopies, ValuedCallsAreLowered, VoidCallsArePerformed}
use Rattle.c_calls_agree.specs.Programs.{IsProgram}
use Rattle.c_expressions_agree.specs.Expressions.{ExpressionsAgree}
use Rattle.c_expressions_agree.specs.Known.{IsKnown}
use Rattle.c_straight_agree.proofs.lemmas.Used.{AreUsed, uses_parts, parts_are_used, scalar_is_used, valued_is_used, not_void_as, unused_is_void, EachLast, last_is_used}

-- what kinds of expressions come to, by their parts
pub record AgreeByParts : Type 0 where
  pub plain : PlainExpressionsAgree
  pub conversions : ConversionsToVoidAreLowered
  pub commas : CommasAreLowered
  pub performed_commas : CommasArePerformed
  pub scalars : ScalarsAreTested
  pub negations : NegationsAreTested
  pub conjunctions : ConjunctionsAreTested
  pub disjunctions : DisjunctionsAreTested
  pub comparisons : ComparisonsAreTested
  pub truths : TruthsAreLowered
  pub conditionals : ConditionalsAreLowered
  pub void_conditionals : VoidConditionalsArePerformed
  pub calls : ValuedCallsAreLowered
  pub void_calls : VoidCallsArePerformed

each_split : {A : Type 0} (P : A → Type 0) (xs ys : List A) → EachIs P (xs ++ ys) → EachIs P xs × EachIs P ys
each_split P [] ys h = (tt, h)
each_split P (x ∷ xs) ys h = let r = each_split P xs ys h.1 in ((h.0, r.0), r.1)

module _ (laws : AgreeByParts) (s : Scene) (once : AreMarkedOnce s.body) (locals : ℕ) (body : IsBody s locals) (program : IsProgram s) (y : FrameLayout) (laid : IsLaidOut s y) where
  abbrev x : Context
  x = context_in s y

  abbrev IsLoweredAnywhere : CoreTree → Type 0
  IsLoweredAnywhere e = (l : Low) → locals ≤ length l.slots → IsLowered s y e l (low_e x e l)

  abbrev IsPerformedAnywhere : CoreTree → Type 0
  IsPerformedAnywhere e = (l : Low) → locals ≤ length l.slots → IsPerformed s y e l (low_e x e l)

  abbrev AreKnown : CoreTrees → Type 0
  AreKnown kids = EachTree (λ e. IsKnown s locals y e) kids

  abbrev HasRow : CoreKind → CType → CoreTrees → Type 0
  HasRow what of kids = IsRow (IsLeaf s.unit y.types) s.unit.tags what of kids

  values_of : (cs : CoreTrees) → AreKnown cs → AreUsed cs → AreLoweredParts s locals y cs
  values_of NoCore ps used = tt
  values_of (Cores e cs) ps used = (ps.0.value used.0, values_of cs ps.1 used.1)

  performed_of : (cs : CoreTrees) → AreKnown cs → EachTree (IsPerformedPart s locals y) cs
  performed_of NoCore ps = tt
  performed_of (Cores e cs) ps = (ps.0.performed, performed_of cs ps.1)

  last_of : (a : CoreTree) (cs : CoreTrees) → AreKnown (Cores a cs) → EachLast (λ e. is_unused e ≡ false) a cs → IsLastLowered s locals y a cs
  last_of a NoCore ps used = ps.0.value used
  last_of a (Cores b cs) ps used = last_of b cs ps.1 used

  -- ---- what is no test by itself

  -- it is performed, and lowered if its value is used
  record IsValued (e : CoreTree) : Type 0 where
    performed : IsPerformedAnywhere e
    lowered : is_unused e ≡ false → IsLoweredAnywhere e

  always : (e : CoreTree) → IsLoweredAnywhere e → IsValued e
  always e h = record { performed = λ l le. lowered_performed s y e l (low_e x e l) (h l le); lowered = λ used. h }

  never_used : (e : CoreTree) → is_lvalue e ≡ false → is_void (type_of e) ≡ true → IsPerformedAnywhere e → IsValued e
  never_used e no_place void h = record { performed = h; lowered = λ used. absurd (true≢false (sym void ∙ unused_is_void e no_place used)) }

  conditional_by : (b : Bool) (of : CType) (line : ℕ) (kids : CoreTrees) → is_void of ≡ b → HasRow kind.Conditional of kids → AreKnown kids → IsValued (Core kind.Conditional of line kids)
  conditional_by true of line (Cores a (Cores b (Cores c NoCore))) void row ps =
      never_used (Core kind.Conditional of line (Cores a (Cores b (Cores c NoCore)))) refl void
      (λ l le. laws.void_conditionals s locals y body once laid of line a b c void (ps.0.test (scalar_is_used a row.0)) ps.1.0.performed ps.1.1.0.performed l le)
  conditional_by false of line (Cores a (Cores b (Cores c NoCore))) valued row ps =
      always (Core kind.Conditional of line (Cores a (Cores b (Cores c NoCore))))
      (λ l le.
      laws.conditionals s locals y body once laid of line a b c valued (ps.0.test (scalar_is_used a row.0))
      (ps.1.0.value (valued_is_used b (not_void_as (type_of b) of row.1.1.0 valued))) (ps.1.1.0.value (valued_is_used c (not_void_as (type_of c) of row.1.1.1 valued))) l le)
  conditional_by b of line NoCore e row ps = absurd row
  conditional_by b of line (Cores a NoCore) e row ps = absurd row
  conditional_by b of line (Cores a (Cores b1 NoCore)) e row ps = absurd row
  conditional_by b of line (Cores a (Cores b1 (Cores c (Cores d cs)))) e row ps = absurd row

  call_by : (b : Bool) (n : ℕ) (of : CType) (line : ℕ) (kids : CoreTrees) → is_void of ≡ b → IsTame (Core (kind.Call n) of line kids) → HasCopies y (own_copies (kind.Call n) of kids) → AreLoweredParts s locals y kids → IsValued (Core (kind.Call n) of line kids)
  call_by true n of line kids void tame copies ps = never_used (Core (kind.Call n) of line kids) refl void (λ l le. laws.void_calls s locals y body program laid n of line kids void tame copies ps l le)
  call_by false n of line kids valued tame copies ps = always (Core (kind.Call n) of line kids) (λ l le. laws.calls s locals y body program laid n of line kids valued tame copies ps l le)

  comma_known : (of : CType) (line : ℕ) (kids : CoreTrees) → HasRow kind.Comma of kids → AreKnown kids → IsValued (Core kind.Comma of line kids)
  comma_known of line NoCore row ps = absurd row
  comma_known of line (Cores a cs) row ps = record {
    performed = λ l le. laws.performed_commas s locals body y laid of line a cs (performed_of (Cores a cs) ps) l le;
    lowered = λ used l le.
        laws.commas s locals body y laid of line a cs (performed_of (Cores a cs) ps)
        (last_of a cs ps (last_is_used (IsLeaf s.unit y.types) s.unit.tags a cs of row (unused_is_void (Core kind.Comma of line (Cores a cs)) refl used))) l le;
  }

  value_known : (what : CoreKind) (of : CType) (line : ℕ) (kids : CoreTrees) → is_test what ≡ false → IsTame (Core what of line kids) → IsFair s y (Core what of line kids) → HasRow what of kids → HasCopies y (own_copies what of kids) → AreKnown kids → IsValued (Core what of line kids)
  value_known (kind.Compare o signed) of line kids e tame fair row copies ps = absurd (true≢false e)
  value_known kind.Not of line kids e tame fair row copies ps = absurd (true≢false e)
  value_known kind.And of line kids e tame fair row copies ps = absurd (true≢false e)
  value_known kind.Or of line kids e tame fair row copies ps = absurd (true≢false e)
  value_known kind.Conditional of line kids e tame fair row copies ps = conditional_by (is_void of) of line kids refl row ps
  value_known kind.Comma of line kids e tame fair row copies ps = comma_known of line kids row ps
  value_known (kind.Convert to.Void) of line (Cores a NoCore) e tame fair row copies ps =
      always (Core (kind.Convert to.Void) of line (Cores a NoCore)) (λ l le. laws.conversions s locals body y laid of line a ps.0.performed l le)
  value_known (kind.Convert to.Void) of line NoCore e tame fair row copies ps = absurd row
  value_known (kind.Convert to.Void) of line (Cores a (Cores b cs)) e tame fair row copies ps = absurd row
  value_known (kind.Call n) of line kids e tame fair row copies ps =
      call_by (is_void of) n of line kids refl tame copies (values_of kids ps (parts_are_used (IsLeaf s.unit y.types) s.unit.tags (kind.Call n) of kids row refl))
  value_known what of line kids e tame fair row copies ps =
      always (Core what of line kids) (λ l le. laws.plain s locals body y laid what of line kids refl tame fair (values_of kids ps (parts_are_used (IsLeaf s.unit y.types) s.unit.tags what of kids row refl)) l le)

  -- ---- what is one

  test_tested : (what : CoreKind) (of : CType) (line : ℕ) (kids : CoreTrees) → is_test what ≡ true → HasRow what of kids → AreKnown kids → AreUsed kids → IsTestedAnywhere s locals y (Core what of line kids)
  test_tested kind.Not of line (Cores a NoCore) e row ps used l le n when = laws.negations s locals y of line a (ps.0.test used.0) l le n when
  test_tested kind.And of line (Cores a (Cores b NoCore)) e row ps used l le n when = laws.conjunctions s locals y body laid of line a b (ps.0.test used.0) (ps.1.0.test used.1.0) l le n when
  test_tested kind.Or of line (Cores a (Cores b NoCore)) e row ps used l le n when = laws.disjunctions s locals y body laid of line a b (ps.0.test used.0) (ps.1.0.test used.1.0) l le n when
  test_tested (kind.Compare o signed) of line (Cores a (Cores b NoCore)) e row ps used l le n when = laws.comparisons s locals y body once laid o signed of line a b (ps.0.value used.0) (ps.1.0.value used.1.0) l le n when
  test_tested kind.Not of line NoCore e row ps used l le n when = absurd row
  test_tested kind.Not of line (Cores a (Cores b cs)) e row ps used l le n when = absurd row
  test_tested kind.And of line NoCore e row ps used l le n when = absurd row
  test_tested kind.And of line (Cores a NoCore) e row ps used l le n when = absurd row
  test_tested kind.And of line (Cores a (Cores b (Cores c cs))) e row ps used l le n when = absurd row
  test_tested kind.Or of line NoCore e row ps used l le n when = absurd row
  test_tested kind.Or of line (Cores a NoCore) e row ps used l le n when = absurd row
  test_tested kind.Or of line (Cores a (Cores b (Cores c cs))) e row ps used l le n when = absurd row
  test_tested (kind.Compare o signed) of line NoCore e row ps used l le n when = absurd row
  test_tested (kind.Compare o signed) of line (Cores a NoCore) e row ps used l le n when = absurd row
  test_tested (kind.Compare o signed) of line (Cores a (Cores b (Cores c cs))) e row ps used l le n when = absurd row
  test_tested what of line kids e row ps used l le n when = absurd (true≢false (sym e))

  test_uses : (what : CoreKind) → is_test what ≡ true → uses_parts what ≡ true
  test_uses kind.Not e = refl
  test_uses kind.And e = refl
  test_uses kind.Or e = refl
  test_uses (kind.Compare o signed) e = refl
  test_uses what e = absurd (true≢false (sym e))

  kind_known : (what : CoreKind) (of : CType) (line : ℕ) (kids : CoreTrees) → IsTame (Core what of line kids) → IsFair s y (Core what of line kids) → HasRow what of kids → HasCopies y (own_copies what of kids) → AreKnown kids → (b : Bool) → is_test what ≡ b → IsKnown s locals y (Core what of line kids)
  kind_known what of line kids tame fair row copies ps true e =
      let tested : IsTestedAnywhere s locals y (Core what of line kids) = test_tested what of line kids e row ps (parts_are_used (IsLeaf s.unit y.types) s.unit.tags what of kids row (test_uses what e)) in
      let lowered : IsLoweredAnywhere (Core what of line kids) = laws.truths s locals y body laid what of line kids e tested in
      record {
        performed = record { tame = tame; performed = λ l le. lowered_performed s y (Core what of line kids) l (low_e x (Core what of line kids) l) (lowered l le) };
        value = λ used. record { tame = tame; lowered = lowered };
        test = λ used. record { tame = tame; tested = tested };
      }
  kind_known what of line kids tame fair row copies ps false e =
      let valued = value_known what of line kids e tame fair row copies ps in
      record {
        performed = record { tame = tame; performed = valued.performed };
        value = λ used. record { tame = tame; lowered = valued.lowered used };
        test = λ used. record { tame = tame; tested = λ l le n when. laws.scalars s once locals body y what of line kids tame e l le (valued.lowered used l le) n when };
      }

  mutual
    pub expression_is_known : (e : CoreTree) → IsTame e → IsFair s y e → IsExpr s.unit y.types e → HasCopies y (copies_in e) → IsKnown s locals y e
    expression_is_known (Core what of line kids) tame fair fits copies =
        let both = each_split (IsCopy y) (own_copies what of kids) (copies_in_all kids) copies in
        kind_known what of line kids tame fair fits.1.1 both.0 (parts_are_known kids tame.1 fair.1 fits.0 both.1) (is_test what) refl

    parts_are_known : (cs : CoreTrees) → AreTame cs → AreFair s y cs → AllFit (IsLeaf s.unit y.types) s.unit.tags cs → HasCopies y (copies_in_all cs) → AreKnown cs
    parts_are_known NoCore tame fair fits copies = tt
    parts_are_known (Cores e cs) tame fair fits copies =
        let both = each_split (IsCopy y) (copies_in e) (copies_in_all cs) copies in
        (expression_is_known e tame.0 fair.0 fits.0 both.0, parts_are_known cs tame.1 fair.1 fits.1 both.1)

pub expressions_agree : AgreeByParts → ExpressionsAgree
expressions_agree laws s once locals body program y laid e checked tame modest copies =
    expression_is_known laws s once locals body program y laid e tame (checked_is_fair s y e checked modest) checked copies
