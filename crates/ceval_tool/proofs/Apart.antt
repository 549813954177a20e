-- An input isn't both run and refused; it has one run at most, and one refusal at most, but for the line of NoParse.
use Rattle.std.proofs.Common.{◌≡◌, ℕ, inl, inr, List, Option, Some, None, refl, sym, ap, subst, ◌∙◌}
use Rattle.std.proofs.lemmas.Option.{none-some, same_Some}
use Rattle.c_ast.specs.Trees.{UnitTree}
use Rattle.c_lexer.specs.declared.lex_fault.LexFault.{LexFault}
use Rattle.c_lexer.specs.declared.place.Place.{Place}
use Rattle.c_lexer.specs.declared.token.Token.{Token}
use Rattle.c_lexer.specs.SourceUnits.{DenotesUnit}
use Rattle.c_lexer.specs.Tokens.{AreTokens, first_place}
use Rattle.c_expr.specs.declared.syntax_fault.SyntaxFault.TheVariants as syntax
use Rattle.c_meaning.specs.Constraints.{Fault}
use Rattle.c_meaning.specs.Laws.{IsDecided}
use Rattle.c_meaning.specs.State.{State}
use Rattle.c_meaning.specs.Units.{CoreUnit, unit_seen}
use Rattle.c_meaning.specs.Units as units
use Rattle.c_units.specs.UnitNodes.{first_in, unit_nodes}
use Rattle.c_units.specs.UnitsRelation.{TypesUnit}
use Rattle.c_runs.specs.Run.{Ending, run_tree, output}
use Rattle.command_words.specs.declared.ceval_options.CevalOptions.{CevalOptions}
use Rattle.input_parts.proofs.lemmas.PartedOnce.{parted_once}
use Rattle.outcomes.specs.declared.outcome.End.{End}
use Rattle.outcomes.specs.declared.outcome.Refusal.{Refusal}
use Rattle.outcomes.specs.Behaviour.{IsApart}
use Rattle.ceval_tool.specs.SourceFaults.{of_syntax, of_first}
use Rattle.ceval_tool.specs.declared.source_fault.SourceFault.TheVariants.{Refused}
use Rattle.ceval_tool.specs.Evaluation.{IsCoreOf, IsEvaluable, IsEvaluation, RunOf, RefusesText, RefusesUnit, RefusesSource, RefusesCeval, ceval_behaviour, end_of}
use Rattle.ceval_tool.specs.OneRefusal.{AreOne}

-- what the laws of sources and units say: a source is cut in one way and denotes one unit at most, and a unit is typed in
-- one way where no node of it has a fault, and else in none
pub record SourceLaws : Type 0 where
  pub one_list : (source : List ℕ) (p : Place) (ts us : List Token) (e f : Option LexFault) → AreTokens source p ts e → AreTokens source p us f → (ts ≡ us) × (e ≡ f)
  pub one_unit : (source : List ℕ) (u v : UnitTree) → DenotesUnit source u → DenotesUnit source v → u ≡ v
  pub decided : (u : UnitTree) → IsDecided (TypesUnit u) (first_in (unit_nodes u))

module _ (laws : SourceLaws) where
  -- ---- sources that denote no unit

  -- a source that denotes a unit isn't refused as a text
  denoted_apart : (source : List ℕ) (u : UnitTree) (why : Refusal) → DenotesUnit source u → RefusesText source why → ⊥
  denoted_apart source u why d (syntax.NoParse n, (ts, cut, none, place, is), told) = none u d
  denoted_apart source u why d (syntax.Memory, any, told) = absurd (let e : of_syntax syntax.Memory ≡ Refused why = told in cc)
  denoted_apart source u why d (syntax.Lex f, (ts, cut), told) = absurd (none-some f (laws.one_list source first_place d.tokens ts None (Some f) d.cut cut).1)

  same_refused : (why other : Refusal) → Refused why ≡ Refused other → why ≡ other
  same_refused why other e = cc

  text_once : (source : List ℕ) (why other : Refusal) → RefusesText source why → RefusesText source other → AreOne why other
  text_once source why other (syntax.Memory, any, told) refuses = absurd (let e : of_syntax syntax.Memory ≡ Refused why = told in cc)
  text_once source why other refuses (syntax.Memory, any, told) = absurd (let e : of_syntax syntax.Memory ≡ Refused other = told in cc)
  text_once source why other (syntax.NoParse n, (ts, cut, none, place, is), told) (syntax.NoParse m, (us, also, never, at, line), tells) =
      inr ((n, same_refused why _ (sym told)), (m, same_refused other _ (sym tells)))
  text_once source why other (syntax.NoParse n, (ts, cut, none, place, is), told) (syntax.Lex f, (us, also), tells) =
      absurd (none-some f (laws.one_list source first_place ts us None (Some f) cut also).1)
  text_once source why other (syntax.Lex f, (ts, cut), told) (syntax.NoParse m, (us, also, never, at, line), tells) =
      absurd (none-some f (laws.one_list source first_place us ts None (Some f) also cut).1)
  text_once source why other (syntax.Lex f, (ts, cut), told) (syntax.Lex g, (us, also), tells) =
      let same : f ≡ g = same_Some f g (laws.one_list source first_place ts us (Some f) (Some g) cut also).1 in
      inl (same_refused why other (sym told ∙ ap (λ (x : LexFault). of_syntax (syntax.Lex x)) same ∙ tells))

  -- ---- refused units

  unit_once : (source : List ℕ) (why other : Refusal) → RefusesUnit source why → RefusesUnit source other → why ≡ other
  unit_once source why other (u, d, (f, first, told)) (v, also, (g, is, tells)) =
      let units : u ≡ v = laws.one_unit source u v d also in
      let same : f ≡ g = same_Some f g (sym first ∙ ap (λ (x : UnitTree). first_in (unit_nodes x)) units ∙ is) in
      told ∙ ap of_first same ∙ sym tells

  source_once : (source : List ℕ) (why other : Refusal) → RefusesSource source why → RefusesSource source other → AreOne why other
  source_once source why other (inl text) (inl also) = text_once source why other text also
  source_once source why other (inl text) (inr (u, d, told)) = absurd (denoted_apart source u why d text)
  source_once source why other (inr (u, d, told)) (inl text) = absurd (denoted_apart source u other d text)
  source_once source why other (inr unit) (inr also) = inl (unit_once source why other unit also)

  pub ceval_one : (input : List ℕ) (why other : Refusal) → RefusesCeval input why → RefusesCeval input other → AreOne why other
  ceval_one input why other (source, bytes, parted, refuses) (last, rest, also, tells) =
      let same : source ≡ last = (parted_once input source bytes last rest parted also).0 in
      source_once last why other (subst (λ (s : List ℕ). RefusesSource s why) same refuses) tells

  -- ---- units that aren't refused

  fine_apart : (source : List ℕ) (u : UnitTree) (why : Refusal) → DenotesUnit source u → first_in (unit_nodes u) ≡ None → RefusesSource source why → ⊥
  fine_apart source u why d fine (inl text) = denoted_apart source u why d text
  fine_apart source u why d fine (inr (v, also, (f, first, told))) =
      absurd (none-some f (sym fine ∙ ap (λ (x : UnitTree). first_in (unit_nodes x)) (laws.one_unit source u v d also) ∙ first))

  pub evaluable_apart : (input : List ℕ) (why : Refusal) → IsEvaluable input → RefusesCeval input why → ⊥
  evaluable_apart input why e (source, bytes, parted, refuses) =
      let same : source ≡ e.source = (parted_once input source bytes e.source e.bytes parted e.parted).0 in
      fine_apart e.source e.unit why e.denoted e.fine (subst (λ (s : List ℕ). RefusesSource s why) same refuses)

  -- what is typed has no fault
  typed_fine : (u : UnitTree) (s : State) (t : units.UnitTree) → TypesUnit u s t → first_in (unit_nodes u) ≡ None
  typed_fine u s t typed = settled (first_in (unit_nodes u)) refl where
    settled : (first : Option Fault) → first_in (unit_nodes u) ≡ first → first_in (unit_nodes u) ≡ None
    settled None is = is
    settled (Some f) is = absurd ((laws.decided u).none f is s t typed)

  pub ceval_apart : (o : CevalOptions) → IsApart (ceval_behaviour o)
  ceval_apart o input end text why e refuses =
      let is = e.is_core in
      evaluable_apart input why (record { source = e.source; bytes = e.bytes; parted = e.parted; unit = is.unit; denoted = is.denoted; fine = typed_fine is.unit is.state (unit_seen e.core) is.typed }) refuses

  -- ---- runs

  core_once : (source : List ℕ) (c d : CoreUnit) → IsCoreOf source c → IsCoreOf source d → unit_seen c ≡ unit_seen d
  core_once source c d is also =
      let same : is.unit ≡ also.unit = laws.one_unit source is.unit also.unit is.denoted also.denoted in
      let typed : TypesUnit also.unit is.state (unit_seen c) = subst (λ (u : UnitTree). TypesUnit u is.state (unit_seen c)) same is.typed in
      ((laws.decided also.unit).one is.state also.state (unit_seen c) (unit_seen d) typed also.typed).1

  run_once : (o : CevalOptions) (c d : CoreUnit) (bytes : List ℕ) (end last : End) (text other : List ℕ) → unit_seen c ≡ unit_seen d → RunOf o c bytes end text → RunOf o d bytes last other → (end ≡ last) × (text ≡ other)
  run_once o c d bytes end last text other same r also =
      let ran : units.UnitTree → Ending = λ u. run_tree u o.order bytes o.turns in (
        r.ended ∙ ap (λ (u : units.UnitTree). end_of o.turns (ran u).how) same ∙ sym also.ended,
        r.wrote ∙ ap (λ (u : units.UnitTree). output (ran u)) same ∙ sym also.wrote,
      )

  pub ceval_run : (o : CevalOptions) (input : List ℕ) (end last : End) (text other : List ℕ) → IsEvaluation o input end text → IsEvaluation o input last other → (end ≡ last) × (text ≡ other)
  ceval_run o input end last text other e also =
      let parts = parted_once input e.source e.bytes also.source also.bytes e.parted also.parted in
      let is : IsCoreOf also.source e.core = subst (λ (s : List ℕ). IsCoreOf s e.core) parts.0 e.is_core in
      let ran : RunOf o e.core also.bytes end text = subst (λ (b : List ℕ). RunOf o e.core b end text) parts.1 e.run in
      run_once o e.core also.core also.bytes end last text other (core_once also.source e.core also.core is also.is_core) ran also.run
