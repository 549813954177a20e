-- What `ceval` makes of the bytes of its input: the run of the program that they are the source of.
use Rattle.std.specs.Prelude.{◌≡◌, ◌⊎◌, ℕ, List, None, Some}
use Rattle.objects.specs.Arithmetic.{signed_of}
use Rattle.c_ast.specs.Trees.{UnitTree}
use Rattle.c_lexer.specs.SourceUnits.{DenotesUnit}
use Rattle.c_expr.specs.declared.syntax_fault.SyntaxFault.{SyntaxFault}
use Rattle.c_stmt.specs.Units.{Refuses}
use Rattle.c_meaning.specs.Constraints.{Fault}
use Rattle.c_meaning.specs.State.{State}
use Rattle.c_meaning.specs.Units.{CoreUnit, unit_seen}
use Rattle.c_units.specs.UnitNodes.{first_in, unit_nodes}
use Rattle.c_units.specs.UnitsRelation.{TypesUnit}
use Rattle.c_runs.specs.Outcomes.{How, Undefined, OutOfTurns, Exit}
use Rattle.c_runs.specs.Run.{run, output}
use Rattle.command_words.specs.declared.ceval_options.CevalOptions.{CevalOptions}
use Rattle.outcomes.specs.declared.outcome.End.{End}
use Rattle.outcomes.specs.declared.outcome.End.TheVariants as ends
use Rattle.outcomes.specs.declared.outcome.Refusal.{Refusal}
use Rattle.outcomes.specs.Behaviour.{Behaviour}
use Rattle.input_parts.specs.InputMark.{IsParted}
use Rattle.ceval_tool.specs.SourceFaults.{of_syntax, of_first}
use Rattle.ceval_tool.specs.declared.source_fault.SourceFault.TheVariants.{Refused}

-- the source denotes a unit, and this is what typing makes of it
pub record IsCoreOf (source : List ℕ) (core : CoreUnit) : Type 0 where
  pub unit : UnitTree
  pub denoted : DenotesUnit source unit
  pub state : State
  pub typed : TypesUnit unit state (unit_seen core)

-- how the work of a run with so many turns ends, by how the run has ended; a status is the signed number of a word
abbrev pub end_of : ℕ → How → End
end_of turns (Undefined cause n) = ends.Undefined cause n
end_of turns OutOfTurns = ends.OutOfTurns turns
end_of turns (Exit word) = ends.Exited (signed_of word)

-- the program's run writes this text and ends so: with so many turns, in this order of bytes and on this input
pub record RunOf (o : CevalOptions) (core : CoreUnit) (bytes : List ℕ) (end : End) (text : List ℕ) : Type 0 where
  pub ended : end ≡ end_of o.turns (run core o.order bytes o.turns).how
  pub wrote : text ≡ output (run core o.order bytes o.turns)

-- the input is the source of a program, with what the program reads behind a line `%%`, and its run writes this text and
-- ends so
pub record IsEvaluation (o : CevalOptions) (input : List ℕ) (end : End) (text : List ℕ) : Type 0 where
  pub source : List ℕ
  pub bytes : List ℕ
  pub parted : IsParted input source bytes
  pub core : CoreUnit
  pub is_core : IsCoreOf source core
  pub run : RunOf o core bytes end text

-- the source denotes no unit, and that is told so: where it can't be cut, by the fault that stands there; else by NoParse,
-- in the line of a token
abbrev pub RefusesText : List ℕ → Refusal → Type 0
RefusesText source why = (f : SyntaxFault) × Refuses source f × (of_syntax f ≡ Refused why)

-- the source denotes a unit, and its first construct that breaks a constraint or passes a limit is told so
abbrev pub RefusesUnit : List ℕ → Refusal → Type 0
RefusesUnit source why = (u : UnitTree) × DenotesUnit source u × ((f : Fault) × (first_in (unit_nodes u) ≡ Some f) × (why ≡ of_first f))

abbrev pub RefusesSource : List ℕ → Refusal → Type 0
RefusesSource source why = RefusesText source why ⊎ RefusesUnit source why

-- the source, which stands before the line `%%`, is refused
abbrev pub RefusesCeval : List ℕ → Refusal → Type 0
RefusesCeval input why = (source bytes : List ℕ) × IsParted input source bytes × RefusesSource source why

abbrev pub ceval_behaviour : CevalOptions → Behaviour
ceval_behaviour o = record { Writes = IsEvaluation o; Refuses = RefusesCeval }

-- the input is the source of a unit in which nothing breaks a constraint or passes a limit
pub record IsEvaluable (input : List ℕ) : Type 0 where
  pub source : List ℕ
  pub bytes : List ℕ
  pub parted : IsParted input source bytes
  pub unit : UnitTree
  pub denoted : DenotesUnit source unit
  pub fine : first_in (unit_nodes unit) ≡ None
