-- The search of a switch agrees with C.
-- Source: ISO/IEC 9899:1990, 6.6.4.2; Fraser and Hanson, A Retargetable C Compiler, chapter 10; Knuth, The Art of Computer Programming, volume 3, 6.2.1.
use Rattle.std.specs.Prelude.{◌≡◌, ℕ, true, Option, List}
use Rattle.c_meaning.specs.declared.core_stmt.CoreCase.{CoreCase}
use Rattle.c_meaning.specs.Units.{FunctionTree, UnitTree, are_apart, numbers}
use Rattle.c_meaning.specs.Values.{CoreTree}
use Rattle.switch_tables.specs.Cases.{AreWords}
use Rattle.lowered_statements.specs.Functions.{Function}
use Rattle.c_tests_agree.specs.Tested.{AreMarkedOnce}
use Rattle.c_stmt_agreement.specs.Comings.{Activation, HasFrame}
use Rattle.c_stmts_agree.specs.CheckedParts.{SwitchesLead}
use Rattle.c_stmts_agree.specs.Parts.{ValueAgrees, SearchAgrees}

-- Where the value of a switch is lowered, and the numbers of its cases are apart, its search leads to where C goes: through tests, and through tables of labels.
abbrev pub SearchesAgree : Type 0
SearchesAgree =
    (p : Activation) → HasFrame p → AreMarkedOnce p.scene.body → (f : Function) (x : CoreTree) (cases : List CoreCase) (default : Option ℕ)
    → ValueAgrees p f x → AreWords cases → are_apart (numbers cases) ≡ true → SearchAgrees p f x cases default

-- So it does for each switch of a checked function.
abbrev pub CheckedSwitchesLead : Type 0
CheckedSwitchesLead = (p : Activation) → HasFrame p → AreMarkedOnce p.scene.body → (f : Function) (u : UnitTree) (g : FunctionTree) → SwitchesLead p f u g
