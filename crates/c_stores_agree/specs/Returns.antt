-- Structures that are returned.
-- Source: ISO/IEC 9899:1990, 6.6.6.4; Fraser and Hanson, A Retargetable C Compiler, chapter 5 (RET).
use Rattle.std.specs.Prelude.{◌≡◌, true, Some}
use Rattle.objects.specs.declared.value.Value.{Value}
use Rattle.c_meaning.specs.Types.{is_record}
use Rattle.c_meaning.specs.Values.{CoreTree}
use Rattle.lowered_statements.specs.Functions.{Function}
use Rattle.c_stmt_agreement.specs.Comings.{Activation, HasFrame, Ending}
use Rattle.c_stmts_agree.specs.Parts.{ValueAgrees, ReturnAgreesBy}

-- The call copies a value of the function's result type to a place, whose address is behind the hidden word; the function knows the unit's structures.
pub record CopiesResult (p : Activation) (f : Function) (e : Ending) : Type 0 where
  pub place : Value
  pub copy : e.copy ≡ Some place
  pub result : p.result ≡ Some place
  pub of : e.of ≡ f.result
  pub tags : f.context.unit.tags ≡ p.scene.unit.tags

-- the lowering of the return stands for it, wherever it is done
abbrev pub StructureReturnsAgree : Type 0
StructureReturnsAgree = (p : Activation) → HasFrame p → (f : Function) (e : Ending) → is_record f.result ≡ true → CopiesResult p f e → (x : CoreTree) → ValueAgrees p f x → ReturnAgreesBy true p f e x
