-- Returns: a scalar as a word; a structure is copied to the object whose address is the hidden first argument.
-- Source: ISO/IEC 9899:1990, 5.1.2.2.3, 6.6.6.4; Fraser and Hanson, A Retargetable C Compiler, chapter 5 (RET).
use Rattle.std.specs.Prelude.{pos, Bool, true, false, Option, Some, None}
use Rattle.op_forest.specs.declared.op.Op.TheVariants as op
use Rattle.op_forest.specs.declared.suffix.Suffix.TheVariants.{I}
use Rattle.c_meaning.specs.Types.{is_record}
use Rattle.c_meaning.specs.Values.{CoreTree}
use Rattle.c_rows_agree.specs.Places.{loaded_pointer}
use Rattle.c_rows_agree.specs.Typed.{Typed, head, constant_i, as_i}
use Rattle.lowered_forms.specs.Accesses.{copied}
use Rattle.lowered_forms.specs.Expressions.{low_e}
use Rattle.lowered_forms.specs.Lows.{Low, acted_one}
use Rattle.lowered_forms.specs.Places.{parameter}
use Rattle.lowered_forms.specs.Tests.{then_branched}
use Rattle.lowered_statements.specs.Bodies.{returned}
use Rattle.lowered_statements.specs.Functions.{Function}

-- the place for a structure result
abbrev pub hidden : Typed
hidden = loaded_pointer (parameter (pos 0))

abbrev pub given_by : Bool → Function → Typed → Low → Low
given_by true f v l = returned (copied f.context.unit.tags f.result hidden v l)
given_by false f v l = acted_one (head op.Ret I) (as_i v) l

-- no value, or 0
abbrev pub nothing_given : Bool → Low → Low
nothing_given true l = acted_one (head op.Ret I) (constant_i 0) l
nothing_given false l = returned l

abbrev pub return_row : Function → Option CoreTree → Low → Low
return_row f None l = nothing_given f.gives_zero l
return_row f (Some e) l = then_branched (low_e f.context e l) (λ v l1. given_by (is_record f.result) f v l1)

-- at a function's end
abbrev pub end_by : Bool → Low → Low
end_by true l = nothing_given true l
end_by false l = l
