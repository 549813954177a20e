-- What a fault of a source gives as the answer to it: the refusal that tells its line with its name, its constraint or its
-- limit. Want of memory is no refusal.
use Rattle.c_lexer.specs.declared.lex_fault.LexFaultKind.{LexFaultKind}
use Rattle.c_lexer.specs.declared.lex_fault.LexFaultKind.TheVariants as lexer
use Rattle.c_expr.specs.declared.syntax_fault.SyntaxFault.{SyntaxFault}
use Rattle.c_expr.specs.declared.syntax_fault.SyntaxFault.TheVariants as syntax
use Rattle.c_meaning.specs.Constraints.{Fault, Breaks, Passes}
use Rattle.c_values.specs.declared.check_fault.CheckFault.{CheckFault}
use Rattle.c_values.specs.declared.check_fault.CheckFault.TheVariants as check
use Rattle.outcomes.specs.declared.fault_name.FaultName.{FaultName}
use Rattle.outcomes.specs.declared.fault_name.FaultName.TheVariants as name
use Rattle.outcomes.specs.declared.outcome.Refusal.{Refusal}
use Rattle.outcomes.specs.declared.outcome.Refusal.TheVariants as refusal
use Rattle.ceval_tool.specs.declared.source_fault.SourceFault.{SourceFault}
use Rattle.ceval_tool.specs.declared.source_fault.SourceFault.TheVariants.{Refused, Memory}

abbrev pub lexer_name : LexFaultKind → FaultName
lexer_name lexer.BadByte = name.BadByte
lexer_name lexer.BadConstant = name.BadConstant
lexer_name lexer.OpenComment = name.OpenComment
lexer_name lexer.OpenText = name.OpenText
lexer_name lexer.FloatConstant = name.FloatConstant
lexer_name lexer.WideConstant = name.WideConstant

-- a source that denotes no unit
abbrev pub of_syntax : SyntaxFault → SourceFault
of_syntax (syntax.NoParse n) = Refused (refusal.Fault n name.NoParse)
of_syntax syntax.Memory = Memory
of_syntax (syntax.Lex f) = Refused (refusal.Fault f.line (lexer_name f.kind))

-- a unit that isn't checked to its end
abbrev pub of_check : CheckFault → SourceFault
of_check (check.Constraint number n) = Refused (refusal.Constraint n number)
of_check (check.Limit limit n) = Refused (refusal.Limit n limit)
of_check check.Memory = Memory

-- a constraint that is broken, or a limit that is passed
abbrev pub of_first : Fault → Refusal
of_first (Breaks number n) = refusal.Constraint n number
of_first (Passes limit n) = refusal.Limit n limit
