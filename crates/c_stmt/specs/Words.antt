-- What keywords begin in statements, as the parser holds it.
-- Source: C89 3.6.
use Rattle.std.specs.Prelude.{Option, Some, None}
use Rattle.c_readings.specs.StatementReaders.{StatementWord, CaseWord, DefaultWord, IfWord, SwitchWord, WhileWord, DoWord, ForWord, GotoWord, ContinueWord, BreakWord, ReturnWord}
use Rattle.c_stmt.specs.declared.words.Word.{Word}
use Rattle.c_stmt.specs.declared.words.Word.TheVariants as word

abbrev pub seen_word : Word → StatementWord
seen_word word.Case = CaseWord
seen_word word.Default = DefaultWord
seen_word word.If = IfWord
seen_word word.Switch = SwitchWord
seen_word word.While = WhileWord
seen_word word.Do = DoWord
seen_word word.For = ForWord
seen_word word.Goto = GotoWord
seen_word word.Continue = ContinueWord
seen_word word.Break = BreakWord
seen_word word.Return = ReturnWord

abbrev pub seen_if_any : Option Word → Option StatementWord
seen_if_any None = None
seen_if_any (Some w) = Some (seen_word w)
