-- What a keyword begins in specifiers, as the parser holds it.
-- Source: C89 3.5.
use Rattle.std.specs.Prelude.{Option, Some, None}
use Rattle.c_readings.specs.Words as words
use Rattle.c_expr.specs.declared.words.Word.{Word}
use Rattle.c_expr.specs.declared.words.Word.TheVariants as word

abbrev pub seen_word : Word → words.Word
seen_word (word.Storage s) = words.StorageWord s
seen_word (word.Qualifier q) = words.QualifierWord q
seen_word (word.Basic b) = words.BasicWord b
seen_word (word.Record k) = words.RecordWord k
seen_word word.Enum = words.EnumWord

abbrev pub seen_if_any : Option Word → Option words.Word
seen_if_any None = None
seen_if_any (Some w) = Some (seen_word w)
