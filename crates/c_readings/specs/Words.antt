-- What keywords begin in specifiers, and signs before operands.
-- Source: C89 3.3.3 and 3.5.
use Rattle.std.specs.Prelude.{ℕ, ◌==◌, if◌then◌else◌, Option, Some, None}
use Rattle.c_ast.specs.declared.operator.PrefixOperator.{PrefixOperator}
use Rattle.c_ast.specs.declared.operator.PrefixOperator.TheVariants as prefix
use Rattle.c_ast.specs.declared.specifier.Storage.{Storage}
use Rattle.c_ast.specs.declared.specifier.Storage.TheVariants as storage
use Rattle.c_ast.specs.declared.specifier.Qualifier.{Qualifier}
use Rattle.c_ast.specs.declared.specifier.Qualifier.TheVariants as qualifier
use Rattle.c_ast.specs.declared.specifier.BasicType.{BasicType}
use Rattle.c_ast.specs.declared.specifier.BasicType.TheVariants as basic
use Rattle.c_ast.specs.declared.specifier.RecordKind.{RecordKind}
use Rattle.c_ast.specs.declared.specifier.RecordKind.TheVariants as record_kind
use Rattle.c_ast.specs.Signs.{increment_sign, decrement_sign, ampersand, star_sign, plus_sign, minus_sign, tilde, exclamation_mark}
use Rattle.c_ast.specs.Keywords.{auto_word, char_word, const_word, double_word, enum_word, extern_word, float_word, int_word, long_word, register_word, short_word, signed_word, static_word, struct_word, typedef_word, union_word, unsigned_word, void_word, volatile_word}

pub data Word : Type 0 where
  StorageWord : (s : Storage) → Word
  QualifierWord : (q : Qualifier) → Word
  BasicWord : (b : BasicType) → Word
  RecordWord : (k : RecordKind) → Word
  EnumWord : Word

abbrev pub word_of : ℕ → Option Word
word_of k =
    if k == auto_word then Some (StorageWord storage.Auto)
    else (if k == char_word then Some (BasicWord basic.Char)
    else (if k == const_word then Some (QualifierWord qualifier.Const)
    else (if k == double_word then Some (BasicWord basic.Double)
    else (if k == enum_word then Some EnumWord
    else (if k == extern_word then Some (StorageWord storage.Extern)
    else (if k == float_word then Some (BasicWord basic.Float)
    else (if k == int_word then Some (BasicWord basic.Int)
    else (if k == long_word then Some (BasicWord basic.Long)
    else (if k == register_word then Some (StorageWord storage.Register)
    else (if k == short_word then Some (BasicWord basic.Short)
    else (if k == signed_word then Some (BasicWord basic.Signed)
    else (if k == static_word then Some (StorageWord storage.Static)
    else (if k == struct_word then Some (RecordWord record_kind.Struct)
    else (if k == typedef_word then Some (StorageWord storage.Typedef)
    else (if k == union_word then Some (RecordWord record_kind.Union)
    else (if k == unsigned_word then Some (BasicWord basic.Unsigned)
    else (if k == void_word then Some (BasicWord basic.Void)
    else (if k == volatile_word then Some (QualifierWord qualifier.Volatile) else None))))))))))))))))))

abbrev pub prefix_of : ℕ → Option PrefixOperator
prefix_of k =
    if k == increment_sign then Some prefix.Increment
    else (if k == decrement_sign then Some prefix.Decrement
    else (if k == ampersand then Some prefix.Address
    else (if k == star_sign then Some prefix.Indirect
    else (if k == plus_sign then Some prefix.Plus
    else (if k == minus_sign then Some prefix.Minus
    else (if k == tilde then Some prefix.Complement
    else (if k == exclamation_mark then Some prefix.Not else None)))))))
