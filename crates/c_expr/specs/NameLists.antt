-- Lists of names in parentheses, as an old function's parameters have them.
use Rattle.std.specs.Prelude.{Bool, true, false}
use Rattle.c_ast.specs.Trees.{SuffixTree, ArraySuffix, Prototype, NameList, NoParameters}

abbrev pub is_name_list : SuffixTree → Bool
is_name_list (ArraySuffix l e) = false
is_name_list (Prototype l ps more) = false
is_name_list (NameList l ns) = true
is_name_list (NoParameters l) = false
