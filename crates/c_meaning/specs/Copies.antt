-- The copies of structures that calls pass and give: one for each argument and each result of structure or union type. Each is a
-- local of the calling function, and a call names the one where its own begin.
-- Source: C89 3.3.2.2, 3.6.6.4: an argument is copied, and so is what is returned; one object stands for each copy of a call.
use Rattle.std.specs.Prelude.{ℕ, ◌+◌, Option, Some, None, List, [], ◌∷◌, ◌++◌, map, if◌then◌else◌}
use Rattle.c_types.specs.CType.{CType, unqualified}
use Rattle.c_meaning.specs.declared.core_expr.CoreKind.{CoreKind}
use Rattle.c_meaning.specs.declared.core_expr.CoreKind.TheVariants as kind
use Rattle.c_meaning.specs.CoreTrees.{Core, NoCore, Cores, type_of}
use Rattle.c_meaning.specs.StmtTrees.{FilledOf, StmtOf, Nothing, Expression, Initialise, Block, If, While, Do, For, Switch, Label, Goto, Break, Continue, Return, StmtsOf, NoStmt, Stmts}
use Rattle.c_meaning.specs.Types.{is_record}
use Rattle.c_meaning.specs.Values.{CoreTree, CoreTrees}

-- ---- the expressions of a statement, in the order of the text

abbrev pub maybe : Option CoreTree → List CoreTree
maybe None = []
maybe (Some e) = e ∷ []

abbrev mutual
  pub expressions : StmtOf CType → List CoreTree
  expressions Nothing = []
  expressions (Expression e) = e ∷ []
  expressions (Initialise local zero places) = map (λ (p : FilledOf CType). p.value) places
  expressions (Block first locals ss) = all_expressions ss
  expressions (If e s t) = e ∷ expressions s ++ expressions t
  expressions (While e s) = e ∷ expressions s
  expressions (Do s e) = expressions s ++ e ∷ []
  expressions (For a b c s) = maybe a ++ maybe b ++ maybe c ++ expressions s
  expressions (Switch e cases default s) = e ∷ expressions s
  expressions (Label n s) = expressions s
  expressions (Goto n) = []
  expressions Break = []
  expressions Continue = []
  expressions (Return e) = maybe e

  pub all_expressions : StmtsOf CType → List CoreTree
  all_expressions NoStmt = []
  all_expressions (Stmts s ss) = expressions s ++ all_expressions ss

-- ---- copies

-- a local by its place among those of its function, and its type
pub record LocalAt : Type 0 where
  pub place : ℕ
  pub of : CType

-- locals of these types, one behind the other from a place on
abbrev pub locals_from : ℕ → List CType → List LocalAt
locals_from n [] = []
locals_from n (t ∷ ts) = record { place = n; of = t } ∷ locals_from (n + 1) ts

-- what is copied of values of these types: structures and unions, as wholes without qualifiers
abbrev pub copied : CType → List CType
copied t = if is_record t then unqualified t ∷ [] else []

abbrev pub all_copied : CoreTrees → List CType
all_copied NoCore = []
all_copied (Cores c cs) = copied (type_of c) ++ all_copied cs

-- a call's own copies: its arguments' in order, then its result's, from the local on that it names
abbrev pub own_copies : CoreKind → CType → CoreTrees → List LocalAt
own_copies (kind.Call copies) of (Cores f arguments) = locals_from copies (all_copied arguments ++ copied of)
own_copies what of kids = []

-- those of a whole expression, in the order of the text: a call's own before those of its parts
abbrev mutual
  pub copies_in : CoreTree → List LocalAt
  copies_in (Core what of line kids) = own_copies what of kids ++ copies_in_all kids

  pub copies_in_all : CoreTrees → List LocalAt
  copies_in_all NoCore = []
  copies_in_all (Cores c cs) = copies_in c ++ copies_in_all cs

abbrev pub all_copies : List CoreTree → List LocalAt
all_copies [] = []
all_copies (c ∷ cs) = copies_in c ++ all_copies cs
