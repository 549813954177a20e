-- Examples: what steps lead to, and which names stand in the function of the samples and where nothing is declared.
use Rattle.std.proofs.Common.{◌≡◌, ℕ, ◌≤◌, Bool, false, List, [], ◌∷◌, length, refl, arith}
use Rattle.std.specs.Prelude.{codes, Some}
use Rattle.c_ast.specs.Trees.{Name}
use Rattle.c_types.specs.CType.{CType, Char, Int, basic}
use Rattle.c_meaning.specs.declared.core_expr.CoreKind.TheVariants as kind
use Rattle.c_meaning.specs.CoreTrees.{Core, none, one}
use Rattle.c_meaning.specs.Constraints.{fault_at}
use Rattle.c_meaning.specs.Nodes as node
use Rattle.c_meaning.specs.Rows.{row}
use Rattle.c_meaning.specs.Samples.{sample}
use Rattle.c_meaning.specs.State.{State, entered, with_function}
use Rattle.c_meaning.specs.StmtTrees.{FilledOf, Block, Return, NoStmt, Stmts}
use Rattle.c_meaning.specs.TypeRows.{with_parameter}
use Rattle.c_meaning.specs.TypingRelation.{Types}
use Rattle.c_meaning.specs.Units.{text_type}
use Rattle.c_meaning.specs.Values.{CoreTree}
use Rattle.c_typing_steps.specs.Names.{EachName, EachNameIn, EachNameStored, Stands, StandsFor}
use Rattle.c_typing_steps.specs.Steps.{Steps, Call, StepsInside, Parameter}
use Rattle.c_typing_steps.proofs.lemmas.Keeping.{inside_keeps, local_stands, steps_keep}
use Rattle.c_typing_steps.proofs.lemmas.NamesWalk.{expr_names}

-- where nothing is declared
abbrev nothing : State
nothing = record { outer = []; inner = []; links = []; symbols = []; tags = []; count = 0 }

-- ---- steps

-- a call of `h` declares it
called : Steps sample (with_function sample 1 (codes "h"))
called = Call sample 1 (codes "h") refl refl refl

-- nothing is forgotten
not_forgotten : Steps sample nothing → ⊥
not_forgotten f = let l : length sample.symbols ≤ 0 = (steps_keep f).symbols.symbols in omega (arith, l)

-- a prototype's parameter `int n`
declared_inside : StepsInside (entered sample) (with_parameter (entered sample) 1 0 [] (Some (codes "n")) (basic Int))
declared_inside = Parameter (entered sample) 1 0 [] (Some (codes "n")) (basic Int) refl

not_forgotten_inside : StepsInside sample nothing → ⊥
not_forgotten_inside f = let l : length sample.symbols ≤ 0 = (inside_keeps f).symbols in omega (arith, l)

-- ---- names

-- `x` is a local object of the function
x_typed : Types sample (Name 1 (codes "x")) sample (row sample 1 (node.Name (codes "x")))
unfolding fault_at
x_typed = (refl, (refl, refl))

x_stands : EachName (StandsFor sample sample) (Core (kind.Local 0 false) (basic Int) 1 none)
x_stands = expr_names sample (Name 1 (codes "x")) sample (row sample 1 (node.Name (codes "x"))) refl x_typed

-- a name stands for no local object where nothing is declared
no_local_there : (place : ℕ) (register : Bool) (of : CType) → Stands nothing nothing (kind.Local place register) of → ⊥
no_local_there place register of h = let l = local_stands nothing nothing place register of (λ name id e. absurd (let none : ⊥ = cc in none)) h in let e = l.found in let never : ⊥ = cc in never

no_local_named : EachName (StandsFor nothing nothing) (Core kind.Pointed (basic Int) 1 (one (Core (kind.Local 0 false) (basic Int) 1 none))) → ⊥
no_local_named h = no_local_there 0 false (basic Int) h.1.0.0

-- a string literal has room for its bytes and a null
abbrev text : CType → CoreTree
text of = Core (kind.Literal (codes "ab")) of 1 none

text_stands : EachName (StandsFor nothing nothing) (text (text_type (codes "ab")))
text_stands = (refl, tt)

text_of_other_type : EachName (StandsFor nothing nothing) (text (basic Char)) → ⊥
text_of_other_type h = let e : basic Char ≡ text_type (codes "ab") = h.0 in let never : ⊥ = cc in never

-- ---- in what is stored, and in statements

abbrev stored : CoreTree → List (FilledOf CType)
stored c = record { of = basic Int; offset = 0; first = 0; width = 0; value = c } ∷ []

stored_stands : EachNameStored (StandsFor sample sample) (stored (Core (kind.Local 0 false) (basic Int) 1 none))
stored_stands = (x_stands, tt)

stored_not : EachNameStored (StandsFor nothing nothing) (stored (Core (kind.Local 0 false) (basic Int) 1 none)) → ⊥
stored_not h = no_local_there 0 false (basic Int) h.0.0

returned_stands : EachNameIn (StandsFor sample sample) (Block 0 0 (Stmts (Return (Some (Core (kind.Local 0 false) (basic Int) 1 none))) NoStmt))
returned_stands = (x_stands, tt)

returned_not : EachNameIn (StandsFor nothing nothing) (Block 0 0 (Stmts (Return (Some (Core (kind.Local 0 false) (basic Int) 1 none))) NoStmt)) → ⊥
returned_not h = no_local_there 0 false (basic Int) h.0.0
