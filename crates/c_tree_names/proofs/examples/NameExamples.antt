-- Examples: a unit whose names are C's, and one with a name that has a blank.
use Rattle.std.specs.Prelude.{ℕ, None, List, [], ◌∷◌, codes, refl}
use Rattle.c_ast.specs.declared.specifier.BasicType.TheVariants as basic
use Rattle.c_ast.specs.Trees.{Basic, Specified, Specifiers, NoSpecifiers, Declarator, Named, NoSuffixes, Declares, UnitTree}
use Rattle.c_tree_names.specs.Names.{IsName, HasNames}

-- int NAME;
abbrev declaring : List ℕ → UnitTree
declaring name =
    record {
      line = 1;
      externals =
          Declares 1
          (record {
            line = 1;
            specifiers = Specified 1 (Specifiers (Basic 1 basic.Int) NoSpecifiers);
            declarators = record { line = 1; declarator = Declarator 1 [] (Named name) NoSuffixes; initialiser = None } ∷ [];
          })
          ∷ [];
    }

named : HasNames (declaring (codes "row_2"))
named = (((tt, tt), (((refl, tt), tt), tt)), tt)

blank_in_name : HasNames (declaring (codes "row 2")) → ⊥
blank_in_name h = absurd Prim.cc

no_letters : IsName [] → ⊥
no_letters h = absurd Prim.cc
