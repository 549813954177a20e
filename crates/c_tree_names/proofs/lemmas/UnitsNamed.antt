-- The names of initialisers, declarations, statements and units are those among their marks.
use Rattle.std.specs.Prelude.{Bool, Option, Some, None, List, [], ◌∷◌}
use Rattle.c_ast.specs.Marks.{Mark, Reopen}
use Rattle.c_ast.specs.ExprMarks.{has_typedef, declared_name}
use Rattle.c_ast.specs.UnitMarks.{initialiser, initialisers, more_initialisers, maybe_initialiser, whole_declarator, init, more_inits, inits, declaration, declarations, statement, statements, block, function_body, maybe_specifiers, maybe_typedef, external, externals, unit}
use Rattle.c_ast.specs.Trees.{DeclaratorTree, InitialiserTree, ByExpr, Braced, InitialiserTrees, NoInitialisers, Initialisers, InitTree, SpecifiersTree, DeclarationTree, StatementTree, Label, Case, Default, Expression, Compound, If, IfElse, Switch, While, Do, For, Goto, Continue, Break, Return, StatementTrees, NoStatements, Statements, BlockTree, Block, ExternalTree, Function, Declares, Empty, UnitTree}
use Rattle.c_tree_names.specs.Names.{DeclaratorNames, InitialiserNames, AllInitialiserNames, MaybeInitialiserNames, InitNames, AllInitNames, DeclarationNames, AllDeclarationNames, StatementNames, AllStatementNames, BlockNames, MaybeSpecifiersNames, ExternalNames, AllExternalNames, HasNames}
use Rattle.c_tree_names.proofs.lemmas.Named.{Named, behind_end, behind_put}
use Rattle.c_tree_names.proofs.lemmas.ExprsNamed.{expr_named, maybe_named, specifiers_named, declarator_named}

-- ---- initialisers and declarations

mutual
  initialiser_named : (i : InitialiserTree) (r : List Mark) → Named (initialiser i r) → InitialiserNames i × Named r
  initialiser_named (ByExpr l e) r h = expr_named e r h
  initialiser_named (Braced l is comma) r h = initialisers_named is comma r h.1

  initialisers_named : (is : InitialiserTrees) (comma : Bool) (r : List Mark) → Named (initialisers is comma r) → AllInitialiserNames is × Named r
  initialisers_named NoInitialisers comma r h = (tt, behind_end comma r h)
  initialisers_named (Initialisers i is) comma r h =
      let p = initialiser_named i _ h in
      let q = more_initialisers_named is comma r p.1 in
      ((p.0, q.0), q.1)

  more_initialisers_named : (is : InitialiserTrees) (comma : Bool) (r : List Mark) → Named (more_initialisers is comma r) → AllInitialiserNames is × Named r
  more_initialisers_named NoInitialisers comma r h = (tt, behind_end comma r h)
  more_initialisers_named (Initialisers i is) comma r h =
      let p = initialiser_named i _ h.1 in
      let q = more_initialisers_named is comma r p.1 in
      ((p.0, q.0), q.1)

maybe_initialiser_named : (i : Option InitialiserTree) (r : List Mark) → Named (maybe_initialiser i r) → MaybeInitialiserNames i × Named r
maybe_initialiser_named None r h = (tt, h)
maybe_initialiser_named (Some i) r h = initialiser_named i r h.1

whole_named : (d : DeclaratorTree) (typedef : Bool) (r : List Mark) → Named (whole_declarator d typedef r) → DeclaratorNames d × Named r
whole_named d typedef r h =
    let p = declarator_named d _ _ _ h in
    (p.0, behind_put (declared_name d) typedef r p.1)

init_named : (typedef : Bool) (i : InitTree) (r : List Mark) → Named (init typedef i r) → InitNames i × Named r
init_named typedef i r h =
    let p = whole_named i.declarator typedef _ h in
    let q = maybe_initialiser_named i.initialiser r p.1 in
    ((p.0, q.0), q.1)

more_inits_named : (typedef : Bool) (is : List InitTree) (r : List Mark) → Named (more_inits typedef is r) → AllInitNames is × Named r
more_inits_named typedef [] r h = (tt, h.1)
more_inits_named typedef (i ∷ is) r h =
    let p = init_named typedef i _ h.1 in
    let q = more_inits_named typedef is r p.1 in
    ((p.0, q.0), q.1)

inits_named : (typedef : Bool) (is : List InitTree) (r : List Mark) → Named (inits typedef is r) → AllInitNames is × Named r
inits_named typedef [] r h = (tt, h.1)
inits_named typedef (i ∷ is) r h =
    let p = init_named typedef i _ h in
    let q = more_inits_named typedef is r p.1 in
    ((p.0, q.0), q.1)

declaration_named : (d : DeclarationTree) (r : List Mark) → Named (declaration d r) → DeclarationNames d × Named r
declaration_named d r h =
    let p = specifiers_named d.specifiers _ h in
    let q = inits_named (has_typedef d.specifiers) d.declarators r p.1 in
    ((p.0, q.0), q.1)

declarations_named : (ds : List DeclarationTree) (r : List Mark) → Named (declarations ds r) → AllDeclarationNames ds × Named r
declarations_named [] r h = (tt, h)
declarations_named (d ∷ ds) r h =
    let p = declaration_named d _ h in
    let q = declarations_named ds r p.1 in
    ((p.0, q.0), q.1)

-- ---- statements

mutual
  statement_named : (s : StatementTree) (r : List Mark) → Named (statement s r) → StatementNames s × Named r
  statement_named (Label l n s) r h = statement_named s r h.1.1
  statement_named (Case l e s) r h =
      let p = expr_named e _ h.1 in
      let q = statement_named s r p.1.1 in
      ((p.0, q.0), q.1)
  statement_named (Default l s) r h = statement_named s r h.1.1
  statement_named (Expression l e) r h =
      let p = maybe_named e _ h in
      (p.0, p.1.1)
  statement_named (Compound l b) r h = block_named b r h
  statement_named (If l e s) r h =
      let p = expr_named e _ h.1.1 in
      let q = statement_named s _ p.1.1 in
      ((p.0, q.0), q.1)
  statement_named (IfElse l e s t) r h =
      let p = expr_named e _ h.1.1 in
      let q = statement_named s _ p.1.1 in
      let k = statement_named t r q.1.1 in
      ((p.0, (q.0, k.0)), k.1)
  statement_named (Switch l e s) r h =
      let p = expr_named e _ h.1.1 in
      let q = statement_named s r p.1.1 in
      ((p.0, q.0), q.1)
  statement_named (While l e s) r h =
      let p = expr_named e _ h.1.1 in
      let q = statement_named s r p.1.1 in
      ((p.0, q.0), q.1)
  statement_named (Do l s e) r h =
      let p = statement_named s _ h.1 in
      let q = expr_named e _ p.1.1.1 in
      ((p.0, q.0), q.1.1.1)
  statement_named (For l a b c s) r h =
      let p = maybe_named a _ h.1.1 in
      let q = maybe_named b _ p.1.1 in
      let k = maybe_named c _ q.1.1 in
      let m = statement_named s r k.1.1 in
      ((p.0, (q.0, (k.0, m.0))), m.1)
  statement_named (Goto l n) r h = (tt, h.1.1.1)
  statement_named (Continue l) r h = (tt, h.1.1)
  statement_named (Break l) r h = (tt, h.1.1)
  statement_named (Return l e) r h =
      let p = maybe_named e _ h.1 in
      (p.0, p.1.1)

  statements_named : (ss : StatementTrees) (r : List Mark) → Named (statements ss r) → AllStatementNames ss × Named r
  statements_named NoStatements r h = (tt, h)
  statements_named (Statements s ss) r h =
      let p = statement_named s _ h in
      let q = statements_named ss r p.1 in
      ((p.0, q.0), q.1)

  block_named : (b : BlockTree) (r : List Mark) → Named (block b r) → BlockNames b × Named r
  block_named (Block l ds ss) r h =
      let p = declarations_named ds _ h.1 in
      let q = statements_named ss _ p.1 in
      ((p.0, q.0), q.1.1)

-- ---- units

body_named : (b : BlockTree) (r : List Mark) → Named (function_body b r) → BlockNames b × Named r
body_named (Block l ds ss) r h =
    let p = declarations_named ds _ h.1 in
    let q = statements_named ss _ p.1 in
    ((p.0, q.0), q.1.1)

maybe_specifiers_named : (s : Option SpecifiersTree) (r : List Mark) → Named (maybe_specifiers s r) → MaybeSpecifiersNames s × Named r
maybe_specifiers_named None r h = (tt, h)
maybe_specifiers_named (Some s) r h = specifiers_named s r h

external_named : (x : ExternalTree) (r : List Mark) → Named (external x r) → ExternalNames x × Named r
external_named (Function l s d ps b) r h =
    let p = maybe_specifiers_named s _ h in
    let q = whole_named d (maybe_typedef s) (Reopen ∷ _) p.1 in
    let k = declarations_named ps _ q.1 in
    let m = body_named b r k.1 in
    ((p.0, (q.0, (k.0, m.0))), m.1)
external_named (Declares l d) r h = declaration_named d r h
external_named (Empty l) r h = (tt, h.1)

externals_named : (xs : List ExternalTree) (r : List Mark) → Named (externals xs r) → AllExternalNames xs × Named r
externals_named [] r h = (tt, h)
externals_named (x ∷ xs) r h =
    let p = external_named x _ h in
    let q = externals_named xs r p.1 in
    ((p.0, q.0), q.1)

pub unit_named : (u : UnitTree) → Named (unit u) → HasNames u
unit_named u h = (externals_named u.externals [] h).0
