-- The marks of declarations, initialisers, statements and units, and others behind them.
-- Source: C89 3.5 to 3.7.
use Rattle.std.specs.Prelude.{Bool, true, false, Option, Some, None, List, [], ◌∷◌}
use Rattle.c_ast.specs.Lexemes.{Name, Keyword, Sign}
use Rattle.c_ast.specs.Marks.{Mark, Tok, Here, Ask, Open, Close, Reopen, Forget, IsSpecifier, IsDeclaration, IsLabel, IsSign, IsKeyword}
use Rattle.c_ast.specs.ExprMarks.{expr, maybe_expr, specifiers, declarator, declared_name, has_typedef, put_then, end_then}
use Rattle.c_ast.specs.Trees.{DeclaratorTree, InitialiserTree, ByExpr, Braced, InitialiserTrees, NoInitialisers, Initialisers, InitTree, SpecifiersTree, DeclarationTree, StatementTree, Label, Case, Default, Expression, Compound, If, IfElse, Switch, While, Do, For, Goto, Continue, Break, Return, StatementTrees, NoStatements, Statements, BlockTree, Block, ExternalTree, Function, Declares, Empty, UnitTree}
use Rattle.c_ast.specs.Signs.{open_parenthesis, close_parenthesis, open_brace, close_brace, colon_sign, semicolon, equals_sign, comma_sign}
use Rattle.c_ast.specs.Keywords.{break_word, case_word, continue_word, default_word, do_word, else_word, for_word, goto_word, if_word, return_word, switch_word, while_word}

abbrev mutual
  pub initialiser : InitialiserTree → List Mark → List Mark
  initialiser (ByExpr l e) r = Here l ∷ Ask (IsSign open_brace) false ∷ expr e r
  initialiser (Braced l is comma) r = Here l ∷ Tok (Sign open_brace) ∷ initialisers is comma r

  pub initialisers : InitialiserTrees → Bool → List Mark → List Mark
  initialisers NoInitialisers comma r = end_then comma r
  initialisers (Initialisers i is) comma r = initialiser i (more_initialisers is comma r)

  pub more_initialisers : InitialiserTrees → Bool → List Mark → List Mark
  more_initialisers NoInitialisers comma r = end_then comma r
  more_initialisers (Initialisers i is) comma r = Tok (Sign comma_sign) ∷ Ask (IsSign close_brace) false ∷ initialiser i (more_initialisers is comma r)

abbrev pub maybe_initialiser : Option InitialiserTree → List Mark → List Mark
maybe_initialiser None r = Ask (IsSign equals_sign) false ∷ r
maybe_initialiser (Some i) r = Tok (Sign equals_sign) ∷ initialiser i r

-- a declarator that is no part of another; its name is in force from its end
abbrev pub whole_declarator : DeclaratorTree → Bool → List Mark → List Mark
whole_declarator d typedef r = Forget ∷ declarator false true d (put_then (declared_name d) typedef r)

abbrev pub init : Bool → InitTree → List Mark → List Mark
init typedef i r = Here i.line ∷ whole_declarator i.declarator typedef (maybe_initialiser i.initialiser r)

abbrev pub more_inits : Bool → List InitTree → List Mark → List Mark
more_inits typedef [] r = Tok (Sign semicolon) ∷ r
more_inits typedef (i ∷ is) r = Tok (Sign comma_sign) ∷ init typedef i (more_inits typedef is r)

abbrev pub inits : Bool → List InitTree → List Mark → List Mark
inits typedef [] r = Tok (Sign semicolon) ∷ r
inits typedef (i ∷ is) r = Ask (IsSign semicolon) false ∷ init typedef i (more_inits typedef is r)

abbrev pub declaration : DeclarationTree → List Mark → List Mark
declaration d r = Here d.line ∷ specifiers d.specifiers (inits (has_typedef d.specifiers) d.declarators r)

abbrev pub declarations : List DeclarationTree → List Mark → List Mark
declarations [] r = Ask IsDeclaration false ∷ r
declarations (d ∷ ds) r = Ask IsDeclaration true ∷ declaration d (declarations ds r)

abbrev mutual
  pub statement : StatementTree → List Mark → List Mark
  statement (Label l n s) r = Here l ∷ Ask IsLabel true ∷ Tok (Name n) ∷ Tok (Sign colon_sign) ∷ statement s r
  statement (Case l e s) r = Here l ∷ Tok (Keyword case_word) ∷ expr e (Tok (Sign colon_sign) ∷ statement s r)
  statement (Default l s) r = Here l ∷ Tok (Keyword default_word) ∷ Tok (Sign colon_sign) ∷ statement s r
  statement (Expression l e) r = Here l ∷ Ask IsLabel false ∷ maybe_expr e (Tok (Sign semicolon) ∷ r)
  statement (Compound l b) r = Here l ∷ block b r
  statement (If l e s) r = Here l ∷ Tok (Keyword if_word) ∷ Tok (Sign open_parenthesis) ∷ expr e (Tok (Sign close_parenthesis) ∷ statement s (Ask (IsKeyword else_word) false ∷ r))
  statement (IfElse l e s t) r = Here l ∷ Tok (Keyword if_word) ∷ Tok (Sign open_parenthesis) ∷ expr e (Tok (Sign close_parenthesis) ∷ statement s (Tok (Keyword else_word) ∷ statement t r))
  statement (Switch l e s) r = Here l ∷ Tok (Keyword switch_word) ∷ Tok (Sign open_parenthesis) ∷ expr e (Tok (Sign close_parenthesis) ∷ statement s r)
  statement (While l e s) r = Here l ∷ Tok (Keyword while_word) ∷ Tok (Sign open_parenthesis) ∷ expr e (Tok (Sign close_parenthesis) ∷ statement s r)
  statement (Do l s e) r = Here l ∷ Tok (Keyword do_word) ∷ statement s (Tok (Keyword while_word) ∷ Tok (Sign open_parenthesis) ∷ expr e (Tok (Sign close_parenthesis) ∷ Tok (Sign semicolon) ∷ r))
  statement (For l a b c s) r = Here l ∷ Tok (Keyword for_word) ∷ Tok (Sign open_parenthesis) ∷ maybe_expr a (Tok (Sign semicolon) ∷ maybe_expr b (Tok (Sign semicolon) ∷ maybe_expr c (Tok (Sign close_parenthesis) ∷ statement s r)))
  statement (Goto l n) r = Here l ∷ Tok (Keyword goto_word) ∷ Tok (Name n) ∷ Tok (Sign semicolon) ∷ r
  statement (Continue l) r = Here l ∷ Tok (Keyword continue_word) ∷ Tok (Sign semicolon) ∷ r
  statement (Break l) r = Here l ∷ Tok (Keyword break_word) ∷ Tok (Sign semicolon) ∷ r
  statement (Return l e) r = Here l ∷ Tok (Keyword return_word) ∷ maybe_expr e (Tok (Sign semicolon) ∷ r)

  pub statements : StatementTrees → List Mark → List Mark
  statements NoStatements r = r
  statements (Statements s ss) r = Ask (IsSign close_brace) false ∷ statement s (statements ss r)

  pub block : BlockTree → List Mark → List Mark
  block (Block l ds ss) r = Here l ∷ Tok (Sign open_brace) ∷ Open ∷ declarations ds (statements ss (Tok (Sign close_brace) ∷ Close ∷ r))

-- the parameters' scope is the body's
abbrev pub function_body : BlockTree → List Mark → List Mark
function_body (Block l ds ss) r = Here l ∷ Tok (Sign open_brace) ∷ declarations ds (statements ss (Tok (Sign close_brace) ∷ Close ∷ r))

abbrev pub maybe_specifiers : Option SpecifiersTree → List Mark → List Mark
maybe_specifiers None r = Ask (IsSpecifier false) false ∷ r
maybe_specifiers (Some s) r = specifiers s r

abbrev pub maybe_typedef : Option SpecifiersTree → Bool
maybe_typedef None = false
maybe_typedef (Some s) = has_typedef s

abbrev pub external : ExternalTree → List Mark → List Mark
external (Function l s d ps b) r = Here l ∷ maybe_specifiers s (whole_declarator d (maybe_typedef s) (Reopen ∷ declarations ps (function_body b r)))
external (Declares l d) r = Here l ∷ declaration d r
external (Empty l) r = Here l ∷ Tok (Sign semicolon) ∷ r

abbrev pub externals : List ExternalTree → List Mark → List Mark
externals [] r = r
externals (x ∷ xs) r = external x (externals xs r)

abbrev pub unit : UnitTree → List Mark
unit u = Here u.line ∷ externals u.externals []
