-- That a reader gives each piece of a production, and nothing else.
-- Source: C89 3.3 to 3.5.
use Rattle.std.specs.Prelude.{◌≡◌, ◌≤◌, ◌↔◌, ◌+◌, ℕ, length, Bool, true, false, Some, None, List, [], ◌∷◌}
use Rattle.c_ast.specs.Lexemes.{Lexeme, Placed}
use Rattle.c_ast.specs.Marks.{Mark, Runs, next}
use Rattle.c_ast.specs.Trees.{ExprTree, DeclaratorTree}
use Rattle.c_ast.specs.ExprMarks as marks
use Rattle.c_ast.specs.Levels.{rank, Parts, FitsTypeName, FitsSpecifiers, FitsMember, FitsDeclarator, is_named}
use Rattle.c_ast.specs.Heights.{height, type_name_height, specifiers_height, member_height, declarator_height}
use Rattle.c_ast.specs.Reach.{goes_on, goes_on_whole}
use Rattle.c_readings.specs.Reading.{State, Read}
use Rattle.c_readings.specs.Readers.{Readers, type_name, specifiers}

abbrev pub RunsOn : List Mark → State → Type 0
RunsOn ms s = Runs ms s.names s.rest

-- this was read, and the marks run behind it
abbrev pub Finds : {A : Type 0} → Read A → A → List Mark → Type 0
Finds None x r = ⊥
Finds (Some p) x r = (p.0 ≡ x) × RunsOn r p.1

-- the next token doesn't go on from the tree
abbrev pub Ends : {A : Type 0} → (A → Lexeme → Bool) → A → List Placed → Type 0
Ends goes_on x [] = Unit {0}
Ends goes_on x (t ∷ ts) = goes_on x t.lexeme ≡ false

-- the same of what is next among marks
abbrev pub Stops : {A : Type 0} → (A → Lexeme → Bool) → A → List Mark → Type 0
Stops goes_on x r = (l : Lexeme) → next r ≡ Some l → goes_on x l ≡ false

-- from the state on stands the tree, which fits, is no higher than the limit, and has at least so many tokens; behind it is the
-- state t, where nothing goes on from it
pub record IsPiece {A : Type 0} (spelled : A → List Mark → List Mark) (Fits : A → Type 0) (goes_on : A → Lexeme → Bool) (high : A → ℕ) (limit least : ℕ) (s : State) (x : A) (t : State) : Type 0 where
  pub fits : Fits x
  pub low : high x ≤ limit
  pub ends : Ends goes_on x t.rest
  pub used : length t.rest + least ≤ length s.rest
  pub runs : (r : List Mark) → RunsOn (spelled x r) s ↔ RunsOn r t

-- the reader gives pieces alone, and each piece
pub record Exact {A : Type 0} (spelled : A → List Mark → List Mark) (Fits : A → Type 0) (goes_on : A → Lexeme → Bool) (high : A → ℕ) (limit least : ℕ) (read : State → Read A) : Type 0 where
  pub piece : (s : State) (x : A) (t : State) → read s ≡ Some (x, t) → IsPiece spelled Fits goes_on high limit least s x t
  pub found : (s : State) (x : A) (r : List Mark) → Fits x → high x ≤ limit → Stops goes_on x r → RunsOn (spelled x r) s → Finds (read s) x r

-- no token goes on from a tree
abbrev pub nothing_more : {A : Type 0} → A → Lexeme → Bool
nothing_more x l = false

abbrev pub FitsAt : ℕ → ExprTree → Type 0
FitsAt level e = (level ≤ rank e) × Parts e

-- a declarator whose name isn't left out has one
abbrev pub FitsFree : Bool → DeclaratorTree → Type 0
FitsFree true d = FitsDeclarator d
FitsFree false d = (is_named d ≡ true) × FitsDeclarator d

-- nothing where nothing is left
abbrev pub where_left : {A : Type 0} → List Placed → Read A → Read A
where_left [] o = None
where_left (t ∷ ts) o = o

-- the readers up to a limit are exact, that of declarators where a token is left
pub record AreExact (R : Readers) : Type 0 where
  pub piece : (level : ℕ) → 1 ≤ level → level ≤ 15 → Exact marks.expr (FitsAt level) (goes_on level) height R.limit 1 (R.piece level)
  pub whole : Exact marks.expr Parts goes_on_whole height R.limit 1 R.whole
  pub declarator : (free outer : Bool) → Exact (marks.declarator free outer) (FitsFree free) nothing_more declarator_height R.limit 0 (λ s. where_left s.rest (R.declarator free outer s))
  pub no_longer : (free outer : Bool) (s : State) (x : DeclaratorTree) (t : State) → R.declarator free outer s ≡ Some (x, t) → length t.rest ≤ length s.rest
  pub member : Exact marks.member FitsMember nothing_more member_height R.limit 1 R.member

-- and so are those of specifiers and of type names
pub record TypesAreExact (R : Readers) : Type 0 where
  pub specifiers : Exact marks.specifiers FitsSpecifiers nothing_more specifiers_height R.limit 1 (specifiers R)
  pub type_name : Exact marks.type_name FitsTypeName nothing_more type_name_height R.limit 1 (type_name R)
