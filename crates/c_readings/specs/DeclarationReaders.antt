-- What a reader of initialisers and declarations gives, for trees up to a limit; R n reads their expressions, specifiers
-- and declarators up to n.
-- Source: C89 3.5 and 3.5.7.
use Rattle.std.specs.Prelude.{ℕ, zero, suc, Bool, true, false, Option, Some, None, List, [], ◌∷◌}
use Rattle.c_ast.specs.Marks.{IsSign, IsDeclaration}
use Rattle.c_ast.specs.ExprMarks.{declared_name, has_typedef}
use Rattle.c_ast.specs.UnitViews.{initialisers_of}
use Rattle.c_ast.specs.Trees.{SpecifiersTree, DeclaratorTree, InitialiserTree, ByExpr, Braced, InitialiserTrees, InitTree, DeclarationTree}
use Rattle.c_ast.specs.Signs.{open_brace, close_brace, semicolon, equals_sign, comma_sign}
use Rattle.c_ast.specs.Operators.{assignment_level}
use Rattle.c_readings.specs.Reading.{State, Read, gives, bind, ask, answer, here, beyond, one_sign, put_state, forget_state, all_of, commas}
use Rattle.c_readings.specs.Readers.{Readers, specifiers, goes_on_without}
use Rattle.c_readings.specs.Exact.{where_left}

-- ---- initialisers

-- behind `{`, and whether a comma stands before `}`
unfoldable pub initialisers : (State → Read InitialiserTree) → State → Read (InitialiserTrees × Bool)
initialisers item s =
    bind (item s) (λ i t. bind (all_of (λ b u. goes_on_without close_brace u) (λ b u. item (beyond u)) (λ b x. b) true t) (λ is u.
    ask (IsSign comma_sign) u
    (one_sign close_brace (beyond u) (λ v. gives (initialisers_of (i ∷ is), true) v))
    (one_sign close_brace u (λ v. gives (initialisers_of (i ∷ is), false) v))))

abbrev pub initialiser_above : (ℕ → Readers) → ℕ → (State → Read InitialiserTree) → State → Read InitialiserTree
initialiser_above R n item s =
    ask (IsSign open_brace) s
    (bind (initialisers item (beyond s)) (λ is t. gives (Braced (here s) is.0 is.1) t))
    (bind ((R n).piece assignment_level s) (λ e t. gives (ByExpr (here s) e) t))

unfoldable pub initialiser : (ℕ → Readers) → ℕ → State → Read InitialiserTree
initialiser R zero s = None
initialiser R (suc n) s = initialiser_above R n (λ t. initialiser R n t) s

unfoldable pub maybe_initialiser : (ℕ → Readers) → ℕ → State → Read (Option InitialiserTree)
maybe_initialiser R n s = ask (IsSign equals_sign) s (bind (initialiser R n (beyond s)) (λ i t. gives (Some i) t)) (gives None s)

-- ---- declarators

-- a declarator that is no part of another, whose name is in force from its end
unfoldable pub whole_declarator : (ℕ → Readers) → ℕ → Bool → State → Read DeclaratorTree
whole_declarator R n typedef s =
    bind (where_left s.rest ((R n).declarator false true (forget_state s))) (λ d t. gives d (put_state (declared_name d) typedef t))

-- an initialiser, or none, behind the declarator on this line
unfoldable pub init_behind : (ℕ → Readers) → ℕ → ℕ → DeclaratorTree → State → Read InitTree
init_behind R n line d s = bind (maybe_initialiser R n s) (λ i t. gives record { line = line; declarator = d; initialiser = i } t)

unfoldable pub init : (ℕ → Readers) → ℕ → Bool → State → Read InitTree
init R n typedef s = bind (whole_declarator R n typedef s) (λ d t. init_behind R n (here s) d t)

-- the rest of a declaration behind its first declarator
unfoldable pub inits_behind : (ℕ → Readers) → ℕ → Bool → ℕ → DeclaratorTree → State → Read (List InitTree)
inits_behind R n typedef line d s =
    bind (init_behind R n line d s) (λ i t. bind (commas (init R n typedef) t) (λ is u. one_sign semicolon u (λ v. gives (i ∷ is) v)))

unfoldable pub inits : (ℕ → Readers) → ℕ → Bool → State → Read (List InitTree)
inits R n typedef s =
    ask (IsSign semicolon) s
    (gives [] (beyond s))
    (bind (whole_declarator R n typedef s) (λ d t. inits_behind R n typedef (here s) d t))

-- ---- declarations

unfoldable pub low_specifiers : (ℕ → Readers) → ℕ → State → Read SpecifiersTree
low_specifiers R n s = specifiers (R n) s

unfoldable pub declaration : (ℕ → Readers) → ℕ → State → Read DeclarationTree
declaration R zero s = None
declaration R (suc n) s =
    bind (low_specifiers R n s) (λ ss t. bind (inits R n (has_typedef ss) t) (λ is u.
    gives record { line = here s; specifiers = ss; declarators = is } u))

-- as long as one is next
unfoldable pub declarations : (ℕ → Readers) → ℕ → State → Read (List DeclarationTree)
declarations R n s = all_of (λ b t. answer IsDeclaration t) (λ b t. declaration R n t) (λ b x. b) true s
