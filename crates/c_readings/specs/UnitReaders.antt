-- What a reader of external declarations and units gives, for trees up to a limit; R n reads their expressions and
-- declarations up to n.
-- Source: C89 3.7.
use Rattle.std.specs.Prelude.{if◌then◌else◌, nat_lt, ◌-◌, ◌||◌, ℕ, zero, suc, Bool, true, false, Option, Some, None, List, [], ◌∷◌}
use Rattle.c_ast.specs.Lexemes.{Placed}
use Rattle.c_ast.specs.Marks.{IsSign, IsSpecifier}
use Rattle.c_ast.specs.ExprMarks.{has_typedef}
use Rattle.c_ast.specs.UnitMarks.{maybe_typedef}
use Rattle.c_ast.specs.Heights.{specifiers_height, declarator_height}
use Rattle.c_ast.specs.Trees.{SpecifiersTree, DeclaratorTree, BlockTree, ExternalTree, Function, Declares, Empty, UnitTree}
use Rattle.c_ast.specs.Signs.{open_brace, semicolon, equals_sign, comma_sign}
use Rattle.c_readings.specs.Reading.{State, Read, gives, bind, ask, answer, here, beyond, one_sign, reopen_state, all_of}
use Rattle.c_readings.specs.Readers.{Readers}
use Rattle.c_readings.specs.DeclarationReaders.{low_specifiers, whole_declarator, inits_behind, declarations}
use Rattle.c_readings.specs.StatementReaders.{block_inside, statement}

-- the parameters' scope is the body's
unfoldable pub function_body : (ℕ → Readers) → ℕ → State → Read BlockTree
function_body R zero s = None
function_body R (suc n) s = one_sign open_brace s (λ t. block_inside R n (statement R n) (here s) t)

-- behind the declarator of a function: declarations of its parameters, and its body
unfoldable pub function : (ℕ → Readers) → ℕ → ℕ → Option SpecifiersTree → DeclaratorTree → State → Read ExternalTree
function R n line ss d s = bind (declarations R n (reopen_state s)) (λ ps t. bind (function_body R n t) (λ b u. gives (Function line ss d ps b) u))

-- a declaration without declarators, which has specifiers and is no higher than n
abbrev pub declares_none : ℕ → ℕ → Option SpecifiersTree → State → Read ExternalTree
declares_none n line None s = None
declares_none n line (Some ss) s =
    if nat_lt (specifiers_height ss) n then gives (Declares line record { line = line; specifiers = ss; declarators = [] }) s else None

-- a declaration behind its first declarator, which has specifiers and is no higher than n
abbrev pub declares : (ℕ → Readers) → ℕ → ℕ → Option SpecifiersTree → ℕ → DeclaratorTree → State → Read ExternalTree
declares R n line None at d s = None
declares R n line (Some ss) at d s =
    if nat_lt (specifiers_height ss) n
    then
    (if nat_lt (declarator_height d) n
    then
    bind (inits_behind R (n - 1) (has_typedef ss) at d s) (λ is t.
    gives (Declares line record { line = line; specifiers = ss; declarators = is }) t)
    else None)
    else None

-- behind a first declarator: a declaration goes on
abbrev pub is_declaring : State → Bool
is_declaring s = answer (IsSign equals_sign) s || (answer (IsSign comma_sign) s || answer (IsSign semicolon) s)

-- behind a first declarator, which stands on this line
unfoldable pub external_by : (ℕ → Readers) → ℕ → ℕ → Option SpecifiersTree → ℕ → DeclaratorTree → State → Read ExternalTree
external_by R n line ss at d s =
    if is_declaring s
    then declares R n line ss at d s
    else function R n line ss d s

-- behind specifiers, or none
unfoldable pub external_behind : (ℕ → Readers) → ℕ → ℕ → Option SpecifiersTree → State → Read ExternalTree
external_behind R n line ss s =
    ask (IsSign semicolon) s
    (declares_none n line ss (beyond s))
    (bind (whole_declarator R n (maybe_typedef ss) s) (λ d t. external_by R n line ss (here s) d t))

unfoldable pub maybe_specifiers : (ℕ → Readers) → ℕ → State → Read (Option SpecifiersTree)
maybe_specifiers R n s = ask (IsSpecifier false) s (bind (low_specifiers R n s) (λ ss t. gives (Some ss) t)) (gives None s)

-- first: it is the first, so no lone `;`
unfoldable pub external : (ℕ → Readers) → ℕ → Bool → State → Read ExternalTree
external R zero first s = None
external R (suc n) first s =
    ask (IsSign semicolon) s
    (if first then None else gives (Empty (here s)) (beyond s))
    (bind (maybe_specifiers R n s) (λ ss t. external_behind R n (here s) ss t))

abbrev pub is_left : List Placed → Bool
is_left [] = false
is_left (t ∷ ts) = true

abbrev pub some_externals : ℕ → List ExternalTree → State → Read UnitTree
some_externals line [] s = None
some_externals line (x ∷ xs) s = gives record { line = line; externals = x ∷ xs } s

-- external declarations up to the end, at least one
unfoldable pub unit : (ℕ → Readers) → ℕ → State → Read UnitTree
unit R zero s = None
unit R (suc n) s =
    bind (all_of (λ first t. is_left t.rest) (λ first t. external R n first t) (λ first x. false) true s) (λ xs t. some_externals (here s) xs t)
