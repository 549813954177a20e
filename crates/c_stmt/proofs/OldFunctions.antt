-- No function stands where no declarations of its parameters do.
use Rattle.std.proofs.Common.{◌≡◌, ℕ, zero, suc, true, false, Option, None, List, [], ◌∷◌, refl, ap}
use Rattle.c_ast.specs.InForce.{InForce}
use Rattle.c_ast.specs.Lexemes.{Lexeme, Name, Keyword, Integer, Character, Text, Sign, Placed}
use Rattle.c_ast.specs.Marks.{IsSign, IsSpecifier, is_sign, is_specifier}
use Rattle.c_ast.specs.Trees.{SpecifiersTree, DeclaratorTree, DeclarationTree, BlockTree, ExternalTree, Function}
use Rattle.c_readings.specs.Reading.{State, Read, answer, bind, gives, reopen_state}
use Rattle.c_readings.specs.Readers.{readers}
use Rattle.c_readings.specs.UnitReaders.{function, function_body}
use Rattle.c_decl.specs.OldParameters.{old_parameters}
use Rattle.c_decl.proofs.lemmas.OldParametersLaws.{none_behind}

-- a specifier is no brace
no_brace_by : (names : InForce) (l : Lexeme) → is_specifier names false l ≡ true → is_sign 4 l ≡ false
no_brace_by names (Name n) h = refl
no_brace_by names (Keyword k) h = refl
no_brace_by names (Integer v k) h = refl
no_brace_by names (Character v) h = refl
no_brace_by names (Text b) h = refl
no_brace_by names (Sign k) h = absurd cc

no_brace : (names : InForce) (ts : List Placed) → answer (IsSpecifier false) record { names = names; rest = ts } ≡ true → answer (IsSign 4) record { names = names; rest = ts } ≡ false
no_brace names [] h = refl
no_brace names (t ∷ ts) h = no_brace_by names t.lexeme h

no_body : (n : ℕ) (s : State) → answer (IsSpecifier false) s ≡ true → function_body readers n s ≡ None
unfolding function_body
no_body zero s h = refl
no_body (suc n) s h = rw (no_brace s.names s.rest h) refl

-- with these declarations and this body
abbrev defined : ℕ → Option SpecifiersTree → DeclaratorTree → List DeclarationTree → BlockTree → State → Read ExternalTree
defined line ss d ps b u = gives (Function line ss d ps b) u

abbrev body_behind : ℕ → ℕ → Option SpecifiersTree → DeclaratorTree → List DeclarationTree → State → Read ExternalTree
body_behind n line ss d ps t = bind (function_body readers n t) (defined line ss d ps)

pub no_function : (n line : ℕ) (ss : Option SpecifiersTree) (d : DeclaratorTree) (s : State) → old_parameters n (reopen_state s) ≡ None → function readers n line ss d s ≡ None
unfolding function
no_function n line ss d s h = none_behind n (reopen_state s) h (body_behind n line ss d) (λ ps t a. ap (λ o. bind o (defined line ss d ps)) (no_body n t a))
