-- What a declaration outside of functions is, where its parts are low enough, and where one is too high.
use Rattle.std.proofs.Common.{◌≡◌, ◌≤◌, ◌<◌, ◌-◌, ℕ, nat_lt, Bool, true, false, None, Some, List, [], refl, arith}
use Rattle.std.proofs.lemmas.Bool.Decides.{nat_tests}
use Rattle.c_ast.specs.ExprMarks.{has_typedef}
use Rattle.c_ast.specs.Heights.{specifiers_height, declarator_height}
use Rattle.c_ast.specs.Trees.{SpecifiersTree, DeclaratorTree, ExternalTree, InitTree, DeclarationTree, Declares}
use Rattle.c_ast.specs.ValueHeights.{capped}
use Rattle.c_readings.specs.Reading.{State, Read, bind, gives}
use Rattle.c_readings.specs.Readers.{readers}
use Rattle.c_readings.specs.DeclarationReaders.{inits_behind}
use Rattle.c_readings.specs.UnitReaders.{declares, declares_none}

-- a measured height tells the real one

pub measured_high : (limit r n : ℕ) → limit ≤ 500 → r ≡ capped n → limit ≤ r → limit ≤ n
measured_high limit r n w e h = grind (arith, e, h, w)

pub measured_low : (limit r n : ℕ) → limit ≤ 500 → r ≡ capped n → r < limit → n < limit
measured_low limit r n w e h = grind (arith, e, h, w)

-- a declaration of these parts
abbrev pub declaration_of : ℕ → SpecifiersTree → List InitTree → DeclarationTree
declaration_of line ss is = record { line = line; specifiers = ss; declarators = is }

-- ---- without declarators

pub none_high : (n line : ℕ) (ss : SpecifiersTree) (s : State) → n ≤ specifiers_height ss → declares_none n line (Some ss) s ≡ None
none_high n line ss s h =
    let no : nat_lt (specifiers_height ss) n ≡ false = grind (arith, nat_tests, h) in
    rw no refl

pub none_low : (n line : ℕ) (ss : SpecifiersTree) (s : State) → specifiers_height ss < n → declares_none n line (Some ss) s ≡ Some (Declares line (declaration_of line ss []), s)
none_low n line ss s h =
    let yes : nat_lt (specifiers_height ss) n ≡ true = grind (arith, nat_tests, h) in
    rw yes refl

-- ---- with declarators

pub specifiers_high : (n line : ℕ) (ss : SpecifiersTree) (at : ℕ) (d : DeclaratorTree) (s : State) → n ≤ specifiers_height ss → declares readers n line (Some ss) at d s ≡ None
specifiers_high n line ss at d s h =
    let no : nat_lt (specifiers_height ss) n ≡ false = grind (arith, nat_tests, h) in
    rw no refl

pub declarator_high : (n line : ℕ) (ss : SpecifiersTree) (at : ℕ) (d : DeclaratorTree) (s : State) → specifiers_height ss < n → n ≤ declarator_height d → declares readers n line (Some ss) at d s ≡ None
declarator_high n line ss at d s h k =
    let yes : nat_lt (specifiers_height ss) n ≡ true = grind (arith, nat_tests, h) in
    let no : nat_lt (declarator_height d) n ≡ false = grind (arith, nat_tests, k) in
    rw (yes, no) refl

-- with these declarators
abbrev pub declared : ℕ → SpecifiersTree → List InitTree → State → Read ExternalTree
declared line ss is t = gives (Declares line (declaration_of line ss is)) t

pub all_low : (n line : ℕ) (ss : SpecifiersTree) (at : ℕ) (d : DeclaratorTree) (s : State) (typedef : Bool) → typedef ≡ has_typedef ss → specifiers_height ss < n → declarator_height d < n → declares readers n line (Some ss) at d s ≡ bind (inits_behind readers (n - 1) typedef at d s) (declared line ss)
all_low n line ss at d s typedef e h k =
    let yes : nat_lt (specifiers_height ss) n ≡ true = grind (arith, nat_tests, h) in
    let too : nat_lt (declarator_height d) n ≡ true = grind (arith, nat_tests, k) in
    rw (yes, too, e) refl
