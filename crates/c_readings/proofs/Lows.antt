-- Readers up to each limit on height.
use Rattle.std.proofs.Common.{◌≡◌, ℕ, Bool, List, subst}
use Rattle.c_ast.specs.Lexemes.{Lexeme}
use Rattle.c_ast.specs.Marks.{Mark}
use Rattle.c_readings.specs.Reading.{State, Read}
use Rattle.c_readings.specs.Readers.{Readers}
use Rattle.c_readings.specs.Exact.{Exact, AreExact}

-- those up to each limit are exact
abbrev pub EachExact : (ℕ → Readers) → Type 0
EachExact R = (n : ℕ) → AreExact (R n) × ((R n).limit ≡ n)

-- what is exact up to a limit is so up to an equal one
pub low_exact : {A : Type 0} (spelled : A → List Mark → List Mark) (Fits : A → Type 0) (goes_on : A → Lexeme → Bool) (high : A → ℕ) (limit least : ℕ) (read : State → Read A) → Exact spelled Fits goes_on high limit least read → (n : ℕ) → limit ≡ n → Exact spelled Fits goes_on high n least read
low_exact spelled Fits goes_on high limit least read e n w = subst (λ (k : ℕ). Exact spelled Fits goes_on high k least read) w e
