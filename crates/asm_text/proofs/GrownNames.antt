-- Names keep their numbers where a table grows.
use Rattle.std.proofs.Common.{◌≡◌, ◌<◌, ◌≤◌, ◌+◌, ℕ, List, [], ◌∷◌, ◌++◌, length, map, get_or, refl, sym, subst, ap, ◌∙◌, append_assoc, arith, length-append}
use Rattle.std.proofs.lemmas.List.{get_or_append_left, get_or_at, append-nil}
use Rattle.std.proofs.lemmas.List.Elements.{All-weaker}
use Rattle.std.specs.Prelude.{All}
use Rattle.asm_text.specs.Grown.{HasGrown}
use Rattle.asm_text.specs.Names.{name_at}
use Rattle.asm_text.specs.ProgramTable.{AreBelow}

pub grown_none : (names : List (List ℕ)) → HasGrown names names
grown_none names = ([], sym (append-nil names))

pub grown_more : (old mid new : List (List ℕ)) → HasGrown old mid → HasGrown mid new → HasGrown old new
grown_more old mid new g h = (g.0 ++ h.0, h.1 ∙ ap (λ names. names ++ h.0) g.1 ∙ append_assoc old g.0 h.0)

pub grown_one : (old new : List (List ℕ)) (name : List ℕ) → new ≡ old ++ name ∷ [] → HasGrown old new
grown_one old new name e = (name ∷ [], e)

pub grown_length : (old new : List (List ℕ)) → HasGrown old new → length old ≤ length new
grown_length old new g = omega (arith, ap length g.1, length-append old g.0)

pub below_grown : (old new : List (List ℕ)) (numbers : List ℕ) → HasGrown old new → AreBelow (length old) numbers → AreBelow (length new) numbers
below_grown old new numbers g = All-weaker (λ n. n < length old) (λ n. n < length new) (λ n l. let k = grown_length old new g in omega arith) numbers

pub name_grown : (old new : List (List ℕ)) (n : ℕ) → HasGrown old new → n < length old → name_at new n ≡ name_at old n
name_grown old new n g l = ap (λ (names : List (List ℕ)). get_or names n []) g.1 ∙ get_or_append_left old g.0 [] n l

pub names_grown : (old new : List (List ℕ)) (numbers : List ℕ) → HasGrown old new → AreBelow (length old) numbers → All (λ n. name_at new n ≡ name_at old n) numbers
names_grown old new numbers g = All-weaker (λ n. n < length old) (λ n. name_at new n ≡ name_at old n) (λ n l. name_grown old new n g l) numbers

-- the name that was added last
pub name_added : (old new : List (List ℕ)) (name : List ℕ) (n : ℕ) → new ≡ old ++ name ∷ [] → n ≡ length old → (n < length new) × (name_at new n ≡ name)
name_added old new name n e f =
    (omega (arith, ap length e, length-append old (name ∷ [])), ap (λ (names : List (List ℕ)). get_or names n []) e ∙ get_or_at old name [] [] n (sym f))
