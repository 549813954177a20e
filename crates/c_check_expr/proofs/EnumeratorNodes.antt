-- What is told at the node of an enumerator, and the value that it has.
use Rattle.std.proofs.Common.{◌≡◌, ℕ, refl}
use Rattle.std.specs.Prelude.{true, false, ℤ, Option, Some, None, List, is_some}
use Rattle.c_symbols.specs.declared.symbol.Storage.TheVariants as storage
use Rattle.c_types.specs.CType.{CType, Int, basic}
use Rattle.c_meaning.specs.Constants.{fold}
use Rattle.c_meaning.specs.Constraints.{constraints, first_broken}
use Rattle.c_meaning.specs.Nodes.{Typing}
use Rattle.c_meaning.specs.Nodes as node
use Rattle.c_meaning.specs.State.{State, declared, level_of, place_here}
use Rattle.c_meaning.specs.TypeConstraints.{is_in_int, written_or}
use Rattle.c_meaning.specs.TypeRows.{enumerator_value, number_or, with_enumerator}
use Rattle.c_meaning.specs.Typing.{Fine}
use Rattle.c_meaning.specs.Values.{CoreTree}

pub taken_broken : (s : State) (name : List ℕ) (v : Option CoreTree) (next : ℤ) → is_some (place_here s name) ≡ true → first_broken constraints s (Typing (node.Enumerator name v next)) ≡ Some 5
taken_broken s name v next h = rw h refl

pub value_broken : (s : State) (name : List ℕ) (v : Option CoreTree) (next : ℤ) → is_some (place_here s name) ≡ false → is_in_int (written_or v next) ≡ false → first_broken constraints s (Typing (node.Enumerator name v next)) ≡ Some 12
value_broken s name v next h k = rw (h, k) refl

pub none_broken : (s : State) (name : List ℕ) (v : Option CoreTree) (next : ℤ) → is_some (place_here s name) ≡ false → is_in_int (written_or v next) ≡ true → first_broken constraints s (Typing (node.Enumerator name v next)) ≡ None
none_broken s name v next h k = rw (h, k) refl

number_given : (o : Option ℤ) (next z : ℤ) → o ≡ Some z → number_or o next ≡ z
number_given o next z h = rw h refl

pub value_given : (v : Option CoreTree) (next z : ℤ) → written_or v next ≡ Some z → enumerator_value v next ≡ z
value_given None next z h = cc
value_given (Some c) next z h = number_given (fold c) next z h

-- it is declared as an int of this value
pub enumerator_known : (s n : State) (line : ℕ) (name : List ℕ) (of : CType) (level : ℕ) (v w z : ℤ) →
    n ≡ declared s name (record { class = storage.Enumerator; of = of; line = line; level = level; value = Some w }) → of ≡ basic Int → level ≡ level_of s → w ≡ z → v ≡ z → Fine (with_enumerator s line name v) v ≡ Fine n z
enumerator_known s n line name of level v w z e o l h k = rw (e, o, l, h, k) refl
