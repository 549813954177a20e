-- What is told at a node of a declaration.
use Rattle.std.proofs.Common.{◌≡◌, ℕ, refl}
use Rattle.std.specs.Prelude.{None, Some}
use Rattle.c_meaning.specs.Constraints.{Breaks}
use Rattle.c_meaning.specs.Declarations.{DeclNode, decl_constraints, decl_fault}
use Rattle.c_meaning.specs.Declaring.{at_decl}
use Rattle.c_meaning.specs.NodeConstraints.{first_of}
use Rattle.c_meaning.specs.State.{State}
use Rattle.c_meaning.specs.Typing.{Bad, Fine}

pub decl_breaks : {T : Type 0} (s : State) (line : ℕ) (n : DeclNode) (behind : State) (t : T) (k : ℕ) → first_of decl_constraints s n ≡ Some k → at_decl s line n behind t ≡ Bad (Breaks k line)
unfolding decl_fault
decl_breaks s line n behind t k b = rw b refl

pub decl_fine : {T : Type 0} (s : State) (line : ℕ) (n : DeclNode) (behind : State) (t : T) → first_of decl_constraints s n ≡ None → at_decl s line n behind t ≡ Fine behind t
unfolding decl_fault
decl_fine s line n behind t b = rw b refl
