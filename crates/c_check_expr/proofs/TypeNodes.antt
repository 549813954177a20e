-- What is told at a node of a type.
use Rattle.std.proofs.Common.{◌≡◌, ℕ, refl}
use Rattle.std.specs.Prelude.{None, Some}
use Rattle.lcc_base.specs.declared.which.Which.{Which}
use Rattle.c_meaning.specs.Constraints.{Breaks, Passes, constraints, fault_at, first_broken, first_passed}
use Rattle.c_meaning.specs.Nodes.{TypeNode, Typing}
use Rattle.c_meaning.specs.State.{State}
use Rattle.c_meaning.specs.Typing.{Bad, Fine, at}

pub node_breaks : {T : Type 0} (s : State) (line : ℕ) (n : TypeNode) (behind : State) (t : T) (k : ℕ) → first_broken constraints s (Typing n) ≡ Some k → at s line (Typing n) behind t ≡ Bad (Breaks k line)
unfolding fault_at
node_breaks s line n behind t k b = rw b refl

pub node_passes : {T : Type 0} (s : State) (line : ℕ) (n : TypeNode) (behind : State) (t : T) (w : Which) → first_broken constraints s (Typing n) ≡ None → first_passed s line (Typing n) ≡ Some w → at s line (Typing n) behind t ≡ Bad (Passes w line)
unfolding fault_at
node_passes s line n behind t w b p = rw (b, p) refl

pub node_fine : {T : Type 0} (s : State) (line : ℕ) (n : TypeNode) (behind : State) (t : T) → first_broken constraints s (Typing n) ≡ None → first_passed s line (Typing n) ≡ None → at s line (Typing n) behind t ≡ Fine behind t
unfolding fault_at
node_fine s line n behind t b p = rw (b, p) refl
