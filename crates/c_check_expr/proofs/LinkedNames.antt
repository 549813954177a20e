-- What is known behind the declaration of a name with linkage, and of a call that declares its name.
use Rattle.std.proofs.Common.{◌≡◌, ℕ, ℤ, pos, Bool, true, false, List, refl, ap, ◌∙◌}
use Rattle.std.specs.Prelude.{Option, Some, None, not}
use Rattle.c_symbols.specs.declared.symbol.Storage.TheVariants as storage
use Rattle.c_symbols.specs.declared.symbol.Symbol.{Symbol}
use Rattle.c_symbols.specs.Scoping.{Scoping, symbol_named}
use Rattle.c_types.specs.CType.{CType}
use Rattle.c_types.specs.Compatible.{compatible}
use Rattle.c_types.specs.Table.{Table, type_in, types}
use Rattle.c_meaning.specs.declared.core_expr.CoreKind.TheVariants as kind
use Rattle.c_meaning.specs.Constraints.{Breaks, fault_at}
use Rattle.c_meaning.specs.ExprConstraints.{differs_from_int_function}
use Rattle.c_meaning.specs.CoreTrees.{Core, none}
use Rattle.c_meaning.specs.Nodes.{Expression}
use Rattle.c_meaning.specs.Nodes as node
use Rattle.c_meaning.specs.Rows.{row}
use Rattle.c_meaning.specs.State.{Known, State, declared, external, int_function, known_at, level_of, link_or_next, with_function, with_link}
use Rattle.c_meaning.specs.Typing.{Fine, Bad, at}
use Rattle.c_meaning.specs.Values.{CoreTree}
use Rattle.c_check_expr.specs.AtNode.{Tells}
use Rattle.c_values.specs.declared.check_fault.CheckFault.{CheckFault}
use Rattle.c_values.specs.declared.check_fault.CheckFault.TheVariants.{Constraint, Limit, Memory}
use Rattle.c_check_expr.specs.Redeclared.{IsRedeclared}
use Rattle.c_check_expr.specs.Known.{known_of, state_of}

-- ---- a call of an undeclared name

pub differs_by : (s : State) (o : Option ℕ) (id : ℕ) (k : Known) (b : Bool) → o ≡ Some id → known_at s id ≡ k → compatible k.of int_function ≡ b → differs_from_int_function s o ≡ not b
differs_by s o id k b e f g = rw (e, f, g) refl

pub function_broken : (s behind : State) (line : ℕ) (x : List ℕ) (c : CoreTree) → differs_from_int_function s (symbol_named s.links x) ≡ true → at s line (Expression (node.NewFunction x)) behind c ≡ Bad (Breaks 6 line)
unfolding fault_at
function_broken s behind line x c e = rw e refl

pub function_fine : (s behind : State) (line : ℕ) (x : List ℕ) (c : CoreTree) → differs_from_int_function s (symbol_named s.links x) ≡ false → at s line (Expression (node.NewFunction x)) behind c ≡ Fine behind c
unfolding fault_at
function_fine s behind line x c e = rw e refl

pub redeclared_told : (s behind : State) (line : ℕ) (x : List ℕ) (c : CoreTree) (e : CheckFault) → IsRedeclared e line (differs_from_int_function s (symbol_named s.links x)) → Tells e (at s line (Expression (node.NewFunction x)) behind c)
redeclared_told s behind line x c (Constraint number place) d = rw (d.0, d.1.0) (function_broken s behind line x c d.1.1)
redeclared_told s behind line x c (Limit limit place) d = absurd d
redeclared_told s behind line x c Memory d = tt

pub symbol_known : (ts : List CType) (of line level n : ℕ) (v z : ℤ) → type_in ts of ≡ int_function → level ≡ n → v ≡ z → known_of ts (record { class = storage.Extern; of = of; line = line; level = level; value = Some v }) ≡ external line n (Some z)
symbol_known ts of line level n v z e f g = rw (e, f, g) refl

pub called_state : (s : State) (mid new : Scoping) (t : Table) (x : List ℕ) (y : Symbol) (id line : ℕ) → state_of mid t ≡ with_link s x (symbol_named s.links x) (external line 0 None) → state_of new t ≡ declared (state_of mid t) x (known_of (types t) y) → known_of (types t) y ≡ external line (level_of s) (Some (pos (link_or_next s x))) → state_of new t ≡ with_function s line x
called_state s mid new t x y id line e f g = f ∙ ap (λ (z : State). declared z x (known_of (types t) y)) e ∙ ap (λ (k : Known). declared (with_link s x (symbol_named s.links x) (external line 0 None)) x k) g

pub called_fine : (s new : State) (line : ℕ) (x : List ℕ) (c : CoreTree) → differs_from_int_function s (symbol_named s.links x) ≡ false → new ≡ with_function s line x → c ≡ Core (kind.Symbol (link_or_next s x)) int_function line none → at s line (Expression (node.NewFunction x)) (with_function s line x) (row s line (node.NewFunction x)) ≡ Fine new c
called_fine s new line x c d e f = rw (e, f) (function_fine s (with_function s line x) line x (row s line (node.NewFunction x)) d)
