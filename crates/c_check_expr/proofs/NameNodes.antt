-- Nodes of names and constants: what is told of them, and what they become.
use Rattle.std.proofs.Common.{◌≡◌, ℕ, ℤ, ◌<◌, ◌≤◌, ◌+◌, ◌*◌, true, false, List, [], ◌∷◌, length, refl, sym, ap, ◌∙◌, subst, arith}
use Rattle.std.specs.Prelude.{Some, None, nat_lt}
use Rattle.std.proofs.lemmas.Bool.Decides.{nat_tests}
use Rattle.lcc_base.specs.declared.which.Which.TheVariants as which
use Rattle.objects.specs.Arithmetic.{word_of}
use Rattle.c_ast.specs.declared.class.IntKind.{IntKind}
use Rattle.c_ast.specs.declared.class.IntKind.TheVariants as int_kind
use Rattle.c_types.specs.CType.{basic, Int}
use Rattle.c_types.specs.Facts.{IsWithin}
use Rattle.c_types.specs.Layout.{known}
use Rattle.c_meaning.specs.Constraints.{Breaks, Passes, constraints, first_broken, types_formed}
use Rattle.c_meaning.specs.CoreTrees.{Core, none}
use Rattle.c_meaning.specs.Nodes.{Expression}
use Rattle.c_meaning.specs.Nodes as node
use Rattle.c_meaning.specs.Rows.{constant_type, joined, kind_meant, literal, number, row}
use Rattle.c_meaning.specs.State.{Known, State, known_at, place_of}
use Rattle.c_meaning.specs.Typing.{Fine, Bad, at_expr}
use Rattle.c_check_expr.proofs.NodeLimits.{AreShallow, AreSmall, node_broken, node_fine, node_passed, none_passed, within_shallow, within_small}

-- ---- constants

pub integer_fine : (s : State) (line n : ℕ) (k : IntKind) → at_expr s line (node.Integer n k) ≡ Fine s (number (constant_type k) line n)
integer_fine s line n int_kind.Int = node_fine s line (node.Integer n int_kind.Int) refl refl
integer_fine s line n int_kind.Unsigned = node_fine s line (node.Integer n int_kind.Unsigned) refl refl
integer_fine s line n int_kind.Long = node_fine s line (node.Integer n int_kind.Long) refl refl
integer_fine s line n int_kind.UnsignedLong = node_fine s line (node.Integer n int_kind.UnsignedLong) refl refl

pub character_fine : (s : State) (line : ℕ) (z : ℤ) → at_expr s line (node.Character z) ≡ Fine s (number (basic Int) line (word_of z))
character_fine s line z = node_fine s line (node.Character z) refl refl

-- ---- names

pub name_broken : (s : State) (line : ℕ) (x : List ℕ) → None ≡ place_of s x → at_expr s line (node.Name x) ≡ Bad (Breaks 28 line)
name_broken s line x e = node_broken s line 28 (node.Name x) (rw (← e) refl)

pub name_fine : (s : State) (line : ℕ) (x : List ℕ) (id : ℕ) (k : Known) → Some id ≡ place_of s x → known_at s id ≡ k → IsWithin (known s.tags) k.of → at_expr s line (node.Name x) ≡ Fine s (Core (kind_meant k.class k.value id) k.of line none)
name_fine s line x id k e f w =
    let passes : first_broken constraints s (Expression (node.Name x)) ≡ None = rw (← e) refl in
    let same : row s line (node.Name x) ≡ Core (kind_meant k.class k.value id) k.of line none = rw (← e, f) refl in
    let types : types_formed s line (Expression (node.Name x)) ≡ k.of ∷ [] = rw (← e, f) refl in
    node_fine s line (node.Name x) passes
    (none_passed s line (node.Name x)
    (subst (AreSmall s.tags) (sym types) (within_small s.tags k.of w, tt))
    (subst AreShallow (sym types) (within_shallow s.tags k.of w, tt)) refl)
    ∙ ap (Fine s) same

-- ---- string literals

pub text_large : (s : State) (line : ℕ) (texts : List (List ℕ)) → 16777216 ≤ length (joined texts) → at_expr s line (node.Text texts) ≡ Bad (Passes which.Object line)
text_large s line texts l =
    let e : nat_lt 16777216 ((length (joined texts) + 1) * 1) ≡ true = grind (arith, nat_tests) in
    node_passed s line which.Object (node.Text texts) refl (rw e refl)

pub text_fine : (s : State) (line : ℕ) (texts : List (List ℕ)) → length (joined texts) < 16777216 → at_expr s line (node.Text texts) ≡ Fine s (literal line (joined texts))
text_fine s line texts l =
    let e : nat_lt 16777216 ((length (joined texts) + 1) * 1) ≡ false = grind (arith, nat_tests) in
    node_fine s line (node.Text texts) refl (rw e refl)
