-- The test of two keys tells whether they are the same.
use Rattle.std.proofs.Common.{Option, ℤ, int_eq, eqb-true, ◌≡◌, Bool, true, rules, ◌&&◌, ◌==◌}
use Rattle.std.specs.Cmp.Rules.{comparing}
use Rattle.std.specs.Cmp.{first_so, second_so}
use Rattle.std.specs.Option.{option_eq}
use denote.Enum.Bare.{same_true}
use Rattle.op_forest.specs.contracts.op.Op as op_contracts
use Rattle.op_forest.specs.contracts.suffix.Suffix as suffix_contracts
use Rattle.op_forest.specs.contracts.op.OpPartialEq.TheImpl as op_eq
use Rattle.op_forest.specs.contracts.operator.OperatorPartialEq.TheImpl as operator_eq
use Rattle.op_forest.specs.contracts.suffix.SuffixPartialEq.TheImpl as suffix_eq
use Rattle.op_forest.specs.declared.suffix.Suffix.{Suffix}
use Rattle.op_forest.specs.contracts.sym.SymPartialEq.TheImpl as sym_eq
use Rattle.op_forest.specs.declared.op.Op.{Op}
use Rattle.op_forest.specs.declared.operator.Operator.{Operator}
use Rattle.op_forest.specs.declared.sym.Sym.{Sym}
use Rattle.dag_forest.specs.declared.kids.Kids.{Kids}
use Rattle.dag_forest.specs.declared.key.Key.{Key}
use Rattle.dag_forest.specs.declared.parts.Parts.{Parts}
use Rattle.dag_forest.specs.contracts.key.KeyPartialEq.TheImpl as key_eq
use Rattle.dag_forest.specs.contracts.parts.PartsPartialEq.TheImpl as parts_eq
use Rattle.dag_forest.specs.contracts.kids.KidsPartialEq.TheImpl as kids_eq

same_op : (a b : Op) → op_eq.ghosts.eq a b ≡ true → a ≡ b
same_op a b h = same_true op_contracts.the_type tt a b h

same_kids : (a b : Kids) → kids_eq.ghosts.eq a b ≡ true → a ≡ b
same_kids a b h = search (comparing, rules)

same_sym : (a b : Sym) → sym_eq.ghosts.eq a b ≡ true → a ≡ b
same_sym a b h = search (comparing, rules)

same_suffix : (a b : Suffix) → suffix_eq.ghosts.eq a b ≡ true → a ≡ b
same_suffix a b h = same_true suffix_contracts.the_type tt a b h

same_operator : (a b : Operator) → operator_eq.ghosts.eq a b ≡ true → a ≡ b
same_operator a b h =
    let p = first_so (op_eq.ghosts.eq a.op b.op) (suffix_eq.ghosts.eq a.suffix b.suffix) h in
    let q = second_so (op_eq.ghosts.eq a.op b.op) (suffix_eq.ghosts.eq a.suffix b.suffix) h in
    λ i. record { op = same_op a.op b.op p i; suffix = same_suffix a.suffix b.suffix q i }

same_constant : (a b : Option ℤ) → option_eq int_eq a b ≡ true → a ≡ b
same_constant a b h = search (comparing, rules)

each_true : (o k s c : Bool) → (o && (k && (s && c))) ≡ true → (o ≡ true) × (k ≡ true) × (s ≡ true) × (c ≡ true)
each_true o k s c h =
    let x = second_so o (k && (s && c)) h in
    let y = second_so k (s && c) x in
    (first_so o (k && (s && c)) h, first_so k (s && c) x, first_so s c y, second_so s c y)

same_parts : (a b : Parts) → parts_eq.ghosts.eq a b ≡ true → a ≡ b
same_parts a b h =
    let x = each_true (operator_eq.ghosts.eq a.operator b.operator) (kids_eq.ghosts.eq a.kids b.kids) (sym_eq.ghosts.eq a.sym b.sym) (option_eq int_eq a.constant b.constant) h in
    λ i. record { operator = same_operator a.operator b.operator x.0 i; kids = same_kids a.kids b.kids x.1 i; sym = same_sym a.sym b.sym x.2 i; constant = same_constant a.constant b.constant x.3 i }

pub same_key : (a b : Key) → key_eq.ghosts.eq a b ≡ true → a ≡ b
same_key a b h =
    let p = first_so (parts_eq.ghosts.eq a.parts b.parts) (a.mark == b.mark) h in
    let q = second_so (parts_eq.ghosts.eq a.parts b.parts) (a.mark == b.mark) h in
    λ i. record { parts = same_parts a.parts b.parts p i; mark = eqb-true a.mark b.mark q i }
