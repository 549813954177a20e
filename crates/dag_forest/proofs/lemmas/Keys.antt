-- A key is the same as itself by the test, so a key that no test finds is new.
use Rattle.std.proofs.Common.{true≢false, Option, ℤ, int_eq, ◌≡◌, ℕ, Bool, true, false, not, List, rules, ◌∙◌, sym, refl, ◌&&◌, ◌==◌}
use Rattle.std.specs.Cmp.Rules.{comparing}
use Rattle.std.specs.List.{list_any}
use Rattle.std.specs.Option.{option_eq}
use denote.Enum.Bare.{true_same}
use Rattle.op_forest.specs.contracts.op.Op as op_contracts
use Rattle.op_forest.specs.contracts.suffix.Suffix as suffix_contracts
use Rattle.op_forest.specs.contracts.op.OpPartialEq.TheImpl as op_eq
use Rattle.op_forest.specs.contracts.suffix.SuffixPartialEq.TheImpl as suffix_eq
use Rattle.op_forest.specs.declared.suffix.Suffix.{Suffix}
use Rattle.dag_forest.specs.declared.kids.Kids.TheVariants.{Zero, One, Two}
use Rattle.op_forest.specs.contracts.sym.SymPartialEq.TheImpl as sym_eq
use Rattle.op_forest.specs.declared.op.Op.{Op}
use Rattle.op_forest.specs.declared.sym.Sym.{Sym}
use Rattle.dag_forest.specs.declared.kids.Kids.{Kids}
use Rattle.dag_forest.specs.declared.key.Key.{Key}
use Rattle.dag_forest.specs.declared.parts.Parts.{Parts}
use Rattle.dag_forest.specs.Tally.{IsFresh}
use Rattle.dag_forest.specs.contracts.key.KeyPartialEq.TheImpl as key_eq
use Rattle.dag_forest.specs.contracts.parts.PartsPartialEq.TheImpl as parts_eq
use Rattle.dag_forest.specs.contracts.kids.KidsPartialEq.TheImpl as kids_eq
use Rattle.dag_forest.proofs.lemmas.Listed.{none_passes}

op_itself : (a : Op) → op_eq.ghosts.eq a a ≡ true
op_itself a = true_same op_contracts.the_type a a refl

suffix_itself : (a : Suffix) → suffix_eq.ghosts.eq a a ≡ true
suffix_itself a = true_same suffix_contracts.the_type a a refl

kids_itself : (a : Kids) → kids_eq.ghosts.eq a a ≡ true
kids_itself Zero = search (comparing, rules)
kids_itself (One a) = search (comparing, rules)
kids_itself (Two a b) = search (comparing, rules)

sym_itself : (a : Sym) → sym_eq.ghosts.eq a a ≡ true
sym_itself a = search (comparing, rules)

constant_itself : (a : Option ℤ) → option_eq int_eq a a ≡ true
constant_itself a = search (comparing, rules)

mark_itself : (a : ℕ) → (a == a) ≡ true
mark_itself a = search (comparing, rules)

parts_itself : (a : Parts) → parts_eq.ghosts.eq a a ≡ true
parts_itself a = λ i. (op_itself a.operator.op i && suffix_itself a.operator.suffix i) && (kids_itself a.kids i && (sym_itself a.sym i && constant_itself a.constant i))

pub itself : (a : Key) → key_eq.ghosts.eq a a ≡ true
itself a = λ i. parts_itself a.parts i && mark_itself a.mark i

not_true : (b : Bool) → not b ≡ true → b ≡ false
not_true true h = absurd (true≢false (sym h))
not_true false h = refl

pub unlike : (ks : List Key) (k : Key) (is_new : Bool) → is_new ≡ not (list_any (key_eq.ghosts.eq k) ks) → is_new ≡ true → IsFresh ks k
unlike ks k is_new e h i f = none_passes (key_eq.ghosts.eq k) ks i k (not_true (list_any (key_eq.ghosts.eq k) ks) (sym e ∙ h)) f (itself k)
