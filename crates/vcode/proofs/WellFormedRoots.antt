-- Labels and moves of control stand at the roots of a well-formed forest alone, as no operand is one.
use Rattle.std.proofs.Common.{◌≡◌, ℕ, ℤ, Option, ◌≤◌, List, [], ◌∷◌, All, true, refl, arith}
use Rattle.std.proofs.lemmas.Bool.{both_ways, false≢true}
use Rattle.std.proofs.lemmas.Option.{slice_get-get_or}
use Rattle.std.specs.Prelude.{◌||◌, false, IsTrue, get_or}
use Rattle.op_forest.specs.declared.forest.Forest.{Forest}
use Rattle.op_forest.specs.declared.op.Op.{Op}
use Rattle.op_forest.specs.declared.op.Op.TheVariants.{Ret, Eq, Ne, Lt, Le, Gt, Ge, Jump, Label}
use Rattle.op_forest.specs.declared.suffix.Suffix.{Suffix}
use Rattle.op_forest.specs.declared.suffix.Suffix.TheVariants.{C, S, I, U, P, B, V}
use Rattle.op_forest.specs.declared.sym.Sym.{Sym}
use Rattle.op_forest.specs.declared.sym.Sym.TheVariants as sym
use Rattle.op_forest.specs.Nodes.{Node, Leaf, One, Two}
use Rattle.op_forest.specs.Operators.{number}
use Rattle.op_forest.specs.Signature.{gives_value, takes}
use Rattle.forests.specs.WellFormed.{op_of, suffix_of, IsOperand, AreOperands, HasPart, IsLabel, HasKinds, IsWellFormed}
use Rattle.vcode.specs.RuleSets.{is_label, is_move}
use Rattle.vcode.specs.Roots.{AllStill, IsQuiet}

-- an operator that gives a value is neither a label nor a move of control
gives_still : (o : Op) (s : Suffix) → IsTrue (gives_value o s) → (is_label o || is_move o) ≡ false
gives_still Ret s h = absurd (both_ways false refl h)
gives_still Jump s h = absurd (both_ways false refl h)
gives_still Eq s h = absurd (both_ways false refl h)
gives_still Ne s h = absurd (both_ways false refl h)
gives_still Lt s h = absurd (both_ways false refl h)
gives_still Le s h = absurd (both_ways false refl h)
gives_still Gt s h = absurd (both_ways false refl h)
gives_still Ge s h = absurd (both_ways false refl h)
gives_still Label s h = absurd (both_ways false refl h)
gives_still o s h = refl

-- a label takes no operands, and its suffix is V
no_label : (o : Op) (s : Suffix) (a : Node) (ks : List Node) → AreOperands (takes o s) (a ∷ ks) → is_label o ≡ false
no_label Label s a ks h = absurd h
no_label o s a ks h = refl

label_suffix : (o : Op) (s : Suffix) → 1 ≤ number o s → is_label o ≡ true → s ≡ V
label_suffix Label V h is = refl
label_suffix Label C h is = absurd (omega (arith, h))
label_suffix Label S h is = absurd (omega (arith, h))
label_suffix Label I h is = absurd (omega (arith, h))
label_suffix Label U h is = absurd (omega (arith, h))
label_suffix Label P h is = absurd (omega (arith, h))
label_suffix Label B h is = absurd (omega (arith, h))
label_suffix o s h is = absurd (false≢true is)

symbol_of : (x : Sym) → IsLabel x → (l : ℕ) × (x ≡ sym.Label l)
symbol_of sym.Nothing h = absurd h
symbol_of (sym.Global name offset) h = absurd h
symbol_of (sym.Label l) h = (l, refl)
symbol_of (sym.Block size align) h = absurd h

label_symbol : (o : Op) (s : Suffix) (x : Sym) (v : Option ℤ) → HasPart o s x v → is_label o ≡ true → (l : ℕ) × (x ≡ sym.Label l)
label_symbol Label s x v h is = symbol_of x h
label_symbol o s x v h is = absurd (false≢true is)

some_operand : (ss : List Suffix) (a : Node) → AreOperands ss (a ∷ []) → (s : Suffix) × IsOperand s a
some_operand [] a h = absurd h
some_operand (s ∷ ss) a h = (s, h.0)

both_operands : (ss : List Suffix) (a b : Node) → AreOperands ss (a ∷ b ∷ []) → ((s : Suffix) × IsOperand s a) × ((s : Suffix) × IsOperand s b)
both_operands [] a b h = absurd h
both_operands (s ∷ []) a b h = absurd h.1
both_operands (s ∷ r ∷ ss) a b h = ((s, h.0), (r, h.1.0))

all_still : (t : Node) → IsTrue (gives_value (op_of t) (suffix_of t)) → HasKinds t → AllStill t
all_still (Leaf h) gives kinds = gives_still _ _ gives
all_still (One h a) gives kinds =
    let k = some_operand _ a kinds.0.operands in
    (gives_still _ _ gives, all_still a k.1.0 kinds.1)
all_still (Two h a b) gives kinds =
    let k = both_operands _ a b kinds.0.operands in
    (gives_still _ _ gives, all_still a k.0.1.0 kinds.1, all_still b k.1.1.0 kinds.2)

quiet : (t : Node) → HasKinds t → IsQuiet t
quiet (Leaf h) kinds = λ is. (label_suffix h.operator.op h.operator.suffix kinds.operator is, label_symbol h.operator.op h.operator.suffix h.sym h.value kinds.part is)
quiet (One h a) kinds =
    let k = some_operand _ a kinds.0.operands in
    (no_label _ _ a [] kinds.0.operands, all_still a k.1.0 kinds.1)
quiet (Two h a b) kinds =
    let k = both_operands _ a b kinds.0.operands in
    (no_label _ _ a (b ∷ []) kinds.0.operands, all_still a k.0.1.0 kinds.1, all_still b k.1.1.0 kinds.2)

pub all_quiet : (f : Forest) → IsWellFormed f → All IsQuiet f.roots
all_quiet f w k d h = quiet (get_or f.roots k d) (w.good k (get_or f.roots k d) (slice_get-get_or f.roots k d h)).fit.kinds
