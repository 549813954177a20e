-- Lemmas: operators that neither read nor write act alike in objects of the same shapes, whatever bytes these have; and a read
-- is the same where the object that it reads is.
use Rattle.std.specs.Prelude.{◌≡◌, ℕ, ℤ, neg_ℤ, true, Option, Some, None, List, [], ◌∷◌, take, drop, slice_get}
use Rattle.std.proofs.Common.{refl, ap, ◌∙◌}
use Rattle.lcc_base.specs.declared.order.Order.{Order}
use Rattle.lcc_base.specs.declared.cause.Cause.{Cause}
use Rattle.objects.specs.declared.byte.Byte.{Byte}
use Rattle.objects.specs.declared.operators.Comparison.{Comparison}
use Rattle.objects.specs.declared.operators.Comparison.TheVariants as comparison
use Rattle.objects.specs.declared.value.ObjectName.{ObjectName}
use Rattle.objects.specs.declared.value.Value.{Value}
use Rattle.objects.specs.declared.value.Value.TheVariants.{Number, Pointer}
use Rattle.objects.specs.declared.width.Width.{Width}
use Rattle.objects.specs.Arithmetic.{signed_of}
use Rattle.objects.specs.Values.{bytes_in, bits_in}
use Rattle.objects.specs.Bytes.{number_of_bytes}
use Rattle.objects.specs.Causes.{unless}
use Rattle.objects.specs.Accesses.{read_cause}
use Rattle.objects.specs.Copies.{or_cause}
use Rattle.objects.specs.Pointers.{moved, ordered, subtracted, compared}
use Rattle.op_forest.specs.declared.op.Op.{Op}
use Rattle.op_forest.specs.declared.op.Op.TheVariants as op
use Rattle.op_forest.specs.declared.suffix.Suffix.{Suffix}
use Rattle.op_forest.specs.declared.suffix.Suffix.TheVariants.{C, S, I, U, P, B, V}
use Rattle.op_forest.specs.declared.sym.Sym.{Sym}
use Rattle.op_forest.specs.declared.sym.Sym.TheVariants as sym
use Rattle.op_forest.specs.Nodes.{Head}
use Rattle.forests.specs.Words.{Word, Plain, narrow}
use Rattle.forests.specs.WordBytes.{word_in}
use Rattle.forests.specs.Objects.{Object, shapes, contents, bytes_through}
use Rattle.forests.specs.Accesses.{defined, word_read, number_cause, number_read}
use Rattle.forests.specs.Actions.{gave}
use Rattle.forests.specs.Addresses.{Environment, plain, moved_from, named}
use Rattle.forests.specs.Numbers.{moved_on, moved_back, difference, equal, negated, ordered_so, unsigned_are}
use Rattle.forests.specs.Rows.{branched, leaf_row, unary_row, binary_row, acts}
use Rattle.forests.specs.Alike.{AreAlike, touches_memory}

-- ---- pointers

moved_from_alike : (a b : List Object) → AreAlike a b → (v : Option Value) (by : ℤ) → moved_from a v by ≡ moved_from b v by
moved_from_alike a b same None by = refl
moved_from_alike a b same (Some v) by = ap (λ os. plain (defined (moved os v by))) same

named_alike : (e : Environment) (a b : List Object) → AreAlike a b → (x : Sym) → named e a x ≡ named e b x
named_alike e a b same (sym.Global name offset) = moved_from_alike a b same (e.global name) offset
named_alike e a b same (sym.Label l) = refl
named_alike e a b same x = refl

moved_on_alike : (a b : List Object) → AreAlike a b → (v w : Word) → moved_on a v w ≡ moved_on b v w
moved_on_alike a b same (Plain p) (Plain (Number n)) = ap (λ os. plain (defined (moved os p (signed_of n)))) same
moved_on_alike a b same v w = refl

moved_back_alike : (a b : List Object) → AreAlike a b → (v w : Word) → moved_back a v w ≡ moved_back b v w
moved_back_alike a b same (Plain p) (Plain (Number n)) = ap (λ os. plain (defined (moved os p (neg_ℤ (signed_of n))))) same
moved_back_alike a b same v w = refl

difference_alike : (a b : List Object) → AreAlike a b → (v w : Word) → difference a v w ≡ difference b v w
difference_alike a b same (Plain (Number x)) (Plain (Number y)) = refl
difference_alike a b same (Plain p) (Plain q) = ap (λ os. plain (defined (subtracted os 1 p q))) same
difference_alike a b same v w = refl

equal_alike : (a b : List Object) → AreAlike a b → (v w : Word) → equal a v w ≡ equal b v w
equal_alike a b same (Plain p) (Plain q) = ap (λ os. defined (compared os p q)) same
equal_alike a b same v w = refl

unsigned_alike : (op : Comparison) (a b : List Object) → AreAlike a b → (v w : Word) → unsigned_are a op v w ≡ unsigned_are b op v w
unsigned_alike op a b same (Plain (Number x)) (Plain (Number y)) = refl
unsigned_alike op a b same (Plain p) (Plain q) = ap (λ os. ordered_so op (defined (ordered os p q))) same
unsigned_alike op a b same v w = refl

leaf_row_alike : (e : Environment) (h : Head) (a b : List Object) → AreAlike a b → (o : Op) (x : Suffix) → (touches_memory o ≡ true → ⊥) → leaf_row e h a o x ≡ leaf_row e h b o x
leaf_row_alike e h a b same op.Cnst C touches = refl
leaf_row_alike e h a b same op.Cnst S touches = refl
leaf_row_alike e h a b same op.Cnst I touches = refl
leaf_row_alike e h a b same op.Cnst U touches = refl
leaf_row_alike e h a b same op.Cnst P touches = refl
leaf_row_alike e h a b same op.Addrg P touches = ap gave (named_alike e a b same h.sym)
leaf_row_alike e h a b same op.Addrf P touches = refl
leaf_row_alike e h a b same op.Addrl P touches = refl
leaf_row_alike e h a b same op.Ret V touches = refl
leaf_row_alike e h a b same op.Label V touches = refl
leaf_row_alike e h a b same o x touches = refl

unary_row_alike : (e : Environment) (h : Head) (a b : List Object) → AreAlike a b → (o : Op) (x : Suffix) (v : Word) → (touches_memory o ≡ true → ⊥) → unary_row e h a o x v ≡ unary_row e h b o x v
unary_row_alike e h a b same op.Indir C v touches = absurd (touches refl)
unary_row_alike e h a b same op.Indir S v touches = absurd (touches refl)
unary_row_alike e h a b same op.Indir I v touches = absurd (touches refl)
unary_row_alike e h a b same op.Indir P v touches = absurd (touches refl)
unary_row_alike e h a b same op.Indir B v touches = absurd (touches refl)
unary_row_alike e h a b same op.Arg I v touches = refl
unary_row_alike e h a b same op.Arg P v touches = refl
unary_row_alike e h a b same op.Call I v touches = refl
unary_row_alike e h a b same op.Call V v touches = refl
unary_row_alike e h a b same op.Ret I v touches = refl
unary_row_alike e h a b same op.Cvc I v touches = refl
unary_row_alike e h a b same op.Cvc U v touches = refl
unary_row_alike e h a b same op.Cvs I v touches = refl
unary_row_alike e h a b same op.Cvs U v touches = refl
unary_row_alike e h a b same op.Cvi C v touches = refl
unary_row_alike e h a b same op.Cvi S v touches = refl
unary_row_alike e h a b same op.Cvi U v touches = refl
unary_row_alike e h a b same op.Cvu C v touches = refl
unary_row_alike e h a b same op.Cvu S v touches = refl
unary_row_alike e h a b same op.Cvu I v touches = refl
unary_row_alike e h a b same op.Cvu P v touches = refl
unary_row_alike e h a b same op.Cvp U v touches = refl
unary_row_alike e h a b same op.Neg I v touches = refl
unary_row_alike e h a b same op.Bcom U v touches = refl
unary_row_alike e h a b same op.Jump V v touches = refl
unary_row_alike e h a b same o x v touches = refl

binary_row_alike : (e : Environment) (h : Head) (a b : List Object) → AreAlike a b → (o : Op) (x : Suffix) (v w : Word) → (touches_memory o ≡ true → ⊥) → binary_row e h a o x v w ≡ binary_row e h b o x v w
binary_row_alike e h a b same op.Asgn C v w touches = absurd (touches refl)
binary_row_alike e h a b same op.Asgn S v w touches = absurd (touches refl)
binary_row_alike e h a b same op.Asgn I v w touches = absurd (touches refl)
binary_row_alike e h a b same op.Asgn P v w touches = absurd (touches refl)
binary_row_alike e h a b same op.Asgn B v w touches = absurd (touches refl)
binary_row_alike e h a b same op.Add I v w touches = refl
binary_row_alike e h a b same op.Add U v w touches = refl
binary_row_alike e h a b same op.Add P v w touches = ap gave (moved_on_alike a b same v w)
binary_row_alike e h a b same op.Sub I v w touches = refl
binary_row_alike e h a b same op.Sub U v w touches = ap gave (difference_alike a b same v w)
binary_row_alike e h a b same op.Sub P v w touches = ap gave (moved_back_alike a b same v w)
binary_row_alike e h a b same op.Mul I v w touches = refl
binary_row_alike e h a b same op.Mul U v w touches = refl
binary_row_alike e h a b same op.Div I v w touches = refl
binary_row_alike e h a b same op.Div U v w touches = refl
binary_row_alike e h a b same op.Mod I v w touches = refl
binary_row_alike e h a b same op.Mod U v w touches = refl
binary_row_alike e h a b same op.Lsh I v w touches = refl
binary_row_alike e h a b same op.Lsh U v w touches = refl
binary_row_alike e h a b same op.Rsh I v w touches = refl
binary_row_alike e h a b same op.Rsh U v w touches = refl
binary_row_alike e h a b same op.Band U v w touches = refl
binary_row_alike e h a b same op.Bor U v w touches = refl
binary_row_alike e h a b same op.Bxor U v w touches = refl
binary_row_alike e h a b same op.Eq I v w touches = ap (λ x. branched h.sym x) (equal_alike a b same v w)
binary_row_alike e h a b same op.Ne I v w touches = ap (λ x. branched h.sym (negated x)) (equal_alike a b same v w)
binary_row_alike e h a b same op.Lt I v w touches = refl
binary_row_alike e h a b same op.Lt U v w touches = ap (λ x. branched h.sym x) (unsigned_alike comparison.Less a b same v w)
binary_row_alike e h a b same op.Le I v w touches = refl
binary_row_alike e h a b same op.Le U v w touches = ap (λ x. branched h.sym x) (unsigned_alike comparison.LessEqual a b same v w)
binary_row_alike e h a b same op.Gt I v w touches = refl
binary_row_alike e h a b same op.Gt U v w touches = ap (λ x. branched h.sym x) (unsigned_alike comparison.Greater a b same v w)
binary_row_alike e h a b same op.Ge I v w touches = refl
binary_row_alike e h a b same op.Ge U v w touches = ap (λ x. branched h.sym x) (unsigned_alike comparison.GreaterEqual a b same v w)
binary_row_alike e h a b same o x v w touches = refl

pub acts_alike : (e : Environment) (h : Head) (ws : List Word) (a b : List Object) → AreAlike a b → (touches_memory h.operator.op ≡ true → ⊥) → acts e h ws a ≡ acts e h ws b
acts_alike e h [] a b same touches = leaf_row_alike e h a b same h.operator.op h.operator.suffix touches
acts_alike e h (v ∷ []) a b same touches = unary_row_alike e h a b same h.operator.op h.operator.suffix v touches
acts_alike e h (v ∷ w ∷ []) a b same touches = binary_row_alike e h a b same h.operator.op h.operator.suffix v w touches
acts_alike e h (v ∷ w ∷ u ∷ ws) a b same touches = refl

-- ---- reads

pub word_read_alike : (order : Order) (a b : List Object) (name : ObjectName) (offset : ℕ) → AreAlike a b → slice_get a name.place ≡ slice_get b name.place → word_read order a (Plain (Pointer name offset)) ≡ word_read order b (Plain (Pointer name offset))
word_read_alike order a b name offset same here =
    ap (λ os. defined (unless (read_cause os (Pointer name offset) 4 4) (word_in order (bytes_through a (Pointer name offset) 4)))) same
    ∙ ap (λ o. defined (unless (read_cause (shapes b) (Pointer name offset) 4 4) (word_in order (take 4 (drop offset (contents o)))))) here

pub number_read_alike : (order : Order) (width : Width) (a b : List Object) (name : ObjectName) (offset : ℕ) → AreAlike a b → slice_get a name.place ≡ slice_get b name.place → number_read order width a (Plain (Pointer name offset)) ≡ number_read order width b (Plain (Pointer name offset))
number_read_alike order width a b name offset same here =
    let p = Pointer name offset in
    let size = bytes_in width in
    let f : List (Byte Word) → Option Cause → Option Word = λ bytes cause. defined (unless (or_cause cause (number_cause bytes)) (narrow (bits_in width) (number_of_bytes order bytes))) in
    ap (λ os. f (bytes_through a p size) (read_cause os p size size)) same
    ∙ ap (λ o. f (take size (drop offset (contents o))) (read_cause (shapes b) p size size)) here
