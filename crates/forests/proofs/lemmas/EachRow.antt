-- Lemmas: what holds of each kind of action holds of what each operator does: values, stores through pointers, arguments, calls;
-- returns to the caller alone, and comparisons and jumps alone go on at labels.
use Rattle.std.proofs.Common.{◌≡◌, ℕ, ◌==◌, Bool, true, false, Option, Some, None, List, [], ◌∷◌, refl, if◌then◌else◌}
use Rattle.lcc_base.specs.declared.order.Order.{Order}
use Rattle.lcc_base.specs.declared.cause.Cause.{Cause}
use Rattle.objects.specs.declared.byte.Byte.{Byte}
use Rattle.objects.specs.declared.purpose.Purpose.TheVariants.{Assignment}
use Rattle.objects.specs.declared.value.Value.{Value}
use Rattle.objects.specs.declared.value.Value.TheVariants.{Number, Pointer, Function}
use Rattle.objects.specs.declared.width.Width.{Width}
use Rattle.objects.specs.declared.width.Width.TheVariants as width
use Rattle.objects.specs.Values.{bytes_in, bits_in}
use Rattle.objects.specs.Bytes.{known_bytes, number_bytes}
use Rattle.objects.specs.Causes.{unless}
use Rattle.objects.specs.Accesses.{write_cause}
use Rattle.objects.specs.Copies.{copy_cause}
use Rattle.op_forest.specs.declared.op.Op.{Op}
use Rattle.op_forest.specs.declared.op.Op.TheVariants as op
use Rattle.op_forest.specs.declared.suffix.Suffix.{Suffix}
use Rattle.op_forest.specs.declared.suffix.Suffix.TheVariants.{C, S, I, U, P, B, V}
use Rattle.op_forest.specs.declared.sym.Sym.{Sym}
use Rattle.op_forest.specs.declared.sym.Sym.TheVariants as sym
use Rattle.op_forest.specs.Nodes.{Head}
use Rattle.forests.specs.Words.{Word, Plain, Label, Partly, low_number}
use Rattle.forests.specs.WordBytes.{word_bytes}
use Rattle.forests.specs.Objects.{Object, shapes, bytes_through, stored_through}
use Rattle.forests.specs.Accesses.{defined, bytes_written, number_written_by, block_copied}
use Rattle.forests.specs.Worlds.{To, End}
use Rattle.forests.specs.Actions.{Action, Moved, Meaningless, gave, changed}
use Rattle.forests.specs.Addresses.{Environment}
use Rattle.forests.specs.Rows.{called, jumped, branched, assigned, leaf_row, unary_row, binary_row, acts}
use Rattle.forests.specs.EachRow.{jumps, IsOfKinds}

module _ (Q : Action → Type 0) (objects : List Object) (kinds : IsOfKinds Q objects) where
  open kinds use {value, stored, passed, call, next, nothing}

  each_gave : (v : Option Word) → Q (gave v)
  each_gave None = nothing
  each_gave (Some v) = value v

  each_stored : (cause : Option Cause) (p : Value) (bytes : List (Byte Word)) → Q (changed (defined (unless cause (stored_through objects p bytes))))
  each_stored None p bytes = stored p bytes
  each_stored (Some c) p bytes = nothing

  each_bytes : (size : ℕ) (bytes : List (Byte Word)) (a : Word) → Q (changed (bytes_written size bytes objects a))
  each_bytes size bytes (Plain p) = each_stored (write_cause Assignment (shapes objects) p size size) p bytes
  each_bytes size bytes (Label f l) = nothing
  each_bytes size bytes (Partly mask bits) = nothing

  each_number : (order : Order) (w : Width) (a : Word) (n : Option ℕ) → Q (changed (number_written_by n order w objects a))
  each_number order w a None = nothing
  each_number order w a (Some n) = each_bytes (bytes_in w) (known_bytes (number_bytes order (bytes_in w) n)) a

  each_block : (size align : ℕ) (from to : Word) → Q (changed (block_copied size align objects from to))
  each_block size align (Plain from) (Plain to) = each_stored (copy_cause Assignment (shapes objects) from to size align) to (bytes_through objects from size)
  each_block size align from to = nothing

  each_assigned : (x : Sym) (to from : Word) → Q (assigned x objects to from)
  each_assigned (sym.Block size align) to from = each_block size align from to
  each_assigned x to from = nothing

  each_called : (valued : Bool) (w : Word) → Q (called valued w)
  each_called valued (Plain (Number n)) = nothing
  each_called valued (Plain (Pointer object offset)) = nothing
  each_called valued (Plain (Function f)) = call valued f
  each_called valued (Label f l) = nothing
  each_called valued (Partly mask bits) = nothing

  each_if : (b : Bool) (l : ℕ) → Q (Moved (To l)) → Q (if b then Moved (To l) else Meaningless)
  each_if true l h = h
  each_if false l h = nothing

  each_jumped : (function : ℕ) (w : Word) → ((l : ℕ) → Q (Moved (To l))) → Q (jumped function w)
  each_jumped function (Label f l) to = each_if (f == function) l (to l)
  each_jumped function (Plain v) to = nothing
  each_jumped function (Partly mask bits) to = nothing

  each_branched : (x : Sym) (b : Option Bool) → ((l : ℕ) → Q (Moved (To l))) → Q (branched x b)
  each_branched (sym.Label l) (Some true) to = to l
  each_branched (sym.Label l) (Some false) to = next
  each_branched x b to = nothing

  each_leaf_row : (e : Environment) (h : Head) (o : Op) (x : Suffix) → ((v : Option Word) → o ≡ op.Ret → Q (Moved (End v))) → ((l : ℕ) → jumps o ≡ true → Q (Moved (To l))) → Q (leaf_row e h objects o x)
  each_leaf_row e h op.Cnst C end to = each_gave _
  each_leaf_row e h op.Cnst S end to = each_gave _
  each_leaf_row e h op.Cnst I end to = each_gave _
  each_leaf_row e h op.Cnst U end to = each_gave _
  each_leaf_row e h op.Cnst P end to = each_gave _
  each_leaf_row e h op.Addrg P end to = each_gave _
  each_leaf_row e h op.Addrf P end to = each_gave _
  each_leaf_row e h op.Addrl P end to = each_gave _
  each_leaf_row e h op.Ret V end to = end None refl
  each_leaf_row e h op.Label V end to = next
  each_leaf_row e h o x end to = nothing

  each_unary_row : (e : Environment) (h : Head) (o : Op) (x : Suffix) (a : Word) → ((v : Option Word) → o ≡ op.Ret → Q (Moved (End v))) → ((l : ℕ) → jumps o ≡ true → Q (Moved (To l))) → Q (unary_row e h objects o x a)
  each_unary_row e h op.Indir C a end to = each_gave _
  each_unary_row e h op.Indir S a end to = each_gave _
  each_unary_row e h op.Indir I a end to = each_gave _
  each_unary_row e h op.Indir P a end to = each_gave _
  each_unary_row e h op.Indir B a end to = value a
  each_unary_row e h op.Arg I a end to = passed a
  each_unary_row e h op.Arg P a end to = passed a
  each_unary_row e h op.Call I a end to = each_called true a
  each_unary_row e h op.Call V a end to = each_called false a
  each_unary_row e h op.Ret I a end to = end (Some a) refl
  each_unary_row e h op.Cvc I a end to = each_gave _
  each_unary_row e h op.Cvc U a end to = each_gave _
  each_unary_row e h op.Cvs I a end to = each_gave _
  each_unary_row e h op.Cvs U a end to = each_gave _
  each_unary_row e h op.Cvi C a end to = each_gave _
  each_unary_row e h op.Cvi S a end to = each_gave _
  each_unary_row e h op.Cvi U a end to = value a
  each_unary_row e h op.Cvu C a end to = each_gave _
  each_unary_row e h op.Cvu S a end to = each_gave _
  each_unary_row e h op.Cvu I a end to = value a
  each_unary_row e h op.Cvu P a end to = value a
  each_unary_row e h op.Cvp U a end to = value a
  each_unary_row e h op.Neg I a end to = each_gave _
  each_unary_row e h op.Bcom U a end to = each_gave _
  each_unary_row e h op.Jump V a end to = each_jumped e.home.function a (λ l. to l refl)
  each_unary_row e h o x a end to = nothing

  each_binary_row : (e : Environment) (h : Head) (o : Op) (x : Suffix) (a b : Word) → ((v : Option Word) → o ≡ op.Ret → Q (Moved (End v))) → ((l : ℕ) → jumps o ≡ true → Q (Moved (To l))) → Q (binary_row e h objects o x a b)
  each_binary_row e h op.Asgn C a b end to = each_number e.order width.One a (low_number (bits_in width.One) b)
  each_binary_row e h op.Asgn S a b end to = each_number e.order width.Two a (low_number (bits_in width.Two) b)
  each_binary_row e h op.Asgn I a b end to = each_bytes 4 (word_bytes e.order b) a
  each_binary_row e h op.Asgn P a b end to = each_bytes 4 (word_bytes e.order b) a
  each_binary_row e h op.Asgn B a b end to = each_assigned h.sym a b
  each_binary_row e h op.Add I a b end to = each_gave _
  each_binary_row e h op.Add U a b end to = each_gave _
  each_binary_row e h op.Add P a b end to = each_gave _
  each_binary_row e h op.Sub I a b end to = each_gave _
  each_binary_row e h op.Sub U a b end to = each_gave _
  each_binary_row e h op.Sub P a b end to = each_gave _
  each_binary_row e h op.Mul I a b end to = each_gave _
  each_binary_row e h op.Mul U a b end to = each_gave _
  each_binary_row e h op.Div I a b end to = each_gave _
  each_binary_row e h op.Div U a b end to = each_gave _
  each_binary_row e h op.Mod I a b end to = each_gave _
  each_binary_row e h op.Mod U a b end to = each_gave _
  each_binary_row e h op.Lsh I a b end to = each_gave _
  each_binary_row e h op.Lsh U a b end to = each_gave _
  each_binary_row e h op.Rsh I a b end to = each_gave _
  each_binary_row e h op.Rsh U a b end to = each_gave _
  each_binary_row e h op.Band U a b end to = each_gave _
  each_binary_row e h op.Bor U a b end to = each_gave _
  each_binary_row e h op.Bxor U a b end to = each_gave _
  each_binary_row e h op.Eq I a b end to = each_branched h.sym _ (λ l. to l refl)
  each_binary_row e h op.Ne I a b end to = each_branched h.sym _ (λ l. to l refl)
  each_binary_row e h op.Lt I a b end to = each_branched h.sym _ (λ l. to l refl)
  each_binary_row e h op.Lt U a b end to = each_branched h.sym _ (λ l. to l refl)
  each_binary_row e h op.Le I a b end to = each_branched h.sym _ (λ l. to l refl)
  each_binary_row e h op.Le U a b end to = each_branched h.sym _ (λ l. to l refl)
  each_binary_row e h op.Gt I a b end to = each_branched h.sym _ (λ l. to l refl)
  each_binary_row e h op.Gt U a b end to = each_branched h.sym _ (λ l. to l refl)
  each_binary_row e h op.Ge I a b end to = each_branched h.sym _ (λ l. to l refl)
  each_binary_row e h op.Ge U a b end to = each_branched h.sym _ (λ l. to l refl)
  each_binary_row e h o x a b end to = nothing

  pub each_row : (e : Environment) (h : Head) (ws : List Word) → ((v : Option Word) → h.operator.op ≡ op.Ret → Q (Moved (End v))) → ((l : ℕ) → jumps h.operator.op ≡ true → Q (Moved (To l))) → Q (acts e h ws objects)
  each_row e h [] end to = each_leaf_row e h h.operator.op h.operator.suffix end to
  each_row e h (a ∷ []) end to = each_unary_row e h h.operator.op h.operator.suffix a end to
  each_row e h (a ∷ b ∷ []) end to = each_binary_row e h h.operator.op h.operator.suffix a b end to
  each_row e h (a ∷ b ∷ c ∷ ws) end to = nothing
