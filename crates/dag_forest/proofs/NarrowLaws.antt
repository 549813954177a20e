-- Operators of suffix C or S give numbers of 8 or 16 bits.
use Rattle.std.proofs.Common.{◌≡◌, ℕ, ℤ, List, [], ◌∷◌, Option, Some, None, sym, subst}
use Rattle.lcc_base.specs.declared.cause.Cause.{Cause}
use Rattle.lcc_base.specs.declared.order.Order.{Order}
use Rattle.objects.specs.declared.width.Width.{Width}
use Rattle.objects.specs.declared.width.Width.TheVariants as width
use Rattle.objects.specs.Values.{bytes_in, bits_in}
use Rattle.objects.specs.Bytes.{number_of_bytes}
use Rattle.objects.specs.Causes.{unless}
use Rattle.objects.specs.Accesses.{read_cause}
use Rattle.objects.specs.Copies.{or_cause}
use Rattle.op_forest.specs.declared.op.Op.{Op}
use Rattle.op_forest.specs.declared.op.Op.TheVariants as op
use Rattle.op_forest.specs.declared.suffix.Suffix.{Suffix}
use Rattle.op_forest.specs.declared.suffix.Suffix.TheVariants.{C, S}
use Rattle.op_forest.specs.Nodes.{Head}
use Rattle.forests.specs.Words.{Word, Plain, Label, Partly, narrow, low_number, number_of}
use Rattle.forests.specs.Objects.{Object, shapes, bytes_through}
use Rattle.forests.specs.Accesses.{defined, number_read, number_cause}
use Rattle.forests.specs.Actions.{Gave, gave, changed}
use Rattle.forests.specs.Addresses.{Environment}
use Rattle.forests.specs.Numbers.{narrow_constant, narrowed_by}
use Rattle.forests.specs.Rows.{acts, leaf_row, unary_row, binary_row}

-- a number of so many bits
abbrev IsNarrow : ℕ → Word → Type 0
IsNarrow bits v = (n : ℕ) × (v ≡ narrow bits n)

gives_only : (v w : Word) → Gave v ≡ Gave w → v ≡ w
gives_only v w e = cc

constant_gives : (bits : ℕ) (z : Option ℤ) (v : Word) → gave (narrow_constant bits z) ≡ Gave v → IsNarrow bits v
constant_gives bits None v e = absurd (let never : ⊥ = cc in never)
constant_gives bits (Some z) v e = (number_of z, sym (gives_only (narrow bits (number_of z)) v e))

narrowed_gives : (bits : ℕ) (m : Option ℕ) (v : Word) → gave (narrowed_by bits m) ≡ Gave v → IsNarrow bits v
narrowed_gives bits None v e = absurd (let never : ⊥ = cc in never)
narrowed_gives bits (Some n) v e = (n, sym (gives_only (narrow bits n) v e))

unless_gives : (c : Option Cause) (bits n : ℕ) (v : Word) → gave (defined (unless c (narrow bits n))) ≡ Gave v → IsNarrow bits v
unless_gives None bits n v e = (n, sym (gives_only (narrow bits n) v e))
unless_gives (Some c) bits n v e = absurd (let never : ⊥ = cc in never)

read_gives : (order : Order) (w : Width) (objects : List Object) (a v : Word) → gave (number_read order w objects a) ≡ Gave v → IsNarrow (bits_in w) v
read_gives order w objects (Plain p) v e =
    unless_gives (or_cause (read_cause (shapes objects) p (bytes_in w) (bytes_in w)) (number_cause (bytes_through objects p (bytes_in w)))) (bits_in w) (number_of_bytes order (bytes_through objects p (bytes_in w))) v e
read_gives order w objects (Label f l) v e = absurd (let never : ⊥ = cc in never)
read_gives order w objects (Partly mask bits) v e = absurd (let never : ⊥ = cc in never)

changed_gives_not : (new : Option (List Object)) (v : Word) → changed new ≡ Gave v → ⊥
changed_gives_not None v e = cc
changed_gives_not (Some objects) v e = cc

leaf_char : (e : Environment) (h : Head) (objects : List Object) (o : Op) (v : Word) → leaf_row e h objects o C ≡ Gave v → IsNarrow 8 v
leaf_char e h objects op.Cnst v g = constant_gives 8 h.value v g
leaf_char e h objects o v g = absurd (let never : ⊥ = cc in never)

leaf_short : (e : Environment) (h : Head) (objects : List Object) (o : Op) (v : Word) → leaf_row e h objects o S ≡ Gave v → IsNarrow 16 v
leaf_short e h objects op.Cnst v g = constant_gives 16 h.value v g
leaf_short e h objects o v g = absurd (let never : ⊥ = cc in never)

unary_char : (e : Environment) (h : Head) (objects : List Object) (o : Op) (a v : Word) → unary_row e h objects o C a ≡ Gave v → IsNarrow 8 v
unary_char e h objects op.Indir a v g = read_gives e.order width.One objects a v g
unary_char e h objects op.Cvi a v g = narrowed_gives 8 (low_number 8 a) v g
unary_char e h objects op.Cvu a v g = narrowed_gives 8 (low_number 8 a) v g
unary_char e h objects o a v g = absurd (let never : ⊥ = cc in never)

unary_short : (e : Environment) (h : Head) (objects : List Object) (o : Op) (a v : Word) → unary_row e h objects o S a ≡ Gave v → IsNarrow 16 v
unary_short e h objects op.Indir a v g = read_gives e.order width.Two objects a v g
unary_short e h objects op.Cvi a v g = narrowed_gives 16 (low_number 16 a) v g
unary_short e h objects op.Cvu a v g = narrowed_gives 16 (low_number 16 a) v g
unary_short e h objects o a v g = absurd (let never : ⊥ = cc in never)

binary_char : (e : Environment) (h : Head) (objects : List Object) (o : Op) (a b v : Word) → binary_row e h objects o C a b ≡ Gave v → IsNarrow 8 v
binary_char e h objects op.Asgn a b v g = absurd (changed_gives_not _ v g)
binary_char e h objects o a b v g = absurd (let never : ⊥ = cc in never)

binary_short : (e : Environment) (h : Head) (objects : List Object) (o : Op) (a b v : Word) → binary_row e h objects o S a b ≡ Gave v → IsNarrow 16 v
binary_short e h objects op.Asgn a b v g = absurd (changed_gives_not _ v g)
binary_short e h objects o a b v g = absurd (let never : ⊥ = cc in never)

pub char_is_narrow : (e : Environment) (h : Head) (ws : List Word) (objects : List Object) (v : Word) → h.operator.suffix ≡ C → acts e h ws objects ≡ Gave v → (n : ℕ) × (v ≡ narrow 8 n)
char_is_narrow e h [] objects v is g = leaf_char e h objects h.operator.op v (subst (λ (x : Suffix). leaf_row e h objects h.operator.op x ≡ Gave v) is g)
char_is_narrow e h (a ∷ []) objects v is g = unary_char e h objects h.operator.op a v (subst (λ (x : Suffix). unary_row e h objects h.operator.op x a ≡ Gave v) is g)
char_is_narrow e h (a ∷ b ∷ []) objects v is g = binary_char e h objects h.operator.op a b v (subst (λ (x : Suffix). binary_row e h objects h.operator.op x a b ≡ Gave v) is g)
char_is_narrow e h (a ∷ b ∷ c ∷ ws) objects v is g = absurd (let never : ⊥ = cc in never)

pub short_is_narrow : (e : Environment) (h : Head) (ws : List Word) (objects : List Object) (v : Word) → h.operator.suffix ≡ S → acts e h ws objects ≡ Gave v → (n : ℕ) × (v ≡ narrow 16 n)
short_is_narrow e h [] objects v is g = leaf_short e h objects h.operator.op v (subst (λ (x : Suffix). leaf_row e h objects h.operator.op x ≡ Gave v) is g)
short_is_narrow e h (a ∷ []) objects v is g = unary_short e h objects h.operator.op a v (subst (λ (x : Suffix). unary_row e h objects h.operator.op x a ≡ Gave v) is g)
short_is_narrow e h (a ∷ b ∷ []) objects v is g = binary_short e h objects h.operator.op a b v (subst (λ (x : Suffix). binary_row e h objects h.operator.op x a b ≡ Gave v) is g)
short_is_narrow e h (a ∷ b ∷ c ∷ ws) objects v is g = absurd (let never : ⊥ = cc in never)
