-- Nodes that reach for places: what is told of them, and what they become.
use Rattle.std.proofs.Common.{◌≡◌, ℕ, ◌≤◌, ◌+◌, Bool, true, false, List, [], ◌∷◌, length, refl, sym, ap, ◌∙◌, true≢false, arith}
use Rattle.std.specs.Prelude.{None, not, nat_lt, ◌||◌, ◌&&◌, if◌then◌else◌}
use Rattle.std.proofs.lemmas.Bool.Decides.{nat_tests}
use Rattle.c_ast.specs.declared.operator.PrefixOperator.TheVariants as prefix
use Rattle.c_types.specs.CType.{Void, CType, Plain, Array, Kind, Simple, Function, Structure, Union, depth}
use Rattle.c_types.specs.Conversions.{is_integer}
use Rattle.c_types.specs.Facts.{IsWithin}
use Rattle.c_types.specs.Layout.{Tag, known}
use Rattle.c_types.specs.Table.{Table, tags, type_at}
use Rattle.c_meaning.specs.declared.core_expr.CoreKind.TheVariants as kind
use Rattle.c_meaning.specs.Constraints.{Breaks, constraints, first_broken}
use Rattle.c_meaning.specs.CoreTrees.{CoreOf, Core, IsIn, line_of, one, seen, type_of}
use Rattle.c_meaning.specs.ExprConstraints.{is_addressable, is_no_subscript}
use Rattle.c_meaning.specs.Nodes.{Expression}
use Rattle.c_meaning.specs.Nodes as node
use Rattle.c_meaning.specs.Rows.{moved, pointed, pointer_among}
use Rattle.c_meaning.specs.State.{State}
use Rattle.c_meaning.specs.Types.{has_size, is_pointer, is_scalar, pointer_to, target}
use Rattle.c_meaning.specs.Typing.{Fine, Bad, at_expr}
use Rattle.c_meaning.specs.Values.{CoreTree, is_lvalue, is_place, value, value_by, value_type}
use Rattle.c_values.specs.TooDeep.{IsTooDeep}
use Rattle.c_check_expr.specs.AtNode.{Tells}
use Rattle.c_values.specs.declared.check_fault.CheckFault.{CheckFault}
use Rattle.c_check_expr.specs.SomeDeep.{AreTooDeep}
use Rattle.c_check_expr.proofs.NodeTells.{deep_more, node_deep, or_true}
use Rattle.c_check_expr.proofs.NodeLimits.{IsShallow, IsSmall, node_broken, node_fine, none_passed, pointer_small, value_small, within_shallow, within_small}
use Rattle.c_values.specs.Stays.{type_seen}
use Rattle.c_check_expr.proofs.TableLimits.{AreLimited, deep_told, small_in}

shallower : (a b : ℕ) → a ≤ b → nat_lt 500 b ≡ false → nat_lt 500 a ≡ false
shallower a b l h = grind (arith, nat_tests)

pub not_of : (b c : Bool) → c ≡ not b → b ≡ not c
not_of true c h = rw h refl
not_of false c h = rw h refl

-- ---- addresses

first_shallow : (of : CType) (c : CoreTree) → IsShallow (pointer_to of) → IsShallow (type_of c) → (b : Bool) → IsShallow (type_of (if b then Core kind.First (pointer_to of) (line_of c) (one c) else c))
first_shallow of c p t true = p
first_shallow of c p t false = t

read_shallow : (q : ℕ) (k : Kind) (c : CoreTree) → IsShallow (Plain q k) → IsShallow (type_of c) → (b : Bool) → IsShallow (type_of (if b then Core kind.Read (Plain 0 k) (line_of c) (one c) else c))
read_shallow q k c h t true = h
read_shallow q k c h t false = t

value_shallow_by : (t : CType) (c : CoreTree) → IsShallow t → IsShallow (pointer_to t) → IsShallow (type_of c) → IsShallow (pointer_to (type_of c)) → IsShallow (type_of (value_by t c))
value_shallow_by (Array of n) c h p t q = first_shallow of c (shallower (1 + depth of) (1 + (1 + depth of)) (omega arith) p) t (is_lvalue c)
value_shallow_by (Plain x (Function r ps)) c h p t q = q
value_shallow_by (Plain x (Structure n)) c h p t q = t
value_shallow_by (Plain x (Union n)) c h p t q = t
value_shallow_by (Plain x (Simple Void)) c h p t q = t
value_shallow_by (Plain x k) c h p t q = read_shallow x k c h t (is_place c)

-- where a pointer to an expression isn't too deep, the type of its value isn't
value_shallow : (c : CoreTree) → IsShallow (pointer_to (type_of c)) → IsShallow (value_type c)
value_shallow c q =
    let h = shallower (depth (type_of c)) (1 + depth (type_of c)) (omega arith) q in
    value_shallow_by (type_of c) c h q h q

address_passes : (s : State) (a : CoreTree) → is_addressable a ≡ true → first_broken constraints s (Expression (node.Prefix prefix.Address a)) ≡ None
address_passes s a b = rw b refl

pub address_broken : (s : State) (line : ℕ) (a : CoreTree) → is_addressable a ≡ false → at_expr s line (node.Prefix prefix.Address a) ≡ Bad (Breaks 35 line)
address_broken s line a b = node_broken s line 35 (node.Prefix prefix.Address a) (rw b refl)

pub address_deep : (s : State) (line : ℕ) (a : CoreTree) (e : CheckFault) → is_addressable a ≡ true → IsSmall s.tags (type_of a) → IsTooDeep e line (pointer_to (type_of a)) → Tells e (at_expr s line (node.Prefix prefix.Address a))
address_deep s line a e b n d =
    deep_told s line (node.Prefix prefix.Address a) e (pointer_to (type_of a)) d (address_passes s a b)
    (value_small s.tags a n, (pointer_small s.tags 0 (type_of a), tt))
    (λ f. ap (λ x. nat_lt 500 (depth (value_type a)) || (x || false)) f ∙ or_true (nat_lt 500 (depth (value_type a))))

pub address_fine : (s : State) (line : ℕ) (a : CoreTree) → is_addressable a ≡ true → IsSmall s.tags (type_of a) → IsShallow (pointer_to (type_of a)) → at_expr s line (node.Prefix prefix.Address a) ≡ Fine s (Core kind.Address (pointer_to (type_of a)) line (one a))
address_fine s line a b n d =
    node_fine s line (node.Prefix prefix.Address a) (address_passes s a b)
    (none_passed s line (node.Prefix prefix.Address a) (value_small s.tags a n, (pointer_small s.tags 0 (type_of a), tt)) (value_shallow a d, (d, tt)) refl)

-- ---- what pointers point to

indirect_passes : (s : State) (a : CoreTree) → is_pointer (value_type a) ≡ true → first_broken constraints s (Expression (node.Prefix prefix.Indirect a)) ≡ None
indirect_passes s a b = rw b refl

pub indirect_broken : (s : State) (line : ℕ) (a : CoreTree) → is_pointer (value_type a) ≡ false → at_expr s line (node.Prefix prefix.Indirect a) ≡ Bad (Breaks 36 line)
indirect_broken s line a b = node_broken s line 36 (node.Prefix prefix.Indirect a) (rw b refl)

pub indirect_deep : (s : State) (line : ℕ) (a : CoreTree) (e : CheckFault) → is_pointer (value_type a) ≡ true → IsSmall s.tags (type_of a) → IsWithin (known s.tags) (target (value_type a)) → IsTooDeep e line (value_type a) → Tells e (at_expr s line (node.Prefix prefix.Indirect a))
indirect_deep s line a e b n w d =
    deep_told s line (node.Prefix prefix.Indirect a) e (value_type a) d (indirect_passes s a b)
    (value_small s.tags a n, (within_small s.tags (target (value_type a)) w, tt))
    (λ f. rw f refl)

pub indirect_fine : (s : State) (line : ℕ) (a : CoreTree) → is_pointer (value_type a) ≡ true → IsSmall s.tags (type_of a) → IsWithin (known s.tags) (target (value_type a)) → IsShallow (value_type a) → at_expr s line (node.Prefix prefix.Indirect a) ≡ Fine s (pointed line (value a))
indirect_fine s line a b n w d =
    node_fine s line (node.Prefix prefix.Indirect a) (indirect_passes s a b)
    (none_passed s line (node.Prefix prefix.Indirect a)
    (value_small s.tags a n, (within_small s.tags (target (value_type a)) w, tt))
    (d, (within_shallow s.tags (target (value_type a)) w, tt)) refl)

-- ---- subscripts

subscript_passes : (s : State) (a i : CoreTree) → is_no_subscript s (node.Index a i) ≡ false → first_broken constraints s (Expression (node.Index a i)) ≡ None
subscript_passes s a i b = rw b refl

pub subscript_broken : (s : State) (line : ℕ) (a i : CoreTree) → is_no_subscript s (node.Index a i) ≡ true → at_expr s line (node.Index a i) ≡ Bad (Breaks 32 line)
subscript_broken s line a i b = node_broken s line 32 (node.Index a i) (rw b refl)

-- the types of its operands, and of what is pointed to, pass no limit on sizes
pub record IsSubscript (s : State) (a i : CoreTree) : Type 0 where
  pub test : is_no_subscript s (node.Index a i) ≡ false
  pub first : IsSmall s.tags (type_of a)
  pub second : IsSmall s.tags (type_of i)
  pub within : IsWithin (known s.tags) (target (pointer_among (value_type a) (value_type i)))

pub subscript_deep : (s : State) (line : ℕ) (a i : CoreTree) (e : CheckFault) → IsSubscript s a i → AreTooDeep e line (value_type a ∷ value_type i ∷ []) → Tells e (at_expr s line (node.Index a i))
subscript_deep s line a i e h d =
    let of = target (pointer_among (value_type a) (value_type i)) in
    node_deep s line (node.Index a i) e (subscript_passes s a i h.test)
    (value_small s.tags a h.first, (value_small s.tags i h.second, (within_small s.tags of h.within, tt)))
    (deep_more e line (value_type a ∷ value_type i ∷ []) (of ∷ []) d)

pub subscript_fine : (s : State) (line : ℕ) (a i : CoreTree) → IsSubscript s a i → IsShallow (value_type a) → IsShallow (value_type i) → at_expr s line (node.Index a i) ≡ Fine s (pointed line (moved s.tags false line (value a) (value i)))
subscript_fine s line a i h d k =
    let of = target (pointer_among (value_type a) (value_type i)) in
    node_fine s line (node.Index a i) (subscript_passes s a i h.test)
    (none_passed s line (node.Index a i)
    (value_small s.tags a h.first, (value_small s.tags i h.second, (within_small s.tags of h.within, tt)))
    (d, (k, (within_shallow s.tags of h.within, tt))) refl)

-- its operands are scalars, and one is a pointer
pub record AreScalars (t u : CType) : Type 0 where
  pub first : is_scalar t ≡ true
  pub second : is_scalar u ≡ true
  pub pointer : is_pointer (pointer_among t u) ≡ true

abbrev Among : (pt iu it pu : Bool) → Type 0
Among pt iu it pu = ((it || pt) ≡ true) × ((iu || pu) ≡ true) × ((pt || pu) ≡ true)

among : (pt xt iu it pu xu : Bool) → (((pt && xt) && iu) || (it && (pu && xu))) ≡ true → Among pt iu it pu
among true true true it pu xu h = (or_true it, refl, refl)
among true true false true true xu h = (refl, refl, refl)
among true true false true false xu h = absurd (true≢false (sym h))
among true true false false pu xu h = absurd (true≢false (sym h))
among true false iu true true xu h = (refl, or_true iu, refl)
among true false iu true false xu h = absurd (true≢false (sym h))
among true false iu false pu xu h = absurd (true≢false (sym h))
among false xt iu true true xu h = (refl, or_true iu, refl)
among false xt iu true false xu h = absurd (true≢false (sym h))
among false xt iu false pu xu h = absurd (true≢false (sym h))

pointer_by : (b : Bool) (t u : CType) → is_pointer t ≡ b → (b || is_pointer u) ≡ true → is_pointer (if b then t else u) ≡ true
pointer_by true t u e h = e
pointer_by false t u e h = h

not_false : (b : Bool) → not b ≡ false → b ≡ true
not_false true h = refl
not_false false h = sym h

pub subscript_scalars : (s : State) (a i : CoreTree) → is_no_subscript s (node.Index a i) ≡ false → AreScalars (value_type a) (value_type i)
subscript_scalars s a i h =
    let t = value_type a in
    let u = value_type i in
    let m = among (is_pointer t) (has_size s.tags (target t)) (is_integer u) (is_integer t) (is_pointer u) (has_size s.tags (target u)) (not_false _ h) in
    record { first = m.0; second = m.1; pointer = pointer_by (is_pointer t) t u refl m.2 }

pub subscript_is : (s : State) (t : Table) → s.tags ≡ tags t → AreLimited t → (a i : CoreOf ℕ) → IsIn (length t.forms) a → IsIn (length t.forms) i → is_no_subscript s (node.Index (seen (type_at t) a) (seen (type_at t) i)) ≡ false → IsWithin (known (tags t)) (target (pointer_among (value_type (seen (type_at t) a)) (value_type (seen (type_at t) i)))) → IsSubscript s (seen (type_at t) a) (seen (type_at t) i)
subscript_is s t h w a i x y b l = record { test = b; first = small_in s t h w a x; second = small_in s t h w i y; within = rw h l }

-- what is known where nothing is declared
abbrev pub bare_state : List Tag → State
bare_state tags = record { outer = []; inner = []; links = []; symbols = []; tags = tags; count = 0 }

-- the types of values that a table holds are scalars, and one a pointer
pub values_scalars : (n : ℕ → CType) (v w : CoreOf ℕ) (a i : CoreTree) → seen n v ≡ value a → seen n w ≡ value i → AreScalars (value_type a) (value_type i) → AreScalars (n (type_of v)) (n (type_of w))
values_scalars n v w a i e f h =
    let x = sym (type_seen n v) ∙ ap type_of e in
    let y = sym (type_seen n w) ∙ ap type_of f in
    record { first = rw x (h.first); second = rw y (h.second); pointer = rw (x, y) (h.pointer) }
