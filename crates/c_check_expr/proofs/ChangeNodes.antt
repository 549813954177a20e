-- What is told at the nodes of assignments, `++` and `--`.
use Rattle.std.proofs.Common.{◌≡◌, ℕ, Bool, true, false, List, [], ◌∷◌, refl, sym, ap, ◌∙◌, subst, true≢false}
use Rattle.std.specs.Prelude.{Option, Some, None, not, nat_lt, ◌||◌, if◌then◌else◌}
use Rattle.lcc_base.specs.declared.which.Which.TheVariants as which
use Rattle.c_ast.specs.declared.operator.AssignOperator.{AssignOperator}
use Rattle.c_ast.specs.declared.operator.AssignOperator.TheVariants as assign
use Rattle.c_ast.specs.declared.operator.PostfixOperator.{PostfixOperator}
use Rattle.c_ast.specs.declared.operator.PostfixOperator.TheVariants as postfix
use Rattle.c_ast.specs.declared.operator.PrefixOperator.{PrefixOperator}
use Rattle.c_ast.specs.declared.operator.PrefixOperator.TheVariants as prefix
use Rattle.c_types.specs.CType.{Void, Int, CType, Plain, Array, Kind, Simple, Function, Structure, Union, basic, depth, unqualified}
use Rattle.c_types.specs.Facts.{IsWithin}
use Rattle.c_types.specs.Layout.{Tag, known}
use Rattle.c_meaning.specs.declared.core_expr.Change.{Change}
use Rattle.c_meaning.specs.declared.core_expr.CoreKind.{CoreKind}
use Rattle.c_meaning.specs.declared.core_expr.CoreKind.TheVariants as kind
use Rattle.c_meaning.specs.Constraints.{Breaks, Passes, constraints, first_broken, some_deep}
use Rattle.c_meaning.specs.CoreTrees.{Core, line_of, one, type_of}
use Rattle.c_meaning.specs.ExprConstraints.{can_assign, can_be_stepped, is_modifiable}
use Rattle.c_meaning.specs.Nodes.{ExprNode, Expression}
use Rattle.c_meaning.specs.Nodes as node
use Rattle.c_meaning.specs.Rows.{added, assigned, number, postfixed, prefixed, stepped}
use Rattle.c_meaning.specs.State.{State}
use Rattle.c_meaning.specs.Types.{is_pointer}
use Rattle.c_meaning.specs.Typing.{Outcome, Fine, Bad, at_expr}
use Rattle.c_meaning.specs.Values.{CoreTree, is_place, value, value_by, value_type}
use Rattle.c_values.specs.declared.check_fault.CheckFault.{CheckFault}
use Rattle.c_values.specs.declared.check_fault.CheckFault.TheVariants.{Constraint, Limit, Memory}
use Rattle.c_values.specs.TooDeep.{IsTooDeep}
use Rattle.c_check_expr.specs.AtNode.{Tells}
use Rattle.c_check_expr.specs.Changing.{assign_broken, step_broken}
use Rattle.c_check_expr.proofs.NodeLimits.{AreSmall, IsShallow, IsSmall, depth_passed, node_broken, node_fine, node_passed, none_passed, unqualified_shallow, unqualified_small, value_small, within_shallow, within_small}

-- ---- tests over what is known of structures

-- a constraint that is broken, by a test of the structures that are known
pub broken_by : (s : State) (tags : List Tag) (line number : ℕ) (n : ExprNode) (test : List Tag → Option ℕ) → first_broken constraints s (Expression n) ≡ test s.tags → s.tags ≡ tags → test tags ≡ Some number → at_expr s line n ≡ Bad (Breaks number line)
broken_by s tags line number n test e h b = node_broken s line number n (e ∙ ap test h ∙ b)

if_none : (b : Bool) (n : ℕ) (o : Option ℕ) → (if b then Some n else o) ≡ None → b ≡ false
if_none true n o e = absurd (let never : ⊥ = cc in never)
if_none false n o e = refl

if_rest : (b : Bool) (n : ℕ) (o : Option ℕ) → (if b then Some n else o) ≡ None → o ≡ None
if_rest true n o e = absurd (let never : ⊥ = cc in never)
if_rest false n o e = e

not_false : (b : Bool) → not b ≡ false → b ≡ true
not_false true e = refl
not_false false e = absurd (true≢false e)

pub step_modifiable : (tags : List Tag) (a : CoreTree) → step_broken tags a ≡ None → is_modifiable tags a ≡ true
step_modifiable tags a e = not_false (is_modifiable tags a) (if_none (not (is_modifiable tags a)) 34 _ e)

pub step_stepped : (tags : List Tag) (a : CoreTree) → step_broken tags a ≡ None → can_be_stepped (type_of a) ≡ true
step_stepped tags a e = not_false (can_be_stepped (type_of a)) (if_none (not (can_be_stepped (type_of a))) 40 _ (if_rest (not (is_modifiable tags a)) 34 _ e))

-- ---- the limits of `++` and `--`

-- what is changed keeps its type
change_type : (b : Bool) (x y : CoreTree) (t : CType) → type_of x ≡ t → type_of y ≡ t → type_of (if b then x else y) ≡ t
change_type true x y t p q = p
change_type false x y t p q = q

pub added_type : (tags : List Tag) (line : ℕ) (what : Change → CoreKind) (back : Bool) (a w : CoreTree) → type_of (added tags line what back a w) ≡ unqualified (type_of a)
added_type tags line what back a w = change_type (is_pointer (type_of a)) _ _ (unqualified (type_of a)) refl refl

stepped_type : (tags : List Tag) (line : ℕ) (what : Change → CoreKind) (back : Bool) (a : CoreTree) → type_of (stepped tags line what back a) ≡ unqualified (type_of a)
stepped_type tags line what back a = added_type tags line what back a (number (basic Int) line 1)

read_shallow : (k : Kind) (c : CoreTree) → IsShallow (Plain 0 k) → IsShallow (type_of c) → (b : Bool) → IsShallow (type_of (if b then Core kind.Read (Plain 0 k) (line_of c) (one c) else c))
read_shallow k c h t true = h
read_shallow k c h t false = t

shallow_by : (t : CType) (c : CoreTree) → can_be_stepped t ≡ true → IsShallow t → IsShallow (type_of c) → IsShallow (type_of (value_by t c))
shallow_by (Array of n) c k h t = absurd (true≢false (sym k))
shallow_by (Plain q (Function r ps)) c k h t = absurd (true≢false (sym k))
shallow_by (Plain q (Structure n)) c k h t = t
shallow_by (Plain q (Union n)) c k h t = t
shallow_by (Plain q (Simple Void)) c k h t = t
shallow_by (Plain q k) c i h t = read_shallow k c h t (is_place c)

-- a number or a pointer has a value that is no deeper than itself
pub value_shallow : (c : CoreTree) → can_be_stepped (type_of c) ≡ true → IsShallow (type_of c) → IsShallow (value_type c)
value_shallow c k h = shallow_by (type_of c) c k h h

step_small : (tags : List Tag) (t : CType) (c : CoreTree) → type_of c ≡ unqualified t → IsWithin (known tags) t → IsSmall tags (type_of c)
step_small tags t c e w = subst (IsSmall tags) (sym e) (unqualified_small tags t (within_small tags t w))

step_shallow : (tags : List Tag) (t : CType) (c : CoreTree) → type_of c ≡ unqualified t → IsWithin (known tags) t → IsShallow (type_of c)
step_shallow tags t c e w = subst IsShallow (sym e) (unqualified_shallow t (within_shallow tags t w))

postfix_type : (tags : List Tag) (line : ℕ) (op : PostfixOperator) (a : CoreTree) → type_of (postfixed tags line op a) ≡ unqualified (type_of a)
postfix_type tags line postfix.Increment a = stepped_type tags line kind.Postfix false a
postfix_type tags line postfix.Decrement a = stepped_type tags line kind.Postfix true a

postfix_by : (s : State) (line : ℕ) (op : PostfixOperator) (a : CoreTree) → step_broken s.tags a ≡ None → IsWithin (known s.tags) (type_of a) → at_expr s line (node.Postfix op a) ≡ Fine s (postfixed s.tags line op a)
postfix_by s line op a e w =
    let n = node.Postfix op a in
    let t = postfix_type s.tags line op a in
    let r = postfixed s.tags line op a in
    node_fine s line n e (none_passed s line n (step_small s.tags (type_of a) r t w, tt) (step_shallow s.tags (type_of a) r t w, tt) refl)

-- `a++` and `a--`
pub postfix_fine : (s : State) (tags : List Tag) (line : ℕ) (op : PostfixOperator) (a : CoreTree) → s.tags ≡ tags → step_broken tags a ≡ None → IsWithin (known tags) (type_of a) → at_expr s line (node.Postfix op a) ≡ Fine s (postfixed tags line op a)
postfix_fine s tags line op a h = subst (λ z. step_broken z a ≡ None → IsWithin (known z) (type_of a) → at_expr s line (node.Postfix op a) ≡ Fine s (postfixed z line op a)) h (postfix_by s line op a)

pre_limits : (s : State) (line : ℕ) (op : PrefixOperator) (a : CoreTree) → first_broken constraints s (Expression (node.Prefix op a)) ≡ step_broken s.tags a → type_of (prefixed s.tags line op a) ≡ unqualified (type_of a) → step_broken s.tags a ≡ None → IsWithin (known s.tags) (type_of a) → at_expr s line (node.Prefix op a) ≡ Fine s (prefixed s.tags line op a)
pre_limits s line op a f t e w =
    let n = node.Prefix op a in
    let r = prefixed s.tags line op a in
    let small = within_small s.tags (type_of a) w in
    let shallow = within_shallow s.tags (type_of a) w in
    node_fine s line n (f ∙ e)
    (none_passed s line n (value_small s.tags a small, (step_small s.tags (type_of a) r t w, tt)) (value_shallow a (step_stepped s.tags a e) shallow, (step_shallow s.tags (type_of a) r t w, tt)) refl)

-- `++a` and `--a`
pub increment_fine : (s : State) (tags : List Tag) (line : ℕ) (a : CoreTree) → s.tags ≡ tags → step_broken tags a ≡ None → IsWithin (known tags) (type_of a) → at_expr s line (node.Prefix prefix.Increment a) ≡ Fine s (prefixed tags line prefix.Increment a)
increment_fine s tags line a h =
    subst (λ z. step_broken z a ≡ None → IsWithin (known z) (type_of a) → at_expr s line (node.Prefix prefix.Increment a) ≡ Fine s (prefixed z line prefix.Increment a)) h
    (pre_limits s line prefix.Increment a refl (stepped_type s.tags line kind.Change false a))

pub decrement_fine : (s : State) (tags : List Tag) (line : ℕ) (a : CoreTree) → s.tags ≡ tags → step_broken tags a ≡ None → IsWithin (known tags) (type_of a) → at_expr s line (node.Prefix prefix.Decrement a) ≡ Fine s (prefixed tags line prefix.Decrement a)
decrement_fine s tags line a h =
    subst (λ z. step_broken z a ≡ None → IsWithin (known z) (type_of a) → at_expr s line (node.Prefix prefix.Decrement a) ≡ Fine s (prefixed z line prefix.Decrement a)) h
    (pre_limits s line prefix.Decrement a refl (stepped_type s.tags line kind.Change true a))

-- ---- assignments

assign_first : (s : State) (op : AssignOperator) (a b : CoreTree) → first_broken constraints s (Expression (node.Assign op a b)) ≡ assign_broken s.tags op a b
assign_first s assign.Plain a b = refl
assign_first s assign.Multiply a b = refl
assign_first s assign.Divide a b = refl
assign_first s assign.Remainder a b = refl
assign_first s assign.Add a b = refl
assign_first s assign.Subtract a b = refl
assign_first s assign.ShiftLeft a b = refl
assign_first s assign.ShiftRight a b = refl
assign_first s assign.BitAnd a b = refl
assign_first s assign.BitXor a b = refl
assign_first s assign.BitOr a b = refl

assigned_type : (tags : List Tag) (line : ℕ) (op : AssignOperator) (a w : CoreTree) → type_of (assigned tags line op a w) ≡ unqualified (type_of a)
assigned_type tags line assign.Plain a w = refl
assigned_type tags line assign.Multiply a w = refl
assigned_type tags line assign.Divide a w = refl
assigned_type tags line assign.Remainder a w = refl
assigned_type tags line assign.Add a w = added_type tags line kind.Change false a w
assigned_type tags line assign.Subtract a w = added_type tags line kind.Change true a w
assigned_type tags line assign.ShiftLeft a w = refl
assigned_type tags line assign.ShiftRight a w = refl
assigned_type tags line assign.BitAnd a w = refl
assigned_type tags line assign.BitXor a w = refl
assigned_type tags line assign.BitOr a w = refl

pub assign_modifiable : (tags : List Tag) (op : AssignOperator) (a b : CoreTree) → assign_broken tags op a b ≡ None → is_modifiable tags a ≡ true
assign_modifiable tags op a b e = not_false (is_modifiable tags a) (if_none (not (is_modifiable tags a)) 34 _ e)

pub assign_kinds : (tags : List Tag) (op : AssignOperator) (a b : CoreTree) → assign_broken tags op a b ≡ None → can_assign op (type_of a) (value_type b) ≡ true
assign_kinds tags op a b e = not_false (can_assign op (type_of a) (value_type b)) (if_none (not (can_assign op (type_of a) (value_type b))) 40 _ (if_rest (not (is_modifiable tags a)) 34 _ e))

pub assign_refused : (s : State) (tags : List Tag) (line number : ℕ) (op : AssignOperator) (a b : CoreTree) → s.tags ≡ tags → assign_broken tags op a b ≡ Some number → at_expr s line (node.Assign op a b) ≡ Bad (Breaks number line)
assign_refused s tags line number op a b h e = broken_by s tags line number (node.Assign op a b) (λ z. assign_broken z op a b) (assign_first s op a b) h e

assign_small : (tags : List Tag) (line : ℕ) (op : AssignOperator) (a b : CoreTree) → IsWithin (known tags) (type_of a) → IsWithin (known tags) (type_of b) → AreSmall tags (value_type b ∷ type_of (assigned tags line op a (value b)) ∷ [])
assign_small tags line op a b v w =
    (value_small tags b (within_small tags (type_of b) w), (step_small tags (type_of a) (assigned tags line op a (value b)) (assigned_type tags line op a (value b)) v, tt))

assign_by : (s : State) (line : ℕ) (op : AssignOperator) (a b : CoreTree) → IsShallow (value_type b) → assign_broken s.tags op a b ≡ None → IsWithin (known s.tags) (type_of a) → IsWithin (known s.tags) (type_of b) → at_expr s line (node.Assign op a b) ≡ Fine s (assigned s.tags line op a (value b))
assign_by s line op a b d e v w =
    let n = node.Assign op a b in
    let t = step_shallow s.tags (type_of a) (assigned s.tags line op a (value b)) (assigned_type s.tags line op a (value b)) v in
    node_fine s line n (assign_first s op a b ∙ e) (none_passed s line n (assign_small s.tags line op a b v w) (d, (t, tt)) refl)

pub assign_fine : (s : State) (tags : List Tag) (line : ℕ) (op : AssignOperator) (a b : CoreTree) → s.tags ≡ tags → IsShallow (value_type b) → assign_broken tags op a b ≡ None → IsWithin (known tags) (type_of a) → IsWithin (known tags) (type_of b) → at_expr s line (node.Assign op a b) ≡ Fine s (assigned tags line op a (value b))
assign_fine s tags line op a b h d =
    subst (λ z. assign_broken z op a b ≡ None → IsWithin (known z) (type_of a) → IsWithin (known z) (type_of b) → at_expr s line (node.Assign op a b) ≡ Fine s (assigned z line op a (value b))) h
    (assign_by s line op a b d)

assign_past : (s : State) (line : ℕ) (op : AssignOperator) (a b : CoreTree) → nat_lt 500 (depth (value_type b)) ≡ true → assign_broken s.tags op a b ≡ None → IsWithin (known s.tags) (type_of a) → IsWithin (known s.tags) (type_of b) → at_expr s line (node.Assign op a b) ≡ Bad (Passes which.Depth line)
assign_past s line op a b d e v w =
    let n = node.Assign op a b in
    let r = type_of (assigned s.tags line op a (value b)) in
    node_passed s line which.Depth n (assign_first s op a b ∙ e) (depth_passed s line n (assign_small s.tags line op a b v w) (ap (λ z. z || some_deep (r ∷ [])) d))

pub assign_deep : (s : State) (tags : List Tag) (line : ℕ) (op : AssignOperator) (a b : CoreTree) → s.tags ≡ tags → assign_broken tags op a b ≡ None → IsWithin (known tags) (type_of a) → IsWithin (known tags) (type_of b) → nat_lt 500 (depth (value_type b)) ≡ true → at_expr s line (node.Assign op a b) ≡ Bad (Passes which.Depth line)
assign_deep s tags line op a b h e v w d =
    subst (λ z. assign_broken z op a b ≡ None → IsWithin (known z) (type_of a) → IsWithin (known z) (type_of b) → at_expr s line (node.Assign op a b) ≡ Bad (Passes which.Depth line)) h
    (assign_past s line op a b d) e v w

-- what is told of a value that is too deep
pub told_deep : {T : Type 0} (e : CheckFault) (line : ℕ) (t : CType) (o : Outcome T) → IsTooDeep e line t → (nat_lt 500 (depth t) ≡ true → o ≡ Bad (Passes which.Depth line)) → Tells e o
told_deep (Constraint number place) line t o d f = absurd d
told_deep (Limit limit place) line t o d f = f d.1.1 ∙ rw (d.0, d.1.0) refl
told_deep Memory line t o d f = tt
