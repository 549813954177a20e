-- Each row of typing: where its node has no fault and its parts fit, what it makes of them fits.
use Rattle.std.proofs.Common.{◌≡◌, ◌⊎◌, ℕ, true, false, not, ◌&&◌, ◌||◌, List, refl, ◌∙◌, inl, inr}
use Rattle.std.specs.Prelude.{None, is_none}
use Rattle.c_ast.specs.declared.class.IntKind.{IntKind}
use Rattle.c_ast.specs.declared.class.IntKind.TheVariants as int_kind
use Rattle.c_ast.specs.declared.operator.AssignOperator.{AssignOperator}
use Rattle.c_ast.specs.declared.operator.AssignOperator.TheVariants as assign
use Rattle.c_ast.specs.declared.operator.MemberOperator.{MemberOperator}
use Rattle.c_ast.specs.declared.operator.MemberOperator.TheVariants as member
use Rattle.c_ast.specs.declared.operator.PostfixOperator.{PostfixOperator}
use Rattle.c_ast.specs.declared.operator.PostfixOperator.TheVariants as postfix
use Rattle.c_ast.specs.declared.operator.PrefixOperator.{PrefixOperator}
use Rattle.c_ast.specs.declared.operator.PrefixOperator.TheVariants as prefix
use Rattle.objects.specs.declared.operators.Binary.{Binary}
use Rattle.objects.specs.declared.operators.Binary.TheVariants as operator
use Rattle.objects.specs.declared.operators.Unary.TheVariants as unary
use Rattle.objects.specs.Arithmetic.{is_shift, word_of}
use Rattle.c_types.specs.CType.{Int, Unsigned, CType, Plain, Array, basic, unqualified}
use Rattle.c_types.specs.Conversions.{is_integer}
use Rattle.c_types.specs.Layout.{Tag}
use Rattle.c_types.specs.Members.{member_of}
use Rattle.c_meaning.specs.declared.core_expr.CoreKind.TheVariants as kind
use Rattle.c_meaning.specs.Constraints.{fault_at}
use Rattle.c_meaning.specs.CoreTrees.{Core, NoCore, Cores, type_of, one}
use Rattle.c_meaning.specs.ExprConstraints.{all_passable, are_as_many, are_assignable, are_integers, can_assign, can_choose, can_combine, can_compare, can_test, is_addressable, is_assignable, is_modifiable, is_open_record, moves_nowhere, points_to_object}
use Rattle.c_meaning.specs.Nodes.{Expression, ExprNode}
use Rattle.c_meaning.specs.Nodes as node
use Rattle.c_meaning.specs.Rows.{acts, assigned, call, called, constant_type, joined, last_type, number, parameters_type, postfixed, prefixed, result_type, row, selected_by, size_of, pointed}
use Rattle.c_meaning.specs.Scalars.{conversion_to}
use Rattle.c_meaning.specs.State.{State, int_function, link_or_next, place_of}
use Rattle.c_meaning.specs.Types.{is_function, is_pointer, is_scalar, is_void, target}
use Rattle.c_meaning.specs.Values.{CoreTree, CoreTrees, is_lvalue, value, values, value_type}
use Rattle.c_fits.specs.Sound.{IsSound}
use Rattle.c_fits.proofs.lemmas.Booleans.{not_false, and_left, and_right, or_cases, or_left, or_right}
use Rattle.c_fits.proofs.lemmas.Constraints.{unbroken}
use Rattle.c_fits.proofs.lemmas.Values.{IsPart, IsOperand, AreParts, value_operand, values_one, values_operands, operands_fit, operands_values}
use Rattle.c_fits.proofs.lemmas.Arithmetic.{number_part, unary_part, not_part}
use Rattle.c_fits.proofs.lemmas.Pointers.{pointed_part}
use Rattle.c_fits.proofs.lemmas.Assigned.{bare_again, scalar_bare}
use Rattle.c_fits.proofs.lemmas.Calls.{call_part}
use Rattle.c_fits.proofs.lemmas.Assignments.{acts_parts, added_parts, assigned_part, modifiable_lvalue, shifts_part, stepped_parts}
use Rattle.c_fits.proofs.lemmas.Conditionals.{chosen_whole}
use Rattle.c_fits.proofs.lemmas.Operators.{combined_part}
use Rattle.c_fits.proofs.lemmas.Places.{meant_part, symbol_part, literal_part, subscript_part, selected_part, address_part}

abbrev pub IsSome : CoreTrees → Type 0
IsSome NoCore = ⊥
IsSome (Cores c cs) = Unit {0}

-- the parts of a node fit; a comma has some
abbrev pub HasParts : List Tag → ExprNode → Type 0
HasParts tags (node.Index a i) = IsPart tags a × IsPart tags i
HasParts tags (node.Call f arguments) = IsPart tags f × AreParts tags arguments
HasParts tags (node.Member op a x) = IsPart tags a
HasParts tags (node.Postfix op a) = IsPart tags a
HasParts tags (node.Prefix op a) = IsPart tags a
HasParts tags (node.Cast to a) = IsPart tags a
HasParts tags (node.Binary op a b) = IsPart tags a × IsPart tags b
HasParts tags (node.Conditional a b c) = IsPart tags a × (IsPart tags b × IsPart tags c)
HasParts tags (node.Assign op a b) = IsPart tags a × IsPart tags b
HasParts tags (node.Comma parts) = IsSome parts × AreParts tags parts
HasParts tags n = Unit {0}

-- ---- constants

constant_part : (tags : List Tag) (line n : ℕ) (k : IntKind) → IsPart tags (number (constant_type k) line n)
constant_part tags line n int_kind.Int = number_part tags (basic Int) line n refl refl
constant_part tags line n int_kind.Unsigned = number_part tags (constant_type int_kind.Unsigned) line n refl refl
constant_part tags line n int_kind.Long = number_part tags (constant_type int_kind.Long) line n refl refl
constant_part tags line n int_kind.UnsignedLong = number_part tags (constant_type int_kind.UnsignedLong) line n refl refl

-- ---- casts and commas

same_conversion : (t : CType) → conversion_to (unqualified t) ≡ conversion_to t
same_conversion (Plain q k) = refl
same_conversion (Array of n) = refl

void_stays : (t : CType) → is_void (unqualified t) ≡ is_void t
void_stays (Plain q k) = refl
void_stays (Array of n) = refl

cast_part : (tags : List Tag) (line : ℕ) (to : CType) (v : CoreTree) → IsOperand tags v → (is_void to || (is_scalar to && is_scalar (type_of v))) ≡ true → IsPart tags (Core (kind.Convert (conversion_to to)) (unqualified to) line (one v))
cast_part tags line to v o h =
    record {
      fits = ((o.fits, tt), (values_one v o.value, (same_conversion to, by (or_cases (is_void to) (is_scalar to && is_scalar (type_of v)) h))));
      bare = λ e. bare_again to;
    }
  where
    by : (is_void to ≡ true) ⊎ ((is_scalar to && is_scalar (type_of v)) ≡ true) → (is_void (unqualified to) ≡ true) ⊎ ((is_scalar (unqualified to) ≡ true) × (is_scalar (type_of v) ≡ true))
    by (inl k) = inl (void_stays to ∙ k)
    by (inr k) = inr (scalar_bare to (and_left (is_scalar to) (is_scalar (type_of v)) k), and_right (is_scalar to) (is_scalar (type_of v)) k)

last_bare : (vs : CoreTrees) → unqualified (last_type vs) ≡ last_type vs
last_bare NoCore = refl
last_bare (Cores c NoCore) = bare_again (type_of c)
last_bare (Cores c (Cores d ds)) = last_bare (Cores d ds)

comma_part : (tags : List Tag) (line : ℕ) (cs : CoreTrees) → IsSome cs → AreParts tags cs → IsPart tags (Core kind.Comma (last_type (values cs)) line (values cs))
comma_part tags line NoCore h p = absurd h
comma_part tags line (Cores c cs) h p =
    let o = values_operands tags (Cores c cs) p in
    record { fits = (operands_fit tags (values (Cores c cs)) o, (operands_values tags (values (Cores c cs)) o, refl)); bare = λ e. last_bare (values (Cores c cs)) }

-- ---- the rows

module _ (s : State) (sound : IsSound s) (line : ℕ) where
  call_row : (f : CoreTree) (cs : CoreTrees) → fault_at s line (Expression (node.Call f cs)) ≡ None → IsPart s.tags f → AreParts s.tags cs → IsPart s.tags (call line (value f) (values cs))
  call_row f cs h p q =
      let callee = unbroken s line (Expression (node.Call f cs)) h 29 in
      let many = unbroken s line (Expression (node.Call f cs)) h 30 in
      let fit = not_false (are_assignable (parameters_type (called (value f))) (values cs) && all_passable s.tags (values cs)) (unbroken s line (Expression (node.Call f cs)) h 31) in
      let pointer = not_false (is_pointer (value_type f) && is_function (called (value f))) (or_left (not (is_pointer (value_type f) && is_function (called (value f)))) (is_open_record s.tags (result_type (called (value f)))) callee) in
      call_part s.tags line (value f) (values cs) (value_operand s.tags f p) (values_operands s.tags cs q)
      (and_left (is_pointer (value_type f)) (is_function (called (value f))) pointer)
      (and_right (is_pointer (value_type f)) (is_function (called (value f))) pointer)
      (or_right (not (is_pointer (value_type f) && is_function (called (value f)))) (is_open_record s.tags (result_type (called (value f)))) callee)
      (not_false (are_as_many (parameters_type (called (value f))) (values cs)) many)
      (and_left (are_assignable (parameters_type (called (value f))) (values cs)) (all_passable s.tags (values cs)) fit)
      (and_right (are_assignable (parameters_type (called (value f))) (values cs)) (all_passable s.tags (values cs)) fit)

  select_row : (op : MemberOperator) (a : CoreTree) (x : List ℕ) → fault_at s line (Expression (node.Member op a x)) ≡ None → IsPart s.tags a → IsPart s.tags (selected_by s.tags line op a x)
  select_row member.Dot a x h p = selected_part s.tags line a x sound.fields p (unbroken s line (Expression (node.Member member.Dot a x)) h 33)
  select_row member.Arrow a x h p =
      let b = unbroken s line (Expression (node.Member member.Arrow a x)) h 33 in
      let q = not_false (is_pointer (value_type a)) (or_left (not (is_pointer (value_type a))) (is_none (member_of s.tags (target (value_type a)) x)) b) in
      let w = pointed_part s.tags line (value a) (value_operand s.tags a p) q in
      selected_part s.tags line (pointed line (value a)) x sound.fields w (or_right (not (is_pointer (value_type a))) (is_none (member_of s.tags (target (value_type a)) x)) b)

  postfix_row : (op : PostfixOperator) (a : CoreTree) → fault_at s line (Expression (node.Postfix op a)) ≡ None → IsPart s.tags a → IsPart s.tags (postfixed s.tags line op a)
  postfix_row op a h p = by op
    where
      lvalue : is_lvalue a ≡ true
      lvalue = modifiable_lvalue s.tags a (not_false (is_modifiable s.tags a) (unbroken s line (Expression (node.Postfix op a)) h 34))

      kinds : (is_integer (type_of a) || is_pointer (type_of a)) ≡ true
      kinds = not_false (is_integer (type_of a) || is_pointer (type_of a)) (unbroken s line (Expression (node.Postfix op a)) h 40)

      moves : moves_nowhere s.tags (type_of a) ≡ false
      moves = unbroken s line (Expression (node.Postfix op a)) h 41

      by : (op : PostfixOperator) → IsPart s.tags (postfixed s.tags line op a)
      by postfix.Increment = (stepped_parts s.tags line false a p lvalue kinds moves).1
      by postfix.Decrement = (stepped_parts s.tags line true a p lvalue kinds moves).1

  prefix_row : (op : PrefixOperator) (a : CoreTree) → fault_at s line (Expression (node.Prefix op a)) ≡ None → IsPart s.tags a → IsPart s.tags (prefixed s.tags line op a)
  prefix_row prefix.Increment a h p =
      (stepped_parts s.tags line false a p (modifiable_lvalue s.tags a (not_false (is_modifiable s.tags a) (unbroken s line (Expression (node.Prefix prefix.Increment a)) h 34)))
      (not_false (is_integer (type_of a) || is_pointer (type_of a)) (unbroken s line (Expression (node.Prefix prefix.Increment a)) h 40))
      (unbroken s line (Expression (node.Prefix prefix.Increment a)) h 41)).0
  prefix_row prefix.Decrement a h p =
      (stepped_parts s.tags line true a p (modifiable_lvalue s.tags a (not_false (is_modifiable s.tags a) (unbroken s line (Expression (node.Prefix prefix.Decrement a)) h 34)))
      (not_false (is_integer (type_of a) || is_pointer (type_of a)) (unbroken s line (Expression (node.Prefix prefix.Decrement a)) h 40))
      (unbroken s line (Expression (node.Prefix prefix.Decrement a)) h 41)).0
  prefix_row prefix.Address a h p = address_part s.tags line a p (not_false (is_addressable a) (unbroken s line (Expression (node.Prefix prefix.Address a)) h 35))
  prefix_row prefix.Indirect a h p = pointed_part s.tags line (value a) (value_operand s.tags a p) (not_false (is_pointer (value_type a)) (unbroken s line (Expression (node.Prefix prefix.Indirect a)) h 36))
  prefix_row prefix.Plus a h p = unary_part s.tags line (value a) (value_operand s.tags a p) unary.Plus (not_false (is_integer (value_type a)) (unbroken s line (Expression (node.Prefix prefix.Plus a)) h 37))
  prefix_row prefix.Minus a h p = unary_part s.tags line (value a) (value_operand s.tags a p) unary.Negate (not_false (is_integer (value_type a)) (unbroken s line (Expression (node.Prefix prefix.Minus a)) h 37))
  prefix_row prefix.Complement a h p = unary_part s.tags line (value a) (value_operand s.tags a p) unary.Complement (not_false (is_integer (value_type a)) (unbroken s line (Expression (node.Prefix prefix.Complement a)) h 37))
  prefix_row prefix.Not a h p = not_part s.tags line (value a) (value_operand s.tags a p) (not_false (is_scalar (value_type a)) (unbroken s line (Expression (node.Prefix prefix.Not a)) h 37))

  -- ---- assignments

  -- of two numbers, at the common type
  acts_row : (op : Binary) (a b : CoreTree) → is_shift op ≡ false → IsPart s.tags a → IsPart s.tags b → is_modifiable s.tags a ≡ true → are_integers (type_of a) (value_type b) ≡ true → IsPart s.tags (acts line kind.Change op a (value b))
  acts_row op a b e p q m i =
      (acts_parts s.tags line a (value b) p (value_operand s.tags b q) (modifiable_lvalue s.tags a m) op e (and_left (is_integer (type_of a)) (is_integer (value_type b)) i) (and_right (is_integer (type_of a)) (is_integer (value_type b)) i)).0

  assigned_by : (op : AssignOperator) (a b : CoreTree) → IsPart s.tags a → IsPart s.tags b → is_modifiable s.tags a ≡ true → can_assign op (type_of a) (value_type b) ≡ true
      → fault_at s line (Expression (node.Assign op a b)) ≡ None → IsPart s.tags (assigned s.tags line op a (value b))
  assigned_by assign.Plain a b p q m k h = assigned_part s.tags line a (value b) p (value_operand s.tags b q) m (not_false (is_assignable (type_of a) (value b)) (unbroken s line (Expression (node.Assign assign.Plain a b)) h 45))
  assigned_by assign.Multiply a b p q m k h = acts_row operator.Multiply a b refl p q m k
  assigned_by assign.Divide a b p q m k h = acts_row operator.Divide a b refl p q m k
  assigned_by assign.Remainder a b p q m k h = acts_row operator.Remainder a b refl p q m k
  assigned_by assign.Add a b p q m k h =
      (added_parts s.tags line a (value b) p (value_operand s.tags b q) (modifiable_lvalue s.tags a m) false
      (and_right (is_integer (value_type b)) (is_integer (type_of a) || is_pointer (type_of a)) k)
      (unbroken s line (Expression (node.Assign assign.Add a b)) h 41)
      (and_left (is_integer (value_type b)) (is_integer (type_of a) || is_pointer (type_of a)) k)).0
  assigned_by assign.Subtract a b p q m k h =
      (added_parts s.tags line a (value b) p (value_operand s.tags b q) (modifiable_lvalue s.tags a m) true
      (and_right (is_integer (value_type b)) (is_integer (type_of a) || is_pointer (type_of a)) k)
      (unbroken s line (Expression (node.Assign assign.Subtract a b)) h 41)
      (and_left (is_integer (value_type b)) (is_integer (type_of a) || is_pointer (type_of a)) k)).0
  assigned_by assign.ShiftLeft a b p q m k h =
      shifts_part s.tags line a (value b) p (value_operand s.tags b q) (modifiable_lvalue s.tags a m) operator.ShiftLeft refl (and_left (is_integer (type_of a)) (is_integer (value_type b)) k) (and_right (is_integer (type_of a)) (is_integer (value_type b)) k)
  assigned_by assign.ShiftRight a b p q m k h =
      shifts_part s.tags line a (value b) p (value_operand s.tags b q) (modifiable_lvalue s.tags a m) operator.ShiftRight refl (and_left (is_integer (type_of a)) (is_integer (value_type b)) k) (and_right (is_integer (type_of a)) (is_integer (value_type b)) k)
  assigned_by assign.BitAnd a b p q m k h = acts_row operator.And a b refl p q m k
  assigned_by assign.BitXor a b p q m k h = acts_row operator.Xor a b refl p q m k
  assigned_by assign.BitOr a b p q m k h = acts_row operator.Or a b refl p q m k

  -- ---- all of them

  pub row_part : (n : ExprNode) → fault_at s line (Expression n) ≡ None → HasParts s.tags n → IsPart s.tags (row s line n)
  row_part (node.Name x) h p = meant_part s sound (place_of s x) line
  row_part (node.NewFunction x) h p = symbol_part s.tags (link_or_next s x) line int_function
  row_part (node.Integer n k) h p = constant_part s.tags line n k
  row_part (node.Character z) h p = number_part s.tags (basic Int) line (word_of z) refl refl
  row_part (node.Text texts) h p = literal_part s.tags line (joined texts)
  row_part (node.Index a i) h p =
      subscript_part s.tags line (value a) (value i) (value_operand s.tags a p.0) (value_operand s.tags i p.1)
      (not_false ((points_to_object s.tags (value_type a) && is_integer (value_type i)) || (is_integer (value_type a) && points_to_object s.tags (value_type i))) (unbroken s line (Expression (node.Index a i)) h 32))
  row_part (node.Call f arguments) h p = call_row f arguments h p.0 p.1
  row_part (node.Member op a x) h p = select_row op a x h p
  row_part (node.Postfix op a) h p = postfix_row op a h p
  row_part (node.Prefix op a) h p = prefix_row op a h p
  row_part (node.SizeofExpr a) h p = number_part s.tags (basic Unsigned) line (size_of s.tags (type_of a)) refl refl
  row_part (node.SizeofType t) h p = number_part s.tags (basic Unsigned) line (size_of s.tags t) refl refl
  row_part (node.Cast to a) h p =
      cast_part s.tags line to (value a) (value_operand s.tags a p) (not_false (is_void to || (is_scalar to && is_scalar (value_type a))) (unbroken s line (Expression (node.Cast to a)) h 39))
  row_part (node.Binary op a b) h p =
      combined_part s.tags line (value a) (value b) (value_operand s.tags a p.0) (value_operand s.tags b p.1) op
      (not_false (can_combine op (value_type a) (value_type b)) (unbroken s line (Expression (node.Binary op a b)) h 40))
      (unbroken s line (Expression (node.Binary op a b)) h 41)
      (not_false (can_compare s.tags op (value a) (value b)) (unbroken s line (Expression (node.Binary op a b)) h 42))
      (not_false (can_test op (value_type a) (value_type b)) (unbroken s line (Expression (node.Binary op a b)) h 43))
  row_part (node.Conditional a b c) h p =
      chosen_whole s.tags line (value a) (value b) (value c) (value_operand s.tags a p.0) (value_operand s.tags b p.1.0) (value_operand s.tags c p.1.1)
      (not_false (is_scalar (value_type a)) (unbroken s line (Expression (node.Conditional a b c)) h 43))
      (not_false (can_choose (value b) (value c)) (unbroken s line (Expression (node.Conditional a b c)) h 44))
      (or_left (is_open_record s.tags (value_type b)) (is_open_record s.tags (value_type c)) (unbroken s line (Expression (node.Conditional a b c)) h 46))
  row_part (node.Assign op a b) h p =
      assigned_by op a b p.0 p.1 (not_false (is_modifiable s.tags a) (unbroken s line (Expression (node.Assign op a b)) h 34)) (not_false (can_assign op (type_of a) (value_type b)) (unbroken s line (Expression (node.Assign op a b)) h 40)) h
  row_part (node.Comma parts) h p = comma_part s.tags line parts p.0 p.1
