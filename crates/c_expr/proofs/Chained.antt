-- The loop over the links behind an expression, and heights of lists.
use Rattle.std.proofs.Common.{◌≡◌, ◌<◌, ◌≤◌, ◌+◌, ◌++◌, if◌then◌else◌, max, nat_le, ℕ, zero, suc, length, Bool, true, false, None, Some, List, [], ◌∷◌, map, refl, sym, ap, ◌∙◌, arith}
use Rattle.std.proofs.lemmas.Bool.Decides.{nat_tests}
use Rattle.c_ast.specs.declared.expr.Enumerator.{Enumerator}
use Rattle.c_ast.specs.declared.expr.Expr.{Expr}
use Rattle.c_ast.specs.declared.expr.Member.{Member as MemberValue}
use Rattle.c_ast.specs.declared.expr.MemberDeclarator.{MemberDeclarator}
use Rattle.c_ast.specs.declared.expr.Parameter.{Parameter}
use Rattle.c_ast.specs.declared.expr.Specifier.{Specifier}
use Rattle.c_ast.specs.declared.expr.Suffix.{Suffix}
use Rattle.c_ast.specs.Trees.{ExprTree}
use Rattle.c_ast.specs.Levels.{rank}
use Rattle.c_ast.specs.Heights.{height, tallest, specifier_list_height, specifier_height, members_height, member_height, fields_height, field_height, enumerators_height, enumerator_height, suffixes_height, suffix_height, parameters_height, parameter_height}
use Rattle.c_ast.specs.ValueHeights.{most}
use Rattle.c_ast.specs.Views.{exprs_of, specifier_list_of, members_of, fields_of, enumerators_of, suffixes_of, parameters_of}
use Rattle.c_ast.specs.Reach.{LinkKind}
use Rattle.c_readings.specs.Reading.{State, Read, bind, beyond, here}
use Rattle.c_readings.specs.Links.{LinkTree, Indexed, Arguments, Member, Postfix, Operand, Choices, Value, linked}
use Rattle.c_readings.specs.Readers.{Readers, head, link, kind_on, chain}
use Rattle.c_expr.specs.Links.{link_height}
use Rattle.c_ast.specs.Seen.{expr_seen, specifier_seen, member_seen, field_seen, enumerator_seen, suffix_seen, parameter_seen}

-- o is what the expression a, and the links behind it, give
pub record ChainLeft (R : Readers) (level line : ℕ) (o : Read ExprTree) (a : ExprTree) (s : State) : Type 0 where
  pub bound : ℕ
  pub enough : length s.rest < bound
  pub is : o ≡ chain bound R level line a s

pub chain_start : (R : Readers) (level : ℕ) (o : Read ExprTree) (s : State) (a : ExprTree) (t : State) → o ≡ bind (head R level s) (λ b u. chain (length u.rest + 1) R level (here s) b u) → head R level s ≡ Some (a, t) → ChainLeft R level (here s) o a t
chain_start R level o s a t h e = record { bound = length t.rest + 1; enough = omega arith; is = h ∙ ap (λ r. bind r (λ b u. chain (length u.rest + 1) R level (here s) b u)) e }

no_more : (b : Bool) → b ≡ false → {A : Type 0} (x y : A) → (if b then x else y) ≡ y
no_more b h x y = rw h refl

low_enough : (a b : ℕ) → a ≤ b → nat_le a b ≡ true
low_enough a b h = grind (arith, nat_tests)

too_high : (a b : ℕ) → b < a → nat_le a b ≡ false
too_high a b h = grind (arith, nat_tests)

chain_one : (m : ℕ) (R : Readers) (level line : ℕ) (a : ExprTree) (s : State) (k : LinkKind) (l : LinkTree) (t : State) → kind_on level (rank a) s.rest ≡ Some k → height a ≤ R.limit → link R k (beyond s) ≡ Some (l, t) → chain (suc m) R level line a s ≡ chain m R level line (linked line a l) t
unfolding chain
chain_one m R level line a s k l t e h i = rw (e, low_enough (height a) R.limit h, i) refl

chain_none : (m : ℕ) (R : Readers) (level line : ℕ) (a : ExprTree) (s : State) (k : LinkKind) → kind_on level (rank a) s.rest ≡ Some k → height a ≤ R.limit → link R k (beyond s) ≡ None → chain (suc m) R level line a s ≡ None
unfolding chain
chain_none m R level line a s k e h i = rw (e, low_enough (height a) R.limit h, i) refl

chain_above : (m : ℕ) (R : Readers) (level line : ℕ) (a : ExprTree) (s : State) (k : LinkKind) → kind_on level (rank a) s.rest ≡ Some k → R.limit < height a → chain (suc m) R level line a s ≡ None
unfolding chain
chain_above m R level line a s k e h = rw (e, too_high (height a) R.limit h) refl

chain_last : (m : ℕ) (R : Readers) (level line : ℕ) (a : ExprTree) (s : State) → kind_on level (rank a) s.rest ≡ None → chain (suc m) R level line a s ≡ Some (a, s)
unfolding chain
chain_last m R level line a s e = rw e refl

go_with : (R : Readers) (level line : ℕ) (o : Read ExprTree) (a : ExprTree) (s : State) (k : LinkKind) (l : LinkTree) (t : State) (m : ℕ) → length s.rest < m → o ≡ chain m R level line a s → kind_on level (rank a) s.rest ≡ Some k → height a ≤ R.limit → link R k (beyond s) ≡ Some (l, t) → length t.rest < length s.rest → ChainLeft R level line o (linked line a l) t
go_with R level line o a s k l t zero w q e h i f = absurd (omega (arith, w))
go_with R level line o a s k l t (suc m) w q e h i f = record { bound = m; enough = omega (arith, w, f); is = q ∙ chain_one m R level line a s k l t e h i }

pub chain_go : {R : Readers} {level line : ℕ} {o : Read ExprTree} {a : ExprTree} {s : State} {k : LinkKind} {l : LinkTree} {t : State} → ChainLeft R level line o a s → kind_on level (rank a) s.rest ≡ Some k → height a ≤ R.limit → link R k (beyond s) ≡ Some (l, t) → length t.rest < length s.rest → ChainLeft R level line o (linked line a l) t
chain_go {R} {level} {line} {o} {a} {s} {k} {l} {t} c e h i f = go_with R level line o a s k l t c.bound c.enough c.is e h i f

stop_with : (R : Readers) (level line : ℕ) (o : Read ExprTree) (a : ExprTree) (s : State) (k : LinkKind) (m : ℕ) → length s.rest < m → o ≡ chain m R level line a s → kind_on level (rank a) s.rest ≡ Some k → height a ≤ R.limit → link R k (beyond s) ≡ None → o ≡ None
stop_with R level line o a s k zero w q e h i = absurd (omega (arith, w))
stop_with R level line o a s k (suc m) w q e h i = q ∙ chain_none m R level line a s k e h i

pub chain_stop : {R : Readers} {level line : ℕ} {o : Read ExprTree} {a : ExprTree} {s : State} {k : LinkKind} → ChainLeft R level line o a s → kind_on level (rank a) s.rest ≡ Some k → height a ≤ R.limit → link R k (beyond s) ≡ None → o ≡ None
chain_stop {R} {level} {line} {o} {a} {s} {k} c e h i = stop_with R level line o a s k c.bound c.enough c.is e h i

high_with : (R : Readers) (level line : ℕ) (o : Read ExprTree) (a : ExprTree) (s : State) (k : LinkKind) (m : ℕ) → length s.rest < m → o ≡ chain m R level line a s → kind_on level (rank a) s.rest ≡ Some k → R.limit < height a → o ≡ None
high_with R level line o a s k zero w q e h = absurd (omega (arith, w))
high_with R level line o a s k (suc m) w q e h = q ∙ chain_above m R level line a s k e h

pub chain_high : {R : Readers} {level line : ℕ} {o : Read ExprTree} {a : ExprTree} {s : State} {k : LinkKind} → ChainLeft R level line o a s → kind_on level (rank a) s.rest ≡ Some k → R.limit < height a → o ≡ None
chain_high {R} {level} {line} {o} {a} {s} {k} c e h = high_with R level line o a s k c.bound c.enough c.is e h

end_with : (R : Readers) (level line : ℕ) (o : Read ExprTree) (a : ExprTree) (s : State) (m : ℕ) → length s.rest < m → o ≡ chain m R level line a s → kind_on level (rank a) s.rest ≡ None → o ≡ Some (a, s)
end_with R level line o a s zero w q e = absurd (omega (arith, w))
end_with R level line o a s (suc m) w q e = q ∙ chain_last m R level line a s e

pub chain_end : {R : Readers} {level line : ℕ} {o : Read ExprTree} {a : ExprTree} {s : State} → ChainLeft R level line o a s → kind_on level (rank a) s.rest ≡ None → o ≡ Some (a, s)
chain_end {R} {level} {line} {o} {a} {s} c e = end_with R level line o a s c.bound c.enough c.is e

-- ---- the greatest height of what was read

pub most_push : {A : Type 0} (f : A → ℕ) (xs : List A) (x : A) → most f (xs ++ (x ∷ [])) ≡ max (most f xs) (f x)
most_push f [] x = grind arith
most_push f (y ∷ xs) x = grind (arith, most_push f xs x)

-- with one item more
pub most_next : {A : Type 0} (f : A → ℕ) (xs : List A) (x : A) (r h n : ℕ) → r ≡ max h n → h ≡ most f xs → n ≡ f x → r ≡ most f (xs ++ (x ∷ []))
most_next f xs x r h n p q u = rw (p, q, u) (sym (most_push f xs x))

pub most_one : {A : Type 0} (f : A → ℕ) (x : A) (n : ℕ) → n ≡ f x → n ≡ most f (x ∷ [])
most_one f x n p = grind (arith, p)

-- what stands behind an expression makes one that is one higher than both
pub linked_high : (line : ℕ) (a : ExprTree) (l : LinkTree) → height (linked line a l) ≡ max (height a) (link_height l) + 1
linked_high line a (Indexed i) = refl
linked_high line a (Arguments es) = refl
linked_high line a (Member op n) = grind arith
linked_high line a (Postfix op) = grind arith
linked_high line a (Operand op b) = refl
linked_high line a (Choices b c) = grind arith
linked_high line a (Value op b) = refl

pub exprs_high : (xs : List Expr) → tallest (exprs_of (map expr_seen xs)) ≡ most (λ v. height (expr_seen v)) xs
exprs_high [] = refl
exprs_high (x ∷ xs) = ap (max (height (expr_seen x))) (exprs_high xs)

pub specifiers_high : (xs : List Specifier) → specifier_list_height (specifier_list_of (map specifier_seen xs)) ≡ most (λ v. specifier_height (specifier_seen v)) xs
specifiers_high [] = refl
specifiers_high (x ∷ xs) = ap (max (specifier_height (specifier_seen x))) (specifiers_high xs)

pub members_high : (xs : List MemberValue) → members_height (members_of (map member_seen xs)) ≡ most (λ v. member_height (member_seen v)) xs
members_high [] = refl
members_high (x ∷ xs) = ap (max (member_height (member_seen x))) (members_high xs)

pub fields_high : (xs : List MemberDeclarator) → fields_height (fields_of (map field_seen xs)) ≡ most (λ v. field_height (field_seen v)) xs
fields_high [] = refl
fields_high (x ∷ xs) = ap (max (field_height (field_seen x))) (fields_high xs)

pub enumerators_high : (xs : List Enumerator) → enumerators_height (enumerators_of (map enumerator_seen xs)) ≡ most (λ v. enumerator_height (enumerator_seen v)) xs
enumerators_high [] = refl
enumerators_high (x ∷ xs) = ap (max (enumerator_height (enumerator_seen x))) (enumerators_high xs)

pub suffixes_high : (xs : List Suffix) → suffixes_height (suffixes_of (map suffix_seen xs)) ≡ most (λ v. suffix_height (suffix_seen v)) xs
suffixes_high [] = refl
suffixes_high (x ∷ xs) = ap (max (suffix_height (suffix_seen x))) (suffixes_high xs)

pub parameters_high : (xs : List Parameter) → parameters_height (parameters_of (map parameter_seen xs)) ≡ most (λ v. parameter_height (parameter_seen v)) xs
parameters_high [] = refl
parameters_high (x ∷ xs) = ap (max (parameter_height (parameter_seen x))) (parameters_high xs)
