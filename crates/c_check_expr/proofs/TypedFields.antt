-- The members of a structure or union that are typed are fields that there may be: a width that may not stand was told.
use Rattle.std.proofs.Common.{◌≡◌, ℕ, Bool, Option, List, [], ◌∷◌, ◌++◌, refl, sym, subst}
use Rattle.std.specs.Prelude.{zero, suc, ℤ, pos, false, true, Ok, Some, None, ◌&&◌, not, if◌then◌else◌}
use Rattle.lcc_base.specs.declared.which.Which.{Which}
use Rattle.c_ast.specs.Trees.{Field, FieldTree, FieldTrees, Fields, Members, MemberTree, MemberTrees, MoreMembers, NoFields, NoMembers}
use Rattle.c_symbols.specs.Scoping.{Scoping}
use Rattle.c_types.specs.BitFields.{are_fields, is_field, is_field_type, is_field_width}
use Rattle.c_types.specs.CType.{CType}
use Rattle.c_types.proofs.lemmas.Extending.{fields_push}
use Rattle.c_types.specs.Layout.{MemberType}
use Rattle.c_types.specs.declared.type_form.Member.{Member}
use Rattle.c_types.specs.Table.{AreMembersBelow, Table}
use Rattle.c_meaning.specs.Constants.{fold}
use Rattle.c_meaning.specs.Constraints.{broken_or, constraints, fault_at, first_broken, first_passed}
use Rattle.c_meaning.specs.Nodes.{Typing}
use Rattle.c_meaning.specs.Nodes as node
use Rattle.c_meaning.specs.State.{State}
use Rattle.c_meaning.specs.TypeConstraints.{is_bad_field, is_width, repeats_member}
use Rattle.c_meaning.specs.TypeRows.{field_width, member, name_or_empty, nat_part}
use Rattle.c_meaning.specs.Types.{has_size}
use Rattle.c_meaning.specs.Typing.{Bad, Fine, Outcome, Shaped, at, maybe_typed, then_do, typed_field, typed_fields, typed_member, typed_members, typed_shape, typed_specifiers, unless}
use Rattle.c_meaning.specs.Values.{CoreTree}
use Rattle.c_check_expr.specs.Known.{state_of}
use Rattle.c_check_expr.specs.TypedIn.{members_in}
use Rattle.c_check_expr.specs.Walks.{Walks, members}

-- ---- what is fine was fine before

fine_first : {T U : Type 0} (o : Outcome T) (next : State → T → Outcome U) (t : State) (x : U) → then_do o next ≡ Fine t x → (s : State) × (y : T) × (o ≡ Fine s y) × (next s y ≡ Fine t x)
fine_first (Fine s y) next t x e = (s, y, refl, e)
fine_first (Bad f) next t x e = absurd (cc)

fine_node : {T : Type 0} (s t : State) (line : ℕ) (n : node.Node) (behind : State) (typed x : T) → at s line n behind typed ≡ Fine t x → (first_broken constraints s n ≡ None) × (typed ≡ x)
unfolding fault_at
fine_node s t line n behind typed x e = by (first_broken constraints s n) (first_passed s line n) e
  where
    by : (b : Option ℕ) (p : Option Which) → unless (broken_or line b p) behind typed ≡ Fine t x → (b ≡ None) × (typed ≡ x)
    by None None e = (refl, cc)
    by None (Some w) e = absurd (cc)
    by (Some k) p e = absurd (cc)

-- ---- a member with a width that may stand

abbrev at_field : ℕ → List MemberType → State → Shaped → Option CoreTree → Outcome MemberType
at_field line before s p c = at s line (Typing (node.Field before p.name p.of c)) s (member p.name p.of c)

widths : (name : Option (List ℕ)) (z : Option ℤ) → is_width name z ≡ true → is_field_width (name_or_empty name) (nat_part z) ≡ true
widths None (Some (pos zero)) h = refl
widths (Some x) (Some (pos zero)) h = absurd (cc)
widths name (Some (pos (suc n))) h = h
widths name z h = absurd (cc)

not_bad : (s : State) (before : List MemberType) (name : Option (List ℕ)) (of : CType) (c : Option CoreTree) → is_bad_field s (node.Field before name of c) ≡ false → is_field (name_or_empty name) of (field_width c) ≡ true
not_bad s before name of None h = refl
not_bad s before name of (Some w) h = by (is_field_type of) (is_width name (fold w)) _ h (widths name (fold w))
  where
    by : (a b d : Bool) → not (a && b) ≡ false → (b ≡ true → d ≡ true) → (a && d) ≡ true
    by true true d h f = f refl
    by true false d h f = absurd (cc)
    by false b d h f = absurd (cc)

-- a name that stands twice is told first, then a type without a size
abbrev told : Bool → Bool → Bool → Option ℕ
told repeated sizeless bad = if repeated then Some 9 else if sizeless then Some 10 else if bad then Some 11 else None

unbroken : (s : State) (before : List MemberType) (name : Option (List ℕ)) (of : CType) (c : Option CoreTree) → first_broken constraints s (Typing (node.Field before name of c)) ≡ None → is_bad_field s (node.Field before name of c) ≡ false
unbroken s before name of c h = (let n = node.Field before name of c in by (repeats_member s n) (not (has_size s.tags of)) (is_bad_field s n) h)
  where
    by : (a b d : Bool) → told a b d ≡ None → d ≡ false
    by true b d h = absurd (cc)
    by false true d h = absurd (cc)
    by false false true h = absurd (cc)
    by false false false h = refl

field_fine : (s t : State) (before : List MemberType) (base : CType) (f : FieldTree) (m : MemberType) → typed_field s before base f ≡ Fine t m → is_field m.name m.of m.width ≡ true
field_fine s t before base (Field line d width) m e =
    let x = fine_first (typed_shape s base d) (λ s p. then_do (maybe_typed s width) (λ s c. at_field line before s p c)) t m e in
    let y = fine_first (maybe_typed x.0 width) (λ s c. at_field line before s x.1 c) t m x.3 in
    let z = fine_node y.0 t line (Typing (node.Field before x.1.name x.1.of y.1)) y.0 (member x.1.name x.1.of y.1) m y.3 in
    subst (λ (k : MemberType). is_field k.name k.of k.width ≡ true) z.1 (not_bad y.0 before x.1.name x.1.of y.1 (unbroken y.0 before x.1.name x.1.of y.1 z.0))

-- ---- lists of them

fields_fine : (s t : State) (before ms : List MemberType) (base : CType) (fs : FieldTrees) → typed_fields s before base fs ≡ Fine t ms → are_fields before ≡ true → are_fields ms ≡ true
fields_fine s t before ms base NoFields e h = (let k : before ≡ ms = cc in subst (λ xs. are_fields xs ≡ true) k h)
fields_fine s t before ms base (Fields f fs) e h =
    let x = fine_first (typed_field s before base f) (λ s m. typed_fields s (before ++ m ∷ []) base fs) t ms e in
    fields_fine x.0 t (before ++ x.1 ∷ []) ms base fs x.3 (fields_push before x.1 h (field_fine s x.0 before base f x.1 x.2))

line_fine : (s t : State) (before ms : List MemberType) (m : MemberTree) → typed_member s before m ≡ Fine t ms → are_fields before ≡ true → are_fields ms ≡ true
line_fine s t before ms (Members line specs fs) e h =
    let x = fine_first (typed_specifiers s specs) (λ s b. typed_fields s before b.of fs) t ms e in
    fields_fine x.0 t before ms x.1.of fs x.3 h

lines_fine : (s t : State) (before ms : List MemberType) (ls : MemberTrees) → typed_members s before ls ≡ Fine t ms → are_fields before ≡ true → are_fields ms ≡ true
lines_fine s t before ms NoMembers e h = (let k : before ≡ ms = cc in subst (λ xs. are_fields xs ≡ true) k h)
lines_fine s t before ms (MoreMembers m ls) e h =
    let x = fine_first (typed_member s before m) (λ s now. typed_members s now ls) t ms e in
    lines_fine x.0 t x.1 ms ls x.3 (line_fine s x.0 before x.1 m x.2 h)

pub members_are_fields : {s u : Scoping} {a b : Table} {v : List Member} (ls : MemberTrees) → Walks members AreMembersBelow (members_in s a [] ls) s a u b (Ok v) → are_fields (members b v) ≡ true
unfolding members_in
members_are_fields {s = s} {u = u} {a = a} {b = b} {v = v} ls w = lines_fine (state_of s a) (state_of u b) [] (members b v) ls w.ok refl
