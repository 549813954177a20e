-- Walks over specifiers, members, enumerators and declarators: what each is made of.
use Rattle.std.proofs.Common.{◌≡◌, ℕ, ◌<◌, Bool, true, Option, List, [], length, map, sym, ap, ◌∙◌, subst}
use Rattle.std.specs.Prelude.{ℤ, Result, Ok, Err, IsErrAnd, pos}
use Rattle.c_ast.specs.declared.expr.Member.{Member as MemberSyntax, out-Member}
use Rattle.c_ast.specs.declared.expr.Specifier.{Specifier, out-Specifier}
use Rattle.c_ast.specs.declared.expr.SpecifierForm.{SpecifierForm}
use Rattle.c_ast.specs.declared.specifier.RecordKind.{RecordKind}
use Rattle.c_ast.specs.Trees.{EnumeratorTrees, MemberTrees, SpecifierTree}
use Rattle.c_ast.specs.Trees as tree
use Rattle.c_ast.specs.Views.{fields_of}
use Rattle.c_ast.specs.Seen.{field_seen, member_seen, specifier_form_seen, specifier_seen, specifiers_seen}
use Rattle.c_ast.proofs.lemmas.SeenTypes.{member_parts, specifier_parts}
use Rattle.c_symbols.specs.Scoping.{Scoping}
use Rattle.c_types.specs.Layout.{MemberType}
use Rattle.c_types.specs.declared.type_form.Member.{Member}
use Rattle.c_types.specs.Table.{AreMembersBelow, Table, type_at}
use Rattle.c_meaning.specs.Nodes.{Typing}
use Rattle.c_meaning.specs.Nodes as node
use Rattle.c_meaning.specs.State.{State, place_of}
use Rattle.c_meaning.specs.TypeRows.{awaited, enumerated, number_of, opened}
use Rattle.c_meaning.specs.Typing.{Outcome, Fine, at_record, at_tag, declared, then_do, typed_enumerators, typed_fields, typed_members, typed_part, typed_specifiers}
use Rattle.c_meaning.specs.Typing as typing
use Rattle.c_values.specs.declared.check_fault.CheckFault.{CheckFault}
use Rattle.c_check_expr.specs.declared.parts.Part.{Part}
use Rattle.c_check_expr.specs.declared.parts.Part.TheVariants as part
use Rattle.c_check_expr.specs.declared.parts.Specified.{Specified as SpecifiedValue}
use Rattle.c_check_expr.specs.declared.walk_types.EnumeratorList.{EnumeratorList}
use Rattle.c_check_expr.specs.AtNode.{Tells}
use Rattle.c_check_expr.specs.Keeps.{Keeps}
use Rattle.c_check_expr.specs.Known.{AreSymbolsIn, state_of}
use Rattle.c_check_expr.specs.PartsSeen.{IsPartIn, part_seen, specified_seen}
use Rattle.c_check_expr.specs.TypedIn.{enumerators_in, fields_in, member_in, members_in, part_in, specifiers_in}
use Rattle.c_check_expr.specs.Walks.{IsAnyNumber, IsSpecifiedIn, Walks, members, next_number}
use Rattle.c_check_expr.specs.Kept.{keeps_on}
use Rattle.c_check_expr.proofs.WalkStays.{members_stay}
use Rattle.c_check_expr.proofs.lemmas.Walking.{first_stops, passed, tells_first, walk_none, walk_then}

-- ---- specifiers

pub part_as : {s u : Scoping} {a b : Table} {r : Result Part CheckFault} (e : Specifier) (f : SpecifierForm) (x : SpecifierTree) → (out-Specifier e).form ≡ f → specifier_form_seen f (out-Specifier e).line ≡ x
    → Walks part_seen IsPartIn (part_in s a x) s a u b r → Walks part_seen IsPartIn (part_in s a (specifier_seen e)) s a u b r
part_as {s = s} {u = u} {a = a} {b = b} {r = r} e f x h k w =
    subst (λ y. Walks part_seen IsPartIn (part_in s a y) s a u b r) (sym (specifier_parts e ∙ ap (λ g. specifier_form_seen g (out-Specifier e).line) h ∙ k)) w

-- one that declares nothing
pub part_plain : (s : Scoping) (a : Table) (x : SpecifierTree) (p : Part) → typed_part (state_of s a) x ≡ Fine (state_of s a) (part_seen a p) → AreSymbolsIn (length a.forms) s.symbols → IsPartIn (length a.forms) p → Walks part_seen IsPartIn (part_in s a x) s a s a (Ok p)
unfolding part_in
part_plain s a x p e i w = rw e (walk_none part_seen IsPartIn s a p i w)

-- a whole type, which may be declared
pub whole_goes : {s u : Scoping} {a b : Table} (x : SpecifierTree) (id : ℕ) → typed_part (state_of s a) x ≡ Fine (state_of u b) (node.Whole (type_at b id)) → id < length b.forms → Keeps s a u b → Walks part_seen IsPartIn (part_in s a x) s a u b (Ok (part.Whole id))
unfolding part_in
whole_goes x id e l k = record { ok = e; err = tt; within = l; keeps = k }

pub whole_stops : {s u : Scoping} {a b : Table} (x : SpecifierTree) (e : CheckFault) (r : Result Part CheckFault) → IsErrAnd r (λ d. d ≡ e) → Tells e (typed_part (state_of s a) x) → Keeps s a u b → Walks part_seen IsPartIn (part_in s a x) s a u b r
unfolding part_in
whole_stops {s = s} {u = u} {a = a} {b = b} x e r h f k = passed {view = part_seen} {IsWithin = IsPartIn} {o = typed_part (state_of s a) x} {s = s} {u = u} {a = a} {b = b} {e = e} r h (record { ok = tt; err = f; within = tt; keeps = k })

-- a comma behind the last enumerator says nothing
pub without_comma : {s u : Scoping} {a b : Table} {r : Result Part CheckFault} (line : ℕ) (tag : Option (List ℕ)) (es : EnumeratorTrees) (comma : Bool) → Walks part_seen IsPartIn (part_in s a (tree.Enum line tag es true)) s a u b r → Walks part_seen IsPartIn (part_in s a (tree.Enum line tag es comma)) s a u b r
unfolding part_in
without_comma line tag es comma w = w

-- ---- structures and unions

module _ (line : ℕ) (k : RecordKind) (tag : Option (List ℕ)) (ms : MemberTrees) (s m : Scoping) (a b : Table) (id : ℕ) (begun : state_of m b ≡ (opened (state_of s a) line k tag).state) (is : type_at b id ≡ (opened (state_of s a) line k tag).of) (within : id < length b.forms) (kept : Keeps s a m b) where
  abbrev completes : State → List MemberType → Outcome node.Part
  completes t ns = at_record t line k tag (number_of (opened (state_of s a) line k tag).of) ns

  pub record_stops : {u : Scoping} {c : Table} {e : CheckFault} (r : Result Part CheckFault) → IsErrAnd r (λ d. d ≡ e) → Walks members AreMembersBelow (members_in m b [] ms) m b u c (Err e) → Walks part_seen IsPartIn (part_in s a (tree.Record line k tag ms)) s a u c r
  unfolding part_in members_in
  record_stops {u = u} {c = c} {e = e} r h w =
      passed {view = part_seen} {IsWithin = IsPartIn} {o = typed_part (state_of s a) (tree.Record line k tag ms)} {s = s} {u = u} {a = a} {b = c} {e = e} r h
      (record {
        ok = tt;
        err = tells_first e (typed_members (opened (state_of s a) line k tag).state [] ms) completes (subst (λ x. Tells e (typed_members x [] ms)) begun w.err);
        within = tt;
        keeps = keeps_on s m u a b c kept w.keeps;
      })

  members_fine : {u : Scoping} {c : Table} {v : List Member} → Walks members AreMembersBelow (members_in m b [] ms) m b u c (Ok v) → typed_part (state_of s a) (tree.Record line k tag ms) ≡ at_record (state_of u c) line k tag (number_of (type_at c id)) (members c v)
  unfolding members_in
  members_fine {u = u} {c = c} {v = v} w =
      ap (λ o. then_do o completes) (subst (λ x. typed_members x [] ms ≡ Fine (state_of u c) (members c v)) begun w.ok)
      ∙ ap (λ t. at_record (state_of u c) line k tag (number_of t) (members c v)) (sym (w.keeps.extends.types_stay id within ∙ is))

  pub record_stops_behind : {u z : Scoping} {c d : Table} {v : List Member} (e : CheckFault) (r : Result Part CheckFault) → IsErrAnd r (λ x. x ≡ e) → Walks members AreMembersBelow (members_in m b [] ms) m b u c (Ok v)
      → Tells e (at_record (state_of u c) line k tag (number_of (type_at c id)) (members c v)) → Keeps u c z d → Walks part_seen IsPartIn (part_in s a (tree.Record line k tag ms)) s a z d r
  unfolding part_in
  record_stops_behind {u = u} {z = z} {c = c} {d = d} {v = v} e r h w f g =
      whole_stops {s = s} {u = z} {a = a} {b = d} (tree.Record line k tag ms) e r h (subst (λ o. Tells e o) (sym (members_fine w)) f) (keeps_on s u z a c d (keeps_on s m u a b c kept w.keeps) g)

  pub record_goes : {u z : Scoping} {c d : Table} {v : List Member} (whole : ℕ) → Walks members AreMembersBelow (members_in m b [] ms) m b u c (Ok v)
      → at_record (state_of u c) line k tag (number_of (type_at c id)) (members c v) ≡ Fine (state_of z d) (node.Whole (type_at d whole)) → whole < length d.forms → Keeps u c z d → Walks part_seen IsPartIn (part_in s a (tree.Record line k tag ms)) s a z d (Ok (part.Whole whole))
  record_goes {u = u} {z = z} {c = c} {d = d} {v = v} whole w f l g =
      whole_goes {s = s} {u = z} {a = a} {b = d} (tree.Record line k tag ms) whole (members_fine w ∙ f) l (keeps_on s u z a c d (keeps_on s m u a b c kept w.keeps) g)

-- ---- lines of members

pub line_stops : {s u : Scoping} {a b : Table} {e : CheckFault} (before : List Member) (n : MemberSyntax) (r : Result (List Member) CheckFault) → IsErrAnd r (λ d. d ≡ e) → Walks specified_seen IsSpecifiedIn (specifiers_in s a (specifiers_seen (out-Member n).specifiers)) s a u b (Err e) → Walks members AreMembersBelow (member_in s a before (member_seen n)) s a u b r
unfolding member_in specifiers_in
line_stops {s = s} {a = a} before n r h w =
    rw (member_parts n) (first_stops members AreMembersBelow (typed_specifiers (state_of s a) (specifiers_seen (out-Member n).specifiers)) (λ m x. typed_fields m (members a before) x.of (fields_of (map field_seen (out-Member n).declarators))) r h w)

pub line_goes : {s m u : Scoping} {a b c : Table} {v : SpecifiedValue} {r : Result (List Member) CheckFault} (before : List Member) (n : MemberSyntax) → AreMembersBelow (length a.forms) before → Walks specified_seen IsSpecifiedIn (specifiers_in s a (specifiers_seen (out-Member n).specifiers)) s a m b (Ok v)
    → Walks members AreMembersBelow (fields_in m b before v.of (fields_of (map field_seen (out-Member n).declarators))) m b u c r → Walks members AreMembersBelow (member_in s a before (member_seen n)) s a u c r
unfolding member_in specifiers_in fields_in
line_goes {s = s} {m = m} {u = u} {a = a} {b = b} {c = c} {v = v} {r = r} before n i w k =
    rw (member_parts n) (walk_then members AreMembersBelow (typed_specifiers (state_of s a) (specifiers_seen (out-Member n).specifiers)) (λ m x. typed_fields m (members a before) x.of (fields_of (map field_seen (out-Member n).declarators))) s m u a b c v r w
    (subst (λ z. Walks members AreMembersBelow (typed_fields (state_of m b) z (type_at b v.of) (fields_of (map field_seen (out-Member n).declarators))) m b u c r) (members_stay a b w.keeps.extends before i) k))

-- ---- enumerations

module _ (line : ℕ) (tag : Option (List ℕ)) (es : EnumeratorTrees) (s m : Scoping) (a b : Table) (begun : state_of m b ≡ awaited (state_of s a) line tag) (kept : Keeps s a m b) where
  abbrev ends : State → ℤ → Outcome node.Part
  ends t next = at_tag t line (node.Enumeration tag) (enumerated t line tag)

  pub enumeration_stops : {u : Scoping} {c : Table} {e : CheckFault} (r : Result Part CheckFault) → IsErrAnd r (λ d. d ≡ e) → Walks next_number IsAnyNumber (enumerators_in m b (pos 0) es) m b u c (Err e) → Walks part_seen IsPartIn (part_in s a (tree.Enum line tag es true)) s a u c r
  unfolding part_in enumerators_in
  enumeration_stops {u = u} {c = c} {e = e} r h w =
      passed {view = part_seen} {IsWithin = IsPartIn} {o = typed_part (state_of s a) (tree.Enum line tag es true)} {s = s} {u = u} {a = a} {b = c} {e = e} r h
      (record {
        ok = tt;
        err = tells_first e (typed_enumerators (awaited (state_of s a) line tag) (pos 0) es) ends (subst (λ x. Tells e (typed_enumerators x (pos 0) es)) begun w.err);
        within = tt;
        keeps = keeps_on s m u a b c kept w.keeps;
      })

  enumerators_fine : {u : Scoping} {c : Table} {v : EnumeratorList} → Walks next_number IsAnyNumber (enumerators_in m b (pos 0) es) m b u c (Ok v) → typed_part (state_of s a) (tree.Enum line tag es true) ≡ at_tag (state_of u c) line (node.Enumeration tag) (enumerated (state_of u c) line tag)
  unfolding enumerators_in
  enumerators_fine {u = u} {c = c} {v = v} w = ap (λ o. then_do o ends) (subst (λ x. typed_enumerators x (pos 0) es ≡ Fine (state_of u c) v.next) begun w.ok)

  pub enumeration_stops_behind : {u z : Scoping} {c d : Table} {v : EnumeratorList} (e : CheckFault) (r : Result Part CheckFault) → IsErrAnd r (λ x. x ≡ e) → Walks next_number IsAnyNumber (enumerators_in m b (pos 0) es) m b u c (Ok v)
      → Tells e (at_tag (state_of u c) line (node.Enumeration tag) (enumerated (state_of u c) line tag)) → Keeps u c z d → Walks part_seen IsPartIn (part_in s a (tree.Enum line tag es true)) s a z d r
  unfolding part_in
  enumeration_stops_behind {u = u} {z = z} {c = c} {d = d} {v = v} e r h w f g =
      whole_stops {s = s} {u = z} {a = a} {b = d} (tree.Enum line tag es true) e r h (subst (λ o. Tells e o) (sym (enumerators_fine w)) f) (keeps_on s u z a c d (keeps_on s m u a b c kept w.keeps) g)

  pub enumeration_goes : {u z : Scoping} {c d : Table} {v : EnumeratorList} (id : ℕ) → Walks next_number IsAnyNumber (enumerators_in m b (pos 0) es) m b u c (Ok v)
      → at_tag (state_of u c) line (node.Enumeration tag) (enumerated (state_of u c) line tag) ≡ Fine (state_of z d) (node.Whole (type_at d id)) → id < length d.forms → Keeps u c z d → Walks part_seen IsPartIn (part_in s a (tree.Enum line tag es true)) s a z d (Ok (part.Whole id))
  enumeration_goes {u = u} {z = z} {c = c} {d = d} {v = v} id w f l g =
      whole_goes {s = s} {u = z} {a = a} {b = d} (tree.Enum line tag es true) id (enumerators_fine w ∙ f) l (keeps_on s u z a c d (keeps_on s m u a b c kept w.keeps) g)

-- ---- typedef names

pub named_plain : (s : Scoping) (a : Table) (line : ℕ) (x : List ℕ) (id : ℕ) → type_at a id ≡ typing.named_type (state_of s a) (place_of (state_of s a) x) → typed_part (state_of s a) (tree.NamedType line x) ≡ Fine (state_of s a) (part_seen a (part.Whole id))
named_plain s a line x id e = ap (λ t. Fine (state_of s a) (node.Whole t)) (sym e)
