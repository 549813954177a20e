-- Walks over members and enumerators, and over prototypes, whose parameters have a scope of their own.
use Rattle.std.proofs.Common.{◌≡◌, ℕ, Bool, Option, List, [], ◌∷◌, ◌++◌, length, refl, sym, ap, ◌∙◌, subst}
use Rattle.std.specs.Prelude.{Result, Ok, Err, IsErrAnd, ℤ, pos, ◌+ℤ◌}
use Rattle.c_ast.specs.declared.expr.Enumerator.{Enumerator as EnumeratorSyntax, out-Enumerator}
use Rattle.c_ast.specs.declared.expr.MemberDeclarator.{MemberDeclarator, out-MemberDeclarator}
use Rattle.c_ast.specs.Trees.{MaybeDeclarator, MaybeExpr, ParameterTrees}
use Rattle.c_ast.specs.Trees as tree
use Rattle.c_ast.specs.Seen.{enumerator_seen, field_seen, maybe_declarator_seen, maybe_expr_seen}
use Rattle.c_ast.proofs.lemmas.SeenTypes.{enumerator_parts, field_parts}
use Rattle.c_symbols.specs.Scoping.{Scoping}
use Rattle.c_types.specs.CType.{CType}
use Rattle.c_types.specs.Layout.{MemberType}
use Rattle.c_types.specs.declared.type_form.Member.{Member}
use Rattle.c_types.specs.Table.{AreMembersBelow, Table, tags, type_at}
use Rattle.c_meaning.specs.CoreTrees.{CoreOf}
use Rattle.c_meaning.specs.Nodes.{Typing}
use Rattle.c_meaning.specs.Nodes as node
use Rattle.c_meaning.specs.State.{State, entered, left}
use Rattle.c_meaning.specs.TypeRows.{enumerator_value, member, none_if_void, with_enumerator}
use Rattle.c_meaning.specs.Typing.{Outcome, Fine, at, maybe_typed, then_do, typed_parameters, typed_shape, typed_suffix}
use Rattle.c_meaning.specs.Typing as typing
use Rattle.c_meaning.specs.Values.{CoreTree}
use Rattle.c_values.specs.declared.check_fault.CheckFault.{CheckFault}
use Rattle.c_check_expr.specs.declared.parts.NamedParameter.{NamedParameter}
use Rattle.c_check_expr.specs.declared.parts.Shaped.{Shaped as ShapedValue}
use Rattle.c_check_expr.specs.declared.parts.Step.{Step}
use Rattle.c_check_expr.specs.declared.parts.Step.TheVariants as step
use Rattle.c_check_expr.specs.declared.walk_types.EnumeratorList.{EnumeratorList}
use Rattle.c_check_expr.specs.AtNode.{Tells}
use Rattle.c_check_expr.specs.Keeps.{Keeps}
use Rattle.c_check_expr.specs.Known.{state_of}
use Rattle.c_check_expr.specs.PartsSeen.{AreParametersIn, IsSizeIn, IsStepIn, parameters_seen, shaped_seen, size_seen, step_seen}
use Rattle.c_check_expr.specs.TypedIn.{enumerator_in, field_in, maybe_expr_in, parameters_in, shape_in, suffix_in}
use Rattle.c_check_expr.specs.Walks.{IsAnyNumber, IsShapeIn, Walks, members, next_number, numbered, with_field}
use Rattle.c_values.specs.Stays.{extends_itself}
use Rattle.c_check_expr.proofs.lemmas.WalkLists.{then_same, then_then}
use Rattle.c_check_expr.proofs.WalkStays.{members_later, members_stay}
use Rattle.c_check_expr.proofs.lemmas.Walking.{both_go, first_stops, passed, second_stops, tells_first, walk_as, walk_then}

-- ---- members

abbrev at_field : ℕ → State → List MemberType → typing.Shaped → Option CoreTree → Outcome MemberType
at_field line m before p c = at m line (Typing (node.Field before p.name p.of c)) m (member p.name p.of c)

abbrev put : ℕ → List MemberType → State → typing.Shaped → Option CoreTree → Outcome (List MemberType)
put line before m p c = then_do (at_field line m before p c) (λ u x. Fine u (before ++ x ∷ []))

field_is : (s : State) (before : List MemberType) (base : CType) (line : ℕ) (d : MaybeDeclarator) (w : MaybeExpr) → with_field s before base (tree.Field line d w) ≡ then_do (typed_shape s base d) (λ m p. then_do (maybe_typed m w) (λ u c. put line before u p c))
field_is s before base line d w =
    then_then (typed_shape s base d) (λ m p. then_do (maybe_typed m w) (λ u c. at_field line u before p c)) (λ u x. Fine u (before ++ x ∷ []))
    ∙ then_same (typed_shape s base d) (λ m p. then_do (then_do (maybe_typed m w) (λ u c. at_field line u before p c)) (λ u x. Fine u (before ++ x ∷ []))) (λ m p. then_do (maybe_typed m w) (λ u c. put line before u p c))
    (λ m p. then_then (maybe_typed m w) (λ u c. at_field line u before p c) (λ u x. Fine u (before ++ x ∷ [])))

members_all : (a b c : Table) (ms : List Member) → members b ms ≡ members a ms → members c ms ≡ members b ms → members c ms ≡ members a ms
members_all a b c ms h k = k ∙ h

module _ (before : List Member) (base : ℕ) (f : MemberDeclarator) where
  abbrev shape_tree : MaybeDeclarator
  shape_tree = maybe_declarator_seen (out-MemberDeclarator f).declarator

  abbrev width_tree : MaybeExpr
  width_tree = maybe_expr_seen (out-MemberDeclarator f).width

  field_as : (s : Scoping) (a : Table) → with_field (state_of s a) (members a before) (type_at a base) (field_seen f) ≡ then_do (typed_shape (state_of s a) (type_at a base) shape_tree) (λ m p. then_do (maybe_typed m width_tree) (λ u c. put (out-MemberDeclarator f).line (members a before) u p c))
  field_as s a = ap (with_field (state_of s a) (members a before) (type_at a base)) (field_parts f) ∙ field_is (state_of s a) (members a before) (type_at a base) (out-MemberDeclarator f).line shape_tree width_tree

  pub field_stops : {s u : Scoping} {a b : Table} {e : CheckFault} (r : Result (List Member) CheckFault) → IsErrAnd r (λ d. d ≡ e) → Walks shaped_seen IsShapeIn (shape_in s a base shape_tree) s a u b (Err e) → Walks members AreMembersBelow (field_in s a before base (field_seen f)) s a u b r
  unfolding field_in shape_in
  field_stops {s = s} {a = a} r h w = walk_as _ (with_field (state_of s a) (members a before) (type_at a base) (field_seen f)) (field_as s a) (first_stops members AreMembersBelow (typed_shape (state_of s a) (type_at a base) shape_tree) (λ m p. then_do (maybe_typed m width_tree) (λ u c. put (out-MemberDeclarator f).line (members a before) u p c)) r h w)

  pub field_stops_second : {s m u : Scoping} {a b c : Table} {p : ShapedValue} {e : CheckFault} (r : Result (List Member) CheckFault) → IsErrAnd r (λ d. d ≡ e) → Walks shaped_seen IsShapeIn (shape_in s a base shape_tree) s a m b (Ok p) → Walks size_seen IsSizeIn (maybe_expr_in m b width_tree) m b u c (Err e)
      → Walks members AreMembersBelow (field_in s a before base (field_seen f)) s a u c r
  unfolding field_in shape_in maybe_expr_in
  field_stops_second {s = s} {a = a} r h w k = walk_as _ (with_field (state_of s a) (members a before) (type_at a base) (field_seen f)) (field_as s a) (second_stops members AreMembersBelow (typed_shape (state_of s a) (type_at a base) shape_tree) (λ m p. maybe_typed m width_tree) (λ u p c. put (out-MemberDeclarator f).line (members a before) u p c) r h w k)

  abbrev node_of : Table → State → ShapedValue → Option (CoreOf ℕ) → Outcome MemberType
  node_of c m p v = at_field (out-MemberDeclarator f).line m (members c before) (shaped_seen c p) (size_seen c v)

  shape_stays : (b c : Table) (p : ShapedValue) → type_at c p.of ≡ type_at b p.of → shaped_seen c p ≡ shaped_seen b p
  shape_stays b c p e = rw e refl

  pub field_stops_node : {s m u : Scoping} {a b c : Table} {p : ShapedValue} {v : Option (CoreOf ℕ)} (e : CheckFault) (r : Result (List Member) CheckFault) → AreMembersBelow (length a.forms) before → IsErrAnd r (λ d. d ≡ e) → Walks shaped_seen IsShapeIn (shape_in s a base shape_tree) s a m b (Ok p) → Walks size_seen IsSizeIn (maybe_expr_in m b width_tree) m b u c (Ok v)
      → ((z : State) → z.tags ≡ tags c → Tells e (node_of c z p v)) → Walks members AreMembersBelow (field_in s a before base (field_seen f)) s a u c r
  unfolding field_in shape_in maybe_expr_in
  field_stops_node {s = s} {m = m} {u = u} {a = a} {b = b} {c = c} {p = p} {v = v} e r i h w k t =
      passed r h (walk_as _ (with_field (state_of s a) (members a before) (type_at a base) (field_seen f)) (field_as s a) (both_go {r = Err e} members AreMembersBelow (typed_shape (state_of s a) (type_at a base) shape_tree) (λ m p. maybe_typed m width_tree) (λ u p c. put (out-MemberDeclarator f).line (members a before) u p c) w k
      (shape_stays b c p (k.keeps.extends.types_stay p.of w.within))
      (record { ok = tt; err = tells_first e (at_field (out-MemberDeclarator f).line (state_of u c) (members a before) (shaped_seen c p) (size_seen c v)) (λ u x. Fine u (members a before ++ x ∷ [])) (subst (λ z. Tells e (at_field (out-MemberDeclarator f).line (state_of u c) z (shaped_seen c p) (size_seen c v))) (members_all a b c before (members_stay a b w.keeps.extends before i) (members_stay b c k.keeps.extends before (members_later a b w.keeps.extends before i))) (t (state_of u c) refl)); within = tt; keeps = record { outer = refl; extends = extends_itself c; symbols = k.keeps.symbols } })))

  pub field_goes : {s m u : Scoping} {a b c : Table} {p : ShapedValue} {v : Option (CoreOf ℕ)} (new : List Member) → AreMembersBelow (length a.forms) before → Walks shaped_seen IsShapeIn (shape_in s a base shape_tree) s a m b (Ok p) → Walks size_seen IsSizeIn (maybe_expr_in m b width_tree) m b u c (Ok v)
      → ((z : State) → z.tags ≡ tags c → node_of c z p v ≡ Fine z (member p.name (type_at c p.of) (size_seen c v))) → members c new ≡ members c before ++ member p.name (type_at c p.of) (size_seen c v) ∷ [] → AreMembersBelow (length c.forms) new
      → Walks members AreMembersBelow (field_in s a before base (field_seen f)) s a u c (Ok new)
  unfolding field_in shape_in maybe_expr_in
  field_goes {s = s} {m = m} {u = u} {a = a} {b = b} {c = c} {p = p} {v = v} new i w k t added l =
      let same = members_all a b c before (members_stay a b w.keeps.extends before i) (members_stay b c k.keeps.extends before (members_later a b w.keeps.extends before i)) in
      walk_as _ (with_field (state_of s a) (members a before) (type_at a base) (field_seen f)) (field_as s a) (both_go {r = Ok new} members AreMembersBelow (typed_shape (state_of s a) (type_at a base) shape_tree) (λ m p. maybe_typed m width_tree) (λ u p c. put (out-MemberDeclarator f).line (members a before) u p c) w k
      (shape_stays b c p (k.keeps.extends.types_stay p.of w.within))
      (record { ok = subst (λ z. put (out-MemberDeclarator f).line z (state_of u c) (shaped_seen c p) (size_seen c v) ≡ Fine (state_of u c) (members c new)) same (ap (λ o. then_do o (λ u x. Fine u (members c before ++ x ∷ []))) (t (state_of u c) refl) ∙ ap (Fine (state_of u c)) (sym added)); err = tt; within = l; keeps = record { outer = refl; extends = extends_itself c; symbols = k.keeps.symbols } }))

-- ---- prototypes

-- a list of which the last is known is known
snoc_same : {A : Type 0} (xs ys : List A) (x y : A) → xs ++ x ∷ [] ≡ ys ++ y ∷ [] → (xs ≡ ys) × (x ≡ y)
snoc_same [] [] x y e = (refl, cc)
snoc_same [] (b ∷ []) x y e = absurd (cc)
snoc_same [] (b ∷ d ∷ ys) x y e = absurd (cc)
snoc_same (a ∷ []) [] x y e = absurd (cc)
snoc_same (a ∷ d ∷ xs) [] x y e = absurd (cc)
snoc_same (a ∷ xs) (b ∷ ys) x y e = (let h : xs ++ x ∷ [] ≡ ys ++ y ∷ [] = cc in let k = snoc_same xs ys x y h in let l : a ≡ b = cc in (rw (l, k.0) refl, k.1))

pub entered_state : (s m : Scoping) (a : Table) → m.outer ≡ s.outer ++ s.inner ∷ [] → m.inner ≡ [] → m.links ≡ s.links → m.symbols ≡ s.symbols → state_of m a ≡ entered (state_of s a)
entered_state s m a o i l y = rw (o, i, l, y) refl

left_state : (s u z : Scoping) (b : Table) → z.outer ≡ s.outer → z.inner ≡ s.inner → z.links ≡ u.links → z.symbols ≡ u.symbols → state_of z b ≡ left s.outer s.inner (state_of u b)
left_state s u z b o i l y = rw (o, i, l, y) refl

module _ (s m u z : Scoping) (a b : Table) (alone more : Bool) (ps : ParameterTrees) (is : alone ≡ typing.stands_alone ps more) (o : m.outer ≡ s.outer ++ s.inner ∷ []) (i : m.inner ≡ []) (l : m.links ≡ s.links) (y : m.symbols ≡ s.symbols) (scopes : u.outer ≡ z.outer ++ z.inner ∷ []) (links : z.links ≡ u.links) (symbols : z.symbols ≡ u.symbols) where
  closed : Keeps m a u b → (z.outer ≡ s.outer) × (z.inner ≡ s.inner)
  closed k = snoc_same z.outer s.outer z.inner s.inner (sym scopes ∙ k.outer ∙ o)

  kept : Keeps m a u b → Keeps s a z b
  kept k = record { outer = (closed k).0; extends = k.extends; symbols = rw symbols k.symbols }

  pub prototype_stops : {e : CheckFault} (r : Result Step CheckFault) → IsErrAnd r (λ d. d ≡ e) → Walks parameters_seen AreParametersIn (parameters_in m a alone ps) m a u b (Err e) → Walks step_seen IsStepIn (suffix_in s a (tree.Prototype 0 ps more)) s a z b r
  unfolding parameters_in suffix_in
  prototype_stops {e = e} r h w =
      passed {view = step_seen} {IsWithin = IsStepIn} {o = typed_suffix (state_of s a) (tree.Prototype 0 ps more)} {s = s} {u = z} {a = a} {b = b} {e = e} r h
      (record {
        ok = tt;
        err = tells_first e (typed_parameters (entered (state_of s a)) (typing.stands_alone ps more) 0 ps) (λ t qs. Fine (left s.outer s.inner t) (node.ToFunction (none_if_void (typing.stands_alone ps more) qs) more t.inner))
            (subst (λ x. Tells e (typed_parameters x (typing.stands_alone ps more) 0 ps)) (entered_state s m a o i l y) (subst (λ x. Tells e (typed_parameters (state_of m a) x 0 ps)) is w.err));
        within = tt;
        keeps = kept w.keeps;
      })

  pub prototype_goes : {v : List NamedParameter} (qs : List NamedParameter) (scope : List (List ℕ × ℕ)) → Walks parameters_seen AreParametersIn (parameters_in m a alone ps) m a u b (Ok v) → scope ≡ u.inner → parameters_seen b qs ≡ none_if_void alone (parameters_seen b v) → AreParametersIn (length b.forms) qs
      → Walks step_seen IsStepIn (suffix_in s a (tree.Prototype 0 ps more)) s a z b (Ok (step.Function qs more scope))
  unfolding parameters_in suffix_in
  prototype_goes {v = v} qs scope w e k n =
      let c = closed w.keeps in
      record {
        ok = ap (λ p. then_do p (λ t xs. Fine (left s.outer s.inner t) (node.ToFunction (none_if_void (typing.stands_alone ps more) xs) more t.inner)))
            (subst (λ x. typed_parameters x (typing.stands_alone ps more) 0 ps ≡ Fine (state_of u b) (parameters_seen b v)) (entered_state s m a o i l y) (subst (λ x. typed_parameters (state_of m a) x 0 ps ≡ Fine (state_of u b) (parameters_seen b v)) is w.ok))
            ∙ ap (λ t. Fine t (node.ToFunction (none_if_void (typing.stands_alone ps more) (parameters_seen b v)) more u.inner)) (sym (left_state s u z b c.0 c.1 links symbols))
            ∙ ap (λ xs. Fine (state_of z b) (node.ToFunction xs more u.inner)) (ap (λ x. none_if_void x (parameters_seen b v)) (sym is) ∙ sym k)
            ∙ ap (λ x. Fine (state_of z b) (node.ToFunction (parameters_seen b qs) more x)) (sym e);
        err = tt;
        within = n;
        keeps = kept w.keeps;
      }

-- ---- enumerators

abbrev at_enumerator : ℕ → List ℕ → ℤ → State → Option CoreTree → Outcome ℤ
at_enumerator line x next m c = at m line (Typing (node.Enumerator x c next)) (with_enumerator m line x (enumerator_value c next)) (enumerator_value c next)

abbrev one_up : State → ℤ → Outcome ℤ
one_up m z = Fine m (z +ℤ pos 1)

enumerator_as : (s : State) (next : ℤ) (e : EnumeratorSyntax) → numbered s next (enumerator_seen e) ≡ then_do (maybe_typed s (maybe_expr_seen (out-Enumerator e).value)) (λ m c. then_do (at_enumerator (out-Enumerator e).line (out-Enumerator e).name next m c) one_up)
enumerator_as s next e = ap (numbered s next) (enumerator_parts e) ∙ then_then (maybe_typed s (maybe_expr_seen (out-Enumerator e).value)) (λ m c. at_enumerator (out-Enumerator e).line (out-Enumerator e).name next m c) one_up

pub enumerator_stops : {s u : Scoping} {a b : Table} {f : CheckFault} (next : ℤ) (e : EnumeratorSyntax) (r : Result EnumeratorList CheckFault) → IsErrAnd r (λ d. d ≡ f) → Walks size_seen IsSizeIn (maybe_expr_in s a (maybe_expr_seen (out-Enumerator e).value)) s a u b (Err f) → Walks next_number IsAnyNumber (enumerator_in s a next (enumerator_seen e)) s a u b r
unfolding enumerator_in maybe_expr_in
enumerator_stops {s = s} {a = a} next e r h w = walk_as _ (numbered (state_of s a) next (enumerator_seen e)) (enumerator_as (state_of s a) next e) (first_stops next_number IsAnyNumber (maybe_typed (state_of s a) (maybe_expr_seen (out-Enumerator e).value)) (λ m c. then_do (at_enumerator (out-Enumerator e).line (out-Enumerator e).name next m c) one_up) r h w)

pub enumerator_stops_behind : {s m u : Scoping} {a b : Table} {v : Option (CoreOf ℕ)} (next : ℤ) (e : EnumeratorSyntax) (f : CheckFault) (r : Result EnumeratorList CheckFault) → IsErrAnd r (λ d. d ≡ f) → Walks size_seen IsSizeIn (maybe_expr_in s a (maybe_expr_seen (out-Enumerator e).value)) s a m b (Ok v)
    → Tells f (at_enumerator (out-Enumerator e).line (out-Enumerator e).name next (state_of m b) (size_seen b v)) → Keeps m b u b → Walks next_number IsAnyNumber (enumerator_in s a next (enumerator_seen e)) s a u b r
unfolding enumerator_in maybe_expr_in
enumerator_stops_behind {s = s} {m = m} {u = u} {a = a} {b = b} {v = v} next e f r h w t k =
    passed r h (walk_as _ (numbered (state_of s a) next (enumerator_seen e)) (enumerator_as (state_of s a) next e) (walk_then next_number IsAnyNumber (maybe_typed (state_of s a) (maybe_expr_seen (out-Enumerator e).value)) (λ m c. then_do (at_enumerator (out-Enumerator e).line (out-Enumerator e).name next m c) one_up) s m u a b b v (Err f) w
    (record { ok = tt; err = tells_first f (at_enumerator (out-Enumerator e).line (out-Enumerator e).name next (state_of m b) (size_seen b v)) one_up t; within = tt; keeps = k })))

pub enumerator_goes : {s m u : Scoping} {a b : Table} {v : Option (CoreOf ℕ)} (next : ℤ) (e : EnumeratorSyntax) (z : ℤ) (new : EnumeratorList) → Walks size_seen IsSizeIn (maybe_expr_in s a (maybe_expr_seen (out-Enumerator e).value)) s a m b (Ok v)
    → at_enumerator (out-Enumerator e).line (out-Enumerator e).name next (state_of m b) (size_seen b v) ≡ Fine (state_of u b) z → new.next ≡ z +ℤ pos 1 → Keeps m b u b → Walks next_number IsAnyNumber (enumerator_in s a next (enumerator_seen e)) s a u b (Ok new)
unfolding enumerator_in maybe_expr_in
enumerator_goes {s = s} {m = m} {u = u} {a = a} {b = b} {v = v} next e z new w t n k =
    walk_as _ (numbered (state_of s a) next (enumerator_seen e)) (enumerator_as (state_of s a) next e) (walk_then next_number IsAnyNumber (maybe_typed (state_of s a) (maybe_expr_seen (out-Enumerator e).value)) (λ m c. then_do (at_enumerator (out-Enumerator e).line (out-Enumerator e).name next m c) one_up) s m u a b b v (Ok new) w
    (record { ok = ap (λ o. then_do o one_up) t ∙ ap (Fine (state_of u b)) (sym n); err = tt; within = tt; keeps = k }))
