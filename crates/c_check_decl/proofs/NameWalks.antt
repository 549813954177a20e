-- Walks over the declarator of a declared name: its parts, then its constraints, its type and what is known behind it.
use Rattle.std.proofs.Common.{◌≡◌, ℕ, ◌<◌, Bool, List, length, refl, sym, ap, ◌∙◌, subst}
use Rattle.std.specs.Prelude.{Option, None, Some, Result, Ok, Err, IsErrAnd}
use Rattle.c_ast.specs.declared.specifier.Storage.{Storage as StorageClass}
use Rattle.c_ast.specs.Trees.{DeclaratorTree}
use Rattle.c_symbols.specs.Scoping.{Scoping}
use Rattle.c_types.specs.CType.{CType}
use Rattle.c_types.specs.Table.{Extends, Grows, Table, type_at}
use Rattle.c_meaning.specs.Declarations.{Name, Naming as NamingTrees, decl_constraints}
use Rattle.c_meaning.specs.Declaring.{first_class}
use Rattle.c_meaning.specs.Linkage.{Linkage as Linked, linkage, with_name_of}
use Rattle.c_meaning.specs.NodeConstraints.{first_of}
use Rattle.c_meaning.specs.State.{State}
use Rattle.c_meaning.specs.TypeRows.{formed, name_or_empty}
use Rattle.c_meaning.specs.TypeRows as rows
use Rattle.c_meaning.specs.Types.{is_function}
use Rattle.c_meaning.specs.Typing.{Fine, shaped, then_do}
use Rattle.c_meaning.specs.Typing as typing
use Rattle.c_values.specs.declared.check_fault.CheckFault.{CheckFault}
use Rattle.c_values.specs.declared.check_fault.CheckFault.TheVariants.{Constraint}
use Rattle.c_check_expr.specs.declared.parts.Declared.{Declared}
use Rattle.c_check_expr.specs.declared.parts.Shaped.{Shaped}
use Rattle.c_check_expr.specs.declared.parts.Specified.{Specified}
use Rattle.c_check_expr.specs.AtNode.{Tells}
use Rattle.c_check_expr.specs.Keeps.{Keeps}
use Rattle.c_check_expr.specs.Known.{AreSymbolsIn, state_of}
use Rattle.c_check_expr.specs.Kept.{below_later, keeps_grown, keeps_itself, keeps_on}
use Rattle.c_check_expr.specs.PartsSeen.{declared_seen, shaped_seen, specified_seen}
use Rattle.c_check_expr.specs.SymbolsStay.{state_stays}
use Rattle.c_check_expr.specs.TypedIn.{declarator_in}
use Rattle.c_check_expr.proofs.lemmas.Walking.{first_stops, passed, walk_as, walk_then}
use Rattle.c_check_expr.specs.Walks.{IsDeclaredIn, Walks}
use Rattle.c_check_decl.specs.declared.naming.Naming.{Naming}
use Rattle.c_check_decl.specs.DeclaredIn.{name_in, named_at}
use Rattle.c_check_decl.specs.Named.{IsNamingIn, linked, naming_in}
use Rattle.c_check_decl.proofs.NameNodes.{at_shape, behind_fine, named_breaks, named_fine, named_of, named_told, shape_node}

-- ---- the declarator, and what follows

name_is : (s : Scoping) (a : Table) (line : ℕ) (b : rows.Specified) (d : DeclaratorTree) → name_in s a line b d ≡ then_do (declarator_in s a d) (λ m p. named_at m line b p)
unfolding name_in declarator_in
name_is s a line b d = refl

pub name_stops : (s u : Scoping) (a b : Table) (line : ℕ) (base : rows.Specified) (d : DeclaratorTree) (e : CheckFault) (r : Result Naming CheckFault) → IsErrAnd r (λ d. d ≡ e) → Walks declared_seen IsDeclaredIn (declarator_in s a d) s a u b (Err e)
    → Walks naming_in IsNamingIn (name_in s a line base d) s a u b r
name_stops s u a b line base d e r h w =
    walk_as (then_do (declarator_in s a d) (λ m p. named_at m line base p)) (name_in s a line base d) (name_is s a line base d) (first_stops naming_in IsNamingIn (declarator_in s a d) (λ m p. named_at m line base p) r h w)

-- the type of the specifiers stays
base_stays : (a b : Table) (base : Specified) → Extends a b → base.of < length a.forms → specified_seen b base ≡ specified_seen a base
base_stays a b base h l = ap (λ (t : CType). record { classes = base.classes; of = t }) (h.types_stay base.of l)

pub name_goes : (s u z : Scoping) (a b c : Table) (line : ℕ) (base : Specified) (d : DeclaratorTree) (p : Declared) (r : Result Naming CheckFault) → base.of < length a.forms → Walks declared_seen IsDeclaredIn (declarator_in s a d) s a u b (Ok p)
    → Walks naming_in IsNamingIn (named_at (state_of u b) line (specified_seen b base) (declared_seen b p)) u b z c r → Walks naming_in IsNamingIn (name_in s a line (specified_seen a base) d) s a z c r
name_goes s u z a b c line base d p r l w x =
    walk_as (then_do (declarator_in s a d) (λ m p. named_at m line (specified_seen a base) p)) (name_in s a line (specified_seen a base) d) (name_is s a line (specified_seen a base) d)
    (walk_then naming_in IsNamingIn (declarator_in s a d) (λ m p. named_at m line (specified_seen a base) p) s u z a b c p r w
    (subst (λ (y : rows.Specified). Walks naming_in IsNamingIn (named_at (state_of u b) line y (declared_seen b p)) u b z c r) (base_stays a b base w.keeps.extends l) x))

-- ---- its node

module _ (s : Scoping) (a : Table) (line : ℕ) (b : rows.Specified) (p : typing.Declared) (n : NamingTrees) (same : named_of (state_of s a) b p ≡ n) (symbols : AreSymbolsIn (length a.forms) s.symbols) where
  pub walk_broken : (k : ℕ) → first_of decl_constraints (state_of s a) (Name n) ≡ Some k → Walks naming_in IsNamingIn (named_at (state_of s a) line b p) s a s a (Err (Constraint k p.line))
  walk_broken k h = record { ok = tt; err = named_breaks (state_of s a) line b p n same k h; within = tt; keeps = keeps_itself s a symbols }

  pub walk_told : (c : Table) (e : CheckFault) (r : Result Naming CheckFault) → IsErrAnd r (λ d. d ≡ e) → Grows a c → first_of decl_constraints (state_of s a) (Name n) ≡ None → Tells e (at_shape (state_of s a) b p)
      → Walks naming_in IsNamingIn (named_at (state_of s a) line b p) s a s c r
  walk_told c e r d g h t = passed r d (record { ok = tt; err = named_told (state_of s a) line b p n same e h t; within = tt; keeps = keeps_grown s a c symbols g })

  pub walk_fine : (u : Scoping) (c d : Table) (x : Naming) (v : typing.Shaped) → Grows a c → first_of decl_constraints (state_of s a) (Name n) ≡ None → at_shape (state_of s a) b p ≡ Fine (state_of s a) v → naming_in c x ≡ n
      → state_of u d ≡ with_name_of (state_of s c) line x.class (linked x.linkage) x.name (type_at c x.of) → x.of < length c.forms → Keeps s c u d → Walks naming_in IsNamingIn (named_at (state_of s a) line b p) s a u d (Ok x)
  walk_fine u c d x v g h k i e l keeps =
      let force : state_of u d ≡ with_name_of (state_of s a) line n.class n.linkage n.name n.of = e ∙ ap (λ (y : NamingTrees). with_name_of (state_of s c) line y.class y.linkage y.name y.of) i ∙ ap (λ m. with_name_of m line n.class n.linkage n.name n.of) (state_stays s a c g symbols) in
      let later : naming_in d x ≡ naming_in c x = ap (λ (t : CType). record { class = x.class; name = x.name; of = t; linkage = linked x.linkage }) (keeps.extends.types_stay x.of l) in
      record {
        ok = named_fine (state_of s a) line b p n same (state_of u d) (state_of s a) v h k force ∙ ap (Fine (state_of u d)) (sym (later ∙ i));
        err = tt;
        within = below_later c d keeps.extends x.of l;
        keeps = keeps_on s s u a c d (keeps_grown s a c symbols g) keeps;
      }

-- ---- what its parts say of it

pub named_same : (s : State) (b : rows.Specified) (p : typing.Declared) (c : Option StorageClass) (name : List ℕ) (of : CType) (function : Bool) (l : Linked) → c ≡ first_class b.classes → name ≡ name_or_empty p.name → of ≡ formed b.of p.steps → function ≡ is_function of → l ≡ linkage s c name function
    → named_of s b p ≡ record { class = c; name = name; of = of; linkage = l }
named_same s b p c name of function l e f g h k = rw (k, h, e, f, g) refl

abbrev pub made : Option StorageClass → List ℕ → CType → Linked → NamingTrees
made c name of l = record { class = c; name = name; of = of; linkage = l }

pub naming_as : (c : Option StorageClass) (l : Linked) (x y : List ℕ) (t v : CType) → x ≡ y → t ≡ v → made c x t l ≡ made c y v l
naming_as c l x y t v e f = rw (e, f) refl

-- the name and the type that the shape gives
pub shape_name : (s : State) (b : rows.Specified) (p : typing.Declared) (c : Table) (x : Shaped) → at_shape s b p ≡ Fine s (shaped_seen c x) → x.name ≡ p.name
shape_name s b p c x h = sym (ap (λ (z : typing.Shaped). z.name) (behind_fine s s s p.line (shape_node b p) (shaped p.name (formed b.of p.steps)) (shaped_seen c x) h))

pub shape_type : (s : State) (b : rows.Specified) (p : typing.Declared) (c : Table) (x : Shaped) → at_shape s b p ≡ Fine s (shaped_seen c x) → type_at c x.of ≡ formed b.of p.steps
shape_type s b p c x h = sym (ap (λ (z : typing.Shaped). z.of) (behind_fine s s s p.line (shape_node b p) (shaped p.name (formed b.of p.steps)) (shaped_seen c x) h))
