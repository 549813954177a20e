-- Nodes that select a member: what is told of them, and what they become.
use Rattle.std.proofs.Common.{◌≡◌, ℕ, ◌<◌, true, false, List, [], ◌∷◌, length, refl, ◌∙◌, subst}
use Rattle.std.specs.Prelude.{Option, Some, None, IfSome}
use Rattle.std.specs.Option.{option_map}
use Rattle.c_ast.specs.declared.operator.MemberOperator.TheVariants as member
use Rattle.c_types.specs.declared.type_form.MemberPlace.{MemberPlace}
use Rattle.c_types.specs.CType.{CType, Plain, Array, qualify}
use Rattle.c_types.specs.Layout.{Tag}
use Rattle.c_types.specs.Members.{MemberAt, member_of}
use Rattle.c_types.specs.Table.{Table, Extends, member_seen, tags, type_at, types}
use Rattle.c_meaning.specs.declared.core_expr.CoreKind.TheVariants as kind
use Rattle.c_meaning.specs.Constraints.{Breaks, constraints, first_broken}
use Rattle.c_meaning.specs.CoreTrees.{CoreOf, Core, IsIn, cores_of, seen, type_of}
use Rattle.c_meaning.specs.Nodes.{Expression}
use Rattle.c_meaning.specs.Nodes as node
use Rattle.c_meaning.specs.Rows.{pointed, selected_at}
use Rattle.c_meaning.specs.State.{State}
use Rattle.c_meaning.specs.Types.{is_pointer, qualifiers_of, target}
use Rattle.c_meaning.specs.Typing.{Fine, Bad, at_expr}
use Rattle.c_meaning.specs.Values.{CoreTree, value, value_type}
use Rattle.c_values.specs.TooDeep.{IsTooDeep}
use Rattle.c_check_expr.specs.AtNode.{Tells}
use Rattle.c_values.specs.declared.check_fault.CheckFault.{CheckFault}
use Rattle.c_check_expr.proofs.NodeLimits.{IsShallow, IsSmall, node_broken, node_fine, none_passed, qualified_shallow, qualified_small, value_small}
use Rattle.c_values.specs.Stays.{seen_stays, type_seen}
use Rattle.c_check_expr.proofs.TableLimits.{deep_told}

-- qualifiers change nothing of a type's members
pub member_qualified : (tags : List Tag) (q : ℕ) (t : CType) (x : List ℕ) → member_of tags (qualify q t) x ≡ member_of tags t x
member_qualified tags q (Plain p k) x = refl
member_qualified tags q (Array of n) x = refl

-- ---- `.`

pub dot_broken : (s : State) (line : ℕ) (a : CoreTree) (x : List ℕ) → None ≡ member_of s.tags (type_of a) x → at_expr s line (node.Member member.Dot a x) ≡ Bad (Breaks 33 line)
dot_broken s line a x e = node_broken s line 33 (node.Member member.Dot a x) (rw (← e) refl)

pub dot_fine : (s : State) (line : ℕ) (a : CoreTree) (x : List ℕ) (m : MemberAt) → Some m ≡ member_of s.tags (type_of a) x → IsSmall s.tags m.of → IsShallow m.of → at_expr s line (node.Member member.Dot a x) ≡ Fine s (selected_at line a m)
dot_fine s line a x m e n d =
    let none : first_broken constraints s (Expression (node.Member member.Dot a x)) ≡ None = rw (← e) refl in
    node_fine s line (node.Member member.Dot a x) none
    (none_passed s line (node.Member member.Dot a x) (rw (← e) (qualified_small s.tags _ m.of n, tt)) (rw (← e) (qualified_shallow _ m.of d, tt)) refl)
    ∙ (rw (← e) refl)

-- ---- `->`

pub arrow_no_pointer : (s : State) (line : ℕ) (a : CoreTree) (x : List ℕ) → is_pointer (value_type a) ≡ false → at_expr s line (node.Member member.Arrow a x) ≡ Bad (Breaks 33 line)
arrow_no_pointer s line a x e = node_broken s line 33 (node.Member member.Arrow a x) (rw e refl)

pub arrow_broken : (s : State) (line : ℕ) (a : CoreTree) (x : List ℕ) → is_pointer (value_type a) ≡ true → None ≡ member_of s.tags (target (value_type a)) x → at_expr s line (node.Member member.Arrow a x) ≡ Bad (Breaks 33 line)
arrow_broken s line a x p e = node_broken s line 33 (node.Member member.Arrow a x) (rw (p, ← e) refl)

arrow_passes : (s : State) (a : CoreTree) (x : List ℕ) (m : MemberAt) → is_pointer (value_type a) ≡ true → Some m ≡ member_of s.tags (target (value_type a)) x → first_broken constraints s (Expression (node.Member member.Arrow a x)) ≡ None
arrow_passes s a x m p e = rw (p, ← e) refl

pub arrow_deep : (s : State) (line : ℕ) (a : CoreTree) (x : List ℕ) (m : MemberAt) (f : CheckFault) → is_pointer (value_type a) ≡ true → Some m ≡ member_of s.tags (target (value_type a)) x → IsSmall s.tags (type_of a) → IsSmall s.tags m.of → IsTooDeep f line (value_type a) → Tells f (at_expr s line (node.Member member.Arrow a x))
arrow_deep s line a x m f p e k n d =
    deep_told s line (node.Member member.Arrow a x) f (value_type a) d (arrow_passes s a x m p e)
    (rw (← e) (value_small s.tags a k, (qualified_small s.tags _ m.of n, tt)))
    (λ g. rw g refl)

pub arrow_fine : (s : State) (line : ℕ) (a : CoreTree) (x : List ℕ) (m : MemberAt) → is_pointer (value_type a) ≡ true → Some m ≡ member_of s.tags (target (value_type a)) x → IsSmall s.tags (type_of a) → IsSmall s.tags m.of → IsShallow m.of → IsShallow (value_type a) → at_expr s line (node.Member member.Arrow a x) ≡ Fine s (selected_at line (pointed line (value a)) m)
arrow_fine s line a x m p e k n d v =
    node_fine s line (node.Member member.Arrow a x) (arrow_passes s a x m p e)
    (none_passed s line (node.Member member.Arrow a x)
    (rw (← e) (value_small s.tags a k, (qualified_small s.tags _ m.of n, tt)))
    (rw (← e) (v, (qualified_shallow _ m.of d, tt))) refl)
    ∙ (rw (← e) refl)

-- ---- the member at a place

pub member_means : (old new : Table) → Extends old new → (a : CoreOf ℕ) (id of line q : ℕ) (p : MemberPlace) (x : CoreOf ℕ) → IsIn (length old.forms) a → type_of a ≡ id → q ≡ qualifiers_of (type_at old id) → type_at new of ≡ qualify q (type_at old p.of) → x ≡ Core (kind.Member p.offset p.first p.width) of line (cores_of (a ∷ [])) → seen (type_at new) x ≡ selected_at line (seen (type_at old) a) (member_seen (types old) p)
member_means old new h a id of line q p x i e f g k =
    rw (k, g, f, seen_stays old new h a i, type_seen (type_at old) a, e) refl

pub member_found : (s : State) (t : Table) → s.tags ≡ tags t → (u v : CType) → u ≡ v → (x : List ℕ) (r m : Option MemberPlace) → option_map (member_seen (types t)) r ≡ member_of (tags t) v x → r ≡ m → option_map (member_seen (types t)) m ≡ member_of s.tags u x
member_found s t h u v e x r m f k = rw (h, e, ← k) f

pub place_within : (n : ℕ) (r : Option MemberPlace) (p : MemberPlace) → IfSome r (λ q. q.of < n) → r ≡ Some p → p.of < n
place_within n r p h e = let P : Option MemberPlace → Type 0 = λ o. IfSome o (λ q. q.of < n) in subst P e h
