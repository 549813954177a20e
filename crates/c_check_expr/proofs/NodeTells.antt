-- What a node tells, where a table holds the values of its parts, or where one of the types that it forms is too deep.
use Rattle.std.proofs.Common.{◌≡◌, ℕ, ◌<◌, Bool, true, false, List, [], ◌∷◌, ◌++◌, length, refl, sym, ap, ◌∙◌, subst, true≢false}
use Rattle.std.specs.Prelude.{None, ◌||◌, nat_lt, Result, Ok, Err, IfErr}
use Rattle.std.specs.Result.{IsErrAnd}
use Rattle.lcc_base.specs.declared.which.Which.TheVariants as which
use Rattle.c_types.specs.CType.{CType, depth}
use Rattle.c_types.specs.Facts.{IsWithin}
use Rattle.c_types.specs.Layout.{known}
use Rattle.c_types.specs.Table.{Table, tags, type_at}
use Rattle.c_meaning.specs.Constraints.{constraints, first_broken, passes_number, some_deep, types_formed}
use Rattle.c_meaning.specs.CoreTrees.{CoreOf, IsIn, seen, type_of}
use Rattle.c_meaning.specs.Nodes.{ExprNode, Expression}
use Rattle.c_meaning.specs.Rows.{row}
use Rattle.c_meaning.specs.State.{State}
use Rattle.c_meaning.specs.Typing.{Fine, at_expr}
use Rattle.c_meaning.specs.Values.{CoreTree, value_type}
use Rattle.c_values.specs.declared.check_fault.CheckFault.{CheckFault}
use Rattle.c_values.specs.declared.check_fault.CheckFault.TheVariants.{Constraint, Limit, Memory}
use Rattle.c_values.specs.TooDeep.{IsTooDeep}
use Rattle.c_check_expr.specs.AtNode.{Tells}
use Rattle.c_check_expr.specs.SomeDeep.{AreTooDeep}
use Rattle.c_check_expr.proofs.NodeLimits.{AreShallow, AreSmall, IsShallow, IsSmall, depth_passed, node_fine, node_passed, none_passed, within_shallow, within_small}
use Rattle.c_values.specs.Stays.{type_in_table, type_seen}

-- ---- types that pass the limit on depth

pub or_true : (b : Bool) → (b || true) ≡ true
or_true true = refl
or_true false = refl

pub deep_first : (e : CheckFault) (line : ℕ) (t : CType) (ts : List CType) → IsTooDeep e line t → AreTooDeep e line (t ∷ ts)
deep_first (Constraint number place) line t ts h = h
deep_first (Limit limit place) line t ts h = (h.0, (h.1.0, rw (h.1.1) refl))
deep_first Memory line t ts h = tt

pub deep_later : (e : CheckFault) (line : ℕ) (t : CType) (ts : List CType) → AreTooDeep e line ts → AreTooDeep e line (t ∷ ts)
deep_later (Constraint number place) line t ts h = h
deep_later (Limit limit place) line t ts h = (h.0, (h.1.0, rw (h.1.1) (or_true (nat_lt 500 (depth t)))))
deep_later Memory line t ts h = tt

some_deep_or : (b : Bool) (ts us : List CType) → (b || some_deep ts) ≡ true → (some_deep ts ≡ true → some_deep (ts ++ us) ≡ true) → (b || some_deep (ts ++ us)) ≡ true
some_deep_or true ts us h f = refl
some_deep_or false ts us h f = f h

some_deep_more : (ts us : List CType) → some_deep ts ≡ true → some_deep (ts ++ us) ≡ true
some_deep_more [] us h = absurd (true≢false (sym h))
some_deep_more (t ∷ ts) us h = some_deep_or (nat_lt 500 (depth t)) ts us h (λ k. some_deep_more ts us k)

pub deep_more : (e : CheckFault) (line : ℕ) (ts us : List CType) → AreTooDeep e line ts → AreTooDeep e line (ts ++ us)
deep_more (Constraint number place) line ts us h = h
deep_more (Limit limit place) line ts us h = (h.0, (h.1.0, some_deep_more ts us h.1.1))
deep_more Memory line ts us h = tt

deep_last : (e : CheckFault) (line : ℕ) (ts : List CType) (t : CType) → IsTooDeep e line t → AreTooDeep e line (ts ++ t ∷ [])
deep_last e line [] t h = deep_first e line t [] h
deep_last e line (u ∷ us) t h = deep_later e line u (us ++ t ∷ []) (deep_last e line us t h)

-- `?` passes a fault up as it is
pub passed_on : {T : Type 0} (r : Result T CheckFault) (e : CheckFault) (P : CheckFault → Type 0) → IsErrAnd r (λ y. y ≡ e) → P e → IfErr r P
passed_on (Ok x) e P is h = tt
passed_on (Err y) e P is h = subst P (sym is) h

-- what is passed up of the last operand
pub passed_deep : {T : Type 0} (mid old : ℕ → CType) (line : ℕ) (ts : List CType) (c : CoreOf ℕ) → seen mid c ≡ seen old c → (r : Result T CheckFault) (e : CheckFault) → IsErrAnd r (λ y. y ≡ e) → IsTooDeep e line (value_type (seen mid c)) → IfErr r (λ y. AreTooDeep y line (ts ++ value_type (seen old c) ∷ []))
passed_deep mid old line ts c same r e is d =
    passed_on r e (λ (z : CheckFault). AreTooDeep z line (ts ++ value_type (seen old c) ∷ [])) is
    (deep_last e line ts (value_type (seen old c)) (subst (λ (x : CoreTree). IsTooDeep e line (value_type x)) same d))

-- a node whose constraints hold tells that one of its types is too deep
pub node_deep : (s : State) (line : ℕ) (n : ExprNode) (e : CheckFault) → first_broken constraints s (Expression n) ≡ None → AreSmall s.tags (types_formed s line (Expression n)) → AreTooDeep e line (types_formed s line (Expression n)) → Tells e (at_expr s line n)
node_deep s line n (Constraint number place) b m h = absurd h
node_deep s line n (Limit limit place) b m h = rw (h.0, h.1.0) (node_passed s line which.Depth n b (depth_passed s line n m h.1.1))
node_deep s line n Memory b m h = tt

-- ---- what a table holds

-- a type that is seen in a table passes no limit
pub seen_small : (t : Table) → ((id : ℕ) → id < length t.forms → IsWithin (known (tags t)) (type_at t id)) → (c : CoreOf ℕ) (e : CoreTree) → IsIn (length t.forms) c → seen (type_at t) c ≡ e → IsSmall (tags t) (type_of e)
seen_small t within c e i h = subst (λ x. IsSmall (tags t) (type_of x)) h (rw (type_seen (type_at t) c) (within_small (tags t) (type_at t (type_of c)) (within (type_of c) (type_in_table (length t.forms) c i))))

pub seen_shallow : (t : Table) → ((id : ℕ) → id < length t.forms → IsWithin (known (tags t)) (type_at t id)) → (c : CoreOf ℕ) (e : CoreTree) → IsIn (length t.forms) c → seen (type_at t) c ≡ e → IsShallow (type_of e)
seen_shallow t within c e i h = subst (λ x. IsShallow (type_of x)) h (rw (type_seen (type_at t) c) (within_shallow (tags t) (type_at t (type_of c)) (within (type_of c) (type_in_table (length t.forms) c i))))

-- a node whose constraints hold, and whose types pass no limit, becomes what its row says
pub node_becomes : (s : State) (line : ℕ) (n : ExprNode) (c : CoreTree) → first_broken constraints s (Expression n) ≡ None → AreSmall s.tags (types_formed s line (Expression n)) → AreShallow (types_formed s line (Expression n)) → passes_number s line (Expression n) ≡ false → c ≡ row s line n → at_expr s line n ≡ Fine s c
node_becomes s line n c b m d p e = node_fine s line n b (none_passed s line n m d p) ∙ ap (λ (x : CoreTree). Fine s x) (sym e)
