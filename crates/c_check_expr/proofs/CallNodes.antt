-- What is told at the nodes of calls and of the comma.
use Rattle.std.proofs.Common.{◌≡◌, ℕ, ◌<◌, ◌≤◌, Bool, true, false, List, [], ◌∷◌, ◌++◌, length, refl, sym, ap, ◌∙◌, subst, true≢false, arith}
use Rattle.std.specs.Prelude.{Option, Some, None, not, nat_lt, ◌&&◌, ◌||◌, if◌then◌else◌}
use Rattle.std.proofs.lemmas.Bool.Decides.{nat_tests}
use Rattle.lcc_base.specs.declared.which.Which.TheVariants as which
use Rattle.c_types.specs.CType.{Void, CType, Plain, Function, Parameters, depth, unqualified}
use Rattle.c_types.specs.Facts.{IsWithin}
use Rattle.c_types.specs.Layout.{Tag, known}
use Rattle.c_types.specs.Table.{Table, Extends, tags, type_at}
use Rattle.c_meaning.specs.declared.core_expr.CoreKind.TheVariants as kind
use Rattle.c_meaning.specs.Constraints.{Breaks, Passes, constraints, count_of, extents, first_broken, first_passed, some_deep, some_large, some_nested, types_formed, value_types}
use Rattle.c_meaning.specs.CoreTrees.{AreIn, Core, CoreOf, CoresOf, IsIn, NoCore, Cores, all_seen, cores_of, seen, type_of}
use Rattle.c_meaning.specs.ExprConstraints.{all_passable, are_as_many, are_assignable, is_last_open, is_open_record}
use Rattle.c_meaning.specs.Nodes.{Expression}
use Rattle.c_meaning.specs.Nodes as node
use Rattle.c_meaning.specs.Rows.{call, called, last_type, parameters_type, result_type}
use Rattle.c_meaning.specs.State.{State}
use Rattle.c_meaning.specs.Types.{is_function, is_pointer}
use Rattle.c_meaning.specs.Typing.{Outcome, Fine, Bad, at_expr}
use Rattle.c_meaning.specs.Values.{CoreTree, CoreTrees, value, value_type, values}
use Rattle.c_values.specs.declared.check_fault.CheckFault.{CheckFault}
use Rattle.c_values.specs.declared.check_fault.CheckFault.TheVariants.{Constraint, Limit, Memory}
use Rattle.c_check_expr.specs.AtNode.{Tells}
use Rattle.c_check_expr.specs.Calling.{call_broken}
use Rattle.c_check_expr.specs.SomeDeep.{AreTooDeep}
use Rattle.c_check_expr.proofs.ChangeNodes.{broken_by}
use Rattle.c_check_expr.proofs.NodeLimits.{AreShallow, AreSmall, IsShallow, IsSmall, basic_small, depth_passed, node_fine, node_passed, none_passed, unqualified_shallow, unqualified_small, value_small, within_shallow, within_small}
use Rattle.c_values.proofs.lemmas.ManyValues.{count_seen, count_values}
use Rattle.c_values.specs.Stays.{all_stay, type_in_table, type_seen}

-- ---- the types of several expressions

-- their types are within the limits
abbrev pub AreWithin : List Tag → CoreTrees → Type 0
AreWithin tags NoCore = Unit {0}
AreWithin tags (Cores c cs) = IsWithin (known tags) (type_of c) × AreWithin tags cs

pub all_within : (t : Table) → ((id : ℕ) → id < length t.forms → IsWithin (known (tags t)) (type_at t id)) → (cs : CoresOf ℕ) → AreIn (length t.forms) cs → AreWithin (tags t) (all_seen (type_at t) cs)
all_within t law NoCore i = tt
all_within t law (Cores (Core what of line kids) cs) i = (law of i.0.0, all_within t law cs i.1)

all_small : (tags : List Tag) (cs : CoreTrees) (ts : List CType) → AreWithin tags cs → AreSmall tags ts → AreSmall tags (value_types cs ++ ts)
all_small tags NoCore ts w h = h
all_small tags (Cores c cs) ts w h = (value_small tags c (within_small tags (type_of c) w.0), all_small tags cs ts w.1 h)

or_left : (a b : Bool) → (a || b) ≡ false → a ≡ false
or_left true b e = absurd (true≢false e)
or_left false b e = refl

or_right : (a b : Bool) → (a || b) ≡ false → b ≡ false
or_right true b e = absurd (true≢false e)
or_right false b e = e

all_shallow : (cs : CoreTrees) (ts : List CType) → some_deep (value_types cs) ≡ false → AreShallow ts → AreShallow (value_types cs ++ ts)
all_shallow NoCore ts d h = h
all_shallow (Cores c cs) ts d h =
    (or_left (nat_lt 500 (depth (value_type c))) (some_deep (value_types cs)) d, all_shallow cs ts (or_right (nat_lt 500 (depth (value_type c))) (some_deep (value_types cs)) d) h)

or_more : (a b c : Bool) → (a || b) ≡ true → (b ≡ true → c ≡ true) → (a || c) ≡ true
or_more true b c e f = refl
or_more false b c e f = f e

deep_more : (ts us : List CType) → some_deep ts ≡ true → some_deep (ts ++ us) ≡ true
deep_more [] us e = absurd (true≢false (sym e))
deep_more (t ∷ ts) us e = or_more (nat_lt 500 (depth t)) (some_deep ts) (some_deep (ts ++ us)) e (deep_more ts us)

-- ---- the comma

last_small : (tags : List Tag) (cs : CoreTrees) → AreWithin tags cs → IsSmall tags (last_type (values cs))
last_small tags NoCore w = basic_small tags 0 Void
last_small tags (Cores c NoCore) w = unqualified_small tags (value_type c) (value_small tags c (within_small tags (type_of c) w.0))
last_small tags (Cores c (Cores d ds)) w = last_small tags (Cores d ds) w.1

last_shallow : (cs : CoreTrees) → some_deep (value_types cs) ≡ false → IsShallow (last_type (values cs))
last_shallow NoCore d = refl
last_shallow (Cores c NoCore) d = unqualified_shallow (value_type c) (or_left (nat_lt 500 (depth (value_type c))) false d)
last_shallow (Cores c (Cores e es)) d = last_shallow (Cores e es) (or_right (nat_lt 500 (depth (value_type c))) (some_deep (value_types (Cores e es))) d)

comma_test : List Tag → CoreTrees → Option ℕ
comma_test tags cs = if is_last_open tags (values cs) then Some 46 else None

pub comma_refused : (s : State) (tags : List Tag) (line : ℕ) (cs : CoreTrees) → s.tags ≡ tags → is_last_open tags (values cs) ≡ true → at_expr s line (node.Comma cs) ≡ Bad (Breaks 46 line)
unfolding comma_test
comma_refused s tags line cs h e = broken_by s tags line 46 (node.Comma cs) (λ z. comma_test z cs) refl h (ap (λ b. if b then Some 46 else None) e)

comma_first : (s : State) (cs : CoreTrees) → is_last_open s.tags (values cs) ≡ false → first_broken constraints s (Expression (node.Comma cs)) ≡ None
comma_first s cs e = ap (λ b. if b then Some 46 else None) e

comma_by : (s : State) (line : ℕ) (cs : CoreTrees) → some_deep (value_types cs) ≡ false → is_last_open s.tags (values cs) ≡ false → AreWithin s.tags cs → at_expr s line (node.Comma cs) ≡ Fine s (Core kind.Comma (last_type (values cs)) line (values cs))
comma_by s line cs d e w =
    let n = node.Comma cs in
    let t = last_type (values cs) in
    node_fine s line n (comma_first s cs e) (none_passed s line n (all_small s.tags cs (t ∷ []) w (last_small s.tags cs w, tt)) (all_shallow cs (t ∷ []) d (last_shallow cs d, tt)) refl)

pub comma_fine : (s : State) (tags : List Tag) (line : ℕ) (cs : CoreTrees) → s.tags ≡ tags → some_deep (value_types cs) ≡ false → is_last_open tags (values cs) ≡ false → AreWithin tags cs → at_expr s line (node.Comma cs) ≡ Fine s (Core kind.Comma (last_type (values cs)) line (values cs))
comma_fine s tags line cs h d =
    subst (λ z. is_last_open z (values cs) ≡ false → AreWithin z cs → at_expr s line (node.Comma cs) ≡ Fine s (Core kind.Comma (last_type (values cs)) line (values cs))) h
    (comma_by s line cs d)

comma_past : (s : State) (line : ℕ) (cs : CoreTrees) → some_deep (value_types cs) ≡ true → is_last_open s.tags (values cs) ≡ false → AreWithin s.tags cs → at_expr s line (node.Comma cs) ≡ Bad (Passes which.Depth line)
comma_past s line cs d e w =
    let n = node.Comma cs in
    let t = last_type (values cs) in
    node_passed s line which.Depth n (comma_first s cs e) (depth_passed s line n (all_small s.tags cs (t ∷ []) w (last_small s.tags cs w, tt)) (deep_more (value_types cs) (t ∷ []) d))

pub comma_deep : (s : State) (tags : List Tag) (line : ℕ) (cs : CoreTrees) → s.tags ≡ tags → is_last_open tags (values cs) ≡ false → AreWithin tags cs → some_deep (value_types cs) ≡ true → at_expr s line (node.Comma cs) ≡ Bad (Passes which.Depth line)
comma_deep s tags line cs h e w d =
    subst (λ z. is_last_open z (values cs) ≡ false → AreWithin z cs → at_expr s line (node.Comma cs) ≡ Bad (Passes which.Depth line)) h (comma_past s line cs d) e w

-- what is told of values of which some are too deep
pub told_some_deep : {T : Type 0} (e : CheckFault) (line : ℕ) (ts : List CType) (o : Outcome T) → AreTooDeep e line ts → (some_deep ts ≡ true → o ≡ Bad (Passes which.Depth line)) → Tells e o
told_some_deep (Constraint number place) line ts o d f = absurd d
told_some_deep (Limit limit place) line ts o d f = f d.1.1 ∙ rw (d.0, d.1.0) refl
told_some_deep Memory line ts o d f = tt

-- ---- calls

-- the tests once the type that is called is known
call_tests : List Tag → Bool → CType → CoreTrees → Option ℕ
call_tests tags pointer t vs =
    if not (pointer && is_function t) || is_open_record tags (result_type t) then Some 29
    else if not (are_as_many (parameters_type t) vs) then Some 30
    else if not (are_assignable (parameters_type t) vs && all_passable tags vs) then Some 31
    else None

three_tests : Bool → Bool → Bool → Option ℕ
three_tests bare many fit = if bare then Some 29 else if not many then Some 30 else if not fit then Some 31 else None

-- what is broken, by the function that a value points to
pub call_known : (tags : List Tag) (f : CoreTree) (cs : CoreTrees) (q : ℕ) (r : CType) (ps : Parameters) (bare many fit : Bool) →
    is_pointer (value_type f) ≡ true → called (value f) ≡ Plain q (Function r ps) →
    bare ≡ is_open_record tags r → many ≡ are_as_many ps (values cs) → fit ≡ (are_assignable ps (values cs) && all_passable tags (values cs)) →
    call_broken tags f cs ≡ (if bare then Some 29 else if not many then Some 30 else if not fit then Some 31 else None)
unfolding call_tests three_tests
call_known tags f cs q r ps bare many fit p e o m g =
    ap (λ b. call_tests tags b (called (value f)) (values cs)) p ∙ ap (λ t. call_tests tags true t (values cs)) e
    ∙ sym (ap (λ b. three_tests b many fit) o ∙ ap (λ b. three_tests (is_open_record tags r) b fit) m ∙ ap (three_tests (is_open_record tags r) (are_as_many ps (values cs))) g)

pub call_unknown : (tags : List Tag) (f : CoreTree) (cs : CoreTrees) → (is_pointer (value_type f) && is_function (called (value f))) ≡ false → call_broken tags f cs ≡ Some 29
call_unknown tags f cs e =
    ap (λ b. if not b || is_open_record tags (result_type (called (value f))) then Some 29
    else if not (are_as_many (parameters_type (called (value f))) (values cs)) then Some 30
    else if not (are_assignable (parameters_type (called (value f))) (values cs) && all_passable tags (values cs)) then Some 31
    else None) e

not_or : (a b : Bool) (o : Option ℕ) → (if not a || b then Some 29 else o) ≡ None → a ≡ true
not_or true b o e = refl
not_or false b o e = absurd (let never : ⊥ = cc in never)

pub call_function : (tags : List Tag) (f : CoreTree) (cs : CoreTrees) → call_broken tags f cs ≡ None → (is_pointer (value_type f) && is_function (called (value f))) ≡ true
call_function tags f cs e = not_or (is_pointer (value_type f) && is_function (called (value f))) (is_open_record tags (result_type (called (value f)))) _ e

pub call_refused : (s : State) (tags : List Tag) (line number : ℕ) (f : CoreTree) (cs : CoreTrees) → s.tags ≡ tags → call_broken tags f cs ≡ Some number → at_expr s line (node.Call f cs) ≡ Bad (Breaks number line)
call_refused s tags line number f cs h e = broken_by s tags line number (node.Call f cs) (λ z. call_broken z f cs) refl h e

-- the types that are formed pass no limit but perhaps the one on depth
pub record IsCallWithin (tags : List Tag) (f : CoreTree) (cs : CoreTrees) : Type 0 where
  pub fits : call_broken tags f cs ≡ None
  pub function : IsWithin (known tags) (type_of f)
  pub arguments : AreWithin tags cs
  pub result : IsWithin (known tags) (result_type (called (value f)))

call_small : (tags : List Tag) (f : CoreTree) (cs : CoreTrees) → IsCallWithin tags f cs → AreSmall tags (value_type f ∷ (value_types cs ++ unqualified (result_type (called (value f))) ∷ []))
call_small tags f cs w =
    let t = result_type (called (value f)) in
    (value_small tags f (within_small tags (type_of f) w.function), all_small tags cs (unqualified t ∷ []) w.arguments (unqualified_small tags t (within_small tags t w.result), tt))

call_shallow : (tags : List Tag) (f : CoreTree) (cs : CoreTrees) → IsCallWithin tags f cs → IsShallow (value_type f) → some_deep (value_types cs) ≡ false → AreShallow (value_type f ∷ (value_types cs ++ unqualified (result_type (called (value f))) ∷ []))
call_shallow tags f cs w a d =
    let t = result_type (called (value f)) in
    (a, all_shallow cs (unqualified t ∷ []) d (unqualified_shallow t (within_shallow tags t w.result), tt))

call_by : (s : State) (line : ℕ) (f : CoreTree) (cs : CoreTrees) → IsShallow (value_type f) → some_deep (value_types cs) ≡ false → nat_lt 127 (count_of cs) ≡ false → IsCallWithin s.tags f cs → at_expr s line (node.Call f cs) ≡ Fine s (call line (value f) (values cs))
call_by s line f cs a d m w =
    let n = node.Call f cs in
    node_fine s line n w.fits (none_passed s line n (call_small s.tags f cs w) (call_shallow s.tags f cs w a d) m)

pub call_fine : (s : State) (tags : List Tag) (line : ℕ) (f : CoreTree) (cs : CoreTrees) → s.tags ≡ tags → IsShallow (value_type f) → some_deep (value_types cs) ≡ false → nat_lt 127 (count_of cs) ≡ false → IsCallWithin tags f cs → at_expr s line (node.Call f cs) ≡ Fine s (call line (value f) (values cs))
call_fine s tags line f cs h a d m w =
    call_by s line f cs a d m (subst (λ z. IsCallWithin z f cs) (sym h) w)

-- the value of the function, or of some argument, is too deep
pub call_deep : (s : State) (tags : List Tag) (line : ℕ) (f : CoreTree) (cs : CoreTrees) → s.tags ≡ tags → IsCallWithin tags f cs → some_deep (value_type f ∷ value_types cs) ≡ true → at_expr s line (node.Call f cs) ≡ Bad (Passes which.Depth line)
call_deep s tags line f cs h w d =
    let n = node.Call f cs in
    let v : IsCallWithin s.tags f cs = subst (λ z. IsCallWithin z f cs) (sym h) w in
    node_passed s line which.Depth n v.fits (depth_passed s line n (call_small s.tags f cs v) (deep_more (value_type f ∷ value_types cs) (unqualified (result_type (called (value f))) ∷ []) d))

none_large : (tags : List Tag) (ts : List CType) → AreSmall tags ts → some_large (extents tags ts) ≡ false
none_large tags [] h = refl
none_large tags (t ∷ ts) h = rw (h.0.size) (none_large tags ts h.1)

none_nested : (tags : List Tag) (ts : List CType) → AreSmall tags ts → some_nested (extents tags ts) ≡ false
none_nested tags [] h = refl
none_nested tags (t ∷ ts) h = rw (h.0.nesting) (none_nested tags ts h.1)

none_deep : (ts : List CType) → AreShallow ts → some_deep ts ≡ false
none_deep [] h = refl
none_deep (t ∷ ts) h = rw (h.0) (none_deep ts h.1)

number_passed : (s : State) (line : ℕ) (f : CoreTree) (cs : CoreTrees) → AreSmall s.tags (types_formed s line (Expression (node.Call f cs))) → AreShallow (types_formed s line (Expression (node.Call f cs))) → nat_lt 127 (count_of cs) ≡ true → first_passed s line (Expression (node.Call f cs)) ≡ Some which.Parameters
number_passed s line f cs m d p =
    let ts = types_formed s line (Expression (node.Call f cs)) in
    rw (none_large s.tags ts m, none_nested s.tags ts m, none_deep ts d, p) refl

-- there are too many arguments
pub call_many : (s : State) (tags : List Tag) (line : ℕ) (f : CoreTree) (cs : CoreTrees) → s.tags ≡ tags → IsShallow (value_type f) → some_deep (value_types cs) ≡ false → nat_lt 127 (count_of cs) ≡ true → IsCallWithin tags f cs → at_expr s line (node.Call f cs) ≡ Bad (Passes which.Parameters line)
call_many s tags line f cs h a d m w =
    let n = node.Call f cs in
    let v : IsCallWithin s.tags f cs = subst (λ z. IsCallWithin z f cs) (sym h) w in
    node_passed s line which.Parameters n v.fits (number_passed s line f cs (call_small s.tags f cs v) (call_shallow s.tags f cs v a d) m)

-- ---- what is known of a call once its function, or also its arguments, are values

pub call_within : (t : Table) (f : CoreOf ℕ) (xs ys : List (CoreOf ℕ)) → ((id : ℕ) → id < length t.forms → IsWithin (known (tags t)) (type_at t id)) → IsIn (length t.forms) f → AreIn (length t.forms) (cores_of xs) → ys ≡ xs →
    None ≡ call_broken (tags t) (seen (type_at t) f) (all_seen (type_at t) (cores_of ys)) → IsWithin (known (tags t)) (result_type (called (value (seen (type_at t) f)))) →
    IsCallWithin (tags t) (seen (type_at t) f) (all_seen (type_at t) (cores_of xs))
call_within t f xs ys law i j e b r =
    let k = type_at t in
    record {
      fits = sym (b ∙ ap (λ (l : List (CoreOf ℕ)). call_broken (tags t) (seen k f) (all_seen k (cores_of l))) e);
      function = subst (IsWithin (known (tags t))) (sym (type_seen k f)) (law (type_of f) (type_in_table (length t.forms) f i));
      arguments = all_within t law (cores_of xs) j;
      result = r;
    }

-- some value is too deep: the function's, or one of the arguments
pub deep_function : (f : CoreTree) (cs : CoreTrees) → nat_lt 500 (depth (value_type f)) ≡ true → some_deep (value_type f ∷ value_types cs) ≡ true
deep_function f cs d = ap (λ b. b || some_deep (value_types cs)) d

pub deep_arguments : (f : CoreTree) (cs : CoreTrees) → IsShallow (value_type f) → some_deep (value_types cs) ≡ true → some_deep (value_type f ∷ value_types cs) ≡ true
deep_arguments f cs s d = ap (λ b. b || some_deep (value_types cs)) s ∙ d

-- as many values as arguments
pub count_formed : (t t1 u : Table) (xs vs : List (CoreOf ℕ)) → Extends t t1 → AreIn (length t.forms) (cores_of xs) → all_seen (type_at u) (cores_of vs) ≡ values (all_seen (type_at t1) (cores_of xs)) → count_of (all_seen (type_at t) (cores_of xs)) ≡ length vs
count_formed t t1 u xs vs x i e =
    sym (ap count_of (all_stay t t1 x (cores_of xs) i)) ∙ sym (count_values (all_seen (type_at t1) (cores_of xs))) ∙ sym (ap count_of e) ∙ count_seen (type_at u) vs

pub few_counted : (n m : ℕ) → n ≡ m → m ≤ 127 → nat_lt 127 n ≡ false
few_counted n m e l = grind (arith, nat_tests)

pub many_counted : (n m : ℕ) → n ≡ m → 127 < m → nat_lt 127 n ≡ true
many_counted n m e l = grind (arith, nat_tests)
