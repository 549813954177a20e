-- What comes of an expression, by what comes of its parts.
use Rattle.std.proofs.Common.{◌≡◌, ℕ, zero, suc, ◌+◌, ◌<◌, ◌≤◌, Bool, true, false, Option, Some, None, List, [], ◌∷◌, length, drop, get_or, drop-cons, refl, ap, sym, ◌∙◌, subst, arith}
use Rattle.std.specs.Prelude.{◌≢◌, ◌&&◌, not, IsErrAnd, Result as Checked, Ok, Err}
use Rattle.lcc_base.specs.declared.cause.Cause.TheVariants.{Outside}
use Rattle.lcc_base.specs.Traces.{Event}
use Rattle.objects.specs.declared.value.Value.{Value}
use Rattle.c_types.specs.CType.{CType}
use Rattle.c_meaning.specs.CoreTrees.{CoreOf, Core, CoresOf, NoCore, Cores, all_parts, kids_of, line_of, one, two, type_of, what_of, seen}
use Rattle.c_runs.specs.Worlds.{World as RunWorld}
use Rattle.c_runs.specs.Outcomes.{How, Undefined as Undefines, Result, Gives, GivesNone, Ends, then_give}
use Rattle.c_worlds.specs.declared.stop.Stop.{Stop}
use Rattle.c_worlds.specs.declared.stop.Stop.TheVariants.{Undefined, Memory}
use Rattle.c_worlds.specs.declared.world.World.{World}
use Rattle.c_worlds.specs.Shown.{shown, Comes, Gets}
use Rattle.c_acts.specs.Tests.{truth_of}
use Rattle.c_meaning.specs.CoreTrees.{cores_of, all_seen, parts}
use Rattle.c_runs.specs.Calls.{Setting}
use Rattle.c_runs.specs.Expressions.{Part, asked, eval, parts_of, row}
use Rattle.c_runs.specs.Outcomes.{stray, then_drop}
use Rattle.c_worlds.specs.Shown.{gave, giving}
use Rattle.c_acts.specs.Kinds.{is_call}
use Rattle.c_acts.specs.Shapes.{shape_of}
use Rattle.c_acts.specs.declared.shape.Shape.TheVariants.{Leaf, Dropped, Unary, Binary, Logical, Conditional, Comma, Call}
use Rattle.c_acts.proofs.lemmas.Rows.{unary_row, dropped_row, binary_row, second_row, leaf_stray, dropped_stray, unary_stray, binary_stray, logical_stray, conditional_stray, comma_stray, calls_call}
use Rattle.c_plain.specs.Counts.{count}
use Rattle.c_plain.specs.Plain.{are_plain, is_plain, used}

-- ---- values that are used

pub used_gives : (r : Result) (v : Value) (k : ℕ) (w : RunWorld) → used r ≡ Gives v k w → r ≡ Gives v k w
used_gives (Gives u j x) v k w e = e
used_gives (GivesNone line j x) v k w e = absurd cc
used_gives (Ends how x) v k w e = absurd cc

-- a run that ends where a value is used ends before what follows
pub used_ends : (r : Result) (how : How) (w : RunWorld) (go : Value → ℕ → RunWorld → Result) → used r ≡ Ends how w → then_give r go ≡ Ends how w
used_ends (Gives u j x) how w go e = absurd cc
used_ends (GivesNone line j x) how w go e = e
used_ends (Ends h x) how w go e = e

pub given_on : (r : Result) (v : Value) (k : ℕ) (w : RunWorld) (go : Value → ℕ → RunWorld → Result) → used r ≡ Gives v k w → then_give r go ≡ go v k w
given_on r v k w go e = ap (λ x. then_give x go) (used_gives r v k w e)

-- ---- results handed on

-- it comes to what another comes to that stands behind it
pub comes_then : (does next : ℕ → RunWorld → Result) (old mid new : World) (r : Checked (Option Value) Stop)
    → ((k : ℕ) (t : List Event) → does k (shown old t) ≡ next k (shown mid t)) → Comes next mid new r → Comes does old new r
comes_then does next old mid new (Ok v) e c = λ k t. e k t ∙ c k t
comes_then does next old mid new (Err (Undefined cause line)) e c = λ k t. e k t ∙ c k t
comes_then does next old mid new (Err Memory) e c = tt

pub gets_then : (does next : ℕ → RunWorld → Result) (old mid new : World) (r : Checked Value Stop)
    → ((k : ℕ) (t : List Event) → does k (shown old t) ≡ next k (shown mid t)) → Gets next mid new r → Gets does old new r
gets_then does next old mid new (Ok v) e c = λ k t. e k t ∙ c k t
gets_then does next old mid new (Err (Undefined cause line)) e c = λ k t. e k t ∙ c k t
gets_then does next old mid new (Err Memory) e c = tt

-- the end of one that stands before it is its own
abbrev pub Passes : (ℕ → RunWorld → Result) → (ℕ → RunWorld → Result) → World → World → Type 0
Passes does part old mid = (k : ℕ) (t : List Event) (how : How) (w : RunWorld) → part k (shown mid t) ≡ Ends how w → does k (shown old t) ≡ Ends how w

comes_fails : (does part : ℕ → RunWorld → Result) (old mid new : World) (stop : Stop) → Gets part mid new (Err stop) → Passes does part old mid → Comes does old new (Err stop)
comes_fails does part old mid new (Undefined cause line) g p = λ k t. p k t (Undefines cause line) (shown new t) (g k t)
comes_fails does part old mid new Memory g p = tt

pub comes_stops : (does part : ℕ → RunWorld → Result) (old mid new : World) (r : Checked (Option Value) Stop) (stop : Stop)
    → IsErrAnd r (λ y. y ≡ stop) → Gets part mid new (Err stop) → Passes does part old mid → Comes does old new r
comes_stops does part old mid new (Ok v) stop h g p = absurd h
comes_stops does part old mid new (Err y) stop h g p = subst (λ z. Comes does old new (Err z)) (sym h) (comes_fails does part old mid new stop g p)

gets_fails : (does part : ℕ → RunWorld → Result) (old mid new : World) (stop : Stop) → Gets part mid new (Err stop) → Passes does part old mid → Gets does old new (Err stop)
gets_fails does part old mid new (Undefined cause line) g p = λ k t. p k t (Undefines cause line) (shown new t) (g k t)
gets_fails does part old mid new Memory g p = tt

pub gets_stops : (does part : ℕ → RunWorld → Result) (old mid new : World) (r : Checked Value Stop) (stop : Stop)
    → IsErrAnd r (λ y. y ≡ stop) → Gets part mid new (Err stop) → Passes does part old mid → Gets does old new r
gets_stops does part old mid new (Ok v) stop h g p = absurd h
gets_stops does part old mid new (Err y) stop h g p = subst (λ z. Gets does old new (Err z)) (sym h) (gets_fails does part old mid new stop g p)

pub tells_stops : (does part : ℕ → RunWorld → Result) (old mid new : World) (r : Checked Bool Stop) (stop : Stop)
    → IsErrAnd r (λ y. y ≡ stop) → Gets part mid new (Err stop) → Passes does part old mid → Gets does old new (truth_of r)
tells_stops does part old mid new (Ok v) stop h g p = absurd h
tells_stops does part old mid new (Err y) stop h g p = subst (λ z. Gets does old new (Err z)) (sym h) (gets_fails does part old mid new stop g p)

-- an end is one whether a value is wanted or not
pub comes_ends : (does : ℕ → RunWorld → Result) (old new : World) (stop : Stop) → Comes does old new (Err stop) → Gets does old new (Err stop)
comes_ends does old new (Undefined cause line) c = c
comes_ends does old new Memory c = tt

-- ---- parts of plain expressions are plain, and smaller

and_left : (a b : Bool) → (a && b) ≡ true → a ≡ true
and_left true b h = refl
and_left false b h = h

and_right : (a b : Bool) → (a && b) ≡ true → b ≡ true
and_right true b h = h
and_right false b h = absurd cc

pub kids_plain : (e : CoreOf ℕ) (kids : CoresOf ℕ) → kids_of e ≡ kids → is_plain e ≡ true → are_plain kids ≡ true
kids_plain (Core what of line ks) kids q h = subst (λ x. are_plain x ≡ true) q (and_right (not (is_call what)) (are_plain ks) h)

pub first_plain : (e a : CoreOf ℕ) (cs : CoresOf ℕ) → kids_of e ≡ Cores a cs → is_plain e ≡ true → is_plain a ≡ true
first_plain e a cs q h = and_left (is_plain a) (are_plain cs) (kids_plain e (Cores a cs) q h)

pub others_plain : (e a : CoreOf ℕ) (cs : CoresOf ℕ) → kids_of e ≡ Cores a cs → is_plain e ≡ true → are_plain cs ≡ true
others_plain e a cs q h = and_right (is_plain a) (are_plain cs) (kids_plain e (Cores a cs) q h)

pub second_plain : (e a b : CoreOf ℕ) (cs : CoresOf ℕ) → kids_of e ≡ Cores a (Cores b cs) → is_plain e ≡ true → is_plain b ≡ true
second_plain e a b cs q h = and_left (is_plain b) (are_plain cs) (others_plain e a (Cores b cs) q h)

pub third_plain : (e a b c : CoreOf ℕ) (cs : CoresOf ℕ) → kids_of e ≡ Cores a (Cores b (Cores c cs)) → is_plain e ≡ true → is_plain c ≡ true
third_plain e a b c cs q h = and_left (is_plain c) (are_plain cs) (and_right (is_plain b) (are_plain (Cores c cs)) (others_plain e a (Cores b (Cores c cs)) q h))

sizes : (e : CoreOf ℕ) (kids : CoresOf ℕ) → kids_of e ≡ kids → parts e ≡ suc (all_parts kids)
sizes (Core what of line ks) kids q = ap (λ x. suc (all_parts x)) q

pub first_less : (e a : CoreOf ℕ) (cs : CoresOf ℕ) → kids_of e ≡ Cores a cs → parts a < parts e
first_less e a cs q = omega (arith, sizes e (Cores a cs) q)

pub second_less : (e a b : CoreOf ℕ) (cs : CoresOf ℕ) → kids_of e ≡ Cores a (Cores b cs) → parts b < parts e
second_less e a b cs q = omega (arith, sizes e (Cores a (Cores b cs)) q)

pub third_less : (e a b c : CoreOf ℕ) (cs : CoresOf ℕ) → kids_of e ≡ Cores a (Cores b (Cores c cs)) → parts c < parts e
third_less e a b c cs q = omega (arith, sizes e (Cores a (Cores b (Cores c cs))) q)

-- the element at a place, and those behind it
pub behind : (xs : List (CoreOf ℕ)) (i : ℕ) (x : CoreOf ℕ) → i < length xs → x ≡ get_or xs i x → drop i xs ≡ x ∷ drop (i + 1) xs
behind xs i x l is = drop-cons xs i x l ∙ ap (λ y. y ∷ drop (suc i) xs) (sym is) ∙ ap (λ n. x ∷ drop n xs) (let e : suc i ≡ i + 1 = omega arith in e)

rest_plain : (xs : List (CoreOf ℕ)) (i : ℕ) → are_plain (cores_of xs) ≡ true → are_plain (cores_of (drop i xs)) ≡ true
rest_plain xs zero h = h
rest_plain [] (suc i) h = h
rest_plain (x ∷ xs) (suc i) h = rest_plain xs i (and_right (is_plain x) (are_plain (cores_of xs)) h)

rest_less : (xs : List (CoreOf ℕ)) (i : ℕ) → all_parts (cores_of (drop i xs)) ≤ all_parts (cores_of xs)
rest_less xs zero = omega arith
rest_less [] (suc i) = omega arith
rest_less (x ∷ xs) (suc i) = omega (arith, rest_less xs i)

pub item_plain : (e a : CoreOf ℕ) (xs : List (CoreOf ℕ)) (i : ℕ) (x : CoreOf ℕ) → kids_of e ≡ Cores a (cores_of xs) → is_plain e ≡ true → i < length xs → x ≡ get_or xs i x → is_plain x ≡ true
item_plain e a xs i x q h l is =
    and_left (is_plain x) (are_plain (cores_of (drop (i + 1) xs)))
    (subst (λ ys. are_plain (cores_of ys) ≡ true) (behind xs i x l is) (rest_plain xs i (others_plain e a (cores_of xs) q h)))

pub item_less : (e a : CoreOf ℕ) (xs : List (CoreOf ℕ)) (i : ℕ) (x : CoreOf ℕ) → kids_of e ≡ Cores a (cores_of xs) → i < length xs → x ≡ get_or xs i x → parts x < parts e
item_less e a xs i x q l is =
    let P : List (CoreOf ℕ) → Type 0 = λ ys. all_parts (cores_of ys) ≤ all_parts (cores_of xs) in
    let h : P (x ∷ drop (i + 1) xs) = subst P (behind xs i x l is) (rest_less xs i) in
    omega (arith, sizes e (Cores a (cores_of xs)) q, h)

-- ---- an expression is its row

pub row_is : (s : Setting) (known : ℕ → CType) (e : CoreOf ℕ) (kids : CoresOf ℕ) (k : ℕ) (w : RunWorld) → kids_of e ≡ kids → eval s (seen known e) k w ≡ row s (what_of e) (known (type_of e)) (line_of e) (parts_of s (all_seen known kids)) k w
row_is s known (Core what of line ks) kids k w q = ap (λ x. row s what (known of) line (parts_of s (all_seen known x)) k w) q

parts_count : (s : Setting) (known : ℕ → CType) (kids : CoresOf ℕ) → length (parts_of s (all_seen known kids)) ≡ count kids
parts_count s known NoCore = refl
parts_count s known (Cores c cs) = ap suc (parts_count s known cs)

-- what an expression does
abbrev pub part_of : Setting → (ℕ → CType) → CoreOf ℕ → Part
part_of s known e = record { tree = seen known e; does = λ k w. eval s (seen known e) k w }

abbrev pub does_of : Setting → (ℕ → CType) → CoreOf ℕ → ℕ → RunWorld → Result
does_of s known e k w = eval s (seen known e) k w

abbrev pub uses_of : Setting → (ℕ → CType) → CoreOf ℕ → ℕ → RunWorld → Result
uses_of s known e k w = used (eval s (seen known e) k w)

abbrev pub asks_of : Setting → (ℕ → CType) → CoreOf ℕ → ℕ → ℕ → RunWorld → Result
asks_of s known e line k w = asked (part_of s known e) line k w

-- this part gives that value, and leads to that world
abbrev pub Gave : (ℕ → RunWorld → Result) → World → World → Value → Type 0
Gave does old new v = (k : ℕ) (t : List Event) → does k (shown old t) ≡ Gives v k (shown new t)

-- ---- other parts than a kind has

pub strays : (does : ℕ → RunWorld → Result) (w : World) (line : ℕ) (stop : Stop) → stop ≡ Undefined Outside line → ((k : ℕ) (v : RunWorld) → does k v ≡ stray line v) → Comes does w w (Err stop)
strays does w line stop e h = subst (λ x. Comes does w w (Err x)) (sym e) (λ k t. h k (shown w t))

unlike : (s : Setting) (known : ℕ → CType) (e : CoreOf ℕ) (n : ℕ) → count (kids_of e) ≢ n → length (parts_of s (all_seen known (kids_of e))) ≡ n → ⊥
unlike s known e n h q = h (sym (parts_count s known (kids_of e)) ∙ q)

pub leaf_other : (s : Setting) (known : ℕ → CType) (e a : CoreOf ℕ) (cs : CoresOf ℕ) (k : ℕ) (w : RunWorld) → kids_of e ≡ Cores a cs → shape_of (what_of e) ≡ Leaf → eval s (seen known e) k w ≡ stray (line_of e) w
leaf_other s known e a cs k w q h = row_is s known e (Cores a cs) k w q ∙ leaf_stray s (what_of e) (known (type_of e)) (line_of e) (parts_of s (all_seen known (Cores a cs))) k w h (λ n. absurd (omega (arith, n)))

pub dropped_other : (s : Setting) (known : ℕ → CType) (e : CoreOf ℕ) (k : ℕ) (w : RunWorld) → count (kids_of e) ≢ 1 → shape_of (what_of e) ≡ Dropped → eval s (seen known e) k w ≡ stray (line_of e) w
dropped_other s known e k w n h = row_is s known e (kids_of e) k w refl ∙ dropped_stray s (what_of e) (known (type_of e)) (line_of e) (parts_of s (all_seen known (kids_of e))) k w h (unlike s known e 1 n)

pub unary_other : (s : Setting) (known : ℕ → CType) (e : CoreOf ℕ) (k : ℕ) (w : RunWorld) → count (kids_of e) ≢ 1 → shape_of (what_of e) ≡ Unary → eval s (seen known e) k w ≡ stray (line_of e) w
unary_other s known e k w n h = row_is s known e (kids_of e) k w refl ∙ unary_stray s (what_of e) (known (type_of e)) (line_of e) (parts_of s (all_seen known (kids_of e))) k w h (unlike s known e 1 n)

pub binary_other : (s : Setting) (known : ℕ → CType) (e : CoreOf ℕ) (k : ℕ) (w : RunWorld) → count (kids_of e) ≢ 2 → shape_of (what_of e) ≡ Binary → eval s (seen known e) k w ≡ stray (line_of e) w
binary_other s known e k w n h = row_is s known e (kids_of e) k w refl ∙ binary_stray s (what_of e) (known (type_of e)) (line_of e) (parts_of s (all_seen known (kids_of e))) k w h (unlike s known e 2 n)

pub logical_other : (s : Setting) (known : ℕ → CType) (e : CoreOf ℕ) (k : ℕ) (w : RunWorld) → count (kids_of e) ≢ 2 → shape_of (what_of e) ≡ Logical → eval s (seen known e) k w ≡ stray (line_of e) w
logical_other s known e k w n h = row_is s known e (kids_of e) k w refl ∙ logical_stray s (what_of e) (known (type_of e)) (line_of e) (parts_of s (all_seen known (kids_of e))) k w h (unlike s known e 2 n)

pub conditional_other : (s : Setting) (known : ℕ → CType) (e : CoreOf ℕ) (k : ℕ) (w : RunWorld) → count (kids_of e) ≢ 3 → shape_of (what_of e) ≡ Conditional → eval s (seen known e) k w ≡ stray (line_of e) w
conditional_other s known e k w n h = row_is s known e (kids_of e) k w refl ∙ conditional_stray s (what_of e) (known (type_of e)) (line_of e) (parts_of s (all_seen known (kids_of e))) k w h (unlike s known e 3 n)

pub comma_other : (s : Setting) (known : ℕ → CType) (e : CoreOf ℕ) (k : ℕ) (w : RunWorld) → kids_of e ≡ NoCore → shape_of (what_of e) ≡ Comma → eval s (seen known e) k w ≡ stray (line_of e) w
comma_other s known e k w q h = row_is s known e NoCore k w q ∙ comma_stray s (what_of e) (known (type_of e)) (line_of e) k w h

pub no_call : (e : CoreOf ℕ) → is_plain e ≡ true → shape_of (what_of e) ≡ Call → ⊥
no_call (Core what of line ks) h c = never (is_call what) (calls_call what c) (and_left (not (is_call what)) (are_plain ks) h)
  where
    never : (b : Bool) → b ≡ true → not b ≡ true → ⊥
    never true p q = absurd cc
    never false p q = absurd cc

-- ---- leaves

pub leaf_goes : (s : Setting) (known : ℕ → CType) (e : CoreOf ℕ) (old new : World) (r : Checked (Option Value) Stop) → kids_of e ≡ NoCore → Comes (λ k w. row s (what_of e) (known (type_of e)) (line_of e) [] k w) old new r → Comes (does_of s known e) old new r
leaf_goes s known e old new r q c = comes_then (does_of s known e) (λ k w. row s (what_of e) (known (type_of e)) (line_of e) [] k w) old old new r (λ k t. row_is s known e NoCore k (shown old t) q) c

-- ---- one part

dropped_is : (s : Setting) (known : ℕ → CType) (e a : CoreOf ℕ) (k : ℕ) (w : RunWorld) → kids_of e ≡ one a → shape_of (what_of e) ≡ Dropped → eval s (seen known e) k w ≡ then_drop (eval s (seen known a) k w) (λ k1 w1. GivesNone 0 k1 w1)
dropped_is s known e a k w q h = row_is s known e (one a) k w q ∙ dropped_row s (what_of e) (known (type_of e)) (line_of e) (part_of s known a) k w h

pub dropped_stops : (s : Setting) (known : ℕ → CType) (e a : CoreOf ℕ) (old new : World) (r : Checked (Option Value) Stop) (stop : Stop) → kids_of e ≡ one a → shape_of (what_of e) ≡ Dropped → IsErrAnd r (λ y. y ≡ stop) → Comes (does_of s known a) old new (Err stop) → Comes (does_of s known e) old new r
dropped_stops s known e a old new r stop q h i c =
    comes_stops (does_of s known e) (does_of s known a) old old new r stop i (comes_ends (does_of s known a) old new stop c)
    (λ k t how w x. dropped_is s known e a k (shown old t) q h ∙ ap (λ y. then_drop y (λ k1 w1. GivesNone 0 k1 w1)) x)

none_given : (v : Option Value) (k : ℕ) (w : RunWorld) → then_drop (gave v k w) (λ k1 w1. GivesNone 0 k1 w1) ≡ GivesNone 0 k w
none_given (Some v) k w = refl
none_given None k w = refl

pub dropped_goes : (s : Setting) (known : ℕ → CType) (e a : CoreOf ℕ) (old new : World) (v : Option Value) → kids_of e ≡ one a → shape_of (what_of e) ≡ Dropped → Comes (does_of s known a) old new (Ok v) → Comes (does_of s known e) old new (Ok None)
dropped_goes s known e a old new v q h c = λ k t. dropped_is s known e a k (shown old t) q h ∙ ap (λ y. then_drop y (λ k1 w1. GivesNone 0 k1 w1)) (c k t) ∙ none_given v k (shown new t)

unary_is : (s : Setting) (known : ℕ → CType) (e a : CoreOf ℕ) (k : ℕ) (w : RunWorld) → kids_of e ≡ one a → shape_of (what_of e) ≡ Unary → eval s (seen known e) k w ≡ then_give (eval s (seen known a) k w) (λ v k1 w1. row s (what_of e) (known (type_of e)) (line_of e) (giving (seen known a) v ∷ []) k1 w1)
unary_is s known e a k w q h = row_is s known e (one a) k w q ∙ unary_row s (what_of e) (known (type_of e)) (line_of e) (part_of s known a) k w h

pub unary_stops : (s : Setting) (known : ℕ → CType) (e a : CoreOf ℕ) (old new : World) (r : Checked (Option Value) Stop) (stop : Stop) → kids_of e ≡ one a → shape_of (what_of e) ≡ Unary → IsErrAnd r (λ y. y ≡ stop) → Gets (uses_of s known a) old new (Err stop) → Comes (does_of s known e) old new r
unary_stops s known e a old new r stop q h i g =
    comes_stops (does_of s known e) (uses_of s known a) old old new r stop i g
    (λ k t how w x. unary_is s known e a k (shown old t) q h ∙ used_ends (eval s (seen known a) k (shown old t)) how w (λ v k1 w1. row s (what_of e) (known (type_of e)) (line_of e) (giving (seen known a) v ∷ []) k1 w1) x)

pub unary_goes : (s : Setting) (known : ℕ → CType) (e a : CoreOf ℕ) (old mid new : World) (v : Value) (r : Checked (Option Value) Stop) → kids_of e ≡ one a → shape_of (what_of e) ≡ Unary → Gave (uses_of s known a) old mid v → Comes (λ k w. row s (what_of e) (known (type_of e)) (line_of e) (giving (seen known a) v ∷ []) k w) mid new r → Comes (does_of s known e) old new r
unary_goes s known e a old mid new v r q h g c =
    comes_then (does_of s known e) (λ k w. row s (what_of e) (known (type_of e)) (line_of e) (giving (seen known a) v ∷ []) k w) old mid new r
    (λ k t. unary_is s known e a k (shown old t) q h ∙ given_on (eval s (seen known a) k (shown old t)) v k (shown mid t) (λ u k1 w1. row s (what_of e) (known (type_of e)) (line_of e) (giving (seen known a) u ∷ []) k1 w1) (g k t))
    c

-- ---- two parts

binary_is : (s : Setting) (known : ℕ → CType) (e a b : CoreOf ℕ) (k : ℕ) (w : RunWorld) → kids_of e ≡ two a b → shape_of (what_of e) ≡ Binary → eval s (seen known e) k w ≡ then_give (eval s (seen known a) k w) (λ v k1 w1. row s (what_of e) (known (type_of e)) (line_of e) (giving (seen known a) v ∷ part_of s known b ∷ []) k1 w1)
binary_is s known e a b k w q h = row_is s known e (two a b) k w q ∙ binary_row s (what_of e) (known (type_of e)) (line_of e) (part_of s known a) (part_of s known b) k w h

second_is : (s : Setting) (known : ℕ → CType) (e a b : CoreOf ℕ) (v : Value) (old mid : World) (k : ℕ) (t : List Event) → kids_of e ≡ two a b → shape_of (what_of e) ≡ Binary → Gave (uses_of s known a) old mid v → eval s (seen known e) k (shown old t) ≡ then_give (eval s (seen known b) k (shown mid t)) (λ u k1 w1. row s (what_of e) (known (type_of e)) (line_of e) (giving (seen known a) v ∷ giving (seen known b) u ∷ []) k1 w1)
second_is s known e a b v old mid k t q h g =
    binary_is s known e a b k (shown old t) q h
    ∙ given_on (eval s (seen known a) k (shown old t)) v k (shown mid t) (λ u k1 w1. row s (what_of e) (known (type_of e)) (line_of e) (giving (seen known a) u ∷ part_of s known b ∷ []) k1 w1) (g k t)
    ∙ second_row s (what_of e) (known (type_of e)) (line_of e) (part_of s known a) (part_of s known b) v k (shown mid t) h

pub binary_stops : (s : Setting) (known : ℕ → CType) (e a b : CoreOf ℕ) (old new : World) (r : Checked (Option Value) Stop) (stop : Stop) → kids_of e ≡ two a b → shape_of (what_of e) ≡ Binary → IsErrAnd r (λ y. y ≡ stop) → Gets (uses_of s known a) old new (Err stop) → Comes (does_of s known e) old new r
binary_stops s known e a b old new r stop q h i g =
    comes_stops (does_of s known e) (uses_of s known a) old old new r stop i g
    (λ k t how w x. binary_is s known e a b k (shown old t) q h ∙ used_ends (eval s (seen known a) k (shown old t)) how w (λ v k1 w1. row s (what_of e) (known (type_of e)) (line_of e) (giving (seen known a) v ∷ part_of s known b ∷ []) k1 w1) x)

pub second_stops : (s : Setting) (known : ℕ → CType) (e a b : CoreOf ℕ) (old mid new : World) (v : Value) (r : Checked (Option Value) Stop) (stop : Stop) → kids_of e ≡ two a b → shape_of (what_of e) ≡ Binary → Gave (uses_of s known a) old mid v → IsErrAnd r (λ y. y ≡ stop) → Gets (uses_of s known b) mid new (Err stop) → Comes (does_of s known e) old new r
second_stops s known e a b old mid new v r stop q h g i c =
    comes_stops (does_of s known e) (uses_of s known b) old mid new r stop i c
    (λ k t how w x. second_is s known e a b v old mid k t q h g ∙ used_ends (eval s (seen known b) k (shown mid t)) how w (λ u k1 w1. row s (what_of e) (known (type_of e)) (line_of e) (giving (seen known a) v ∷ giving (seen known b) u ∷ []) k1 w1) x)

pub binary_goes : (s : Setting) (known : ℕ → CType) (e a b : CoreOf ℕ) (old mid last new : World) (v u : Value) (r : Checked (Option Value) Stop) → kids_of e ≡ two a b → shape_of (what_of e) ≡ Binary → Gave (uses_of s known a) old mid v → Gave (uses_of s known b) mid last u → Comes (λ k w. row s (what_of e) (known (type_of e)) (line_of e) (giving (seen known a) v ∷ giving (seen known b) u ∷ []) k w) last new r → Comes (does_of s known e) old new r
binary_goes s known e a b old mid last new v u r q h g i c =
    comes_then (does_of s known e) (λ k w. row s (what_of e) (known (type_of e)) (line_of e) (giving (seen known a) v ∷ giving (seen known b) u ∷ []) k w) old last new r
    (λ k t. second_is s known e a b v old mid k t q h g ∙ given_on (eval s (seen known b) k (shown mid t)) u k (shown last t) (λ x k1 w1. row s (what_of e) (known (type_of e)) (line_of e) (giving (seen known a) v ∷ giving (seen known b) x ∷ []) k1 w1) (i k t))
    c
