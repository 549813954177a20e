-- What comes of expressions of which not all parts are evaluated, and of commas.
use Rattle.std.proofs.Common.{◌≡◌, ℕ, ◌+◌, ◌<◌, Bool, true, false, Option, Some, None, List, [], ◌∷◌, length, drop, get_or, refl, ap, sym, ◌∙◌}
use Rattle.std.specs.Prelude.{IsErrAnd, Result as Checked, Ok, Err}
use Rattle.lcc_base.specs.Traces.{Event}
use Rattle.objects.specs.declared.value.Value.{Value}
use Rattle.c_types.specs.CType.{CType}
use Rattle.c_meaning.specs.declared.core_expr.CoreKind.{CoreKind}
use Rattle.c_meaning.specs.declared.core_expr.CoreKind.TheVariants as kind
use Rattle.c_meaning.specs.declared.core_expr.Conversion.TheVariants as to
use Rattle.c_meaning.specs.CoreTrees.{CoreOf, Core, Cores, all_seen, cores_of, kids_of, line_of, three, two, type_of, what_of, seen}
use Rattle.c_meaning.specs.Values.{CoreTree}
use Rattle.c_runs.specs.Calls.{Setting}
use Rattle.c_runs.specs.Expressions.{Part, asked, comma_from, eval, parts_of, row, test}
use Rattle.c_runs.specs.Outcomes.{How, Gives, Ends, then_give, then_drop, branch, truth}
use Rattle.c_runs.specs.Worlds.{World as RunWorld}
use Rattle.c_worlds.specs.declared.stop.Stop.{Stop}
use Rattle.c_worlds.specs.declared.world.World.{World}
use Rattle.c_worlds.specs.Shown.{shown, Comes, Gets, giving}
use Rattle.c_acts.specs.Shapes.{shape_of}
use Rattle.c_acts.specs.Tests.{truth_of}
use Rattle.c_acts.specs.declared.shape.Shape.TheVariants.{Logical, Conditional, Comma}
use Rattle.c_acts.proofs.lemmas.Rows.{conditional_row, comma_row}
use Rattle.c_plain.specs.Plain.{came, settles}
use Rattle.c_plain.proofs.Steps.{asks_of, behind, comes_ends, comes_stops, comes_then, does_of, Gave, gets_then, given_on, part_of, row_is, tells_stops, used_ends, uses_of}

-- ---- tests

pub asked_stops : (s : Setting) (known : ℕ → CType) (e : CoreOf ℕ) (line : ℕ) (old new : World) (r : Checked Bool Stop) (stop : Stop) → IsErrAnd r (λ y. y ≡ stop) → Gets (uses_of s known e) old new (Err stop) → Gets (asks_of s known e line) old new (truth_of r)
asked_stops s known e line old new r stop i g =
    tells_stops (asks_of s known e line) (uses_of s known e) old old new r stop i g
    (λ k t how w x. used_ends (eval s (seen known e) k (shown old t)) how w (λ v k1 w1. asked (giving (seen known e) v) line k1 w1) x)

pub asked_goes : (s : Setting) (known : ℕ → CType) (e : CoreOf ℕ) (line : ℕ) (old mid new : World) (v : Value) (r : Checked Value Stop) → Gave (uses_of s known e) old mid v → Gets (λ k w. asked (giving (seen known e) v) line k w) mid new r → Gets (asks_of s known e line) old new r
asked_goes s known e line old mid new v r g c =
    gets_then (asks_of s known e line) (λ k w. asked (giving (seen known e) v) line k w) old mid new r
    (λ k t. given_on (eval s (seen known e) k (shown old t)) v k (shown mid t) (λ u k1 w1. asked (giving (seen known e) u) line k1 w1) (g k t))
    c

line_seen : (known : ℕ → CType) (e : CoreOf ℕ) → line_of (seen known e) ≡ line_of e
line_seen known (Core what of line kids) = refl

pub test_goes : (s : Setting) (known : ℕ → CType) (e : CoreOf ℕ) (line : ℕ) (old new : World) (r : Checked Value Stop) → line ≡ line_of e → Gets (asks_of s known e line) old new r → Gets (λ k w. test s (seen known e) k w) old new r
test_goes s known e line old new r l c =
    gets_then (λ k w. test s (seen known e) k w) (asks_of s known e line) old old new r
    (λ k t. ap (λ n. asked (part_of s known e) n k (shown old t)) (line_seen known e ∙ sym l))
    c

-- ---- `&&` and `||`

ends_row : (s : Setting) (what : CoreKind) (of : CType) (line : ℕ) (a b : Part) (k : ℕ) (w new : RunWorld) (how : How) → shape_of what ≡ Logical → asked a line k w ≡ Ends how new → row s what of line (a ∷ b ∷ []) k w ≡ Ends how new
ends_row s kind.And of line a b k w new how h e = ap (λ r. then_give r (λ v k1 w1. branch v (λ k2 w2. asked b line k2 w2) (λ k2 w2. Gives (truth false) k2 w2) k1 w1)) e
ends_row s kind.Or of line a b k w new how h e = ap (λ r. then_give r (λ v k1 w1. branch v (λ k2 w2. Gives (truth true) k2 w2) (λ k2 w2. asked b line k2 w2) k1 w1)) e
ends_row s (kind.Convert to.Void) of line a b k w new how h e = absurd cc
ends_row s (kind.Convert to.Pointer) of line a b k w new how h e = absurd cc
ends_row s (kind.Convert (to.Integer x)) of line a b k w new how h e = absurd cc
ends_row s what of line a b k w new how h e = absurd cc

short_row : (s : Setting) (what : CoreKind) (of : CType) (line : ℕ) (a b : Part) (holds : Bool) (k : ℕ) (w new : RunWorld) → shape_of what ≡ Logical → settles what holds ≡ true → asked a line k w ≡ Gives (truth holds) k new → row s what of line (a ∷ b ∷ []) k w ≡ Gives (truth holds) k new
short_row s kind.And of line a b true k w new h q e = absurd cc
short_row s kind.And of line a b false k w new h q e = ap (λ r. then_give r (λ v k1 w1. branch v (λ k2 w2. asked b line k2 w2) (λ k2 w2. Gives (truth false) k2 w2) k1 w1)) e
short_row s kind.Or of line a b true k w new h q e = ap (λ r. then_give r (λ v k1 w1. branch v (λ k2 w2. Gives (truth true) k2 w2) (λ k2 w2. asked b line k2 w2) k1 w1)) e
short_row s kind.Or of line a b false k w new h q e = absurd cc
short_row s (kind.Convert to.Void) of line a b holds k w new h q e = absurd cc
short_row s (kind.Convert to.Pointer) of line a b holds k w new h q e = absurd cc
short_row s (kind.Convert (to.Integer x)) of line a b holds k w new h q e = absurd cc
short_row s what of line a b holds k w new h q e = absurd cc

long_row : (s : Setting) (what : CoreKind) (of : CType) (line : ℕ) (a b : Part) (holds : Bool) (k : ℕ) (w new : RunWorld) → shape_of what ≡ Logical → settles what holds ≡ false → asked a line k w ≡ Gives (truth holds) k new → row s what of line (a ∷ b ∷ []) k w ≡ asked b line k new
long_row s kind.And of line a b true k w new h q e = ap (λ r. then_give r (λ v k1 w1. branch v (λ k2 w2. asked b line k2 w2) (λ k2 w2. Gives (truth false) k2 w2) k1 w1)) e
long_row s kind.And of line a b false k w new h q e = absurd cc
long_row s kind.Or of line a b true k w new h q e = absurd cc
long_row s kind.Or of line a b false k w new h q e = ap (λ r. then_give r (λ v k1 w1. branch v (λ k2 w2. Gives (truth true) k2 w2) (λ k2 w2. asked b line k2 w2) k1 w1)) e
long_row s (kind.Convert to.Void) of line a b holds k w new h q e = absurd cc
long_row s (kind.Convert to.Pointer) of line a b holds k w new h q e = absurd cc
long_row s (kind.Convert (to.Integer x)) of line a b holds k w new h q e = absurd cc
long_row s what of line a b holds k w new h q e = absurd cc

pub logical_stops : (s : Setting) (known : ℕ → CType) (e a b : CoreOf ℕ) (line : ℕ) (old new : World) (r : Checked (Option Value) Stop) (stop : Stop) → kids_of e ≡ two a b → shape_of (what_of e) ≡ Logical → line ≡ line_of e → IsErrAnd r (λ y. y ≡ stop) → Gets (asks_of s known a line) old new (Err stop) → Comes (does_of s known e) old new r
logical_stops s known e a b line old new r stop q h l i g =
    comes_stops (does_of s known e) (asks_of s known a line) old old new r stop i g
    (λ k t how w x. row_is s known e (two a b) k (shown old t) q ∙ ends_row s (what_of e) (known (type_of e)) (line_of e) (part_of s known a) (part_of s known b) k (shown old t) w how h (ap (λ n. asked (part_of s known a) n k (shown old t)) (sym l) ∙ x))

pub logical_short : (s : Setting) (known : ℕ → CType) (e a b : CoreOf ℕ) (line : ℕ) (holds : Bool) (old new : World) (v : Value) → kids_of e ≡ two a b → shape_of (what_of e) ≡ Logical → line ≡ line_of e → settles (what_of e) holds ≡ true → v ≡ truth holds → Gave (asks_of s known a line) old new (truth holds) → Comes (does_of s known e) old new (Ok (Some v))
logical_short s known e a b line holds old new v q h l d is g = λ k t.
    row_is s known e (two a b) k (shown old t) q
    ∙ short_row s (what_of e) (known (type_of e)) (line_of e) (part_of s known a) (part_of s known b) holds k (shown old t) (shown new t) h d (ap (λ n. asked (part_of s known a) n k (shown old t)) (sym l) ∙ g k t)
    ∙ ap (λ u. Gives u k (shown new t)) (sym is)

right_is : (s : Setting) (known : ℕ → CType) (e a b : CoreOf ℕ) (line : ℕ) (holds : Bool) (old mid : World) (k : ℕ) (t : List Event) → kids_of e ≡ two a b → shape_of (what_of e) ≡ Logical → line ≡ line_of e → settles (what_of e) holds ≡ false → Gave (asks_of s known a line) old mid (truth holds) → eval s (seen known e) k (shown old t) ≡ asked (part_of s known b) line k (shown mid t)
right_is s known e a b line holds old mid k t q h l d g =
    row_is s known e (two a b) k (shown old t) q
    ∙ long_row s (what_of e) (known (type_of e)) (line_of e) (part_of s known a) (part_of s known b) holds k (shown old t) (shown mid t) h d (ap (λ n. asked (part_of s known a) n k (shown old t)) (sym l) ∙ g k t)
    ∙ ap (λ n. asked (part_of s known b) n k (shown mid t)) (sym l)

pub right_stops : (s : Setting) (known : ℕ → CType) (e a b : CoreOf ℕ) (line : ℕ) (holds : Bool) (old mid new : World) (r : Checked (Option Value) Stop) (stop : Stop) → kids_of e ≡ two a b → shape_of (what_of e) ≡ Logical → line ≡ line_of e → settles (what_of e) holds ≡ false → Gave (asks_of s known a line) old mid (truth holds) → IsErrAnd r (λ y. y ≡ stop) → Gets (asks_of s known b line) mid new (Err stop) → Comes (does_of s known e) old new r
right_stops s known e a b line holds old mid new r stop q h l d g i c =
    comes_stops (does_of s known e) (asks_of s known b line) old mid new r stop i c
    (λ k t how w x. right_is s known e a b line holds old mid k t q h l d g ∙ x)

pub logical_long : (s : Setting) (known : ℕ → CType) (e a b : CoreOf ℕ) (line : ℕ) (holds so : Bool) (old mid new : World) (v : Value) → kids_of e ≡ two a b → shape_of (what_of e) ≡ Logical → line ≡ line_of e → settles (what_of e) holds ≡ false → Gave (asks_of s known a line) old mid (truth holds) → v ≡ truth so → Gave (asks_of s known b line) mid new (truth so) → Comes (does_of s known e) old new (Ok (Some v))
logical_long s known e a b line holds so old mid new v q h l d g is c = λ k t.
    right_is s known e a b line holds old mid k t q h l d g ∙ c k t ∙ ap (λ u. Gives u k (shown new t)) (sym is)

-- ---- `a ? b : c`

conditional_is : (s : Setting) (known : ℕ → CType) (e a b c : CoreOf ℕ) (line : ℕ) (k : ℕ) (w : RunWorld) → kids_of e ≡ three a b c → shape_of (what_of e) ≡ Conditional → line ≡ line_of a → eval s (seen known e) k w ≡ then_give (asked (part_of s known a) line k w) (λ v k1 w1. branch v (λ k2 w2. eval s (seen known b) k2 w2) (λ k2 w2. eval s (seen known c) k2 w2) k1 w1)
conditional_is s known e a b c line k w q h l =
    row_is s known e (three a b c) k w q
    ∙ conditional_row s (what_of e) (known (type_of e)) (line_of e) (part_of s known a) (part_of s known b) (part_of s known c) k w h
    ∙ ap (λ n. then_give (asked (part_of s known a) n k w) (λ v k1 w1. branch v (λ k2 w2. eval s (seen known b) k2 w2) (λ k2 w2. eval s (seen known c) k2 w2) k1 w1)) (line_seen known a ∙ sym l)

pub conditional_stops : (s : Setting) (known : ℕ → CType) (e a b c : CoreOf ℕ) (line : ℕ) (old new : World) (r : Checked (Option Value) Stop) (stop : Stop) → kids_of e ≡ three a b c → shape_of (what_of e) ≡ Conditional → line ≡ line_of a → IsErrAnd r (λ y. y ≡ stop) → Gets (asks_of s known a line) old new (Err stop) → Comes (does_of s known e) old new r
conditional_stops s known e a b c line old new r stop q h l i g =
    comes_stops (does_of s known e) (asks_of s known a line) old old new r stop i g
    (λ k t how w x. conditional_is s known e a b c line k (shown old t) q h l ∙ ap (λ y. then_give y (λ v k1 w1. branch v (λ k2 w2. eval s (seen known b) k2 w2) (λ k2 w2. eval s (seen known c) k2 w2) k1 w1)) x)

conditional_by : (s : Setting) (known : ℕ → CType) (e a b c : CoreOf ℕ) (line : ℕ) (holds : Bool) (old mid : World) (k : ℕ) (t : List Event) → kids_of e ≡ three a b c → shape_of (what_of e) ≡ Conditional → line ≡ line_of a → Gave (asks_of s known a line) old mid (truth holds) → eval s (seen known e) k (shown old t) ≡ branch (truth holds) (λ k2 w2. eval s (seen known b) k2 w2) (λ k2 w2. eval s (seen known c) k2 w2) k (shown mid t)
conditional_by s known e a b c line holds old mid k t q h l g =
    conditional_is s known e a b c line k (shown old t) q h l
    ∙ ap (λ y. then_give y (λ v k1 w1. branch v (λ k2 w2. eval s (seen known b) k2 w2) (λ k2 w2. eval s (seen known c) k2 w2) k1 w1)) (g k t)

pub conditional_yes : (s : Setting) (known : ℕ → CType) (e a b c : CoreOf ℕ) (line : ℕ) (holds : Bool) (old mid new : World) (r : Checked (Option Value) Stop) → kids_of e ≡ three a b c → shape_of (what_of e) ≡ Conditional → line ≡ line_of a → holds ≡ true → Gave (asks_of s known a line) old mid (truth holds) → Comes (does_of s known b) mid new r → Comes (does_of s known e) old new r
conditional_yes s known e a b c line true old mid new r q h l d g x = comes_then (does_of s known e) (does_of s known b) old mid new r (λ k t. conditional_by s known e a b c line true old mid k t q h l g) x
conditional_yes s known e a b c line false old mid new r q h l d g x = absurd cc

pub conditional_no : (s : Setting) (known : ℕ → CType) (e a b c : CoreOf ℕ) (line : ℕ) (holds : Bool) (old mid new : World) (r : Checked (Option Value) Stop) → kids_of e ≡ three a b c → shape_of (what_of e) ≡ Conditional → line ≡ line_of a → holds ≡ false → Gave (asks_of s known a line) old mid (truth holds) → Comes (does_of s known c) mid new r → Comes (does_of s known e) old new r
conditional_no s known e a b c line true old mid new r q h l d g x = absurd cc
conditional_no s known e a b c line false old mid new r q h l d g x = comes_then (does_of s known e) (does_of s known c) old mid new r (λ k t. conditional_by s known e a b c line false old mid k t q h l g) x

-- ---- commas

comma_alike : (a b : Part) (ps : List Part) (k : ℕ) (w v : RunWorld) → a.does k w ≡ b.does k v → comma_from a ps k w ≡ comma_from b ps k v
comma_alike a b [] k w v e = e
comma_alike a b (p ∷ ps) k w v e = ap (λ r. then_drop r (λ k1 w1. comma_from p ps k1 w1)) e

comma_ends : (a : Part) (ps : List Part) (k : ℕ) (w v : RunWorld) (how : How) → a.does k w ≡ Ends how v → comma_from a ps k w ≡ Ends how v
comma_ends a [] k w v how e = e
comma_ends a (p ∷ ps) k w v how e = ap (λ r. then_drop r (λ k1 w1. comma_from p ps k1 w1)) e

comma_next : (c : CoreTree) (v : Option Value) (p : Part) (ps : List Part) (k : ℕ) (w : RunWorld) → comma_from (came c v) (p ∷ ps) k w ≡ comma_from p ps k w
comma_next c (Some v) p ps k w = refl
comma_next c None p ps k w = refl

comma_is : (s : Setting) (known : ℕ → CType) (e a : CoreOf ℕ) (cs : List (CoreOf ℕ)) (k : ℕ) (w : RunWorld) → kids_of e ≡ Cores a (cores_of cs) → shape_of (what_of e) ≡ Comma → eval s (seen known e) k w ≡ comma_from (part_of s known a) (parts_of s (all_seen known (cores_of cs))) k w
comma_is s known e a cs k w q h = row_is s known e (Cores a (cores_of cs)) k w q ∙ comma_row s (what_of e) (known (type_of e)) (line_of e) (part_of s known a) (parts_of s (all_seen known (cores_of cs))) k w h

pub comma_stops : (s : Setting) (known : ℕ → CType) (e a : CoreOf ℕ) (cs : List (CoreOf ℕ)) (old new : World) (r : Checked (Option Value) Stop) (stop : Stop) → kids_of e ≡ Cores a (cores_of cs) → shape_of (what_of e) ≡ Comma → IsErrAnd r (λ y. y ≡ stop) → Comes (does_of s known a) old new (Err stop) → Comes (does_of s known e) old new r
comma_stops s known e a cs old new r stop q h i c =
    comes_stops (does_of s known e) (does_of s known a) old old new r stop i (comes_ends (does_of s known a) old new stop c)
    (λ k t how w x. comma_is s known e a cs k (shown old t) q h ∙ comma_ends (part_of s known a) (parts_of s (all_seen known (cores_of cs))) k (shown old t) w how x)

-- what an expression of parts comes to, by what one of them came to and those that are left
abbrev pub IsLeft : Setting → (ℕ → CType) → CoreOf ℕ → List (CoreOf ℕ) → World → World → Option Value → Type 0
IsLeft s known e left old new v = (k : ℕ) (t : List Event) → eval s (seen known e) k (shown old t) ≡ comma_from (came (seen known e) v) (parts_of s (all_seen known (cores_of left))) k (shown new t)

pub comma_begins : (s : Setting) (known : ℕ → CType) (e a : CoreOf ℕ) (cs : List (CoreOf ℕ)) (old new : World) (v : Option Value) → kids_of e ≡ Cores a (cores_of cs) → shape_of (what_of e) ≡ Comma → Comes (does_of s known a) old new (Ok v) → IsLeft s known e cs old new v
comma_begins s known e a cs old new v q h c = λ k t. comma_is s known e a cs k (shown old t) q h ∙ comma_alike (part_of s known a) (came (seen known e) v) (parts_of s (all_seen known (cores_of cs))) k (shown old t) (shown new t) (c k t)

next_is : (s : Setting) (known : ℕ → CType) (e x : CoreOf ℕ) (cs : List (CoreOf ℕ)) (i : ℕ) (old mid : World) (v : Option Value) (k : ℕ) (t : List Event) → i < length cs → x ≡ get_or cs i x → IsLeft s known e (drop i cs) old mid v → eval s (seen known e) k (shown old t) ≡ comma_from (part_of s known x) (parts_of s (all_seen known (cores_of (drop (i + 1) cs)))) k (shown mid t)
next_is s known e x cs i old mid v k t l is c =
    c k t
    ∙ ap (λ ys. comma_from (came (seen known e) v) (parts_of s (all_seen known (cores_of ys))) k (shown mid t)) (behind cs i x l is)
    ∙ comma_next (seen known e) v (part_of s known x) (parts_of s (all_seen known (cores_of (drop (i + 1) cs)))) k (shown mid t)

pub next_stops : (s : Setting) (known : ℕ → CType) (e x : CoreOf ℕ) (cs : List (CoreOf ℕ)) (i : ℕ) (old mid new : World) (v : Option Value) (r : Checked (Option Value) Stop) (stop : Stop) → i < length cs → x ≡ get_or cs i x → IsLeft s known e (drop i cs) old mid v → IsErrAnd r (λ y. y ≡ stop) → Comes (does_of s known x) mid new (Err stop) → Comes (does_of s known e) old new r
next_stops s known e x cs i old mid new v r stop l is c j d =
    comes_stops (does_of s known e) (does_of s known x) old mid new r stop j (comes_ends (does_of s known x) mid new stop d)
    (λ k t how w y. next_is s known e x cs i old mid v k t l is c ∙ comma_ends (part_of s known x) (parts_of s (all_seen known (cores_of (drop (i + 1) cs)))) k (shown mid t) w how y)

pub comma_goes_on : (s : Setting) (known : ℕ → CType) (e x : CoreOf ℕ) (cs : List (CoreOf ℕ)) (i : ℕ) (old mid new : World) (v u : Option Value) → i < length cs → x ≡ get_or cs i x → IsLeft s known e (drop i cs) old mid v → Comes (does_of s known x) mid new (Ok u) → IsLeft s known e (drop (i + 1) cs) old new u
comma_goes_on s known e x cs i old mid new v u l is c d = λ k t.
    next_is s known e x cs i old mid v k t l is c ∙ comma_alike (part_of s known x) (came (seen known e) u) (parts_of s (all_seen known (cores_of (drop (i + 1) cs)))) k (shown mid t) (shown new t) (d k t)

pub comma_is_done : (s : Setting) (known : ℕ → CType) (e : CoreOf ℕ) (left : List (CoreOf ℕ)) (old new : World) (v : Option Value) → left ≡ [] → IsLeft s known e left old new v → Comes (does_of s known e) old new (Ok v)
comma_is_done s known e left old new v n c = λ k t. c k t ∙ ap (λ ys. comma_from (came (seen known e) v) (parts_of s (all_seen known (cores_of ys))) k (shown new t)) n
