-- Expressions part by part: what comes of the first, and then of the others.
use Rattle.std.specs.Prelude.{◌≡◌, ◌≤◌, ◌<◌, ℕ, true, false, List, [], ◌∷◌, length, refl}
use Rattle.std.proofs.Common.{sym, ap, ◌∙◌, arith}
use Rattle.objects.specs.declared.value.Value.{Value}
use Rattle.c_acts.specs.Kinds.{is_call}
use Rattle.c_acts.specs.declared.shape.Shape.TheVariants.{Unary, Binary, Logical}
use Rattle.c_acts.specs.Shapes.{shape_of}
use Rattle.c_types.specs.CType.{CType}
use Rattle.c_meaning.specs.declared.core_expr.CoreKind.{CoreKind}
use Rattle.c_meaning.specs.declared.core_expr.CoreKind.TheVariants as kind
use Rattle.c_meaning.specs.declared.core_expr.Conversion.TheVariants as to
use Rattle.c_meaning.specs.CoreTrees.{CoreOf, Core, CoresOf, NoCore, Cores, all_seen, kids_of, line_of, one, two, type_of, what_of}
use Rattle.c_meaning.specs.Values.{CoreTree}
use Rattle.c_runs.specs.Calls.{Setting}
use Rattle.c_runs.specs.Expressions.{Part, asked, eval, parts_of, row}
use Rattle.c_runs.specs.Outcomes.{Gives, Ends, branch, stray, then_give, then_drop, truth}
use Rattle.c_runs.specs.Worlds.{World}
use Rattle.c_worlds.specs.declared.program.Program.{Program}
use Rattle.c_worlds.specs.Programs.{known, tree, trees}
use Rattle.c_worlds.specs.Shown.{giving}
use Rattle.c_eval.specs.Forms.{fits, has_two}
use Rattle.c_eval.specs.declared.frame.Frame.{Frame}
use Rattle.c_eval.specs.declared.frame.Frame.TheVariants as on
use Rattle.c_eval.specs.Ends.{OfExpression}
use Rattle.c_eval.specs.States.{ends, own}
use Rattle.c_eval.specs.Stacks.{comma_of, first_from, right_from, second_from}

-- ---- kinds

pub no_call_unary : (what : CoreKind) → shape_of what ≡ Unary → is_call what ≡ false
no_call_unary (kind.Call n) h = absurd cc
no_call_unary what h = refl

-- ---- parts as they are evaluated

abbrev pub part : Setting → CoreTree → Part
part s c = record { tree = c; does = λ k w. eval s c k w }

-- ---- no parts, and parts in order

pub leaf_eval : (s : Setting) (p : Program) (e : CoreOf ℕ) (k : ℕ) (w : World) → kids_of e ≡ NoCore → row s (what_of e) (known p (type_of e)) (line_of e) [] k w ≡ eval s (tree p e) k w
leaf_eval s p (Core what of line kids) k w q = rw q refl

-- ---- the first part gave a value

pub unary_given : (s : Setting) (p : Program) (e a : CoreOf ℕ) (v : Value) (k : ℕ) (w : World) → shape_of (what_of e) ≡ Unary → kids_of e ≡ one a → row s (what_of e) (known p (type_of e)) (line_of e) (giving (tree p a) v ∷ []) k w ≡ first_from s (tree p e) (Gives v k w)
unary_given s p (Core what of line kids) a v k w h q = rw (h, q) refl

-- ---- `&&` and `||`

-- it ends where its left part's test ends
logical_end_row : (s : Setting) (what : CoreKind) (of : CType) (line : ℕ) (a b : Part) (k : ℕ) (w x : World) (how : _) → shape_of what ≡ Logical → asked a line k w ≡ Ends how x → row s what of line (a ∷ b ∷ []) k w ≡ Ends how x
logical_end_row s kind.And of line a b k w x how h g = ap (λ r. then_give r (λ v k1 w1. branch v (λ k2 w2. asked b line k2 w2) (λ k2 w2. Gives (truth false) k2 w2) k1 w1)) g
logical_end_row s kind.Or of line a b k w x how h g = ap (λ r. then_give r (λ v k1 w1. branch v (λ k2 w2. Gives (truth true) k2 w2) (λ k2 w2. asked b line k2 w2) k1 w1)) g
logical_end_row s (kind.Convert to.Void) of line a b k w x how h g = absurd cc
logical_end_row s (kind.Convert to.Pointer) of line a b k w x how h g = absurd cc
logical_end_row s (kind.Convert (to.Integer y)) of line a b k w x how h g = absurd cc
logical_end_row s what of line a b k w x how h g = absurd cc

pub logical_ends : (s : Setting) (p : Program) (e a b : CoreOf ℕ) (v : Value) (k : ℕ) (w x : World) (how : _) → shape_of (what_of e) ≡ Logical → kids_of e ≡ two a b → asked (giving (tree p a) v) (line_of e) k w ≡ Ends how x → first_from s (tree p e) (Gives v k w) ≡ Ends how x
logical_ends s p (Core what of line kids) a b v k w x how h q g = rw (h, q) (logical_end_row s what (known p of) line (giving (tree p a) v) (part s (tree p b)) k w x how h g)

-- ---- the second part gave a value

pub second_given : (s : Setting) (p : Program) (e a b : CoreOf ℕ) (v u : Value) (k : ℕ) (w : World) → shape_of (what_of e) ≡ Binary → kids_of e ≡ two a b → row s (what_of e) (known p (type_of e)) (line_of e) (giving (tree p a) v ∷ giving (tree p b) u ∷ []) k w ≡ second_from s (tree p e) v (Gives u k w)
second_given s p (Core what of line kids) a b v u k w h q = rw (h, q) refl

-- ---- other parts than a kind has
stray_row : (s : Setting) (p : Program) (what : CoreKind) (of : CType) (line : ℕ) (kids : CoresOf ℕ) (k : ℕ) (w : World) → fits (shape_of what) kids ≡ false → stray line w ≡ row s what of line (parts_of s (all_seen (known p) kids)) k w
stray_row s p (kind.Local n register) of line NoCore k w h = absurd cc
stray_row s p (kind.Local n register) of line (Cores a ks) k w h = refl
stray_row s p (kind.Object n) of line NoCore k w h = absurd cc
stray_row s p (kind.Object n) of line (Cores a ks) k w h = refl
stray_row s p (kind.Text n) of line NoCore k w h = absurd cc
stray_row s p (kind.Text n) of line (Cores a ks) k w h = refl
stray_row s p (kind.Literal bytes) of line NoCore k w h = absurd cc
stray_row s p (kind.Literal bytes) of line (Cores a ks) k w h = refl
stray_row s p (kind.Symbol id) of line NoCore k w h = absurd cc
stray_row s p (kind.Symbol id) of line (Cores a ks) k w h = refl
stray_row s p (kind.Function n) of line NoCore k w h = absurd cc
stray_row s p (kind.Function n) of line (Cores a ks) k w h = refl
stray_row s p (kind.BuiltIn b) of line NoCore k w h = absurd cc
stray_row s p (kind.BuiltIn b) of line (Cores a ks) k w h = refl
stray_row s p (kind.Number n) of line NoCore k w h = absurd cc
stray_row s p (kind.Number n) of line (Cores a ks) k w h = refl
stray_row s p (kind.Convert to.Void) of line NoCore k w h = refl
stray_row s p (kind.Convert to.Void) of line (Cores a NoCore) k w h = absurd cc
stray_row s p (kind.Convert to.Void) of line (Cores a (Cores b ks)) k w h = refl
stray_row s p (kind.Convert to.Pointer) of line NoCore k w h = refl
stray_row s p (kind.Convert to.Pointer) of line (Cores a NoCore) k w h = absurd cc
stray_row s p (kind.Convert to.Pointer) of line (Cores a (Cores b ks)) k w h = refl
stray_row s p (kind.Convert (to.Integer x)) of line NoCore k w h = refl
stray_row s p (kind.Convert (to.Integer x)) of line (Cores a NoCore) k w h = absurd cc
stray_row s p (kind.Convert (to.Integer x)) of line (Cores a (Cores b ks)) k w h = refl
stray_row s p kind.Pointed of line NoCore k w h = refl
stray_row s p kind.Pointed of line (Cores a NoCore) k w h = absurd cc
stray_row s p kind.Pointed of line (Cores a (Cores b ks)) k w h = refl
stray_row s p (kind.Member offset first width) of line NoCore k w h = refl
stray_row s p (kind.Member offset first width) of line (Cores a NoCore) k w h = absurd cc
stray_row s p (kind.Member offset first width) of line (Cores a (Cores b ks)) k w h = refl
stray_row s p kind.Read of line NoCore k w h = refl
stray_row s p kind.Read of line (Cores a NoCore) k w h = absurd cc
stray_row s p kind.Read of line (Cores a (Cores b ks)) k w h = refl
stray_row s p kind.Address of line NoCore k w h = refl
stray_row s p kind.Address of line (Cores a NoCore) k w h = absurd cc
stray_row s p kind.Address of line (Cores a (Cores b ks)) k w h = refl
stray_row s p kind.First of line NoCore k w h = refl
stray_row s p kind.First of line (Cores a NoCore) k w h = absurd cc
stray_row s p kind.First of line (Cores a (Cores b ks)) k w h = refl
stray_row s p (kind.Unary op) of line NoCore k w h = refl
stray_row s p (kind.Unary op) of line (Cores a NoCore) k w h = absurd cc
stray_row s p (kind.Unary op) of line (Cores a (Cores b ks)) k w h = refl
stray_row s p kind.Not of line NoCore k w h = refl
stray_row s p kind.Not of line (Cores a NoCore) k w h = absurd cc
stray_row s p kind.Not of line (Cores a (Cores b ks)) k w h = refl
stray_row s p (kind.Binary op signed) of line NoCore k w h = refl
stray_row s p (kind.Binary op signed) of line (Cores a NoCore) k w h = refl
stray_row s p (kind.Binary op signed) of line (Cores a (Cores b NoCore)) k w h = absurd cc
stray_row s p (kind.Binary op signed) of line (Cores a (Cores b (Cores c ks))) k w h = refl
stray_row s p (kind.Compare op signed) of line NoCore k w h = refl
stray_row s p (kind.Compare op signed) of line (Cores a NoCore) k w h = refl
stray_row s p (kind.Compare op signed) of line (Cores a (Cores b NoCore)) k w h = absurd cc
stray_row s p (kind.Compare op signed) of line (Cores a (Cores b (Cores c ks))) k w h = refl
stray_row s p (kind.Move size back) of line NoCore k w h = refl
stray_row s p (kind.Move size back) of line (Cores a NoCore) k w h = refl
stray_row s p (kind.Move size back) of line (Cores a (Cores b NoCore)) k w h = absurd cc
stray_row s p (kind.Move size back) of line (Cores a (Cores b (Cores c ks))) k w h = refl
stray_row s p (kind.Difference size) of line NoCore k w h = refl
stray_row s p (kind.Difference size) of line (Cores a NoCore) k w h = refl
stray_row s p (kind.Difference size) of line (Cores a (Cores b NoCore)) k w h = absurd cc
stray_row s p (kind.Difference size) of line (Cores a (Cores b (Cores c ks))) k w h = refl
stray_row s p kind.Assign of line NoCore k w h = refl
stray_row s p kind.Assign of line (Cores a NoCore) k w h = refl
stray_row s p kind.Assign of line (Cores a (Cores b NoCore)) k w h = absurd cc
stray_row s p kind.Assign of line (Cores a (Cores b (Cores c ks))) k w h = refl
stray_row s p (kind.Change by) of line NoCore k w h = refl
stray_row s p (kind.Change by) of line (Cores a NoCore) k w h = refl
stray_row s p (kind.Change by) of line (Cores a (Cores b NoCore)) k w h = absurd cc
stray_row s p (kind.Change by) of line (Cores a (Cores b (Cores c ks))) k w h = refl
stray_row s p (kind.Postfix by) of line NoCore k w h = refl
stray_row s p (kind.Postfix by) of line (Cores a NoCore) k w h = refl
stray_row s p (kind.Postfix by) of line (Cores a (Cores b NoCore)) k w h = absurd cc
stray_row s p (kind.Postfix by) of line (Cores a (Cores b (Cores c ks))) k w h = refl
stray_row s p kind.And of line NoCore k w h = refl
stray_row s p kind.And of line (Cores a NoCore) k w h = refl
stray_row s p kind.And of line (Cores a (Cores b NoCore)) k w h = absurd cc
stray_row s p kind.And of line (Cores a (Cores b (Cores c ks))) k w h = refl
stray_row s p kind.Or of line NoCore k w h = refl
stray_row s p kind.Or of line (Cores a NoCore) k w h = refl
stray_row s p kind.Or of line (Cores a (Cores b NoCore)) k w h = absurd cc
stray_row s p kind.Or of line (Cores a (Cores b (Cores c ks))) k w h = refl
stray_row s p kind.Conditional of line NoCore k w h = refl
stray_row s p kind.Conditional of line (Cores a NoCore) k w h = refl
stray_row s p kind.Conditional of line (Cores a (Cores b NoCore)) k w h = refl
stray_row s p kind.Conditional of line (Cores a (Cores b (Cores c NoCore))) k w h = absurd cc
stray_row s p kind.Conditional of line (Cores a (Cores b (Cores c (Cores d ks)))) k w h = refl
stray_row s p kind.Comma of line NoCore k w h = refl
stray_row s p kind.Comma of line (Cores a cs) k w h = absurd cc
stray_row s p (kind.Call n) of line NoCore k w h = refl
stray_row s p (kind.Call n) of line (Cores a cs) k w h = absurd cc

pub stray_eval : (s : Setting) (p : Program) (e : CoreOf ℕ) (k : ℕ) (w : World) → fits (shape_of (what_of e)) (kids_of e) ≡ false → stray (line_of e) w ≡ eval s (tree p e) k w
stray_eval s p (Core what of line kids) k w h = stray_row s p what (known p of) line kids k w h

-- ---- the right part gave a value

pub right_asked : (p : Program) (e a b : CoreOf ℕ) (v : Value) (line k : ℕ) (w : World) → kids_of e ≡ two a b → line ≡ line_of e → asked (giving (tree p b) v) line k w ≡ right_from (tree p e) (Gives v k w)
right_asked p (Core what of l kids) a b v line k w q h = rw (h, q) refl

pub right_passes : (p : Program) (e : CoreOf ℕ) (v : Value) (k : ℕ) (w : World) → has_two (kids_of e) ≡ false → Gives v k w ≡ right_from (tree p e) (Gives v k w)
right_passes p (Core what of l NoCore) v k w h = refl
right_passes p (Core what of l (Cores a NoCore)) v k w h = refl
right_passes p (Core what of l (Cores a (Cores b NoCore))) v k w h = absurd cc
right_passes p (Core what of l (Cores a (Cores b (Cores c cs)))) v k w h = refl

-- ---- the parts of a comma that are left

comma_splits : (s : Setting) (p : Program) (a : CoreOf ℕ) (cs : List (CoreOf ℕ)) (k : ℕ) (w : World) → 1 ≤ length cs → then_drop (eval s (tree p a) k w) (λ k1 w1. comma_of (parts_of s (trees p cs)) k1 w1) ≡ comma_of (parts_of s (trees p (a ∷ cs))) k w
comma_splits s p a [] k w h = absurd (omega arith)
comma_splits s p a (b ∷ cs) k w h = refl

pub comma_pushed : (p : Program) (below : List Value) (fs gs : List Frame) (a : CoreOf ℕ) (cs : _) (k : ℕ) (w : World) → fs ≡ on.Comma cs ∷ gs → 1 ≤ length cs.now → ends p below fs (OfExpression (eval (own p) (tree p a) k w)) ≡ ends p below gs (OfExpression (comma_of (parts_of (own p) (trees p (a ∷ cs.now))) k w))
comma_pushed p below fs gs a cs k w h l = rw h (ap (λ r. ends p below gs (OfExpression r)) (comma_splits (own p) p a cs.now k w l))

pub no_comma : (s : Setting) (p : Program) (cs : List (CoreOf ℕ)) (k : ℕ) (w : World) → length cs < 1 → stray 0 w ≡ comma_of (parts_of s (trees p cs)) k w
no_comma s p [] k w h = refl
no_comma s p (b ∷ cs) k w h = absurd (omega arith)

-- ---- a `&&` or `||` whose left part's test ends

pub logical_stops : (s : Setting) (p : Program) (e a b : CoreOf ℕ) (v : Value) (line k : ℕ) (w x : World) (how : _) → line ≡ line_of e → shape_of (what_of e) ≡ Logical → kids_of e ≡ two a b → asked (giving (tree p a) v) line k w ≡ Ends how x → first_from s (tree p e) (Gives v k w) ≡ Ends how x
logical_stops s p e a b v line k w x how l h q g = logical_ends s p e a b v k w x how h q (sym (ap (λ n. asked (giving (tree p a) v) n k w) l) ∙ g)
