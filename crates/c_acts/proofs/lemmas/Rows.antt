-- How the rows of expressions begin: with their first part, and then the next one. Each holds in any setting, whatever the
-- parts do.
use Rattle.std.specs.Prelude.{◌≡◌, refl, ℕ, true, List, [], ◌∷◌, length}
use Rattle.std.proofs.Common.{ap, ◌∙◌}
use Rattle.objects.specs.declared.value.Value.{Value}
use Rattle.c_types.specs.CType.{CType}
use Rattle.c_meaning.specs.declared.core_expr.CoreKind.{CoreKind}
use Rattle.c_meaning.specs.declared.core_expr.CoreKind.TheVariants as kind
use Rattle.c_meaning.specs.declared.core_expr.Conversion.TheVariants as to
use Rattle.c_meaning.specs.CoreTrees.{line_of}
use Rattle.c_runs.specs.Calls.{Setting}
use Rattle.c_runs.specs.Expressions.{Part, row, asked, comma_from}
use Rattle.c_runs.specs.Outcomes.{Result, Gives, GivesNone, Ends, stray, then_give, then_drop, branch}
use Rattle.c_runs.specs.Worlds.{World}
use Rattle.c_worlds.specs.Shown.{giving}
use Rattle.c_acts.specs.declared.shape.Shape.TheVariants.{Leaf, Dropped, Unary, Binary, Logical, Conditional, Comma, Call}
use Rattle.c_acts.specs.Kinds.{is_call}
use Rattle.c_acts.specs.Shapes.{shape_of}

-- ---- results handed on

pub give_again : (r : Result) (f g : Value → ℕ → World → Result) → then_give (then_give r f) g ≡ then_give r (λ v k w. then_give (f v k w) g)
give_again (Gives v k w) f g = refl
give_again (GivesNone line k w) f g = refl
give_again (Ends how w) f g = refl

-- ---- one part

-- a row of one part begins with what that comes to
pub unary_row : (s : Setting) (what : CoreKind) (of : CType) (line : ℕ) (a : Part) (k : ℕ) (w : World) → shape_of what ≡ Unary → row s what of line (a ∷ []) k w ≡ then_give (a.does k w) (λ v k1 w1. row s what of line (giving a.tree v ∷ []) k1 w1)
unary_row s kind.Pointed of line a k w h = refl
unary_row s (kind.Member offset first width) of line a k w h = refl
unary_row s kind.Read of line a k w h = refl
unary_row s kind.Address of line a k w h = refl
unary_row s kind.First of line a k w h = refl
unary_row s (kind.Convert to.Void) of line a k w h = absurd cc
unary_row s (kind.Convert to.Pointer) of line a k w h = refl
unary_row s (kind.Convert (to.Integer x)) of line a k w h = refl
unary_row s (kind.Unary op) of line a k w h = refl
unary_row s kind.Not of line a k w h = give_again (a.does k w) _ _ ∙ ap (λ f. then_give (a.does k w) f) refl
unary_row s what of line a k w h = absurd cc

-- one whose part's value isn't used
pub dropped_row : (s : Setting) (what : CoreKind) (of : CType) (line : ℕ) (a : Part) (k : ℕ) (w : World) → shape_of what ≡ Dropped → row s what of line (a ∷ []) k w ≡ then_drop (a.does k w) (λ k1 w1. GivesNone 0 k1 w1)
dropped_row s (kind.Convert to.Void) of line a k w h = refl
dropped_row s what of line a k w h = absurd cc

-- ---- two parts

pub binary_row : (s : Setting) (what : CoreKind) (of : CType) (line : ℕ) (a b : Part) (k : ℕ) (w : World) → shape_of what ≡ Binary → row s what of line (a ∷ b ∷ []) k w ≡ then_give (a.does k w) (λ v k1 w1. row s what of line (giving a.tree v ∷ b ∷ []) k1 w1)
binary_row s (kind.Binary op signed) of line a b k w h = refl
binary_row s (kind.Compare op signed) of line a b k w h = refl
binary_row s (kind.Move size back) of line a b k w h = refl
binary_row s (kind.Difference size) of line a b k w h = refl
binary_row s kind.Assign of line a b k w h = refl
binary_row s (kind.Change by) of line a b k w h = refl
binary_row s (kind.Postfix by) of line a b k w h = refl
binary_row s (kind.Convert to.Void) of line a b k w h = absurd cc
binary_row s (kind.Convert to.Pointer) of line a b k w h = absurd cc
binary_row s (kind.Convert (to.Integer x)) of line a b k w h = absurd cc
binary_row s what of line a b k w h = absurd cc

-- and goes on with the second one
pub second_row : (s : Setting) (what : CoreKind) (of : CType) (line : ℕ) (a b : Part) (v : Value) (k : ℕ) (w : World) → shape_of what ≡ Binary → row s what of line (giving a.tree v ∷ b ∷ []) k w ≡ then_give (b.does k w) (λ u k1 w1. row s what of line (giving a.tree v ∷ giving b.tree u ∷ []) k1 w1)
second_row s (kind.Binary op signed) of line a b v k w h = refl
second_row s (kind.Compare op signed) of line a b v k w h = refl
second_row s (kind.Move size back) of line a b v k w h = refl
second_row s (kind.Difference size) of line a b v k w h = refl
second_row s kind.Assign of line a b v k w h = refl
second_row s (kind.Change by) of line a b v k w h = refl
second_row s (kind.Postfix by) of line a b v k w h = refl
second_row s (kind.Convert to.Void) of line a b v k w h = absurd cc
second_row s (kind.Convert to.Pointer) of line a b v k w h = absurd cc
second_row s (kind.Convert (to.Integer x)) of line a b v k w h = absurd cc
second_row s what of line a b v k w h = absurd cc

-- ---- parts of which not all are evaluated

pub logical_row : (s : Setting) (what : CoreKind) (of : CType) (line : ℕ) (a b : Part) (k : ℕ) (w : World) → shape_of what ≡ Logical → row s what of line (a ∷ b ∷ []) k w ≡ then_give (a.does k w) (λ v k1 w1. row s what of line (giving a.tree v ∷ b ∷ []) k1 w1)
logical_row s kind.And of line a b k w h = give_again (a.does k w) _ _
logical_row s kind.Or of line a b k w h = give_again (a.does k w) _ _
logical_row s (kind.Convert to.Void) of line a b k w h = absurd cc
logical_row s (kind.Convert to.Pointer) of line a b k w h = absurd cc
logical_row s (kind.Convert (to.Integer x)) of line a b k w h = absurd cc
logical_row s what of line a b k w h = absurd cc

pub conditional_row : (s : Setting) (what : CoreKind) (of : CType) (line : ℕ) (a b c : Part) (k : ℕ) (w : World) → shape_of what ≡ Conditional → row s what of line (a ∷ b ∷ c ∷ []) k w ≡ then_give (asked a (line_of a.tree) k w) (λ v k1 w1. branch v b.does c.does k1 w1)
conditional_row s kind.Conditional of line a b c k w h = refl
conditional_row s (kind.Convert to.Void) of line a b c k w h = absurd cc
conditional_row s (kind.Convert to.Pointer) of line a b c k w h = absurd cc
conditional_row s (kind.Convert (to.Integer x)) of line a b c k w h = absurd cc
conditional_row s what of line a b c k w h = absurd cc

pub comma_row : (s : Setting) (what : CoreKind) (of : CType) (line : ℕ) (a : Part) (ps : List Part) (k : ℕ) (w : World) → shape_of what ≡ Comma → row s what of line (a ∷ ps) k w ≡ comma_from a ps k w
comma_row s kind.Comma of line a ps k w h = refl
comma_row s (kind.Convert to.Void) of line a ps k w h = absurd cc
comma_row s (kind.Convert to.Pointer) of line a ps k w h = absurd cc
comma_row s (kind.Convert (to.Integer x)) of line a ps k w h = absurd cc
comma_row s what of line a ps k w h = absurd cc

-- ---- other parts than a kind has

pub leaf_stray : (s : Setting) (what : CoreKind) (of : CType) (line : ℕ) (ps : List Part) (k : ℕ) (w : World) → shape_of what ≡ Leaf → (length ps ≡ 0 → ⊥) → row s what of line ps k w ≡ stray line w
leaf_stray s (kind.Local n register) of line [] k w h e = absurd (e refl)
leaf_stray s (kind.Local n register) of line (a ∷ ps) k w h e = refl
leaf_stray s (kind.Object n) of line [] k w h e = absurd (e refl)
leaf_stray s (kind.Object n) of line (a ∷ ps) k w h e = refl
leaf_stray s (kind.Text n) of line [] k w h e = absurd (e refl)
leaf_stray s (kind.Text n) of line (a ∷ ps) k w h e = refl
leaf_stray s (kind.Literal bytes) of line [] k w h e = absurd (e refl)
leaf_stray s (kind.Literal bytes) of line (a ∷ ps) k w h e = refl
leaf_stray s (kind.Symbol id) of line [] k w h e = absurd (e refl)
leaf_stray s (kind.Symbol id) of line (a ∷ ps) k w h e = refl
leaf_stray s (kind.Function n) of line [] k w h e = absurd (e refl)
leaf_stray s (kind.Function n) of line (a ∷ ps) k w h e = refl
leaf_stray s (kind.BuiltIn f) of line [] k w h e = absurd (e refl)
leaf_stray s (kind.BuiltIn f) of line (a ∷ ps) k w h e = refl
leaf_stray s (kind.Number n) of line [] k w h e = absurd (e refl)
leaf_stray s (kind.Number n) of line (a ∷ ps) k w h e = refl
leaf_stray s (kind.Convert to.Void) of line ps k w h e = absurd cc
leaf_stray s (kind.Convert to.Pointer) of line ps k w h e = absurd cc
leaf_stray s (kind.Convert (to.Integer x)) of line ps k w h e = absurd cc
leaf_stray s what of line ps k w h e = absurd cc

pub dropped_stray : (s : Setting) (what : CoreKind) (of : CType) (line : ℕ) (ps : List Part) (k : ℕ) (w : World) → shape_of what ≡ Dropped → (length ps ≡ 1 → ⊥) → row s what of line ps k w ≡ stray line w
dropped_stray s (kind.Convert to.Void) of line [] k w h e = refl
dropped_stray s (kind.Convert to.Void) of line (a ∷ []) k w h e = absurd (e refl)
dropped_stray s (kind.Convert to.Void) of line (a ∷ b ∷ ps) k w h e = refl
dropped_stray s (kind.Convert to.Pointer) of line ps k w h e = absurd cc
dropped_stray s (kind.Convert (to.Integer x)) of line ps k w h e = absurd cc
dropped_stray s what of line ps k w h e = absurd cc

pub unary_stray : (s : Setting) (what : CoreKind) (of : CType) (line : ℕ) (ps : List Part) (k : ℕ) (w : World) → shape_of what ≡ Unary → (length ps ≡ 1 → ⊥) → row s what of line ps k w ≡ stray line w
unary_stray s kind.Pointed of line [] k w h e = refl
unary_stray s kind.Pointed of line (a ∷ []) k w h e = absurd (e refl)
unary_stray s kind.Pointed of line (a ∷ b ∷ ps) k w h e = refl
unary_stray s (kind.Member offset first width) of line [] k w h e = refl
unary_stray s (kind.Member offset first width) of line (a ∷ []) k w h e = absurd (e refl)
unary_stray s (kind.Member offset first width) of line (a ∷ b ∷ ps) k w h e = refl
unary_stray s kind.Read of line [] k w h e = refl
unary_stray s kind.Read of line (a ∷ []) k w h e = absurd (e refl)
unary_stray s kind.Read of line (a ∷ b ∷ ps) k w h e = refl
unary_stray s kind.Address of line [] k w h e = refl
unary_stray s kind.Address of line (a ∷ []) k w h e = absurd (e refl)
unary_stray s kind.Address of line (a ∷ b ∷ ps) k w h e = refl
unary_stray s kind.First of line [] k w h e = refl
unary_stray s kind.First of line (a ∷ []) k w h e = absurd (e refl)
unary_stray s kind.First of line (a ∷ b ∷ ps) k w h e = refl
unary_stray s (kind.Convert to.Pointer) of line [] k w h e = refl
unary_stray s (kind.Convert to.Pointer) of line (a ∷ []) k w h e = absurd (e refl)
unary_stray s (kind.Convert to.Pointer) of line (a ∷ b ∷ ps) k w h e = refl
unary_stray s (kind.Convert (to.Integer x)) of line [] k w h e = refl
unary_stray s (kind.Convert (to.Integer x)) of line (a ∷ []) k w h e = absurd (e refl)
unary_stray s (kind.Convert (to.Integer x)) of line (a ∷ b ∷ ps) k w h e = refl
unary_stray s (kind.Unary op) of line [] k w h e = refl
unary_stray s (kind.Unary op) of line (a ∷ []) k w h e = absurd (e refl)
unary_stray s (kind.Unary op) of line (a ∷ b ∷ ps) k w h e = refl
unary_stray s kind.Not of line [] k w h e = refl
unary_stray s kind.Not of line (a ∷ []) k w h e = absurd (e refl)
unary_stray s kind.Not of line (a ∷ b ∷ ps) k w h e = refl
unary_stray s (kind.Convert to.Void) of line ps k w h e = absurd cc
unary_stray s what of line ps k w h e = absurd cc

pub binary_stray : (s : Setting) (what : CoreKind) (of : CType) (line : ℕ) (ps : List Part) (k : ℕ) (w : World) → shape_of what ≡ Binary → (length ps ≡ 2 → ⊥) → row s what of line ps k w ≡ stray line w
binary_stray s (kind.Binary op signed) of line [] k w h e = refl
binary_stray s (kind.Binary op signed) of line (a ∷ []) k w h e = refl
binary_stray s (kind.Binary op signed) of line (a ∷ b ∷ []) k w h e = absurd (e refl)
binary_stray s (kind.Binary op signed) of line (a ∷ b ∷ c ∷ ps) k w h e = refl
binary_stray s (kind.Compare op signed) of line [] k w h e = refl
binary_stray s (kind.Compare op signed) of line (a ∷ []) k w h e = refl
binary_stray s (kind.Compare op signed) of line (a ∷ b ∷ []) k w h e = absurd (e refl)
binary_stray s (kind.Compare op signed) of line (a ∷ b ∷ c ∷ ps) k w h e = refl
binary_stray s (kind.Move size back) of line [] k w h e = refl
binary_stray s (kind.Move size back) of line (a ∷ []) k w h e = refl
binary_stray s (kind.Move size back) of line (a ∷ b ∷ []) k w h e = absurd (e refl)
binary_stray s (kind.Move size back) of line (a ∷ b ∷ c ∷ ps) k w h e = refl
binary_stray s (kind.Difference size) of line [] k w h e = refl
binary_stray s (kind.Difference size) of line (a ∷ []) k w h e = refl
binary_stray s (kind.Difference size) of line (a ∷ b ∷ []) k w h e = absurd (e refl)
binary_stray s (kind.Difference size) of line (a ∷ b ∷ c ∷ ps) k w h e = refl
binary_stray s kind.Assign of line [] k w h e = refl
binary_stray s kind.Assign of line (a ∷ []) k w h e = refl
binary_stray s kind.Assign of line (a ∷ b ∷ []) k w h e = absurd (e refl)
binary_stray s kind.Assign of line (a ∷ b ∷ c ∷ ps) k w h e = refl
binary_stray s (kind.Change by) of line [] k w h e = refl
binary_stray s (kind.Change by) of line (a ∷ []) k w h e = refl
binary_stray s (kind.Change by) of line (a ∷ b ∷ []) k w h e = absurd (e refl)
binary_stray s (kind.Change by) of line (a ∷ b ∷ c ∷ ps) k w h e = refl
binary_stray s (kind.Postfix by) of line [] k w h e = refl
binary_stray s (kind.Postfix by) of line (a ∷ []) k w h e = refl
binary_stray s (kind.Postfix by) of line (a ∷ b ∷ []) k w h e = absurd (e refl)
binary_stray s (kind.Postfix by) of line (a ∷ b ∷ c ∷ ps) k w h e = refl
binary_stray s (kind.Convert to.Void) of line ps k w h e = absurd cc
binary_stray s (kind.Convert to.Pointer) of line ps k w h e = absurd cc
binary_stray s (kind.Convert (to.Integer x)) of line ps k w h e = absurd cc
binary_stray s what of line ps k w h e = absurd cc

pub logical_stray : (s : Setting) (what : CoreKind) (of : CType) (line : ℕ) (ps : List Part) (k : ℕ) (w : World) → shape_of what ≡ Logical → (length ps ≡ 2 → ⊥) → row s what of line ps k w ≡ stray line w
logical_stray s kind.And of line [] k w h e = refl
logical_stray s kind.And of line (a ∷ []) k w h e = refl
logical_stray s kind.And of line (a ∷ b ∷ []) k w h e = absurd (e refl)
logical_stray s kind.And of line (a ∷ b ∷ c ∷ ps) k w h e = refl
logical_stray s kind.Or of line [] k w h e = refl
logical_stray s kind.Or of line (a ∷ []) k w h e = refl
logical_stray s kind.Or of line (a ∷ b ∷ []) k w h e = absurd (e refl)
logical_stray s kind.Or of line (a ∷ b ∷ c ∷ ps) k w h e = refl
logical_stray s (kind.Convert to.Void) of line ps k w h e = absurd cc
logical_stray s (kind.Convert to.Pointer) of line ps k w h e = absurd cc
logical_stray s (kind.Convert (to.Integer x)) of line ps k w h e = absurd cc
logical_stray s what of line ps k w h e = absurd cc

pub conditional_stray : (s : Setting) (what : CoreKind) (of : CType) (line : ℕ) (ps : List Part) (k : ℕ) (w : World) → shape_of what ≡ Conditional → (length ps ≡ 3 → ⊥) → row s what of line ps k w ≡ stray line w
conditional_stray s kind.Conditional of line [] k w h e = refl
conditional_stray s kind.Conditional of line (a ∷ []) k w h e = refl
conditional_stray s kind.Conditional of line (a ∷ b ∷ []) k w h e = refl
conditional_stray s kind.Conditional of line (a ∷ b ∷ c ∷ []) k w h e = absurd (e refl)
conditional_stray s kind.Conditional of line (a ∷ b ∷ c ∷ d ∷ ps) k w h e = refl
conditional_stray s (kind.Convert to.Void) of line ps k w h e = absurd cc
conditional_stray s (kind.Convert to.Pointer) of line ps k w h e = absurd cc
conditional_stray s (kind.Convert (to.Integer x)) of line ps k w h e = absurd cc
conditional_stray s what of line ps k w h e = absurd cc

pub comma_stray : (s : Setting) (what : CoreKind) (of : CType) (line : ℕ) (k : ℕ) (w : World) → shape_of what ≡ Comma → row s what of line [] k w ≡ stray line w
comma_stray s kind.Comma of line k w h = refl
comma_stray s (kind.Convert to.Void) of line k w h = absurd cc
comma_stray s (kind.Convert to.Pointer) of line k w h = absurd cc
comma_stray s (kind.Convert (to.Integer x)) of line k w h = absurd cc
comma_stray s what of line k w h = absurd cc

-- what calls has the shape of calls
pub calls_call : (what : CoreKind) → shape_of what ≡ Call → is_call what ≡ true
calls_call (kind.Call n) h = refl
calls_call (kind.Convert to.Void) h = absurd cc
calls_call (kind.Convert to.Pointer) h = absurd cc
calls_call (kind.Convert (to.Integer x)) h = absurd cc
calls_call what h = absurd cc
