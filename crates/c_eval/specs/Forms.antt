-- Which the parts of an expression are, by how they are evaluated.
use Rattle.std.specs.Prelude.{◌≡◌, ℕ, Bool, true, false}
use Rattle.c_acts.specs.declared.shape.Shape.{Shape}
use Rattle.c_acts.specs.declared.shape.Shape.TheVariants.{Leaf, Dropped, Unary, Binary, Logical, Conditional, Comma, Call}
use Rattle.c_acts.specs.Shapes.{shape_of}
use Rattle.c_meaning.specs.declared.core_expr.CoreKind.{CoreKind}
use Rattle.c_meaning.specs.declared.core_expr.CoreKind.TheVariants as kind
use Rattle.c_meaning.specs.CoreTrees.{CoreOf, CoresOf, NoCore, Cores, cores_of, kids_of, one, three, two, what_of}
use Rattle.c_eval.specs.declared.form.Form.{Form}
use Rattle.c_eval.specs.declared.form.Form.TheVariants as form

-- ---- how many

abbrev pub has_none : {T : Type 0} → CoresOf T → Bool
has_none NoCore = true
has_none (Cores a cs) = false

abbrev pub has_one : {T : Type 0} → CoresOf T → Bool
has_one (Cores a NoCore) = true
has_one cs = false

abbrev pub has_two : {T : Type 0} → CoresOf T → Bool
has_two (Cores a (Cores b NoCore)) = true
has_two cs = false

abbrev pub has_three : {T : Type 0} → CoresOf T → Bool
has_three (Cores a (Cores b (Cores c NoCore))) = true
has_three cs = false

abbrev pub has_first : {T : Type 0} → CoresOf T → Bool
has_first NoCore = false
has_first (Cores a cs) = true

-- as many as are evaluated so
abbrev pub fits : {T : Type 0} → Shape → CoresOf T → Bool
fits Leaf cs = has_none cs
fits Dropped cs = has_one cs
fits Unary cs = has_one cs
fits Binary cs = has_two cs
fits Logical cs = has_two cs
fits Conditional cs = has_three cs
fits Comma cs = has_first cs
fits Call cs = has_first cs

-- ---- which

abbrev Has : Shape → CoresOf ℕ → CoreOf ℕ → Type 0
Has shape kids e = (shape_of (what_of e) ≡ shape) × (kids_of e ≡ kids)

-- these are the parts of an expression
abbrev pub IsForm : CoreOf ℕ → Form → Type 0
IsForm e form.Leaf = Has Leaf NoCore e
IsForm e (form.Dropped a) = Has Dropped (one a.now) e
IsForm e (form.Unary a) = Has Unary (one a.now) e
IsForm e (form.Binary a b) = Has Binary (two a.now b.now) e
IsForm e (form.Logical a b) = Has Logical (two a.now b.now) e
IsForm e (form.Conditional a b c) = Has Conditional (three a.now b.now c.now) e
IsForm e (form.Comma a cs) = Has Comma (Cores a.now (cores_of cs.now)) e
IsForm e (form.Call a cs) = Has Call (Cores a.now (cores_of cs.now)) e
IsForm e form.Stray = fits (shape_of (what_of e)) (kids_of e) ≡ false

-- ---- kinds

abbrev pub is_and : CoreKind → Bool
is_and kind.And = true
is_and what = false

-- the local where the copies of a call begin
abbrev pub copies_of : CoreKind → ℕ
copies_of (kind.Call n) = n
copies_of what = 0
