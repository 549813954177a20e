-- Checked expressions as trees: over types by their places in a table, or over types as mathematics has them.
use Rattle.std.specs.Prelude.{ℕ, ◌+◌, ◌≤◌, ◌<◌, suc, List, [], ◌∷◌}
use Rattle.std.proofs.Common.{arith}
use denote.Param.Weighed.{most}
use Rattle.c_meaning.specs.declared.core_expr.CoreKind.{CoreKind}

mutual
  -- what it is, its type, its line and its parts
  pub data CoreOf (T : Type 0) : Type 0 where
    Core : (what : CoreKind) (of : T) (line : ℕ) (kids : CoresOf T) → CoreOf T

  pub data CoresOf (T : Type 0) : Type 0 where
    NoCore : CoresOf T
    Cores : (first : CoreOf T) (others : CoresOf T) → CoresOf T

abbrev pub cores_of : {T : Type 0} → List (CoreOf T) → CoresOf T
cores_of [] = NoCore
cores_of (c ∷ cs) = Cores c (cores_of cs)

abbrev mutual
  pub parts : {T : Type 0} → CoreOf T → ℕ
  parts (Core what of line kids) = suc (all_parts kids)

  pub all_parts : {T : Type 0} → CoresOf T → ℕ
  all_parts NoCore = 0
  all_parts (Cores c cs) = parts c + all_parts cs

-- the parts of an expression have fewer parts than it has
pub parts_fall : {T : Type 0} (what : CoreKind) (of : T) (line : ℕ) (kids : List (CoreOf T)) → most (λ k. parts k + 1) kids ≤ parts (Core what of line (cores_of kids))
parts_fall what of line [] = omega arith
parts_fall what of line (c ∷ cs) = omega (arith, parts_fall what of line cs)

abbrev pub what_of : {T : Type 0} → CoreOf T → CoreKind
what_of (Core what of line kids) = what

abbrev pub type_of : {T : Type 0} → CoreOf T → T
type_of (Core what of line kids) = of

abbrev pub line_of : {T : Type 0} → CoreOf T → ℕ
line_of (Core what of line kids) = line

abbrev pub kids_of : {T : Type 0} → CoreOf T → CoresOf T
kids_of (Core what of line kids) = kids

abbrev pub none : {T : Type 0} → CoresOf T
none = NoCore

abbrev pub one : {T : Type 0} → CoreOf T → CoresOf T
one a = Cores a NoCore

abbrev pub two : {T : Type 0} → CoreOf T → CoreOf T → CoresOf T
two a b = Cores a (Cores b NoCore)

abbrev pub three : {T : Type 0} → CoreOf T → CoreOf T → CoreOf T → CoresOf T
three a b c = Cores a (Cores b (Cores c NoCore))

-- over types as mathematics has them, where those at places are known
abbrev mutual
  pub seen : {T U : Type 0} → (T → U) → CoreOf T → CoreOf U
  seen known (Core what of line kids) = Core what (known of) line (all_seen known kids)

  pub all_seen : {T U : Type 0} → (T → U) → CoresOf T → CoresOf U
  all_seen known NoCore = NoCore
  all_seen known (Cores c cs) = Cores (seen known c) (all_seen known cs)

-- the types are at places below this one
abbrev mutual
  pub IsIn : ℕ → CoreOf ℕ → Type 0
  IsIn n (Core what of line kids) = (of < n) × AreIn n kids

  pub AreIn : ℕ → CoresOf ℕ → Type 0
  AreIn n NoCore = Unit {0}
  AreIn n (Cores c cs) = IsIn n c × AreIn n cs
