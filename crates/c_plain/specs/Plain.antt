-- Expressions that call nothing, and their values that are used.
use Rattle.std.specs.Prelude.{Bool, true, not, ◌&&◌, Option}
use Rattle.c_meaning.specs.CoreTrees.{CoreOf, Core, CoresOf, NoCore, Cores}
use Rattle.c_meaning.specs.declared.core_expr.CoreKind.{CoreKind}
use Rattle.c_meaning.specs.declared.core_expr.CoreKind.TheVariants as kind
use Rattle.c_acts.specs.Kinds.{is_call}
use Rattle.c_runs.specs.Outcomes.{Result, Gives, then_give}
use Rattle.c_runs.specs.Expressions.{Part}
use Rattle.c_meaning.specs.Values.{CoreTree}
use Rattle.objects.specs.declared.value.Value.{Value}
use Rattle.c_worlds.specs.Shown.{gave}

abbrev mutual
  pub is_plain : {T : Type 0} → CoreOf T → Bool
  is_plain (Core what of line kids) = not (is_call what) && are_plain kids

  pub are_plain : {T : Type 0} → CoresOf T → Bool
  are_plain NoCore = true
  are_plain (Cores c cs) = is_plain c && are_plain cs

-- a value that is used
abbrev pub used : Result → Result
used r = then_give r (λ v k w. Gives v k w)

-- the left part of `&&` or `||` decides, where it is true or not
abbrev pub settles : CoreKind → Bool → Bool
settles kind.Or holds = holds
settles what holds = not holds

-- a part that has come to a value, or to none
abbrev pub came : CoreTree → Option Value → Part
came c v = record { tree = c; does = λ k w. gave v k w }
