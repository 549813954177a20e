-- `int main(void) { return 0; }`, whose lowered unit names the built-in functions behind main.
use Rattle.std.specs.Prelude.{◌≡◌, ◌≤◌, ℕ, zero, suc, ◌-◌, nat_lt, Bool, true, false, if◌then◌else◌, Some, None, List, [], ◌∷◌, slice_get, codes}
use Rattle.std.proofs.Common.{refl, ap, arith}
use Rattle.std.proofs.lemmas.Option.{same_Some, slice_get_past}
use Rattle.lcc_base.specs.declared.order.Order.TheVariants.{Big}
use Rattle.op_forest.specs.declared.lowered.LoweredFunction.{LoweredFunction}
use Rattle.op_forest.specs.Callees.{Provided}
use Rattle.op_forest.specs.Lowered.{LoweredUnit}
use Rattle.c_types.specs.CType.{Function, Listed, NoType, Plain}
use Rattle.c_meaning.specs.declared.built_in.BuiltIn.{BuiltIn}
use Rattle.c_meaning.specs.declared.built_in.BuiltIn.TheVariants.{Putchar, Getchar, Exit}
use Rattle.c_meaning.specs.StmtTrees.{Return}
use Rattle.c_meaning.specs.Units.{FunctionTree, UnitTree}
use Rattle.c_runs.specs.Samples as sample
use Rattle.c_calls_agree.specs.Programs.{provided_as}
use Rattle.c_bodies_agree.specs.BuiltIns.{ProvidesBuiltIns}

abbrev main : FunctionTree
main = record { name = codes "main"; of = Plain 0 (Function sample.int (Listed NoType false)); parameters = 0; locals = []; body = Return (Some (sample.number 1 0)) }

abbrev source : UnitTree
source = record { functions = main ∷ []; objects = []; texts = []; tags = []; main = 0 }

abbrev main_lowered : LoweredFunction
main_lowered = record { name = 0; words = 0; forest = record { roots = []; frame = [] } }

abbrev lowered : List (List ℕ) → LoweredUnit
lowered names = record { functions = main_lowered ∷ []; objects = []; names = codes "main" ∷ names; order = Big }

abbrev target : LoweredUnit
target = lowered (codes "putchar" ∷ codes "getchar" ∷ codes "exit" ∷ [])

-- ---- behind main stand three built-in functions, and no more

no_more : (n : ℕ) (b : BuiltIn) (before : Bool) → 4 ≤ n → (if before then None else slice_get (Putchar ∷ Getchar ∷ Exit ∷ []) (n - 1)) ≡ Some b → ⊥
no_more n b true le e = cc
no_more n b false le e = let past = slice_get_past (Putchar ∷ Getchar ∷ Exit ∷ []) (n - 1) (omega (arith, le)) in cc

is_provided : (b c : BuiltIn) → Some b ≡ Some c → Provided (provided_as b) ≡ Provided (provided_as c)
is_provided b c e = ap (λ (d : BuiltIn). Provided (provided_as d)) (same_Some b c e)

provides : ProvidesBuiltIns source target
provides zero b e = absurd (let never : ⊥ = cc in never)
provides (suc zero) b e = is_provided Putchar b e
provides (suc (suc zero)) b e = is_provided Getchar b e
provides (suc (suc (suc zero))) b e = is_provided Exit b e
provides (suc (suc (suc (suc n)))) b e = absurd (no_more (suc (suc (suc (suc n)))) b (nat_lt (suc (suc (suc (suc n)))) 1) (omega arith) e)

-- in another order they aren't there
out_of_order : ProvidesBuiltIns source (lowered (codes "getchar" ∷ codes "putchar" ∷ codes "exit" ∷ [])) → ⊥
out_of_order h = let e = h 1 Putchar refl in let never : ⊥ = cc in never
