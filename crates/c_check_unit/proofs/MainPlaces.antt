-- The place of `main` among functions.
use Rattle.std.proofs.Common.{◌≡◌, ℕ, suc, ◌+◌, ◌<◌, ◌≤◌, Bool, true, false, List, length, get_or, drop, map, sym, ap, ◌∙◌, arith}
use Rattle.std.specs.Prelude.{codes, Result, Ok, Err, IfOk, if◌then◌else◌}
use Rattle.std.specs.Str.{bytes_eq}
use Rattle.std.proofs.lemmas.List.{at_drop_all, at_drop_more}
use Rattle.lcc_base.specs.declared.memory.Memory.{Memory}
use Rattle.c_types.specs.Table.{Table}
use Rattle.c_unit_parts.specs.declared.DefinedFunction.{DefinedFunction}
use Rattle.c_unit_parts.specs.PartsIn.{function_in}
use Rattle.c_units.specs.Wholes.{main_from}

abbrev named : DefinedFunction → Bool
named f = bytes_eq f.function.name (codes "main")

abbrev from : Table → ℕ → List DefinedFunction → ℕ
from t k fs = main_from k (map (function_in t) fs)

-- what stands at a place of the rest
at_place : (t : Table) (fs : List DefinedFunction) (i : ℕ) (d : DefinedFunction) (b : Bool) → i < length fs → d ≡ get_or fs i d → named d ≡ b → from t i (drop i fs) ≡ (if b then i else from t (suc i) (drop (i + 1) fs))
at_place t fs i d b l is e = at_drop_more (from t i) fs i d l ∙ ap (λ (x : Bool). if x then i else from t (suc i) (drop (i + 1) fs)) (ap named (sym is) ∙ e)

pub main_next : (t : Table) (fs : List DefinedFunction) (i : ℕ) (d : DefinedFunction) → i < length fs → d ≡ get_or fs i d → named d ≡ false → from t (i + 1) (drop (i + 1) fs) ≡ from t i (drop i fs)
main_next t fs i d l is e = (let n : i + 1 ≡ suc i = omega arith in ap (λ (k : ℕ). from t k (drop (i + 1) fs)) n) ∙ sym (at_place t fs i d false l is e)

pub main_here : (fs : List DefinedFunction) (i : ℕ) (d : DefinedFunction) (r : Result ℕ Memory) → i < length fs → d ≡ get_or fs i d → named d ≡ true → ((t : Table) → from t i (drop i fs) ≡ from t 0 fs) → IfOk r (λ n. n ≡ i) → IfOk r (λ n. (t : Table) → n ≡ from t 0 fs)
main_here fs i d (Ok n) l is e h k = λ t. k ∙ sym (at_place t fs i d true l is e) ∙ h t
main_here fs i d (Err m) l is e h k = tt

pub main_end : (t : Table) (fs : List DefinedFunction) (i : ℕ) → length fs ≤ i → from t i (drop i fs) ≡ from t 0 fs → 0 ≡ from t 0 fs
main_end t fs i l h = sym (at_drop_all (from t i) fs i l) ∙ h
