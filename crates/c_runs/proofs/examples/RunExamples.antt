-- Runs of a unit with its table of types, where the program is defined and where it isn't; and worlds that are sound.
use Rattle.std.specs.Prelude.{◌≡◌, ℕ, codes, true, false, Some, None, [], ◌∷◌, ◌++◌}
use Rattle.std.proofs.Common.{ap, sym, ◌∙◌, arith}
use Rattle.lcc_base.specs.declared.cause.Cause.TheVariants as cause
use Rattle.lcc_base.specs.declared.order.Order.TheVariants.{Big}
use Rattle.objects.specs.declared.operators.Binary.TheVariants as binary
use Rattle.objects.specs.declared.value.ObjectName.{ObjectName}
use Rattle.objects.specs.declared.value.Value.TheVariants.{Number, Pointer}
use Rattle.c_types.specs.declared.type_form.TypeForm.TheVariants as form
use Rattle.c_types.specs.Table.{basic_forms, types, type_in}
use Rattle.c_meaning.specs.declared.core_expr.CoreKind.TheVariants as kind
use Rattle.c_meaning.specs.declared.core_stmt.CoreStmt.TheVariants as value
use Rattle.c_meaning.specs.declared.core_stmt.CoreStmt.{CoreStmt-F, fold-roll-CoreStmt}
use Rattle.c_meaning.specs.CoreTrees.{CoreOf, Core, none, two}
use Rattle.c_meaning.specs.StmtTrees.{StmtOf, stmt_layer, stmt_of, stmt_seen}
use Rattle.c_meaning.specs.StmtTrees as stmt
use Rattle.c_meaning.specs.Units.{CoreUnit, UnitTree}
use Rattle.c_runs.specs.Below.{below}
use Rattle.c_runs.specs.Outcomes.{Undefined, Exit}
use Rattle.c_runs.specs.Run.{calls_below, call, context, run, run_tree, is_undefined, IsDefined}
use Rattle.c_runs.specs.Soundness.{IsSoundValue, IsTameKind}

-- ---- int main() { return e; }

abbrev returning : CoreOf ℕ → CoreUnit
returning e = record {
  functions = record { name = codes "main"; of = 10; parameters = 0; locals = []; body = value.Return (Some e) } ∷ [];
  objects = [];
  texts = [];
  types = record { forms = basic_forms ++ form.Function 6 None false ∷ []; completed = [] };
  main = 0;
}

abbrev three : CoreOf ℕ
three = Core (kind.Number 3) 6 1 none

abbrev by_zero : CoreOf ℕ
by_zero = Core (kind.Binary binary.Divide true) 6 1 (two (Core (kind.Number 1) 6 1 none) (Core (kind.Number 0) 6 1 none))

-- its statement as a tree
as_tree : (e : CoreOf ℕ) → stmt_of (value.Return (Some e)) ≡ stmt.Return (Some e)
as_tree e = ap stmt_of (sym (value.rolls-Return (Some e))) ∙ fold-roll-CoreStmt (StmtOf ℕ) stmt_layer (CoreStmt-F.Return (Some e))

abbrev of_body : CoreOf ℕ → StmtOf ℕ → UnitTree
of_body e s = record {
  functions = record { name = codes "main"; of = type_in (types (returning e).types) 10; parameters = 0; locals = []; body = stmt_seen (type_in (types (returning e).types)) s } ∷ [];
  objects = [];
  texts = [];
  tags = [];
  main = 0;
}

gives_3 : (run (returning three) Big [] 0).how ≡ Exit 3
unfolding context call calls_below below
gives_3 = ap (λ s. (run_tree (of_body three s) Big [] 0).how) (as_tree three)

divides_by_zero : (run (returning by_zero) Big [] 0).how ≡ Undefined cause.ZeroDivisor 1
unfolding context call calls_below below
divides_by_zero = ap (λ s. (run_tree (of_body by_zero s) Big [] 0).how) (as_tree by_zero)

-- no number of turns makes the first one undefined; the second one isn't defined
three_is_defined : IsDefined (returning three) Big []
unfolding context call calls_below below
three_is_defined k = ap (λ s. is_undefined (run_tree (of_body three s) Big [] k).how) (as_tree three)

by_zero_is_not : IsDefined (returning by_zero) Big [] → ⊥
by_zero_is_not h = let e = sym (ap is_undefined divides_by_zero) ∙ h 0 in absurd (let never : ⊥ = cc in never)

-- ---- values that are sound where two objects were made

abbrev second : ObjectName
second = record { place = 1; made = 1; size = 4 }

to_its_end : IsSoundValue 2 (Pointer second 4)
to_its_end = (omega arith, omega arith)

past_its_end : IsSoundValue 2 (Pointer second 5) → ⊥
past_its_end h = let l = h.1 in omega (arith, l)

not_yet_made : IsSoundValue 1 (Pointer second 0) → ⊥
not_yet_made h = let l = h.0 in omega (arith, l)

pub no_word : IsSoundValue 2 (Number 4294967296) → ⊥
no_word h = omega (arith, h)

-- ---- a bit-field that lies in its unit, and one that doesn't

in_its_unit : IsTameKind (kind.Member 0 28 4)
in_its_unit = omega arith

past_its_unit : IsTameKind (kind.Member 0 30 4) → ⊥
past_its_unit h = omega (arith, h)
