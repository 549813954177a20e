-- The text of a program's assembly, and what it does.
use Rattle.std.proofs.Common.{◌≡◌, inr, Bool, true, false, cond, ℕ, zero, suc, ◌+◌, ◌*◌, ◌^◌, ◌≤◌, List, [], ◌∷◌, length, Option, Some, None, Result, Ok, Err, refl, sym, ap, ◌∙◌, subst, arith}
use Rattle.std.specs.Prelude.{◌==◌, sum_by, slice_get, All, IfOk}
use Rattle.std.specs.List.{AllZip}
use Rattle.std.proofs.lemmas.Option.{same_Some, slice_get_past}
use Rattle.std.proofs.lemmas.List.Elements.{All-nil, All-cons}
use Rattle.asm_text.specs.Lines.{MLine}
use Rattle.asm_text.specs.Linked.{code_place, HasMain}
use Rattle.asm_text.specs.Makes.{Makes}
use Rattle.asm_text.specs.Program.{MProgram as MAssembly, place_of}
use Rattle.asm_text.specs.RunsAs.{RunsAs}
use Rattle.asm_text.proofs.lemmas.RunLaws.{runs_as}
use Rattle.asm_text.specs.Addresses.{code_start, data_start}
use Rattle.mips_machine.specs.Run.{mrun}
use Rattle.program_runs.specs.Reached.{seen}
use Rattle.mips_programs.specs.WholePrograms.{CallsGetchar, ProgramsAgree}
use Rattle.mips_programs.specs.Working.{AreBytes}
use Rattle.asm_text.specs.Printable.{ArePrintable}
use Rattle.asm_text.specs.AssemblyText.{IsText}
use Rattle.first_form.specs.Expression.{MExpression, Constant, Negated, Combined, Enclosed}
use Rattle.first_form.specs.FirstProgram.{MProgram}
use Rattle.first_form.specs.FirstForm.{IsFirst}
use Rattle.first_form.specs.Meaning.{output, status}
use Rattle.first_forest.specs.FirstForest.{expression_node, roots_of, main_of, unit_names, unit_of}
use Rattle.first_forest.specs.Meaning.{main_run}
use Rattle.first_forest.proofs.lemmas.Running.{meant}
use Rattle.first_forest.proofs.lemmas.WellFormedRoots.{well_formed}
use Rattle.first_forest.proofs.lemmas.RuledRoots.{ruled}
use Rattle.first_forest.proofs.lemmas.Small.{small, few}
use Rattle.first_forest.proofs.lemmas.Known.{each_root, lowered}
use Rattle.op_forest.specs.Nodes.{Node, nodes, head_of}
use Rattle.op_forest.specs.EachNode.{AtEachNode}
use Rattle.forests.specs.WellFormed.{IsWellFormed}
use Rattle.forests.specs.HasRules.{HasRules}
use Rattle.op_forest.specs.declared.lowered.LoweredFunction.{LoweredFunction}
use Rattle.op_forest.specs.Lowered.{LoweredUnit, IsLowered}
use Rattle.op_forest.specs.Callees.{BuiltIn, Putchar, Getchar, Exit, Callee, Provided}
use Rattle.op_forest.specs.Units.{body_of, named_by, built_in_named, callee_by, callee_of}
use Rattle.unit_text.specs.UnitLines.{Coded}
use Rattle.mips_target.specs.UnitProgram.{IsUnitProgram}
use Rattle.mips_target.specs.UnitAssembly.{HasBounds, IsFunctionAssembly, IsUnitAssembly}
use Rattle.unit_text.specs.Callable.{HasCallable, AreCallable}
use Rattle.rcc_tool.specs.Compilation.{IsMadeFor, IsCompiled}
use Rattle.rcc_tool.specs.Room.{room_of, most_instructions}
use Rattle.rcc_tool.proofs.FirstRuns.{has_meaning, comes_to, roomy}

-- what a tree names may be called
abbrev MayCall : LoweredUnit → Node → Type 0
MayCall u = AtEachNode (λ t. HasCallable u (head_of t).sym)

node_callable : (u : LoweredUnit) (e : MExpression) → MayCall u (expression_node e)
node_callable u (Constant n) = tt
node_callable u (Negated e) = (tt, node_callable u e)
node_callable u (Combined o a b) = (tt, node_callable u a, node_callable u b)
node_callable u (Enclosed e) = node_callable u e

-- a program calls putchar alone
callable : (p : MProgram) → AreCallable (unit_of p)
callable p =
    let u = unit_of p in
    All-cons (λ f. All (MayCall u) f.forest.roots) (main_of p) [] (each_root (MayCall u) p.prints p.result (λ e. (tt, node_callable u e)) (tt, inr (Putchar, refl)) (tt, node_callable u p.result)) (All-nil (λ f. All (MayCall u) f.forest.roots))

-- its function is well formed, has rules and is small
pub well_formed_unit : (p : MProgram) (input : List ℕ) (u : LoweredUnit) → u ≡ unit_of p → IsFirst input p → All (λ f. IsWellFormed f.forest) u.functions
well_formed_unit p input u e is =
    subst (λ x. All (λ f. IsWellFormed f.forest) x.functions) (sym e) (All-cons (λ f. IsWellFormed f.forest) (main_of p) [] (well_formed p is.prints is.result) (All-nil (λ f. IsWellFormed f.forest)))

pub ruled_unit : (p : MProgram) (u : LoweredUnit) → u ≡ unit_of p → All (λ f. HasRules f.forest.roots) u.functions
ruled_unit p u e =
    subst (λ x. All (λ f. HasRules f.forest.roots) x.functions) (sym e) (All-cons (λ f. HasRules f.forest.roots) (main_of p) [] (ruled p) (All-nil (λ f. HasRules f.forest.roots)))

pub small_unit : (p : MProgram) (input : List ℕ) (u : LoweredUnit) → u ≡ unit_of p → IsFirst input p → length input ≤ 16777216 → All (λ f. sum_by nodes f.forest.roots ≤ 2 ^ 24) u.functions
small_unit p input u e is within =
    let few : sum_by nodes (roots_of p) ≤ 2 ^ 24 = let s = small input p is in omega (arith, s, within) in
    subst (λ x. All (λ f. sum_by nodes f.forest.roots ≤ 2 ^ 24) x.functions) (sym e) (All-cons (λ f. sum_by nodes f.forest.roots ≤ 2 ^ 24) (main_of p) [] few (All-nil (λ f. sum_by nodes f.forest.roots ≤ 2 ^ 24)))

few_nodes : (p : MProgram) (input : List ℕ) → IsFirst input p → length input ≤ 16777216 → sum_by nodes (roots_of p) ≤ 2 ^ 24
few_nodes p input is within = let s = small input p is in omega (arith, s, within)

-- a program's function has room for its frame and its code
bounded : (p : MProgram) → HasBounds (λ f. room_of p) (λ f. most_instructions p) (main_of p)
bounded p = let three = few p in record { frame = omega (arith, three); code = omega (arith, three) }

all_bounded : (p : MProgram) → All (HasBounds (λ f. room_of p) (λ f. most_instructions p)) (unit_of p).functions
all_bounded p = All-cons (HasBounds (λ f. room_of p) (λ f. most_instructions p)) (main_of p) [] (bounded p) (All-nil (HasBounds (λ f. room_of p) (λ f. most_instructions p)))

-- main is the label of the one function
main_label : (p : MProgram) (a : MAssembly) → IsUnitAssembly (λ f. room_of p) (λ f. most_instructions p) (unit_of p) a → (main : ℕ) × HasMain a main
main_label p a h = labelled h.functions h.each
  where
    labelled : (cs : List Coded) → AllZip (λ f c. IsFunctionAssembly (room_of p) (most_instructions p) unit_names a f c) (main_of p ∷ []) cs → (main : ℕ) × HasMain a main
    labelled [] z = absurd z
    labelled (c ∷ cs) z = (z.0.place.entry, ap (λ n. place_of a.labels n) (sym z.0.name) ∙ z.0.place.named)

-- what is known of a program's unit
lowered_unit : (p : MProgram) → IsLowered (unit_of p)
lowered_unit p = lowered p (main_of p ∷ []) [] (unit_of p).names refl refl refl

abbrev is_getchar : Callee → Bool
is_getchar (Provided Getchar) = true
is_getchar callee = false

abbrev names_getchar : Option BuiltIn → Bool
names_getchar (Some Getchar) = true
names_getchar built_in = false

-- a name that is main's, or no name of getchar
other_name : (p : MProgram) (b : Bool) (x : Option BuiltIn) → names_getchar x ≡ false → is_getchar (callee_by (cond b (Some (main_of p)) None) None x) ≡ false
other_name p true x none = refl
other_name p false (Some Putchar) none = refl
other_name p false (Some Getchar) none = none
other_name p false (Some Exit) none = refl
other_name p false None none = refl

differ : (b : Bool) → b ≡ false → b ≡ true → ⊥
differ b e f = absurd (cc)

-- no name of the unit is that of getchar
no_getchar : (p : MProgram) (name : ℕ) → callee_of (unit_of p) name ≡ Provided Getchar → ⊥
no_getchar p zero is = differ (is_getchar (callee_of (unit_of p) 0)) refl (ap is_getchar is)
no_getchar p (suc zero) is = differ (is_getchar (callee_of (unit_of p) 1)) refl (ap is_getchar is)
no_getchar p (suc (suc name)) is =
    let past : slice_get unit_names (suc (suc name)) ≡ None = slice_get_past unit_names (suc (suc name)) (omega arith) in
    let none : names_getchar (built_in_named (unit_of p) (suc (suc name))) ≡ false = ap (λ (text : Option (List ℕ)). names_getchar (named_by text)) past in
    differ (is_getchar (callee_of (unit_of p) (suc (suc name)))) (other_name p (0 == suc (suc name)) (built_in_named (unit_of p) (suc (suc name))) none) (ap is_getchar is)

reads_bytes : (p : MProgram) (a : MAssembly) (bytes : List ℕ) → CallsGetchar (unit_of p) a → AreBytes bytes
reads_bytes p a bytes calls = absurd (no_getchar p calls.name calls.is)

module _ (agree : ProgramsAgree) (p : MProgram) (input : List ℕ) (is : IsFirst input p) (within : length input ≤ 16777216) (a : MAssembly) (program : IsUnitProgram (unit_of p) a) (main : ℕ) (has : HasMain a main) where
  -- the assembly runs as the program does
  run_so : (bytes : List ℕ) (stack : ℕ) → 4096 ≤ stack → stack ≤ 16777216 → code_start + 4 * length a.code ≤ data_start → RunsAs (output p) (status p) (room_of p) stack (λ n. mrun a (unit_of p).order stack main bytes n)
  run_so bytes stack low high ends =
      let m = meant p bytes is.prints is.result in
      let all = agree (unit_of p) a (λ n. room_of p) 0 (record { lowered = lowered_unit p; program = program; ends = ends; roomy = roomy p (few_nodes p input is within) }) (record { body = body_of (main_of p); named = refl; defined = refl }) in
      let same : all.0 ≡ main = same_Some all.0 main (ap code_place (sym all.1 ∙ has)) in
      let runs = runs_as (λ n. mrun a (unit_of p).order stack all.0 bytes n) (λ k. seen (λ n. room_of p) (main_run p bytes k)) (output p) (status p) (room_of p) stack (comes_to p bytes m) (all.2 stack bytes low high (reads_bytes p a bytes) (λ k. has_meaning p (main_run p bytes k) (m.runs k))) in
      subst (λ x. RunsAs (output p) (status p) (room_of p) stack (λ n. mrun a (unit_of p).order stack x bytes n)) same runs

made_for : ProgramsAgree → (p : MProgram) (input : List ℕ) → IsFirst input p → length input ≤ 16777216 → (a : MAssembly) → IsUnitProgram (unit_of p) a → IsUnitAssembly (λ f. room_of p) (λ f. most_instructions p) (unit_of p) a → IsMadeFor p a
made_for agree p input is within a program assembly =
    let m = main_label p a assembly in
    record { unit = assembly; main = m.0; has_main = m.1; runs = run_so agree p input is within a program m.0 m.1 }

-- what `generate` says of the lines of a unit
pub record AreLinesOf (u : LoweredUnit) (lines : List MLine) : Type 0 where
  pub printable : ArePrintable lines
  pub unit : (a : MAssembly) → Makes lines a → IsUnitProgram u a
  pub assembly : (a : MAssembly) → Makes lines a → (room most : LoweredFunction → ℕ) → All (HasBounds room most) u.functions → IsUnitAssembly room most u a
  pub program : AreCallable u → (a : MAssembly) × Makes lines a

compiled : ProgramsAgree → (p : MProgram) (input : List ℕ) (lines : List MLine) (text : List ℕ) → IsFirst input p → length input ≤ 16777216 → AreLinesOf (unit_of p) lines → ((a : MAssembly) → ArePrintable lines → Makes lines a → IsText text a) → IsCompiled p text
compiled agree p input lines text is within l printed =
    let m = l.program (callable p) in
    record {
      assembly = m.0;
      is_text = printed m.0 l.printable m.1;
      made = made_for agree p input is within m.0 (l.unit m.0 m.1) (l.assembly m.0 m.1 (λ f. room_of p) (λ f. most_instructions p) (all_bounded p));
    }

pub compiled_if : {E : Type 0} → ProgramsAgree → (p : MProgram) (input : List ℕ) (u : LoweredUnit) (lines : List MLine) (result : Result (List ℕ) E) → IsFirst input p → length input ≤ 16777216 → u ≡ unit_of p → AreLinesOf u lines → IfOk result (λ text. (a : MAssembly) → ArePrintable lines → Makes lines a → IsText text a) → IfOk result (λ text. IsCompiled p text)
compiled_if agree p input u lines (Ok text) is within e l printed = compiled agree p input lines text is within (subst (λ x. AreLinesOf x lines) e l) printed
compiled_if agree p input u lines (Err x) is within e l printed = tt
