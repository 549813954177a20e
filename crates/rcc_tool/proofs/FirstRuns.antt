-- What the run of a program's unit comes to, as it is seen from the machine.
use Rattle.std.proofs.Common.{◌≡◌, ℕ, ◌^◌, ◌≤◌, Bool, true, false, cond, List, [], ◌∷◌, length, Option, Some, None, sym, ap, ◌∙◌, subst, arith, append-nil}
use Rattle.std.specs.Prelude.{ℤ, ◌==◌, sum_by}
use Rattle.std.proofs.lemmas.Option.{none-some, same_Some}
use Rattle.asm_text.specs.RunsAs.{ComesTo}
use Rattle.first_form.specs.FirstProgram.{MProgram}
use Rattle.first_form.specs.Meaning.{value, output, status}
use Rattle.first_forest.specs.FirstForest.{main_of, roots_of, unit_of}
use Rattle.first_forest.specs.Meaning.{IsPrefix, main_run, trace_of, IsRun, IsOver, IsMeant}
use Rattle.first_forest.proofs.lemmas.Small.{few}
use Rattle.op_forest.specs.Nodes.{nodes}
use Rattle.forests.specs.Words.{Word, Plain}
use Rattle.objects.specs.declared.value.Value.TheVariants.{Number}
use Rattle.lcc_base.specs.Traces.{output_of, depth_of}
use Rattle.forests.specs.Worlds.{Effect, Went, Exits, Unfinished, Stuck}
use Rattle.op_forest.specs.Callees.{Body, BuiltIn, Callee, Defined, Provided, Missing}
use Rattle.op_forest.specs.Units.{body_of, built_in_named, callee_by, callee_of}
use Rattle.program_runs.specs.Reached.{printed_by, depth_by, status_in, status_by, seen}
use Rattle.program_runs.specs.Meant.{HasMeaning}
use Rattle.mips_programs.specs.Programs.{HasRoom}
use Rattle.rcc_tool.specs.Room.{room_of}

pub has_meaning : (p : MProgram) (e : Effect) → IsRun p e → HasMeaning e
has_meaning p (Went ws q mv) h = (value p.result, h.0)
has_meaning p (Exits n w) h = absurd h
has_meaning p (Unfinished w) h = tt
has_meaning p Stuck h = absurd h

printed_part : (p : MProgram) (e : Effect) → IsRun p e → IsPrefix (printed_by e) (output p)
printed_part p (Went ws q mv) h = ([], append-nil (output_of q.world.trace) ∙ h.2)
printed_part p (Exits n w) h = absurd h
printed_part p (Unfinished w) h = h
printed_part p Stuck h = absurd h

one_status : (p : MProgram) (ws : List Word) (answer : ℤ) → ws ≡ Plain (Number (value p.result)) ∷ [] → status_in ws ≡ Some answer → answer ≡ status p
one_status p ws answer is d = sym (same_Some (status p) answer (ap status_in (sym is) ∙ d))

done_so : (p : MProgram) (e : Effect) (answer : ℤ) → IsRun p e → status_by e ≡ Some answer → (answer ≡ status p) × (printed_by e ≡ output p)
done_so p (Went ws q mv) answer h d = (one_status p ws answer h.0 d, h.2)
done_so p (Exits n w) answer h d = absurd h
done_so p (Unfinished w) answer h d = absurd (none-some answer d)
done_so p Stuck answer h d = absurd h

over_so : (p : MProgram) (e : Effect) → IsRun p e → IsOver e → status_by e ≡ Some (status p)
over_so p (Went ws q mv) h o = ap status_in h.0
over_so p (Exits n w) h o = absurd o
over_so p (Unfinished w) h o = absurd o
over_so p Stuck h o = absurd o

depth_few : (room : ℕ → ℕ) (n : ℕ) (e : Effect) → depth_of room [] (trace_of e) ≤ n → depth_by room e ≤ n
depth_few room n (Went ws q mv) h = h
depth_few room n (Exits s w) h = h
depth_few room n (Unfinished w) h = h
depth_few room n Stuck h = omega arith

-- the run of the unit comes to the program's output and status
pub comes_to : (p : MProgram) (input : List ℕ) → IsMeant p input → ComesTo (λ k. seen (λ n. room_of p) (main_run p input k)) (output p) (status p) (room_of p)
comes_to p input m = record {
  prefix = λ k. printed_part p (main_run p input k) (m.runs k);
  only = λ k answer is. done_so p (main_run p input k) answer (m.runs k) is;
  done = let last = length (roots_of p) in (last, over_so p (main_run p input last) (m.runs last) (m.ends last (omega arith)));
  depth = λ k. depth_few (λ n. room_of p) (room_of p) (main_run p input k) (m.depth (λ n. room_of p) k);
}

-- ---- main is the one function, and its frame has its room

not_defined : (x : Option BuiltIn) (body : Body) → callee_by None None x ≡ Defined body → ⊥
not_defined (Some b) body e = cc
not_defined None body e = cc

abbrev body_in : Callee → Body → Body
body_in (Defined body) other = body
body_in (Provided b) other = other
body_in Missing other = other

roomy_by : (p : MProgram) → sum_by nodes (roots_of p) ≤ 2 ^ 24 → (b : Bool) (name : ℕ) (body : Body) (x : Option BuiltIn) → callee_by (cond b (Some (main_of p)) None) None x ≡ Defined body → HasRoom (λ n. room_of p) name body
roomy_by p nodes_few true name body x is =
    let same : body_of (main_of p) ≡ body = ap (λ c. body_in c body) is in
    let three = few p in
    subst (HasRoom (λ n. room_of p) name) same (record { frame = omega (arith, three); nodes_few = nodes_few })
roomy_by p nodes_few false name body x is = absurd (not_defined x body is)

pub roomy : (p : MProgram) → sum_by nodes (roots_of p) ≤ 2 ^ 24 → (name : ℕ) (body : Body) → callee_of (unit_of p) name ≡ Defined body → HasRoom (λ n. room_of p) name body
roomy p nodes_few name body is = roomy_by p nodes_few (0 == name) name body (built_in_named (unit_of p) name) is
