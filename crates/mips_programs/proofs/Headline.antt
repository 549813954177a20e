-- A program on the machine does what the run of its forests does, where the machine follows each call.
use Rattle.std.proofs.Common.{◌≡◌, ℕ, suc, ◌+◌, ◌*◌, ◌<◌, ◌≤◌, List, [], Option, Some, subst}
use Rattle.std.proofs.lemmas.List.{length-replicate}
use Rattle.lcc_base.specs.declared.order.Order.{Order}
use Rattle.asm_text.specs.Program.{MProgram}
use Rattle.asm_text.specs.Runs.{Run}
use Rattle.asm_text.specs.Agrees.{Agrees}
use Rattle.asm_text.specs.Linked.{linked_data}
use Rattle.forests.specs.Worlds.{Point, Effect}
use Rattle.op_forest.specs.Lowered.{LoweredUnit}
use Rattle.forests.specs.Units.{program_of, start_world}
use Rattle.forests.specs.Meaning.{call_of}
use Rattle.forests.specs.Nested.{calls_at}
use Rattle.asm_text.specs.Addresses.{code_start}
use Rattle.mips_machine.specs.State.{Cpu}
use Rattle.mips_machine.specs.Run.{mrun}
use Rattle.mips_programs.specs.Working.{AreBytes, Working, on, step_in}
use Rattle.mips_programs.specs.Matches.{Calling, Answers}
use Rattle.program_runs.specs.Reached.{seen, Reached}
use Rattle.program_runs.specs.Meant.{HasMeaning}
use Rattle.program_runs.proofs.lemmas.Points.{agrees}
use Rattle.program_runs.proofs.lemmas.Counted.{nested_meant, counted_agrees}
use Rattle.mips_programs.proofs.Start.{at_start, start_map, start_places, start_bare, start_entry, start_back}
use Rattle.mips_programs.proofs.Reaching.{reach, reach_any}

module _ (u : LoweredUnit) (p : MProgram) (order : Order) (room : ℕ → ℕ) (places : ℕ → Option ℕ) (Reads : Type 0) (there : ℕ → Type 0) (long stack name main : ℕ) (input : List ℕ) (more : 0 < long) (low : 4096 ≤ stack) (high : stack ≤ 16777216) (at : places name ≡ Some (code_start + 4 * main)) (able : there name) (bytes : Reads → AreBytes input) (calling : (n : ℕ) → Calling p order room places Reads there long n (calls_at (program_of u) n)) where
  abbrev first_point : Point
  first_point = record { left = 0; world = start_world u input }

  abbrev first_call : ℕ → Effect
  first_call k = calls_at (program_of u) k name first_point

  abbrev begin : Working
  begin = at_start (linked_data order p) stack main input

  answers : (k : ℕ) → Answers p order room (start_map places) long k [] (start_world u input) begin (first_call k)
  answers k = (calling k).answers (start_map places) [] name first_point begin able bytes (start_bare places) (start_places places) (start_entry order room (start_map places) u (linked_data order p) input stack name main (start_bare places) (start_places places name (code_start + 4 * main) at) low high)

  abbrev machine : ℕ → Run Cpu
  machine n = mrun p order stack main input n

  abbrev call : ℕ → Effect
  call k = call_of (program_of u) name (record { left = k; world = start_world u input })

  pub headline : ((k : ℕ) → HasMeaning (call k)) → Agrees machine (λ k. seen room (call k)) stack
  headline meant =
      let nested = nested_meant (program_of u) name first_point meant in
      let turns : ℕ → ℕ = λ n. suc n * long in
      let reached : (n : ℕ) → Reached machine stack n (seen room (first_call (turns n))) = λ n.
      subst (λ s. Reached machine s n (seen room (first_call (turns n)))) (length-replicate stack 0)
      (reach p order room (start_map places) (start_world u input) begin (start_back (linked_data order p) stack main) long n (first_call (turns n)) more (nested (turns n)) (answers (turns n))) in
      let whole : (k : ℕ) → Reached machine stack 0 (seen room (first_call k)) = λ k.
      subst (λ s. Reached machine s 0 (seen room (first_call k))) (length-replicate stack 0)
      (reach_any p order room (start_map places) (start_world u input) begin (start_back (linked_data order p) stack main) long k (first_call k) (nested k) (answers k)) in
      counted_agrees (program_of u) name first_point machine room stack meant
      (agrees (step_in p order) (on begin) stack (λ k. seen room (first_call k)) turns reached whole)
