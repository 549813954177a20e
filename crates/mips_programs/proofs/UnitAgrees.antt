-- The functions of a generated unit are placed in its program, so this program on the machine does what the run of the
-- unit's forests does.
use Rattle.std.specs.Prelude.{◌≡◌, ◌≤◌, ℕ, suc, ◌+◌, ◌*◌, List, [], length, get_or, Some}
use Rattle.std.proofs.Common.{sym, ap, ◌∙◌, subst, arith}
use Rattle.asm_text.specs.Program.{MProgram, place_of}
use Rattle.asm_text.specs.Agrees.{Agrees}
use Rattle.asm_text.specs.Linked.{HasMain}
use Rattle.op_forest.specs.Callees.{Body, Defined}
use Rattle.op_forest.specs.Lowered.{LoweredUnit}
use Rattle.op_forest.specs.Units.{callee_of}
use Rattle.forests.specs.Units.{program_of}
use Rattle.asm_text.specs.Addresses.{code_start, address_by}
use Rattle.mips_machine.specs.Run.{mrun}
use Rattle.mips_target.specs.FunctionCode.{function_code}
use Rattle.unit_text.specs.Items.{StandsIn}
use Rattle.mips_programs.specs.Places.{places_of}
use Rattle.mips_programs.specs.Programs.{MayRead, IsAddressed, IsPlaced, ArePlaced}
use Rattle.program_runs.specs.Reached.{seen}
use Rattle.mips_programs.specs.WholePrograms.{forest_run, IsProgramOf, IsMainOf, IsMeant, CallsGetchar, ProgramsAgree}
use Rattle.mips_programs.specs.Working.{AreBytes}
use Rattle.mips_programs.proofs.Standing.{no_longer}
use Rattle.mips_programs.proofs.Naming.{HasPlace, built_in_place, has_place, called_address}
use Rattle.mips_programs.proofs.Called.{IsCalled, calls_map, function_calls}
use Rattle.mips_programs.proofs.Headline.{headline}
use Rattle.mips_programs.proofs.Whole.{answers}

module _ (u : LoweredUnit) (p : MProgram) (room : ℕ → ℕ) (of_unit : IsProgramOf u p room) where
  -- more than the instructions of any function
  abbrev long : ℕ
  long = suc (length p.code)

  addressed : (name : ℕ) → IsCalled u.names p.code name → IsAddressed p (program_of u) u.names (places_of u p) (CallsGetchar u p) name
  addressed name c = λ f value. called_address u p of_unit.lowered of_unit.program c.place name c.small c.at f value

  placed : (name : ℕ) (body : Body) → callee_of u name ≡ Defined body → HasPlace u p name body
  placed name body is = has_place u p of_unit.lowered of_unit.program name body is

  place_at : (name : ℕ) (body : Body) (h : HasPlace u p name body) → places_of u p name ≡ Some (code_start + 4 * h.entry)
  place_at name body h = ap (address_by (get_or u.names name [])) h.place

  function_placed : (name : ℕ) (body : Body) → callee_of u name ≡ Defined body → IsPlaced p (program_of u) u.names (places_of u p) (CallsGetchar u p) room long name body
  function_placed name body is =
      let h = placed name body is in
      let c = h.is_code in
      let r = of_unit.roomy name body is in
      let few = r.nodes_few in
      let frame = c.frame in
      let fit = r.frame in
      let code = function_code u.names c.layout c.allocated in
      let stands : StandsIn p.code h.found h.entry code = subst (λ xs. StandsIn p.code h.found h.entry xs) c.made h.stands in
      let short = no_longer p.code h.found h.entry code stands in
      record {
        virtual = c.virtual;
        selected = c.selected;
        allocated = c.allocated;
        layout = c.layout;
        form = c.form;
        follows = c.follows;
        slots = c.slots;
        among = c.registers;
        fits = c.fits;
        calls = calls_map (IsCalled u.names p.code) (IsAddressed p (program_of u) u.names (places_of u p) (CallsGetchar u p)) addressed c.allocated (function_calls u.names c.layout p.code h.found h.entry c.allocated c.fits stands);
        entry = h.entry;
        at = place_at name body h;
        found = h.found;
        stands = stands;
        short = omega (arith, short);
        roomy = omega (arith, frame, fit);
        small = omega (arith, frame, few);
      }

  unit_placed : ArePlaced p (program_of u) u.names (places_of u p) (CallsGetchar u p) room long
  unit_placed = record {
    ends = of_unit.ends;
    defined = function_placed;
    built_in = λ name b is. built_in_place u p of_unit.lowered of_unit.program name b is;
  }

  module _ (name : ℕ) (is_main : IsMainOf u name) (h : HasPlace u p name is_main.body) where
    main_label : HasMain p h.entry
    main_label = ap (λ n. place_of p.labels n) (sym is_main.named) ∙ h.place

    -- the program on the machine does what the run of the forests does
    main_agrees : (stack : ℕ) (input : List ℕ) → 4096 ≤ stack → stack ≤ 16777216 → (CallsGetchar u p → AreBytes input) → IsMeant u name input → Agrees (λ n. mrun p u.order stack h.entry input n) (λ k. seen room (forest_run u name input k)) stack
    main_agrees stack input low high bytes meant =
        headline u p u.order room (places_of u p) (CallsGetchar u p) (λ x. MayRead (CallsGetchar u p) (callee_of u x)) long stack name h.entry input (omega arith) low high (place_at name is_main.body h) (subst (MayRead (CallsGetchar u p)) (sym is_main.defined) tt) bytes (answers p u.order (program_of u) u.names (places_of u p) (CallsGetchar u p) room long unit_placed) meant

pub programs_agree : ProgramsAgree
programs_agree u p room name of_unit is_main =
    let h = placed u p room of_unit name is_main.body is_main.defined in
    (h.entry, main_label u p room of_unit name is_main h, main_agrees u p room of_unit name is_main h)
