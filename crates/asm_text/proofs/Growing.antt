-- Names that are used keep their numbers while others come.
use Rattle.std.proofs.Common.{◌≡◌, ◌≤◌, ◌<◌, ◌+◌, ℕ, Bool, true, false, cond, List, [], ◌∷◌, ◌++◌, length, map, get_or, Result, Ok, Err, refl, sym, ap, ◌∙◌, arith}
use Rattle.std.specs.Prelude.{All, IfOk, OnErr}
use Rattle.std.proofs.lemmas.List.{append-nil, map-append, length-append, length-map, get_or_append_left}
use Rattle.asm_lines.specs.declared.instruction.Instruction.{Instruction}
use Rattle.asm_lines.specs.Statements.{instruction_with}
use Rattle.asm_text.specs.declared.datum.Datum.{Datum}
use Rattle.asm_lines.specs.declared.section.Section.{Section}
use Rattle.asm_text.specs.Made.{Use, is_used, with_use}
use Rattle.asm_text.specs.MadeTable.{IsMadeTable, made_view}
use Rattle.asm_text.specs.Names.{name_at, names_of_instruction, names_of_datum, datum_with}
use Rattle.asm_text.specs.Program.{MLabel}
use Rattle.asm_text.specs.ProgramTable.{AreBelow}
use Rattle.asm_text.specs.Uses.{used_names}
use Rattle.asm_text.proofs.SameNames.{Agree, code_same, data_same}

-- others go behind them
pub record Grows (us more : List Use) : Type 0 where
  pub rest : List Use
  pub is : more ≡ us ++ rest

pub grows_none : (us more : List Use) → more ≡ us → Grows us more
grows_none us more e = record { rest = []; is = e ∙ sym (append-nil us) }

grows_use : (line : ℕ) (us more : List Use) (name : List ℕ) → more ≡ with_use line us name → Grows us more
grows_use line us more name e = settled (is_used us name) refl where
  settled : (b : Bool) → is_used us name ≡ b → Grows us more
  settled true f = grows_none us more (e ∙ ap (λ (b : Bool). cond b us (us ++ record { name = name; line = line } ∷ [])) f)
  settled false f = record { rest = record { name = name; line = line } ∷ []; is = e ∙ ap (λ (b : Bool). cond b us (us ++ record { name = name; line = line } ∷ [])) f }

-- so it is behind a call that adds a name, also where that fails
pub grows_call : {T E : Type 0} (r : Result T E) (line : ℕ) (us more : List Use) (name : List ℕ) → IfOk r (λ _. more ≡ with_use line us name) → OnErr r (more ≡ us) → Grows us more
grows_call (Ok x) line us more name h k = grows_use line us more name h
grows_call (Err x) line us more name h k = grows_none us more k

module _ (us more : List Use) (g : Grows us more) where
  longer : length us ≤ length more
  longer = omega (arith, ap length g.is, length-append us g.rest)

  name_kept : (n : ℕ) → n < length us → name_at (used_names more) n ≡ name_at (used_names us) n
  name_kept n h =
      let name = λ (u : Use). u.name in
      let l : n < length (used_names us) = omega (arith, h, length-map us name) in
      ap (λ ns. name_at (used_names ns) n) g.is ∙ ap (λ ns. name_at ns n) (map-append name us g.rest) ∙ get_or_append_left (used_names us) (used_names g.rest) [] n l

  agree : (ns : List ℕ) → AreBelow (length us) ns → Agree (name_at (used_names more)) (name_at (used_names us)) ns
  agree ns h = λ k d l. name_kept (get_or ns k d) (h k d l)

  below : (ns : List ℕ) → AreBelow (length us) ns → AreBelow (length more) ns
  below ns h = λ k d l. omega (arith, h k d l, longer)

  -- code and data keep their names
  pub code_kept : (code : List (Instruction ℕ)) → All (λ i. AreBelow (length us) (names_of_instruction i)) code → map (instruction_with (name_at (used_names more))) code ≡ map (instruction_with (name_at (used_names us))) code
  code_kept code h = code_same (name_at (used_names more)) (name_at (used_names us)) code (λ k d l. agree (names_of_instruction (get_or code k d)) (h k d l))

  pub data_kept : (datums : List (Datum ℕ)) → All (λ d. AreBelow (length us) (names_of_datum d)) datums → map (datum_with (name_at (used_names more))) datums ≡ map (datum_with (name_at (used_names us))) datums
  data_kept datums h = data_same (name_at (used_names more)) (name_at (used_names us)) datums (λ k d l. agree (names_of_datum (get_or datums k d)) (h k d l))

  -- and the table stays one
  pub table_kept : (code : List (Instruction ℕ)) (datums : List (Datum ℕ)) (size : ℕ) → IsMadeTable code datums size us → IsMadeTable code datums size more
  table_kept code datums size t = record {
    code_named = λ k d l. below (names_of_instruction (get_or code k d)) (t.code_named k d l);
    data_named = λ k d l. below (names_of_datum (get_or datums k d)) (t.data_named k d l);
    size_is = t.size_is;
    code_few = t.code_few;
    data_few = t.data_few;
  }

  -- what is seen differs in the names alone
  pub view_kept : (section : Section) (code : List (Instruction ℕ)) (numbers : List ℕ) (datums : List (Datum ℕ)) (labels : List MLabel) (size : ℕ) → IsMadeTable code datums size us → made_view section code numbers datums labels more ≡ record (made_view section code numbers datums labels us) { uses = more }
  view_kept section code numbers datums labels size t = rw (code_kept code t.code_named, data_kept datums t.data_named) refl
