-- What lines make, as a program.
use Rattle.std.proofs.Common.{◌≡◌, ℕ, List, length, map, Option, codes, refl, sym, ap, ◌∙◌, subst}
use Rattle.std.specs.Prelude.{All}
use Rattle.std.proofs.lemmas.List.{length-map}
use Rattle.asm_lines.specs.declared.instruction.Instruction.{Instruction}
use Rattle.asm_lines.specs.declared.section.Section.{Section}
use Rattle.asm_text.specs.declared.datum.Datum.{Datum}
use Rattle.asm_text.specs.declared.place.Place.{Place}
use Rattle.asm_text.specs.Linked.{code_place, linked_name}
use Rattle.asm_text.specs.Made.{Use, label_at}
use Rattle.asm_text.specs.MadeTable.{IsMadeTable, made_view}
use Rattle.asm_text.specs.Makes.{program_of}
use Rattle.asm_text.specs.Names.{names_of_instruction, names_of_datum}
use Rattle.asm_text.specs.Paired.{paired}
use Rattle.asm_text.specs.Program.{MLabel, place_of}
use Rattle.asm_text.specs.ProgramTable.{AreBelow, IsProgramTable, program_view}
use Rattle.asm_text.specs.Uses.{used_names}

module _ (code : List (Instruction ℕ)) (numbers : List ℕ) (datums : List (Datum ℕ)) (labels : List MLabel) (us : List Use) (used names : List (List ℕ)) (places : List Place) (same_used : used ≡ used_names us) (same_labels : paired label_at places names ≡ labels) where
  -- it is seen as the same program
  pub program_seen : (section : Section) → program_view used code numbers datums names places ≡ program_of (made_view section code numbers datums labels us)
  program_seen section = rw (same_used, same_labels) refl

  as_long : length us ≡ length used
  as_long = sym (ap length same_used ∙ length-map us (λ (u : Use). u.name))

  -- and its table is one
  pub program_table : (size : ℕ) (addresses : List ℕ) (main : Option ℕ) → IsMadeTable code datums size us → addresses ≡ map (linked_name labels) (used_names us) → main ≡ code_place (place_of labels (codes "main")) → IsProgramTable (program_view used code numbers datums names places) used addresses code datums main
  program_table size addresses main t found start =
      let P : ℕ → Type 0 = λ n. All (λ (i : Instruction ℕ). AreBelow n (names_of_instruction i)) code in
      let Q : ℕ → Type 0 = λ n. All (λ (d : Datum ℕ). AreBelow n (names_of_datum d)) datums in
      record {
        known = found ∙ ap (λ ns. map (linked_name labels) ns) (sym same_used) ∙ ap (λ ls. map (linked_name ls) used) (sym same_labels);
        code_named = subst P as_long t.code_named;
        data_named = subst Q as_long t.data_named;
        start = start ∙ ap (λ ls. code_place (place_of ls (codes "main"))) (sym same_labels);
      }
