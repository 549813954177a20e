-- Instructions that are added, with the numbers of their names.
use Rattle.std.proofs.Common.{◌≡◌, ◌<◌, ◌+◌, ℕ, List, [], ◌∷◌, ◌++◌, length, map, Option, Some, None, refl, sym, ap, ◌∙◌, subst, arith}
use Rattle.std.specs.Prelude.{All, IfSome, option_map, slice_get}
use Rattle.std.specs.Borrow.{Bor}
use Rattle.std.proofs.lemmas.List.{length-map, length_push, map_push}
use Rattle.std.proofs.lemmas.List.Elements.{All-nil, All-cons, All-push}
use Rattle.std.proofs.lemmas.Option.{get_or_from_slice_get, slice_get_within}
use Rattle.asm_lines.specs.declared.instruction.Instruction.{Instruction}
use Rattle.asm_lines.specs.declared.section.Section.{Section}
use Rattle.asm_lines.specs.Statements.{instruction_with}
use Rattle.asm_text.specs.declared.datum.Datum.{Datum}
use Rattle.asm_text.specs.Added.{with_code}
use Rattle.asm_text.specs.Made.{Use}
use Rattle.asm_text.specs.MadeTable.{IsMadeTable, made_view}
use Rattle.asm_text.specs.Names.{name_at, name_in, names_of_instruction}
use Rattle.asm_text.specs.Program.{MInstruction, MLabel}
use Rattle.asm_text.specs.ProgramTable.{AreBelow}
use Rattle.asm_text.specs.Uses.{used_names}
use Rattle.asm_text.proofs.SameNames.{instruction_same, instruction_after, names_with}

abbrev pub Key : Type 0
Key = Bor (List ℕ)

abbrev pub now : Key → List ℕ
now k = k.now

-- an instruction, its name if it has one, and the number of that among the names that are used
module _ (us : List Use) (n : ℕ) (i : Instruction Key) (o : Option Key) (only : name_in o ≡ names_of_instruction i) (at : IfSome o (λ x. slice_get (used_names us) n ≡ Some x.now)) where
  agree : (o : Option Key) → IfSome o (λ x. slice_get (used_names us) n ≡ Some x.now) → All (λ x. name_at (used_names us) n ≡ now x) (name_in o)
  agree None h = All-nil (λ x. name_at (used_names us) n ≡ now x)
  agree (Some x) h = All-cons (λ x. name_at (used_names us) n ≡ now x) x [] (get_or_from_slice_get (used_names us) n x.now [] h) (All-nil (λ x. name_at (used_names us) n ≡ now x))

  -- its name is found at the number
  pub numbered : instruction_with (name_at (used_names us)) (instruction_with (λ _. n) i) ≡ instruction_with now i
  numbered =
      let P : List Key → Type 0 = λ ks. All (λ x. name_at (used_names us) n ≡ now x) ks in
      instruction_after (λ (x : Key). n) (name_at (used_names us)) i ∙ instruction_same (λ x. name_at (used_names us) n) now i (subst P only (agree o at))

  small : (o : Option Key) → IfSome o (λ x. slice_get (used_names us) n ≡ Some x.now) → AreBelow (length us) (map (λ (x : Key). n) (name_in o))
  small None h = All-nil (λ m. m < length us)
  small (Some x) h =
      let w = slice_get_within (used_names us) n x.now h in
      let l = length-map us (λ (u : Use). u.name) in
      All-cons (λ m. m < length us) n [] (omega (arith, w, l)) (All-nil (λ m. m < length us))

  pub number_below : AreBelow (length us) (names_of_instruction (instruction_with (λ _. n) i))
  number_below =
      let e = names_with (λ (x : Key). n) i ∙ ap (λ ks. map (λ (x : Key). n) ks) (sym only) in
      let P : List ℕ → Type 0 = λ ns. AreBelow (length us) ns in
      subst P (sym e) (small o at)

  -- the names that it uses
  pub name_used : names_of_instruction (instruction_with now i) ≡ name_in (option_map now o)
  name_used = names_with now i ∙ ap (λ ks. map now ks) (sym only) ∙ in_option o where
    in_option : (o : Option Key) → map now (name_in o) ≡ name_in (option_map now o)
    in_option None = refl
    in_option (Some x) = refl

-- the table with an instruction more
pub table_code : (code more : List (Instruction ℕ)) (i : Instruction ℕ) (datums : List (Datum ℕ)) (size : ℕ) (us : List Use) → more ≡ code ++ i ∷ [] → length code < 4194304 → AreBelow (length us) (names_of_instruction i) → IsMadeTable code datums size us → IsMadeTable more datums size us
table_code code more i datums size us e few below t =
    let P : Instruction ℕ → Type 0 = λ i. AreBelow (length us) (names_of_instruction i) in
    let Q : List (Instruction ℕ) → Type 0 = λ c. All P c in
    record {
      code_named = subst Q (sym e) (All-push P code i t.code_named below);
      data_named = t.data_named;
      size_is = t.size_is;
      code_few = omega (arith, ap length e, length_push code i, few);
      data_few = t.data_few;
    }

-- and how it is seen
pub view_code : (section : Section) (code more : List (Instruction ℕ)) (i : Instruction ℕ) (numbers lines : List ℕ) (line : ℕ) (datums : List (Datum ℕ)) (labels : List MLabel) (us : List Use) → more ≡ code ++ i ∷ [] → lines ≡ numbers ++ line ∷ [] → made_view section more lines datums labels us ≡ with_code (made_view section code numbers datums labels us) line (instruction_with (name_at (used_names us)) i)
view_code section code more i numbers lines line datums labels us e f = rw (e, f, map_push (instruction_with (name_at (used_names us))) code i) refl

-- what is seen as the same code is as long
pub same_length : (a b : List (Instruction ℕ)) (f g : ℕ → List ℕ) (seen : List MInstruction) → map (instruction_with f) a ≡ seen → map (instruction_with g) b ≡ seen → length b ≡ length a
same_length a b f g seen h k = sym (length-map b (instruction_with g)) ∙ ap length k ∙ sym (ap length h) ∙ length-map a (instruction_with f)
