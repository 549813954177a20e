-- Functions that agree at the names of code and data make the same of them.
use Rattle.std.proofs.Common.{◌≡◌, List, [], ◌∷◌, map, Option, Some, None, refl, ap, arith}
use Rattle.std.specs.Prelude.{All, option_map}
use Rattle.std.proofs.lemmas.List.Elements.{All-head, All-tail}
use Rattle.asm_lines.specs.declared.instruction.Address.{Address}
use Rattle.asm_lines.specs.declared.instruction.Target.{Target}
use Rattle.asm_lines.specs.declared.instruction.Target.TheVariants as target
use Rattle.asm_lines.specs.declared.instruction.Instruction.{Instruction}
use Rattle.asm_lines.specs.declared.instruction.Instruction.TheVariants.{LoadAddress, LoadNumber, Move, Unary, Binary, Load, Store, Branch, BranchIf, Jump, Call}
use Rattle.asm_lines.specs.Statements.{address_with, target_with, instruction_with}
use Rattle.asm_text.specs.declared.datum.Datum.{Datum}
use Rattle.asm_text.specs.declared.datum.Datum.TheVariants.{Byte, Half, Word, Named, Zeros}
use Rattle.asm_text.specs.Names.{name_in, target_names, names_of_instruction, names_of_datum, datum_with}

module _ {N M : Type 0} (f g : N → M) where
  -- they agree at these names
  abbrev pub Agree : List N → Type 0
  Agree names = All (λ n. f n ≡ g n) names

  one : (n : N) → Agree (n ∷ []) → f n ≡ g n
  one n h = h 0 n (omega arith)

  option_same : (o : Option N) → Agree (name_in o) → option_map f o ≡ option_map g o
  option_same None h = refl
  option_same (Some n) h = ap (λ (x : M). Some x) (one n h)

  address_same : (a : Address N) → Agree (name_in a.name) → address_with f a ≡ address_with g a
  address_same a h = ap (λ (o : Option M). record { name = o; offset = a.offset; base = a.base }) (option_same a.name h)

  target_same : (t : Target N) → Agree (target_names t) → target_with f t ≡ target_with g t
  target_same (target.Label n) h = ap (λ (x : M). target.Label x) (one n h)
  target_same (target.Register r) h = refl

  pub instruction_same : (i : Instruction N) → Agree (names_of_instruction i) → instruction_with f i ≡ instruction_with g i
  instruction_same (LoadAddress d a) h = ap (λ (x : Address M). LoadAddress d x) (address_same a h)
  instruction_same (LoadNumber d n) h = refl
  instruction_same (Move d s) h = refl
  instruction_same (Unary op d s) h = refl
  instruction_same (Binary op d s t) h = refl
  instruction_same (Load op d a) h = ap (λ (x : Address M). Load op d x) (address_same a h)
  instruction_same (Store op s a) h = ap (λ (x : Address M). Store op s x) (address_same a h)
  instruction_same (Branch n) h = ap (λ (x : M). Branch x) (one n h)
  instruction_same (BranchIf c s t n) h = ap (λ (x : M). BranchIf c s t x) (one n h)
  instruction_same (Jump to) h = ap (λ (x : Target M). Jump x) (target_same to h)
  instruction_same (Call to) h = ap (λ (x : Target M). Call x) (target_same to h)

  pub datum_same : (d : Datum N) → Agree (names_of_datum d) → datum_with f d ≡ datum_with g d
  datum_same (Byte n) h = refl
  datum_same (Half n) h = refl
  datum_same (Word n) h = refl
  datum_same (Named n k) h = ap (λ (x : M). Named x k) (one n h)
  datum_same (Zeros n) h = refl

  pub code_same : (code : List (Instruction N)) → All (λ i. Agree (names_of_instruction i)) code → map (instruction_with f) code ≡ map (instruction_with g) code
  code_same [] h = refl
  code_same (i ∷ is) h =
      let P : Instruction N → Type 0 = λ i. Agree (names_of_instruction i) in
      rw (instruction_same i (All-head P i is h), code_same is (All-tail P i is h)) refl

  pub data_same : (datums : List (Datum N)) → All (λ d. Agree (names_of_datum d)) datums → map (datum_with f) datums ≡ map (datum_with g) datums
  data_same [] h = refl
  data_same (d ∷ ds) h =
      let P : Datum N → Type 0 = λ d. Agree (names_of_datum d) in
      rw (datum_same d (All-head P d ds h), data_same ds (All-tail P d ds h)) refl

-- ---- one function behind another

module _ {A B C : Type 0} (f : A → B) (g : B → C) where
  option_after : (o : Option A) → option_map g (option_map f o) ≡ option_map (λ x. g (f x)) o
  option_after None = refl
  option_after (Some x) = refl

  address_after : (a : Address A) → address_with g (address_with f a) ≡ address_with (λ x. g (f x)) a
  address_after a = ap (λ (o : Option C). record { name = o; offset = a.offset; base = a.base }) (option_after a.name)

  target_after : (t : Target A) → target_with g (target_with f t) ≡ target_with (λ x. g (f x)) t
  target_after (target.Label n) = refl
  target_after (target.Register r) = refl

  pub instruction_after : (i : Instruction A) → instruction_with g (instruction_with f i) ≡ instruction_with (λ x. g (f x)) i
  instruction_after (LoadAddress d a) = ap (λ (x : Address C). LoadAddress d x) (address_after a)
  instruction_after (LoadNumber d n) = refl
  instruction_after (Move d s) = refl
  instruction_after (Unary op d s) = refl
  instruction_after (Binary op d s t) = refl
  instruction_after (Load op d a) = ap (λ (x : Address C). Load op d x) (address_after a)
  instruction_after (Store op s a) = ap (λ (x : Address C). Store op s x) (address_after a)
  instruction_after (Branch n) = refl
  instruction_after (BranchIf c s t n) = refl
  instruction_after (Jump to) = ap (λ (x : Target C). Jump x) (target_after to)
  instruction_after (Call to) = ap (λ (x : Target C). Call x) (target_after to)

module _ {A B : Type 0} (f : A → B) where
  option_names : (o : Option A) → name_in (option_map f o) ≡ map f (name_in o)
  option_names None = refl
  option_names (Some x) = refl

  target_names_with : (t : Target A) → target_names (target_with f t) ≡ map f (target_names t)
  target_names_with (target.Label n) = refl
  target_names_with (target.Register r) = refl

  -- the names change with the instruction
  pub names_with : (i : Instruction A) → names_of_instruction (instruction_with f i) ≡ map f (names_of_instruction i)
  names_with (LoadAddress d a) = option_names a.name
  names_with (LoadNumber d n) = refl
  names_with (Move d s) = refl
  names_with (Unary op d s) = refl
  names_with (Binary op d s t) = refl
  names_with (Load op d a) = option_names a.name
  names_with (Store op s a) = option_names a.name
  names_with (Branch n) = refl
  names_with (BranchIf c s t n) = refl
  names_with (Jump to) = target_names_with to
  names_with (Call to) = target_names_with to
