-- Items and statements with other names.
use Rattle.std.proofs.Common.{◌≡◌, ◌<◌, ℕ, Option, Some, None, List, [], ◌∷◌, ◌++◌, map, refl, subst, sym, ap, ◌∙◌}
use Rattle.std.proofs.lemmas.List.Elements.{All-nil, All-cons, All-head, All-tail, All-map, All-weaker}
use Rattle.std.specs.Prelude.{All, option_map}
use Rattle.asm_lines.specs.declared.instruction.Instruction.{Instruction}
use Rattle.asm_lines.specs.declared.statement.Item.{Item}
use Rattle.asm_lines.specs.declared.statement.Statement.{Statement}
use Rattle.asm_lines.specs.declared.statement.Statement.TheVariants as statement
use Rattle.asm_lines.specs.Statements.{instruction_with, item_by, told_by, Global, Words, Does}
use Rattle.asm_text.specs.LineTable.{numbers_of_items, numbers_in}
use Rattle.asm_text.specs.Names.{name_in, names_of_instruction}
use Rattle.asm_text.specs.ProgramTable.{AreBelow}
use Rattle.asm_text.proofs.SameNames.{Agree, instruction_same, instruction_after, names_with}
use Rattle.asm_text.proofs.Split.{All-left, All-right}

-- ---- where two functions agree on the names

pub names_same : {A B : Type 0} (f g : A → B) (xs : List A) → Agree f g xs → map f xs ≡ map g xs
names_same {A} {B} f g [] h = refl
names_same {A} {B} f g (x ∷ xs) h =
    ap (λ (y : B). y ∷ map f xs) (All-head (λ a. f a ≡ g a) x xs h) ∙ ap (λ (ys : List B). g x ∷ ys) (names_same f g xs (All-tail (λ a. f a ≡ g a) x xs h))

name_same : {A : Type 0} (f g : A → List ℕ) (o : Option A) → Agree f g (name_in o) → option_map f o ≡ option_map g o
name_same {A} f g None h = refl
name_same {A} f g (Some a) h = ap (λ (b : List ℕ). Some b) (All-head (λ a. f a ≡ g a) a [] h)

item_same : (f g : ℕ → List ℕ) (i : Item ℕ) → Agree f g (name_in i.name) → item_by f i ≡ item_by g i
item_same f g i h = ap (λ (o : Option (List ℕ)). (o, i.value)) (name_same f g i.name h)

pub items_same : (f g : ℕ → List ℕ) (is : List (Item ℕ)) → Agree f g (numbers_of_items is) → map (item_by f) is ≡ map (item_by g) is
items_same f g [] h = refl
items_same f g (i ∷ is) h =
    ap (λ (j : Option (List ℕ) × ℕ). j ∷ map (item_by f) is) (item_same f g i (All-left (λ a. f a ≡ g a) (name_in i.name) (numbers_of_items is) h)) ∙ ap (λ (js : List (Option (List ℕ) × ℕ)). item_by g i ∷ js) (items_same f g is (All-right (λ a. f a ≡ g a) (name_in i.name) (numbers_of_items is) h))

pub told_same : (f g : ℕ → List ℕ) (s : Statement ℕ) → Agree f g (numbers_in s) → told_by f s ≡ told_by g s
told_same f g statement.Nothing h = refl
told_same f g statement.Text h = refl
told_same f g statement.Data h = refl
told_same f g (statement.Global n) h = ap (λ (b : List ℕ). Global b) (All-head (λ a. f a ≡ g a) n [] h)
told_same f g (statement.Align n) h = refl
told_same f g (statement.Words items) h = ap (λ (js : List (Option (List ℕ) × ℕ)). Words js) (items_same f g items h)
told_same f g (statement.Halves halves) h = refl
told_same f g (statement.Bytes bytes) h = refl
told_same f g (statement.Space n) h = refl
told_same f g (statement.Instruction i) h = ap (λ (j : Instruction (List ℕ)). Does j) (instruction_same f g i h)

-- ---- an instruction whose name is replaced by one that stands for it

pub instruction_one : {A B : Type 0} (f : A → List ℕ) (g : B → List ℕ) (b : B) (i : Instruction A) (j : Instruction B) → j ≡ instruction_with (λ _. b) i → All (λ a. g b ≡ f a) (names_of_instruction i) → instruction_with g j ≡ instruction_with f i
instruction_one {A} {B} f g b i j e h =
    ap (instruction_with g) e ∙ instruction_after (λ (_ : A). b) g i ∙ instruction_same (λ (_ : A). g b) f i h

pub numbers_one : {A : Type 0} (n count : ℕ) (i : Instruction A) (j : Instruction ℕ) → j ≡ instruction_with (λ _. n) i → All (λ _. n < count) (names_of_instruction i) → AreBelow count (names_of_instruction j)
numbers_one {A} n count i j e h =
    subst (λ (k : Instruction ℕ). AreBelow count (names_of_instruction k)) (sym e) (subst (λ (ns : List ℕ). AreBelow count ns) (sym (names_with (λ (_ : A). n) i)) (All-map (λ m. m < count) (λ (_ : A). n) (names_of_instruction i) h))
