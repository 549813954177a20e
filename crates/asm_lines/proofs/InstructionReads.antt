-- What stands behind the front of an instruction's operands, and instructions of one mnemonic.
use Rattle.std.proofs.Common.{◌≡◌, ℕ, List, [], sym, subst, ◌∙◌}
use Rattle.asm_lines.specs.declared.instruction.Address.{Address}
use Rattle.asm_lines.specs.declared.instruction.Instruction.{Instruction}
use Rattle.asm_lines.specs.declared.instruction.Instruction.TheVariants.{LoadAddress, LoadNumber, Move, Unary, Binary, Load, Store, BranchIf}
use Rattle.asm_lines.specs.declared.instruction.Value.{Value}
use Rattle.asm_lines.specs.declared.mnemonic.Mnemonic.{Mnemonic}
use Rattle.asm_lines.specs.declared.mnemonic.Mnemonic.TheVariants as mnemonic
use Rattle.asm_lines.specs.declared.operator.UnaryOp.{UnaryOp}
use Rattle.asm_lines.specs.declared.operator.BinaryOp.{BinaryOp}
use Rattle.asm_lines.specs.declared.operator.LoadOp.{LoadOp}
use Rattle.asm_lines.specs.declared.operator.StoreOp.{StoreOp}
use Rattle.asm_lines.specs.declared.operator.Condition.{Condition}
use Rattle.asm_lines.specs.Tokens.{Spaced}
use Rattle.asm_lines.specs.Operands.{NameThen, CommaThen, RegisterComma, ValueThen, AreOperands}
use Rattle.asm_lines.specs.Words.{head_of}
use Rattle.asm_lines.proofs.OneOperand.{one_register_comma}

-- what holds behind one reading holds behind the other
pub behind_register : (P : List Spaced → Type 0) (ts x y z : List Spaced) (r d : ℕ) → RegisterComma ts r x → x ≡ z → RegisterComma ts d y → P y → P z
behind_register P ts x y z r d p e q h = subst P (sym (one_register_comma ts x y r d p q).1 ∙ e) h

-- a register, a value and a name, read one behind the other
pub name_last : (ts x a y b z : List Spaced) (r q : ℕ) (v w : Value) (name : List ℕ) → RegisterComma ts r x → r ≡ q → x ≡ a → ValueThen a v y → v ≡ w → y ≡ b → CommaThen b z → NameThen z name [] → (mid behind last : List Spaced) × RegisterComma ts q mid × ValueThen mid w behind × CommaThen behind last × NameThen last name []
name_last ts x a y b z r q v w name p e f h g k m n =
    let R : ℕ → Type 0 = λ i. RegisterComma ts i a in
    let L : List Spaced → Type 0 = λ l. RegisterComma ts r l in
    let V : Value → Type 0 = λ u. ValueThen a u y in
    let C : List Spaced → Type 0 = λ l. CommaThen l z in
    (a, y, z, subst R e (subst L f p), subst V g h, subst C (sym k) m, n)

-- ---- no instruction of a mnemonic where it has no operands

abbrev pub NoneOf : List Spaced → Mnemonic → Type 0
NoneOf ts m = (i : Instruction (List ℕ)) → head_of i ≡ m → AreOperands ts i → ⊥

pub no_load_address : (ts : List Spaced) (m : Mnemonic) → m ≡ mnemonic.LoadAddress → ((d : ℕ) (a : Address (List ℕ)) → AreOperands ts (LoadAddress d a) → ⊥) → NoneOf ts m
no_load_address ts m e h (LoadAddress d a) f p = h d a p
no_load_address ts m e h i f p = absurd cc

pub no_load_number : (ts : List Spaced) (m : Mnemonic) → m ≡ mnemonic.LoadNumber → ((d : ℕ) (n : ℕ) → AreOperands ts (LoadNumber d n) → ⊥) → NoneOf ts m
no_load_number ts m e h (LoadNumber d n) f p = h d n p
no_load_number ts m e h i f p = absurd cc

pub no_move : (ts : List Spaced) (m : Mnemonic) → m ≡ mnemonic.Move → ((d : ℕ) (s : ℕ) → AreOperands ts (Move d s) → ⊥) → NoneOf ts m
no_move ts m e h (Move d s) f p = h d s p
no_move ts m e h i f p = absurd cc

pub no_unary : (ts : List Spaced) (m : Mnemonic) (op : UnaryOp) → m ≡ mnemonic.Unary op → ((d : ℕ) (s : ℕ) → AreOperands ts (Unary op d s) → ⊥) → NoneOf ts m
no_unary ts m op e h (Unary o d s) f p = h d s p
no_unary ts m op e h i f p = absurd cc

pub no_binary : (ts : List Spaced) (m : Mnemonic) (op : BinaryOp) → m ≡ mnemonic.Binary op → ((d : ℕ) (s : ℕ) (t : Value) → AreOperands ts (Binary op d s t) → ⊥) → NoneOf ts m
no_binary ts m op e h (Binary o d s t) f p = h d s t p
no_binary ts m op e h i f p = absurd cc

pub no_load : (ts : List Spaced) (m : Mnemonic) (op : LoadOp) → m ≡ mnemonic.Load op → ((d : ℕ) (a : Address (List ℕ)) → AreOperands ts (Load op d a) → ⊥) → NoneOf ts m
no_load ts m op e h (Load o d a) f p = h d a p
no_load ts m op e h i f p = absurd cc

pub no_store : (ts : List Spaced) (m : Mnemonic) (op : StoreOp) → m ≡ mnemonic.Store op → ((d : ℕ) (a : Address (List ℕ)) → AreOperands ts (Store op d a) → ⊥) → NoneOf ts m
no_store ts m op e h (Store o d a) f p = h d a p
no_store ts m op e h i f p = absurd cc

pub no_branch_if : (ts : List Spaced) (m : Mnemonic) (op : Condition) → m ≡ mnemonic.BranchIf op → ((s : ℕ) (t : Value) (name : List ℕ) → AreOperands ts (BranchIf op s t name) → ⊥) → NoneOf ts m
no_branch_if ts m op e h (BranchIf o s t name) f p = h s t name p
no_branch_if ts m op e h i f p = absurd cc
