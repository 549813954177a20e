-- The operands of instructions and directives, as tokens: registers `$0` to `$31`, `$sp` for `$29`; values; places to jump
-- to; addresses `[name][sum][($r)]` of at least one part, in which a sum behind a name has its sign; the items of data.
use Rattle.std.specs.Prelude.{◌≡◌, ◌<◌, ◌⊎◌, ℕ, ◌%◌, ◌^◌, Option, Some, None, List, [], ◌∷◌, codes, decimal}
use Rattle.asm_lines.specs.declared.instruction.Address.{Address}
use Rattle.asm_lines.specs.declared.instruction.Target.{Target}
use Rattle.asm_lines.specs.declared.instruction.Target.TheVariants as target
use Rattle.asm_lines.specs.declared.instruction.Value.{Value}
use Rattle.asm_lines.specs.declared.instruction.Value.TheVariants as value
use Rattle.asm_lines.specs.declared.instruction.Instruction.{Instruction}
use Rattle.asm_lines.specs.declared.instruction.Instruction.TheVariants.{LoadAddress, LoadNumber, Move, Unary, Binary, Load, Store, Branch, BranchIf, Jump, Call}
use Rattle.asm_lines.specs.Tokens.{Tok, Word, Dollar, Comma, Open, Close, Spaced}
use Rattle.asm_lines.specs.Numbers.{IsNumber, AreLinks, IsSum}

abbrev pub IsRegister : Tok → ℕ → Type 0
IsRegister (Dollar name) r = ((name ≡ decimal r) × (r < 32)) ⊎ ((name ≡ codes "sp") × (r ≡ 29))
IsRegister t r = ⊥

-- a register stands first, and rest behind it
abbrev pub RegisterThen : List Spaced → ℕ → List Spaced → Type 0
RegisterThen [] r rest = ⊥
RegisterThen (t ∷ ts) r rest = IsRegister t.tok r × (ts ≡ rest)

-- a name stands first, and rest behind it
abbrev pub NameThen : List Spaced → List ℕ → List Spaced → Type 0
NameThen [] name rest = ⊥
NameThen (t ∷ ts) name rest = (t.tok ≡ Word name) × (ts ≡ rest)

abbrev pub CommaThen : List Spaced → List Spaced → Type 0
CommaThen [] rest = ⊥
CommaThen (t ∷ ts) rest = (t.tok ≡ Comma) × (ts ≡ rest)

-- a register and a comma stand first, and rest behind them
abbrev pub RegisterComma : List Spaced → ℕ → List Spaced → Type 0
RegisterComma ts r rest = (mid : List Spaced) × RegisterThen ts r mid × CommaThen mid rest

abbrev pub ValueThen : List Spaced → Value → List Spaced → Type 0
ValueThen ts (value.Register r) rest = RegisterThen ts r rest
ValueThen ts (value.Number n) rest = IsNumber ts n rest

abbrev pub IsTarget : List Spaced → Target (List ℕ) → Type 0
IsTarget ts (target.Label name) = NameThen ts name []
IsTarget ts (target.Register r) = RegisterThen ts r []

-- `($r)`, or nothing
abbrev pub IsBase : List Spaced → Option ℕ → Type 0
IsBase ts None = ts ≡ []
IsBase [] (Some r) = ⊥
IsBase (t ∷ ts) (Some r) = (t.tok ≡ Open) × ((mid : List Spaced) × RegisterThen ts r mid × ((c : Spaced) × (mid ≡ c ∷ []) × (c.tok ≡ Close)))

-- a name with its sum, or a sum
abbrev pub PlaceThen : List Spaced → Option (List ℕ) → ℕ → List Spaced → Type 0
PlaceThen ts (Some name) n rest = (mid : List Spaced) × NameThen ts name mid × AreLinks mid 0 n rest
PlaceThen ts None n rest = IsSum ts n rest

-- the base alone, or a place with or without a base
abbrev pub IsAddress : List Spaced → Address (List ℕ) → Type 0
IsAddress ts a =
    ((a.name ≡ None) × (a.offset ≡ 0) × ((r : ℕ) × (a.base ≡ Some r) × IsBase ts (Some r)))
    ⊎ ((mid : List Spaced) × PlaceThen ts a.name a.offset mid × IsBase mid a.base)

-- the operands of an instruction
abbrev pub AreOperands : List Spaced → Instruction (List ℕ) → Type 0
AreOperands ts (LoadAddress d a) = (mid : List Spaced) × RegisterComma ts d mid × IsAddress mid a
AreOperands ts (LoadNumber d n) = (mid : List Spaced) × RegisterComma ts d mid × IsNumber mid n []
AreOperands ts (Move d s) = (mid : List Spaced) × RegisterComma ts d mid × RegisterThen mid s []
AreOperands ts (Unary op d s) = (mid : List Spaced) × RegisterComma ts d mid × RegisterThen mid s []
AreOperands ts (Binary op d s t) = (mid behind : List Spaced) × RegisterComma ts d mid × RegisterComma mid s behind × ValueThen behind t []
AreOperands ts (Load op d a) = (mid : List Spaced) × RegisterComma ts d mid × IsAddress mid a
AreOperands ts (Store op s a) = (mid : List Spaced) × RegisterComma ts s mid × IsAddress mid a
AreOperands ts (Branch name) = NameThen ts name []
AreOperands ts (BranchIf c s t name) = (mid behind last : List Spaced) × RegisterComma ts s mid × ValueThen mid t behind × CommaThen behind last × NameThen last name []
AreOperands ts (Jump to) = IsTarget ts to
AreOperands ts (Call to) = IsTarget ts to

-- one or more items, with commas between them, are all there is
abbrev pub Listed : {A : Type 0} → (List Spaced → A → List Spaced → Type 0) → List Spaced → List A → Type 0
Listed Item ts [] = ⊥
Listed Item ts (a ∷ []) = Item ts a []
Listed Item ts (a ∷ b ∷ more) = (mid rest : List Spaced) × Item ts a mid × CommaThen mid rest × Listed Item rest (b ∷ more)

-- an item of words: a name with its sum, or a sum
abbrev pub IsWordItem : List Spaced → Option (List ℕ) × ℕ → List Spaced → Type 0
IsWordItem ts item rest = PlaceThen ts item.0 item.1 rest

-- an item of fewer bits: those that are kept of a sum
abbrev pub IsPartItem : ℕ → List Spaced → ℕ → List Spaced → Type 0
IsPartItem bits ts n rest = (sum : ℕ) × IsSum ts sum rest × (n ≡ sum % 2 ^ bits)
