-- What the readers of registers, names, values and targets find.
use Rattle.std.proofs.Common.{◌≡◌, ◌<◌, ℕ, Bool, true, false, Option, Some, None, IfNone, List, [], ◌∷◌, refl, sym, ap, subst, ◌∙◌, arith, codes, decimal, inl, inr}
use Rattle.std.specs.Str.{bytes_eq}
use Rattle.std.proofs.lemmas.Slice.Eq.{bytes_eq-Decides}
use Rattle.lcc_text.specs.Decimal.{value_of}
use Rattle.asm_lines.specs.declared.instruction.Value.{Value}
use Rattle.asm_lines.specs.declared.instruction.Value.TheVariants as value
use Rattle.asm_lines.specs.declared.instruction.Target.{Target}
use Rattle.asm_lines.specs.declared.instruction.Target.TheVariants as target
use Rattle.asm_lines.specs.declared.token.Kind.TheVariants as kind
use Rattle.asm_lines.specs.declared.token.Token.{Token}
use Rattle.asm_lines.specs.Tokens.{Tok, Dollar, Spaced, tok_of, views}
use Rattle.asm_lines.specs.Numbers.{IsNumber}
use Rattle.asm_lines.specs.Operands.{IsRegister, RegisterThen, NameThen, ValueThen, IsTarget}
use Rattle.asm_lines.proofs.lemmas.Numerals.{value_decimal}

-- a fact serves whether there is a value or not
pub if_none : {A P : Type 0} (r : Option A) → P → IfNone r P
if_none {A} {P} None h = h
if_none {A} {P} (Some x) h = tt

pub unlike : (xs ys : List ℕ) (r : Bool) → r ≡ bytes_eq xs ys → r ≡ false → xs ≡ ys → ⊥
unlike xs ys r e f g = let t : bytes_eq xs ys ≡ true = (bytes_eq-Decides xs ys).1 g in cc

register_value : (name : List ℕ) (r : ℕ) → name ≡ decimal r → r < 32 → value_of name ≡ r
register_value name r e h = ap value_of e ∙ value_decimal r (omega arith)

-- a name that writes more than 31 is no register's
pub no_register : (name : List ℕ) → (name ≡ codes "sp" → ⊥) → 31 < value_of name → (r : ℕ) → IsRegister (Dollar name) r → ⊥
no_register name s l r h = elim h [
  | inl k ↦ (let e = register_value name r k.0 k.1 in let f = k.1 in omega arith)
  | inr k ↦ s k.0
]

-- a name that isn't its value's numeral is no register's
pub no_numeral : (name : List ℕ) (v : ℕ) → (name ≡ codes "sp" → ⊥) → v ≡ value_of name → (decimal v ≡ name → ⊥) → (r : ℕ) → IsRegister (Dollar name) r → ⊥
no_numeral name v s e d r h = elim h [
  | inl k ↦ d (ap decimal (e ∙ register_value name r k.0 k.1) ∙ sym k.0)
  | inr k ↦ s k.0
]

pub no_register_read : (tokens rest : List Token) (first : Token) → tokens ≡ first ∷ rest → first.kind ≡ kind.Dollar → ((r : ℕ) → IsRegister (Dollar first.text.now) r → ⊥) → (r : ℕ) (more : List Spaced) → RegisterThen (views tokens) r more → ⊥
no_register_read tokens rest first e k h r more p =
    let P : List Token → Type 0 = λ l. RegisterThen (views l) r more in
    let Q : Tok → Type 0 = λ t. IsRegister t r in
    let f : tok_of first.kind first.text.now ≡ Dollar first.text.now = rw k refl in
    h r (subst Q f (subst P e p).0)

pub no_value : (ts : List Spaced) → ((r : ℕ) (rest : List Spaced) → RegisterThen ts r rest → ⊥) → ((n : ℕ) (rest : List Spaced) → IsNumber ts n rest → ⊥) → (v : Value) (rest : List Spaced) → ValueThen ts v rest → ⊥
no_value ts h k (value.Register r) rest p = h r rest p
no_value ts h k (value.Number n) rest p = k n rest p

pub no_target : (ts : List Spaced) → ((n : List ℕ) → NameThen ts n [] → ⊥) → ((r : ℕ) → RegisterThen ts r [] → ⊥) → (t : Target (List ℕ)) → IsTarget ts t → ⊥
no_target ts h k (target.Label n) p = h n p
no_target ts h k (target.Register r) p = k r p
