-- The tokens of printed operands: they are written as they are printed, each ends where the next begins, and they are
-- the operands.
use Rattle.std.proofs.Common.{◌≡◌, ◌≤◌, ◌<◌, ◌+◌, ◌%◌, ◌^◌, ℕ, zero, suc, Bool, true, false, Option, Some, None, List, [], ◌∷◌, ◌++◌, decimal, refl, sym, ap, ◌∙◌, append_assoc, inl, inr, arith}
use Rattle.std.specs.Prelude.{◌==◌}
use Rattle.std.proofs.lemmas.Bool.Decides.{nat_tests}
use Rattle.std.proofs.lemmas.List.{append-nil}
use Rattle.lcc_text.specs.Classes.{StopsIn}
use Rattle.lcc_text.specs.Decimal.{value_of}
use Rattle.asm_lines.specs.declared.class.AsmClass.TheVariants.{Symbol}
use Rattle.asm_lines.specs.declared.instruction.Address.{Address}
use Rattle.asm_lines.specs.declared.instruction.Target.{Target}
use Rattle.asm_lines.specs.declared.instruction.Target.TheVariants as target
use Rattle.asm_lines.specs.declared.instruction.Value.{Value}
use Rattle.asm_lines.specs.declared.instruction.Value.TheVariants as value
use Rattle.asm_lines.specs.declared.instruction.Instruction.{Instruction}
use Rattle.asm_lines.specs.declared.instruction.Instruction.TheVariants.{LoadAddress, LoadNumber, Move, Unary, Binary, Load, Store, Branch, BranchIf, Jump, Call}
use Rattle.asm_lines.specs.Classes.{in_asm}
use Rattle.asm_lines.specs.Tokens.{Tok, Word, Decimal, Dollar, Comma, Open, Close, Plus, IsToken}
use Rattle.asm_lines.specs.Numbers.{Plain, IsNumber, CountStands, AreLinks, IsSum}
use Rattle.asm_lines.specs.Operands.{IsRegister, ValueThen, IsTarget, IsBase, PlaceThen, IsAddress, AreOperands}
use Rattle.asm_lines.specs.Printed.{register_text, value_text, target_text, place_text, based_text, operands_text}
use Rattle.asm_lines.specs.Within.{IsValueWithin, IsTargetWithin, IsBaseWithin, IsInstructionWithin}
use Rattle.asm_lines.specs.Printable.{IsNamed, IsTargetNamed, AreInstructionNames}
use Rattle.asm_lines.proofs.lemmas.Numerals.{value_decimal, digits_decimal}
use Rattle.asm_lines.proofs.lemmas.Written.{spaced, written, Fits, starts_symbol, digits_symbols}

abbrev pub register_token : ℕ → Tok
register_token r = Dollar (decimal r)

abbrev pub number_token : ℕ → Tok
number_token n = Decimal (decimal n)

abbrev pub value_token : Value → Tok
value_token (value.Register r) = register_token r
value_token (value.Number n) = number_token n

abbrev target_token : Target (List ℕ) → Tok
target_token (target.Label name) = Word name
target_token (target.Register r) = register_token r

abbrev pub place_tokens : Option (List ℕ) → ℕ → List Tok → List Tok
place_tokens None n behind = number_token n ∷ behind
place_tokens (Some name) zero behind = Word name ∷ behind
place_tokens (Some name) (suc n) behind = Word name ∷ Plus ∷ number_token (suc n) ∷ behind

abbrev base_tokens : ℕ → List Tok
base_tokens r = Open ∷ register_token r ∷ Close ∷ []

abbrev based_tokens : Option (List ℕ) → ℕ → Option ℕ → List Tok
based_tokens name n None = place_tokens name n []
based_tokens None zero (Some r) = base_tokens r
based_tokens name n (Some r) = place_tokens name n (base_tokens r)

abbrev address_tokens : Address (List ℕ) → List Tok
address_tokens a = based_tokens a.name a.offset a.base

abbrev pub operand_tokens : Instruction (List ℕ) → List Tok
operand_tokens (LoadAddress d a) = register_token d ∷ Comma ∷ address_tokens a
operand_tokens (LoadNumber d n) = register_token d ∷ Comma ∷ number_token n ∷ []
operand_tokens (Move d s) = register_token d ∷ Comma ∷ register_token s ∷ []
operand_tokens (Unary op d s) = register_token d ∷ Comma ∷ register_token s ∷ []
operand_tokens (Binary op d s t) = register_token d ∷ Comma ∷ register_token s ∷ Comma ∷ value_token t ∷ []
operand_tokens (Load op d a) = register_token d ∷ Comma ∷ address_tokens a
operand_tokens (Store op s a) = register_token s ∷ Comma ∷ address_tokens a
operand_tokens (Branch name) = Word name ∷ []
operand_tokens (BranchIf c s t name) = register_token s ∷ Comma ∷ value_token t ∷ Comma ∷ Word name ∷ []
operand_tokens (Jump to) = target_token to ∷ []
operand_tokens (Call to) = target_token to ∷ []

-- ---- their text

no_zero : (n : ℕ) → (suc n == 0) ≡ false
no_zero n = grind (arith, nat_tests)

pub place_written : (name : Option (List ℕ)) (n : ℕ) (behind : List Tok) → written (place_tokens name n behind) ≡ place_text name n ++ written behind
place_written None n behind = refl
place_written (Some name) zero behind = refl
place_written (Some name) (suc n) behind = let e = no_zero n in rw e (sym (append_assoc name (43 ∷ decimal (suc n)) (written behind)))

place_alone : (name : Option (List ℕ)) (n : ℕ) → written (place_tokens name n []) ≡ place_text name n
place_alone name n = place_written name n [] ∙ append-nil (place_text name n)

based_written : (name : Option (List ℕ)) (n : ℕ) (base : Option ℕ) → written (based_tokens name n base) ≡ based_text name n base
based_written name n None = place_alone name n
based_written None zero (Some r) = refl
based_written None (suc n) (Some r) = let e = no_zero n in rw e refl
based_written (Some name) n (Some r) = place_written (Some name) n (base_tokens r)

value_written : (t : Value) (behind : List Tok) → written (value_token t ∷ behind) ≡ value_text t ++ written behind
value_written (value.Register r) behind = refl
value_written (value.Number n) behind = refl

target_written : (to : Target (List ℕ)) → written (target_token to ∷ []) ≡ target_text to
target_written (target.Label name) = append-nil name
target_written (target.Register r) = append-nil (register_text r)

value_alone : (t : Value) → written (value_token t ∷ []) ≡ value_text t
value_alone t = value_written t [] ∙ append-nil (value_text t)

behind_register : (r : ℕ) (a b : List ℕ) → a ≡ b → register_text r ++ 44 ∷ a ≡ register_text r ++ 44 ∷ b
behind_register r a b e = ap (λ (l : List ℕ). register_text r ++ 44 ∷ l) e

pub operands_written : (i : Instruction (List ℕ)) → written (operand_tokens i) ≡ operands_text i
operands_written (LoadAddress d a) = behind_register d _ _ (based_written a.name a.offset a.base)
operands_written (LoadNumber d n) = behind_register d _ _ (append-nil (decimal n))
operands_written (Move d s) = behind_register d _ _ (append-nil (register_text s))
operands_written (Unary op d s) = behind_register d _ _ (append-nil (register_text s))
operands_written (Binary op d s t) = behind_register d _ _ (behind_register s _ _ (value_alone t))
operands_written (Load op d a) = behind_register d _ _ (based_written a.name a.offset a.base)
operands_written (Store op s a) = behind_register s _ _ (based_written a.name a.offset a.base)
operands_written (Branch name) = append-nil name
operands_written (BranchIf c s t name) = behind_register s _ _ (value_written t (Comma ∷ Word name ∷ []) ∙ ap (λ (l : List ℕ). value_text t ++ 44 ∷ l) (append-nil name))
operands_written (Jump to) = target_written to
operands_written (Call to) = target_written to

-- ---- where they end

register_token_is : (r : ℕ) → r < 32 → IsToken (register_token r)
register_token_is r h = let d = digits_decimal r (omega (arith, h)) in (starts_symbol (decimal r) d.0, digits_symbols (decimal r) d.1)

pub number_token_is : (n : ℕ) → n ≤ 4294967295 → IsToken (number_token n)
number_token_is n h = digits_decimal n (omega (arith, h))

value_fits : (t : Value) (behind : List Tok) → IsValueWithin t → StopsIn (in_asm Symbol) (written behind) → Fits behind → Fits (value_token t ∷ behind)
value_fits (value.Register r) behind h e f = (register_token_is r h, e, f)
value_fits (value.Number n) behind h e f = (number_token_is n h, e, f)

target_fits : (to : Target (List ℕ)) → IsTargetWithin to → IsTargetNamed to → Fits (target_token to ∷ [])
target_fits (target.Label name) h k = (k, tt, tt)
target_fits (target.Register r) h k = (register_token_is r h, tt, tt)

pub place_fits : (name : Option (List ℕ)) (n : ℕ) (behind : List Tok) → IsNamed name → n ≤ 4294967295 → StopsIn (in_asm Symbol) (written behind) → Fits behind → Fits (place_tokens name n behind)
place_fits None n behind k h e f = (number_token_is n h, e, f)
place_fits (Some name) zero behind k h e f = (k, e, f)
place_fits (Some name) (suc n) behind k h e f = (k, refl, (tt, tt, (number_token_is (suc n) h, e, f)))

base_fits : (r : ℕ) → r < 32 → Fits (base_tokens r)
base_fits r h = (tt, tt, (register_token_is r h, refl, (tt, tt, tt)))

based_fits : (name : Option (List ℕ)) (n : ℕ) (base : Option ℕ) → IsNamed name → n ≤ 4294967295 → IsBaseWithin base → Fits (based_tokens name n base)
based_fits name n None k h b = place_fits name n [] k h tt tt
based_fits None zero (Some r) k h b = base_fits r b
based_fits None (suc n) (Some r) k h b = place_fits None (suc n) (base_tokens r) k h refl (base_fits r b)
based_fits (Some name) n (Some r) k h b = place_fits (Some name) n (base_tokens r) k h refl (base_fits r b)

comma_fits : (r : ℕ) (ts : List Tok) → r < 32 → Fits ts → Fits (register_token r ∷ Comma ∷ ts)
comma_fits r ts h f = (register_token_is r h, refl, (tt, tt, f))

registers_fit : (d s : ℕ) → d < 32 → s < 32 → Fits (register_token d ∷ Comma ∷ register_token s ∷ [])
registers_fit d s h k = comma_fits d (register_token s ∷ []) h (register_token_is s k, tt, tt)

pub operands_fit : (i : Instruction (List ℕ)) → IsInstructionWithin i → AreInstructionNames i → Fits (operand_tokens i)
operands_fit (LoadAddress d a) h k = comma_fits d (address_tokens a) h.0 (based_fits a.name a.offset a.base k h.1.0 h.1.1)
operands_fit (LoadNumber d n) h k = comma_fits d (number_token n ∷ []) h.0 (number_token_is n h.1, tt, tt)
operands_fit (Move d s) h k = registers_fit d s h.0 h.1
operands_fit (Unary op d s) h k = registers_fit d s h.0 h.1
operands_fit (Binary op d s t) h k = comma_fits d (register_token s ∷ Comma ∷ value_token t ∷ []) h.0 (comma_fits s (value_token t ∷ []) h.1 (value_fits t [] h.2 tt tt))
operands_fit (Load op d a) h k = comma_fits d (address_tokens a) h.0 (based_fits a.name a.offset a.base k h.1.0 h.1.1)
operands_fit (Store op s a) h k = comma_fits s (address_tokens a) h.0 (based_fits a.name a.offset a.base k h.1.0 h.1.1)
operands_fit (Branch name) h k = (k, tt, tt)
operands_fit (BranchIf c s t name) h k = comma_fits s (value_token t ∷ Comma ∷ Word name ∷ []) h.0 (value_fits t (Comma ∷ Word name ∷ []) h.1 refl (tt, tt, (k, tt, tt)))
operands_fit (Jump to) h k = target_fits to h k
operands_fit (Call to) h k = target_fits to h k

-- ---- what they are

is_register : (r : ℕ) → r < 32 → IsRegister (register_token r) r
is_register r h = inl (refl, h)

number_value : (n : ℕ) → n ≤ 4294967295 → value_of (decimal n) ≡ n
number_value n h = value_decimal n (omega (arith, h))

pub is_number : (s : Bool) (n : ℕ) (behind : List Tok) → n ≤ 4294967295 → IsNumber (spaced s (number_token n ∷ behind)) n (spaced false behind)
is_number s n behind h = let e = number_value n h in (Plain (decimal n), (refl, refl), omega (arith, e, h), sym e)

pub is_count : (n : ℕ) → n ≤ 4294967295 → CountStands (spaced true (number_token n ∷ [])) n
is_count n h = let e = number_value n h in (Plain (decimal n), (refl, refl), omega (arith, e, h), sym e)

pub is_sum : (s : Bool) (n : ℕ) (behind : List Tok) → n ≤ 4294967295 → IsSum (spaced s (number_token n ∷ behind)) n (spaced false behind)
is_sum s n behind h = (n, spaced false behind, is_number s n behind h, ([], refl, refl))

one_link : (n : ℕ) (behind : List Tok) → n ≤ 4294967295 → AreLinks (spaced false (Plus ∷ number_token n ∷ behind)) 0 n (spaced false behind)
one_link n behind h =
    let e = number_value n h in
    let t : n ≡ (0 + value_of (decimal n)) % 2 ^ 32 = omega (arith, e, h) in
    (record { is_minus = false; number = Plain (decimal n) } ∷ [], (refl, (spaced false behind, (refl, refl), omega (arith, e, h), refl)), t)

pub is_place : (s : Bool) (name : Option (List ℕ)) (n : ℕ) (behind : List Tok) → n ≤ 4294967295 → PlaceThen (spaced s (place_tokens name n behind)) name n (spaced false behind)
is_place s None n behind h = is_sum s n behind h
is_place s (Some name) zero behind h = (spaced false behind, (refl, refl), ([], refl, refl))
is_place s (Some name) (suc n) behind h = (spaced false (Plus ∷ number_token (suc n) ∷ behind), (refl, refl), one_link (suc n) behind h)

is_base : (r : ℕ) → r < 32 → IsBase (spaced false (base_tokens r)) (Some r)
is_base r h = (refl, (spaced false (Close ∷ []), (is_register r h, refl), (record { tok = Close; is_spaced = false }, refl, refl)))

is_based : (name : Option (List ℕ)) (n : ℕ) (base : Option ℕ) → n ≤ 4294967295 → IsBaseWithin base → IsAddress (spaced false (based_tokens name n base)) (record { name = name; offset = n; base = base })
is_based name n None h b = inr ([], is_place false name n [] h, refl)
is_based None zero (Some r) h b = inl (refl, refl, (r, refl, is_base r b))
is_based None (suc n) (Some r) h b = inr (spaced false (base_tokens r), is_place false None (suc n) (base_tokens r) h, is_base r b)
is_based (Some name) n (Some r) h b = inr (spaced false (base_tokens r), is_place false (Some name) n (base_tokens r) h, is_base r b)

is_value : (s : Bool) (t : Value) (behind : List Tok) → IsValueWithin t → ValueThen (spaced s (value_token t ∷ behind)) t (spaced false behind)
is_value s (value.Register r) behind h = (is_register r h, refl)
is_value s (value.Number n) behind h = is_number s n behind h

is_target : (s : Bool) (to : Target (List ℕ)) → IsTargetWithin to → IsTarget (spaced s (target_token to ∷ [])) to
is_target s (target.Label name) h = (refl, refl)
is_target s (target.Register r) h = (is_register r h, refl)

pub are_operands : (i : Instruction (List ℕ)) → IsInstructionWithin i → AreOperands (spaced true (operand_tokens i)) i
are_operands (LoadAddress d a) h = (_, (_, (is_register d h.0, refl), (refl, refl)), is_based a.name a.offset a.base h.1.0 h.1.1)
are_operands (LoadNumber d n) h = (_, (_, (is_register d h.0, refl), (refl, refl)), is_number false n [] h.1)
are_operands (Move d s) h = (_, (_, (is_register d h.0, refl), (refl, refl)), (is_register s h.1, refl))
are_operands (Unary op d s) h = (_, (_, (is_register d h.0, refl), (refl, refl)), (is_register s h.1, refl))
are_operands (Binary op d s t) h = (_, _, (_, (is_register d h.0, refl), (refl, refl)), (_, (is_register s h.1, refl), (refl, refl)), is_value false t [] h.2)
are_operands (Load op d a) h = (_, (_, (is_register d h.0, refl), (refl, refl)), is_based a.name a.offset a.base h.1.0 h.1.1)
are_operands (Store op s a) h = (_, (_, (is_register s h.0, refl), (refl, refl)), is_based a.name a.offset a.base h.1.0 h.1.1)
are_operands (Branch name) h = (refl, refl)
are_operands (BranchIf c s t name) h = (_, _, _, (_, (is_register s h.0, refl), (refl, refl)), is_value false t (Comma ∷ Word name ∷ []) h.1, (refl, refl), (refl, refl))
are_operands (Jump to) h = is_target true to h
are_operands (Call to) h = is_target true to h
