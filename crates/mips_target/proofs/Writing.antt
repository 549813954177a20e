-- The lines that derivations by the rules of MIPS write say the instructions that the rules add, over the temporaries.
use Rattle.std.proofs.Common.{◌≡◌, ℕ, ◌<◌, List, [], ◌∷◌, ◌++◌, Bool, true, false, Some, None, Option, codes, decimal, length, get_or, map, All, refl, sym, ap, ◌∙◌, subst, append-nil, append_assoc, arith}
use Rattle.std.specs.Prelude.{if◌then◌else◌, ◌==◌, ℤ, pos, FitsSigned}
use Rattle.std.specs.Int.{w32}
use Rattle.std.specs.List.{AllZip, AllByRecursion}
use Rattle.std.proofs.lemmas.List.Elements.{All-get_or}
use Rattle.std.proofs.lemmas.Option.{same_Some}
use Rattle.asm_lines.specs.declared.instruction.Instruction.TheVariants as machine
use Rattle.asm_lines.specs.declared.operator.UnaryOp.TheVariants as unary
use Rattle.asm_lines.specs.declared.instruction.Value.TheVariants as operand
use Rattle.asm_lines.specs.declared.instruction.Target.TheVariants as target
use Rattle.asm_text.specs.Program.{MInstruction}
use Rattle.lcc_text.specs.Lines.{lines_of}
use Rattle.lburg_model.specs.declared.rule.Rule.{Rule}
use Rattle.lburg_model.specs.Pattern.{MPattern, PHole, PLeaf, POne, PTwo}
use Rattle.lburg_model.specs.Derivation.{MDerivation, Apply, Derives, DeriveEach}
use Rattle.lburg_model.specs.DerivationOf.{parts_of}
use Rattle.op_forest.specs.declared.sym.Sym.{Sym}
use Rattle.op_forest.specs.declared.sym.Sym.TheVariants as symbol
use Rattle.op_forest.specs.Nodes.{Node, head_of, number_of, tree_of}
use Rattle.op_forest.specs.EachNode.{AtEachNode}
use Rattle.op_forest.specs.Lowered.{IsUnitName}
use Rattle.forests.specs.Words.{number_of as word_number}
use Rattle.vcode.specs.Patterns.{Meeting, leaves_at, is_chain}
use Rattle.vcode.specs.RuleSets.{Row, row_of}
use Rattle.vcode.specs.Templates.{fillings, expanded, is_instruction, signed_decimal, symbol_text, RowIs, Writes, APart, ALine, WritesAll, NoText, OneText, WritesRoots, NoLine, OneLine}
use Rattle.vcode.specs.VirtualCode.{joined}
use Rattle.vcode.specs.Emission.{Emitted, EmittedAll, Emits, EmitsAll, EmitsRoots, ByChain, ByRule, Nothing, OneMore, NoRoot, OneRoot}
use Rattle.frame_rules.specs.declared.action.Action.{Action}
use Rattle.frame_code.specs.declared.arithmetic.Arithmetic.{Arithmetic}
use Rattle.frame_code.specs.declared.instr.Instr.{Instr}
use Rattle.frame_code.specs.declared.instr.Instr.TheVariants as instr
use Rattle.frame_code.specs.declared.instr.Source.TheVariants as source
use Rattle.frame_rules.specs.declared.part.Part.{Part}
use Rattle.frame_rules.specs.declared.part.Part.TheVariants as part
use Rattle.frame_rules.specs.Rows.{stmt, con, rc, reg, addr, cnsti, addrgp}
use Rattle.mips_rules.specs.MipsRows.{rows, lines as rule_lines}
use Rattle.frame_rules.specs.FrameRules.{code_by, part_by, name_of, name_in, constant_of}
use Rattle.mips_rules.specs.MipsRules.{action_at, mips_rules}
use Rattle.frame_rules.specs.AppliedRules.{Applied, Discards, TakesConstant, PassesConstant, PassesRegister, LoadsConstant, TakesName, CombinesRegisters, CombinesConstant, Negates, HandsOver, Calls, CallsLabel, Returns}
use Rattle.mips_rules.specs.AppliedRules.{applied, all_invert}
use Rattle.vcode.specs.Leaves.{turned}
use Rattle.mips_target.specs.FunctionCode.{binary_of}
use Rattle.frame_rules.proofs.lemmas.Added.{EachMet, each_front, each_last, at_root, at_met, applied_at}
use Rattle.frame_rules.proofs.lemmas.AddedRoots.{joined_more, roots_front, roots_last}
use Rattle.mips_target.proofs.PlainCode.{plain, plain_all}
use Rattle.mips_target.proofs.SaidLines.{SaysInstruction, SaysAlone, binary_text, unit_name, number_said, registers_said, with_number_said, negate_said, call_said}
use Rattle.mips_target.proofs.Deriving.{derived, each_derived, RootsDerive, roots_parted}
use Rattle.mips_target.proofs.RuleTemplates.{template_by, binary_template, template_is, binary_ends, binary_expanded}

zip_append : {A B : Type 0} (R : A → B → Type 0) (xs xs' : List A) (ys ys' : List B) → AllZip R xs ys → AllZip R xs' ys' → AllZip R (xs ++ xs') (ys ++ ys')
zip_append R [] xs' [] ys' h k = k
zip_append R [] xs' (y ∷ ys) ys' h k = absurd h
zip_append R (x ∷ xs) xs' [] ys' h k = absurd h
zip_append R (x ∷ xs) xs' (y ∷ ys) ys' h k = (h.0, zip_append R xs xs' ys ys' h.1 k)

-- a constant's node has the constant alone
abbrev pub IsConstant : Sym → Option ℤ → Type 0
IsConstant symbol.Nothing (Some z) = FitsSigned w32 z
IsConstant x v = ⊥

module _ (names : List (List ℕ)) where
  -- an address is that of a name itself, which is there
  abbrev pub IsPlainName : Sym → Type 0
  IsPlainName (symbol.Global name offset) = (offset ≡ pos 0) × (name < length names)
  IsPlainName x = ⊥

  -- what the text of a node needs
  abbrev pub HasText : Node → Type 0
  HasText t = (cnsti ≡ number_of (head_of t) → IsConstant (head_of t).sym (head_of t).value) × (addrgp ≡ number_of (head_of t) → IsPlainName (head_of t).sym)

  -- the text that a nonterminal hands up for a part, where its register is this operand
  abbrev pub IsText : ℕ → Part → ℕ → List ℕ → Type 0
  IsText k (part.Register r) o text = text ≡ (if k == rc then 36 ∷ decimal o else decimal o)
  IsText k (part.Constant n) o text = (z : ℤ) × FitsSigned w32 z × (n ≡ word_number z) × (text ≡ signed_decimal z)
  IsText k (part.Name name offset) o text = (name < length names) × (text ≡ get_or names name [])
  IsText k (part.Label l) o text = ⊥
  IsText k part.Nothing o text = Unit {0}

  -- the texts of a rule's parts: the register of the first is this operand, and that of the next is $10
  abbrev pub AreTexts : ℕ → List Meeting → List Part → List (List ℕ) → Type 0
  AreTexts o [] [] [] = Unit {0}
  AreTexts o (m ∷ ms) (p ∷ ps) (x ∷ xs) = IsText m.0 p o x × AreTexts 10 ms ps xs
  AreTexts o ms ps xs = ⊥

  abbrev last_operand : ℕ → List Meeting → ℕ
  last_operand o [] = o
  last_operand o (m ∷ ms) = 10

  last_ten : (ms : List Meeting) → last_operand 10 ms ≡ 10
  last_ten [] = refl
  last_ten (m ∷ ms) = refl

  texts_more : (o : ℕ) (ms : List Meeting) (ps : List Part) (xs : List (List ℕ)) (m : Meeting) (p : Part) (x : List ℕ) → AreTexts o ms ps xs → IsText m.0 p (last_operand o ms) x → AreTexts o (ms ++ m ∷ []) (ps ++ p ∷ []) (xs ++ x ∷ [])
  texts_more o [] [] [] m p x h k = (k, tt)
  texts_more o (l ∷ ms) (q ∷ ps) (y ∷ xs) m p x h k = (h.0, texts_more 10 ms ps xs m p x h.1 (subst (λ v. IsText m.0 p v x) (sym (last_ten ms)) k))
  texts_more o ms ps xs m p x h k = absurd h

  no_texts : (A : List (List ℕ) → Type 0) (o : ℕ) (xs : List (List ℕ)) → AreTexts o [] [] xs → A [] → A xs
  no_texts A o [] h go = go
  no_texts A o (x ∷ xs) h go = absurd h

  one_text : (A : List (List ℕ) → Type 0) (o : ℕ) (m : Meeting) (p : Part) (xs : List (List ℕ)) → AreTexts o (m ∷ []) (p ∷ []) xs → ((x : List ℕ) → IsText m.0 p o x → A (x ∷ [])) → A xs
  one_text A o m p [] h go = absurd h
  one_text A o m p (x ∷ []) h go = go x h.0
  one_text A o m p (x ∷ y ∷ xs) h go = absurd h.1

  two_texts : (A : List (List ℕ) → Type 0) (o : ℕ) (m l : Meeting) (p q : Part) (xs : List (List ℕ)) → AreTexts o (m ∷ l ∷ []) (p ∷ q ∷ []) xs → ((x y : List ℕ) → IsText m.0 p o x → IsText l.0 q 10 y → A (x ∷ y ∷ [])) → A xs
  two_texts A o m l p q [] h go = absurd h
  two_texts A o m l p q (x ∷ []) h go = absurd h.1
  two_texts A o m l p q (x ∷ y ∷ []) h go = go x y h.0 h.1.0
  two_texts A o m l p q (x ∷ y ∷ z ∷ xs) h go = absurd h.1.1

  plain_append : (a b : List Instr) → plain_all names (a ++ b) ≡ plain_all names a ++ plain_all names b
  plain_append [] b = refl
  plain_append (i ∷ a) b = ap (λ l. plain names i ++ l) (plain_append a b) ∙ sym (append_assoc (plain names i) (plain_all names a) (plain_all names b))

  -- lines that say the instructions of code
  abbrev Say : List (List ℕ) → List Instr → Type 0
  Say lines code = AllZip SaysInstruction lines (plain_all names code)

  say_both : (lines more : List (List ℕ)) (a b : List Instr) → Say lines a → Say more b → Say (lines ++ more) (a ++ b)
  say_both lines more a b h k = subst (AllZip SaysInstruction (lines ++ more)) (sym (plain_append a b)) (zip_append SaysInstruction lines more (plain_all names a) (plain_all names b) h k)

  say_silent : (lines : List (List ℕ)) (a b : List Instr) → Say lines a → plain_all names b ≡ [] → Say lines (a ++ b)
  say_silent lines a b h e =
      subst (AllZip SaysInstruction lines) (sym (plain_append a b ∙ ap (λ l. plain_all names a ++ l) e ∙ append-nil (plain_all names a))) h

  module _ (labels : ℕ → List ℕ) (frame : List ℕ) where
    -- what a derivation of a nonterminal writes, where its register is this operand
    pub record Written (k : ℕ) (t : Node) (x : MDerivation) (p : Part) (code : List Instr) (o : ℕ) : Type 0 where
      pub text : List ℕ
      pub lines : List (List ℕ)
      pub writes : Writes rows names labels frame x t text lines
      pub is : IsText k p o text
      pub say : Say lines code

    pub record WrittenAll (ms : List Meeting) (xs : List MDerivation) (ps : List Part) (code : List Instr) (o : ℕ) : Type 0 where
      pub texts : List (List ℕ)
      pub lines : List (List ℕ)
      pub writes : WritesAll rows names labels frame xs ms texts lines
      pub are : AreTexts o ms ps texts
      pub say : Say lines code

    written_more : (ms : List Meeting) (m : Meeting) (xs : List MDerivation) (x : MDerivation) (ps : List Part) (p : Part) (a b : List Instr) (o : ℕ) → WrittenAll ms xs ps a o → Written m.0 m.1 x p b (last_operand o ms) → WrittenAll (ms ++ m ∷ []) (xs ++ x ∷ []) (ps ++ p ∷ []) (a ++ b) o
    written_more ms m xs x ps p a b o w v = record {
      texts = w.texts ++ v.text ∷ [];
      lines = w.lines ++ v.lines;
      writes = OneText m w.writes v.writes;
      are = texts_more o ms ps w.texts m p v.text w.are v.is;
      say = say_both w.lines v.lines a b w.say v.say;
    }

    -- a rule of which the lines of its nonterminals are known
    module _ (number : ℕ) (row : Row) (t : Node) (xs : List MDerivation) (ms : List Meeting) (lines : List (List ℕ)) (code : List Instr) (row_is : RowIs rows number row) (fits : leaves_at row.pattern t ≡ Some ms) (say : Say lines code) where
      -- the rule's template is a part of a line
      as_part : (template : List ℕ) (k : ℕ) (p : Part) (o : ℕ) (texts : List (List ℕ)) (more : List Instr) → row.template ≡ template → WritesAll rows names labels frame xs ms texts lines → is_instruction template ≡ false → IsText k p o (expanded (fillings names labels frame t [] texts) template) → plain_all names more ≡ [] → Written k t (Apply number (parts_of xs)) p (code ++ more) o
      as_part template k p o texts more e w end is none = record {
        text = expanded (fillings names labels frame t [] texts) row.template;
        lines = lines;
        writes = APart row_is fits w (ap is_instruction e ∙ end);
        is = subst (λ y. IsText k p o (expanded (fillings names labels frame t [] texts) y)) (sym e) is;
        say = say_silent lines code more say none;
      }

      -- the rule's template is a line
      as_line : (template : List ℕ) (k : ℕ) (p : Part) (o : ℕ) (texts : List (List ℕ)) (i : Instr) (j : MInstruction) → row.template ≡ template → WritesAll rows names labels frame xs ms texts lines → is_instruction template ≡ true → o < 64 → IsText k p o (decimal o) → plain names i ≡ j ∷ [] → SaysAlone (expanded (fillings names labels frame t (decimal 8) texts) template) j → Written k t (Apply number (parts_of xs)) p (code ++ i ∷ []) o
      as_line template k p o texts i j e w end lt is one s = record {
        text = decimal o;
        lines = lines ++ lines_of (expanded (fillings names labels frame t (decimal 8) texts) row.template);
        writes = ALine 8 o row_is fits w (ap is_instruction e ∙ end) (omega arith) lt;
        is = is;
        say = say_both lines (lines_of (expanded (fillings names labels frame t (decimal 8) texts) row.template)) code (i ∷ []) say
            (subst (AllZip SaysInstruction (lines_of (expanded (fillings names labels frame t (decimal 8) texts) row.template))) (sym (ap (λ l. l ++ []) one)) (subst (λ y. AllZip SaysInstruction (lines_of (expanded (fillings names labels frame t (decimal 8) texts) y)) (j ∷ [])) (sym e) s));
      }

    constant_written : (x : Sym) (v : Option ℤ) (o : ℕ) → IsConstant x v → IsText con (part.Constant (constant_of v)) o (symbol_text names labels x v ++ [])
    constant_written symbol.Nothing None o h = absurd h
    constant_written symbol.Nothing (Some z) o h = (z, h, refl, append-nil (signed_decimal z))
    constant_written (symbol.Global name offset) v o h = absurd h
    constant_written (symbol.Label l) v o h = absurd h
    constant_written (symbol.Block size align) v o h = absurd h

    name_written : (x : Sym) (v : Option ℤ) (o : ℕ) → IsPlainName x → IsText addr (name_of x) o (symbol_text names labels x v ++ [])
    name_written symbol.Nothing v o h = absurd h
    name_written (symbol.Global name offset) v o h =
        (h.1, ap (λ z. symbol_text names labels (symbol.Global name z) v ++ []) h.0 ∙ append-nil (get_or names name []))
    name_written (symbol.Label l) v o h = absurd h
    name_written (symbol.Block size align) v o h = absurd h

    -- the operand of a chain rule's register is that of its part's, and the first part's of another rule is $9
    abbrev Chosen : Bool → ℕ → ℕ → Type 0
    Chosen true first o = first ≡ o
    Chosen false first o = first ≡ 9

    load_said : (n : ℕ) (x : List ℕ) → (z : ℤ) × FitsSigned w32 z × (n ≡ word_number z) × (x ≡ signed_decimal z) → SaysAlone (codes "li $" ++ (decimal 8 ++ (44 ∷ (x ++ 10 ∷ [])))) (machine.LoadNumber 8 n)
    load_said n x h =
        subst (λ y. SaysAlone (codes "li $" ++ (decimal 8 ++ (44 ∷ (y ++ 10 ∷ [])))) (machine.LoadNumber 8 n)) (sym h.3)
        (subst (λ m. SaysAlone (codes "li $" ++ (decimal 8 ++ (44 ∷ (signed_decimal h.0 ++ 10 ∷ [])))) (machine.LoadNumber 8 m)) (sym h.2) (number_said h.0 h.1))

    abbrev operation_line : Arithmetic → List ℕ → List ℕ → List ℕ
    operation_line op x y = binary_text op ++ (codes " $" ++ (decimal 8 ++ (codes ",$" ++ (x ++ (44 ∷ (y ++ 10 ∷ []))))))

    combine_said : (op : Arithmetic) (x y : List ℕ) → x ≡ decimal 9 → y ≡ 36 ∷ decimal 10 → SaysAlone (operation_line op x y) (machine.Binary (binary_of op) 8 9 (operand.Register 10))
    combine_said op x y e f =
        subst (λ a. SaysAlone (operation_line op a y) (machine.Binary (binary_of op) 8 9 (operand.Register 10))) (sym e) (subst (λ b. SaysAlone (operation_line op (decimal 9) b) (machine.Binary (binary_of op) 8 9 (operand.Register 10))) (sym f) (registers_said op))

    combine_number_said : (op : Arithmetic) (n : ℕ) (x y : List ℕ) → x ≡ decimal 9 → (z : ℤ) × FitsSigned w32 z × (n ≡ word_number z) × (y ≡ signed_decimal z) → SaysAlone (operation_line op x y) (machine.Binary (binary_of op) 8 9 (operand.Number n))
    combine_number_said op n x y e h =
        subst (λ a. SaysAlone (operation_line op a y) (machine.Binary (binary_of op) 8 9 (operand.Number n))) (sym e)
        (subst (λ b. SaysAlone (operation_line op (decimal 9) b) (machine.Binary (binary_of op) 8 9 (operand.Number n))) (sym h.3)
        (subst (λ m. SaysAlone (operation_line op (decimal 9) (signed_decimal h.0)) (machine.Binary (binary_of op) 8 9 (operand.Number m))) (sym h.2) (with_number_said op h.0 h.1)))

    negative_said : (x : List ℕ) → x ≡ decimal 9 → SaysAlone (codes "negu $" ++ (decimal 8 ++ (codes ",$" ++ (x ++ 10 ∷ [])))) (machine.Unary unary.Negate 8 9)
    negative_said x e = subst (λ a. SaysAlone (codes "negu $" ++ (decimal 8 ++ (codes ",$" ++ (a ++ 10 ∷ [])))) (machine.Unary unary.Negate 8 9)) (sym e) negate_said

    called_said : (name : ℕ) (x : List ℕ) → All IsUnitName names → name < length names → x ≡ get_or names name [] → SaysAlone (codes "jal " ++ (x ++ 10 ∷ [])) (machine.Call (target.Label (get_or names name [])))
    called_said name x all lt e =
        subst (λ a. SaysAlone (codes "jal " ++ (a ++ 10 ∷ [])) (machine.Call (target.Label (get_or names name [])))) (sym e) (call_said (get_or names name []) (unit_name (get_or names name []) (All-get_or IsUnitName names name [] lt all)))

    module _ (units : All IsUnitName names) where
      step : {d : Action} {left : ℕ} {pattern : MPattern} {t : Node} {ps : List Part} {ms : List Meeting} (to number : ℕ) (row : Row) (xs : List MDerivation) (code : List Instr) (first o : ℕ) → Applied d left pattern t ps ms → RowIs rows number row → leaves_at row.pattern t ≡ Some ms → row.template ≡ template_by d pattern → HasText t → Chosen (is_chain pattern) first o → o < 64 → WrittenAll ms xs ps code first → Written left t (Apply number (parts_of xs)) (part_by d t ps to) (code ++ code_by d ps to) o
      step to number row xs code first o (Discards t r low) row_is fits e h c lt w =
          as_part number row t xs _ w.lines code row_is fits w.say (codes "") stmt part.Nothing o w.texts [] e w.writes refl tt refl
      step to number row xs code first o (TakesConstant h' e') row_is fits e h c lt w =
          as_part number row _ xs _ w.lines code row_is fits w.say (codes "%a") con _ o w.texts [] e w.writes refl (constant_written h'.sym h'.value o (h.0 e')) refl
      step to number row xs code first o (PassesConstant t n) row_is fits e h c lt w =
          one_text (λ ys. WritesAll rows names labels frame xs ((con, t) ∷ []) ys w.lines → Written rc t (Apply number (parts_of xs)) (part.Constant n) (code ++ []) o) first (con, t) (part.Constant n) w.texts w.are
          (λ x k wr. as_part number row t xs _ w.lines code row_is fits w.say (codes "%0") rc (part.Constant n) o (x ∷ []) [] e wr refl (k.0, k.1, k.2, append-nil x ∙ k.3) refl)
          w.writes
      step to number row xs code first o (PassesRegister t r low) row_is fits e h c lt w =
          one_text (λ ys. WritesAll rows names labels frame xs ((reg, t) ∷ []) ys w.lines → Written rc t (Apply number (parts_of xs)) (part.Register r) (code ++ []) o) first (reg, t) (part.Register r) w.texts w.are
          (λ x k wr. as_part number row t xs _ w.lines code row_is fits w.say (codes "$%0") rc (part.Register r) o (x ∷ []) [] e wr refl (ap (λ l. 36 ∷ l) (append-nil x ∙ k ∙ ap decimal c)) refl)
          w.writes
      step to number row xs code first o (LoadsConstant t n e') row_is fits e h c lt w =
          one_text (λ ys. WritesAll rows names labels frame xs ((con, t) ∷ []) ys w.lines → Written reg t (Apply number (parts_of xs)) (part.Register to) (code ++ instr.LoadNumber to n ∷ []) o) first (con, t) (part.Constant n) w.texts w.are
          (λ x k wr. as_line number row t xs _ w.lines code row_is fits w.say (codes "li $%c,%0\\n") reg (part.Register to) o (x ∷ []) (instr.LoadNumber to n) (machine.LoadNumber 8 n) e wr refl lt refl refl (load_said n x k))
          w.writes
      step to number row xs code first o (TakesName h' e') row_is fits e h c lt w =
          as_part number row _ xs _ w.lines code row_is fits w.say (codes "%a") addr _ o w.texts [] e w.writes refl (name_written h'.sym h'.value o (h.1 e')) refl
      step to number row xs code first o (CombinesRegisters op h' a b q r low_q low_r e') row_is fits e h c lt w =
          two_texts (λ ys. WritesAll rows names labels frame xs ((reg, a) ∷ (rc, b) ∷ []) ys w.lines → Written reg _ (Apply number (parts_of xs)) (part.Register to) (code ++ instr.Binary op to q (source.Register r) ∷ []) o) first (reg, a) (rc, b) (part.Register q) (part.Register r) w.texts w.are
          (λ x y k l wr. as_line number row _ xs _ w.lines code row_is fits w.say (binary_template op) reg (part.Register to) o (x ∷ y ∷ []) (instr.Binary op to q (source.Register r)) (machine.Binary (binary_of op) 8 9 (operand.Register 10)) e wr (binary_ends op) lt refl refl
          (subst (λ m. SaysAlone m (machine.Binary (binary_of op) 8 9 (operand.Register 10))) (sym (binary_expanded op (decimal 8) _ frame x y)) (combine_said op x y (k ∙ ap decimal c) l)))
          w.writes
      step to number row xs code first o (CombinesConstant op h' a b q n low e') row_is fits e h c lt w =
          two_texts (λ ys. WritesAll rows names labels frame xs ((reg, a) ∷ (rc, b) ∷ []) ys w.lines → Written reg _ (Apply number (parts_of xs)) (part.Register to) (code ++ instr.Binary op to q (source.Number n) ∷ []) o) first (reg, a) (rc, b) (part.Register q) (part.Constant n) w.texts w.are
          (λ x y k l wr. as_line number row _ xs _ w.lines code row_is fits w.say (binary_template op) reg (part.Register to) o (x ∷ y ∷ []) (instr.Binary op to q (source.Number n)) (machine.Binary (binary_of op) 8 9 (operand.Number n)) e wr (binary_ends op) lt refl refl
          (subst (λ m. SaysAlone m (machine.Binary (binary_of op) 8 9 (operand.Number n))) (sym (binary_expanded op (decimal 8) _ frame x y)) (combine_number_said op n x y (k ∙ ap decimal c) l)))
          w.writes
      step to number row xs code first o (Negates h' a r low e') row_is fits e h c lt w =
          one_text (λ ys. WritesAll rows names labels frame xs ((reg, a) ∷ []) ys w.lines → Written reg _ (Apply number (parts_of xs)) (part.Register to) (code ++ instr.Negate to r ∷ []) o) first (reg, a) (part.Register r) w.texts w.are
          (λ x k wr. as_line number row _ xs _ w.lines code row_is fits w.say (codes "negu $%c,$%0\\n") reg (part.Register to) o (x ∷ []) (instr.Negate to r) (machine.Unary unary.Negate 8 9) e wr refl lt refl refl (negative_said x (k ∙ ap decimal c)))
          w.writes
      step to number row xs code first o (HandsOver h' a r low e') row_is fits e h c lt w =
          as_part number row _ xs _ w.lines code row_is fits w.say (codes "") stmt part.Nothing o w.texts (instr.Argument r ∷ []) e w.writes refl tt refl
      step to number row xs code first o (Calls h' a name offset e') row_is fits e h c lt w =
          one_text (λ ys. WritesAll rows names labels frame xs ((addr, a) ∷ []) ys w.lines → Written reg _ (Apply number (parts_of xs)) (part.Register to) (code ++ instr.Call to name ∷ []) o) first (addr, a) (part.Name name offset) w.texts w.are
          (λ x k wr. as_line number row _ xs _ w.lines code row_is fits w.say (codes "jal %0\\n") reg (part.Register to) o (x ∷ []) (instr.Call to name) (machine.Call (target.Label (get_or names name []))) e wr refl lt refl refl (called_said name x units k.0 k.1))
          w.writes
      step to number row xs code first o (CallsLabel h' a l e') row_is fits e h c lt w =
          one_text (λ ys. Written reg _ (Apply number (parts_of xs)) (part.Register to) (code ++ instr.Call to (name_in (part.Label l)) ∷ []) o) first (addr, a) (part.Label l) w.texts w.are (λ x k. absurd k)
      step to number row xs code first o (Returns h' a r low e') row_is fits e h c lt w =
          as_part number row _ xs _ w.lines code row_is fits w.say (codes "") stmt part.Nothing o w.texts (instr.Return r ∷ []) e w.writes refl tt refl

      module _ (rules : List Rule) (are : map row_of rules ≡ rows) where
        chosen_chain : (b : Bool) (o : ℕ) → b ≡ true → Chosen b o o
        chosen_chain true o e = refl
        chosen_chain false o e = absurd cc

        chosen_rule : (b : Bool) (o : ℕ) → b ≡ false → Chosen b 9 o
        chosen_rule true o e = absurd cc
        chosen_rule false o e = refl

        below_operand : (o : ℕ) (ms : List Meeting) → o < 64 → last_operand o ms < 64
        below_operand o [] h = h
        below_operand o (m ∷ ms) h = omega arith

        -- a chain rule's one part
        one_written : (x : MDerivation) (t : Node) (e : Emitted Instr Part) (o : ℕ) (ms : List Meeting) (pattern : MPattern) → leaves_at pattern t ≡ Some ms → is_chain pattern ≡ true → DeriveEach rules (map turned ms) (parts_of (x ∷ [])) → ((j : ℕ) → Derives rules j (tree_of t) x → Written j t x e.part e.code o) → WrittenAll ms (x ∷ []) (e.part ∷ []) e.code o
        one_written x t e o ms (PHole j) fits chain d go =
            let same : (j, t) ∷ [] ≡ ms = same_Some ((j, t) ∷ []) ms fits in
            let first : DeriveEach rules ((j, tree_of t) ∷ []) (parts_of (x ∷ [])) = subst (λ l. DeriveEach rules (map turned l) (parts_of (x ∷ []))) (sym same) d in
            subst (λ l. WrittenAll l (x ∷ []) (e.part ∷ []) e.code o) same
            (written_more [] (j, t) [] x [] e.part [] e.code o (record { texts = []; lines = []; writes = NoText; are = tt; say = tt }) (go j first.0))
        one_written x t e o ms (PLeaf op) fits chain d go = absurd cc
        one_written x t e o ms (POne op p) fits chain d go = absurd cc
        one_written x t e o ms (PTwo op p q) fits chain d go = absurd cc

        mutual
          pub written : {x : MDerivation} {t : Node} {n : ℕ} {e : Emitted Instr Part} → Emits mips_rules x t n e → (k : ℕ) → Derives rules k (tree_of t) x → AtEachNode HasText t → (o : ℕ) → o < 64 → Written k t x e.part e.code o
          written (ByChain {number} {row} {x} {t} {n} {e} one chain a) k d h o lt =
              let by = applied number row t (e.part ∷ []) e.to a in
              let g = derived rules are number row t (e.part ∷ []) e.to k a.meetings (parts_of (x ∷ [])) a a.fits d in
              subst (λ j. Written j t (Apply number (parts_of (x ∷ []))) (part_by (action_at number) t (e.part ∷ []) e.to) (e.code ++ code_by (action_at number) (e.part ∷ []) e.to) o) g.0
              (step e.to number row (x ∷ []) e.code o o by (a.place, a.number_is, a.row_is) a.fits (template_is number row t (e.part ∷ []) e.to a) (at_root HasText t h) (chosen_chain (is_chain row.pattern) o chain) lt
              (one_written x t e o a.meetings row.pattern a.fits chain g.1 (λ j c. written one j c h o lt)))
          written (ByRule {number} {row} {xs} {meetings} {t} {n} {es} all fits chain a) k d h o lt =
              let by = applied_at rule_lines all_invert number row t es.parts es.next meetings a fits in
              let g = derived rules are number row t es.parts es.next k meetings (parts_of xs) a fits d in
              let w = written_all all g.1 (at_met HasText by h) in
              subst (λ j. Written j t (Apply number (parts_of xs)) (part_by (action_at number) t es.parts es.next) (es.code ++ code_by (action_at number) es.parts es.next) o) g.0
              (step es.next number row xs es.code 9 o by (a.place, a.number_is, a.row_is) fits (template_is number row t es.parts es.next a) (at_root HasText t h) (chosen_rule (is_chain row.pattern) o chain) lt w)

          pub written_all : {xs : List MDerivation} {ms : List Meeting} {n : ℕ} {es : EmittedAll Instr Part} → EmitsAll mips_rules xs ms n es → DeriveEach rules (map turned ms) (parts_of xs) → EachMet HasText ms → WrittenAll ms xs es.parts es.code 9
          written_all (Nothing {n}) d h = record { texts = []; lines = []; writes = NoText; are = tt; say = tt }
          written_all (OneMore {xs} {meetings} {x} meeting {n} {es} {e} all one) d h =
              let g = each_derived rules meetings meeting xs x d in
              written_more meetings meeting xs x es.parts e.part es.code e.code 9 (written_all all g.front (each_front HasText meetings meeting h))
              (written one meeting.0 g.last (each_last HasText meetings meeting h) (last_operand 9 meetings) (below_operand 9 meetings (omega arith)))

        -- what the derivations of roots write
        pub record RootsWritten (xs : List MDerivation) (ts : List Node) (stretches : List (List Instr)) : Type 0 where
          pub lines : List (List ℕ)
          pub writes : WritesRoots rows names labels frame xs ts lines
          pub say : Say lines (joined stretches)

        pub roots_written : (k : ℕ) {xs : List MDerivation} {ts : List Node} {n : ℕ} {stretches : List (List Instr)} {next : ℕ} → EmitsRoots mips_rules xs ts n stretches next → RootsDerive rules k ts xs → AllByRecursion (AtEachNode HasText) ts → RootsWritten xs ts stretches
        roots_written k (NoRoot {n}) d h = record { lines = []; writes = NoLine; say = tt }
        roots_written k (OneRoot {xs} {ts} {x} {t} {n} {n'} {stretches} {e} before one) d h =
            let g = roots_parted rules k ts t xs x d in
            let w = roots_written k before g.0 (roots_front (AtEachNode HasText) ts t h) in
            let v = written one k g.1 (roots_last (AtEachNode HasText) ts t h) 8 (omega arith) in
            record {
              lines = w.lines ++ v.lines;
              writes = OneLine w.writes v.writes;
              say = subst (λ c. Say (w.lines ++ v.lines) c) (sym (joined_more stretches e.code)) (say_both w.lines v.lines (joined stretches) e.code w.say v.say);
            }
