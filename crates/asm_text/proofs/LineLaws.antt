-- A line is read in one way: its labels, and the statement behind them. What a line's tokens keep is handed in, as the
-- laws of lines give it.
use Rattle.std.proofs.Common.{◌≡◌, ℕ, ◌+◌, Option, Some, None, List, [], ◌∷◌, ◌++◌, refl, sym, ap, ◌∙◌, subst}
use Rattle.std.proofs.lemmas.List.{append-nil}
use Rattle.asm_lines.specs.declared.section.Section.{Section}
use Rattle.asm_lines.specs.declared.fault.StatementFault.{StatementFault}
use Rattle.asm_lines.specs.declared.instruction.Target.{Target}
use Rattle.asm_lines.specs.declared.instruction.Target.TheVariants as target
use Rattle.asm_lines.specs.declared.instruction.Instruction.{Instruction}
use Rattle.asm_lines.specs.declared.instruction.Instruction.TheVariants.{LoadAddress, LoadNumber, Move, Unary, Binary, Load, Store, Branch, BranchIf, Jump, Call}
use Rattle.asm_lines.specs.Tokens.{Tok, Word, Colon, Spaced}
use Rattle.asm_lines.specs.Spelling.{Spells}
use Rattle.asm_lines.specs.Numbers.{MNumber, Plain, Hex, Negative, NumberThen, IsSum}
use Rattle.asm_lines.specs.Operands.{IsRegister, RegisterThen, NameThen, IsTarget, PlaceThen, AreOperands, Listed, IsWordItem, IsPartItem}
use Rattle.asm_lines.specs.Statements.{MStatement, Nothing, Text, Data, Global, Align, Words, Halves, Bytes, Space, Does, IsRow, IsStatement, IsLabelled}
use Rattle.asm_lines.specs.Sections.{StandsIn}
use Rattle.asm_lines.specs.Faults.{FaultStands}
use Rattle.asm_text.specs.Lines.{MLine, AreLabels, NoLabel, AreTokens, IsLine, AreLines}

-- ---- what lines keep

pub record LineLaws : Type 0 where
  pub spelling : (ts us : List Spaced) (bytes : List ℕ) → Spells ts bytes → Spells us bytes → ts ≡ us
  pub one : (ts : List Spaced) (s u : MStatement) → IsStatement ts s → IsStatement ts u → s ≡ u
  pub apart : (section : Section) (ts : List Spaced) (s : MStatement) (f : StatementFault) → IsStatement ts s → StandsIn section s → FaultStands section ts f → ⊥
  pub fault : (section : Section) (ts : List Spaced) (f g : StatementFault) → FaultStands section ts f → FaultStands section ts g → f ≡ g

-- ---- no operand begins with a colon

module _ (u : Spaced) (ts : List Spaced) (colon : u.tok ≡ Colon) where
  name_start : (name : List ℕ) (rest : List Spaced) → NameThen (u ∷ ts) name rest → ⊥
  name_start name rest h = let e : Word name ≡ Colon = sym h.0 ∙ colon in cc

  register_start : (r : ℕ) (rest : List Spaced) → RegisterThen (u ∷ ts) r rest → ⊥
  register_start r rest h = let P : Tok → Type 0 = λ t. IsRegister t r in subst P colon h.0

  number_start : (m : MNumber) (rest : List Spaced) → NumberThen m (u ∷ ts) rest → ⊥
  number_start (Plain d) rest h = let e = sym h.0 ∙ colon in cc
  number_start (Hex d) rest h = let e = sym h.0 ∙ colon in cc
  number_start (Negative d) rest h = negative_start ts h where
    negative_start : (us : List Spaced) → NumberThen (Negative d) (u ∷ us) rest → ⊥
    negative_start [] k = k
    negative_start (t ∷ us) k = let e = sym k.0 ∙ colon in cc

  sum_start : (n : ℕ) (rest : List Spaced) → IsSum (u ∷ ts) n rest → ⊥
  sum_start n rest h = number_start h.2.0 h.1 h.2.1

  place_start : (o : Option (List ℕ)) (n : ℕ) (rest : List Spaced) → PlaceThen (u ∷ ts) o n rest → ⊥
  place_start None n rest h = sum_start n rest h
  place_start (Some name) n rest h = name_start name h.0 h.1

  words_start : (items : List (Option (List ℕ) × ℕ)) → Listed IsWordItem (u ∷ ts) items → ⊥
  words_start [] h = h
  words_start (a ∷ []) h = place_start a.0 a.1 [] h
  words_start (a ∷ b ∷ more) h = place_start a.0 a.1 h.0 h.2

  parts_start : (bits : ℕ) (items : List ℕ) → Listed (IsPartItem bits) (u ∷ ts) items → ⊥
  parts_start bits [] h = h
  parts_start bits (a ∷ []) h = sum_start h.0 [] h.1
  parts_start bits (a ∷ b ∷ more) h = sum_start h.2.0 h.0 h.2.1

  target_start : (to : Target (List ℕ)) → IsTarget (u ∷ ts) to → ⊥
  target_start (target.Label name) h = name_start name [] h
  target_start (target.Register r) h = register_start r [] h

  operands_start : (i : Instruction (List ℕ)) → AreOperands (u ∷ ts) i → ⊥
  operands_start (LoadAddress d a) h = register_start d h.1.0 h.1.1
  operands_start (LoadNumber d n) h = register_start d h.1.0 h.1.1
  operands_start (Move d s) h = register_start d h.1.0 h.1.1
  operands_start (Unary op d s) h = register_start d h.1.0 h.1.1
  operands_start (Binary op d s t) h = register_start d h.2.0 h.2.1
  operands_start (Load op d a) h = register_start d h.1.0 h.1.1
  operands_start (Store op s a) h = register_start s h.1.0 h.1.1
  operands_start (Branch name) h = name_start name [] h
  operands_start (BranchIf c s t name) h = register_start s h.3.0 h.3.1
  operands_start (Jump to) h = target_start to h
  operands_start (Call to) h = target_start to h

  row_start : (word : List ℕ) (s : MStatement) → IsRow word (u ∷ ts) s → ⊥
  row_start word Nothing h = h
  row_start word Text h = let e : u ∷ ts ≡ [] = h.1 in cc
  row_start word Data h = let e : u ∷ ts ≡ [] = h.1 in cc
  row_start word (Global name) h = name_start name [] h.1
  row_start word (Align n) h = number_start h.1.0 [] h.1.1
  row_start word (Words items) h = words_start items h.1
  row_start word (Halves halves) h = parts_start 16 halves h.1
  row_start word (Bytes bytes) h = parts_start 8 bytes h.1
  row_start word (Space n) h = number_start h.1.0 [] h.1.1
  row_start word (Does i) h = operands_start i h.1

-- a statement begins with no label
pub no_label : (ts : List Spaced) (s : MStatement) → IsStatement ts s → NoLabel ts
no_label [] s p name rest l = l
no_label (t ∷ []) s p name rest l = l
no_label (t ∷ u ∷ ts) s p name rest l = row_start u ts l.1 p.0 s p.3

-- ---- labels

labelled_once : (ts : List Spaced) (n m : List ℕ) (x y : List Spaced) → IsLabelled ts n x → IsLabelled ts m y → (n ≡ m) × (x ≡ y)
labelled_once [] n m x y p q = absurd p
labelled_once (t ∷ []) n m x y p q = absurd p
labelled_once (t ∷ u ∷ ts) n m x y p q =
    let e : Word n ≡ Word m = sym p.0 ∙ q.0 in
    let f : n ≡ m = cc in
    (f, sym p.2 ∙ q.2)

-- labels that stand behind others as far as none is left are those and perhaps more
pub labels_front : (ts : List Spaced) (ns ms : List (List ℕ)) (x y : List Spaced) → AreLabels ts ns x → AreLabels ts ms y → NoLabel y → (more : List (List ℕ)) × (ms ≡ ns ++ more) × AreLabels x more y
labels_front ts [] ms x y p q last = let P : List Spaced → Type 0 = λ us. AreLabels us ms y in (ms, refl, subst P p q)
labels_front ts (n ∷ ns) [] x y p q last = let P : List Spaced → Type 0 = λ us. IsLabelled us n p.0 in absurd (last n p.0 (subst P q p.1))
labels_front ts (n ∷ ns) (m ∷ ms) x y p q last =
    let e = labelled_once ts n m p.0 q.0 p.1 q.1 in
    let P : List Spaced → Type 0 = λ us. AreLabels us ms y in
    let r = labels_front p.0 ns ms x y p.2 (subst P (sym e.1) q.2) last in
    let same : m ∷ ms ≡ n ∷ (ns ++ r.0) = ap (λ (k : List ℕ). k ∷ ms) (sym e.0) ∙ ap (λ (k : List (List ℕ)). n ∷ k) r.1 in
    (r.0, same, r.2)

no_more : (more : List (List ℕ)) (x y : List Spaced) → AreLabels x more y → NoLabel x → more ≡ []
no_more [] x y p last = refl
no_more (m ∷ more) x y p last = absurd (last m p.0 p.1)

none_left : (more : List (List ℕ)) (x y : List Spaced) → AreLabels x more y → more ≡ [] → x ≡ y
none_left [] x y p e = p
none_left (m ∷ more) x y p e = absurd cc

-- the labels of tokens, as far as none is left, and what stands behind them
pub labels_once : (ts : List Spaced) (ns ms : List (List ℕ)) (x y : List Spaced) → AreLabels ts ns x → AreLabels ts ms y → NoLabel x → NoLabel y → (ns ≡ ms) × (x ≡ y)
labels_once ts ns ms x y p q a b =
    let r = labels_front ts ns ms x y p q b in
    let e = no_more r.0 x y r.2 a in
    (sym (append-nil ns) ∙ (ap (λ (more : List (List ℕ)). ns ++ more) (sym e) ∙ sym r.1), none_left r.0 x y r.2 e)

-- ---- lines

same_line : (l m : MLine) → l.labels ≡ m.labels → l.statement ≡ m.statement → l.number ≡ m.number → l ≡ m
same_line l m a b c =
    let x : l ≡ record { labels = m.labels; statement = l.statement; number = l.number } = ap (λ (v : List (List ℕ)). record { labels = v; statement = l.statement; number = l.number }) a in
    let y : record { labels = m.labels; statement = l.statement; number = l.number } ≡ record { labels = m.labels; statement = m.statement; number = l.number } = ap (λ (v : MStatement). record { labels = m.labels; statement = v; number = l.number }) b in
    x ∙ (y ∙ ap (λ (v : ℕ). record { labels = m.labels; statement = m.statement; number = v }) c)

module _ (laws : LineLaws) where
  tokens_once : (ts : List Spaced) (number : ℕ) (l m : MLine) → AreTokens ts l → AreTokens ts m → l.number ≡ number → m.number ≡ number → l ≡ m
  tokens_once ts number l m p q a b =
      let e = labels_once ts l.labels m.labels p.rest q.rest p.labels q.labels (no_label p.rest l.statement p.statement) (no_label q.rest m.statement q.statement) in
      let P : List Spaced → Type 0 = λ us. IsStatement us m.statement in
      same_line l m e.0 (laws.one p.rest l.statement m.statement p.statement (subst P (sym e.1) q.statement)) (a ∙ sym b)

  pub line_once : (bytes : List ℕ) (number : ℕ) (l m : MLine) → IsLine bytes number l → IsLine bytes number m → l ≡ m
  line_once bytes number l m p q =
      let e = laws.spelling p.tokens q.tokens bytes p.spelled q.spelled in
      let P : List Spaced → Type 0 = λ ts. AreTokens ts m in
      tokens_once p.tokens number l m p.are (subst P (sym e) q.are) p.number_is q.number_is

  pub lines_once : (texts : List (List ℕ)) (number : ℕ) (ls ms : List MLine) → AreLines texts number ls → AreLines texts number ms → ls ≡ ms
  lines_once [] number [] [] p q = refl
  lines_once [] number (l ∷ ls) ms p q = absurd p
  lines_once [] number [] (m ∷ ms) p q = absurd q
  lines_once (bytes ∷ texts) number [] ms p q = absurd p
  lines_once (bytes ∷ texts) number (l ∷ ls) [] p q = absurd q
  lines_once (bytes ∷ texts) number (l ∷ ls) (m ∷ ms) p q =
      let e = line_once bytes number l m p.0 q.0 in
      let f = lines_once texts (number + 1) ls ms p.1 q.1 in
      ap (λ (x : MLine). x ∷ ls) e ∙ ap (λ (xs : List MLine). m ∷ xs) f
