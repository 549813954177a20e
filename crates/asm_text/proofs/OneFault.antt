-- A text has one first fault at most, and that of a program within the limits has none.
use Rattle.std.proofs.Common.{◌≡◌, ◌<◌, ◌⊎◌, ℕ, ◌+◌, List, [], ◌∷◌, ◌++◌, length, refl, sym, ap, ◌∙◌, subst, inl, inr, arith}
use Rattle.std.specs.Prelude.{All}
use Rattle.std.proofs.lemmas.List.{append-nil}
use Rattle.std.proofs.lemmas.List.Elements.{All-head, All-tail}
use Rattle.lcc_base.specs.declared.which.Which.{Which}
use Rattle.lcc_base.specs.declared.which.Which.TheVariants as which
use Rattle.lcc_text.specs.Lines.{lines_of}
use Rattle.asm_lines.specs.declared.fault.StatementFault.{StatementFault}
use Rattle.asm_lines.specs.declared.fault.StatementFault.TheVariants as statement_fault
use Rattle.asm_lines.specs.Faults.{FaultStands}
use Rattle.asm_lines.specs.Spelling.{Spells}
use Rattle.asm_lines.specs.Statements.{MStatement, Does, IsStatement}
use Rattle.asm_lines.specs.Tokens.{Spaced}
use Rattle.asm_text.specs.declared.asm_fault.AsmFault.{AsmFault}
use Rattle.asm_text.specs.declared.asm_fault.AsmFault.TheVariants.{BadLine, UnknownInstruction, BadOperand, DoubleLabel, UnknownLabel, TooLarge, Memory}
use Rattle.asm_text.specs.Addresses.{IsKnown}
use Rattle.asm_text.specs.AssemblyText.{IsAssembly}
use Rattle.asm_text.specs.FirstFault.{HasDouble, Behind, IsPast, Passes, Stands, BeginsWith, StandsFirst, IsFirstUnknown, IsUnknownFirst, FirstFault}
use Rattle.asm_text.specs.Lines.{MLine, AreLabels, NoLabel, AreTokens}
use Rattle.asm_text.specs.Made.{Made, Use, made_of, nothing, with_line, with_statement, data_of, code_of}
use Rattle.asm_text.specs.Makes.{AreNew, IsAllowed, IsWithinLimits, label_names, program_of}
use Rattle.asm_text.specs.Program.{MInstruction, MDatum, MLabel, MProgram, data_size}
use Rattle.asm_text.proofs.lemmas.ReadPrograms.{grows_behind}
use Rattle.asm_text.proofs.LineLaws.{LineLaws, no_label, labels_front, labels_once}
use Rattle.asm_text.proofs.Begins.{begins_from, GoesOn, compared}

-- ---- limits

not_past : (m : Made) (w : Which) → IsWithinLimits (program_of m) → IsPast m w → ⊥
not_past m which.Code h p = omega (arith, h.0, p)
not_past m which.Data h p = omega (arith, h.1, p)
not_past m w h p = absurd p

-- a statement passes one limit
passed : (m : Made) (w : Which) → IsPast m w → ((w ≡ which.Code) × (4194304 < length m.code)) ⊎ ((w ≡ which.Data) × (33554432 < data_size m.datums))
passed m which.Code p = inl (refl, p)
passed m which.Data p = inr (refl, p)
passed m w p = absurd p

code_or_data : (size : ℕ) (s : MStatement) → (code_of s ≡ []) ⊎ (data_of size s ≡ [])
code_or_data size (Does i) = inr refl
code_or_data size s = inl refl

not_both : (m : Made) (number : ℕ) (s : MStatement) → IsWithinLimits (program_of m) → 4194304 < length (with_statement m number s).code → 33554432 < data_size (with_statement m number s).datums → ⊥
not_both m number s h p q =
    let size = data_size m.datums in
    elim (code_or_data size s) [
      | inl e ↦ (let f : length (m.code ++ code_of s) ≡ length m.code = ap (λ (is : List MInstruction). length (m.code ++ is)) e ∙ ap length (append-nil m.code) in omega (arith, h.0, p, f))
      | inr e ↦ (let f : data_size (m.datums ++ data_of size s) ≡ size = ap (λ (ds : List MDatum). data_size (m.datums ++ ds)) e ∙ ap (λ (ds : List MDatum). data_size ds) (append-nil m.datums) in omega (arith, h.1, q, f))
    ]

one_limit : (m : Made) (number : ℕ) (s : MStatement) (w v : Which) → IsWithinLimits (program_of m) → IsPast (with_statement m number s) w → IsPast (with_statement m number s) v → w ≡ v
one_limit m number s w v h p q =
    elim (passed (with_statement m number s) w p) [
      | inl a ↦ elim (passed (with_statement m number s) v q) [
        | inl b ↦ a.0 ∙ sym b.0
        | inr b ↦ absurd (not_both m number s h a.1 b.1)
      ]
      | inr a ↦ elim (passed (with_statement m number s) v q) [
        | inl b ↦ absurd (not_both m number s h b.1 a.1)
        | inr b ↦ a.0 ∙ sym b.0
      ]
    ]

-- ---- what stands on a line

told : ℕ → StatementFault → AsmFault
told number statement_fault.BadLine = BadLine number
told number statement_fault.UnknownInstruction = UnknownInstruction number
told number statement_fault.BadOperand = BadOperand number
told number statement_fault.Memory = Memory

-- a statement's fault, a label that stands twice, or a passed limit
abbrev Stood : Made → List Spaced → ℕ → AsmFault → Type 0
Stood m ts number f =
    ((s : StatementFault) × (f ≡ told number s) × (b : Behind m ts) × FaultStands m.section b.rest s)
    ⊎ (((f ≡ DoubleLabel number) × HasDouble m ts) ⊎ ((w : Which) × (f ≡ TooLarge number w) × Passes m ts number w))

stood : (m : Made) (ts : List Spaced) (number : ℕ) (f : AsmFault) → Stands m ts number f → Stood m ts number f
unfolding told
stood m ts number (BadLine line) h = inl (statement_fault.BadLine, ap (λ (n : ℕ). BadLine n) h.0, h.1.0, h.1.1)
stood m ts number (UnknownInstruction line) h = inl (statement_fault.UnknownInstruction, ap (λ (n : ℕ). UnknownInstruction n) h.0, h.1.0, h.1.1)
stood m ts number (BadOperand line) h = inl (statement_fault.BadOperand, ap (λ (n : ℕ). BadOperand n) h.0, h.1.0, h.1.1)
stood m ts number (DoubleLabel line) h = inr (inl (ap (λ (n : ℕ). DoubleLabel n) h.0, h.1))
stood m ts number (UnknownLabel line) h = absurd h
stood m ts number (TooLarge line w) h = inr (inr (w, ap (λ (n : ℕ). TooLarge n w) h.0, h.1))
stood m ts number Memory h = absurd h

new_front : (before ns more : List (List ℕ)) → AreNew before (ns ++ more) → AreNew before ns
new_front before [] more h = tt
new_front before (n ∷ ns) more h = (h.0, new_front (before ++ n ∷ []) ns more h.1)

-- labels that are new as far as none is left hold none that stands before
no_double : (m : Made) (ts : List Spaced) (names : List (List ℕ)) (rest : List Spaced) → AreLabels ts names rest → NoLabel rest → AreNew (label_names m.labels) names → HasDouble m ts → ⊥
no_double m ts names rest labels last new d =
    let r = labels_front ts d.0 names d.1 rest d.2 labels last in
    let P : List (List ℕ) → Type 0 = λ ns. AreNew (label_names m.labels) ns in
    d.3 (new_front (label_names m.labels) d.0 r.0 (subst P r.1 new))

module _ (laws : LineLaws) (m : Made) (ts : List Spaced) where
  same_rest : (names : List (List ℕ)) (rest : List Spaced) → AreLabels ts names rest → NoLabel rest → (b : Behind m ts) → b.rest ≡ rest
  same_rest names rest labels last b = (labels_once ts b.names names b.rest rest b.labels labels b.last last).1

  same_statement : (number : ℕ) (w : Which) (p : Passes m ts number w) (names : List (List ℕ)) (rest : List Spaced) (s : MStatement) → AreLabels ts names rest → IsStatement rest s → p.statement ≡ s
  same_statement number w p names rest s labels is =
      let e = same_rest names rest labels (no_label rest s is) p.behind in
      let P : List Spaced → Type 0 = λ us. IsStatement us p.statement in
      laws.one rest p.statement s (subst P e p.is) is

  -- on a line that makes a part of a program within the limits no fault stands
  no_fault : (number : ℕ) (f : AsmFault) (l : MLine) → AreTokens ts l → IsAllowed m l → IsWithinLimits (program_of (with_statement m number l.statement)) → Stands m ts number f → ⊥
  no_fault number f l t a limits h =
      let last = no_label t.rest l.statement t.statement in
      elim (stood m ts number f h) [
        | inl x ↦ (
            let P : List Spaced → Type 0 = λ us. FaultStands m.section us x.0 in
            laws.apart m.section t.rest l.statement x.0 t.statement a.here (subst P (same_rest l.labels t.rest t.labels last x.2) x.3))
        | inr y ↦ elim y [
          | inl x ↦ no_double m ts l.labels t.rest t.labels last a.new x.1
          | inr x ↦ (
              let P : MStatement → Type 0 = λ s. IsPast (with_statement m number s) x.0 in
              not_past (with_statement m number l.statement) x.0 limits (subst P (same_statement number x.0 x.2 l.labels t.rest l.statement t.labels t.statement) x.2.past))
        ]
      ]

  statement_or_limit : (number : ℕ) (s : StatementFault) (w : Which) (b : Behind m ts) → FaultStands m.section b.rest s → Passes m ts number w → ⊥
  statement_or_limit number s w b h p =
      let P : List Spaced → Type 0 = λ us. FaultStands m.section us s in
      laws.apart m.section p.behind.rest p.statement s p.is p.here (subst P (same_rest p.behind.names p.behind.rest p.behind.labels p.behind.last b) h)

  -- on a line one fault stands at most
  fault_once : (number : ℕ) (f g : AsmFault) → IsWithinLimits (program_of m) → Stands m ts number f → Stands m ts number g → f ≡ g
  fault_once number f g limits p q =
      elim (stood m ts number f p) [
        | inl x ↦ elim (stood m ts number g q) [
          | inl y ↦ (
              let P : List Spaced → Type 0 = λ us. FaultStands m.section us y.0 in
              let e : y.0 ≡ x.0 = laws.fault m.section x.2.rest y.0 x.0 (subst P (same_rest x.2.names x.2.rest x.2.labels x.2.last y.2) y.3) x.3 in
              x.1 ∙ (ap (told number) (sym e) ∙ sym y.1))
          | inr z ↦ elim z [
            | inl y ↦ absurd (no_double m ts x.2.names x.2.rest x.2.labels x.2.last x.2.new y.1)
            | inr y ↦ absurd (statement_or_limit number x.0 y.0 x.2 x.3 y.2)
          ]
        ]
        | inr v ↦ elim v [
          | inl x ↦ elim (stood m ts number g q) [
            | inl y ↦ absurd (no_double m ts y.2.names y.2.rest y.2.labels y.2.last y.2.new x.1)
            | inr z ↦ elim z [
              | inl y ↦ x.0 ∙ sym y.0
              | inr y ↦ absurd (no_double m ts y.2.behind.names y.2.behind.rest y.2.behind.labels y.2.behind.last y.2.behind.new x.1)
            ]
          ]
          | inr x ↦ elim (stood m ts number g q) [
            | inl y ↦ absurd (statement_or_limit number y.0 x.0 y.2 y.3 x.2)
            | inr z ↦ elim z [
              | inl y ↦ absurd (no_double m ts x.2.behind.names x.2.behind.rest x.2.behind.labels x.2.behind.last x.2.behind.new y.1)
              | inr y ↦ (
                  let e : y.2.statement ≡ x.2.statement = same_statement number y.0 y.2 x.2.behind.names x.2.behind.rest x.2.statement x.2.behind.labels x.2.is in
                  let P : MStatement → Type 0 = λ s. IsPast (with_statement m number s) y.0 in
                  x.1 ∙ (ap (λ (w : Which). TooLarge number w) (one_limit m number x.2.statement x.0 y.0 limits x.2.past (subst P e y.2.past)) ∙ sym y.1))
            ]
          ]
        ]
      ]

-- ---- texts

module _ (laws : LineLaws) where
  -- where the text goes on with a line, no fault stands on it
  goes_fine : (m : Made) (texts : List (List ℕ)) (bytes : List ℕ) (rest : List (List ℕ)) (ts : List Spaced) (number : ℕ) (f : AsmFault) → GoesOn m texts → texts ≡ bytes ∷ rest → Spells ts bytes → Stands m ts number f → ⊥
  goes_fine m texts bytes rest ts number f g e spelled h =
      let parts : g.bytes ∷ g.rest ≡ bytes ∷ rest = sym g.texts_are ∙ e in
      let head : g.bytes ≡ bytes = cc in
      let S : List ℕ → Type 0 = λ b. Spells g.line.tokens b in
      let same : g.line.tokens ≡ ts = laws.spelling g.line.tokens ts bytes (subst S head g.line.spelled) spelled in
      let T : List Spaced → Type 0 = λ us. AreTokens us g.next in
      let grows = grows_behind (with_line m g.next) g.more in
      let limits : IsWithinLimits (program_of (with_statement m number g.next.statement)) = (omega (arith, grows.code, g.limits.0), omega (arith, grows.datums, g.limits.1)) in
      no_fault laws m ts number f g.next (subst T same g.line.are) g.allowed limits h

  nothing_left : (m : Made) → GoesOn m [] → ⊥
  nothing_left m g = let e : [] ≡ g.bytes ∷ g.rest = g.texts_are in cc

  -- a text whose lines all make a program within the limits has no fault on a line
  stands_nowhere : (text : List ℕ) (lines : List MLine) (f : AsmFault) → BeginsWith text lines [] → StandsFirst text f → ⊥
  stands_nowhere text lines f b s =
      elim (compared laws nothing 1 (lines_of text) s.front lines (s.bytes ∷ s.behind) [] (begins_from text s.front (s.bytes ∷ s.behind) s.begins) (begins_from text lines [] b)) [
        | inl e ↦ (let h : s.bytes ∷ s.behind ≡ [] = e.1 in cc)
        | inr g ↦ elim g [
          | inl x ↦ goes_fine (made_of s.front) (s.bytes ∷ s.behind) s.bytes s.behind s.tokens (length s.front + 1) f x refl s.spelled s.stands
          | inr x ↦ nothing_left (made_of lines) x
        ]
      ]

  same_place : (text : List ℕ) (f g : AsmFault) (s : StandsFirst text f) (t : StandsFirst text g) → s.front ≡ t.front → s.bytes ∷ s.behind ≡ t.bytes ∷ t.behind → f ≡ g
  same_place text f g s t e h =
      let head : s.bytes ≡ t.bytes = cc in
      let S : List ℕ → Type 0 = λ b. Spells s.tokens b in
      let same : t.tokens ≡ s.tokens = laws.spelling t.tokens s.tokens t.bytes t.spelled (subst S head s.spelled) in
      let T : List Spaced → Type 0 = λ us. Stands (made_of t.front) us (length t.front + 1) g in
      let F : List MLine → Type 0 = λ ls. Stands (made_of ls) s.tokens (length ls + 1) g in
      fault_once laws (made_of s.front) s.tokens (length s.front + 1) f g s.begins.limits s.stands (subst F (sym e) (subst T same t.stands))

  stands_once : (text : List ℕ) (f g : AsmFault) → StandsFirst text f → StandsFirst text g → f ≡ g
  stands_once text f g s t =
      elim (compared laws nothing 1 (lines_of text) s.front t.front (s.bytes ∷ s.behind) (t.bytes ∷ t.behind) (begins_from text s.front (s.bytes ∷ s.behind) s.begins) (begins_from text t.front (t.bytes ∷ t.behind) t.begins)) [
        | inl e ↦ same_place text f g s t e.0 e.1
        | inr c ↦ elim c [
          | inl x ↦ absurd (goes_fine (made_of s.front) (s.bytes ∷ s.behind) s.bytes s.behind s.tokens (length s.front + 1) f x refl s.spelled s.stands)
          | inr x ↦ absurd (goes_fine (made_of t.front) (t.bytes ∷ t.behind) t.bytes t.behind t.tokens (length t.front + 1) g x refl t.spelled t.stands)
        ]
      ]

  whole_once : (text : List ℕ) (f g : List MLine) → BeginsWith text f [] → BeginsWith text g [] → f ≡ g
  whole_once text f g a b =
      elim (compared laws nothing 1 (lines_of text) f g [] [] (begins_from text f [] a) (begins_from text g [] b)) [
        | inl e ↦ e.0
        | inr c ↦ elim c [
          | inl x ↦ absurd (nothing_left (made_of f) x)
          | inr x ↦ absurd (nothing_left (made_of g) x)
        ]
      ]

-- ---- unknown names

module _ (labels : List MLabel) where
  abbrev Known : Use → Type 0
  Known u = IsKnown labels u.name

  first_once : (k l : List Use) (a b : Use) (x y : List Use) → k ++ a ∷ x ≡ l ++ b ∷ y → All Known k → All Known l → (Known a → ⊥) → (Known b → ⊥) → a ≡ b
  first_once [] [] a b x y e p q n o = cc
  first_once [] (u ∷ l) a b x y e p q n o = let h : u ≡ a = cc in absurd (n (subst Known h (All-head Known u l q)))
  first_once (u ∷ k) [] a b x y e p q n o = let h : u ≡ b = cc in absurd (o (subst Known h (All-head Known u k p)))
  first_once (u ∷ k) (v ∷ l) a b x y e p q n o = let h : k ++ a ∷ x ≡ l ++ b ∷ y = cc in first_once k l a b x y h (All-tail Known u k p) (All-tail Known v l q) n o

  some_unknown : (k : List Use) (a : Use) (x : List Use) → All Known (k ++ a ∷ x) → Known a
  some_unknown [] a x h = All-head Known a x h
  some_unknown (u ∷ k) a x h = some_unknown k a x (All-tail Known u (k ++ a ∷ x) h)

unknown_once : (m : Made) (i j : ℕ) → IsFirstUnknown m i → IsFirstUnknown m j → i ≡ j
unknown_once m i j p q =
    let e = first_once m.labels p.known q.known p.first q.first p.behind q.behind (sym p.uses ∙ q.uses) p.are_known q.are_known p.unknown q.unknown in
    p.line_is ∙ (ap (λ (u : Use). u.line) e ∙ sym q.line_is)

-- a first fault stands on a line, or is that a name is unknown
first_view : (text : List ℕ) (f : AsmFault) → FirstFault text f → StandsFirst text f ⊎ ((line : ℕ) × (f ≡ UnknownLabel line) × IsUnknownFirst text line)
first_view text (UnknownLabel line) h = inr (line, refl, h)
first_view text (BadLine line) h = inl h
first_view text (UnknownInstruction line) h = inl h
first_view text (BadOperand line) h = inl h
first_view text (DoubleLabel line) h = inl h
first_view text (TooLarge line w) h = inl h
first_view text Memory h = inl h

module _ (laws : LineLaws) where
  unknown_lines : (text : List ℕ) (i j : ℕ) → IsUnknownFirst text i → IsUnknownFirst text j → i ≡ j
  unknown_lines text i j p q =
      let e = whole_once laws text p.lines q.lines p.whole q.whole in
      let F : List MLine → Type 0 = λ ls. IsFirstUnknown (made_of ls) j in
      unknown_once (made_of p.lines) i j p.first (subst F (sym e) q.first)

  pub one_first : (text : List ℕ) (f g : AsmFault) → FirstFault text f → FirstFault text g → f ≡ g
  one_first text f g p q =
      elim (first_view text f p) [
        | inl s ↦ elim (first_view text g q) [
          | inl t ↦ stands_once laws text f g s t
          | inr u ↦ absurd (stands_nowhere laws text u.2.lines f u.2.whole s)
        ]
        | inr u ↦ elim (first_view text g q) [
          | inl t ↦ absurd (stands_nowhere laws text u.2.lines g u.2.whole t)
          | inr v ↦ u.1 ∙ (ap (λ (n : ℕ). UnknownLabel n) (unknown_lines text u.0 v.0 u.2 v.2) ∙ sym v.1)
        ]
      ]

  whole_text : (text : List ℕ) (p : MProgram) (a : IsAssembly text p) → BeginsWith text a.text.lines []
  whole_text text p a =
      let P : MProgram → Type 0 = λ x. IsWithinLimits x in
      record {
        before = lines_of text;
        parts = sym (append-nil (lines_of text));
        spelled = a.text.spelled;
        allowed = a.text.made.allowed;
        limits = subst P a.text.made.program a.limits;
      }

  unknown_not : (text : List ℕ) (p : MProgram) (line : ℕ) → IsAssembly text p → IsUnknownFirst text line → ⊥
  unknown_not text p line a u =
      let e = whole_once laws text u.lines a.text.lines u.whole (whole_text text p a) in
      let F : List MLine → Type 0 = λ ls. IsFirstUnknown (made_of ls) line in
      let x = subst F e u.first in
      let labels = (made_of a.text.lines).labels in
      let K : List Use → Type 0 = λ us. All (Known labels) us in
      x.unknown (some_unknown labels x.known x.first x.behind (subst K x.uses a.text.made.known))

  pub no_first : (text : List ℕ) (p : MProgram) (f : AsmFault) → IsAssembly text p → FirstFault text f → ⊥
  no_first text p f a h =
      elim (first_view text f h) [
        | inl s ↦ stands_nowhere laws text a.text.lines f (whole_text text p a) s
        | inr u ↦ unknown_not text p u.0 a u.2
      ]
