-- Lines of code alone, which write no data: the program that they make, list by list.
use Rattle.std.specs.Prelude.{◌≡◌, ◌≢◌, ℕ, zero, suc, ◌+◌, ◌||◌, Bool, true, false, if◌then◌else◌, Option, Some, List, [], ◌∷◌, ◌++◌, length, map, All, slice_get, option_map, refl}
use Rattle.std.specs.Str.{bytes_eq}
use Rattle.std.proofs.Common.{sym, ap, ◌∙◌, subst, append_assoc, append-nil, length-append, arith}
use Rattle.std.proofs.lemmas.List.{map-append}
use Rattle.std.proofs.lemmas.List.Elements.{All-nil, All-cons, All-head, All-tail, All-push}
use Rattle.std.proofs.lemmas.Option.{none-some, same_Some, slice_get-map}
use Rattle.std.proofs.lemmas.Slice.Eq.{bytes_eq-Decides}
use Rattle.asm_lines.specs.declared.section.Section.{Section}
use Rattle.asm_lines.specs.declared.section.Section.TheVariants as section
use Rattle.asm_lines.specs.Sections.{StandsIn}
use Rattle.asm_lines.specs.Statements.{MStatement, Nothing, Text, Data, Global, Align, Words, Halves, Bytes, Space, Does}
use Rattle.asm_text.specs.declared.place.Place.{Place}
use Rattle.asm_text.specs.declared.place.Place.TheVariants.{Code}
use Rattle.asm_text.specs.Addresses.{IsKnown}
use Rattle.asm_text.specs.Lines.{MLine}
use Rattle.asm_text.specs.Made.{Use, Made, made_of, made_behind, nothing, next_place, label_at, is_used, with_use, with_uses, data_of, code_of, numbers_of, section_behind, with_line}
use Rattle.asm_text.specs.Makes.{IsNew, AreNew, AreAllowed, label_names, Makes}
use Rattle.asm_text.specs.Names.{names_of}
use Rattle.asm_text.specs.Program.{MInstruction, MDatum, MLabel, MProgram, AreDistinct, data_size}

-- the statement is nothing, `.text`, `.globl` or an instruction
abbrev pub IsCode : MStatement → Type 0
IsCode Nothing = Unit {0}
IsCode Text = Unit {0}
IsCode (Global name) = Unit {0}
IsCode (Does i) = Unit {0}
IsCode s = ⊥

abbrev pub AreCode : List MLine → Type 0
AreCode [] = Unit {0}
AreCode (line ∷ lines) = IsCode line.statement × AreCode lines

-- the instructions of the lines, in order
abbrev pub code_in : List MLine → List MInstruction
code_in [] = []
code_in (line ∷ lines) = code_of line.statement ++ code_in lines

-- the line number of each instruction
abbrev pub numbers_in : List MLine → List ℕ
numbers_in [] = []
numbers_in (line ∷ lines) = numbers_of line.number line.statement ++ numbers_in lines

-- the labels of lines before which so many instructions stand
abbrev pub labels_from : ℕ → List MLine → List MLabel
labels_from place [] = []
labels_from place (line ∷ lines) = map (label_at (Code place)) line.labels ++ labels_from (place + length (code_of line.statement)) lines

-- the names that the lines use, each as often as it is used
abbrev pub names_in : List MLine → List (List ℕ)
names_in [] = []
names_in (line ∷ lines) = names_of line.statement ++ names_in lines

-- the lines make the program
pub record MakesCode (lines : List MLine) (p : MProgram) : Type 0 where
  pub code : p.code ≡ code_in lines
  pub numbers : p.numbers ≡ numbers_in lines
  pub datums : p.datums ≡ []
  pub labels : p.labels ≡ labels_from 0 lines
  pub distinct : AreDistinct p.labels
  pub known : (i : ℕ) (name : List ℕ) → slice_get (names_in lines) i ≡ Some name → IsKnown p.labels name

-- ---- what the lines make, behind others

-- what is made is what was, and then the code, the numbers and the labels of the lines
record IsBehind (m made : Made) (lines : List MLine) : Type 0 where
  code : made.code ≡ m.code ++ code_in lines
  numbers : made.numbers ≡ m.numbers ++ numbers_in lines
  datums : made.datums ≡ m.datums
  labels : made.labels ≡ m.labels ++ labels_from (length m.code) lines

section_kept : (x : Section) (s : MStatement) → IsCode s → x ≡ section.Text → section_behind x s ≡ section.Text
section_kept x Nothing h e = e
section_kept x Text h e = refl
section_kept x Data h e = absurd h
section_kept x (Global name) h e = e
section_kept x (Align n) h e = absurd h
section_kept x (Words items) h e = absurd h
section_kept x (Halves halves) h e = absurd h
section_kept x (Bytes bytes) h e = absurd h
section_kept x (Space n) h e = absurd h
section_kept x (Does i) h e = e

no_data : (size : ℕ) (s : MStatement) → IsCode s → data_of size s ≡ []
no_data size Nothing h = refl
no_data size Text h = refl
no_data size Data h = absurd h
no_data size (Global name) h = refl
no_data size (Align n) h = absurd h
no_data size (Words items) h = absurd h
no_data size (Halves halves) h = absurd h
no_data size (Bytes bytes) h = absurd h
no_data size (Space n) h = absurd h
no_data size (Does i) h = refl

stands : (s : MStatement) → IsCode s → StandsIn section.Text s
stands Nothing h = tt
stands Text h = tt
stands Data h = absurd h
stands (Global name) h = tt
stands (Align n) h = absurd h
stands (Words items) h = absurd h
stands (Halves halves) h = absurd h
stands (Bytes bytes) h = absurd h
stands (Space n) h = absurd h
stands (Does i) h = tt

-- the labels of one line and of those behind it
labels_behind : (m : Made) (line : MLine) (lines : List MLine) → m.section ≡ section.Text → (with_line m line).labels ++ labels_from (length (with_line m line).code) lines ≡ m.labels ++ labels_from (length m.code) (line ∷ lines)
labels_behind m line lines e =
    let own : List MLabel = map (label_at (Code (length m.code))) line.labels in
    let n : length (m.code ++ code_of line.statement) ≡ length m.code + length (code_of line.statement) = length-append m.code (code_of line.statement) in
    ap (λ (x : Section). (m.labels ++ map (label_at (next_place x m.code m.datums)) line.labels) ++ labels_from (length (m.code ++ code_of line.statement)) lines) e
    ∙ ap (λ (k : ℕ). (m.labels ++ own) ++ labels_from k lines) n
    ∙ append_assoc m.labels own (labels_from (length m.code + length (code_of line.statement)) lines)

behind : (m : Made) (lines : List MLine) → m.section ≡ section.Text → AreCode lines → IsBehind m (made_behind m lines) lines
behind m [] e h = record {
  code = sym (append-nil m.code);
  numbers = sym (append-nil m.numbers);
  datums = refl;
  labels = sym (append-nil m.labels);
}
behind m (line ∷ lines) e h =
    let next = with_line m line in
    let b = behind next lines (section_kept m.section line.statement h.0 e) h.1 in
    record {
      code = b.code ∙ append_assoc m.code (code_of line.statement) (code_in lines);
      numbers = b.numbers ∙ append_assoc m.numbers (numbers_of line.number line.statement) (numbers_in lines);
      datums = b.datums ∙ ap (λ (ds : List MDatum). m.datums ++ ds) (no_data (data_size m.datums) line.statement h.0) ∙ append-nil m.datums;
      labels = b.labels ∙ labels_behind m line lines e;
    }

-- ---- labels

-- the labels of the lines, in order
abbrev line_labels : List MLine → List (List ℕ)
line_labels [] = []
line_labels (line ∷ lines) = line.labels ++ line_labels lines

names_at : (place : Place) (names : List (List ℕ)) → label_names (map (label_at place) names) ≡ names
names_at place [] = refl
names_at place (n ∷ names) = ap (λ (l : List (List ℕ)). n ∷ l) (names_at place names)

names_more : (labels : List MLabel) (place : Place) (names : List (List ℕ)) → label_names (labels ++ map (label_at place) names) ≡ label_names labels ++ names
names_more labels place names =
    map-append (λ (l : MLabel). l.name) labels (map (label_at place) names) ∙ ap (λ (l : List (List ℕ)). label_names labels ++ l) (names_at place names)

names_from : (place : ℕ) (lines : List MLine) → label_names (labels_from place lines) ≡ line_labels lines
names_from place [] = refl
names_from place (line ∷ lines) =
    let rest : List MLabel = labels_from (place + length (code_of line.statement)) lines in
    map-append (λ (l : MLabel). l.name) (map (label_at (Code place)) line.labels) rest
    ∙ ap (λ (l : List (List ℕ)). l ++ label_names rest) (names_at (Code place) line.labels)
    ∙ ap (λ (l : List (List ℕ)). line.labels ++ l) (names_from (place + length (code_of line.statement)) lines)

-- ---- names that are new

new_append : (before xs ys : List (List ℕ)) → AreNew before xs → AreNew (before ++ xs) ys → AreNew before (xs ++ ys)
new_append before [] ys h k = subst (λ (b : List (List ℕ)). AreNew b ys) (append-nil before) k
new_append before (x ∷ xs) ys h k = (h.0, new_append (before ++ x ∷ []) xs ys h.1 (subst (λ (b : List (List ℕ)). AreNew b ys) (sym (append_assoc before (x ∷ []) xs)) k))

new_front : (before xs ys : List (List ℕ)) → AreNew before (xs ++ ys) → AreNew before xs
new_front before [] ys h = tt
new_front before (x ∷ xs) ys h = (h.0, new_front (before ++ x ∷ []) xs ys h.1)

new_back : (before xs ys : List (List ℕ)) → AreNew before (xs ++ ys) → AreNew (before ++ xs) ys
new_back before [] ys h = subst (λ (b : List (List ℕ)). AreNew b ys) (sym (append-nil before)) h
new_back before (x ∷ xs) ys h = subst (λ (b : List (List ℕ)). AreNew b ys) (append_assoc before (x ∷ []) xs) (new_back (before ++ x ∷ []) xs ys h.1)

all_front : {A : Type 0} (P : A → Type 0) (xs ys : List A) → All P (xs ++ ys) → All P xs
all_front P [] ys h = All-nil P
all_front P (x ∷ xs) ys h = All-cons P x xs (All-head P x (xs ++ ys) h) (all_front P xs ys (All-tail P x (xs ++ ys) h))

all_last : {A : Type 0} (P : A → Type 0) (xs : List A) (y : A) → All P (xs ++ y ∷ []) → P y
all_last P [] y h = All-head P y [] h
all_last P (x ∷ xs) y h = all_last P xs y (All-tail P x (xs ++ y ∷ []) h)

-- each of them is none of those before
new_at : (before names : List (List ℕ)) (i : ℕ) (n : List ℕ) → AreNew before names → slice_get names i ≡ Some n → IsNew before n
new_at before [] i n h e = absurd (none-some n e)
new_at before (x ∷ names) zero n h e = subst (IsNew before) (same_Some x n e) h.0
new_at before (x ∷ names) (suc i) n h e = all_front (λ (m : List ℕ). m ≢ n) before (x ∷ []) (new_at (before ++ x ∷ []) names i n h.1 e)

-- a name stands at the front alone
first_apart : (before names : List (List ℕ)) (x n : List ℕ) (i : ℕ) → AreNew (before ++ x ∷ []) names → slice_get names i ≡ Some n → x ≡ n → ⊥
first_apart before names x n i h e same = all_last (λ (m : List ℕ). m ≢ n) before x (new_at (before ++ x ∷ []) names i n h e) same

new_once : (before names : List (List ℕ)) (i j : ℕ) (n : List ℕ) → AreNew before names → slice_get names i ≡ Some n → slice_get names j ≡ Some n → i ≡ j
new_once before [] i j n h e f = absurd (none-some n e)
new_once before (x ∷ names) zero zero n h e f = refl
new_once before (x ∷ names) zero (suc j) n h e f = absurd (first_apart before names x n j h.1 f (same_Some x n e))
new_once before (x ∷ names) (suc i) zero n h e f = absurd (first_apart before names x n i h.1 e (same_Some x n f))
new_once before (x ∷ names) (suc i) (suc j) n h e f = ap suc (new_once (before ++ x ∷ []) names i j n h.1 e f)

-- each name stands at one place alone
abbrev Once : List (List ℕ) → Type 0
Once names = (i j : ℕ) (n : List ℕ) → slice_get names i ≡ Some n → slice_get names j ≡ Some n → i ≡ j

new_from : (before names : List (List ℕ)) → Once names → ((i : ℕ) (n : List ℕ) → slice_get names i ≡ Some n → IsNew before n) → AreNew before names
new_from before [] once apart = tt
new_from before (x ∷ names) once apart = (
  apart 0 x refl,
  new_from (before ++ x ∷ []) names (λ i j n e f. back i j (once (suc i) (suc j) n e f)) (λ i n e. All-push (λ (m : List ℕ). m ≢ n) before x (apart (suc i) n e) (λ same. never i (once 0 (suc i) n (ap (λ (y : List ℕ). Some y) same) e))),
)
  where
    back : (i j : ℕ) → suc i ≡ suc j → i ≡ j
    back i j e = omega (arith, e)

    never : (i : ℕ) → 0 ≡ suc i → ⊥
    never i e = omega (arith, e)

name_at : (labels : List MLabel) (i : ℕ) (l : MLabel) → slice_get labels i ≡ Some l → slice_get (label_names labels) i ≡ Some l.name
name_at labels i l e = slice_get-map (λ (k : MLabel). k.name) labels i ∙ ap (λ (o : Option MLabel). option_map (λ (k : MLabel). k.name) o) e

label_of : (labels : List MLabel) (i : ℕ) (n : List ℕ) → slice_get (label_names labels) i ≡ Some n → (l : MLabel) × (slice_get labels i ≡ Some l) × (l.name ≡ n)
label_of [] i n e = absurd (none-some n e)
label_of (l ∷ labels) zero n e = (l, refl, same_Some l.name n e)
label_of (l ∷ labels) (suc i) n e = label_of labels i n e

distinct_labels : (labels : List MLabel) → AreNew [] (label_names labels) → AreDistinct labels
distinct_labels labels h = λ i j a b e f same. new_once [] (label_names labels) i j b.name h (name_at labels i a e ∙ ap (λ (n : List ℕ). Some n) same) (name_at labels j b f)

new_labels : (labels : List MLabel) → AreDistinct labels → AreNew [] (label_names labels)
new_labels labels h =
    new_from [] (label_names labels) (λ i j n e f. let a = label_of labels i n e in let b = label_of labels j n f in h i j a.0 b.0 a.1 b.1 (a.2 ∙ sym b.2)) (λ i n e. All-nil (λ (m : List ℕ). m ≢ n))

-- ---- lines that may stand

allowed_new : (m : Made) (lines : List MLine) → AreAllowed m lines → AreNew (label_names m.labels) (line_labels lines)
allowed_new m [] h = tt
allowed_new m (line ∷ lines) h =
    new_append (label_names m.labels) line.labels (line_labels lines) h.0.new
    (subst (λ (b : List (List ℕ)). AreNew b (line_labels lines)) (names_more m.labels (next_place m.section m.code m.datums) line.labels) (allowed_new (with_line m line) lines h.1))

new_allowed : (m : Made) (lines : List MLine) → m.section ≡ section.Text → AreCode lines → AreNew (label_names m.labels) (line_labels lines) → AreAllowed m lines
new_allowed m [] e h k = tt
new_allowed m (line ∷ lines) e h k = (
  record {
    new = new_front (label_names m.labels) line.labels (line_labels lines) k;
    here = subst (λ (x : Section). StandsIn x line.statement) (sym e) (stands line.statement h.0);
  },
  new_allowed (with_line m line) lines (section_kept m.section line.statement h.0 e) h.1
      (subst (λ (b : List (List ℕ)). AreNew b (line_labels lines)) (sym (names_more m.labels (next_place m.section m.code m.datums) line.labels)) (new_back (label_names m.labels) line.labels (line_labels lines) k)),
)

-- ---- names that are used

module _ (P : List ℕ → Type 0) where
  abbrev Holds : Use → Type 0
  Holds u = P u.name

  abbrev Each : List (List ℕ) → Type 0
  Each [] = Unit {0}
  Each (n ∷ ns) = P n × Each ns

  each_append : (xs ys : List (List ℕ)) → Each xs → Each ys → Each (xs ++ ys)
  each_append [] ys h k = k
  each_append (x ∷ xs) ys h k = (h.0, each_append xs ys h.1 k)

  each_parts : (xs ys : List (List ℕ)) → Each (xs ++ ys) → Each xs × Each ys
  each_parts [] ys h = (tt, h)
  each_parts (x ∷ xs) ys h = let r = each_parts xs ys h.1 in ((h.0, r.0), r.1)

  each_at : (names : List (List ℕ)) (i : ℕ) (n : List ℕ) → Each names → slice_get names i ≡ Some n → P n
  each_at [] i n h e = absurd (none-some n e)
  each_at (x ∷ names) zero n h e = subst P (same_Some x n e) h.0
  each_at (x ∷ names) (suc i) n h e = each_at names i n h.1 e

  each_from : (names : List (List ℕ)) → ((i : ℕ) (n : List ℕ) → slice_get names i ≡ Some n → P n) → Each names
  each_from [] h = tt
  each_from (x ∷ names) h = (h 0 x refl, each_from names (λ i n e. h (suc i) n e))

  found_by : (b : Bool) (x : Use) (uses : List Use) (name : List ℕ) → bytes_eq x.name name ≡ b → Holds x → (is_used uses name ≡ true → P name) → (b || is_used uses name) ≡ true → P name
  found_by true x uses name is h rest e = subst P ((bytes_eq-Decides x.name name).0 is) h
  found_by false x uses name is h rest e = rest e

  used : (uses : List Use) (name : List ℕ) → All Holds uses → is_used uses name ≡ true → P name
  used [] name h e = absurd cc
  used (x ∷ uses) name h e =
      found_by (bytes_eq x.name name) x uses name refl (All-head Holds x uses h) (λ rest. used uses name (All-tail Holds x uses h) rest) e

  abbrev more : ℕ → List Use → List ℕ → List Use
  more line uses name = uses ++ record { name = name; line = line } ∷ []

  kept_by : (b : Bool) (line : ℕ) (uses : List Use) (name : List ℕ) → is_used uses name ≡ b → All Holds (if b then uses else more line uses name) → All Holds uses × P name
  kept_by true line uses name e h = (h, used uses name h e)
  kept_by false line uses name e h =
      let u : Use = record { name = name; line = line } in (all_front Holds uses (u ∷ []) h, all_last Holds uses u h)

  put_by : (b : Bool) (line : ℕ) (uses : List Use) (name : List ℕ) → All Holds uses → P name → All Holds (if b then uses else more line uses name)
  put_by true line uses name h k = h
  put_by false line uses name h k = All-push Holds uses (record { name = name; line = line }) h k

  kept : (line : ℕ) (uses : List Use) (names : List (List ℕ)) → All Holds (with_uses line uses names) → All Holds uses × Each names
  kept line uses [] h = (h, tt)
  kept line uses (n ∷ names) h =
      let r = kept line (with_use line uses n) names h in
      let s = kept_by (is_used uses n) line uses n refl r.0 in
      (s.0, (s.1, r.1))

  put : (line : ℕ) (uses : List Use) (names : List (List ℕ)) → All Holds uses → Each names → All Holds (with_uses line uses names)
  put line uses [] h k = h
  put line uses (n ∷ names) h k = put line (with_use line uses n) names (put_by (is_used uses n) line uses n h k.0) k.1

  kept_behind : (m : Made) (lines : List MLine) → All Holds (made_behind m lines).uses → All Holds m.uses × Each (names_in lines)
  kept_behind m [] h = (h, tt)
  kept_behind m (line ∷ lines) h =
      let r = kept_behind (with_line m line) lines h in
      let s = kept line.number m.uses (names_of line.statement) r.0 in
      (s.0, each_append (names_of line.statement) (names_in lines) s.1 r.1)

  put_behind : (m : Made) (lines : List MLine) → All Holds m.uses → Each (names_in lines) → All Holds (made_behind m lines).uses
  put_behind m [] h k = h
  put_behind m (line ∷ lines) h k =
      let r = each_parts (names_of line.statement) (names_in lines) k in
      put_behind (with_line m line) lines (put line.number m.uses (names_of line.statement) h r.0) r.1

-- ---- the program

-- what lines of code make has these parts
pub made_code : (lines : List MLine) (p : MProgram) → AreCode lines → Makes lines p → MakesCode lines p
made_code lines p code makes =
    let made = made_of lines in
    let b = behind nothing lines refl code in
    let labels : p.labels ≡ labels_from 0 lines = ap (λ (x : MProgram). x.labels) makes.program ∙ b.labels in
    let new : AreNew [] (label_names p.labels) = subst (AreNew []) (sym (names_from 0 lines) ∙ ap label_names (sym labels)) (allowed_new nothing lines makes.allowed) in
    let P : List ℕ → Type 0 = λ n. IsKnown made.labels n in
    let all = (kept_behind P nothing lines makes.known).1 in
    record {
      code = ap (λ (x : MProgram). x.code) makes.program ∙ b.code;
      numbers = ap (λ (x : MProgram). x.numbers) makes.program ∙ b.numbers;
      datums = ap (λ (x : MProgram). x.datums) makes.program ∙ b.datums;
      labels = labels;
      distinct = distinct_labels p.labels new;
      known = λ i name e. subst (λ (ls : List MLabel). IsKnown ls name) (ap (λ (x : MProgram). x.labels) (sym makes.program)) (each_at P (names_in lines) i name all e);
    }

-- a program that has these parts is what the lines of code make
pub code_made : (lines : List MLine) (p : MProgram) → AreCode lines → MakesCode lines p → Makes lines p
code_made lines p code makes =
    let made = made_of lines in
    let b = behind nothing lines refl code in
    let same : p.labels ≡ made.labels = makes.labels ∙ sym b.labels in
    let P : List ℕ → Type 0 = λ n. IsKnown made.labels n in
    let codes : p.code ≡ made.code = makes.code ∙ sym b.code in
    let numbers : p.numbers ≡ made.numbers = makes.numbers ∙ sym b.numbers in
    let datums : p.datums ≡ made.datums = makes.datums ∙ sym b.datums in
    record {
      allowed = new_allowed nothing lines refl code (subst (AreNew []) (ap label_names makes.labels ∙ names_from 0 lines) (new_labels p.labels makes.distinct));
      known = put_behind P nothing lines (All-nil (Holds P)) (each_from P (names_in lines) (λ i n e. subst (λ (ls : List MLabel). IsKnown ls n) same (makes.known i n e)));
      program = λ i. record { code = codes i; numbers = numbers i; datums = datums i; labels = same i };
    }
