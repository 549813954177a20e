-- The code and the labels of a program that a unit's lines make, and where its functions stand.
use Rattle.std.proofs.Common.{◌≡◌, ℕ, zero, suc, ◌+◌, Bool, true, false, List, [], ◌∷◌, ◌++◌, length, map, Some, refl, sym, ap, ◌∙◌, subst, append_assoc, length-append, arith}
use Rattle.std.specs.Prelude.{if◌then◌else◌, slice_get}
use Rattle.std.specs.Str.{bytes_eq}
use Rattle.std.specs.List.{AllZip}
use Rattle.std.proofs.lemmas.Slice.Eq.{bytes_eq-Decides}
use Rattle.std.proofs.lemmas.Option.{none-some, same_Some}
use Rattle.asm_lines.specs.Statements.{MStatement, Text, Does}
use Rattle.asm_text.specs.declared.place.Place.{Place}
use Rattle.asm_text.specs.declared.place.Place.TheVariants.{Code}
use Rattle.asm_text.proofs.lemmas.CodeLines.{MakesCode, code_in, labels_from, names_in, made_code}
use Rattle.asm_text.specs.Lines.{MLine}
use Rattle.asm_text.specs.Linked.{code_place}
use Rattle.asm_text.specs.Made.{code_of, label_at}
use Rattle.asm_text.specs.Makes.{Makes}
use Rattle.asm_text.specs.Names.{names_of_instruction, names_of}
use Rattle.asm_text.specs.Program.{MInstruction, MLabel, MProgram, place_of, AreDistinct}
use Rattle.unit_text.specs.Items.{CodeItem, Line, Mark, lines_in, StandsIn}
use Rattle.unit_text.specs.UnitLines.{Item, Coded, plain, numbered, code_lines, items_of, unit_lines}
use Rattle.op_forest.specs.Lowered.{LoweredUnit}
use Rattle.op_forest.specs.declared.lowered.LoweredFunction.{LoweredFunction}
use Rattle.unit_text.specs.UnitOf.{AreLinesOf, HasProgram}
use Rattle.unit_text.specs.Entries.{codes_of, marks_from, labels_of, HasEntry}
use Rattle.unit_text.proofs.lemmas.CodeAlone.{unit_code}

-- ---- the code of functions

abbrev item_code : List Item → List MInstruction
item_code [] = []
item_code (x ∷ xs) = code_of x.statement ++ item_code xs

code_numbered : (n : ℕ) (xs : List Item) → code_in (numbered n xs) ≡ item_code xs
code_numbered n [] = refl
code_numbered n (x ∷ xs) = ap (λ z. code_of x.statement ++ z) (code_numbered (n + 1) xs)

code_function : (labels : ℕ → List ℕ) (xs : List (CodeItem MInstruction)) (rest : List Item) → item_code (code_lines labels xs ++ rest) ≡ lines_in xs ++ item_code rest
code_function labels [] rest = refl
code_function labels (Line i ∷ xs) rest = ap (λ z. i ∷ z) (code_function labels xs rest)
code_function labels (Mark l ∷ xs) rest = code_function labels xs rest

code_items : (fs : List Coded) → item_code (items_of fs) ≡ codes_of fs
code_items [] = refl
code_items (f ∷ fs) = code_function f.labels f.items (items_of fs) ∙ ap (λ z. lines_in f.items ++ z) (code_items fs)

pub code_unit : (fs : List Coded) → code_in (unit_lines fs) ≡ codes_of fs
code_unit fs = code_numbered 2 (items_of fs) ∙ code_items fs

-- ---- the labels

abbrev item_labels : ℕ → List Item → List MLabel
item_labels place [] = []
item_labels place (x ∷ xs) = map (label_at (Code place)) x.labels ++ item_labels (place + length (code_of x.statement)) xs

labels_numbered : (n place : ℕ) (xs : List Item) → labels_from place (numbered n xs) ≡ item_labels place xs
labels_numbered n place [] = refl
labels_numbered n place (x ∷ xs) = ap (λ z. map (label_at (Code place)) x.labels ++ z) (labels_numbered (n + 1) (place + length (code_of x.statement)) xs)

labels_code : (labels : ℕ → List ℕ) (xs : List (CodeItem MInstruction)) (place : ℕ) (rest : List Item) → item_labels place (code_lines labels xs ++ rest) ≡ marks_from labels place xs ++ item_labels (place + length (lines_in xs)) rest
labels_code labels [] place rest = let e : place ≡ place + 0 = omega arith in ap (λ n. item_labels n rest) e
labels_code labels (Line i ∷ xs) place rest =
    let e : place + 1 ≡ suc place = omega arith in
    let d : suc place + length (lines_in xs) ≡ place + suc (length (lines_in xs)) = omega arith in
    ap (λ n. item_labels n (code_lines labels xs ++ rest)) e ∙ labels_code labels xs (suc place) rest ∙ ap (λ n. marks_from labels (suc place) xs ++ item_labels n rest) d
labels_code labels (Mark l ∷ xs) place rest =
    let e : place + 0 ≡ place = omega arith in
    ap (λ z. label_at (Code place) (labels l) ∷ z) (ap (λ n. item_labels n (code_lines labels xs ++ rest)) e ∙ labels_code labels xs place rest)

labels_items : (fs : List Coded) (place : ℕ) → item_labels place (items_of fs) ≡ labels_of place fs
labels_items [] place = refl
labels_items (f ∷ fs) place =
    let e : place + 0 ≡ place = omega arith in
    let d : place + 0 + 0 ≡ place = omega arith in
    ap (λ n. label_at (Code n) f.name ∷ item_labels (place + 0 + 0) (code_lines f.labels f.items ++ items_of fs)) e
    ∙ ap (λ n. label_at (Code place) f.name ∷ item_labels n (code_lines f.labels f.items ++ items_of fs)) d
    ∙ ap (λ z. label_at (Code place) f.name ∷ z) (labels_code f.labels f.items place (items_of fs) ∙ ap (λ z. marks_from f.labels place f.items ++ z) (labels_items fs (place + length (lines_in f.items))))

pub labels_unit : (fs : List Coded) → labels_from 0 (unit_lines fs) ≡ labels_of 0 fs
labels_unit fs = labels_numbered 1 0 (plain Text ∷ items_of fs) ∙ labels_items fs 0

-- ---- labels by their names

bytes_same : (a b : List ℕ) → bytes_eq a b ≡ true → a ≡ b
bytes_same a b e = (bytes_eq-Decides a b).0 e

bytes_true : (a b : List ℕ) → a ≡ b → bytes_eq a b ≡ true
bytes_true a b e = (bytes_eq-Decides a b).1 e

zero_suc : (k : ℕ) → 0 ≡ suc k → ⊥
zero_suc k e = omega (arith, e)

found_place : (b : Bool) (l : MLabel) (ls : List MLabel) (name : List ℕ) (x : Place) → (b ≡ true → l.place ≡ x) → (b ≡ false → place_of ls name ≡ Some x) → (if b then Some l.place else place_of ls name) ≡ Some x
found_place true l ls name x h k = ap Some (h refl)
found_place false l ls name x h k = k refl

-- the only label with a name is found
place_at : (ls : List MLabel) (i : ℕ) (l : MLabel) → slice_get ls i ≡ Some l → ((j : ℕ) (m : MLabel) → slice_get ls j ≡ Some m → m.name ≡ l.name → j ≡ i) → place_of ls l.name ≡ Some l.place
place_at [] i l at one = absurd (none-some l at)
place_at (m ∷ ls) zero l at one =
    let same : m ≡ l = same_Some m l at in
    let yes : bytes_eq m.name l.name ≡ true = bytes_true m.name l.name (ap (λ x. x.name) same) in
    ap (λ b. if b then Some m.place else place_of ls l.name) yes ∙ ap (λ x. Some x.place) same
place_at (m ∷ ls) (suc i) l at one =
    found_place (bytes_eq m.name l.name) m ls l.name l.place
    (λ e. absurd (zero_suc i (one 0 m refl (bytes_same m.name l.name e))))
    (λ e. place_at ls i l at (λ j x h f. let d = one (suc j) x h f in omega (arith, d)))

place_found : (labels : List MLabel) (i : ℕ) (l : MLabel) → AreDistinct labels → slice_get labels i ≡ Some l → place_of labels l.name ≡ Some l.place
place_found labels i l distinct at = place_at labels i l at (λ j m h is. distinct j i m l h at is)

-- ---- what stands behind others

get_right : {A : Type 0} (xs ys : List A) (i : ℕ) → slice_get (xs ++ ys) (length xs + i) ≡ slice_get ys i
get_right [] ys i = let e : 0 + i ≡ i = omega arith in ap (λ n. slice_get ys n) e
get_right (x ∷ xs) ys i = let e : suc (length xs) + i ≡ suc (length xs + i) = omega arith in ap (λ n. slice_get (x ∷ xs ++ ys) n) e ∙ get_right xs ys i

-- the element behind these
get_next : {A : Type 0} (xs ys : List A) (y : A) → slice_get (xs ++ y ∷ ys) (length xs) ≡ Some y
get_next xs ys y = let e : length xs ≡ length xs + 0 = omega arith in ap (λ n. slice_get (xs ++ y ∷ ys) n) e ∙ get_right xs (y ∷ ys) 0

-- one more in front
push_front : {A : Type 0} (xs ys : List A) (y : A) → (xs ++ y ∷ []) ++ ys ≡ xs ++ y ∷ ys
push_front xs ys y = append_assoc xs (y ∷ []) ys

next_length : {A : Type 0} (xs : List A) (y : A) → length (xs ++ y ∷ []) ≡ suc (length xs)
next_length [] y = refl
next_length (x ∷ xs) y = ap suc (next_length xs y)

-- ---- where functions stand

module _ (p : MProgram) (distinct : AreDistinct p.labels) where
  -- a label behind others is found
  label_there : (before after : List MLabel) (l : MLabel) → p.labels ≡ before ++ l ∷ after → place_of p.labels l.name ≡ Some l.place
  label_there before after l e = place_found p.labels (length before) l distinct (ap (λ ls. slice_get ls (length before)) e ∙ get_next before after l)

  -- items stand behind the code and the labels before them
  stands : (labels : ℕ → List ℕ) (xs : List (CodeItem MInstruction)) (code after : List MInstruction) (before behind : List MLabel) → p.code ≡ code ++ (lines_in xs ++ after) → p.labels ≡ before ++ (marks_from labels (length code) xs ++ behind) → StandsIn p.code (λ l. code_place (place_of p.labels (labels l))) (length code) xs
  stands labels [] code after before behind c m = tt
  stands labels (Line i ∷ xs) code after before behind c m =
      let n : length (code ++ i ∷ []) ≡ suc (length code) = next_length code i in (
        ap (λ is. slice_get is (length code)) c ∙ get_next code (lines_in xs ++ after) i,
        subst (λ k. StandsIn p.code (λ l. code_place (place_of p.labels (labels l))) k xs) n
            (stands labels xs (code ++ i ∷ []) after before behind (c ∙ sym (push_front code (lines_in xs ++ after) i)) (m ∙ ap (λ k. before ++ (marks_from labels k xs ++ behind)) (sym n))),
      )
  stands labels (Mark l ∷ xs) code after before behind c m =
      let here : MLabel = label_at (Code (length code)) (labels l) in (
        ap code_place (label_there before (marks_from labels (length code) xs ++ behind) here m),
        stands labels xs code after (before ++ here ∷ []) behind c (m ∙ sym (push_front before (marks_from labels (length code) xs ++ behind) here)),
      )

  -- a function stands behind others
  has_entry : (c : Coded) (code after : List MInstruction) (before behind : List MLabel) → p.code ≡ code ++ (lines_in c.items ++ after) → p.labels ≡ before ++ (label_at (Code (length code)) c.name ∷ (marks_from c.labels (length code) c.items ++ behind)) → HasEntry p c
  has_entry c code after before behind e m =
      let own : MLabel = label_at (Code (length code)) c.name in
      let more : List MLabel = marks_from c.labels (length code) c.items ++ behind in
      record {
        entry = length code;
        named = label_there before more own m;
        stands = stands c.labels c.items code after (before ++ own ∷ []) behind e (m ∙ sym (push_front before more own));
      }

  -- all of them, behind others
  pub have_entries : {A : Type 0} (R : A → Coded → Type 0) (xs : List A) (cs : List Coded) (code : List MInstruction) (before : List MLabel) → AllZip R xs cs → p.code ≡ code ++ codes_of cs → p.labels ≡ before ++ labels_of (length code) cs → AllZip (λ x c. R x c × HasEntry p c) xs cs
  have_entries R [] [] code before z e m = tt
  have_entries R [] (c ∷ cs) code before z e m = absurd z
  have_entries R (x ∷ xs) [] code before z e m = absurd z
  have_entries R (x ∷ xs) (c ∷ cs) code before z e m =
      let own : MLabel = label_at (Code (length code)) c.name in
      let marks : List MLabel = marks_from c.labels (length code) c.items in
      let n : length (code ++ lines_in c.items) ≡ length code + length (lines_in c.items) = length-append code (lines_in c.items) in
      let behind : List MLabel = labels_of (length code + length (lines_in c.items)) cs in (
        (z.0, has_entry c code (codes_of cs) before behind e m),
        have_entries R xs cs (code ++ lines_in c.items) (before ++ own ∷ marks) z.1 (e ∙ sym (append_assoc code (lines_in c.items) (codes_of cs)))
            (m ∙ sym (append_assoc before (own ∷ marks) behind) ∙ ap (λ k. (before ++ own ∷ marks) ++ labels_of k cs) (sym n)),
      )

-- ---- the names that the code speaks of are known

get_more : (xs ys : List (List ℕ)) (name : List ℕ) → ((i : ℕ) × (slice_get ys i ≡ Some name)) → (i : ℕ) × (slice_get (xs ++ ys) i ≡ Some name)
get_more xs ys name h = (length xs + h.0, get_right xs ys h.0 ∙ h.1)

named_one : (s : MStatement) (code : List MInstruction) (names : List (List ℕ)) (j : ℕ) (i : MInstruction) (name : List ℕ) → names_of_instruction i ≡ name ∷ [] → slice_get (code_of s ++ code) j ≡ Some i → ((k : ℕ) → slice_get code k ≡ Some i → (m : ℕ) × (slice_get names m ≡ Some name)) → (m : ℕ) × (slice_get (names_of s ++ names) m ≡ Some name)
named_one (Does x) code names zero i name is at h =
    let e : names_of_instruction x ≡ name ∷ [] = ap names_of_instruction (same_Some x i at) ∙ is in
    (0, ap (λ z. slice_get (z ++ names) 0) e)
named_one (Does x) code names (suc j) i name is at h = get_more (names_of_instruction x) names name (h j at)
named_one s code names j i name is at h = get_more (names_of s) names name (h j at)

named_in : (lines : List MLine) (j : ℕ) (i : MInstruction) (name : List ℕ) → names_of_instruction i ≡ name ∷ [] → slice_get (code_in lines) j ≡ Some i → (m : ℕ) × (slice_get (names_in lines) m ≡ Some name)
named_in [] j i name is at = absurd (none-some i at)
named_in (line ∷ lines) j i name is at = named_one line.statement (code_in lines) (names_in lines) j i name is at (λ k h. named_in lines k i name is h)

-- ---- the program of a unit

-- what the lines of generated functions make
pub unit_program : (IsMade : LoweredFunction → Coded → Type 0) (u : LoweredUnit) (lines : List MLine) (p : MProgram) → AreLinesOf IsMade u lines → Makes lines p → HasProgram IsMade u p
unit_program IsMade u lines p generated makes =
    let fs = generated.functions in
    let made : MakesCode (unit_lines fs) p = made_code (unit_lines fs) p (unit_code fs) (subst (λ x. Makes x p) generated.lines_are makes) in
    let code : p.code ≡ codes_of fs = made.code ∙ code_unit fs in
    let labels : p.labels ≡ labels_of 0 fs = made.labels ∙ labels_unit fs in
    record {
      functions = fs;
      code = code;
      datums = made.datums;
      labels = labels;
      each = have_entries p made.distinct IsMade u.functions fs [] [] generated.each code labels;
      known = λ j i name is at. let n = named_in (unit_lines fs) j i name is (ap (λ x. slice_get x j) (sym made.code) ∙ at) in made.known n.0 name n.1;
    }
