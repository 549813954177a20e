-- The program that lines make is fit for a machine, if it is within the limits.
-- ---- lines only add
use Rattle.std.specs.Prelude.{◌≡◌, ◌≢◌, ◌≤◌, ◌⊎◌, ℕ, zero, suc, ◌^◌, ◌||◌, Bool, true, false, Option, Some, None, List, [], ◌∷◌, ◌++◌, length, map, All, slice_get, if◌then◌else◌}
use Rattle.std.specs.Str.{bytes_eq}
use Rattle.std.proofs.Common.{refl, sym, ap, ◌∙◌, subst, inl, inr, arith, append_assoc, length-append}
use Rattle.std.proofs.lemmas.List.{map-append, append-nil}
use Rattle.std.proofs.lemmas.List.Elements.{All-nil, All-cons, All-head, All-tail, All-append, All-weaker}
use Rattle.std.proofs.lemmas.List.Sums.{sum_by-append}
use Rattle.std.proofs.lemmas.Option.{none-some, same_Some}
use Rattle.std.proofs.lemmas.Slice.Eq.{bytes_eq-Decides}
use Rattle.asm_lines.specs.declared.section.Section.{Section}
use Rattle.asm_lines.specs.declared.section.Section.TheVariants as section
use Rattle.asm_lines.specs.Statements.{MStatement, Align, Words, Halves, Bytes, Space, Does}
use Rattle.asm_text.specs.declared.datum.Datum.TheVariants as datum
use Rattle.asm_text.specs.declared.place.Place.{Place}
use Rattle.asm_text.specs.declared.place.Place.TheVariants as place
use Rattle.asm_text.specs.Addresses.{IsKnown}
use Rattle.asm_text.specs.IsProgram.{IsPlaceIn, IsProgram}
use Rattle.asm_text.specs.Lines.{MLine}
use Rattle.asm_text.specs.Made.{Made, Use, made_of, made_behind, nothing, with_line, with_use, with_uses, is_used, next_place, label_at, code_of, numbers_of, data_of, word_datum, named_or, padding}
use Rattle.asm_text.specs.Makes.{Makes, AreNew, AreAllowed, IsNew, IsWithinLimits, label_names, program_of}
use Rattle.asm_text.specs.Names.{name_in, names_of, names_of_items, names_of_instruction, names_of_datum}
use Rattle.asm_text.specs.Program.{MInstruction, MDatum, MLabel, MProgram, AreDistinct, size_of, data_size}

pub record Grows (m n : Made) : Type 0 where
  pub code : length m.code ≤ length n.code
  pub datums : data_size m.datums ≤ data_size n.datums

pub grows_with : (m : Made) (l : MLine) → Grows m (with_line m l)
grows_with m l = record {
  code = omega (arith, length-append m.code (code_of l.statement));
  datums = omega (arith, sum_by-append size_of m.datums (data_of (data_size m.datums) l.statement));
}

pub grows_behind : (m : Made) (ls : List MLine) → Grows m (made_behind m ls)
grows_behind m [] = record { code = omega arith; datums = omega arith }
grows_behind m (l ∷ ls) =
    let a = grows_with m l in
    let b = grows_behind (with_line m l) ls in
    record { code = omega (arith, a.code, b.code); datums = omega (arith, a.datums, b.datums) }

-- ---- the numbers of lines

as_many : (line : ℕ) (s : MStatement) → length (numbers_of line s) ≡ length (code_of s)
as_many line (Does i) = refl
as_many line s = refl

numbered_with : (m : Made) (l : MLine) → length m.numbers ≡ length m.code → length (with_line m l).numbers ≡ length (with_line m l).code
numbered_with m l h = omega (arith, length-append m.numbers (numbers_of l.number l.statement), length-append m.code (code_of l.statement), as_many l.number l.statement, h)

numbered_behind : (m : Made) (ls : List MLine) → length m.numbers ≡ length m.code → length (made_behind m ls).numbers ≡ length (made_behind m ls).code
numbered_behind m [] h = h
numbered_behind m (l ∷ ls) h = numbered_behind (with_line m l) ls (numbered_with m l h)

-- ---- places

place_grows : (m n : Made) (x : Place) → Grows m n → IsPlaceIn (program_of m) x → IsPlaceIn (program_of n) x
place_grows m n (place.Code k) g h = omega (arith, g.code, h)
place_grows m n (place.Data k) g h = omega (arith, g.datums, h)

next_within : (x : Section) (code : List MInstruction) (numbers : List ℕ) (datums : List MDatum) (labels : List MLabel) → IsPlaceIn (record { code = code; numbers = numbers; datums = datums; labels = labels }) (next_place x code datums)
next_within section.Text code numbers datums labels = omega arith
next_within section.Data code numbers datums labels = omega arith

abbrev AreWithin : Made → List MLabel → Type 0
AreWithin m labels = All (λ (l : MLabel). IsPlaceIn (program_of m) l.place) labels

within_grows : (m n : Made) (labels : List MLabel) → Grows m n → AreWithin m labels → AreWithin n labels
within_grows m n labels g h = All-weaker (λ (l : MLabel). IsPlaceIn (program_of m) l.place) (λ (l : MLabel). IsPlaceIn (program_of n) l.place) (λ l k. place_grows m n l.place g k) labels h

within_named : (m : Made) (at : Place) (names : List (List ℕ)) → IsPlaceIn (program_of m) at → AreWithin m (map (label_at at) names)
within_named m at [] h = All-nil (λ (l : MLabel). IsPlaceIn (program_of m) l.place)
within_named m at (n ∷ ns) h = All-cons (λ (l : MLabel). IsPlaceIn (program_of m) l.place) (label_at at n) (map (label_at at) ns) h (within_named m at ns h)

within_with : (m : Made) (l : MLine) → AreWithin m m.labels → AreWithin (with_line m l) (with_line m l).labels
within_with m l h =
    let at = next_place m.section m.code m.datums in
    let new = map (label_at at) l.labels in
    let placed = within_named m at l.labels (next_within m.section m.code m.numbers m.datums m.labels) in
    within_grows m (with_line m l) (m.labels ++ new) (grows_with m l) (All-append (λ (x : MLabel). IsPlaceIn (program_of m) x.place) m.labels new h placed)

within_behind : (m : Made) (ls : List MLine) → AreWithin m m.labels → AreWithin (made_behind m ls) (made_behind m ls).labels
within_behind m [] h = h
within_behind m (l ∷ ls) h = within_behind (with_line m l) ls (within_with m l h)

-- ---- labels stand once

got_more : {A : Type 0} (xs : List A) (x : A) (i : ℕ) (a : A) → slice_get (xs ++ x ∷ []) i ≡ Some a → (slice_get xs i ≡ Some a) ⊎ ((i ≡ length xs) × (x ≡ a))
got_more [] x zero a h = inr (refl, same_Some x a h)
got_more [] x (suc i) a h = absurd (none-some a h)
got_more (y ∷ xs) x zero a h = inl h
got_more (y ∷ xs) x (suc i) a h = elim (got_more xs x i a h) [
  | inl e ↦ inl e
  | inr e ↦ inr (ap suc e.0, e.1)
]

new_at : (labels : List MLabel) (name : List ℕ) (i : ℕ) (a : MLabel) → IsNew (label_names labels) name → slice_get labels i ≡ Some a → a.name ≡ name → ⊥
new_at [] name i a h g e = absurd (none-some a g)
new_at (l ∷ ls) name zero a h g e = All-head (λ (n : List ℕ). n ≢ name) l.name (label_names ls) h (ap (λ (x : MLabel). x.name) (same_Some l a g) ∙ e)
new_at (l ∷ ls) name (suc i) a h g e = new_at ls name i a (All-tail (λ (n : List ℕ). n ≢ name) l.name (label_names ls) h) g e

distinct_one : (labels : List MLabel) (x : MLabel) → IsNew (label_names labels) x.name → AreDistinct labels → AreDistinct (labels ++ x ∷ [])
distinct_one labels x new h i j a b p q e =
    elim (got_more labels x i a p) [
      | inl u ↦ elim (got_more labels x j b q) [
        | inl v ↦ h i j a b u v e
        | inr v ↦ absurd (new_at labels x.name i a new u (e ∙ ap (λ (l : MLabel). l.name) (sym v.1)))
      ]
      | inr u ↦ elim (got_more labels x j b q) [
        | inl v ↦ absurd (new_at labels x.name j b new v (sym e ∙ ap (λ (l : MLabel). l.name) (sym u.1)))
        | inr v ↦ u.0 ∙ sym v.0
      ]
    ]

names_one : (labels : List MLabel) (x : MLabel) → label_names (labels ++ x ∷ []) ≡ label_names labels ++ x.name ∷ []
names_one labels x = map-append (λ (l : MLabel). l.name) labels (x ∷ [])

distinct_named : (at : Place) (names : List (List ℕ)) (labels : List MLabel) → AreNew (label_names labels) names → AreDistinct labels → AreDistinct (labels ++ map (label_at at) names)
distinct_named at [] labels new h = subst AreDistinct (sym (append-nil labels)) h
distinct_named at (n ∷ ns) labels new h =
    let x = label_at at n in
    let P : List (List ℕ) → Type 0 = λ before. AreNew before ns in
    let r = distinct_named at ns (labels ++ x ∷ []) (subst P (sym (names_one labels x)) new.1) (distinct_one labels x new.0 h) in
    subst AreDistinct (append_assoc labels (x ∷ []) (map (label_at at) ns)) r

distinct_behind : (m : Made) (ls : List MLine) → AreAllowed m ls → AreDistinct m.labels → AreDistinct (made_behind m ls).labels
distinct_behind m [] a h = h
distinct_behind m (l ∷ ls) a h = distinct_behind (with_line m l) ls a.1 (distinct_named (next_place m.section m.code m.datums) l.labels m.labels a.0.new h)

no_labels : AreDistinct []
no_labels i j a b p q e = absurd (none-some a p)

-- ---- names are used

module _ (P : List ℕ → Type 0) where
  abbrev Holds : Use → Type 0
  Holds u = P u.name

  used_holds : (uses : List Use) (name : List ℕ) → is_used uses name ≡ true → All Holds uses → P name
  used_holds [] name e h = absurd cc
  used_holds (u ∷ us) name e h = one (bytes_eq u.name name) refl (λ k. used_holds us name k (All-tail Holds u us h)) where
    one : (b : Bool) → bytes_eq u.name name ≡ b → (is_used us name ≡ true → P name) → P name
    one true k more = subst P ((bytes_eq-Decides u.name name).0 k) (All-head Holds u us h)
    one false k more = more (sym (ap (λ (b : Bool). b || is_used us name) k) ∙ e)

  front_holds : (us vs : List Use) → All Holds (us ++ vs) → All Holds us
  front_holds [] vs h = All-nil Holds
  front_holds (u ∷ us) vs h = All-cons Holds u us (All-head Holds u (us ++ vs) h) (front_holds us vs (All-tail Holds u (us ++ vs) h))

  last_holds : (us : List Use) (u : Use) → All Holds (us ++ u ∷ []) → P u.name
  last_holds [] u h = All-head Holds u [] h
  last_holds (v ∷ us) u h = last_holds us u (All-tail Holds v (us ++ u ∷ []) h)

  -- where a use that is added holds, those before do, and its name
  with_use_holds : (line : ℕ) (uses : List Use) (name : List ℕ) → All Holds (with_use line uses name) → All Holds uses × P name
  with_use_holds line uses name h = chosen (is_used uses name) refl h where
    chosen : (b : Bool) → is_used uses name ≡ b → All Holds (if b then uses else uses ++ record { name = name; line = line } ∷ []) → All Holds uses × P name
    chosen true e k = (k, used_holds uses name e k)
    chosen false e k = (front_holds uses (record { name = name; line = line } ∷ []) k, last_holds uses (record { name = name; line = line }) k)

  with_uses_hold : (line : ℕ) (uses : List Use) (names : List (List ℕ)) → All Holds (with_uses line uses names) → All Holds uses × All P names
  with_uses_hold line uses [] h = (h, All-nil P)
  with_uses_hold line uses (n ∷ ns) h =
      let r = with_uses_hold line (with_use line uses n) ns h in
      let q = with_use_holds line uses n r.0 in
      (q.0, All-cons P n ns q.1 r.1)

  uses_before : (m : Made) (ls : List MLine) → All Holds (made_behind m ls).uses → All Holds m.uses
  uses_before m [] h = h
  uses_before m (l ∷ ls) h = (with_uses_hold l.number m.uses (names_of l.statement) (uses_before (with_line m l) ls h)).0

  names_hold : (m : Made) (l : MLine) (ls : List MLine) → All Holds (made_behind (with_line m l) ls).uses → All P (names_of l.statement)
  names_hold m l ls h = (with_uses_hold l.number m.uses (names_of l.statement) (uses_before (with_line m l) ls h)).1

  -- ---- names of code

  abbrev CodeHolds : MInstruction → Type 0
  CodeHolds i = All P (names_of_instruction i)

  code_of_holds : (s : MStatement) → All P (names_of s) → All CodeHolds (code_of s)
  code_of_holds (Does i) h = All-cons CodeHolds i [] h (All-nil CodeHolds)
  code_of_holds s h = All-nil CodeHolds

  pub code_holds : (m : Made) (ls : List MLine) → All CodeHolds m.code → All Holds (made_behind m ls).uses → All CodeHolds (made_behind m ls).code
  code_holds m [] c h = c
  code_holds m (l ∷ ls) c h = code_holds (with_line m l) ls (All-append CodeHolds m.code (code_of l.statement) c (code_of_holds l.statement (names_hold m l ls h))) h

  -- ---- names of data

  abbrev DatumHolds : MDatum → Type 0
  DatumHolds d = All P (names_of_datum d)

  word_holds : (o : Option (List ℕ)) (n : ℕ) → All P (name_in o) → DatumHolds (named_or o n)
  word_holds None n h = All-nil P
  word_holds (Some name) n h = h

  names_front : (ns ms : List (List ℕ)) → All P (ns ++ ms) → All P ns × All P ms
  names_front [] ms h = (All-nil P, h)
  names_front (n ∷ ns) ms h =
      let r = names_front ns ms (All-tail P n (ns ++ ms) h) in
      (All-cons P n ns (All-head P n (ns ++ ms) h) r.0, r.1)

  words_hold : (items : List (Option (List ℕ) × ℕ)) → All P (names_of_items items) → All DatumHolds (map word_datum items)
  words_hold [] h = All-nil DatumHolds
  words_hold (i ∷ is) h =
      let r = names_front (name_in i.0) (names_of_items is) h in
      All-cons DatumHolds (word_datum i) (map word_datum is) (word_holds i.0 i.1 r.0) (words_hold is r.1)

  halves_hold : (halves : List ℕ) → All DatumHolds (map (λ n. datum.Half n) halves)
  halves_hold [] = All-nil DatumHolds
  halves_hold (n ∷ ns) = All-cons DatumHolds (datum.Half n) (map (λ n. datum.Half n) ns) (All-nil P) (halves_hold ns)

  bytes_hold : (bytes : List ℕ) → All DatumHolds (map (λ n. datum.Byte n) bytes)
  bytes_hold [] = All-nil DatumHolds
  bytes_hold (n ∷ ns) = All-cons DatumHolds (datum.Byte n) (map (λ n. datum.Byte n) ns) (All-nil P) (bytes_hold ns)

  zeros_hold : (n : ℕ) → All DatumHolds (datum.Zeros n ∷ [])
  zeros_hold n = All-cons DatumHolds (datum.Zeros n) [] (All-nil P) (All-nil DatumHolds)

  data_of_holds : (size : ℕ) (s : MStatement) → All P (names_of s) → All DatumHolds (data_of size s)
  data_of_holds size (Align n) h = zeros_hold (padding size (2 ^ n))
  data_of_holds size (Words items) h = words_hold items h
  data_of_holds size (Halves halves) h = halves_hold halves
  data_of_holds size (Bytes bytes) h = bytes_hold bytes
  data_of_holds size (Space n) h = zeros_hold n
  data_of_holds size s h = All-nil DatumHolds

  pub data_holds : (m : Made) (ls : List MLine) → All DatumHolds m.datums → All Holds (made_behind m ls).uses → All DatumHolds (made_behind m ls).datums
  data_holds m [] c h = c
  data_holds m (l ∷ ls) c h = data_holds (with_line m l) ls (All-append DatumHolds m.datums (data_of (data_size m.datums) l.statement) c (data_of_holds (data_size m.datums) l.statement (names_hold m l ls h))) h

-- ---- programs

pub is_program : (lines : List MLine) (p : MProgram) → Makes lines p → IsWithinLimits p → IsProgram p
is_program lines p made limits =
    let m = made_of lines in
    let known : List ℕ → Type 0 = λ name. IsKnown m.labels name in
    let P : MProgram → Type 0 = λ x. IsWithinLimits x in
    let is : IsProgram (program_of m) = record {
      limits = subst P made.program limits;
      numbered = numbered_behind nothing lines refl;
      within = within_behind nothing lines (All-nil (λ (l : MLabel). IsPlaceIn (program_of nothing) l.place));
      distinct = distinct_behind nothing lines made.allowed no_labels;
      code_known = code_holds known nothing lines (All-nil (λ (i : MInstruction). All known (names_of_instruction i))) made.known;
      data_known = data_holds known nothing lines (All-nil (λ (d : MDatum). All known (names_of_datum d))) made.known;
    } in
    subst IsProgram (sym made.program) is
