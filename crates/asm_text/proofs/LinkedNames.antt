-- What linking makes of names.
use Rattle.std.proofs.Common.{◌≡◌, ◌<◌, ℕ, zero, suc, ◌+◌, List, [], ◌∷◌, ◌++◌, length, map, take, drop, get_or, Option, Some, None, refl, sym, ap, ◌∙◌, subst, arith, append_assoc}
use Rattle.std.specs.Prelude.{All, option_map}
use Rattle.std.proofs.lemmas.List.{take_more, append-nil, get_or-map, length-map}
use Rattle.std.proofs.Math.ListN.{set}
use Rattle.std.proofs.Math.Seq.{take-append_seam}
use Rattle.std.proofs.Math.Numerals.{add-one}
use Rattle.std.proofs.lemmas.List.Elements.{All-head, All-tail}
use Rattle.lcc_base.specs.declared.order.Order.{Order}
use Rattle.asm_lines.specs.declared.instruction.Address.{Address}
use Rattle.asm_lines.specs.declared.instruction.Target.{Target}
use Rattle.asm_lines.specs.declared.instruction.Target.TheVariants as target
use Rattle.asm_lines.specs.declared.instruction.Instruction.{Instruction}
use Rattle.asm_lines.specs.declared.instruction.Instruction.TheVariants.{LoadAddress, LoadNumber, Move, Unary, Binary, Load, Store, Branch, BranchIf, Jump, Call}
use Rattle.asm_lines.specs.Statements.{address_with, target_with, instruction_with}
use Rattle.asm_text.specs.declared.datum.Datum.{Datum}
use Rattle.asm_text.specs.declared.datum.Datum.TheVariants.{Byte, Half, Word, Named, Zeros}
use Rattle.asm_text.specs.Linked.{address_in, datum_bytes, all_bytes}
use Rattle.asm_text.specs.Names.{name_in, target_names, names_of_instruction, names_of_datum, name_at, datum_with}
use Rattle.asm_text.specs.ProgramTable.{AreBelow}

-- ---- one name

module _ {N M : Type 0} (f : N → M) (n : N) where
  name_once : (o : Option N) → name_in (Some n) ≡ name_in o → option_map (λ _. f n) o ≡ option_map f o
  name_once None h = refl
  name_once (Some m) h = let e : n ≡ m = cc in ap (λ (x : N). Some (f x)) e

  address_once : (a : Address N) → name_in (Some n) ≡ name_in a.name → address_with (λ _. f n) a ≡ address_with f a
  address_once a h = ap (λ (o : Option M). record { name = o; offset = a.offset; base = a.base }) (name_once a.name h)

  target_once : (t : Target N) → name_in (Some n) ≡ target_names t → target_with (λ _. f n) t ≡ target_with f t
  target_once (target.Label m) h = let e : n ≡ m = cc in ap (λ (x : N). target.Label (f x)) e
  target_once (target.Register r) h = refl

  -- an instruction's name is the only one
  pub named_once : (i : Instruction N) → name_in (Some n) ≡ names_of_instruction i → instruction_with (λ _. f n) i ≡ instruction_with f i
  named_once (LoadAddress d a) h = ap (λ (x : Address M). LoadAddress d x) (address_once a h)
  named_once (LoadNumber d k) h = refl
  named_once (Move d s) h = refl
  named_once (Unary op d s) h = refl
  named_once (Binary op d s t) h = refl
  named_once (Load op d a) h = ap (λ (x : Address M). Load op d x) (address_once a h)
  named_once (Store op s a) h = ap (λ (x : Address M). Store op s x) (address_once a h)
  named_once (Branch m) h = let e : n ≡ m = cc in ap (λ (x : N). Branch (f x)) e
  named_once (BranchIf c s t m) h = let e : n ≡ m = cc in ap (λ (x : N). BranchIf c s t (f x)) e
  named_once (Jump to) h = ap (λ (x : Target M). Jump x) (target_once to h)
  named_once (Call to) h = ap (λ (x : Target M). Call x) (target_once to h)

module _ {N : Type 0} (f : N → N) where
  address_never : (a : Address N) → name_in {N = N} None ≡ name_in a.name → a ≡ address_with f a
  address_never a h = ap (λ (o : Option N). record { name = o; offset = a.offset; base = a.base }) (never a.name h) where
    never : (o : Option N) → name_in {N = N} None ≡ name_in o → o ≡ option_map f o
    never None h = refl
    never (Some m) h = absurd cc

  target_never : (t : Target N) → name_in {N = N} None ≡ target_names t → t ≡ target_with f t
  target_never (target.Label m) h = absurd cc
  target_never (target.Register r) h = refl

  -- an instruction without a name
  pub named_never : (i : Instruction N) → name_in {N = N} None ≡ names_of_instruction i → i ≡ instruction_with f i
  named_never (LoadAddress d a) h = ap (λ (x : Address N). LoadAddress d x) (address_never a h)
  named_never (LoadNumber d k) h = refl
  named_never (Move d s) h = refl
  named_never (Unary op d s) h = refl
  named_never (Binary op d s t) h = refl
  named_never (Load op d a) h = ap (λ (x : Address N). Load op d x) (address_never a h)
  named_never (Store op s a) h = ap (λ (x : Address N). Store op s x) (address_never a h)
  named_never (Branch m) h = absurd cc
  named_never (BranchIf c s t m) h = absurd cc
  named_never (Jump to) h = ap (λ (x : Target N). Jump x) (target_never to h)
  named_never (Call to) h = ap (λ (x : Target N). Call x) (target_never to h)

-- ---- names by their numbers

-- a table's addresses are those of its names
module _ (address : List ℕ → ℕ) (used : List (List ℕ)) where
  abbrev linked : ℕ → ℕ
  linked = address_in (map address used)

  number_linked : (n : ℕ) → n < length used → address (name_at used n) ≡ linked n
  number_linked n h = sym (get_or-map address used n [] 0 h)

  option_linked : (o : Option ℕ) → AreBelow (length used) (name_in o) → option_map address (option_map (name_at used) o) ≡ option_map linked o
  option_linked None h = refl
  option_linked (Some n) h = ap (λ (x : ℕ). Some x) (number_linked n (h 0 0 (omega arith)))

  address_linked : (a : Address ℕ) → AreBelow (length used) (name_in a.name) → address_with address (address_with (name_at used) a) ≡ address_with linked a
  address_linked a h = ap (λ (o : Option ℕ). record { name = o; offset = a.offset; base = a.base }) (option_linked a.name h)

  target_linked : (t : Target ℕ) → AreBelow (length used) (target_names t) → target_with address (target_with (name_at used) t) ≡ target_with linked t
  target_linked (target.Label n) h = ap (λ (x : ℕ). target.Label x) (number_linked n (h 0 0 (omega arith)))
  target_linked (target.Register r) h = refl

  instruction_linked : (i : Instruction ℕ) → AreBelow (length used) (names_of_instruction i) → instruction_with address (instruction_with (name_at used) i) ≡ instruction_with linked i
  instruction_linked (LoadAddress d a) h = ap (λ (x : Address ℕ). LoadAddress d x) (address_linked a h)
  instruction_linked (LoadNumber d k) h = refl
  instruction_linked (Move d s) h = refl
  instruction_linked (Unary op d s) h = refl
  instruction_linked (Binary op d s t) h = refl
  instruction_linked (Load op d a) h = ap (λ (x : Address ℕ). Load op d x) (address_linked a h)
  instruction_linked (Store op s a) h = ap (λ (x : Address ℕ). Store op s x) (address_linked a h)
  instruction_linked (Branch n) h = ap (λ (x : ℕ). Branch x) (number_linked n (h 0 0 (omega arith)))
  instruction_linked (BranchIf c s t n) h = ap (λ (x : ℕ). BranchIf c s t x) (number_linked n (h 0 0 (omega arith)))
  instruction_linked (Jump to) h = ap (λ (x : Target ℕ). Jump x) (target_linked to h)
  instruction_linked (Call to) h = ap (λ (x : Target ℕ). Call x) (target_linked to h)

  pub code_linked : (code : List (Instruction ℕ)) → All (λ i. AreBelow (length used) (names_of_instruction i)) code → map (instruction_with linked) code ≡ map (instruction_with address) (map (instruction_with (name_at used)) code)
  code_linked [] h = refl
  code_linked (i ∷ is) h =
      let P : Instruction ℕ → Type 0 = λ i. AreBelow (length used) (names_of_instruction i) in
      rw (instruction_linked i (All-head P i is h), code_linked is (All-tail P i is h)) refl

  datum_linked : (order : Order) (d : Datum ℕ) → AreBelow (length used) (names_of_datum d) → datum_bytes order address (datum_with (name_at used) d) ≡ datum_bytes order linked d
  datum_linked order (Byte n) h = refl
  datum_linked order (Half n) h = refl
  datum_linked order (Word n) h = refl
  datum_linked order (Named n k) h = ap (λ (x : ℕ). datum_bytes order (λ (m : ℕ). x) (Named n k)) (number_linked n (h 0 0 (omega arith)))
  datum_linked order (Zeros n) h = refl

  pub data_linked : (order : Order) (datums : List (Datum ℕ)) → All (λ d. AreBelow (length used) (names_of_datum d)) datums → all_bytes order linked datums ≡ all_bytes order address (map (datum_with (name_at used)) datums)
  data_linked order [] h = refl
  data_linked order (d ∷ ds) h =
      let P : Datum ℕ → Type 0 = λ d. AreBelow (length used) (names_of_datum d) in
      rw (datum_linked order d (All-head P d ds h), data_linked order ds (All-tail P d ds h)) refl

-- ---- bytes

bytes_append : (order : Order) (f : ℕ → ℕ) (ds es : List (Datum ℕ)) → all_bytes order f (ds ++ es) ≡ all_bytes order f ds ++ all_bytes order f es
bytes_append order f [] es = refl
bytes_append order f (d ∷ ds) es = ap (λ (bs : List ℕ). datum_bytes order f d ++ bs) (bytes_append order f ds es) ∙ sym (append_assoc (datum_bytes order f d) (all_bytes order f ds) (all_bytes order f es))

-- the bytes of one datum more
pub bytes_more : (order : Order) (f : ℕ → ℕ) (ds : List (Datum ℕ)) (i : ℕ) (d : Datum ℕ) → i < length ds → all_bytes order f (take (i + 1) ds) ≡ all_bytes order f (take i ds) ++ datum_bytes order f (get_or ds i d)
bytes_more order f ds i d h = ap (all_bytes order f) (take_more ds i d h) ∙ (bytes_append order f (take i ds) (get_or ds i d ∷ []) ∙ ap (λ (bs : List ℕ). all_bytes order f (take i ds) ++ bs) (append-nil (datum_bytes order f (get_or ds i d))))

-- ---- code in place

put_here : {A : Type 0} (f : A → A) (xs : List A) (i : ℕ) (d : A) → i < length xs → set (map f (take i xs) ++ drop i xs) i (f (get_or xs i d)) ≡ map f (take (suc i) xs) ++ drop (suc i) xs
put_here f [] i d h = absurd (omega arith)
put_here f (x ∷ xs) zero d h = refl
put_here {A} f (x ∷ xs) (suc i) d h = ap (λ (ys : List A). f x ∷ ys) (put_here f xs i d (omega arith))

at_front : {A : Type 0} (f : A → A) (xs : List A) (i : ℕ) (d : A) → i < length xs → get_or (map f (take i xs) ++ drop i xs) i d ≡ get_or xs i d
at_front f [] i d h = absurd (omega arith)
at_front f (x ∷ xs) zero d h = refl
at_front f (x ∷ xs) (suc i) d h = at_front f xs i d (omega arith)

-- the front is changed up to one value more
pub put_more : {A : Type 0} (f : A → A) (xs ys : List A) (i : ℕ) (x y : A) → i < length xs → ys ≡ map f (take i xs) ++ drop i xs → y ≡ f (get_or ys i x) → set ys i y ≡ map f (take (i + 1) xs) ++ drop (i + 1) xs
put_more {A} f xs ys i x y h e k =
    let same : y ≡ f (get_or xs i x) = k ∙ ap f (ap (λ (l : List A). get_or l i x) e ∙ at_front f xs i x h) in
    rw (add-one, e, same) (put_here f xs i x h)

pub code_placed : (address : List ℕ → ℕ) (used : List (List ℕ)) (code new behind : List (Instruction ℕ)) (addresses : List ℕ) (n : ℕ) → n ≡ length code → addresses ≡ map address used → All (λ i. AreBelow (length used) (names_of_instruction i)) code → new ≡ map (instruction_with (address_in addresses)) code → take n (new ++ behind) ≡ map (instruction_with address) (map (instruction_with (name_at used)) code)
code_placed address used code new behind addresses n k e h g =
    let m : n ≡ length new = k ∙ (sym (length-map code (instruction_with (address_in addresses))) ∙ ap length (sym g)) in
    let P : List ℕ → Type 0 = λ a. new ≡ map (instruction_with (address_in a)) code in
    ap (λ (i : ℕ). take i (new ++ behind)) m ∙ (take-append_seam new behind ∙ (subst P e g ∙ code_linked address used code h))

pub data_placed : (order : Order) (address : List ℕ → ℕ) (used : List (List ℕ)) (datums : List (Datum ℕ)) (bytes addresses : List ℕ) → addresses ≡ map address used → All (λ d. AreBelow (length used) (names_of_datum d)) datums → bytes ≡ all_bytes order (address_in addresses) datums → bytes ≡ all_bytes order address (map (datum_with (name_at used)) datums)
data_placed order address used datums bytes addresses e h g =
    let P : List ℕ → Type 0 = λ a. bytes ≡ all_bytes order (address_in a) datums in
    subst P e g ∙ data_linked address used order datums h
