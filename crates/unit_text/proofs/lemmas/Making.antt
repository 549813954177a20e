-- What the lines of a unit take to make a program: each function's name is a label of its own, and each name that is
-- called is one of them or a built-in function's.
use Rattle.std.proofs.Common.{◌≡◌, ℕ, zero, suc, ◌+◌, ◌<◌, Bool, true, false, List, [], ◌∷◌, ◌++◌, length, map, get_or, codes, Option, Some, None, refl, sym, ap, ◌∙◌, subst, inl, inr, arith}
use Rattle.std.specs.Prelude.{All, slice_get, option_map, if◌then◌else◌}
use Rattle.std.specs.List.{AllZip}
use Rattle.std.specs.Str.{bytes_eq}
use Rattle.std.proofs.lemmas.List.Elements.{All-get_or}
use Rattle.std.proofs.lemmas.Option.{slice_get-map, slice_get-get_or, slice_get_read, slice_get_within, get_or_from_slice_get, none-some, same_Some}
use Rattle.std.proofs.lemmas.Slice.Eq.{bytes_eq-Decides}
use Rattle.lburg_model.specs.Description.{AreDistinct}
use Rattle.asm_lines.specs.Statements.{Text}
use Rattle.asm_text.specs.declared.place.Place.{Place}
use Rattle.asm_text.specs.declared.place.Place.TheVariants.{Code}
use Rattle.asm_text.specs.Addresses.{putchar_at, getchar_at, exit_at, built_in_at, address_at, address_by, IsKnown}
use Rattle.asm_text.proofs.lemmas.CodeLines.{MakesCode, code_in, numbers_in, labels_from, names_in, code_made}
use Rattle.asm_text.specs.Lines.{MLine}
use Rattle.asm_text.specs.Made.{code_of, label_at}
use Rattle.asm_text.specs.Makes.{Makes}
use Rattle.asm_text.specs.Names.{names_of}
use Rattle.asm_text.specs.Program.{MLabel, MProgram, place_of, AreDistinct as HaveDistinctNames}
use Rattle.op_forest.specs.declared.lowered.LoweredFunction.{LoweredFunction}
use Rattle.op_forest.specs.Callees.{BuiltIn, Putchar, Getchar, Exit}
use Rattle.op_forest.specs.Nodes.{head_of}
use Rattle.op_forest.specs.Units.{named_by}
use Rattle.op_forest.specs.EachNode.{AtEachNode}
use Rattle.op_forest.specs.Lowered.{LoweredUnit, IsFunctionOf, IsLowered}
use Rattle.unit_text.specs.UnitLines.{Item, Coded, plain, numbered, code_lines, items_of, unit_lines}
use Rattle.unit_text.specs.Callable.{IsCallable, HasCallable, AreCallable}
use Rattle.unit_text.specs.UnitOf.{AreLinesOf}
use Rattle.unit_text.proofs.lemmas.CodeAlone.{unit_code}
use Rattle.unit_text.proofs.lemmas.Speaking.{EachName, ItemsSpeak, FunctionsSpeak, items_speak}

-- ---- the labels are the functions' names

abbrev pub label_name : MLabel → List ℕ
label_name l = l.name

abbrev pub item_labels : List Item → List (List ℕ)
item_labels [] = []
item_labels (x ∷ xs) = x.labels ++ item_labels xs

names_append : (place : Place) (names : List (List ℕ)) (more : List MLabel) → map label_name (map (label_at place) names ++ more) ≡ names ++ map label_name more
names_append place [] more = refl
names_append place (n ∷ names) more = ap (λ l. n ∷ l) (names_append place names more)

pub numbered_labels : (place n : ℕ) (xs : List Item) → map label_name (labels_from place (numbered n xs)) ≡ item_labels xs
numbered_labels place n [] = refl
numbered_labels place n (x ∷ xs) =
    let next = place + length (code_of x.statement) in
    names_append (Code place) x.labels (labels_from next (numbered (n + 1) xs)) ∙ ap (λ l. x.labels ++ l) (numbered_labels next (n + 1) xs)

-- the function's name, as bytes
abbrev pub name_in : List (List ℕ) → LoweredFunction → List ℕ
name_in names f = get_or names f.name []

-- where no function has a label of its own
pub function_labels : (IsMade : LoweredFunction → Coded → Type 0) → ((f : LoweredFunction) (c : Coded) (more : List Item) → IsMade f c → item_labels (code_lines c.labels c.items ++ more) ≡ item_labels more) → (fs : List LoweredFunction) (cs : List Coded) → AllZip IsMade fs cs → item_labels (items_of cs) ≡ map (λ c. c.name) cs
function_labels IsMade none [] [] z = refl
function_labels IsMade none [] (c ∷ cs) z = absurd z
function_labels IsMade none (f ∷ fs) [] z = absurd z
function_labels IsMade none (f ∷ fs) (c ∷ cs) z = ap (λ l. c.name ∷ l) (none f c (items_of cs) z.0 ∙ function_labels IsMade none fs cs z.1)

pub own_names_are : (IsMade : LoweredFunction → Coded → Type 0) (u : LoweredUnit) → ((f : LoweredFunction) (c : Coded) → IsMade f c → c.name ≡ name_in u.names f) → (fs : List LoweredFunction) (cs : List Coded) → AllZip IsMade fs cs → map (λ c. c.name) cs ≡ map (name_in u.names) fs
own_names_are IsMade u is [] [] z = refl
own_names_are IsMade u is [] (c ∷ cs) z = absurd z
own_names_are IsMade u is (f ∷ fs) [] z = absurd z
own_names_are IsMade u is (f ∷ fs) (c ∷ cs) z = let e : c.name ≡ name_in u.names f = is f c z.0 in let r = own_names_are IsMade u is fs cs z.1 in cc

-- ---- no two are the same

-- the function of a place
function_at : (names : List (List ℕ)) (fs : List LoweredFunction) (i : ℕ) (n : List ℕ) → slice_get (map (name_in names) fs) i ≡ Some n → (f : LoweredFunction) × (slice_get fs i ≡ Some f) × (name_in names f ≡ n)
function_at names [] i n e = absurd (none-some n e)
function_at names (f ∷ fs) zero n e = (f, refl, same_Some (name_in names f) n e)
function_at names (f ∷ fs) (suc i) n e = function_at names fs i n e

own_name_at : (fs : List LoweredFunction) (more : List ℕ) (i : ℕ) (f : LoweredFunction) → slice_get fs i ≡ Some f → slice_get (map (λ g. g.name) fs ++ more) i ≡ Some f.name
own_name_at [] more i f e = absurd (none-some f e)
own_name_at (g ∷ fs) more zero f e = ap (λ (x : LoweredFunction). Some x.name) (same_Some g f e)
own_name_at (g ∷ fs) more (suc i) f e = own_name_at fs more i f e

name_there : (u : LoweredUnit) → IsLowered u → (i : ℕ) (f : LoweredFunction) → slice_get u.functions i ≡ Some f → slice_get u.names f.name ≡ Some (name_in u.names f)
name_there u lowered i f e =
    let d : get_or u.functions i f ≡ f = get_or_from_slice_get u.functions i f f e in
    let of = subst (IsFunctionOf u) d (All-get_or (IsFunctionOf u) u.functions i f (slice_get_within u.functions i f e) lowered.functions) in
    slice_get-get_or u.names f.name [] of.name

pub distinct_functions : (u : LoweredUnit) → IsLowered u → AreDistinct (map (name_in u.names) u.functions)
distinct_functions u lowered = λ i j n e f.
    let a = function_at u.names u.functions i n e in
    let b = function_at u.names u.functions j n f in
    let c : slice_get u.names a.0.name ≡ Some n = name_there u lowered i a.0 a.1 ∙ ap Some a.2 in
    let d : slice_get u.names b.0.name ≡ Some n = name_there u lowered j b.0 b.1 ∙ ap Some b.2 in
    let same : a.0.name ≡ b.0.name = lowered.distinct a.0.name b.0.name n c d in
    let more = map (λ o. o.name) u.objects in
    lowered.owners i j a.0.name (own_name_at u.functions more i a.0 a.1) (own_name_at u.functions more j b.0 b.1 ∙ ap Some (sym same))

label_name_at : (labels : List MLabel) (i : ℕ) (l : MLabel) → slice_get labels i ≡ Some l → slice_get (map label_name labels) i ≡ Some l.name
label_name_at labels i l e = slice_get-map label_name labels i ∙ ap (λ o. option_map label_name o) e

pub distinct_labels : (labels : List MLabel) (names : List (List ℕ)) → map label_name labels ≡ names → AreDistinct names → HaveDistinctNames labels
distinct_labels labels names are h = λ i j a b e f g.
    let at : slice_get names i ≡ Some b.name = ap (λ l. slice_get l i) (sym are) ∙ label_name_at labels i a e ∙ ap Some g in
    let there : slice_get names j ≡ Some b.name = ap (λ l. slice_get l j) (sym are) ∙ label_name_at labels j b f in
    h i j b.name at there

-- ---- each name is known

label_of : (labels : List MLabel) (i : ℕ) (n : List ℕ) → slice_get (map label_name labels) i ≡ Some n → (l : MLabel) × (slice_get labels i ≡ Some l) × (l.name ≡ n)
label_of [] i n e = absurd (none-some n e)
label_of (l ∷ labels) zero n e = (l, refl, same_Some l.name n e)
label_of (l ∷ labels) (suc i) n e = label_of labels i n e

-- a name that has a label has an address, whatever stands before it
label_known : (b : Bool) (name : List ℕ) (place : Place) (rest : Option Place) → ((a : ℕ) × (address_by name rest ≡ Some a)) → (a : ℕ) × (address_by name (if b then Some place else rest) ≡ Some a)
label_known true name place rest h = (address_at place, refl)
label_known false name place rest h = h

labelled : (labels : List MLabel) (name : List ℕ) (i : ℕ) (l : MLabel) → slice_get labels i ≡ Some l → l.name ≡ name → IsKnown labels name
labelled [] name i l is named = absurd (none-some l is)
labelled (x ∷ labels) name zero l is named =
    let yes : bytes_eq x.name name ≡ true = (bytes_eq-Decides x.name name).1 (ap (λ (k : MLabel). k.name) (same_Some x l is) ∙ named) in
    subst (λ (b : Bool). (a : ℕ) × (address_by name (if b then Some x.place else place_of labels name) ≡ Some a)) (sym yes) (address_at x.place, refl)
labelled (x ∷ labels) name (suc i) l is named = label_known (bytes_eq x.name name) name x.place (place_of labels name) (labelled labels name i l is named)

-- so has the name of a built-in function
built_in_known : (name : List ℕ) (o : Option Place) (a : ℕ) → built_in_at name ≡ Some a → (b : ℕ) × (address_by name o ≡ Some b)
built_in_known name None a e = (a, e)
built_in_known name (Some place) a e = (address_at place, refl)

built_in_by : (p g x : Bool) (b : BuiltIn) → (if p then Some Putchar else (if g then Some Getchar else (if x then Some Exit else None))) ≡ Some b → (a : ℕ) × ((if p then Some putchar_at else (if g then Some getchar_at else (if x then Some exit_at else None))) ≡ Some a)
built_in_by true g x b e = (putchar_at, refl)
built_in_by false true x b e = (getchar_at, refl)
built_in_by false false true b e = (exit_at, refl)
built_in_by false false false b e = absurd (none-some b e)

-- the text of a name that is a built-in function's
built_in_text : (o : Option (List ℕ)) (b : BuiltIn) → named_by o ≡ Some b → (text : List ℕ) × (o ≡ Some text) × (a : ℕ) × (built_in_at text ≡ Some a)
built_in_text None b e = absurd (none-some b e)
built_in_text (Some text) b e = let a = built_in_by (bytes_eq text (codes "putchar")) (bytes_eq text (codes "getchar")) (bytes_eq text (codes "exit")) b e in (text, refl, a.0, a.1)

function_known : (labels : List MLabel) (names : List (List ℕ)) (fs : List LoweredFunction) (i : ℕ) (f : LoweredFunction) → map label_name labels ≡ map (name_in names) fs → slice_get fs i ≡ Some f → IsKnown labels (name_in names f)
function_known labels names fs i f are e =
    let at : slice_get (map label_name labels) i ≡ Some (name_in names f) = ap (λ l. slice_get l i) are ∙ slice_get-map (name_in names) fs i ∙ ap (λ o. option_map (name_in names) o) e in
    let l = label_of labels i (name_in names f) at in
    labelled labels (name_in names f) i l.0 l.1 l.2

pub callable_known : (u : LoweredUnit) (labels : List MLabel) (name : ℕ) → map label_name labels ≡ map (name_in u.names) u.functions → IsCallable u name → IsKnown labels (get_or u.names name [])
callable_known u labels name are h = elim h [
  | inl a ↦
      let at : slice_get u.functions a.0 ≡ Some a.1 = slice_get_read u.functions (length u.functions) a.0 a.1 refl a.2 (sym a.3) in
      subst (λ n. IsKnown labels (get_or u.names n [])) a.4 (function_known labels u.names u.functions a.0 a.1 are at)
  | inr b ↦
      let text = built_in_text (slice_get u.names name) b.0 b.1 in
      subst (IsKnown labels) (sym (get_or_from_slice_get u.names name text.0 [] text.1)) (built_in_known text.0 (place_of labels text.0) text.2 text.3)
]

-- a function of the unit that calls what can be called
abbrev pub IsFit : LoweredUnit → LoweredFunction → Type 0
IsFit u f = IsCallable u f.name × All (AtEachNode (λ t. HasCallable u (head_of t).sym)) f.forest.roots

pub all_fit : (u : LoweredUnit) → AreCallable u → All (IsFit u) u.functions
all_fit u callable = λ k d below. (inl (k, get_or u.functions k d, below, same_at u.functions k d below, refl), callable k d below)
  where
    same_at : (fs : List LoweredFunction) (k : ℕ) (d : LoweredFunction) → k < length fs → get_or fs k (get_or fs k d) ≡ get_or fs k d
    same_at [] k d h = absurd (omega (arith, h))
    same_at (f ∷ fs) zero d h = refl
    same_at (f ∷ fs) (suc k) d h = same_at fs k d (omega (arith, h))

each_append : (P : List ℕ → Type 0) (xs ys : List (List ℕ)) → EachName P xs → EachName P ys → EachName P (xs ++ ys)
each_append P [] ys a b = b
each_append P (x ∷ xs) ys a b = (a.0, each_append P xs ys a.1 b)

pub numbered_speak : (L P : List ℕ → Type 0) (n : ℕ) (xs : List Item) → ItemsSpeak L P xs → EachName P (names_in (numbered n xs))
numbered_speak L P n [] h = tt
numbered_speak L P n (x ∷ xs) h = each_append P (names_of x.statement) (names_in (numbered (n + 1) xs)) h.1 (numbered_speak L P (n + 1) xs h.2)

pub each_at : (P : List ℕ → Type 0) (names : List (List ℕ)) (i : ℕ) (name : List ℕ) → EachName P names → slice_get names i ≡ Some name → P name
each_at P [] i name h e = absurd (none-some name e)
each_at P (n ∷ names) zero name h e = subst P (same_Some n name e) h.0
each_at P (n ∷ names) (suc i) name h e = each_at P names i name h.1 e

-- ---- the program

abbrev pub program_of : List MLine → MProgram
program_of lines = record { code = code_in lines; numbers = numbers_in lines; datums = []; labels = labels_from 0 lines }

abbrev pub AnyName : List ℕ → Type 0
AnyName n = Unit {0}

-- The lines make a program where each function has its name and no label of its own, and speaks of known names alone.
pub unit_makes : (u : LoweredUnit) (cs : List Coded) → IsLowered u → (are : map label_name (labels_from 0 (unit_lines cs)) ≡ map (name_in u.names) u.functions) → FunctionsSpeak AnyName (λ n. IsKnown (labels_from 0 (unit_lines cs)) n) cs → MakesCode (unit_lines cs) (program_of (unit_lines cs))
unit_makes u cs lowered are fs =
    let lines = unit_lines cs in
    let items = plain Text ∷ items_of cs in
    let labels = labels_from 0 lines in
    let P : List ℕ → Type 0 = λ n. IsKnown labels n in
    let known = numbered_speak AnyName P 1 items (tt, tt, items_speak AnyName P cs fs) in
    record {
      code = refl;
      numbers = refl;
      datums = refl;
      labels = refl;
      distinct = distinct_labels labels (map (name_in u.names) u.functions) are (distinct_functions u lowered);
      known = λ i name e. each_at P (names_in lines) i name known e;
    }

-- the same of lines
pub lines_make : (IsMade : LoweredFunction → Coded → Type 0) (u : LoweredUnit) (lines : List MLine) (g : AreLinesOf IsMade u lines) → MakesCode (unit_lines g.functions) (program_of (unit_lines g.functions)) → (p : MProgram) × Makes lines p
lines_make IsMade u lines g is =
    let unit = unit_lines g.functions in
    let made : Makes unit (program_of unit) = code_made unit (program_of unit) (unit_code g.functions) is in
    (program_of lines, subst (λ l. Makes l (program_of l)) (sym g.lines_are) made)
