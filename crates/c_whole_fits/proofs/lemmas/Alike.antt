-- Rows of typing see of an expression's parts their types, whether they are places, and bit-fields' widths: where these stay, a row
-- stays.
use Rattle.std.proofs.Common.{◌≡◌, ℕ, zero, suc, Bool, true, false, not, ◌&&◌, ◌||◌, List, refl, sym, ◌∙◌}
use Rattle.std.specs.Prelude.{Option, if◌then◌else◌}
use Rattle.c_types.specs.CType.{CType, Plain, Array, Simple, Pointer, Function, Structure, Union, Enumeration, Parameters, Open, Listed, CTypes, NoType, And, Void, unqualified}
use Rattle.c_types.specs.Conversions.{is_integer}
use Rattle.c_types.specs.Layout.{Tag}
use Rattle.c_meaning.specs.declared.core_expr.Change.{Change}
use Rattle.c_meaning.specs.declared.core_expr.Change.TheVariants as change
use Rattle.c_meaning.specs.declared.core_expr.CoreKind.{CoreKind}
use Rattle.c_meaning.specs.declared.core_expr.CoreKind.TheVariants as kind
use Rattle.c_meaning.specs.CoreTrees.{Core, NoCore, Cores, line_of, one, type_of}
use Rattle.c_meaning.specs.Fits.{AreArguments, AreChanged, AreListed, AreOpen, IsChanged, IsRow, are_values_behind, is_value, is_whole}
use Rattle.c_meaning.specs.Rows.{last_type, parameters_type}
use Rattle.c_meaning.specs.Types.{is_function, is_pointer, is_record, is_scalar, target}
use Rattle.c_meaning.specs.Values.{CoreTree, CoreTrees, is_bit_field, is_lvalue, is_place, promoted_type, read_width, value, width_of}
use Rattle.c_fits.proofs.lemmas.Booleans.{never}

pub record IsAlike (a b : CoreTree) : Type 0 where
  pub type : type_of b ≡ type_of a
  pub place : is_function (type_of a) ≡ false → is_place b ≡ is_place a
  pub lvalue : is_function (type_of a) ≡ false → is_lvalue b ≡ is_lvalue a
  pub width : width_of b ≡ width_of a
  pub read : read_width b ≡ read_width a

abbrev pub AreAlike : CoreTrees → CoreTrees → Type 0
AreAlike NoCore NoCore = Unit {0}
AreAlike (Cores a rest) (Cores b others) = IsAlike a b × AreAlike rest others
AreAlike rest others = ⊥

-- ---- types that aren't functions'

scalar_object : (t : CType) → is_scalar (unqualified t) ≡ true → is_function t ≡ false
scalar_object (Plain q (Function r ps)) h = never (sym h)
scalar_object t h = refl

whole_object : (tags : List Tag) (t : CType) → is_whole tags (unqualified t) ≡ true → is_function t ≡ false
whole_object tags (Plain q (Function r ps)) h = never (sym h)
whole_object tags t h = refl

integer_object : (t : CType) → is_integer t ≡ true → is_function t ≡ false
integer_object (Plain q (Function r ps)) h = never (sym h)
integer_object t h = refl

pointer_object : (t : CType) → is_pointer t ≡ true → is_function t ≡ false
pointer_object (Plain q (Function r ps)) h = never (sym h)
pointer_object t h = refl

record_object : (t : CType) → is_record t ≡ true → is_function t ≡ false
record_object (Plain q (Function r ps)) h = never (sym h)
record_object t h = refl

array_object : (t e : CType) (n : Option ℕ) → t ≡ Array e n → is_function t ≡ false
array_object t e n h = rw h refl

-- ---- values

value_by_type : (a b : CoreTree) (t : CType) → type_of a ≡ t → type_of b ≡ t → IsAlike a b → is_value b ≡ is_value a
value_by_type a b (Plain q (Function r ps)) h k s = rw (h, k) refl
value_by_type a b (Plain q (Simple n)) h k s = rw (h, k, s.place (rw h refl)) refl
value_by_type a b (Plain q (Pointer to)) h k s = rw (h, k, s.place (rw h refl)) refl
value_by_type a b (Plain q (Structure n)) h k s = rw (h, k) refl
value_by_type a b (Plain q (Union n)) h k s = rw (h, k) refl
value_by_type a b (Plain q (Enumeration n)) h k s = rw (h, k, s.place (rw h refl)) refl
value_by_type a b (Array e n) h k s = rw (h, k, s.lvalue (rw h refl)) refl

pub value_alike : (a b : CoreTree) → IsAlike a b → is_value b ≡ is_value a
value_alike a b s = value_by_type a b (type_of a) refl s.type s

pub values_alike : (n : ℕ) (kids others : CoreTrees) → AreAlike kids others → are_values_behind n others ≡ are_values_behind n kids
values_alike n NoCore NoCore s = refl
values_alike zero (Cores a rest) (Cores b others) s = rw (value_alike a b s.0, values_alike zero rest others s.1) refl
values_alike (suc n) (Cores a rest) (Cores b others) s = values_alike n rest others s.1
values_alike n NoCore (Cores b others) s = absurd s
values_alike n (Cores a rest) NoCore s = absurd s

-- ---- the types to which a place's value is promoted

read_or_kept : (a b : CoreTree) (of : CType) → IsAlike a b → (x : Bool) → promoted_type (if x then Core kind.Read of (line_of b) (one b) else b) ≡ promoted_type (if x then Core kind.Read of (line_of a) (one a) else a)
read_or_kept a b of s true = rw s.width refl
read_or_kept a b of s false = rw (s.type, s.read) refl

-- an integer's
integer_promoted : (a b : CoreTree) (t : CType) → is_integer t ≡ true → type_of a ≡ t → type_of b ≡ t → IsAlike a b → promoted_type (value b) ≡ promoted_type (value a)
integer_promoted a b (Plain q (Enumeration n)) i h k s = rw (h, k, s.place (rw h refl)) (read_or_kept a b (Plain 0 (Enumeration n)) s (is_place a))
integer_promoted a b (Plain q (Simple Void)) i h k s = never (sym i)
integer_promoted a b (Plain q (Simple n)) i h k s = rw (h, k, s.place (rw h refl)) (read_or_kept a b (Plain 0 (Simple n)) s (is_place a))
integer_promoted a b t i h k s = never (sym i)

promoted_alike : (a b : CoreTree) → is_integer (type_of a) ≡ true → IsAlike a b → promoted_type (value b) ≡ promoted_type (value a)
promoted_alike a b i s = integer_promoted a b (type_of a) i refl s.type s

-- ---- rows

pub last_alike : (kids others : CoreTrees) → AreAlike kids others → last_type others ≡ last_type kids
last_alike NoCore NoCore s = refl
last_alike (Cores a NoCore) (Cores b NoCore) s = rw s.0.type refl
last_alike (Cores a (Cores c rest)) (Cores b (Cores d others)) s = last_alike (Cores c rest) (Cores d others) s.1
last_alike (Cores a NoCore) (Cores b (Cores d others)) s = absurd s.1
last_alike (Cores a (Cores c rest)) (Cores b NoCore) s = absurd s.1
last_alike NoCore (Cores b others) s = absurd s
last_alike (Cores a rest) NoCore s = absurd s

address_alike : (f l m x y : Bool) → (f ≡ false → m ≡ l) → y ≡ x → (f || (l && not x)) ≡ true → (f || (m && not y)) ≡ true
address_alike true l m x y e g h = refl
address_alike false l m x y e g h = rw (e refl, g) h

bit_field_alike : (a b : CoreTree) → IsAlike a b → is_bit_field b ≡ is_bit_field a
bit_field_alike a b s = rw s.width refl

changed_by_alike : (shift signed : Bool) (a b : CoreTree) (t u : CType) → is_integer (type_of a) ≡ true → IsAlike a b → u ≡ t → AreChanged shift signed a t → AreChanged shift signed b u
changed_by_alike true signed a b t u i s e h = rw (promoted_alike a b i s) h
changed_by_alike false signed a b t u i s e h = rw (promoted_alike a b i s, e) h

changed_object : (tags : List Tag) (by : Change) (a : CoreTree) (t : CType) → IsChanged tags by a t → is_function (type_of a) ≡ false
changed_object tags (change.Arithmetic op signed) a t h = integer_object (type_of a) h.0
changed_object tags (change.Pointer size back) a t h = pointer_object (type_of a) h.0

module _ (tags : List Tag) where
  changed_alike : (by : Change) (a b : CoreTree) (t u : CType) → IsAlike a b → u ≡ t → IsChanged tags by a t → IsChanged tags by b u
  changed_alike (change.Arithmetic op signed) a b t u s e h = (rw s.type h.0, (rw e h.1.0, changed_by_alike _ signed a b t u h.0 s e h.1.1))
  changed_alike (change.Pointer size back) a b t u s e h = rw (s.type, e) h

  open_alike : (kids others : CoreTrees) → AreAlike kids others → AreOpen tags kids → AreOpen tags others
  open_alike NoCore NoCore s h = tt
  open_alike (Cores a rest) (Cores b others) s h = (rw s.0.type h.0, (rw s.0.type h.1.0, open_alike rest others s.1 h.1.1))
  open_alike NoCore (Cores b others) s h = absurd s
  open_alike (Cores a rest) NoCore s h = absurd s

  listed_alike : (ps : CTypes) (more : Bool) (kids others : CoreTrees) → AreAlike kids others → AreListed tags ps more kids → AreListed tags ps more others
  listed_alike NoType more NoCore NoCore s h = tt
  listed_alike NoType more (Cores a rest) (Cores b others) s h = (h.0, open_alike (Cores a rest) (Cores b others) s h.1)
  listed_alike (And p ps) more NoCore NoCore s h = h
  listed_alike (And p ps) more (Cores a rest) (Cores b others) s h = (rw s.0.type h.0, (rw s.0.type h.1.0, listed_alike ps more rest others s.1 h.1.1))
  listed_alike ps more NoCore (Cores b others) s h = absurd s
  listed_alike ps more (Cores a rest) NoCore s h = absurd s

  arguments_alike : (ps : Parameters) (kids others : CoreTrees) → AreAlike kids others → AreArguments tags ps kids → AreArguments tags ps others
  arguments_alike Open kids others s h = open_alike kids others s h
  arguments_alike (Listed ps more) kids others s h = listed_alike ps more kids others s h

-- A row of one kind, whose leaves are such as another's.
module _ (leaf other : CoreKind → CType → Type 0) (tags : List Tag) where
  pub row_alike : (what : CoreKind) (of : CType) (kids others : CoreTrees) → AreAlike kids others → (leaf what of → other what of) → IsRow leaf tags what of kids → IsRow other tags what of others
  row_alike (kind.Number n) of NoCore NoCore s l h = h
  row_alike kind.Pointed of (Cores a NoCore) (Cores b NoCore) s l h = rw s.0.type h
  row_alike (kind.Member offset first width) of (Cores a NoCore) (Cores b NoCore) s l h = rw s.0.type h
  row_alike kind.Read of (Cores a NoCore) (Cores b NoCore) s l h =
      (s.0.place (scalar_object (type_of a) (rw h.1.1 h.1.0)) ∙ h.0, (h.1.0, rw s.0.type h.1.1))
  row_alike kind.Address of (Cores a NoCore) (Cores b NoCore) s l h = (
    rw s.0.type (address_alike (is_function (type_of a)) (is_lvalue a) (is_lvalue b) (is_bit_field a) (is_bit_field b) s.0.lvalue (bit_field_alike a b s.0) h.0),
    rw s.0.type h.1,
  )
  row_alike kind.First of (Cores a NoCore) (Cores b NoCore) s l h =
      (s.0.lvalue (array_object (type_of a) h.1.0 h.1.1 h.1.2) ∙ h.0, (h.1.0, h.1.1, s.0.type ∙ h.1.2, h.1.3))
  row_alike (kind.Convert conversion) of (Cores a NoCore) (Cores b NoCore) s l h = rw s.0.type h
  row_alike (kind.Unary op) of (Cores a NoCore) (Cores b NoCore) s l h = rw s.0.type h
  row_alike kind.Not of (Cores a NoCore) (Cores b NoCore) s l h = rw s.0.type h
  row_alike (kind.Binary op signed) of (Cores a (Cores c NoCore)) (Cores b (Cores d NoCore)) s l h = rw (s.0.type, s.1.0.type) h
  row_alike (kind.Compare op signed) of (Cores a (Cores c NoCore)) (Cores b (Cores d NoCore)) s l h = rw (s.0.type, s.1.0.type) h
  row_alike (kind.Move size back) of (Cores a (Cores c NoCore)) (Cores b (Cores d NoCore)) s l h = rw (s.0.type, s.1.0.type) h
  row_alike (kind.Difference size) of (Cores a (Cores c NoCore)) (Cores b (Cores d NoCore)) s l h = rw (s.0.type, s.1.0.type) h
  row_alike kind.And of (Cores a (Cores c NoCore)) (Cores b (Cores d NoCore)) s l h = rw (s.0.type, s.1.0.type) h
  row_alike kind.Or of (Cores a (Cores c NoCore)) (Cores b (Cores d NoCore)) s l h = rw (s.0.type, s.1.0.type) h
  row_alike kind.Conditional of (Cores a (Cores c (Cores e NoCore))) (Cores b (Cores d (Cores f NoCore))) s l h =
      rw (s.0.type, s.1.0.type, s.1.1.0.type) h
  row_alike kind.Comma of (Cores a rest) (Cores b others) s l h = last_alike (Cores a rest) (Cores b others) s ∙ h
  row_alike kind.Assign of (Cores a (Cores v NoCore)) (Cores b (Cores w NoCore)) s l h =
      (s.0.lvalue (whole_object tags (type_of a) (rw h.1.1.0 h.1.0)) ∙ h.0, (h.1.0, (rw s.0.type h.1.1.0, rw s.1.0.type h.1.1.1)))
  row_alike (kind.Change by) of (Cores a (Cores v NoCore)) (Cores b (Cores w NoCore)) s l h = (
    s.0.lvalue (changed_object tags by a (type_of v) h.1.1) ∙ h.0,
    (rw s.0.type h.1.0, changed_alike tags by a b (type_of v) (type_of w) s.0 s.1.0.type h.1.1),
  )
  row_alike (kind.Postfix by) of (Cores a (Cores v NoCore)) (Cores b (Cores w NoCore)) s l h = (
    s.0.lvalue (changed_object tags by a (type_of v) h.1.1) ∙ h.0,
    (rw s.0.type h.1.0, changed_alike tags by a b (type_of v) (type_of w) s.0 s.1.0.type h.1.1),
  )
  row_alike (kind.Call copies) of (Cores f rest) (Cores g others) s l h = (
    rw s.0.type h.0,
    (
      rw s.0.type h.1.0,
      (
        rw s.0.type h.1.1.0,
        (h.1.1.1.0, rw s.0.type (arguments_alike tags (parameters_type (target (type_of f))) rest others s.1 h.1.1.1.1)),
      ),
    ),
  )
  row_alike what of NoCore NoCore s l h = l h
  row_alike what of NoCore (Cores b others) s l h = absurd s
  row_alike what of (Cores a rest) NoCore s l h = absurd s
  row_alike what of (Cores a NoCore) (Cores b (Cores d others)) s l h = absurd s.1
  row_alike what of (Cores a (Cores c rest)) (Cores b NoCore) s l h = absurd s.1
  row_alike what of (Cores a (Cores c NoCore)) (Cores b (Cores d (Cores e others))) s l h = absurd s.1.1
  row_alike what of (Cores a (Cores c (Cores e rest))) (Cores b (Cores d NoCore)) s l h = absurd s.1.1
  row_alike what of (Cores a (Cores c (Cores e NoCore))) (Cores b (Cores d (Cores f (Cores g others)))) s l h = absurd s.1.1.1
  row_alike what of (Cores a (Cores c (Cores e (Cores g rest)))) (Cores b (Cores d (Cores f NoCore))) s l h = absurd s.1.1.1
  row_alike what of (Cores a rest) (Cores b others) s l h = absurd h

-- An expression of the same kind and type is like the other one where its parts are like those.
pub node_alike : (leaf : CoreKind → CType → Type 0) (tags : List Tag) (what : CoreKind) (of : CType) (line other : ℕ) (kids others : CoreTrees) → AreAlike kids others → IsRow leaf tags what of kids
    → IsAlike (Core what of line kids) (Core what of other others)
node_alike leaf tags (kind.Member offset first width) of line other (Cores a NoCore) (Cores b NoCore) s h =
    record { type = refl; place = λ e. refl; lvalue = λ e. s.0.lvalue (record_object (type_of a) h.0); width = refl; read = refl }
node_alike leaf tags (kind.Member offset first width) of line other NoCore NoCore s h =
    record { type = refl; place = λ e. refl; lvalue = λ e. refl; width = refl; read = refl }
node_alike leaf tags (kind.Member offset first width) of line other (Cores a (Cores c rest)) others s h = absurd h
node_alike leaf tags (kind.Member offset first width) of line other NoCore (Cores b others) s h = absurd s
node_alike leaf tags (kind.Member offset first width) of line other (Cores a NoCore) NoCore s h = absurd s
node_alike leaf tags (kind.Member offset first width) of line other (Cores a NoCore) (Cores b (Cores d others)) s h = absurd s.1
node_alike leaf tags kind.Read of line other (Cores a rest) (Cores b others) s h =
    record { type = refl; place = λ e. refl; lvalue = λ e. refl; width = refl; read = s.0.width }
node_alike leaf tags kind.Read of line other NoCore NoCore s h =
    record { type = refl; place = λ e. refl; lvalue = λ e. refl; width = refl; read = refl }
node_alike leaf tags kind.Read of line other NoCore (Cores b others) s h = absurd s
node_alike leaf tags kind.Read of line other (Cores a rest) NoCore s h = absurd s
node_alike leaf tags what of line other kids others s h = record { type = refl; place = λ e. refl; lvalue = λ e. refl; width = refl; read = refl }
