-- Expressions that fit, and their values, converted or not.
use Rattle.std.proofs.Common.{◌≡◌, ℕ, Bool, true, false, not, ◌&&◌, ◌||◌, List, refl, sym, ap, ◌∙◌, inr, eqb-true}
use Rattle.std.specs.Prelude.{◌==◌, if◌then◌else◌}
use Rattle.c_types.specs.CType.{Basic, Void, Char, SignedChar, UnsignedChar, Short, UnsignedShort, Int, Unsigned, Long, UnsignedLong, CType, Plain, Array, Kind, Simple, Pointer, Function, Structure, Union, Enumeration, unqualified}
use Rattle.c_types.specs.Compatible.{basic_place}
use Rattle.c_types.specs.Layout.{Tag}
use Rattle.c_meaning.specs.declared.core_expr.CoreKind.TheVariants as kind
use Rattle.c_meaning.specs.CoreTrees.{Core, NoCore, Cores, type_of, line_of, one, two, three}
use Rattle.c_meaning.specs.Types.{is_void, is_scalar, is_record, is_array, pointer_to}
use Rattle.c_meaning.specs.Scalars.{conversion_to}
use Rattle.c_meaning.specs.Values.{CoreTree, CoreTrees, is_place, is_lvalue, value, value_by, values, same_simple, converted}
use Rattle.c_meaning.specs.Fits.{AllFit, is_value, are_values_behind, IsOpenLeaf}
use Rattle.c_fits.specs.Laws.{Fit}
use Rattle.c_fits.proofs.lemmas.Booleans.{never, and_left, and_right, and_true}

-- an expression that fits; where it is no place, its type has no qualifiers
pub record IsPart (tags : List Tag) (c : CoreTree) : Type 0 where
  pub fits : Fit tags c
  pub bare : is_place c ≡ false → unqualified (type_of c) ≡ type_of c

-- a value that fits; a scalar's type has no qualifiers
pub record IsOperand (tags : List Tag) (v : CoreTree) : Type 0 where
  pub fits : Fit tags v
  pub value : is_value v ≡ true
  pub bare : is_scalar (type_of v) ≡ true → unqualified (type_of v) ≡ type_of v

-- ---- lists of values

pub values_one : (a : CoreTree) → is_value a ≡ true → are_values_behind 0 (one a) ≡ true
values_one a h = and_true (is_value a) true h refl

pub values_two : (a b : CoreTree) → is_value a ≡ true → is_value b ≡ true → are_values_behind 0 (two a b) ≡ true
values_two a b h k = and_true (is_value a) (are_values_behind 0 (one b)) h (values_one b k)

pub values_three : (a b c : CoreTree) → is_value a ≡ true → is_value b ≡ true → is_value c ≡ true → are_values_behind 0 (three a b c) ≡ true
values_three a b c h k l = and_true (is_value a) (are_values_behind 0 (two b c)) h (values_two b c k l)

-- a scalar that is no place is a value
pub scalar_value : (v : CoreTree) → is_scalar (type_of v) ≡ true → is_place v ≡ false → is_value v ≡ true
scalar_value v h k = rw (h, k)

pub scalar_operand : (tags : List Tag) (v : CoreTree) → IsPart tags v → is_scalar (type_of v) ≡ true → is_place v ≡ false → IsOperand tags v
scalar_operand tags v p h k = record { fits = p.fits; value = scalar_value v h k; bare = λ s. p.bare k }

-- ---- the value of an expression

-- what holds of either, by a test, holds of the choice
pub chosen_by : {A : Type 0} (P : A → Type 0) (b : Bool) (x y : A) → (b ≡ true → P x) → (b ≡ false → P y) → P (if b then x else y)
chosen_by P true x y h k = h refl
chosen_by P false x y h k = k refl

-- qualifiers don't make a scalar
pub scalar_kind : (p q : ℕ) (k : Kind) → is_scalar (Plain q k) ≡ is_scalar (Plain p k)
scalar_kind p q (Simple Void) = refl
scalar_kind p q (Simple b) = refl
scalar_kind p q k = refl

module _ (tags : List Tag) where
  read_operand : (c : CoreTree) (q : ℕ) (k : Kind) → type_of c ≡ Plain q k → is_scalar (Plain q k) ≡ true → IsPart tags c
      → IsOperand tags (if is_place c then Core kind.Read (Plain 0 k) (line_of c) (one c) else c)
  read_operand c q k e h p =
      let s : is_scalar (Plain 0 k) ≡ true = scalar_kind q 0 k ∙ h in
      chosen_by (IsOperand tags) (is_place c) (Core kind.Read (Plain 0 k) (line_of c) (one c)) c
      (λ place.
      record {
        fits = ((p.fits, tt), (refl, (place, (s, ap unqualified e))));
        value = rw s;
        bare = λ g. refl;
      })
      (λ none. scalar_operand tags c p (ap is_scalar e ∙ h) none)

  -- a place that is no scalar stays as it is
  stay_operand : (c : CoreTree) (t : CType) → type_of c ≡ t → is_scalar t ≡ false → (is_record t || (is_void t || (is_array t && not (is_lvalue c)))) ≡ true → IsPart tags c → IsOperand tags c
  stay_operand c t e h k p =
      record {
        fits = p.fits;
        value = rw (e, h) k;
        bare = λ g. never (sym g ∙ ap is_scalar e ∙ h);
      }

  by_operand : (c : CoreTree) (t : CType) → type_of c ≡ t → IsPart tags c → IsOperand tags (value_by t c)
  by_operand c (Plain q (Simple Void)) e p = stay_operand c (Plain q (Simple Void)) e refl refl p
  by_operand c (Plain q (Simple b)) e p = read_operand c q (Simple b) e refl p
  by_operand c (Plain q (Pointer to)) e p = read_operand c q (Pointer to) e refl p
  by_operand c (Plain q (Function r ps)) e p =
      record {
        fits = ((p.fits, tt), (refl, (rw e, refl)));
        value = refl;
        bare = λ g. refl;
      }
  by_operand c (Plain q (Structure n)) e p = stay_operand c (Plain q (Structure n)) e refl refl p
  by_operand c (Plain q (Union n)) e p = stay_operand c (Plain q (Union n)) e refl refl p
  by_operand c (Plain q (Enumeration n)) e p = read_operand c q (Enumeration n) e refl p
  by_operand c (Array of n) e p =
      chosen_by (IsOperand tags) (is_lvalue c) (Core kind.First (pointer_to of) (line_of c) (one c)) c
      (λ place.
      record {
        fits = ((p.fits, tt), (refl, (place, (of, n, e, refl))));
        value = refl;
        bare = λ g. refl;
      })
      (λ none. stay_operand c (Array of n) e refl (rw none) p)

  -- the value of what fits fits, and is a value
  pub value_operand : (c : CoreTree) → IsPart tags c → IsOperand tags (value c)
  value_operand c p = by_operand c (type_of c) refl p

-- ---- conversions

-- the basic type at a place
basic_at : ℕ → Basic
basic_at n =
    if n == 0 then Void
    else if n == 1 then Char
    else if n == 2 then SignedChar
    else if n == 3 then UnsignedChar
    else if n == 4 then Short
    else if n == 5 then UnsignedShort
    else if n == 6 then Int
    else if n == 7 then Unsigned
    else if n == 8 then Long
    else UnsignedLong

at_place : (b : Basic) → basic_at (basic_place b) ≡ b
unfolding basic_at
at_place Void = refl
at_place Char = refl
at_place SignedChar = refl
at_place UnsignedChar = refl
at_place Short = refl
at_place UnsignedShort = refl
at_place Int = refl
at_place Unsigned = refl
at_place Long = refl
at_place UnsignedLong = refl

pub one_basic : (a b : Basic) → (basic_place a == basic_place b) ≡ true → a ≡ b
one_basic a b h = sym (at_place a) ∙ ap basic_at (eqb-true (basic_place a) (basic_place b) h) ∙ at_place b

pub one_simple : (t u : CType) → same_simple t u ≡ true → u ≡ t
one_simple (Plain p (Simple a)) (Plain q (Simple b)) h =
    let k = and_right (basic_place a == basic_place b) ((p == 0) && (q == 0)) h in
    let e = one_basic a b (and_left (basic_place a == basic_place b) ((p == 0) && (q == 0)) h) in
    rw (eqb-true p 0 (and_left (p == 0) (q == 0) k), eqb-true q 0 (and_right (p == 0) (q == 0) k), e)
one_simple t u h = never (sym h)

pub converted_type : (to : CType) (v : CoreTree) → type_of (converted to v) ≡ to
converted_type to v = chosen_by (λ (c : CoreTree). type_of c ≡ to) (same_simple to (type_of v)) v (Core (kind.Convert (conversion_to to)) to (line_of v) (one v)) (one_simple to (type_of v)) (λ e. refl)

pub converted_operand : (tags : List Tag) (to : CType) (v : CoreTree) → IsOperand tags v → is_scalar (type_of v) ≡ true → is_scalar to ≡ true → unqualified to ≡ to → IsOperand tags (converted to v)
converted_operand tags to v o s t bare =
    chosen_by (IsOperand tags) (same_simple to (type_of v)) v (Core (kind.Convert (conversion_to to)) to (line_of v) (one v))
    (λ same. o)
    (λ other.
    record {
      fits = ((o.fits, tt), (values_one v o.value, (refl, inr (t, s))));
      value = rw t;
      bare = λ g. bare;
    })

-- ---- several values

abbrev pub AreParts : List Tag → CoreTrees → Type 0
AreParts tags NoCore = Unit {0}
AreParts tags (Cores c cs) = IsPart tags c × AreParts tags cs

abbrev pub AreAllOperands : List Tag → CoreTrees → Type 0
AreAllOperands tags NoCore = Unit {0}
AreAllOperands tags (Cores v vs) = IsOperand tags v × AreAllOperands tags vs

pub values_operands : (tags : List Tag) (cs : CoreTrees) → AreParts tags cs → AreAllOperands tags (values cs)
values_operands tags NoCore h = tt
values_operands tags (Cores c cs) h = (value_operand tags c h.0, values_operands tags cs h.1)

pub operands_fit : (tags : List Tag) (vs : CoreTrees) → AreAllOperands tags vs → AllFit IsOpenLeaf tags vs
operands_fit tags NoCore h = tt
operands_fit tags (Cores v vs) h = (h.0.fits, operands_fit tags vs h.1)

pub operands_values : (tags : List Tag) (vs : CoreTrees) → AreAllOperands tags vs → are_values_behind 0 vs ≡ true
operands_values tags NoCore h = refl
operands_values tags (Cores v vs) h = and_true (is_value v) (are_values_behind 0 vs) h.0.value (operands_values tags vs h.1)
