-- Types of C (C89 3.1.2.5, 3.5.3) as trees. A structure, union or enumeration is its number in order of
-- declaration; what its definition gave stands apart. An array has no qualifiers: they are its element's
-- (C89 3.5.3), so each type of C is one tree.
use Rattle.std.specs.Prelude.{ℕ, ◌+◌, Bool, Option, max, bit_or}

-- the basic types
pub data Basic : Type 0 where
  Void : Basic
  Char : Basic
  SignedChar : Basic
  UnsignedChar : Basic
  Short : Basic
  UnsignedShort : Basic
  Int : Basic
  Unsigned : Basic
  Long : Basic
  UnsignedLong : Basic

mutual
  -- a kind under a set of qualifiers (1: const, 2: volatile), or an array, whose length may be unknown
  pub data CType : Type 0 where
    Plain : (qualifiers : ℕ) (kind : Kind) → CType
    Array : (of : CType) (length : Option ℕ) → CType

  pub data Kind : Type 0 where
    Simple : (basic : Basic) → Kind
    Pointer : (to : CType) → Kind
    Function : (result : CType) (parameters : Parameters) → Kind
    Structure : (number : ℕ) → Kind
    Union : (number : ℕ) → Kind
    Enumeration : (number : ℕ) → Kind

  -- left open, or listed, perhaps with `...` behind them
  pub data Parameters : Type 0 where
    Open : Parameters
    Listed : (all : CTypes) (more : Bool) → Parameters

  pub data CTypes : Type 0 where
    NoType : CTypes
    And : (first : CType) (others : CTypes) → CTypes

abbrev pub basic : Basic → CType
basic b = Plain 0 (Simple b)

-- the type with these qualifiers beside its own
abbrev pub qualify : ℕ → CType → CType
qualify more (Plain qualifiers kind) = Plain (bit_or qualifiers more) kind
qualify more (Array of length) = Array (qualify more of) length

-- the type without its qualifiers
abbrev pub unqualified : CType → CType
unqualified (Plain qualifiers kind) = Plain 0 kind
unqualified (Array of length) = Array of length

-- one more than the greatest depth of the types that a pointer, array or function type is formed from; else 1
abbrev mutual
  pub depth : CType → ℕ
  depth (Plain qualifiers kind) = kind_depth kind
  depth (Array of length) = 1 + depth of

  pub kind_depth : Kind → ℕ
  kind_depth (Simple b) = 1
  kind_depth (Pointer to) = 1 + depth to
  kind_depth (Function result parameters) = 1 + max (depth result) (parameters_depth parameters)
  kind_depth (Structure number) = 1
  kind_depth (Union number) = 1
  kind_depth (Enumeration number) = 1

  pub parameters_depth : Parameters → ℕ
  parameters_depth Open = 0
  parameters_depth (Listed all more) = greatest_depth all

  pub greatest_depth : CTypes → ℕ
  greatest_depth NoType = 0
  greatest_depth (And first others) = max (depth first) (greatest_depth others)

-- the kind under a type's qualifiers
abbrev pub kind_of : CType → Kind
kind_of (Plain qualifiers kind) = kind
kind_of (Array of length) = Simple Void

-- how much there is of a type
abbrev mutual
  pub weight : CType → ℕ
  weight (Plain qualifiers kind) = kind_weight kind
  weight (Array of length) = 1 + weight of

  pub kind_weight : Kind → ℕ
  kind_weight (Simple b) = 1
  kind_weight (Pointer to) = 1 + weight to
  kind_weight (Function result parameters) = 1 + (weight result + parameters_weight parameters)
  kind_weight (Structure number) = 1
  kind_weight (Union number) = 1
  kind_weight (Enumeration number) = 1

  pub parameters_weight : Parameters → ℕ
  parameters_weight Open = 0
  parameters_weight (Listed all more) = all_weight all

  pub all_weight : CTypes → ℕ
  all_weight NoType = 0
  all_weight (And first others) = weight first + all_weight others
