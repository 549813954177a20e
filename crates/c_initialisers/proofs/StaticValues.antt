-- Whether a static object may begin with a value, by what it is the value of.
use Rattle.std.proofs.Common.{◌≡◌, ℕ, ◌<◌, List, [], ◌∷◌, length, refl, sym, ap, ◌∙◌, arith, true≢false}
use Rattle.std.specs.Prelude.{Bool, true, false, ◌&&◌, ◌||◌, Option, Some, None, is_some, if◌then◌else◌}
use Rattle.c_types.specs.CType.{Void, CType, Plain, Array, Simple, Pointer, Function, Structure, Union, Enumeration}
use Rattle.c_types.specs.Layout.{Tag}
use Rattle.c_meaning.specs.declared.core_expr.CoreKind.TheVariants as kind
use Rattle.c_meaning.specs.AddressConstants.{is_static_value, place_address, second_constant, second_pointer}
use Rattle.c_meaning.specs.Constants.{fold}
use Rattle.c_meaning.specs.CoreTrees.{CoreOf, Core, all_seen, cores_of, line_of, one, seen, type_of}
use Rattle.c_meaning.specs.Types.{is_array, is_function, is_scalar, pointer_to}
use Rattle.c_meaning.specs.Values.{CoreTree, is_lvalue, is_place, value, value_by}
use Rattle.c_initialisers.specs.declared.addresses.Address.{Address}
use Rattle.c_initialisers.specs.Addresses.{meant_if}

-- ---- fewer than two parts

pub no_second_constant : (known : ℕ → CType) (kids : List (CoreOf ℕ)) → length kids < 2 → None ≡ second_constant (all_seen known (cores_of kids))
no_second_constant known [] h = refl
no_second_constant known (a ∷ []) h = refl
no_second_constant known (a ∷ b ∷ kids) h = absurd (omega arith)

pub no_second_pointer : (tags : List Tag) (known : ℕ → CType) (kids : List (CoreOf ℕ)) → length kids < 2 → None ≡ second_pointer tags (all_seen known (cores_of kids))
no_second_pointer tags known [] h = refl
no_second_pointer tags known (a ∷ []) h = refl
no_second_pointer tags known (a ∷ b ∷ kids) h = absurd (omega arith)

-- ---- the definition at each kind of value

static_first : (tags : List Tag) (of : CType) (line : ℕ) (c : CoreTree) → is_static_value tags (Core kind.First of line (one c)) ≡ is_some (place_address tags c)
unfolding fold
static_first tags of line c = refl

static_address : (tags : List Tag) (of : CType) (line : ℕ) (c : CoreTree) → is_static_value tags (Core kind.Address of line (one c)) ≡ is_some (place_address tags c)
unfolding fold
static_address tags of line c = refl

static_read : (tags : List Tag) (of : CType) (line : ℕ) (c : CoreTree) → is_static_value tags (Core kind.Read of line (one c)) ≡ false
unfolding fold
static_read tags of line c = refl

-- ---- what the value is, by the type of the expression

-- it is an array in a place, or a function
abbrev pub becomes_address : CType → CoreTree → Bool
becomes_address t c = (is_array t && is_lvalue c) || is_function t

-- it is a scalar in a place
abbrev pub is_read : CType → CoreTree → Bool
is_read t c = is_place c && is_scalar t

at_address : (tags : List Tag) (t : CType) (c : CoreTree) → becomes_address t c ≡ true → is_static_value tags (value_by t c) ≡ is_some (place_address tags c)
at_address tags (Array of n) c h = by (is_lvalue c) h
  where
    by : (b : Bool) → (b || false) ≡ true → is_static_value tags (if b then Core kind.First (pointer_to of) (line_of c) (one c) else c) ≡ is_some (place_address tags c)
    by true h = static_first tags (pointer_to of) (line_of c) c
    by false h = absurd (true≢false (sym h))
at_address tags (Plain q (Function r ps)) c h = static_address tags (pointer_to (type_of c)) (line_of c) c
at_address tags (Plain q k) c h = absurd (true≢false (sym h))

both_true : (a b : Bool) → (a && b) ≡ true → (a ≡ true) × (b ≡ true)
both_true true b h = (refl, h)
both_true false b h = absurd (true≢false (sym h))

at_place : (tags : List Tag) (t : CType) (c : CoreTree) → is_place c ≡ true → is_scalar t ≡ true → is_static_value tags (value_by t c) ≡ false
at_place tags (Plain q (Simple Void)) c p h = absurd (true≢false (sym h))
at_place tags (Plain q (Simple b)) c p h = rw p (static_read tags (Plain 0 (Simple b)) (line_of c) c)
at_place tags (Plain q (Pointer t)) c p h = rw p (static_read tags (Plain 0 (Pointer t)) (line_of c) c)
at_place tags (Plain q (Enumeration n)) c p h = rw p (static_read tags (Plain 0 (Enumeration n)) (line_of c) c)
at_place tags (Plain q k) c p h = absurd (true≢false (sym h))
at_place tags (Array of n) c p h = absurd (true≢false (sym h))

by_itself : (t : CType) (c : CoreTree) → becomes_address t c ≡ false → is_read t c ≡ false → value_by t c ≡ c
by_itself (Plain q (Function r ps)) c a h = absurd (true≢false a)
by_itself (Plain q (Structure n)) c a h = refl
by_itself (Plain q (Union n)) c a h = refl
by_itself (Plain q (Simple Void)) c a h = refl
by_itself (Plain q k) c a h = no_place (is_place c) h
  where
    no_place : (b : Bool) → (b && true) ≡ false → (if b then Core kind.Read (Plain 0 k) (line_of c) (one c) else c) ≡ c
    no_place true h = absurd (true≢false h)
    no_place false h = refl
by_itself (Array of n) c a h = no_lvalue (is_lvalue c) a
  where
    no_lvalue : (b : Bool) → (b || false) ≡ false → (if b then Core kind.First (pointer_to of) (line_of c) (one c) else c) ≡ c
    no_lvalue true h = absurd (true≢false h)
    no_lvalue false h = refl

-- ---- and of an expression over the types of a table

some_meant : (r : Option Address) → is_some r ≡ is_some (meant_if r)
some_meant None = refl
some_meant (Some a) = refl

value_seen : (known : ℕ → CType) (c : CoreOf ℕ) → value (seen known c) ≡ value_by (known (type_of c)) (seen known c)
value_seen known (Core what of line kids) = refl

pub static_by_address : (tags : List Tag) (known : ℕ → CType) (c : CoreOf ℕ) (r : Option Address) → becomes_address (known (type_of c)) (seen known c) ≡ true → meant_if r ≡ place_address tags (seen known c) → is_some r ≡ is_static_value tags (value (seen known c))
static_by_address tags known c r h e = some_meant r ∙ ap is_some e ∙ sym (ap (is_static_value tags) (value_seen known c) ∙ at_address tags (known (type_of c)) (seen known c) h)

pub static_by_reading : (tags : List Tag) (known : ℕ → CType) (c : CoreOf ℕ) → is_read (known (type_of c)) (seen known c) ≡ true → false ≡ is_static_value tags (value (seen known c))
static_by_reading tags known c h =
    let both = both_true (is_place (seen known c)) (is_scalar (known (type_of c))) h in
    sym (ap (is_static_value tags) (value_seen known c) ∙ at_place tags (known (type_of c)) (seen known c) both.0 both.1)

pub static_by_itself : (tags : List Tag) (known : ℕ → CType) (c : CoreOf ℕ) → becomes_address (known (type_of c)) (seen known c) ≡ false → is_read (known (type_of c)) (seen known c) ≡ false →
    is_static_value tags (seen known c) ≡ is_static_value tags (value (seen known c))
static_by_itself tags known c a h = sym (ap (is_static_value tags) (value_seen known c ∙ by_itself (known (type_of c)) (seen known c) a h))
