-- Names, literals, members, addresses and what pointers point to.
use Rattle.std.proofs.Common.{◌≡◌, ◌⊎◌, ℕ, Bool, true, false, not, ◌&&◌, ◌||◌, List, refl, sym, ap, inl, inr}
use Rattle.std.specs.Prelude.{ℤ, Option, Some, None, is_none, if◌then◌else◌}
use Rattle.c_symbols.specs.declared.symbol.Storage.{Storage}
use Rattle.c_symbols.specs.declared.symbol.Storage.TheVariants as storage
use Rattle.c_types.specs.BitFields.{have_fields}
use Rattle.c_types.specs.CType.{Int, CType, Plain, Array, Structure, Union, basic}
use Rattle.c_types.specs.Conversions.{is_integer}
use Rattle.c_types.specs.Layout.{Tag}
use Rattle.c_types.specs.Members.{MemberAt, member_of, member_or_none}
use Rattle.c_meaning.specs.declared.core_expr.CoreKind.TheVariants as kind
use Rattle.c_meaning.specs.CoreTrees.{Core, type_of, none, one}
use Rattle.c_meaning.specs.ExprConstraints.{is_addressable, points_to_object}
use Rattle.c_meaning.specs.State.{State, known_at}
use Rattle.c_meaning.specs.Types.{has_size, is_function, is_pointer, is_record, is_void, pointer_to, target}
use Rattle.c_meaning.specs.Values.{CoreTree, is_bit_field, is_lvalue, is_register}
use Rattle.c_meaning.specs.Rows.{kind_meant, literal, meant, moved, pointed, pointer_among, selected, selected_at}
use Rattle.c_fits.specs.Sound.{IsIntOf, IsSound}
use Rattle.c_fits.proofs.lemmas.BitFields.{member_in_unit}
use Rattle.c_fits.proofs.lemmas.Booleans.{never, and_left, and_right, and_true, not_true, or_cases, or_true, or_left, or_right, negated}
use Rattle.c_fits.proofs.lemmas.Values.{IsPart, IsOperand, scalar_operand}
use Rattle.c_fits.proofs.lemmas.Numbers.{pointer_scalar}
use Rattle.c_fits.proofs.lemmas.Pointers.{forward_part, behind_part, pointed_part}
use Rattle.c_fits.proofs.lemmas.Arithmetic.{number_part}

-- ---- names and literals

leaf_part : (tags : List Tag) (class : Storage) (of : CType) (v : Option ℤ) (id line : ℕ) → IsIntOf class of → IsPart tags (Core (kind_meant class v id) of line none)
leaf_part tags storage.Enumerator of v id line h = record { fits = (tt, (refl, ap is_integer h)); bare = λ e. rw h }
leaf_part tags storage.Typedef of v id line h = record { fits = (tt, (refl, tt)); bare = λ e. never e }
leaf_part tags storage.Extern of v id line h = record { fits = (tt, (refl, tt)); bare = λ e. never e }
leaf_part tags storage.Static of v id line h = record { fits = (tt, (refl, tt)); bare = λ e. never e }
leaf_part tags storage.Auto of v id line h = record { fits = (tt, (refl, tt)); bare = λ e. never e }
leaf_part tags storage.Register of v id line h = record { fits = (tt, (refl, tt)); bare = λ e. never e }
leaf_part tags storage.Tag of v id line h = record { fits = (tt, (refl, tt)); bare = λ e. never e }

pub meant_part : (s : State) → IsSound s → (place : Option ℕ) (line : ℕ) → IsPart s.tags (meant s place line)
meant_part s h None line = number_part s.tags (basic Int) line 0 refl refl
meant_part s h (Some id) line = leaf_part s.tags (known_at s id).class (known_at s id).of (known_at s id).value id line (h.enumerators id)

pub symbol_part : (tags : List Tag) (id line : ℕ) (of : CType) → IsPart tags (Core (kind.Symbol id) of line none)
symbol_part tags id line of = record { fits = (tt, (refl, tt)); bare = λ e. never e }

pub literal_part : (tags : List Tag) (line : ℕ) (bytes : List ℕ) → IsPart tags (literal line bytes)
literal_part tags line bytes = record { fits = (tt, (refl, refl)); bare = λ e. never e }

-- ---- subscripts

among_pointer : (t u : CType) → (is_pointer t ≡ true) ⊎ (is_pointer u ≡ true) → is_pointer (pointer_among t u) ≡ true
among_pointer t u h = by (is_pointer t) refl h
  where
    by : (b : Bool) → is_pointer t ≡ b → (b ≡ true) ⊎ (is_pointer u ≡ true) → is_pointer (if b then t else u) ≡ true
    by true e h = e
    by false e (inl h) = never (sym h)
    by false e (inr h) = h

pub subscript_part : (tags : List Tag) (line : ℕ) (v w : CoreTree) → IsOperand tags v → IsOperand tags w
    → ((points_to_object tags (type_of v) && is_integer (type_of w)) || (is_integer (type_of v) && points_to_object tags (type_of w))) ≡ true → IsPart tags (pointed line (moved tags false line v w))
subscript_part tags line v w o p h = by (or_cases (points_to_object tags (type_of v) && is_integer (type_of w)) (is_integer (type_of v) && points_to_object tags (type_of w)) h)
  where
    whole : IsPart tags (moved tags false line v w) → (is_pointer (type_of v) ≡ true) ⊎ (is_pointer (type_of w) ≡ true) → IsPart tags (pointed line (moved tags false line v w))
    whole m k =
        let t = among_pointer (type_of v) (type_of w) k in
        pointed_part tags line (moved tags false line v w) (scalar_operand tags (moved tags false line v w) m (pointer_scalar (pointer_among (type_of v) (type_of w)) t) refl) t

    by : ((points_to_object tags (type_of v) && is_integer (type_of w)) ≡ true) ⊎ ((is_integer (type_of v) && points_to_object tags (type_of w)) ≡ true) → IsPart tags (pointed line (moved tags false line v w))
    by (inl k) =
        let a = and_left (points_to_object tags (type_of v)) (is_integer (type_of w)) k in
        let q = and_left (is_pointer (type_of v)) (has_size tags (target (type_of v))) a in
        let z = and_right (is_pointer (type_of v)) (has_size tags (target (type_of v))) a in
        whole (forward_part tags line v w o p false q z (and_right (points_to_object tags (type_of v)) (is_integer (type_of w)) k)) (inl q)
    by (inr k) =
        let a = and_right (is_integer (type_of v)) (points_to_object tags (type_of w)) k in
        let q = and_left (is_pointer (type_of w)) (has_size tags (target (type_of w))) a in
        let z = and_right (is_pointer (type_of w)) (has_size tags (target (type_of w))) a in
        whole (behind_part tags line v w o p (and_left (is_integer (type_of v)) (points_to_object tags (type_of w)) k) q z) (inr q)

-- ---- members

-- what has a member is a structure or union
member_record : (tags : List Tag) (t : CType) (name : List ℕ) (m : MemberAt) → member_of tags t name ≡ Some m → is_record t ≡ true
member_record tags (Plain q (Structure n)) name m h = refl
member_record tags (Plain q (Union n)) name m h = refl
member_record tags (Plain q k) name m h = absurd (let none : ⊥ = cc in none)
member_record tags (Array of n) name m h = absurd (let none : ⊥ = cc in none)

pub selected_part : (tags : List Tag) (line : ℕ) (a : CoreTree) (name : List ℕ) → have_fields tags ≡ true → IsPart tags a → is_none (member_of tags (type_of a) name) ≡ false → IsPart tags (selected tags line a name)
selected_part tags line a name f p h = by (member_of tags (type_of a) name) refl h
  where
    by : (o : Option MemberAt) → member_of tags (type_of a) name ≡ o → is_none o ≡ false → IsPart tags (selected_at line a (member_or_none o))
    by None e h = never h
    by (Some m) e h =
        record {
          fits = ((p.fits, tt), (refl, (member_record tags (type_of a) name m e, (name, m, e, (refl, (refl, (refl, (member_in_unit tags (type_of a) name m f e, refl))))))));
          bare = λ e. never e;
        }

-- ---- addresses

pub address_part : (tags : List Tag) (line : ℕ) (a : CoreTree) → IsPart tags a → is_addressable a ≡ true → IsPart tags (Core kind.Address (pointer_to (type_of a)) line (one a))
address_part tags line a p h =
    record {
      fits = ((p.fits, tt), (refl, (by (or_cases (is_function (type_of a)) (is_lvalue a && not (is_void (type_of a) || (is_bit_field a || is_register a))) h), refl)));
      bare = λ e. refl;
    }
  where
    by : (is_function (type_of a) ≡ true) ⊎ ((is_lvalue a && not (is_void (type_of a) || (is_bit_field a || is_register a))) ≡ true) → (is_function (type_of a) || (is_lvalue a && not (is_bit_field a))) ≡ true
    by (inl k) = or_true (is_function (type_of a)) (is_lvalue a && not (is_bit_field a)) (inl k)
    by (inr k) =
        let n = not_true (is_void (type_of a) || (is_bit_field a || is_register a)) (and_right (is_lvalue a) (not (is_void (type_of a) || (is_bit_field a || is_register a))) k) in
        let b = or_left (is_bit_field a) (is_register a) (or_right (is_void (type_of a)) (is_bit_field a || is_register a) n) in
        or_true (is_function (type_of a)) (is_lvalue a && not (is_bit_field a))
        (inr (and_true (is_lvalue a) (not (is_bit_field a)) (and_left (is_lvalue a) (not (is_void (type_of a) || (is_bit_field a || is_register a))) k) (negated (is_bit_field a) b)))
