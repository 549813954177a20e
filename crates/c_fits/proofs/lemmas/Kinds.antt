-- Which structure or union a type is: its number, and whether it is of a kind.
use Rattle.std.proofs.Common.{◌≡◌, ℕ, Bool, true, false, List, refl, sym, ap, ◌∙◌}
use Rattle.std.specs.Prelude.{◌==◌, Option, Some, None}
use Rattle.c_ast.specs.declared.specifier.RecordKind.{RecordKind}
use Rattle.c_ast.specs.declared.specifier.RecordKind.TheVariants as record_kind
use Rattle.c_types.specs.CType.{CType, Plain, Array, Kind, Structure, Union, Enumeration}
use Rattle.c_types.specs.Layout.{Tag}
use Rattle.c_meaning.specs.TypeConstraints.{has_record_kind, is_enumeration, is_of_kind}
use Rattle.c_meaning.specs.TypeRows.{number_of, number_of_kind, record_type}
use Rattle.c_fits.specs.Sound.{has_elements, is_kind_of, is_of, which}
use Rattle.c_fits.proofs.lemmas.Booleans.{never}

-- ---- by which it is

is_in : ℕ → Option Kind → Bool
is_in n (Some k) = is_kind_of n k
is_in n None = false

of_which : (n : ℕ) (t : CType) → is_of n t ≡ is_in n (which t)
unfolding is_in
of_which n (Plain q (Structure m)) = refl
of_which n (Plain q (Union m)) = refl
of_which n (Plain q k) = refl
of_which n (Array t m) = refl

pub same_of : (n : ℕ) (t u : CType) → which t ≡ which u → is_of n t ≡ is_of n u
same_of n t u e = of_which n t ∙ ap (is_in n) e ∙ sym (of_which n u)

kind_in : RecordKind → Option Kind → Bool
kind_in k (Some kind) = has_record_kind k kind
kind_in k None = false

kind_which : (k : RecordKind) (t : CType) → is_of_kind k t ≡ kind_in k (which t)
unfolding kind_in
kind_which record_kind.Struct (Plain q (Structure m)) = refl
kind_which record_kind.Struct (Plain q (Union m)) = refl
kind_which record_kind.Struct (Plain q k) = refl
kind_which record_kind.Struct (Array t m) = refl
kind_which record_kind.Union (Plain q (Structure m)) = refl
kind_which record_kind.Union (Plain q (Union m)) = refl
kind_which record_kind.Union (Plain q k) = refl
kind_which record_kind.Union (Array t m) = refl

pub same_kind : (k : RecordKind) (t u : CType) → which t ≡ which u → is_of_kind k t ≡ is_of_kind k u
same_kind k t u e = kind_which k t ∙ ap (kind_in k) e ∙ sym (kind_which k u)

number_in : Option Kind → ℕ
number_in (Some k) = number_of_kind k
number_in None = 0

number_which : (k : RecordKind) (t : CType) → is_of_kind k t ≡ true → number_of t ≡ number_in (which t)
unfolding number_in
number_which record_kind.Struct (Plain q (Structure m)) h = refl
number_which record_kind.Struct (Plain q k) h = never (sym h)
number_which record_kind.Struct (Array t m) h = never (sym h)
number_which record_kind.Union (Plain q (Union m)) h = refl
number_which record_kind.Union (Plain q k) h = never (sym h)
number_which record_kind.Union (Array t m) h = never (sym h)

-- structures and unions that are one have one number
pub same_number : (k : RecordKind) (t u : CType) → which t ≡ which u → is_of_kind k t ≡ true → is_of_kind k u ≡ true → number_of t ≡ number_of u
same_number k t u e h i = number_which k t h ∙ ap number_in e ∙ sym (number_which k u i)

-- ---- types that are made

pub is_of_record : (k : RecordKind) (n m : ℕ) → is_of n (record_type k m) ≡ (n == m)
is_of_record record_kind.Struct n m = refl
is_of_record record_kind.Union n m = refl

pub elements_of_record : (tags : List Tag) (k : RecordKind) (n : ℕ) → has_elements tags (record_type k n) ≡ true
elements_of_record tags record_kind.Struct n = refl
elements_of_record tags record_kind.Union n = refl

pub number_of_record : (k : RecordKind) (n : ℕ) → number_of (record_type k n) ≡ n
number_of_record record_kind.Struct n = refl
number_of_record record_kind.Union n = refl

pub kind_of_record : (k : RecordKind) (n : ℕ) → is_of_kind k (record_type k n) ≡ true
kind_of_record record_kind.Struct n = refl
kind_of_record record_kind.Union n = refl

pub own_number : (k : RecordKind) (t : CType) → is_of_kind k t ≡ true → (n : ℕ) → is_of n t ≡ (n == number_of t)
own_number record_kind.Struct (Plain q (Structure m)) h n = refl
own_number record_kind.Struct (Plain q k) h n = never (sym h)
own_number record_kind.Struct (Array of m) h n = never (sym h)
own_number record_kind.Union (Plain q (Union m)) h n = refl
own_number record_kind.Union (Plain q k) h n = never (sym h)
own_number record_kind.Union (Array of m) h n = never (sym h)

-- an enumeration is no structure or union
pub enumeration_which : (t : CType) → is_enumeration t ≡ true → which t ≡ None
enumeration_which (Plain q (Enumeration n)) h = refl
enumeration_which (Plain q k) h = never (sym h)
enumeration_which (Array of n) h = never (sym h)
