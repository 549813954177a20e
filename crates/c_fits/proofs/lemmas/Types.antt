-- Types that specifiers, declarators and members make: what has a name, and bit-fields that there may be.
use Rattle.std.proofs.Common.{◌≡◌, ◌⊎◌, ℕ, zero, suc, Bool, true, false, ◌&&◌, List, [], ◌∷◌, ◌++◌, length, get_or, refl, sym, ap, subst, ◌∙◌, inl, inr, arith}
use Rattle.std.specs.Prelude.{◌==◌, Option, Some, None, ℤ, pos, negsuc, if◌then◌else◌}
use Rattle.c_ast.specs.declared.specifier.BasicType.{BasicType}
use Rattle.c_ast.specs.declared.specifier.Storage.{Storage as StorageClass}
use Rattle.c_symbols.specs.declared.symbol.Storage.TheVariants as storage
use Rattle.c_symbols.specs.Extending.{all_below_more, below_more}
use Rattle.c_symbols.specs.Scoping.{AreBelow, symbol_named}
use Rattle.c_types.specs.BitFields.{are_fields, is_field, is_field_type, is_field_width}
use Rattle.c_types.specs.CType.{Basic, CType, Plain, Array, Simple, Pointer, Function, Structure, Union, Enumeration, qualify}
use Rattle.c_types.specs.Layout.{MemberType, Tag}
use Rattle.c_meaning.specs.Constants.{fold}
use Rattle.c_meaning.specs.Constraints.{fault_at}
use Rattle.c_meaning.specs.Nodes.{NamedParameter, Part, Stored, Qualified, Word, Whole, Step, ToPointer, ToArray, ToFunction, ToNamed, ToOpen, Typing}
use Rattle.c_meaning.specs.Nodes as node
use Rattle.c_meaning.specs.State.{Known, State, external, known_at, level_of, link_or_next, nothing_known, place_here, place_of, with_function, with_link}
use Rattle.c_meaning.specs.TypeConstraints.{has_stood, is_enumeration, is_other_enumeration, is_width}
use Rattle.c_meaning.specs.TypeRows.{adjusted, awaited, awaited_at, basic_or_none, enumerated, enumerated_at, enumeration_type, formed, formed_by, is_register, member, name_or_empty, named, named_at, nat_part, parameter_class, parameter_known, qualifiers_among, qualifiers_in, specified, tag_key, tagged, type_among, type_or_int, wholes_in, with_enumerator, with_parameter, with_tag, words_in}
use Rattle.c_meaning.specs.Typing.{named_type}
use Rattle.c_meaning.specs.Values.{CoreTree}
use Rattle.c_meaning.specs.Words as words
use Rattle.c_meaning.specs.Types.{has_size}
use Rattle.c_fits.specs.Growing.{Grows}
use Rattle.c_fits.specs.Sound.{AreSized, Extends, Follows, IsIntOf, IsNamed, IsNumbered, IsOld, IsSound, has_elements, is_enumerator, is_of, which}
use Rattle.c_fits.proofs.lemmas.Booleans.{never, and_left, and_right, and_true, not_false, or_left}
use Rattle.c_fits.proofs.lemmas.Constraints.{unbroken}
use Rattle.c_fits.proofs.lemmas.Growing.{same_grows, sized_stays}
use Rattle.c_fits.proofs.lemmas.Kinds.{enumeration_which}
use Rattle.c_fits.proofs.lemmas.Lists.{all_append, below_push, last_below, longer, named_below, named_pushed, seam}
use Rattle.c_fits.proofs.lemmas.Following.{counted_follows, declared_extends, declared_follows, pushed, pushed_other, replaced_follows, same_follows, tag_follows, then_follows, unnamed_append}

-- ---- types of specifiers

pub qualified_of : (n q : ℕ) (t : CType) → is_of n (qualify q t) ≡ is_of n t
qualified_of n q (Plain p k) = refl
qualified_of n q (Array t m) = refl

-- none of the types that stand by themselves is this structure or union
abbrev pub NoneOf : ℕ → List Part → Type 0
NoneOf n [] = Unit {0}
NoneOf n (Whole t ∷ ps) = (is_of n t ≡ false) × NoneOf n ps
NoneOf n (p ∷ ps) = NoneOf n ps

abbrev AllApart : ℕ → List CType → Type 0
AllApart n [] = Unit {0}
AllApart n (t ∷ ts) = (is_of n t ≡ false) × AllApart n ts

wholes_apart : (n : ℕ) (ps : List Part) → NoneOf n ps → AllApart n (wholes_in ps)
wholes_apart n [] h = tt
wholes_apart n (Whole t ∷ ps) h = (h.0, wholes_apart n ps h.1)
wholes_apart n (Stored c ∷ ps) h = wholes_apart n ps h
wholes_apart n (Qualified q ∷ ps) h = wholes_apart n ps h
wholes_apart n (Word w ∷ ps) h = wholes_apart n ps h

basic_apart : (n : ℕ) (o : Option Basic) → is_of n (type_or_int (basic_or_none o)) ≡ false
basic_apart n (Some b) = refl
basic_apart n None = refl

among_apart : (n : ℕ) (ts : List CType) (ws : List BasicType) → AllApart n ts → is_of n (type_or_int (type_among ts ws)) ≡ false
among_apart n [] ws h = basic_apart n (words.meant ws)
among_apart n (t ∷ []) [] h = h.0
among_apart n (t ∷ []) (w ∷ ws) h = refl
among_apart n (t ∷ u ∷ ts) ws h = refl

pub specified_apart : (n : ℕ) (ps : List Part) → NoneOf n ps → is_of n (specified ps).of ≡ false
specified_apart n ps h = qualified_of n (qualifiers_among (qualifiers_in ps)) (type_or_int (type_among (wholes_in ps) (words_in ps))) ∙ among_apart n (wholes_in ps) (words_in ps) (wholes_apart n ps h)

-- a type that a name names
pub known_named : (s : State) (o : Option ℕ) → IsNamed s (named_type s o)
known_named s (Some id) n u = u.unmentioned id
known_named s None n u = refl

-- ---- types of declarators

pub step_apart : (n : ℕ) (p : Step) (t : CType) → is_of n t ≡ false → is_of n (formed_by p t) ≡ false
step_apart n (ToPointer q) t h = refl
step_apart n (ToArray size) t h = refl
step_apart n (ToFunction ps more scope) t h = refl
step_apart n (ToNamed names) t h = refl
step_apart n ToOpen t h = refl

pub formed_apart : (n : ℕ) (ps : List Step) (t : CType) → is_of n t ≡ false → is_of n (formed t ps) ≡ false
formed_apart n [] t h = h
formed_apart n (p ∷ ps) t h = formed_apart n ps (formed_by p t) (step_apart n p t h)

pub adjusted_apart : (n : ℕ) (t : CType) → is_of n t ≡ false → is_of n (adjusted t) ≡ false
adjusted_apart n (Array of m) h = refl
adjusted_apart n (Plain q (Function r ps)) h = refl
adjusted_apart n (Plain q (Simple b)) h = h
adjusted_apart n (Plain q (Pointer to)) h = h
adjusted_apart n (Plain q (Structure m)) h = h
adjusted_apart n (Plain q (Union m)) h = h
adjusted_apart n (Plain q (Enumeration m)) h = h

-- no parameter is an array
pub adjusted_elements : (tags : List Tag) (t : CType) → has_elements tags (adjusted t) ≡ true
adjusted_elements tags (Array of m) = refl
adjusted_elements tags (Plain q (Function r ps)) = refl
adjusted_elements tags (Plain q (Simple b)) = refl
adjusted_elements tags (Plain q (Pointer to)) = refl
adjusted_elements tags (Plain q (Structure m)) = refl
adjusted_elements tags (Plain q (Union m)) = refl
adjusted_elements tags (Plain q (Enumeration m)) = refl

-- ---- tags that are named

pub tag_named : (s : State) (line : ℕ) (tag : List ℕ) (of : CType) (v : Option ℤ) → IsNamed (with_tag s line tag of v).state of
tag_named s line tag of v n u = ap (λ (k : Known). is_of n k.of) (sym (seam s.symbols (tagged line (level_of s) of v) nothing_known)) ∙ u.unmentioned (length s.symbols)

pub named_follows : (s : State) (line : ℕ) (tag : List ℕ) (of : CType) → IsSound s → ((n : ℕ) → (n == s.count) ≡ false → is_of n of ≡ false) → has_elements s.tags of ≡ true → Follows s (named s line tag of).state × IsNamed (named s line tag of).state (named s line tag of).of
named_follows s line tag of h e a = by (place_of s (tag_key tag))
  where
    by : (o : Option ℕ) → Follows s (named_at s line tag of o).state × IsNamed (named_at s line tag of o).state (named_at s line tag of o).of
    by (Some id) = (same_follows s h, λ n u. u.unmentioned id)
    by None = (tag_follows s line tag of None h e a, tag_named s line tag of None)

pub awaited_follows : (s : State) (line : ℕ) (tag : Option (List ℕ)) → IsSound s → Follows s (awaited s line tag)
awaited_follows s line None h = same_follows s h
awaited_follows s line (Some tag) h = by (place_here s (tag_key tag))
  where
    by : (o : Option ℕ) → Follows s (awaited_at s line tag o)
    by (Some id) = same_follows s h
    by None = tag_follows s line tag (enumeration_type s.count) None h (λ n e. refl) refl

pub enumerated_follows : (s : State) (line : ℕ) (tag : Option (List ℕ)) → IsSound s → fault_at s line (Typing (node.Enumeration tag)) ≡ None → Follows s (enumerated s line tag).state × IsNamed (enumerated s line tag).state (enumerated s line tag).of
enumerated_follows s line None h e = (counted_follows s h, λ n u. refl)
enumerated_follows s line (Some tag) h e = by (place_here s (tag_key tag)) (or_left (is_other_enumeration s (place_here s (tag_key tag))) (has_stood s (place_here s (tag_key tag))) (unbroken s line (Typing (node.Enumeration (Some tag))) e 8))
  where
    by : (o : Option ℕ) → is_other_enumeration s o ≡ false → Follows s (enumerated_at s line tag o).state × IsNamed (enumerated_at s line tag o).state (enumerated_at s line tag o).of
    by None g = (tag_follows s line tag (enumeration_type s.count) (Some (pos 0)) h (λ n e. refl) refl, λ n u. refl)
    by (Some id) g =
        let c = counted_follows s h in
        (then_follows s _ _ c (replaced_follows _ id (tagged line (level_of s) (enumeration_type s.count) (Some (pos 0))) c.sound tt (λ e. refl) refl (sym (enumeration_which (known_at s id).of (not_false (is_enumeration (known_at s id).of) g))) refl), λ n u. refl)

-- ---- enumerators, parameters and functions

pub enumerator_follows : (s : State) (line : ℕ) (name : List ℕ) (z : ℤ) → IsSound s → Follows s (with_enumerator s line name z)
enumerator_follows s line name z h = declared_follows s name _ h refl refl (λ n u. refl) refl

pub parameter_numbered : (classes : List StorageClass) (of : CType) → IsIntOf (parameter_class classes) of
parameter_numbered classes of = by (is_register classes)
  where
    by : (b : Bool) → IsIntOf (if b then storage.Register else storage.Auto) of
    by true = tt
    by false = tt

pub parameter_extends : (s : State) (line place : ℕ) (classes : List StorageClass) (name : Option (List ℕ)) (of : CType) → IsSound s → IsNamed s of → has_elements s.tags of ≡ true → Extends s (with_parameter s line place classes name of)
parameter_extends s line place classes None of h e a = let f = same_follows s h in f.extends
parameter_extends s line place classes (Some name) of h e a = declared_extends s name (parameter_known s line place classes of) h (parameter_numbered classes of) e a

-- ---- members

pub fields_push : (ms : List MemberType) (m : MemberType) → are_fields ms ≡ true → is_field m.name m.of m.width ≡ true → are_fields (ms ++ m ∷ []) ≡ true
fields_push [] m h e = and_true (is_field m.name m.of m.width) true e refl
fields_push (x ∷ xs) m h e =
    and_true (is_field x.name x.of x.width) (are_fields (xs ++ m ∷ [])) (and_left (is_field x.name x.of x.width) (are_fields xs) h)
    (fields_push xs m (and_right (is_field x.name x.of x.width) (are_fields xs) h) e)

width_is : (name : Option (List ℕ)) (z : Option ℤ) → is_width name z ≡ true → is_field_width (name_or_empty name) (nat_part z) ≡ true
width_is name None h = never (sym h)
width_is name (Some (negsuc n)) h = never (sym h)
width_is name (Some (pos (suc n))) h = h
width_is None (Some (pos zero)) h = refl
width_is (Some x) (Some (pos zero)) h = never (sym h)

pub member_field : (s : State) (line : ℕ) (before : List MemberType) (name : Option (List ℕ)) (of : CType) (width : Option CoreTree) → fault_at s line (Typing (node.Field before name of width)) ≡ None
    → is_field (member name of width).name of (member name of width).width ≡ true
member_field s line before name of None e = refl
member_field s line before name of (Some c) e =
    let h = not_false (is_field_type of && is_width name (fold c)) (unbroken s line (Typing (node.Field before name of (Some c))) e 11) in
    and_true (is_field_type of) (is_field_width (name_or_empty name) (nat_part (fold c))) (and_left (is_field_type of) (is_width name (fold c)) h)
    (width_is name (fold c) (and_right (is_field_type of) (is_width name (fold c)) h))

pub sized_stay : (old new : List Tag) (ms : List MemberType) → Grows old new → AreSized old ms → AreSized new ms
sized_stay old new [] g h = tt
sized_stay old new (m ∷ ms) g h = (sized_stays old new g m.of h.0, sized_stay old new ms g h.1)

pub sized_push : (tags : List Tag) (ms : List MemberType) (m : MemberType) → AreSized tags ms → has_size tags m.of ≡ true → AreSized tags (ms ++ m ∷ [])
sized_push tags [] m h e = (e, tt)
sized_push tags (x ∷ xs) m h e = (h.0, sized_push tags xs m h.1 e)

pub member_sized : (s : State) (line : ℕ) (before : List MemberType) (name : Option (List ℕ)) (of : CType) (width : Option CoreTree) → fault_at s line (Typing (node.Field before name of width)) ≡ None
    → has_size s.tags (member name of width).of ≡ true
member_sized s line before name of width e = not_false (has_size s.tags of) (unbroken s line (Typing (node.Field before name of width)) e 10)

-- ---- a call of an undeclared name

other_pushed : (links : List (List ℕ × ℕ)) (symbols : List Known) (name : List ℕ) (k : Known) (x : List ℕ) (id : ℕ) → AreBelow (length symbols) links
    → ((y : List ℕ) (j : ℕ) → symbol_named links y ≡ Some j → is_enumerator (get_or symbols j nothing_known).class ≡ false) → is_enumerator k.class ≡ false
    → symbol_named (links ++ (name, length symbols) ∷ []) x ≡ Some id → is_enumerator (get_or (symbols ++ k ∷ []) id nothing_known).class ≡ false
other_pushed links symbols name k x id b h c q = by (named_pushed links name x (length symbols) id q)
  where
    by : (symbol_named links x ≡ Some id) ⊎ (length symbols ≡ id) → is_enumerator (get_or (symbols ++ k ∷ []) id nothing_known).class ≡ false
    by (inl e) = pushed_other symbols k id (named_below (length symbols) links x id b e) (h x id e)
    by (inr e) = subst (λ i. is_enumerator (get_or (symbols ++ k ∷ []) i nothing_known).class ≡ false) e (ap (λ (k : Known). is_enumerator k.class) (seam symbols k nothing_known) ∙ c)

pub linked_sound : (s : State) (name : List ℕ) (o : Option ℕ) (k : Known) → IsSound s → symbol_named s.links name ≡ o → IsNumbered k → is_enumerator k.class ≡ false → IsOld s k.of → IsSound (with_link s name o k)
linked_sound s name (Some id) k h g i c e = h
linked_sound s name None k h g i c e =
    record {
      fields = h.fields;
      once = h.once;
      sizes = h.sizes;
      arrays = all_append (λ (k : Known). has_elements s.tags k.of ≡ true) s.symbols k nothing_known h.arrays e.1;
      enumerators = all_append IsNumbered s.symbols k nothing_known h.enumerators i;
      names = below_more (length s.symbols) (length (s.symbols ++ k ∷ [])) (longer s.symbols k) s.inner h.names;
      scopes = all_below_more (length s.symbols) (length (s.symbols ++ k ∷ [])) (longer s.symbols k) s.outer h.scopes;
      links = below_push (length (s.symbols ++ k ∷ [])) s.links name (length s.symbols) (below_more (length s.symbols) (length (s.symbols ++ k ∷ [])) (longer s.symbols k) s.links h.links) (last_below s.symbols k);
      linked = λ x id q. other_pushed s.links s.symbols name k x id h.links (λ y j r. h.linked y j r) c q;
      fresh = λ n l. unnamed_append s.tags s.symbols k n (h.fresh n l) (e.0 n l);
    }

pub linked_follows : (s : State) (name : List ℕ) (o : Option ℕ) (k : Known) → IsSound s → symbol_named s.links name ≡ o → IsNumbered k → is_enumerator k.class ≡ false → IsNamed s k.of → has_elements s.tags k.of ≡ true → Follows s (with_link s name o k)
linked_follows s name (Some id) k h g i c e a = same_follows s h
linked_follows s name None k h g i c e a =
    record {
      extends =
          record {
            sound = linked_sound s name None k h g i c (λ n l. e n (h.fresh n l), a);
            count = omega arith;
            symbols = longer s.symbols k;
            known = λ id l. ap (λ (k : Known). which k.of) (pushed s.symbols k id l);
            classes = λ id l. pushed_other s.symbols k id l;
            locals = λ id l q. pushed s.symbols k id l;
            tags = same_grows s.tags;
            apart = λ n a. unnamed_append s.tags s.symbols k n a.0 (e n a.0);
          };
      here = λ x id g. g;
      before = λ x id g q. g;
    }

pub function_follows : (s : State) (line : ℕ) (name : List ℕ) → IsSound s → Follows s (with_function s line name)
function_follows s line name h =
    let f = linked_follows s name (symbol_named s.links name) (external line 0 None) h refl tt refl (λ n u. refl) refl in
    then_follows s (with_link s name (symbol_named s.links name) (external line 0 None)) (with_function s line name) f
    (declared_follows (with_link s name (symbol_named s.links name) (external line 0 None)) name (external line (level_of s) (Some (pos (link_or_next s name)))) f.sound tt refl (λ n u. refl) refl)
