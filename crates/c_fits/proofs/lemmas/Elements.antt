-- An array that specifiers or a declarator make is one of elements that have a size.
use Rattle.std.proofs.Common.{◌≡◌, ℕ, true, false, List, [], ◌∷◌, refl, ap, subst, ◌∙◌}
use Rattle.std.specs.Prelude.{Option, Some, None, is_some}
use Rattle.c_ast.specs.declared.specifier.BasicType.{BasicType}
use Rattle.c_ast.specs.declared.specifier.RecordKind.{RecordKind}
use Rattle.c_ast.specs.Trees.{SpecifiersTree, SpecifierTree, SpecifierTrees, NoSpecifiers, Specifiers}
use Rattle.c_ast.specs.Trees as tree
use Rattle.c_types.specs.CType.{Basic, CType, Plain, Array, qualify}
use Rattle.c_types.specs.Layout.{Tag, extent, times}
use Rattle.c_meaning.specs.Nodes.{Part, Stored, Qualified, Word, Whole, Step, ToPointer, ToArray, ToFunction, ToNamed, ToOpen}
use Rattle.c_meaning.specs.Declaring.{alone, alone_at}
use Rattle.c_meaning.specs.State.{State, place_here, place_of}
use Rattle.c_meaning.specs.TypeConstraints.{is_bad_element, some_step}
use Rattle.c_meaning.specs.TypeRows.{Specified, basic_or_none, enumerated, enumerated_at, enumeration_type, formed, formed_by, named, named_at, number_of, opened, qualifiers_among, qualifiers_in, record_type, specified, tag_key, type_among, type_or_int, wholes_in, words_in}
use Rattle.c_meaning.specs.Types.{has_size}
use Rattle.c_meaning.specs.Typing.{named_type}
use Rattle.c_meaning.specs.TypingRelation.{TypesPart, TypesParts, TypesSpecifiers}
use Rattle.c_meaning.specs.Words as words
use Rattle.c_fits.specs.Sound.{IsSound, has_elements}
use Rattle.c_fits.proofs.lemmas.Booleans.{not_false, or_left, or_right}
use Rattle.c_fits.proofs.lemmas.Growing.{elements_stay}
use Rattle.c_fits.proofs.lemmas.Kinds.{elements_of_record}
use Rattle.c_fits.proofs.lemmas.Walk.{part_goes, parts_go}

-- ---- declarators

step_elements : (tags : List Tag) (p : Step) (t : CType) → is_bad_element tags t p ≡ false → has_elements tags (formed_by p t) ≡ true
step_elements tags (ToPointer q) t e = refl
step_elements tags (ToArray size) t e = not_false (has_size tags t) e
step_elements tags (ToFunction ps more scope) t e = refl
step_elements tags (ToNamed names) t e = refl
step_elements tags ToOpen t e = refl

pub formed_elements : (tags : List Tag) (ps : List Step) (t : CType) → has_elements tags t ≡ true → some_step (is_bad_element tags) t ps ≡ false → has_elements tags (formed t ps) ≡ true
formed_elements tags [] t h e = h
formed_elements tags (p ∷ ps) t h e =
    formed_elements tags ps (formed_by p t) (step_elements tags p t (or_left (is_bad_element tags t p) (some_step (is_bad_element tags) (formed_by p t) ps) e)) (or_right (is_bad_element tags t p) (some_step (is_bad_element tags) (formed_by p t) ps) e)

-- ---- the type of specifiers

-- qualifiers change no size
qualified_size : (tags : List Tag) (q : ℕ) (t : CType) → (extent tags (qualify q t)).size ≡ (extent tags t).size
qualified_size tags q (Plain p k) = refl
qualified_size tags q (Array t n) = ap (times n) (qualified_size tags q t)

qualified_elements : (tags : List Tag) (q : ℕ) (t : CType) → has_elements tags t ≡ true → has_elements tags (qualify q t) ≡ true
qualified_elements tags q (Plain p k) h = refl
qualified_elements tags q (Array t n) h = ap is_some (qualified_size tags q t) ∙ h

abbrev AllElements : List Tag → List Part → Type 0
AllElements tags [] = Unit {0}
AllElements tags (Whole t ∷ ps) = (has_elements tags t ≡ true) × AllElements tags ps
AllElements tags (p ∷ ps) = AllElements tags ps

abbrev HaveElements : List Tag → List CType → Type 0
HaveElements tags [] = Unit {0}
HaveElements tags (t ∷ ts) = (has_elements tags t ≡ true) × HaveElements tags ts

wholes_elements : (tags : List Tag) (ps : List Part) → AllElements tags ps → HaveElements tags (wholes_in ps)
wholes_elements tags [] h = tt
wholes_elements tags (Whole t ∷ ps) h = (h.0, wholes_elements tags ps h.1)
wholes_elements tags (Stored c ∷ ps) h = wholes_elements tags ps h
wholes_elements tags (Qualified q ∷ ps) h = wholes_elements tags ps h
wholes_elements tags (Word w ∷ ps) h = wholes_elements tags ps h

basic_elements : (tags : List Tag) (o : Option Basic) → has_elements tags (type_or_int (basic_or_none o)) ≡ true
basic_elements tags (Some b) = refl
basic_elements tags None = refl

among_elements : (tags : List Tag) (ts : List CType) (ws : List BasicType) → HaveElements tags ts → has_elements tags (type_or_int (type_among ts ws)) ≡ true
among_elements tags [] ws h = basic_elements tags (words.meant ws)
among_elements tags (t ∷ []) [] h = h.0
among_elements tags (t ∷ []) (w ∷ ws) h = refl
among_elements tags (t ∷ u ∷ ts) ws h = refl

specified_elements : (tags : List Tag) (ps : List Part) → AllElements tags ps → has_elements tags (specified ps).of ≡ true
specified_elements tags ps h = qualified_elements tags (qualifiers_among (qualifiers_in ps)) (type_or_int (type_among (wholes_in ps) (words_in ps))) (among_elements tags (wholes_in ps) (words_in ps) (wholes_elements tags ps h))

-- ---- parts

elements_then : (tags : List Tag) (p : Part) (ps : List Part) → AllElements tags (p ∷ []) → AllElements tags ps → AllElements tags (p ∷ ps)
elements_then tags (Whole t) ps h k = (h.0, k)
elements_then tags (Stored c) ps h k = k
elements_then tags (Qualified q) ps h k = k
elements_then tags (Word w) ps h k = k

part_stays : (old new : List Tag) (p : Part) → ((t : CType) → has_elements old t ≡ true → has_elements new t ≡ true) → AllElements old (p ∷ []) → AllElements new (p ∷ [])
part_stays old new (Whole t) g h = (g t h.0, tt)
part_stays old new (Stored c) g h = tt
part_stays old new (Qualified q) g h = tt
part_stays old new (Word w) g h = tt

named_elements : (s : State) (o : Option ℕ) → IsSound s → has_elements s.tags (named_type s o) ≡ true
named_elements s (Some id) h = h.arrays id
named_elements s None h = refl

tag_elements : (s : State) (line : ℕ) (tag : List ℕ) (of : CType) (o : Option ℕ) → IsSound s → has_elements s.tags of ≡ true → has_elements (named_at s line tag of o).state.tags (named_at s line tag of o).of ≡ true
tag_elements s line tag of (Some id) h e = h.arrays id
tag_elements s line tag of None h e = e

list_elements : (s : State) (line : ℕ) (tag : Option (List ℕ)) → has_elements (enumerated s line tag).state.tags (enumerated s line tag).of ≡ true
list_elements s line None = refl
list_elements s line (Some tag) = by (place_here s (tag_key tag))
  where
    by : (o : Option ℕ) → has_elements (enumerated_at s line tag o).state.tags (enumerated_at s line tag o).of ≡ true
    by (Some id) = refl
    by None = refl

-- a part that a tag names
whole_part : (s u : State) (t : CType) (q : Part) → s ≡ u → Whole t ≡ q → has_elements s.tags t ≡ true → AllElements u.tags (q ∷ [])
whole_part s u t q e g h = subst (λ (u : State). AllElements u.tags (q ∷ [])) e (subst (λ q. AllElements s.tags (q ∷ [])) g (h, tt))

part_elements : (s : State) (p : SpecifierTree) (u : State) (q : Part) → TypesPart s p u q → IsSound s → AllElements u.tags (q ∷ [])
part_elements s (tree.Stored l class) u q h k = subst (λ q. AllElements u.tags (q ∷ [])) h.1 tt
part_elements s (tree.Qualified l qualifier) u q h k = subst (λ q. AllElements u.tags (q ∷ [])) h.1 tt
part_elements s (tree.Basic l word) u q h k = subst (λ q. AllElements u.tags (q ∷ [])) h.1 tt
part_elements s (tree.NamedType l x) u q h k = whole_part s u (named_type s (place_of s x)) q h.0 h.1 (named_elements s (place_of s x) k)
part_elements s (tree.RecordTag l c tag) u q h k =
    whole_part (named s l tag (record_type c s.count)).state u (named s l tag (record_type c s.count)).of q h.1.0 h.1.1 (tag_elements s l tag (record_type c s.count) (place_of s (tag_key tag)) k (elements_of_record s.tags c s.count))
part_elements s (tree.EnumTag l tag) u q h k =
    whole_part (named s l tag (enumeration_type s.count)).state u (named s l tag (enumeration_type s.count)).of q h.1.0 h.1.1 (tag_elements s l tag (enumeration_type s.count) (place_of s (tag_key tag)) k refl)
part_elements s (tree.Enum l tag es comma) u q h k = whole_part (enumerated h.0 l tag).state u (enumerated h.0 l tag).of q h.3.1.0 h.3.1.1 (list_elements h.0 l tag)
part_elements s (tree.Record l c tag ms) u q h k =
    subst (λ q. AllElements u.tags (q ∷ [])) h.3.1.1 (elements_of_record u.tags c (number_of (opened s l c tag).of), tt)

parts_elements : (s : State) (ps : SpecifierTrees) (u : State) (qs : List Part) → TypesParts s ps u qs → IsSound s → AllElements u.tags qs
parts_elements s NoSpecifiers u qs h k = subst (AllElements u.tags) h.1 tt
parts_elements s (Specifiers p ps) u qs h k =
    let a = part_goes s p h.0 h.1 h.2 k in
    let b = parts_go h.0 ps h.3.0 h.3.1 h.3.2 a.0.sound in
    let x = part_stays h.0.tags h.3.0.tags h.1 (elements_stay h.0.tags h.3.0.tags b.0.tags) (part_elements s p h.0 h.1 h.2 k) in
    let y = parts_elements h.0 ps h.3.0 h.3.1 h.3.2 a.0.sound in
    subst (AllElements u.tags) h.3.3.1 (subst (λ (u : State). AllElements u.tags (h.1 ∷ h.3.1)) h.3.3.0 (elements_then h.3.0.tags h.1 h.3.1 x y))

pub specifiers_elements : (s : State) (specs : SpecifiersTree) (u : State) (b : Specified) → TypesSpecifiers s specs u b → IsSound s → has_elements u.tags b.of ≡ true
specifiers_elements s (tree.Specified l list) u b h k =
    subst (λ (b : Specified). has_elements u.tags b.of ≡ true) h.3.1.1
    (subst (λ (u : State). has_elements u.tags (specified h.1).of ≡ true) h.3.1.0 (specified_elements h.0.tags h.1 (parts_elements s list h.0 h.1 h.2 k)))

-- ---- a tag that stands alone

pub whole_elements : (tags : List Tag) (t : CType) → has_elements tags t ≡ true → has_elements tags (specified (Whole t ∷ [])).of ≡ true
whole_elements tags t h = specified_elements tags (Whole t ∷ []) (h, tt)

pub alone_elements : (s : State) (l : ℕ) (k : RecordKind) (tag : List ℕ) → IsSound s → has_elements (alone s l k tag).state.tags (alone s l k tag).of ≡ true
alone_elements s l k tag h = by (place_here s (tag_key tag))
  where
    by : (o : Option ℕ) → has_elements (alone_at s l k tag o).state.tags (alone_at s l k tag o).of ≡ true
    by (Some id) = h.arrays id
    by None = elements_of_record s.tags k s.count
