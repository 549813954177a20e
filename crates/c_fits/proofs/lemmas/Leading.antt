-- What is known behind declared names leads on from what was known before: names without linkage, those with linkage, and the count
-- of locals.
use Rattle.std.proofs.Common.{◌≡◌, ℕ, ◌+◌, ◌<◌, ◌≤◌, Bool, true, false, ◌&&◌, List, length, refl, sym, ap, subst, ◌∙◌, arith, le_trans, lt_of_lt_of_le}
use Rattle.std.specs.Prelude.{ℤ, pos, Option, Some, None, is_some, if◌then◌else◌}
use Rattle.std.proofs.lemmas.List.{length-set}
use Rattle.c_ast.specs.declared.specifier.Storage.{Storage as StorageClass}
use Rattle.c_ast.specs.declared.specifier.Storage.TheVariants as class
use Rattle.c_symbols.specs.declared.symbol.Storage.{Storage}
use Rattle.c_symbols.specs.declared.symbol.Storage.TheVariants as storage
use Rattle.c_symbols.specs.Scoping.{symbol_named}
use Rattle.c_types.specs.CType.{CType}
use Rattle.c_types.specs.Composite.{composite}
use Rattle.c_fits.specs.Growing.{Grows}
use Rattle.c_meaning.specs.Declarations.{Name, Naming, decl_fault, definition, has_other_linkage, is_again, is_definition_of, noted, recomposed, retyped, with_linked_whole, with_whole}
use Rattle.c_meaning.specs.Declaring.{naming}
use Rattle.c_meaning.specs.Linkage.{Linkage, Alone, Internal, External, class_linkage, composed, count_known, count_name, counted_at, declared_by, is_linked, linkage, linkage_in, linked_by, linked_class, local_count, plain, with_alone, with_count, with_linked, with_local, with_name, with_name_of, with_type, with_value}
use Rattle.c_meaning.specs.State.{Known, State, declared, known_at, level_of, link_or_next, nothing_known, place_here, place_of, replaced, with_link}
use Rattle.c_meaning.specs.Types.{is_function}
use Rattle.c_fits.specs.Sound.{Follows, IsNumbered, IsOld, IsSound, Leads, StaysOther, is_enumerator}
use Rattle.c_fits.proofs.lemmas.Booleans.{never, not_false, or_left}
use Rattle.c_fits.proofs.lemmas.Composites.{composite_old, other_numbered}
use Rattle.c_fits.proofs.lemmas.Constraints.{decl_unbroken}
use Rattle.c_fits.proofs.lemmas.Growing.{elements_stay, same_grows, then_grows}
use Rattle.c_fits.proofs.lemmas.Lists.{last_below, longer, named_append, named_below, named_last, seam, set_related, some_id}
use Rattle.c_fits.proofs.lemmas.Following.{declared_sound, pushed_other, replaced_sound}
use Rattle.c_fits.proofs.lemmas.Types.{linked_sound}
use Rattle.c_fits.proofs.lemmas.Values.{chosen_by}

-- ---- one behind the other

pub same_leads : (s : State) → IsSound s → Leads s s
same_leads s h = record { sound = h; count = omega arith; symbols = omega arith; tags = same_grows s.tags }

pub then_leads : (s t u : State) → Leads s t → Leads t u → Leads s u
then_leads s t u f g =
    record {
      sound = g.sound;
      count = le_trans f.count g.count;
      symbols = le_trans f.symbols g.symbols;
      tags = then_grows s.tags t.tags u.tags f.tags g.tags;
    }

pub follows_leads : (s u : State) → Follows s u → Leads s u
follows_leads s u f = record { sound = f.sound; count = f.count; symbols = f.symbols; tags = f.tags }

pub old_stays : (s u : State) (t : CType) → s.count ≤ u.count → Grows s.tags u.tags → IsOld s t → IsOld u t
old_stays s u t l g e = (λ n k. e.0 n (le_trans l k), elements_stay s.tags u.tags g t e.1)

pub known_old : (s : State) (id : ℕ) → IsSound s → IsOld s (known_at s id).of
known_old s id h = (λ n l. let u = h.fresh n l in u.unmentioned id, h.arrays id)

-- ---- a symbol declared, and replaced

pub declared_leads : (s : State) (name : List ℕ) (k : Known) → IsSound s → IsNumbered k → IsOld s k.of → Leads s (declared s name k)
declared_leads s name k h i e = record { sound = declared_sound s name k h i e; count = omega arith; symbols = longer s.symbols k; tags = same_grows s.tags }

pub replaced_leads : (s : State) (id : ℕ) (k : Known) → IsSound s → IsNumbered k → StaysOther (known_at s id) k → IsOld s k.of → Leads s (replaced s id k)
replaced_leads s id k h i o e = record { sound = replaced_sound s id k h i o e; count = omega arith; symbols = rw (length-set s.symbols id k) (omega arith); tags = same_grows s.tags }

pub linked_leads : (s : State) (name : List ℕ) (o : Option ℕ) (k : Known) → IsSound s → symbol_named s.links name ≡ o → is_enumerator k.class ≡ false → IsOld s k.of → Leads s (with_link s name o k)
linked_leads s name (Some id) k h g c e = same_leads s h
linked_leads s name None k h g c e =
    record {
      sound = linked_sound s name None k h g (other_numbered k.class k.of c) c e;
      count = omega arith;
      symbols = longer s.symbols k;
      tags = same_grows s.tags;
    }

pub composed_leads : (s : State) (id : ℕ) (of : CType) → IsSound s → is_enumerator (known_at s id).class ≡ false → Leads s (composed s id of)
composed_leads s id of h c =
    replaced_leads s id (with_type (known_at s id) (composite (known_at s id).of of)) h (other_numbered (known_at s id).class (composite (known_at s id).of of) c) (λ e. e)
    (composite_old s (known_at s id).of of (known_old s id h))

-- ---- a name of the innermost scope that is no enumerator

pub record IsOther (s : State) (name : List ℕ) (id : ℕ) : Type 0 where
  pub here : place_here s name ≡ Some id
  pub below : id < length s.symbols
  pub other : is_enumerator (known_at s id).class ≡ false

pub other_follows : (s u : State) (name : List ℕ) (id : ℕ) → Follows s u → IsOther s name id → IsOther u name id
other_follows s u name id f o = record { here = f.here name id o.here; below = lt_of_lt_of_le o.below f.symbols; other = f.classes id o.below o.other }

other_replaced : (s : State) (name : List ℕ) (j id : ℕ) (k : Known) → StaysOther (known_at s id) k → IsOther s name j → IsOther (replaced s id k) name j
other_replaced s name j id k e o =
    record {
      here = o.here;
      below = rw (length-set s.symbols id k) o.below;
      other = set_related StaysOther s.symbols id k nothing_known (λ x e. e) e j o.other;
    }

other_declared : (s : State) (name x : List ℕ) (j : ℕ) (k : Known) → IsOther s name j → IsOther (declared s x k) name j
other_declared s name x j k o =
    record {
      here = named_append s.inner (x, length s.symbols) name j o.here;
      below = lt_of_lt_of_le o.below (longer s.symbols k);
      other = pushed_other s.symbols k j o.below o.other;
    }

new_other : (s : State) (name : List ℕ) (k : Known) → place_here s name ≡ None → is_enumerator k.class ≡ false → IsOther (declared s name k) name (length s.symbols)
new_other s name k e c =
    record {
      here = named_last s.inner name (length s.symbols) e;
      below = last_below s.symbols k;
      other = ap (λ (k : Known). is_enumerator k.class) (seam s.symbols k nothing_known) ∙ c;
    }

-- ---- names that have no linkage

pub count_leads : (s : State) (n : ℕ) → IsSound s → Leads s (with_count s n)
count_leads s n h = by (place_of s count_name)
  where
    by : (o : Option ℕ) → Leads s (counted_at s n o)
    by None = declared_leads s count_name (count_known (level_of s) n) h tt (λ m l. refl, refl)
    by (Some id) = replaced_leads s id (count_known (known_at s id).level n) h tt (λ e. refl) (λ m l. refl, refl)

count_other : (s : State) (n : ℕ) (name : List ℕ) (j : ℕ) → IsOther s name j → IsOther (with_count s n) name j
count_other s n name j o = by (place_of s count_name)
  where
    by : (p : Option ℕ) → IsOther (counted_at s n p) name j
    by None = other_declared s name count_name j (count_known (level_of s) n) o
    by (Some id) = other_replaced s name j id (count_known (known_at s id).level n) (λ e. refl) o

-- the name leads on, and is no enumerator
abbrev pub Declares : State → List ℕ → State → Type 0
Declares s name u = Leads s u × ((id : ℕ) × IsOther u name id)

alone_declares : (s : State) (name : List ℕ) (line : ℕ) (c : Storage) (of : CType) (v : Option ℤ) → IsSound s → is_enumerator c ≡ false → IsOld s of → place_here s name ≡ None → Declares s name (declared s name (plain s line c of v))
alone_declares s name line c of v h i e g = (declared_leads s name (plain s line c of v) h (other_numbered c of i) e, (length s.symbols, new_other s name (plain s line c of v) g i))

local_declares : (s : State) (line : ℕ) (name : List ℕ) (c : Storage) (of : CType) → IsSound s → is_enumerator c ≡ false → IsOld s of → place_here s name ≡ None → Declares s name (with_local s line name c of)
local_declares s line name c of h i e g =
    let d = alone_declares s name line c of (Some (pos (local_count s))) h i e g in
    let t : State = declared s name (plain s line c of (Some (pos (local_count s)))) in
    (then_leads s t (with_count t (local_count s + 1)) d.0 (count_leads t (local_count s + 1) d.0.sound), (d.1.0, count_other t (local_count s + 1) name d.1.0 d.1.1))

with_alone_declares : (s : State) (line : ℕ) (c : Option StorageClass) (name : List ℕ) (of : CType) → IsSound s → IsOld s of → place_here s name ≡ None → Declares s name (with_alone s line c name of)
with_alone_declares s line (Some class.Typedef) name of h e g = alone_declares s name line storage.Typedef of None h refl e g
with_alone_declares s line (Some class.Static) name of h e g = alone_declares s name line storage.Static of None h refl e g
with_alone_declares s line (Some class.Register) name of h e g = local_declares s line name storage.Register of h refl e g
with_alone_declares s line (Some class.Auto) name of h e g = local_declares s line name storage.Auto of h refl e g
with_alone_declares s line (Some class.Extern) name of h e g = local_declares s line name storage.Auto of h refl e g
with_alone_declares s line None name of h e g = local_declares s line name storage.Auto of h refl e g

-- ---- names with linkage

linked_other : (l : Linkage) → is_enumerator (linked_class l) ≡ false
linked_other Internal = refl
linked_other External = refl
linked_other Alone = refl

linked_by_leads : (s : State) (line : ℕ) (l : Linkage) (name : List ℕ) (of : CType) (o : Option ℕ) → IsSound s → IsOld s of → symbol_named s.links name ≡ o → Leads s (linked_by s line l name of o)
linked_by_leads s line l name of (Some id) h e g = composed_leads s id of h (h.linked name id g)
linked_by_leads s line l name of None h e g = linked_leads s name None (record { class = linked_class l; of = of; line = line; level = 0; value = None }) h g (linked_other l) e

-- a declaration with linkage changes no scope, and makes nothing an enumerator
linked_by_here : (s : State) (line : ℕ) (l : Linkage) (name : List ℕ) (of : CType) (o : Option ℕ) (x : List ℕ) → place_here (linked_by s line l name of o) x ≡ place_here s x
linked_by_here s line l name of (Some id) x = refl
linked_by_here s line l name of None x = refl

linked_by_other : (s : State) (line : ℕ) (l : Linkage) (name : List ℕ) (of : CType) (o : Option ℕ) (x : List ℕ) (j : ℕ) → IsOther s x j → IsOther (linked_by s line l name of o) x j
linked_by_other s line l name of (Some id) x j k = other_replaced s x j id (with_type (known_at s id) (composite (known_at s id).of of)) (λ e. e) k
linked_by_other s line l name of None x j k =
    record {
      here = k.here;
      below = lt_of_lt_of_le k.below (longer s.symbols (record { class = linked_class l; of = of; line = line; level = 0; value = None }));
      other = pushed_other s.symbols (record { class = linked_class l; of = of; line = line; level = 0; value = None }) j k.below k.other;
    }

-- where a name may be declared again it is linked, and no enumerator
class_other : (c : Storage) → is_linked (class_linkage c) ≡ true → is_enumerator c ≡ false
class_other storage.Enumerator e = never (sym e)
class_other c e = refl

again_other : (s : State) (l : Linkage) (id : ℕ) → is_again s l (Some id) ≡ false → is_enumerator (known_at s id).class ≡ false
again_other s l id e = by (is_some (known_at s id).value) (right l (not_false (is_linked l && is_linked (linkage_in (known_at s id))) e))
  where
    right : (l : Linkage) → (is_linked l && is_linked (linkage_in (known_at s id))) ≡ true → is_linked (linkage_in (known_at s id)) ≡ true
    right Alone q = never (sym q)
    right Internal q = q
    right External q = q

    by : (b : Bool) → is_linked (if b then class_linkage (known_at s id).class else Alone) ≡ true → is_enumerator (known_at s id).class ≡ false
    by true q = class_other (known_at s id).class q
    by false q = never (sym q)

with_linked_declares : (s : State) (line : ℕ) (l : Linkage) (name : List ℕ) (of : CType) → IsSound s → IsOld s of → is_again s l (place_here s name) ≡ false → Declares s name (with_linked s line l name of)
with_linked_declares s line l name of h e a = by (place_here s name) refl a
  where
    t : State
    t = linked_by s line l name of (symbol_named s.links name)

    f : Leads s t
    f = linked_by_leads s line l name of (symbol_named s.links name) h e refl

    by : (o : Option ℕ) → place_here s name ≡ o → is_again s l o ≡ false → Declares s name (declared_by t (link_or_next s name) line l name of o)
    by None g a =
        let d = alone_declares t name line (linked_class l) of (Some (pos (link_or_next s name))) f.sound (linked_other l) (old_stays s t of f.count f.tags e) (linked_by_here s line l name of (symbol_named s.links name) name ∙ g) in
        (then_leads s t _ f d.0, d.1)
    by (Some id) g a =
        let o = linked_by_other s line l name of (symbol_named s.links name) name id (record { here = g; below = named_below (length s.symbols) s.inner name id h.names g; other = again_other s l id a }) in (
          then_leads s t (composed t id of) f (composed_leads t id of f.sound o.other),
          (id, other_replaced t name id id (with_type (known_at t id) (composite (known_at t id).of of)) (λ e. e) o),
        )

-- ---- any name

none_again : (s : State) (o : Option ℕ) → is_again s Alone o ≡ false → o ≡ None
none_again s None e = refl
none_again s (Some id) e = never e

with_name_of_declares : (s : State) (line : ℕ) (c : Option StorageClass) (l : Linkage) (name : List ℕ) (of : CType) → IsSound s → IsOld s of → is_again s l (place_here s name) ≡ false → Declares s name (with_name_of s line c l name of)
with_name_of_declares s line c Alone name of h e a = with_alone_declares s line c name of h e (none_again s (place_here s name) a)
with_name_of_declares s line c Internal name of h e a = with_linked_declares s line Internal name of h e a
with_name_of_declares s line c External name of h e a = with_linked_declares s line External name of h e a

-- a name that may be declared here
pub with_name_again : (s : State) (line : ℕ) (c : Option StorageClass) (name : List ℕ) (of : CType) → IsSound s → IsOld s of → is_again s (linkage s c name (is_function of)) (place_here s name) ≡ false → Declares s name (with_name s line c name of)
with_name_again s line c name of h e a = with_name_of_declares s line c (linkage s c name (is_function of)) name of h e a

-- the name of a declaration, where its node breaks nothing
pub with_name_declares : (s : State) (line l : ℕ) (c : Option StorageClass) (name : List ℕ) (of : CType) → IsSound s → IsOld s of → decl_fault s l (Name (naming s c name of)) ≡ None → Declares s name (with_name s line c name of)
with_name_declares s line l c name of h e g =
    with_name_of_declares s line c (linkage s c name (is_function of)) name of h e
    (or_left (is_again s (linkage s c name (is_function of)) (place_here s name)) (has_other_linkage s (linkage s c name (is_function of)) (symbol_named s.links name)) (decl_unbroken s l (Name (naming s c name of)) g 5))

-- ---- behind an initialiser

retyped_leads : (s : State) (name : List ℕ) (of : CType) (id : ℕ) → IsSound s → IsOld s of → IsOther s name id → Leads s (retyped s of (place_here s name))
retyped_leads s name of id h e o =
    subst (λ p. Leads s (retyped s of p)) (sym o.here) (replaced_leads s id (with_type (known_at s id) of) h (other_numbered (known_at s id).class of o.other) (λ e. e) e)

recomposed_leads : (s : State) (of : CType) (o : Option ℕ) → IsSound s → ((id : ℕ) → o ≡ Some id → is_enumerator (known_at s id).class ≡ false) → Leads s (recomposed s of o)
recomposed_leads s of (Some id) h k = composed_leads s id of h (k id refl)
recomposed_leads s of None h k = same_leads s h

recomposed_other : (s : State) (of : CType) (o : Option ℕ) (name : List ℕ) (id : ℕ) → IsOther s name id → IsOther (recomposed s of o) name id
recomposed_other s of (Some j) name id k = other_replaced s name id j (with_type (known_at s j) (composite (known_at s j).of of)) (λ e. e) k
recomposed_other s of None name id k = k

pub noted_leads : (s : State) (initialised : Bool) (o : Option ℕ) → IsSound s → ((id : ℕ) → o ≡ Some id → is_enumerator (known_at s id).class ≡ false) → Leads s (noted s initialised o)
noted_leads s initialised None h k = same_leads s h
noted_leads s initialised (Some id) h k =
    replaced_leads s id (with_value (known_at s id) (definition initialised (known_at s id).value)) h (other_numbered (known_at s id).class (known_at s id).of (k id refl)) (λ e. e) (known_old s id h)

-- names with linkage stay what they are where types are composed
recomposed_class : (s : State) (of : CType) (o : Option ℕ) (id : ℕ) → is_enumerator (known_at s id).class ≡ false → is_enumerator (known_at (recomposed s of o) id).class ≡ false
recomposed_class s of None id e = e
recomposed_class s of (Some j) id e = set_related StaysOther s.symbols j (with_type (known_at s j) (composite (known_at s j).of of)) nothing_known (λ x e. e) (λ e. e) id e

linked_whole_leads : (s : State) (name : List ℕ) (of : CType) (initialised : Bool) (id : ℕ) → IsSound s → IsOther s name id
    → Leads s (noted (recomposed (recomposed s of (symbol_named s.links name)) of (place_here s name)) initialised (symbol_named s.links name))
linked_whole_leads s name of initialised id h o =
    let a = recomposed_leads s of (symbol_named s.links name) h (h.linked name) in
    let p = recomposed_other s of (symbol_named s.links name) name id o in
    let b = recomposed_leads (recomposed s of (symbol_named s.links name)) of (place_here s name) a.sound (λ j e. subst (λ i. is_enumerator (known_at (recomposed s of (symbol_named s.links name)) i).class ≡ false) (some_id id j (sym o.here ∙ e)) p.other) in
    let c = noted_leads (recomposed (recomposed s of (symbol_named s.links name)) of (place_here s name)) initialised (symbol_named s.links name) b.sound
    (λ j e. recomposed_class (recomposed s of (symbol_named s.links name)) of (place_here s name) j (recomposed_class s of (symbol_named s.links name) j (h.linked name j e))) in
    then_leads s (recomposed s of (symbol_named s.links name)) _ a (then_leads (recomposed s of (symbol_named s.links name)) (recomposed (recomposed s of (symbol_named s.links name)) of (place_here s name)) _ b c)

pub with_whole_leads : (s : State) (n : Naming) (initialised : Bool) (id : ℕ) → IsSound s → IsOld s n.of → IsOther s n.name id → Leads s (with_whole s n initialised)
with_whole_leads s n initialised id h e o =
    chosen_by (Leads s) (is_linked n.linkage) (with_linked_whole s n initialised) (retyped s n.of (place_here s n.name))
    (λ l. chosen_by (Leads s) (is_definition_of n initialised) (noted (recomposed (recomposed s n.of (symbol_named s.links n.name)) n.of (place_here s n.name)) initialised (symbol_named s.links n.name)) s (λ d. linked_whole_leads s n.name n.of initialised id h o) (λ d. same_leads s h))
    (λ l. retyped_leads s n.name n.of id h e o)
