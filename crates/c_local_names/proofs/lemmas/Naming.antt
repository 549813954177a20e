-- What is known behind a declared name: one that isn't a local's adds no local, and a local's has the next place.
use Rattle.std.proofs.Common.{◌≡◌, ◌⊎◌, ℕ, ◌+◌, ◌<◌, ◌≤◌, Bool, true, false, not, ◌&&◌, List, [], ◌∷◌, ◌++◌, length, refl, sym, ap, subst, ◌∙◌, inl, inr, arith}
use Rattle.std.specs.Prelude.{ℤ, pos, Option, Some, None, is_some, slice_get, if◌then◌else◌}
use Rattle.std.proofs.lemmas.List.{get_or-set_other, length-append, length-set}
use Rattle.c_ast.specs.declared.specifier.Storage.{Storage as StorageClass}
use Rattle.c_ast.specs.declared.specifier.Storage.TheVariants as class
use Rattle.c_symbols.specs.Scoping.{symbol_named}
use Rattle.c_symbols.specs.declared.symbol.Storage.{Storage}
use Rattle.c_symbols.specs.declared.symbol.Storage.TheVariants as storage
use Rattle.c_types.specs.CType.{CType}
use Rattle.c_types.specs.Compatible.{compatible}
use Rattle.c_types.specs.Composite.{composite}
use Rattle.c_meaning.specs.Declarations.{Naming, definition, is_again, is_definition_of, is_static, is_typedef, noted, recomposed, retyped, with_linked_whole, with_whole}
use Rattle.c_meaning.specs.Linkage.{Linkage, Alone, Internal, External, class_linkage, composed, count_at, count_known, counted_at, declared_by, is_linked, linkage_in, linked_by, linked_class, local_count, plain, with_alone, with_count, with_linked, with_local, with_name_of, with_type, with_value}
use Rattle.c_meaning.specs.Rows.{nat_of}
use Rattle.c_meaning.specs.State.{Known, State, declared, known_at, link_or_next, nothing_known, place_here, replaced}
use Rattle.c_units.specs.Functions.{is_object_class}
use Rattle.c_fits.proofs.lemmas.Booleans.{never, not_false}
use Rattle.c_fits.proofs.lemmas.Following.{pushed}
use Rattle.c_fits.proofs.lemmas.Lists.{longer, named_last, seam, set_related, some_id}
use Rattle.c_fits.proofs.lemmas.Values.{chosen_by}
use Rattle.c_local_names.proofs.lemmas.Keeping.{Adds, Counted, counter_below, declared_adds, declared_counted, link_adds, not_counter, other_stays, replaced_adds, replaced_counted, same_adds, then_adds}
use Rattle.c_local_names.proofs.lemmas.Knowing.{IsPlaced, IsPlacedBy, Knows, begun_placed, begins_more, count_knows, get_next}
use Rattle.c_local_names.proofs.lemmas.Scopes.{Has, IsSome, Named, has_append, named_has}

-- the name stands in the innermost scope, and for no local
abbrev pub IsOtherAt : State → List ℕ → Type 0
IsOtherAt u name = (id : ℕ) × (place_here u name ≡ Some id) × (is_object_class (known_at u id).class ≡ false)

other_at : (u : State) (name : List ℕ) → IsOtherAt u name → (id : ℕ) → place_here u name ≡ Some id → is_object_class (known_at u id).class ≡ false
other_at u name h id e = subst (λ i. is_object_class (known_at u i).class ≡ false) (some_id h.0 id (sym h.1 ∙ e)) h.2

-- ---- names of locals

-- a name is a local's where it has no linkage and is neither a typedef nor static
abbrev pub is_local : Option StorageClass → Linkage → Bool
is_local c l = not (is_linked l) && (not (is_typedef c) && not (is_static c))

-- ---- symbols that are no local's

other_linked : (l : Linkage) → is_object_class (linked_class l) ≡ false
other_linked Alone = refl
other_linked Internal = refl
other_linked External = refl

-- another meaning of the same class
same_class : (s : State) (id : ℕ) (k : Known) → (is_object_class (known_at s id).class ≡ false → is_object_class k.class ≡ false) → (j : ℕ) → is_object_class (known_at s j).class ≡ false → is_object_class (known_at (replaced s id k) j).class ≡ false
same_class s id k e j = set_related (λ (old new : Known). is_object_class old.class ≡ false → is_object_class new.class ≡ false) s.symbols id k nothing_known (λ x y. y) e j

linked_by_inner : (s : State) (line : ℕ) (l : Linkage) (name : List ℕ) (of : CType) (p : Option ℕ) → place_here (linked_by s line l name of p) name ≡ place_here s name
linked_by_inner s line l name of (Some id) = refl
linked_by_inner s line l name of None = refl

declared_other : (s : State) (name : List ℕ) (k : Known) → place_here s name ≡ None → is_object_class k.class ≡ false → IsOtherAt (declared s name k) name
declared_other s name k e c = (length s.symbols, named_last s.inner name (length s.symbols) e, ap (λ (k : Known). is_object_class k.class) (seam s.symbols k nothing_known) ∙ c)

-- where a name may be declared again it is linked
class_other : (c : Storage) → is_linked (class_linkage c) ≡ true → is_object_class c ≡ false
class_other storage.Auto e = never (sym e)
class_other storage.Register e = never (sym e)
class_other c e = refl

again_other : (s : State) (l : Linkage) (id : ℕ) → is_again s l (Some id) ≡ false → is_object_class (known_at s id).class ≡ false
again_other s l id e = by (is_some (known_at s id).value) (right l (not_false (is_linked l && is_linked (linkage_in (known_at s id))) e))
  where
    right : (l : Linkage) → (is_linked l && is_linked (linkage_in (known_at s id))) ≡ true → is_linked (linkage_in (known_at s id)) ≡ true
    right Alone q = never (sym q)
    right Internal q = q
    right External q = q

    by : (b : Bool) → is_linked (if b then class_linkage (known_at s id).class else Alone) ≡ true → is_object_class (known_at s id).class ≡ false
    by true q = class_other (known_at s id).class q
    by false q = never (sym q)

pub none_again : (s : State) (p : Option ℕ) → is_again s Alone p ≡ false → p ≡ None
none_again s None e = refl
none_again s (Some id) e = never e

module _ (o : Option ℕ) where
  here_not : (s : State) (name : List ℕ) (id : ℕ) → Counted o s → IsSome name → place_here s name ≡ Some id → o ≡ Some id → ⊥
  here_not s name id h n e = not_counter o name id (h.beside name id (inr (named_has s.inner name id e))) n

  link_not : (s : State) (name : List ℕ) (id : ℕ) → Counted o s → symbol_named s.links name ≡ Some id → o ≡ Some id → ⊥
  link_not s name id h e = h.links_beside name id (named_has s.links name id e)

  link_other : (s : State) (name : List ℕ) (id : ℕ) → Counted o s → symbol_named s.links name ≡ Some id → is_object_class (known_at s id).class ≡ false
  link_other s name id h e = h.linked name id (named_has s.links name id e)

  composed_adds : (s : State) (id : ℕ) (of : CType) → Counted o s → is_object_class (known_at s id).class ≡ false → (o ≡ Some id → ⊥) → Adds o s (composed s id of)
  composed_adds s id of h e n = replaced_adds o s id (with_type (known_at s id) (composite (known_at s id).of of)) h (inr e) n

  -- ---- names with linkage

  linked_by_adds : (s : State) (line : ℕ) (l : Linkage) (name : List ℕ) (of : CType) (p : Option ℕ) → symbol_named s.links name ≡ p → Counted o s → Adds o s (linked_by s line l name of p)
  linked_by_adds s line l name of (Some id) e h = composed_adds s id of h (link_other s name id h e) (link_not s name id h e)
  linked_by_adds s line l name of None e h = link_adds o s name None (record { class = linked_class l; of = of; line = line; level = 0; value = None }) h (other_linked l)

  with_linked_adds : (s : State) (line : ℕ) (l : Linkage) (name : List ℕ) (of : CType) → Counted o s → IsSome name → is_again s l (place_here s name) ≡ false → Adds o s (with_linked s line l name of) × IsOtherAt (with_linked s line l name of) name
  with_linked_adds s line l name of h n a = by (place_here s name) refl a
    where
      t : State
      t = linked_by s line l name of (symbol_named s.links name)

      f : Adds o s t
      f = linked_by_adds s line l name of (symbol_named s.links name) refl h

      by : (p : Option ℕ) → place_here s name ≡ p → is_again s l p ≡ false → Adds o s (declared_by t (link_or_next s name) line l name of p) × IsOtherAt (declared_by t (link_or_next s name) line l name of p) name
      by None g a =
          let k : Known = plain t line (linked_class l) of (Some (pos (link_or_next s name))) in (
            then_adds o s t (declared t name k) f (declared_adds o t name k f.keeps.counted n (other_linked l)),
            declared_other t name k (linked_by_inner s line l name of (symbol_named s.links name) ∙ g) (other_linked l),
          )
      by (Some id) g a =
          let c = other_stays (known_at s id) (known_at t id) (f.keeps.known id (h.below name id (inr (named_has s.inner name id g)))) (again_other s l id a) in
          let e : place_here t name ≡ Some id = f.here name id g in (
            then_adds o s t (composed t id of) f (composed_adds t id of f.keeps.counted c (here_not t name id f.keeps.counted n e)),
            (id, e, same_class t id (with_type (known_at t id) (composite (known_at t id).of of)) (λ z. z) id c),
          )

  -- ---- names that are no locals

  alone_adds : (s : State) (line : ℕ) (c : Option StorageClass) (name : List ℕ) (of : CType) → is_local c Alone ≡ false → place_here s name ≡ None → Counted o s → IsSome name → Adds o s (with_alone s line c name of) × IsOtherAt (with_alone s line c name of) name
  alone_adds s line (Some class.Typedef) name of l e h n =
      let k : Known = plain s line storage.Typedef of None in (declared_adds o s name k h n refl, declared_other s name k e refl)
  alone_adds s line (Some class.Static) name of l e h n =
      let k : Known = plain s line storage.Static of None in (declared_adds o s name k h n refl, declared_other s name k e refl)
  alone_adds s line (Some class.Extern) name of l e h n = never l
  alone_adds s line (Some class.Auto) name of l e h n = never l
  alone_adds s line (Some class.Register) name of l e h n = never l
  alone_adds s line None name of l e h n = never l

  pub name_adds : (s : State) (line : ℕ) (c : Option StorageClass) (l : Linkage) (name : List ℕ) (of : CType) → is_local c l ≡ false → is_again s l (place_here s name) ≡ false → Counted o s → IsSome name
      → Adds o s (with_name_of s line c l name of) × IsOtherAt (with_name_of s line c l name of) name
  name_adds s line c Alone name of e a h n = alone_adds s line c name of e (none_again s (place_here s name) a) h n
  name_adds s line c Internal name of e a h n = with_linked_adds s line Internal name of h n a
  name_adds s line c External name of e a h n = with_linked_adds s line External name of h n a

  -- ---- behind an initialiser

  recomposed_adds : (s : State) (of : CType) (p : Option ℕ) → Counted o s → ((id : ℕ) → p ≡ Some id → (is_object_class (known_at s id).class ≡ false) × (o ≡ Some id → ⊥)) → Adds o s (recomposed s of p)
  recomposed_adds s of None h k = same_adds o s h
  recomposed_adds s of (Some id) h k = let e = k id refl in composed_adds s id of h e.0 e.1

  pub noted_adds : (s : State) (initialised : Bool) (p : Option ℕ) → Counted o s → ((id : ℕ) → p ≡ Some id → (is_object_class (known_at s id).class ≡ false) × (o ≡ Some id → ⊥)) → Adds o s (noted s initialised p)
  noted_adds s initialised None h k = same_adds o s h
  noted_adds s initialised (Some id) h k =
      let e = k id refl in replaced_adds o s id (with_value (known_at s id) (definition initialised (known_at s id).value)) h (inr e.0) e.1

  pub links_are : (s : State) (name : List ℕ) → Counted o s → (id : ℕ) → symbol_named s.links name ≡ Some id → (is_object_class (known_at s id).class ≡ false) × (o ≡ Some id → ⊥)
  links_are s name h id e = (link_other s name id h e, link_not s name id h e)

  later : (s u : State) (name : List ℕ) (id : ℕ) → Adds o s u → id < length s.symbols → (is_object_class (known_at s id).class ≡ false) × (o ≡ Some id → ⊥) → (is_object_class (known_at u id).class ≡ false) × (o ≡ Some id → ⊥)
  later s u name id f l h = (other_stays (known_at s id) (known_at u id) (f.keeps.known id l) h.0, h.1)

  linked_whole_adds : (s : State) (name : List ℕ) (of : CType) (initialised : Bool) → Counted o s → IsSome name → IsOtherAt s name
      → Adds o s (noted (recomposed (recomposed s of (symbol_named s.links name)) of (place_here s name)) initialised (symbol_named s.links name))
  linked_whole_adds s name of initialised h n k =
      let t : State = recomposed s of (symbol_named s.links name) in
      let u : State = recomposed t of (place_here s name) in
      let a = recomposed_adds s of (symbol_named s.links name) h (links_are s name h) in
      let b = recomposed_adds t of (place_here s name) a.keeps.counted (λ id e. later s t name id a (h.below name id (inr (named_has s.inner name id e))) (other_at s name k id e, here_not s name id h n e)) in
      let ab = then_adds o s t u a b in
      then_adds o s u _ ab (noted_adds u initialised (symbol_named s.links name) b.keeps.counted (λ id e. later s u name id ab (h.links_below name id (named_has s.links name id e)) (links_are s name h id e)))

  retyped_adds : (s : State) (of : CType) (p : Option ℕ) → Counted o s → ((id : ℕ) → p ≡ Some id → (is_object_class (known_at s id).class ≡ false) × (o ≡ Some id → ⊥)) → Adds o s (retyped s of p)
  retyped_adds s of None h k = same_adds o s h
  retyped_adds s of (Some id) h k = let e = k id refl in replaced_adds o s id (with_type (known_at s id) of) h (inr e.0) e.1

  pub whole_adds : (s : State) (n : Naming) (initialised : Bool) → Counted o s → IsSome n.name → IsOtherAt s n.name → Adds o s (with_whole s n initialised)
  whole_adds s n initialised h m k =
      chosen_by (Adds o s) (is_linked n.linkage) (with_linked_whole s n initialised) (retyped s n.of (place_here s n.name))
      (λ l. chosen_by (Adds o s) (is_definition_of n initialised) (noted (recomposed (recomposed s n.of (symbol_named s.links n.name)) n.of (place_here s n.name)) initialised (symbol_named s.links n.name)) s (λ d. linked_whole_adds s n.name n.of initialised h m k) (λ d. same_adds o s h))
      (λ l. retyped_adds s n.of (place_here s n.name) h (λ id e. (other_at s n.name k id e, here_not s n.name id h m e)))

-- ---- a local's name

-- symbols that are no locals' stay so
abbrev pub SameOthers : State → State → Type 0
SameOthers s u = (id : ℕ) → id < length s.symbols → is_object_class (known_at s id).class ≡ false → is_object_class (known_at u id).class ≡ false

pub local_count_is : (c : ℕ) (locals : List CType) (s : State) → Knows (Some c) locals s → local_count s ≡ length locals
local_count_is c locals s h = ap (count_at s) h.counted.found ∙ ap (λ v. nat_of v 0) (h.count c refl)

pub named_by : (locals : List CType) (c : Storage) (v : Option ℤ) (of : CType) (a : CType) → slice_get locals (nat_of v 0) ≡ Some a → compatible of a ≡ true → IsPlacedBy locals c v of
named_by locals storage.Auto v of a e g = (a, e, g)
named_by locals storage.Register v of a e g = (a, e, g)
named_by locals c v of a e g = tt

-- a name of the next local, whose type an initialiser may complete
pub record IsNext (c : ℕ) (all : List CType) (s u : State) (name : List ℕ) (k : Known) : Type 0 where
  pub knows : Knows (Some c) all u
  pub outer : u.outer ≡ s.outer
  pub symbols : length s.symbols ≤ length u.symbols
  pub others : SameOthers s u
  pub here : place_here u name ≡ Some (length s.symbols)
  pub known : known_at u (length s.symbols) ≡ k

module _ (c : ℕ) (locals : List CType) (final : CType) (s : State) (name : List ℕ) (k : Known) (h : Knows (Some c) locals s) (n : IsSome name) where
  counter_apart : length s.symbols ≡ c → ⊥
  counter_apart e = let l = counter_below (Some c) s c h.counted refl in let no : ⊥ = omega (arith, l, e) in no

  -- the name declared, and counted
  next_known : (count : ℕ) → known_at (replaced (declared s name k) c (count_known (known_at (declared s name k) c).level count)) (length s.symbols) ≡ k
  next_known count = get_or-set_other (s.symbols ++ k ∷ []) c (length s.symbols) (count_known (known_at (declared s name k) c).level count) nothing_known counter_apart ∙ seam s.symbols k nothing_known

  next_symbols : (count : ℕ) → length s.symbols ≤ length (replaced (declared s name k) c (count_known (known_at (declared s name k) c).level count)).symbols
  next_symbols count =
      let a = longer s.symbols k in let b = length-set (s.symbols ++ k ∷ []) c (count_known (known_at (declared s name k) c).level count) in omega (arith, a, b)

  next_others : (count : ℕ) → SameOthers s (replaced (declared s name k) c (count_known (known_at (declared s name k) c).level count))
  next_others count id l e =
      same_class (declared s name k) c (count_known (known_at (declared s name k) c).level count) (λ z. refl) id (ap (λ (k : Known). is_object_class k.class) (pushed s.symbols k id l) ∙ e)

  next_placed : IsPlaced (locals ++ final ∷ []) k → (x : List ℕ) (id : ℕ) → Named (declared s name k) x id → IsPlaced (locals ++ final ∷ []) (known_at (declared s name k) id)
  next_placed p x id g = by g
    where
      old : Named s x id → IsPlaced (locals ++ final ∷ []) (known_at (declared s name k) id)
      old q =
          subst (IsPlaced (locals ++ final ∷ [])) (sym (pushed s.symbols k id (h.counted.below x id q)))
          (begun_placed (locals ++ final ∷ []) locals (known_at s id) (begins_more locals (final ∷ [])) (h.placed x id q))

      last : Has s.inner x id ⊎ ((name ≡ x) × (length s.symbols ≡ id)) → IsPlaced (locals ++ final ∷ []) (known_at (declared s name k) id)
      last (inl q) = old (inr q)
      last (inr q) = subst (λ i. IsPlaced (locals ++ final ∷ []) (known_at (declared s name k) i)) q.1 (subst (IsPlaced (locals ++ final ∷ [])) (sym (seam s.symbols k nothing_known)) p)

      by : Named (declared s name k) x id → IsPlaced (locals ++ final ∷ []) (known_at (declared s name k) id)
      by (inl q) = old (inl q)
      by (inr q) = last (has_append s.inner (name, length s.symbols) x id q)

pub local_next : (c : ℕ) (locals : List CType) (final : CType) (s : State) (line : ℕ) (name : List ℕ) (cl : Storage) (of : CType) → Knows (Some c) locals s → IsSome name → place_here s name ≡ None → compatible of final ≡ true
    → IsNext c (locals ++ final ∷ []) s (with_local s line name cl of) name (plain s line cl of (Some (pos (local_count s))))
local_next c locals final s line name cl of h n e g =
    record {
      knows = subst (λ m. Knows (Some c) (locals ++ final ∷ []) (with_count v m)) size (count_knows c (locals ++ final ∷ []) v d (next_placed c locals final s name k h n placed));
      outer = ap (λ (t : State). t.outer) is;
      symbols = subst (λ (t : State). length s.symbols ≤ length t.symbols) (sym is) (next_symbols c locals final s name k h n (local_count s + 1));
      others = subst (SameOthers s) (sym is) (next_others c locals final s name k h n (local_count s + 1));
      here = ap (λ (t : State). place_here t name) is ∙ named_last s.inner name (length s.symbols) e;
      known = ap (λ (t : State). known_at t (length s.symbols)) is ∙ next_known c locals final s name k h n (local_count s + 1);
    }
  where
    k : Known
    k = plain s line cl of (Some (pos (local_count s)))

    v : State
    v = declared s name k

    d : Counted (Some c) v
    d = declared_counted (Some c) s name k h.counted n

    is : with_local s line name cl of ≡ replaced v c (count_known (known_at v c).level (local_count s + 1))
    is = ap (counted_at v (local_count s + 1)) d.found

    size : length (locals ++ final ∷ []) ≡ local_count s + 1
    size = length-append locals (final ∷ []) ∙ ap (λ m. m + 1) (sym (local_count_is c locals s h))

    placed : IsPlaced (locals ++ final ∷ []) k
    placed = named_by (locals ++ final ∷ []) cl (Some (pos (local_count s))) of final (ap (slice_get (locals ++ final ∷ [])) (local_count_is c locals s h) ∙ get_next locals final []) g

-- a declaration of a local's name is such
pub local_class : (c : Option StorageClass) → is_local c Alone ≡ true → (cl : Storage) × ((s : State) (line : ℕ) (name : List ℕ) (of : CType) → with_alone s line c name of ≡ with_local s line name cl of)
local_class (Some class.Typedef) e = never (sym e)
local_class (Some class.Static) e = never (sym e)
local_class (Some class.Register) e = (storage.Register, λ s line name of. refl)
local_class (Some class.Extern) e = (storage.Auto, λ s line name of. refl)
local_class (Some class.Auto) e = (storage.Auto, λ s line name of. refl)
local_class None e = (storage.Auto, λ s line name of. refl)

-- its type, completed
pub local_retyped : (c : ℕ) (all : List CType) (of : CType) (s : State) (name : List ℕ) (id : ℕ) → Knows (Some c) all s → IsSome name → place_here s name ≡ Some id → IsPlaced all (with_type (known_at s id) of)
    → Knows (Some c) all (retyped s of (place_here s name)) × ((retyped s of (place_here s name)).outer ≡ s.outer) × SameOthers s (retyped s of (place_here s name)) × (length s.symbols ≤ length (retyped s of (place_here s name)).symbols)
local_retyped c all of s name id h n e p =
    subst (λ o. Knows (Some c) all (retyped s of o) × ((retyped s of o).outer ≡ s.outer) × SameOthers s (retyped s of o) × (length s.symbols ≤ length (retyped s of o).symbols)) (sym e)
    (again, refl, (λ i l. same_class s id k (λ z. z) i), (let l = length-set s.symbols id k in omega (arith, l)))
  where
    k : Known
    k = with_type (known_at s id) of

    again : Knows (Some c) all (replaced s id k)
    again =
        record {
          counted = replaced_counted (Some c) s id k h.counted (λ z. z);
          placed = λ x i g. set_related (λ (old new : Known). IsPlaced all old → IsPlaced all new) s.symbols id k nothing_known (λ y z. z) (λ z. p) i (h.placed x i g);
          count = λ d g. ap (λ (k : Known). k.value) (get_or-set_other s.symbols id d k nothing_known (λ f. here_not (Some c) s name id h.counted n e (g ∙ ap Some f))) ∙ h.count d g;
        }
