-- What is known behind a declared name: its symbol, and where it has linkage that of all its declarations, which absorbs its type.
use Rattle.std.proofs.Common.{◌≡◌, ◌⊎◌, ℕ, ◌+◌, ◌<◌, ◌≤◌, Bool, true, false, not, ◌&&◌, ◌||◌, List, [], ◌∷◌, ◌++◌, length, get_or, refl, sym, ap, subst, ◌∙◌, inl, inr, arith, lt_of_lt_of_le}
use Rattle.std.specs.Prelude.{◌==◌, ℤ, pos, unsigned_abs, Option, Some, None, is_some, if◌then◌else◌}
use Rattle.std.proofs.lemmas.Bool.{eqb-true, cases_lt}
use Rattle.std.proofs.lemmas.List.{get_or_append_left}
use Rattle.c_ast.specs.declared.specifier.Storage.{Storage as StorageClass}
use Rattle.c_ast.specs.declared.specifier.Storage.TheVariants as class
use Rattle.c_symbols.specs.declared.symbol.Storage.{Storage}
use Rattle.c_symbols.specs.declared.symbol.Storage.TheVariants as storage
use Rattle.c_symbols.specs.Scoping.{symbol_named}
use Rattle.c_types.specs.CType.{CType}
use Rattle.c_types.specs.Compatible.{compatible}
use Rattle.c_types.specs.Composite.{composite}
use Rattle.c_meaning.specs.Declarations.{differs_from, is_again, is_defined, is_definition}
use Rattle.c_meaning.specs.Linkage.{Linkage, Alone, Internal, External, class_linkage, composed, count_known, count_name, counted_at, declared_by, is_linked, linkage_in, linked_by, linked_class, local_count, plain, with_alone, with_count, with_linked, with_name_of, with_type}
use Rattle.c_meaning.specs.State.{Known, State, declared, known_at, level_of, link_or, nothing_known, place_here, place_of, replaced, with_link}
use Rattle.c_meaning.specs.Types.{is_function}
use Rattle.c_tree_names.specs.Names.{IsName}
use Rattle.c_units.specs.Ends.{is_link}
use Rattle.c_fits.proofs.lemmas.Booleans.{never, not_false, or_left, or_right}
use Rattle.c_fits.proofs.lemmas.Lists.{named_last, seam, set_related, some_id}
use Rattle.c_linked_names.proofs.lemmas.Absorbing.{Absorbs, TypeLaws, absorbs_itself, absorbs_then, composite_absorbed, either_way, first_absorbed, second_absorbed}
use Rattle.c_linked_names.proofs.lemmas.Going.{IfKnown, defined_at, past_symbols, steady_defined}
use Rattle.c_linked_names.proofs.lemmas.Keeping.{IsEntry, IsRegular, Keeps, Steady, entry_of, is_tag, keeps_then, link_below, link_class, link_of, link_by, steady_then}
use Rattle.c_linked_names.proofs.lemmas.Lists.{each_named, named_link, one_if}
use Rattle.c_linked_names.proofs.lemmas.Stepping.{declared_steady, known_other, known_replaced, link_new, link_regular, replaced_regular, tag_replaced}

-- the symbol that a linked declaration names
link_in : (k : Known) → is_linked (linkage_in k) ≡ true → (l : ℕ) × (link_of k ≡ Some l)
link_in k e = by k.class k.value e
  where
    by : (c : Storage) (v : Option ℤ) → is_linked (if is_some v then class_linkage c else Alone) ≡ true → (l : ℕ) × (link_by c v ≡ Some l)
    by storage.Extern (Some z) e = (unsigned_abs z, refl)
    by storage.Static (Some z) e = (unsigned_abs z, refl)
    by storage.Typedef (Some z) e = never (sym e)
    by storage.Auto (Some z) e = never (sym e)
    by storage.Register (Some z) e = never (sym e)
    by storage.Enumerator (Some z) e = never (sym e)
    by storage.Tag (Some z) e = never (sym e)
    by c None e = never (sym e)

again_linked : (s : State) (l : Linkage) (id : ℕ) → is_again s l (Some id) ≡ false → is_linked (linkage_in (known_at s id)) ≡ true
again_linked s l id e = right l (not_false _ e)
  where
    right : (l : Linkage) → (is_linked l && is_linked (linkage_in (known_at s id))) ≡ true → is_linked (linkage_in (known_at s id)) ≡ true
    right Alone q = never (sym q)
    right Internal q = q
    right External q = q

none_again : (s : State) (o : Option ℕ) → is_again s Alone o ≡ false → o ≡ None
none_again s None e = refl
none_again s (Some id) e = never e

linked_untagged : (l : Linkage) → is_tag (linked_class l) ≡ false
linked_untagged Internal = refl
linked_untagged External = refl
linked_untagged Alone = refl

linked_names : (l : Linkage) (n : ℕ) → link_by (linked_class l) (Some (pos n)) ≡ Some n
linked_names Internal n = refl
linked_names External n = refl
linked_names Alone n = refl

-- ---- what a declared name is

pub record NameGoes (s t : State) (name : List ℕ) (l : Linkage) (of : CType) : Type 0 where
  pub regular : IsRegular t
  pub keeps : Keeps s t
  pub outer : t.outer ≡ s.outer
  pub id : ℕ
  pub here : place_here t name ≡ Some id
  pub once : (id : ℕ) → IfKnown t id → defined_at s id ≤ defined_at t id
  pub new : (id : ℕ) → is_link t.links id ≡ true → (is_link s.links id ≡ true) ⊎ ((is_function (known_at t id).of ≡ true) ⊎ ((is_linked l ≡ true) × (symbol_named t.links name ≡ Some id)))
  pub alone : is_linked l ≡ false → link_of (known_at t id) ≡ None
  pub linked : is_linked l ≡ true → (n : ℕ) × (symbol_named t.links name ≡ Some n) × (link_of (known_at t id) ≡ Some n) × Absorbs (known_at t n).of of × (is_defined s (symbol_named s.links name) ≡ false → defined_at t n ≡ 0)

-- ---- names that have no linkage

pub with_count_steady : (s : State) (n : ℕ) → IsRegular s → Steady s (with_count s n)
with_count_steady s n h = by (place_of s count_name) refl
  where
    by : (o : Option ℕ) → place_of s count_name ≡ o → Steady s (counted_at s n o)
    by None e = declared_steady s count_name (count_known (level_of s) n) h refl (λ l g. absurd (let none : ⊥ = cc in none))
    by (Some id) e = let x = entry_of s count_name id h e in tag_replaced s id (count_known (known_at s id).level n) h x.below x.tag refl

-- the name is declared, and nothing with linkage
abbrev IsAlone : State → State → List ℕ → Type 0
IsAlone s t name = Steady s t × ((id : ℕ) × (place_here t name ≡ Some id) × (link_of (known_at t id) ≡ None))

alone_is : (s : State) (name : List ℕ) (k : Known) → IsRegular s → IsName name → is_tag k.class ≡ false → link_of k ≡ None → place_here s name ≡ None → IsAlone s (declared s name k) name
alone_is s name k h n c l e = (
  declared_steady s name k h (c ∙ sym (ap not n)) (λ m g. absurd (let none : ⊥ = cc in none)),
  (length s.symbols, named_last s.inner name (length s.symbols) e, ap link_of (seam s.symbols k nothing_known) ∙ l),
)

alone_counted : (s t : State) (name : List ℕ) (n : ℕ) → IsName name → IsAlone s t name → IsAlone s (with_count t n) name
alone_counted s t name n is a =
    let c = with_count_steady t n a.0.regular in
    let x = each_named (IsEntry t) t.inner name a.1.0 a.0.regular.inner a.1.1 in
    (steady_then s t (with_count t n) a.0 c, (a.1.0, c.here name a.1.0 a.1.1, ap link_of (c.same a.1.0 x.below (x.tag ∙ ap not is)) ∙ a.1.2))

with_alone_is : (s : State) (line : ℕ) (c : Option StorageClass) (name : List ℕ) (of : CType) → IsRegular s → IsName name → place_here s name ≡ None → IsAlone s (with_alone s line c name of) name
with_alone_is s line (Some class.Typedef) name of h n e = alone_is s name (plain s line storage.Typedef of None) h n refl refl e
with_alone_is s line (Some class.Static) name of h n e = alone_is s name (plain s line storage.Static of None) h n refl refl e
with_alone_is s line (Some class.Register) name of h n e = alone_counted s (declared s name (plain s line storage.Register of (Some (pos (local_count s))))) name (local_count s + 1) n (alone_is s name (plain s line storage.Register of (Some (pos (local_count s)))) h n refl refl e)
with_alone_is s line (Some class.Auto) name of h n e = alone_counted s (declared s name (plain s line storage.Auto of (Some (pos (local_count s))))) name (local_count s + 1) n (alone_is s name (plain s line storage.Auto of (Some (pos (local_count s)))) h n refl refl e)
with_alone_is s line (Some class.Extern) name of h n e = alone_counted s (declared s name (plain s line storage.Auto of (Some (pos (local_count s))))) name (local_count s + 1) n (alone_is s name (plain s line storage.Auto of (Some (pos (local_count s)))) h n refl refl e)
with_alone_is s line None name of h n e = alone_counted s (declared s name (plain s line storage.Auto of (Some (pos (local_count s))))) name (local_count s + 1) n (alone_is s name (plain s line storage.Auto of (Some (pos (local_count s)))) h n refl refl e)

alone_goes : (s : State) (line : ℕ) (c : Option StorageClass) (name : List ℕ) (of : CType) → IsRegular s → IsName name → place_here s name ≡ None → NameGoes s (with_alone s line c name of) name Alone of
alone_goes s line c name of h n e =
    let a = with_alone_is s line c name of h n e in
    record {
      regular = a.0.regular;
      keeps = a.0.keeps;
      outer = a.0.outer;
      id = a.1.0;
      here = a.1.1;
      once = λ id k. steady_defined s (with_alone s line c name of) h a.0 id k;
      new = λ id g. new (with_alone s line c name of) id (a.0.new id g);
      alone = λ g. a.1.2;
      linked = λ g. never (sym g);
    }
  where
    new : (t : State) (id : ℕ) → (is_link s.links id ≡ true) ⊎ (is_function (known_at t id).of ≡ true) → (is_link s.links id ≡ true) ⊎ ((is_function (known_at t id).of ≡ true) ⊎ ((is_linked Alone ≡ true) × (symbol_named t.links name ≡ Some id)))
    new t id (inl q) = inl q
    new t id (inr q) = inr (inl q)

-- ---- names with linkage

-- types change, and nothing else
pub record Retypes (s t : State) : Type 0 where
  pub regular : IsRegular t
  pub keeps : Keeps s t
  pub outer : t.outer ≡ s.outer
  pub inner : t.inner ≡ s.inner
  pub links : t.links ≡ s.links
  pub values : (id : ℕ) → (known_at t id).value ≡ (known_at s id).value

typed_value : (s : State) (id : ℕ) (of : CType) (j : ℕ) → (known_at (replaced s id (with_type (known_at s id) of)) j).value ≡ (known_at s j).value
typed_value s id of j = set_related (λ (x y : Known). y.value ≡ x.value) s.symbols id (with_type (known_at s id) of) nothing_known (λ x. refl) refl j

pub retype : (s : State) (id : ℕ) (of : CType) → IsRegular s → id < length s.symbols → Absorbs of (known_at s id).of → ((l : ℕ) → is_link s.links id ≡ false → link_of (known_at s id) ≡ Some l → Absorbs (known_at s l).of of)
    → Retypes s (replaced s id (with_type (known_at s id) of))
retype s id of h b a f =
    let r = replaced_regular s id (with_type (known_at s id) of) h (record { below = b; class = refl; type = λ c. a; value = λ e. refl; bound = f }) in
    record { regular = r.0; keeps = r.1; outer = refl; inner = refl; links = refl; values = typed_value s id of }

pub retypes_then : (s t u : State) → Retypes s t → Retypes t u → Retypes s u
retypes_then s t u f g =
    record { regular = g.regular; keeps = keeps_then s t u f.keeps g.keeps; outer = g.outer ∙ f.outer; inner = g.inner ∙ f.inner; links = g.links ∙ f.links; values = λ id. g.values id ∙ f.values id }

pub retypes_defined : (s t : State) → Retypes s t → (id : ℕ) → defined_at t id ≡ defined_at s id
retypes_defined s t f id = ap (λ v. one_if (is_definition v)) (f.values id)

module _ (types : TypeLaws) where
  -- the type of all declarations
  link_composed : (s : State) (l : ℕ) (of : CType) → IsRegular s → is_link s.links l ≡ true → compatible of (known_at s l).of ≡ true → Retypes s (composed s l of) × Absorbs (known_at (composed s l of) l).of of
  link_composed s l of h e c =
      let b = link_below s l h e in
      let d = either_way types of (known_at s l).of c in (
        retype s l (composite (known_at s l).of of) h b (first_absorbed types (known_at s l).of of d) (λ m f g. never (sym e ∙ f)),
        subst (λ (k : Known). Absorbs k.of of) (sym (known_replaced s l (with_type (known_at s l) (composite (known_at s l).of of)) b)) (second_absorbed types (known_at s l).of of d),
      )

  -- that of one
  entry_composed : (s : State) (id l : ℕ) (of : CType) → IsRegular s → id < length s.symbols → is_link s.links id ≡ false → link_of (known_at s id) ≡ Some l → compatible of (known_at s id).of ≡ true → Absorbs (known_at s l).of of → Retypes s (composed s id of)
  entry_composed s id l of h b a g c f =
      let d = either_way types of (known_at s id).of c in
      retype s id (composite (known_at s id).of of) h b (first_absorbed types (known_at s id).of of d)
      (λ m e k. let p : l ≡ m = some_id l m (sym g ∙ k) in composite_absorbed types (known_at s m).of (known_at s id).of of d (h.bound id m b a k).1 (subst (λ m. Absorbs (known_at s m).of of) p f))

  -- both, where a name with linkage stands again in its scope
  pub both_composed : (s : State) (name : List ℕ) (id l : ℕ) (of : CType) → IsRegular s → IsEntry s (name, id) → link_of (known_at s id) ≡ Some l → compatible of (known_at s l).of ≡ true → compatible of (known_at s id).of ≡ true
      → Retypes s (composed (composed s l of) id of) × Absorbs (known_at (composed (composed s l of) id of) l).of of
  both_composed s name id l of h x g c d =
      let e = named_link s.links name l (x.linked l g) in
      let a = link_composed s l of h e c in
      let t : State = composed s l of in
      let other : (id == l) ≡ false = apart l e (id == l) refl in
      let same : known_at t id ≡ known_at s id = known_other s l (with_type (known_at s l) (composite (known_at s l).of of)) id other in
      let b : id < length t.symbols = lt_of_lt_of_le x.below a.0.keeps.symbols in
      let r = entry_composed t id l of a.0.regular b x.apart (ap link_of same ∙ g) (ap (λ (k : Known). compatible of k.of) same ∙ d) a.1 in (
        retypes_then s t (composed t id of) a.0 r,
        absorbs_then (known_at (composed t id of) l).of (known_at t l).of of (r.keeps.types l (link_below t l a.0.regular e) (link_class t l a.0.regular e)) a.1,
      )
    where
      apart : (l : ℕ) → is_link s.links l ≡ true → (q : Bool) → (id == l) ≡ q → (id == l) ≡ false
      apart l e true p = never (sym e ∙ (ap (is_link s.links) (sym (eqb-true id l p)) ∙ x.apart))
      apart l e false p = p

  -- a declaration that its scope doesn't have yet
  named_goes : (s t : State) (line : ℕ) (name : List ℕ) (l : Linkage) (of : CType) (n : ℕ) → IsRegular t → IsName name → place_here t name ≡ None → symbol_named t.links name ≡ Some n → Absorbs (known_at t n).of of
      → Steady t (declared t name (plain t line (linked_class l) of (Some (pos n)))) × ((place_here (declared t name (plain t line (linked_class l) of (Some (pos n)))) name ≡ Some (length t.symbols)) × (link_of (known_at (declared t name (plain t line (linked_class l) of (Some (pos n)))) (length t.symbols)) ≡ Some n))
  named_goes s t line name l of n h is e g a =
      let k : Known = plain t line (linked_class l) of (Some (pos n)) in (
        declared_steady t name k h (linked_untagged l ∙ sym (ap not is)) (λ m q. let p : n ≡ m = some_id n m (sym (linked_names l n) ∙ q) in (g ∙ ap Some p, subst (λ m. Absorbs (known_at t m).of of) p a)),
        (named_last t.inner name (length t.symbols) e, ap link_of (seam t.symbols k nothing_known) ∙ linked_names l n),
      )

  linked_goes : (s : State) (line : ℕ) (l : Linkage) (name : List ℕ) (of : CType) → IsRegular s → IsName name → is_linked l ≡ true → is_again s l (place_here s name) ≡ false → differs_from s of (place_here s name) ≡ false → differs_from s of (symbol_named s.links name) ≡ false
      → NameGoes s (with_linked s line l name of) name l of
  linked_goes s line l name of h n w a d f = by (symbol_named s.links name) (place_here s name) refl refl a d f
    where
      -- what the symbol of all declarations is now
      linked : Option ℕ → State
      linked o = linked_by s line l name of o

      by : (o p : Option ℕ) → symbol_named s.links name ≡ o → place_here s name ≡ p → is_again s l p ≡ false → differs_from s of p ≡ false → differs_from s of o ≡ false → NameGoes s (declared_by (linked o) (link_or o (length s.symbols)) line l name of p) name l of
      by (Some m) None e g a d f =
          let i = named_link s.links name m e in
          let c = link_composed s m of h i (not_false _ f) in
          let t : State = composed s m of in
          let x = named_goes s t line name l of m c.0.regular n g e c.1 in
          let u : State = declared t name (plain t line (linked_class l) of (Some (pos m))) in
          record {
            regular = x.0.regular;
            keeps = keeps_then s t u c.0.keeps x.0.keeps;
            outer = refl;
            id = length t.symbols;
            here = x.1.0;
            once = λ id k. let q = steady_defined t u c.0.regular x.0 id k in let z = retypes_defined s t c.0 id in omega (arith, q, z);
            new = λ id q. inl q;
            alone = λ q. never (sym w ∙ q);
            linked = λ q. (m, e, x.1.1, absorbs_then (known_at u m).of (known_at t m).of of (x.0.keeps.types m (link_below t m c.0.regular i) (link_class t m c.0.regular i)) c.1, λ z. ap (λ (k : Known). one_if (is_definition k.value)) (x.0.same m (link_below t m c.0.regular i) (link_class t m c.0.regular i)) ∙ (retypes_defined s t c.0 m ∙ ap one_if (ap (is_defined s) (sym e) ∙ z)));
          }
      by None None e g a d f =
          let k : Known = record { class = linked_class l; of = of; line = line; level = 0; value = None } in
          let t : State = with_link s name None k in
          let r = link_regular s name k h n e (linked_untagged l) in
          let m : ℕ = length s.symbols in
          let found : symbol_named t.links name ≡ Some m = named_last s.links name m e in
          let last : known_at t m ≡ k = seam s.symbols k nothing_known in
          let i = named_link t.links name m found in
          let absorbed : Absorbs (known_at t m).of of = subst (λ (k : Known). Absorbs k.of of) (sym last) (absorbs_itself of) in
          let x = named_goes s t line name l of m r.0 n g found absorbed in
          let u : State = declared t name (plain t line (linked_class l) of (Some (pos m))) in
          record {
            regular = x.0.regular;
            keeps = keeps_then s t u r.1 x.0.keeps;
            outer = refl;
            id = length t.symbols;
            here = x.1.0;
            once = λ id q. let z = steady_defined t u r.0 x.0 id q in let y = pushed_defined k id in omega (arith, y, z);
            new = λ id q. fresh u id found (link_new s name k id q);
            alone = λ q. never (sym w ∙ q);
            linked = λ q. (m, found, x.1.1, absorbs_then (known_at u m).of (known_at t m).of of (x.0.keeps.types m (link_below t m r.0 i) (link_class t m r.0 i)) absorbed, λ z. ap (λ (k : Known). one_if (is_definition k.value)) (x.0.same m (link_below t m r.0 i) (link_class t m r.0 i) ∙ last));
          }
        where
          pushed_defined : (k : Known) (id : ℕ) → defined_at s id ≤ one_if (is_definition (get_or (s.symbols ++ k ∷ []) id nothing_known).value)
          pushed_defined k id = at (cases_lt id (length s.symbols))
            where
              at : (id < length s.symbols) ⊎ (length s.symbols ≤ id) → defined_at s id ≤ one_if (is_definition (get_or (s.symbols ++ k ∷ []) id nothing_known).value)
              at (inl q) = let z = ap (λ (x : Known). one_if (is_definition x.value)) (get_or_append_left s.symbols (k ∷ []) nothing_known id q) in omega (arith, z)
              at (inr q) = let z : defined_at s id ≡ 0 = ap (λ (x : Known). one_if (is_definition x.value)) (past_symbols s.symbols id q) in omega (arith, z)

          fresh : (u : State) (id : ℕ) → symbol_named u.links name ≡ Some (length s.symbols) → (is_link s.links id ≡ true) ⊎ (id ≡ length s.symbols) → (is_link s.links id ≡ true) ⊎ ((is_function (known_at u id).of ≡ true) ⊎ ((is_linked l ≡ true) × (symbol_named u.links name ≡ Some id)))
          fresh u id q (inl p) = inl p
          fresh u id q (inr p) = inr (inr (w, q ∙ ap Some (sym p)))
      by o (Some id) e g a d f =
          let x = each_named (IsEntry s) s.inner name id h.inner g in
          let m = link_in (known_at s id) (again_linked s l id a) in
          again o id m.0 x (x.linked m.0 m.1) m.1 e g (not_false _ d) f
        where
          again : (o : Option ℕ) (id m : ℕ) → IsEntry s (name, id) → symbol_named s.links name ≡ Some m → link_of (known_at s id) ≡ Some m → symbol_named s.links name ≡ o → place_here s name ≡ Some id → compatible of (known_at s id).of ≡ true → differs_from s of o ≡ false
              → NameGoes s (declared_by (linked o) (link_or o (length s.symbols)) line l name of (Some id)) name l of
          again None id m x y q e g d f = absurd (let p : Some m ≡ None = sym y ∙ e in let none : ⊥ = cc in none)
          again (Some o) id m x y q e g d f =
              let p : m ≡ o = some_id m o (sym y ∙ e) in
              let link : link_of (known_at s id) ≡ Some o = q ∙ ap Some p in
              let c = both_composed s name id o of h x link (not_false _ f) d in
              let u : State = composed (composed s o of) id of in
              record {
                regular = c.0.regular;
                keeps = c.0.keeps;
                outer = refl;
                id = id;
                here = g;
                once = λ j k. let z = retypes_defined s u c.0 j in omega (arith, z);
                new = λ j k. inl k;
                alone = λ k. never (sym w ∙ k);
                linked = λ k. (o, e, c.0.keeps.values id x.below x.apart ∙ link, c.1, λ z. retypes_defined s u c.0 o ∙ ap one_if (ap (is_defined s) (sym e) ∙ z));
              }

  -- ---- any name

  pub name_goes : (s : State) (line : ℕ) (c : Option StorageClass) (l : Linkage) (name : List ℕ) (of : CType) → IsRegular s → IsName name → is_again s l (place_here s name) ≡ false → (is_linked l && (differs_from s of (place_here s name) || differs_from s of (symbol_named s.links name))) ≡ false
      → NameGoes s (with_name_of s line c l name of) name l of
  name_goes s line c Alone name of h n a d = alone_goes s line c name of h n (none_again s (place_here s name) a)
  name_goes s line c Internal name of h n a d = linked_goes s line Internal name of h n refl a (or_left (differs_from s of (place_here s name)) (differs_from s of (symbol_named s.links name)) d) (or_right (differs_from s of (place_here s name)) (differs_from s of (symbol_named s.links name)) d)
  name_goes s line c External name of h n a d = linked_goes s line External name of h n refl a (or_left (differs_from s of (place_here s name)) (differs_from s of (symbol_named s.links name)) d) (or_right (differs_from s of (place_here s name)) (differs_from s of (symbol_named s.links name)) d)
