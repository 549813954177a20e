-- Each step of typing keeps names and symbols, and adds functions alone to the names with linkage.
use Rattle.std.proofs.Common.{◌≡◌, ◌⊎◌, ℕ, ◌+◌, ◌<◌, ◌≤◌, Bool, true, false, not, ◌||◌, List, [], ◌∷◌, ◌++◌, length, get_or, refl, sym, ap, subst, ◌∙◌, inl, inr, arith, lt_of_lt_of_le}
use Rattle.std.specs.Prelude.{◌==◌, ℤ, pos, Option, Some, None, IfSome, if◌then◌else◌}
use Rattle.std.proofs.lemmas.Bool.{eqb-true}
use Rattle.std.proofs.lemmas.Bool.Decides.{nat_tests}
use Rattle.std.proofs.lemmas.List.{get_or_append_left, get_or-set_other, length-append, length-set}
use Rattle.std.proofs.lemmas.Grind.{get_or-set_at}
use Rattle.c_ast.specs.declared.specifier.RecordKind.{RecordKind}
use Rattle.c_ast.specs.declared.specifier.Storage.{Storage as StorageClass}
use Rattle.c_symbols.specs.declared.symbol.Storage.{Storage}
use Rattle.c_symbols.specs.declared.symbol.Storage.TheVariants as storage
use Rattle.c_symbols.specs.Scoping.{symbol_named}
use Rattle.c_types.specs.CType.{CType}
use Rattle.c_meaning.specs.Declaring.{alone, alone_at}
use Rattle.c_meaning.specs.Each.{EachIs}
use Rattle.c_meaning.specs.ExprConstraints.{differs_from_int_function}
use Rattle.c_meaning.specs.State.{Known, State, counted, declared, entered, external, int_function, known_at, left, level_of, link_or, nothing_known, place_here, place_of, replaced, with_function, with_link}
use Rattle.c_meaning.specs.TypeRows.{awaited, awaited_at, completed, enumerated, enumerated_at, enumeration_type, named, named_at, opened, opened_at, parameter_class, parameter_known, record_type, tag_key, tagged, with_enumerator, with_parameter, with_tag}
use Rattle.c_meaning.specs.Types.{is_function}
use Rattle.c_tree_names.specs.Names.{IsName, is_name}
use Rattle.c_typing_steps.specs.Steps.{Steps, Stay, Go, Call, Tag, Alone, Open, Await, Enumerate, Enumerator, Complete, Prototype, StepsInside, Plain, GoInside, Parameter}
use Rattle.c_units.specs.Ends.{is_link}
use Rattle.c_fits.proofs.lemmas.DeclaredFits.{each_join}
use Rattle.c_fits.proofs.lemmas.Booleans.{never, not_false}
use Rattle.c_fits.proofs.lemmas.Lists.{last_below, longer, named_append, named_last, seam, set_related}
use Rattle.c_linked_names.proofs.lemmas.Absorbing.{Absorbs, TypeLaws, absorbs_itself, absorbs_then, int_function_absorbed}
use Rattle.c_linked_names.proofs.lemmas.Keeping.{IsEntry, IsLinked, IsRegular, Keeps, Steady, alike_keeps, alike_regular, is_tag, keeps_then, link_below, link_by, link_class, link_of, linked_keeps, scope_keeps, scopes_keep, steady_itself, steady_then}
use Rattle.c_linked_names.proofs.lemmas.Lists.{each_map, each_named, is_link_append, named_link, one_if, times_append, times_below, times_in}

-- ---- a further symbol

abbrev Pushed : State → Known → ℕ → Type 0
Pushed s k id = get_or (s.symbols ++ k ∷ []) id nothing_known ≡ known_at s id

pushed : (s : State) (k : Known) (id : ℕ) → id < length s.symbols → Pushed s k id
pushed s k id l = get_or_append_left s.symbols (k ∷ []) nothing_known id l

-- of a place among one symbol more
last_or_below : (n id : ℕ) → id < n + 1 → (id < n) ⊎ (id ≡ n)
last_or_below n id l = by (id == n) refl
  where
    by : (b : Bool) → (id == n) ≡ b → (id < n) ⊎ (id ≡ n)
    by true q = inr (eqb-true id n q)
    by false q = inl (grind (arith, nat_tests))

one_more : (s : State) (k : Known) (id : ℕ) → id < length (s.symbols ++ k ∷ []) → (id < length s.symbols) ⊎ (id ≡ length s.symbols)
one_more s k id l = last_or_below (length s.symbols) id (let e = length-append s.symbols (k ∷ []) in omega (arith, l, e))

-- the link that a further declaration names, if it names one, is its name's, and absorbs its type
abbrev pub Names : State → List ℕ → Known → Type 0
Names s name k = (l : ℕ) → link_of k ≡ Some l → (symbol_named s.links name ≡ Some l) × Absorbs (known_at s l).of k.of

-- no link is past the symbols
past_link : (s : State) → IsRegular s → is_link s.links (length s.symbols) ≡ false
past_link s h = by (is_link s.links (length s.symbols)) refl
  where
    by : (b : Bool) → is_link s.links (length s.symbols) ≡ b → b ≡ false
    by true q = absurd (let l = link_below s (length s.symbols) h q in let z : ⊥ = omega (arith, l) in z)
    by false q = refl

declared_keeps : (s : State) (name : List ℕ) (k : Known) → Keeps s (declared s name k)
declared_keeps s name k =
    record {
      symbols = longer s.symbols k;
      classes = λ id l. ap (λ (k : Known). k.class) (pushed s k id l);
      types = λ id l c. subst (λ (x : Known). Absorbs x.of (known_at s id).of) (sym (pushed s k id l)) (absorbs_itself (known_at s id).of);
      links = λ id l. refl;
      named = λ x id e. e;
      values = λ id l e. ap link_of (pushed s k id l);
    }

pub declared_steady : (s : State) (name : List ℕ) (k : Known) → IsRegular s → is_tag k.class ≡ not (is_name name) → Names s name k → Steady s (declared s name k)
declared_steady s name k h t f =
    record {
      regular = record { links = each_map (IsLinked s) (IsLinked u) (linked_keeps s u keep) s.links h.links; once = h.once; outer = scopes_keep s u keep s.outer h.outer; inner = each_join (IsEntry u) s.inner ((name, length s.symbols) ∷ []) (scope_keeps s u keep s.inner h.inner) (entry, tt); bound = bound };
      keeps = keep;
      outer = refl;
      here = λ x id g. named_append s.inner (name, length s.symbols) x id g;
      same = λ id l c. pushed s k id l;
      new = λ id e. inl e;
    }
  where
    u : State
    u = declared s name k

    keep : Keeps s u
    keep = declared_keeps s name k

    last : known_at u (length s.symbols) ≡ k
    last = seam s.symbols k nothing_known

    entry : IsEntry u (name, length s.symbols)
    entry = record { below = last_below s.symbols k; apart = past_link s h; tag = ap (λ (k : Known). is_tag k.class) last ∙ t; linked = λ l e. (f l (ap link_of (sym last) ∙ e)).0 }

    of_link : (l : ℕ) → is_link s.links l ≡ true → Absorbs (known_at u l).of (known_at s l).of
    of_link l e = keep.types l (link_below s l h e) (link_class s l h e)

    bound : (id l : ℕ) → id < length u.symbols → is_link s.links id ≡ false → link_of (known_at u id) ≡ Some l → (is_link s.links l ≡ true) × Absorbs (known_at u l).of (known_at u id).of
    bound id l b e g = by (one_more s k id b)
      where
        old : id < length s.symbols → (is_link s.links l ≡ true) × Absorbs (known_at s l).of (known_at s id).of
        old p = h.bound id l p e (ap link_of (sym (pushed s k id p)) ∙ g)

        new : id ≡ length s.symbols → (symbol_named s.links name ≡ Some l) × Absorbs (known_at s l).of k.of
        new p = f l (ap link_of (sym (ap (known_at u) p ∙ last)) ∙ g)

        by : (id < length s.symbols) ⊎ (id ≡ length s.symbols) → (is_link s.links l ≡ true) × Absorbs (known_at u l).of (known_at u id).of
        by (inl p) =
            let o = old p in
            (o.0, subst (λ (x : Known). Absorbs (known_at u l).of x.of) (sym (pushed s k id p)) (absorbs_then (known_at u l).of (known_at s l).of (known_at s id).of (of_link l o.0) o.1))
        by (inr p) =
            let o = new p in
            let e = named_link s.links name l o.0 in
            (e, subst (λ (x : Known). Absorbs (known_at u l).of x.of) (sym (ap (known_at u) p ∙ last)) (absorbs_then (known_at u l).of (known_at s l).of k.of (of_link l e) o.1))

-- ---- a further name with linkage

is_link_last : (s : State) (name : List ℕ) (id : ℕ) → id < length s.symbols → is_link (s.links ++ (name, length s.symbols) ∷ []) id ≡ is_link s.links id
is_link_last s name id l = is_link_append s.links ((name, length s.symbols) ∷ []) id ∙ by (is_link s.links id) (length s.symbols == id) refl
  where
    by : (a b : Bool) → (length s.symbols == id) ≡ b → (a || (b || false)) ≡ a
    by true b q = refl
    by false true q = absurd (let e = eqb-true (length s.symbols) id q in let z : ⊥ = omega (arith, e, l) in z)
    by false false q = refl

link_keeps : (s : State) (name : List ℕ) (k : Known) → Keeps s (with_link s name None k)
link_keeps s name k =
    record {
      symbols = longer s.symbols k;
      classes = λ id l. ap (λ (k : Known). k.class) (pushed s k id l);
      types = λ id l c. subst (λ (x : Known). Absorbs x.of (known_at s id).of) (sym (pushed s k id l)) (absorbs_itself (known_at s id).of);
      links = λ id l. is_link_last s name id l;
      named = λ x id e. named_append s.links (name, length s.symbols) x id e;
      values = λ id l e. ap link_of (pushed s k id l);
    }

pub link_regular : (s : State) (name : List ℕ) (k : Known) → IsRegular s → IsName name → symbol_named s.links name ≡ None → is_tag k.class ≡ false → IsRegular (with_link s name None k) × Keeps s (with_link s name None k)
link_regular s name k h n e c = (
  record {
    links = each_join (IsLinked u) s.links ((name, length s.symbols) ∷ []) (each_map (IsLinked s) (IsLinked u) (linked_keeps s u keep) s.links h.links) (record { below = last_below s.symbols k; name = n; named = named_last s.links name (length s.symbols) e; class = ap (λ (k : Known). is_tag k.class) last ∙ c }, tt);
    once = once;
    outer = scopes_keep s u keep s.outer h.outer;
    inner = scope_keeps s u keep s.inner h.inner;
    bound = bound;
  },
  keep,
)
  where
    u : State
    u = with_link s name None k

    keep : Keeps s u
    keep = link_keeps s name k

    last : known_at u (length s.symbols) ≡ k
    last = seam s.symbols k nothing_known

    below : (n : ℕ) (ns : List (List ℕ × ℕ)) → EachIs (IsLinked s) ns → length s.symbols ≤ n → EachIs (λ (x : List ℕ × ℕ). x.1 < n) ns
    below n ns g p = each_map (IsLinked s) (λ (x : List ℕ × ℕ). x.1 < n) (λ x y. lt_of_lt_of_le y.below p) ns g

    once : (id : ℕ) → times_in u.links id ≤ 1
    once id = by (length s.symbols == id) refl
      where
        all : times_in u.links id ≡ times_in s.links id + (one_if (length s.symbols == id) + 0)
        all = times_append s.links ((name, length s.symbols) ∷ []) id

        by : (b : Bool) → (length s.symbols == id) ≡ b → times_in u.links id ≤ 1
        by true q =
            let p = eqb-true (length s.symbols) id q in
            let z = times_below s.links id (below id s.links h.links (omega (arith, p))) in
            let w : one_if (length s.symbols == id) ≡ 1 = ap one_if q in
            omega (arith, all, z, w)
        by false q = let w : one_if (length s.symbols == id) ≡ 0 = ap one_if q in let z = h.once id in omega (arith, all, z, w)

    bound : (id l : ℕ) → id < length u.symbols → is_link u.links id ≡ false → link_of (known_at u id) ≡ Some l → (is_link u.links l ≡ true) × Absorbs (known_at u l).of (known_at u id).of
    bound id l b a g = by (one_more s k id b)
      where
        by : (id < length s.symbols) ⊎ (id ≡ length s.symbols) → (is_link u.links l ≡ true) × Absorbs (known_at u l).of (known_at u id).of
        by (inl p) =
            let o = h.bound id l p (sym (is_link_last s name id p) ∙ a) (ap link_of (sym (pushed s k id p)) ∙ g) in
            let m = link_below s l h o.0 in
            (keep.links l m ∙ o.0, subst (λ (x : Known). Absorbs (known_at u l).of x.of) (sym (pushed s k id p)) (absorbs_then (known_at u l).of (known_at s l).of (known_at s id).of (keep.types l m (link_class s l h o.0)) o.1))
        by (inr p) = never (sym (named_link u.links name id (named_last s.links name (length s.symbols) e ∙ ap Some (sym p))) ∙ a)

pub link_new : (s : State) (name : List ℕ) (k : Known) (id : ℕ) → is_link (s.links ++ (name, length s.symbols) ∷ []) id ≡ true → (is_link s.links id ≡ true) ⊎ (id ≡ length s.symbols)
link_new s name k id e = by (is_link s.links id) (length s.symbols == id) refl (sym (is_link_append s.links ((name, length s.symbols) ∷ []) id) ∙ e)
  where
    by : (a b : Bool) → (length s.symbols == id) ≡ b → (a || (b || false)) ≡ true → (a ≡ true) ⊎ (id ≡ length s.symbols)
    by true b q g = inl refl
    by false true q g = inr (sym (eqb-true (length s.symbols) id q))
    by false false q g = never (sym g)

-- ---- another meaning for a symbol

pub record Replaces (s : State) (id : ℕ) (k : Known) : Type 0 where
  pub below : id < length s.symbols
  pub class : k.class ≡ (known_at s id).class
  pub type : is_tag (known_at s id).class ≡ false → Absorbs k.of (known_at s id).of
  pub value : is_link s.links id ≡ false → link_of k ≡ link_of (known_at s id)
  pub bound : (l : ℕ) → is_link s.links id ≡ false → link_of k ≡ Some l → Absorbs (known_at s l).of k.of

pub known_replaced : (s : State) (id : ℕ) (k : Known) → id < length s.symbols → known_at (replaced s id k) id ≡ k
known_replaced s id k l = get_or-set_at s.symbols id id k nothing_known refl l

pub known_other : (s : State) (id : ℕ) (k : Known) (j : ℕ) → (j == id) ≡ false → known_at (replaced s id k) j ≡ known_at s j
known_other s id k j e = get_or-set_other s.symbols id j k nothing_known (λ q. let f : (j == id) ≡ true = grind (arith, nat_tests) in never (sym f ∙ e))

replaced_keeps : (s : State) (id : ℕ) (k : Known) → Replaces s id k → Keeps s (replaced s id k)
replaced_keeps s id k r =
    record {
      symbols = let l = length-set s.symbols id k in omega (arith, l);
      classes = λ j l. set_related (λ (x y : Known). y.class ≡ x.class) s.symbols id k nothing_known (λ x. refl) r.class j;
      types = λ j l c. set_related (λ (x y : Known). is_tag x.class ≡ false → Absorbs y.of x.of) s.symbols id k nothing_known (λ x e. absorbs_itself x.of) r.type j c;
      links = λ j l. refl;
      named = λ x j e. e;
      values = values;
    }
  where
    values : (j : ℕ) → j < length s.symbols → is_link s.links j ≡ false → link_of (known_at (replaced s id k) j) ≡ link_of (known_at s j)
    values j l e = by (j == id) refl
      where
        by : (b : Bool) → (j == id) ≡ b → link_of (known_at (replaced s id k) j) ≡ link_of (known_at s j)
        by true q =
            let p = eqb-true j id q in
            subst (λ i. link_of (known_at (replaced s id k) i) ≡ link_of (known_at s i)) (sym p) (ap link_of (known_replaced s id k r.below) ∙ r.value (subst (λ i. is_link s.links i ≡ false) p e))
        by false q = ap link_of (known_other s id k j q)

pub replaced_regular : (s : State) (id : ℕ) (k : Known) → IsRegular s → Replaces s id k → IsRegular (replaced s id k) × Keeps s (replaced s id k)
replaced_regular s id k h r = (
  record { links = each_map (IsLinked s) (IsLinked u) (linked_keeps s u keep) s.links h.links; once = h.once; outer = scopes_keep s u keep s.outer h.outer; inner = scope_keeps s u keep s.inner h.inner; bound = bound },
  keep,
)
  where
    u : State
    u = replaced s id k

    keep : Keeps s u
    keep = replaced_keeps s id k r

    -- what the symbol of all declarations absorbed it still absorbs
    still : (l : ℕ) (t : CType) → is_link s.links l ≡ true → Absorbs (known_at s l).of t → Absorbs (known_at u l).of t
    still l t e a = absorbs_then (known_at u l).of (known_at s l).of t (keep.types l (link_below s l h e) (link_class s l h e)) a

    bound : (j l : ℕ) → j < length u.symbols → is_link s.links j ≡ false → link_of (known_at u j) ≡ Some l → (is_link s.links l ≡ true) × Absorbs (known_at u l).of (known_at u j).of
    bound j l b e g = by (j == id) refl
      where
        below : j < length s.symbols
        below = let m = length-set s.symbols id k in omega (arith, m, b)

        old : (is_link s.links l ≡ true) × Absorbs (known_at s l).of (known_at s j).of
        old = h.bound j l below e (sym (keep.values j below e) ∙ g)

        by : (b : Bool) → (j == id) ≡ b → (is_link s.links l ≡ true) × Absorbs (known_at u l).of (known_at u j).of
        by true q =
            let p = eqb-true j id q in
            let x : known_at u j ≡ k = ap (known_at u) p ∙ known_replaced s id k r.below in
            (old.0, subst (λ (x : Known). Absorbs (known_at u l).of x.of) (sym x) (still l k.of old.0 (r.bound l (subst (λ i. is_link s.links i ≡ false) p e) (ap link_of (sym x) ∙ g))))
        by false q = (old.0, subst (λ (x : Known). Absorbs (known_at u l).of x.of) (sym (known_other s id k j q)) (still l (known_at s j).of old.0 old.1))

-- ---- tags

counted_regular : (s : State) → IsRegular s → IsRegular (counted s)
counted_regular s h = alike_regular s (counted s) refl refl h h.outer h.inner

-- the same symbols in the same scopes
pub alike_steady : (s u : State) → s.symbols ≡ u.symbols → s.links ≡ u.links → u.outer ≡ s.outer → u.inner ≡ s.inner → IsRegular s → Steady s u
alike_steady s u e f o i h =
    record {
      regular = alike_regular s u e f h (subst (EachIs (EachIs (IsEntry s))) (sym o) h.outer) (subst (EachIs (IsEntry s)) (sym i) h.inner);
      keeps = alike_keeps s u e f;
      outer = o;
      here = λ name id g. subst (λ ns. symbol_named ns name ≡ Some id) (sym i) g;
      same = λ id l c. ap (λ (ks : List Known). get_or ks id nothing_known) (sym e);
      new = λ id g. inl (ap (λ ns. is_link ns id) f ∙ g);
    }

pub counted_steady : (s : State) → IsRegular s → Steady s (counted s)
counted_steady s h = alike_steady s (counted s) refl refl refl refl h

no_link : (l : ℕ) {T : Type 0} → None ≡ Some l → T
no_link l e = absurd (let none : ⊥ = cc in none)

tag_steady : (s : State) (line : ℕ) (tag : List ℕ) (of : CType) (v : Option ℤ) → IsRegular s → Steady s (with_tag s line tag of v).state
tag_steady s line tag of v h =
    steady_then s (counted s) (with_tag s line tag of v).state (counted_steady s h) (declared_steady (counted s) (tag_key tag) (tagged line (level_of s) of v) (counted_regular s h) refl (λ l e. no_link l e))

-- a tag's symbol, or the count's, with another type and value
pub tag_replaced : (s : State) (id : ℕ) (k : Known) → IsRegular s → id < length s.symbols → is_tag (known_at s id).class ≡ true → k.class ≡ storage.Tag → Steady s (replaced s id k)
tag_replaced s id k h b t e =
    let r = replaced_regular s id k h (record { below = b; class = e ∙ sym (tag_is (known_at s id).class t); type = λ f. never (sym t ∙ f); value = λ f. untagged k.class k.value e ∙ sym (untagged (known_at s id).class (known_at s id).value (tag_is (known_at s id).class t)); bound = λ l f g. no_link l (sym (untagged k.class k.value e) ∙ g) }) in
    record { regular = r.0; keeps = r.1; outer = refl; here = λ name j g. g; same = same; new = λ j g. inl g }
  where
    tag_is : (c : Storage) → is_tag c ≡ true → c ≡ storage.Tag
    tag_is storage.Tag q = refl
    tag_is storage.Extern q = never (sym q)
    tag_is storage.Static q = never (sym q)
    tag_is storage.Typedef q = never (sym q)
    tag_is storage.Auto q = never (sym q)
    tag_is storage.Register q = never (sym q)
    tag_is storage.Enumerator q = never (sym q)

    untagged : (c : Storage) (v : Option ℤ) → c ≡ storage.Tag → link_by c v ≡ None
    untagged c v q = ap (λ c. link_by c v) q

    same : (j : ℕ) → j < length s.symbols → is_tag (known_at s j).class ≡ false → known_at (replaced s id k) j ≡ known_at s j
    same j l c = by (j == id) refl
      where
        by : (b : Bool) → (j == id) ≡ b → known_at (replaced s id k) j ≡ known_at s j
        by true q = never (sym t ∙ subst (λ i. is_tag (known_at s i).class ≡ false) (eqb-true j id q) c)
        by false q = known_other s id k j q

-- ---- each step

named_steady : (s : State) (line : ℕ) (tag : List ℕ) (of : CType) → IsRegular s → Steady s (named s line tag of).state
named_steady s line tag of h = by (place_of s (tag_key tag))
  where
    by : (o : Option ℕ) → Steady s (named_at s line tag of o).state
    by (Some id) = steady_itself s h
    by None = tag_steady s line tag of None h

alone_steady : (s : State) (line : ℕ) (k : RecordKind) (tag : List ℕ) → IsRegular s → Steady s (alone s line k tag).state
alone_steady s line k tag h = by (place_here s (tag_key tag))
  where
    by : (o : Option ℕ) → Steady s (alone_at s line k tag o).state
    by (Some id) = steady_itself s h
    by None = tag_steady s line tag (record_type k s.count) None h

opened_steady : (s : State) (line : ℕ) (k : RecordKind) (tag : Option (List ℕ)) → IsRegular s → Steady s (opened s line k tag).state
opened_steady s line k None h = counted_steady s h
opened_steady s line k (Some tag) h = by (place_here s (tag_key tag))
  where
    by : (o : Option ℕ) → Steady s (opened_at s line k tag o).state
    by (Some id) = steady_itself s h
    by None = tag_steady s line tag (record_type k s.count) None h

awaited_steady : (s : State) (line : ℕ) (tag : Option (List ℕ)) → IsRegular s → Steady s (awaited s line tag)
awaited_steady s line None h = steady_itself s h
awaited_steady s line (Some tag) h = by (place_here s (tag_key tag))
  where
    by : (o : Option ℕ) → Steady s (awaited_at s line tag o)
    by (Some id) = steady_itself s h
    by None = tag_steady s line tag (enumeration_type s.count) None h

enumerated_steady : (s : State) (line : ℕ) (tag : Option (List ℕ)) → IsRegular s → Steady s (enumerated s line tag).state
enumerated_steady s line None h = counted_steady s h
enumerated_steady s line (Some tag) h = by (place_here s (tag_key tag)) refl
  where
    by : (o : Option ℕ) → place_here s (tag_key tag) ≡ o → Steady s (enumerated_at s line tag o).state
    by (Some id) e =
        let n = each_named (IsEntry s) s.inner (tag_key tag) id h.inner e in
        let k : Known = tagged line (level_of s) (enumeration_type s.count) (Some (pos 0)) in
        steady_then s (counted s) (replaced (counted s) id k) (counted_steady s h) (tag_replaced (counted s) id k (counted_regular s h) n.below n.tag refl)
    by None e = tag_steady s line tag (enumeration_type s.count) (Some (pos 0)) h

enumerator_steady : (s : State) (line : ℕ) (name : List ℕ) (z : ℤ) → IsName name → IsRegular s → Steady s (with_enumerator s line name z)
enumerator_steady s line name z n h = declared_steady s name _ h (sym (ap not n)) (λ l e. no_link l e)

parameter_none : (cs : List StorageClass) (v : Option ℤ) → (is_tag (parameter_class cs) ≡ false) × (link_by (parameter_class cs) v ≡ None)
parameter_none cs v = by _
  where
    by : (b : Bool) → (is_tag (if b then storage.Register else storage.Auto) ≡ false) × (link_by (if b then storage.Register else storage.Auto) v ≡ None)
    by true = (refl, refl)
    by false = (refl, refl)

pub parameter_steady : (s : State) (line place : ℕ) (cs : List StorageClass) (name : Option (List ℕ)) (of : CType) → IfSome name IsName → IsRegular s → Steady s (with_parameter s line place cs name of)
parameter_steady s line place cs None of n h = steady_itself s h
parameter_steady s line place cs (Some name) of n h =
    declared_steady s name (parameter_known s line place cs of) h ((parameter_none cs None).0 ∙ sym (ap not n)) (λ l e. no_link l (sym (parameter_none cs (Some (pos place))).1 ∙ e))

-- a scope opened, and closed
pub entered_regular : (s : State) → IsRegular s → IsRegular (entered s)
entered_regular s h = alike_regular s (entered s) refl refl h (each_join (EachIs (IsEntry s)) s.outer (s.inner ∷ []) h.outer (h.inner, tt)) tt

pub left_regular : (s t : State) → IsRegular s → IsRegular t → Keeps s t → IsRegular (left s.outer s.inner t)
left_regular s t h g k = alike_regular t (left s.outer s.inner t) refl refl g (scopes_keep s t k s.outer h.outer) (scope_keeps s t k s.inner h.inner)

pub left_keeps : (s t : State) → Keeps s t → Keeps s (left s.outer s.inner t)
left_keeps s t k = keeps_then s t (left s.outer s.inner t) k (alike_keeps t (left s.outer s.inner t) refl refl)

left_steady : (s t : State) → IsRegular s → Steady (entered s) t → Steady s (left s.outer s.inner t)
left_steady s t h f =
    let k = keeps_then s (entered s) t (alike_keeps s (entered s) refl refl) f.keeps in
    record { regular = left_regular s t h f.regular k; keeps = left_keeps s t k; outer = refl; here = λ name id e. e; same = f.same; new = f.new }

module _ (types : TypeLaws) where
  function_steady : (s : State) (line : ℕ) (name : List ℕ) → IsName name → differs_from_int_function s (symbol_named s.links name) ≡ false → IsRegular s → Steady s (with_function s line name)
  function_steady s line name n f h = by (symbol_named s.links name) refl f
    where
      here : Option ℕ → Known
      here o = external line (level_of s) (Some (pos (link_or o (length s.symbols))))

      by : (o : Option ℕ) → symbol_named s.links name ≡ o → differs_from_int_function s o ≡ false → Steady s (declared (with_link s name o (external line 0 None)) name (here o))
      by (Some id) e f = declared_steady s name (here (Some id)) h (sym (ap not n)) (λ l g. let p : id ≡ l = cc in (e ∙ ap Some p, subst (λ i. Absorbs (known_at s i).of int_function) p (int_function_absorbed types (known_at s id).of (not_false _ f))))
      by None e f =
          let k : Known = external line 0 None in
          let t : State = with_link s name None k in
          let r = link_regular s name k h n e refl in
          let last : known_at t (length s.symbols) ≡ k = seam s.symbols k nothing_known in
          let d = declared_steady t name (here None) r.0 (sym (ap not n)) (λ l g. let p : length s.symbols ≡ l = cc in (named_last s.links name (length s.symbols) e ∙ ap Some p, subst (λ i. Absorbs (known_at t i).of int_function) p (subst (λ (k : Known). Absorbs k.of int_function) (sym last) (absorbs_itself int_function)))) in
          let u : State = declared t name (here None) in
          record {
            regular = d.regular;
            keeps = keeps_then s t u r.1 d.keeps;
            outer = refl;
            here = d.here;
            same = λ id l c. d.same id (lt_of_lt_of_le l r.1.symbols) (ap is_tag (r.1.classes id l) ∙ c) ∙ pushed s k id l;
            new = λ id g. first id (link_new s name k id g);
          }
        where
          first : (id : ℕ) → (is_link s.links id ≡ true) ⊎ (id ≡ length s.symbols) → (is_link s.links id ≡ true) ⊎ (is_function (known_at (declared (with_link s name None (external line 0 None)) name (here None)) id).of ≡ true)
          first id (inl q) = inl q
          first id (inr q) =
              inr (ap (λ (k : Known). is_function k.of) (ap (known_at (declared (with_link s name None (external line 0 None)) name (here None))) q ∙ (pushed (with_link s name None (external line 0 None)) (here None) (length s.symbols) (last_below s.symbols (external line 0 None)) ∙ seam s.symbols (external line 0 None) nothing_known)))

  mutual
    pub steps_steady : {s u : State} → Steps s u → IsRegular s → Steady s u
    steps_steady (Stay {s = s}) h = steady_itself s h
    steps_steady (Go {s = s} {t = t} {u = u} f g) h = let a = steps_steady f h in steady_then s t u a (steps_steady g a.regular)
    steps_steady (Call s line name is new fits) h = function_steady s line name is fits h
    steps_steady (Tag s line tag of) h = named_steady s line tag of h
    steps_steady (Alone s line k tag) h = alone_steady s line k tag h
    steps_steady (Open s line k tag) h = opened_steady s line k tag h
    steps_steady (Await s line tag) h = awaited_steady s line tag h
    steps_steady (Enumerate s line tag) h = enumerated_steady s line tag h
    steps_steady (Enumerator s line name z is new) h = enumerator_steady s line name z is h
    steps_steady (Complete s k number members) h = alike_steady s (completed s k number members) refl refl refl refl h
    steps_steady (Prototype {s = s} {t = t} inside) h = left_steady s t h (inside_steady inside (entered_regular s h))

    pub inside_steady : {s u : State} → StepsInside s u → IsRegular s → Steady s u
    inside_steady (Plain f) h = steps_steady f h
    inside_steady (GoInside {s = s} {t = t} {u = u} f g) h = let a = inside_steady f h in steady_then s t u a (inside_steady g a.regular)
    inside_steady (Parameter s line place classes name of is) h = parameter_steady s line place classes name of is h
