-- What is known behind a part follows what was known before: parts one behind the other, further symbols, and scopes.
use Rattle.std.proofs.Common.{◌≡◌, ◌⊎◌, ℕ, ◌+◌, ◌<◌, ◌≤◌, Bool, true, false, List, [], ◌∷◌, ◌++◌, length, get_or, refl, sym, ap, subst, ◌∙◌, inl, inr, arith, add-zero, le_trans, lt_of_lt_of_le}
use Rattle.std.specs.Prelude.{◌==◌, Option, Some, ℤ, slice_set}
use Rattle.std.proofs.lemmas.Bool.Decides.{nat_tests}
use Rattle.std.proofs.lemmas.List.{get_or_append_left, length-set}
use Rattle.c_symbols.specs.Extending.{all_below_more, below_more}
use Rattle.c_symbols.specs.Scoping.{AreAllBelow, AreBelow, symbol_named}
use Rattle.c_types.specs.CType.{CType}
use Rattle.c_types.specs.Layout.{Tag}
use Rattle.c_types.specs.Members.{is_defined}
use Rattle.c_meaning.specs.State.{Known, State, counted, declared, entered, known_at, left, level_of, nothing_known, place_here, replaced}
use Rattle.c_meaning.specs.TypeRows.{tag_key, tagged, with_tag}
use Rattle.c_fits.specs.Sound.{Extends, Follows, IsNamed, IsNumbered, IsOld, IsSound, StaysKnown, StaysLocal, StaysOther, Unnamed, has_elements, is_enumerator, is_local, is_of, which}
use Rattle.c_fits.proofs.lemmas.Lists.{all_append, all_below, all_set, below_push, last_below, longer, named_append, named_below, named_pushed, seam, set_related}
use Rattle.c_fits.proofs.lemmas.Booleans.{never}
use Rattle.c_fits.proofs.lemmas.Kinds.{same_of}
use Rattle.c_fits.proofs.lemmas.Growing.{same_grows, then_grows}

-- ---- numbers without a name

pub unnamed_append : (tags : List Tag) (symbols : List Known) (k : Known) (n : ℕ) → Unnamed tags symbols n → is_of n k.of ≡ false → Unnamed tags (symbols ++ k ∷ []) n
unnamed_append tags symbols k n h e =
    record { undefined = h.undefined; unmentioned = all_append (λ (k : Known). is_of n k.of ≡ false) symbols k nothing_known h.unmentioned e }

pub unnamed_set : (tags : List Tag) (symbols : List Known) (id : ℕ) (k : Known) (n : ℕ) → Unnamed tags symbols n → is_of n k.of ≡ false → Unnamed tags (slice_set symbols id k) n
unnamed_set tags symbols id k n h e =
    record { undefined = h.undefined; unmentioned = all_set (λ (k : Known). is_of n k.of ≡ false) symbols id k nothing_known h.unmentioned e }

-- ---- where nothing is known

pub nothing_sound : IsSound (record { outer = []; inner = []; links = []; symbols = []; tags = []; count = 0 })
nothing_sound = record { fields = refl; once = tt; sizes = tt; arrays = λ id. refl; enumerators = λ id. tt; names = tt; scopes = tt; links = tt; linked = λ name id e. refl; fresh = λ n l. record { undefined = refl; unmentioned = λ id. refl } }

-- ---- one behind the other

same_extends : (s : State) → IsSound s → Extends s s
same_extends s h =
    record {
      sound = h;
      count = omega arith;
      symbols = omega arith;
      known = λ id l. refl;
      classes = λ id l e. e;
      locals = λ id l e. refl;
      tags = same_grows s.tags;
      apart = λ n a. a.0;
    }

pub same_follows : (s : State) → IsSound s → Follows s s
same_follows s h = record { extends = same_extends s h; here = λ name id e. e; before = λ name id e c. e }

pub then_extends : (s t u : State) → Extends s t → Extends t u → Extends s u
then_extends s t u f g =
    record {
      sound = g.sound;
      count = le_trans f.count g.count;
      symbols = le_trans f.symbols g.symbols;
      known = λ id l. g.known id (lt_of_lt_of_le l f.symbols) ∙ f.known id l;
      classes = λ id l e. g.classes id (lt_of_lt_of_le l f.symbols) (f.classes id l e);
      locals = λ id l e. let k = g.locals id (lt_of_lt_of_le l f.symbols) e in k ∙ f.locals id l (was id k e);
      tags = then_grows s.tags t.tags u.tags f.tags g.tags;
      apart = λ n a. g.apart n (f.apart n (a.0, first n a.1), second n a.1);
    }
  where
    first : (n : ℕ) → (n < s.count) ⊎ (u.count ≤ n) → (n < s.count) ⊎ (t.count ≤ n)
    first n (inl l) = inl l
    first n (inr l) = inr (le_trans g.count l)

    second : (n : ℕ) → (n < s.count) ⊎ (u.count ≤ n) → (n < t.count) ⊎ (u.count ≤ n)
    second n (inl l) = inl (lt_of_lt_of_le l f.count)
    second n (inr l) = inr l

    was : (id : ℕ) → known_at u id ≡ known_at t id → is_local (known_at u id).class ≡ true → is_local (known_at t id).class ≡ true
    was id k e = subst (λ (k : Known). is_local k.class ≡ true) k e

-- a local object's name in the innermost scope was there before, and its symbol the same
pub local_before : (s u : State) → Follows s u → IsSound s → (name : List ℕ) (id : ℕ) → place_here u name ≡ Some id → is_local (known_at u id).class ≡ true → (place_here s name ≡ Some id) × (known_at u id ≡ known_at s id)
local_before s u f h name id e c = let b = f.before name id e c in (b, f.locals id (named_below (length s.symbols) s.inner name id h.names b) c)

pub then_follows : (s t u : State) → Follows s t → Follows t u → Follows s u
then_follows s t u f g =
    record {
      extends = then_extends s t u f.extends g.extends;
      here = λ name id e. g.here name id (f.here name id e);
      before = λ name id e c. let b = local_before t u g f.sound name id e c in f.before name id b.0 (subst (λ (k : Known). is_local k.class ≡ true) b.1 c);
    }

-- what has no name behind a part had none before
pub unnamed_before : (s u : State) → Follows s u → (n : ℕ) → Unnamed u.tags u.symbols n → Unnamed s.tags s.symbols n
unnamed_before s u f n h =
    record {
      undefined = undefined (is_defined s.tags n) refl;
      unmentioned = all_below (λ (k : Known). is_of n k.of ≡ false) s.symbols nothing_known refl (λ id l. mentioned id (f.known id l));
    }
  where
    undefined : (b : Bool) → is_defined s.tags n ≡ b → b ≡ false
    undefined true e = sym (f.tags.defined n e) ∙ h.undefined
    undefined false e = refl

    mentioned : (id : ℕ) → StaysKnown (known_at s id) (known_at u id) → is_of n (known_at s id).of ≡ false
    mentioned id e = sym (same_of n (known_at u id).of (known_at s id).of e) ∙ h.unmentioned id

pub named_stays : (s u : State) → Follows s u → (t : CType) → IsNamed s t → IsNamed u t
named_stays s u f t h n k = h n (unnamed_before s u f n k)

-- ---- steps

pub counted_follows : (s : State) → IsSound s → Follows s (counted s)
counted_follows s h =
    record {
      extends =
          record {
            sound =
                record {
                  fields = h.fields;
                  once = h.once;
                  sizes = h.sizes;
                  arrays = h.arrays;
                  enumerators = h.enumerators;
                  names = h.names;
                  scopes = h.scopes;
                  links = h.links;
                  linked = h.linked;
                  fresh = λ n l. h.fresh n (omega (arith, l));
                };
            count = omega arith;
            symbols = omega arith;
            known = λ id l. refl;
            classes = λ id l e. e;
            locals = λ id l e. refl;
            tags = same_grows s.tags;
            apart = λ n a. a.0;
          };
      here = λ name id e. e;
      before = λ name id e c. e;
    }

-- a symbol stays where others are added
pub pushed : (symbols : List Known) (k : Known) (id : ℕ) → id < length symbols → get_or (symbols ++ k ∷ []) id nothing_known ≡ get_or symbols id nothing_known
pushed symbols k id l = get_or_append_left symbols (k ∷ []) nothing_known id l

pub pushed_other : (symbols : List Known) (k : Known) (id : ℕ) → id < length symbols → StaysOther (get_or symbols id nothing_known) (get_or (symbols ++ k ∷ []) id nothing_known)
pushed_other symbols k id l e = ap (λ (k : Known). is_enumerator k.class) (pushed symbols k id l) ∙ e

pub declared_sound : (s : State) (name : List ℕ) (k : Known) → IsSound s → IsNumbered k → IsOld s k.of → IsSound (declared s name k)
declared_sound s name k h i e =
    record {
      fields = h.fields;
      once = h.once;
      sizes = h.sizes;
      arrays = all_append (λ (k : Known). has_elements s.tags k.of ≡ true) s.symbols k nothing_known h.arrays e.1;
      enumerators = all_append IsNumbered s.symbols k nothing_known h.enumerators i;
      scopes = all_below_more (length s.symbols) (length (s.symbols ++ k ∷ [])) (longer s.symbols k) s.outer h.scopes;
      links = below_more (length s.symbols) (length (s.symbols ++ k ∷ [])) (longer s.symbols k) s.links h.links;
      linked = λ x id g. pushed_other s.symbols k id (named_below (length s.symbols) s.links x id h.links g) (h.linked x id g);
      names = below_push (length (s.symbols ++ k ∷ [])) s.inner name (length s.symbols) (below_more (length s.symbols) (length (s.symbols ++ k ∷ [])) (longer s.symbols k) s.inner h.names) (last_below s.symbols k);
      fresh = λ n l. unnamed_append s.tags s.symbols k n (h.fresh n l) (e.0 n l);
    }

-- a further symbol of the innermost scope, and perhaps a further number
abbrev further : State → List ℕ → Known → ℕ → State
further s name k count = record { outer = s.outer; inner = s.inner ++ (name, length s.symbols) ∷ []; links = s.links; symbols = s.symbols ++ k ∷ []; tags = s.tags; count = count }

further_extends : (s : State) (name : List ℕ) (k : Known) (more : ℕ) → IsSound s → IsNumbered k → ((n : ℕ) → Unnamed s.tags s.symbols n → (n < s.count) ⊎ (s.count + more ≤ n) → is_of n k.of ≡ false) → has_elements s.tags k.of ≡ true → Extends s (further s name k (s.count + more))
further_extends s name k more h i e a =
    record {
      sound =
          record {
            fields = h.fields;
            once = h.once;
            sizes = h.sizes;
            arrays = all_append (λ (k : Known). has_elements s.tags k.of ≡ true) s.symbols k nothing_known h.arrays a;
            enumerators = all_append IsNumbered s.symbols k nothing_known h.enumerators i;
            scopes = all_below_more (length s.symbols) (length (s.symbols ++ k ∷ [])) (longer s.symbols k) s.outer h.scopes;
            links = below_more (length s.symbols) (length (s.symbols ++ k ∷ [])) (longer s.symbols k) s.links h.links;
            linked = λ x id g. pushed_other s.symbols k id (named_below (length s.symbols) s.links x id h.links g) (h.linked x id g);
            names = below_push (length (s.symbols ++ k ∷ [])) s.inner name (length s.symbols) (below_more (length s.symbols) (length (s.symbols ++ k ∷ [])) (longer s.symbols k) s.inner h.names) (last_below s.symbols k);
            fresh = λ n l. let u = h.fresh n (omega (arith, l)) in unnamed_append s.tags s.symbols k n u (e n u (inr l));
          };
      count = omega arith;
      symbols = longer s.symbols k;
      known = λ id l. ap (λ (k : Known). which k.of) (pushed s.symbols k id l);
      classes = λ id l. pushed_other s.symbols k id l;
      locals = λ id l c. pushed s.symbols k id l;
      tags = same_grows s.tags;
      apart = λ n a. unnamed_append s.tags s.symbols k n a.0 (e n a.0 a.1);
    }

-- a name's symbol is one of before, where the further one is no local object
pushed_before : (s : State) (name : List ℕ) (k : Known) (x : List ℕ) (id : ℕ) → is_local k.class ≡ false → symbol_named (s.inner ++ (name, length s.symbols) ∷ []) x ≡ Some id → is_local (get_or (s.symbols ++ k ∷ []) id nothing_known).class ≡ true → place_here s x ≡ Some id
pushed_before s name k x id l e c = by (named_pushed s.inner name x (length s.symbols) id e)
  where
    local : length s.symbols ≡ id → is_local k.class ≡ true
    local g = subst (λ (k : Known). is_local k.class ≡ true) (ap (λ i. get_or (s.symbols ++ k ∷ []) i nothing_known) (sym g) ∙ seam s.symbols k nothing_known) c

    by : (place_here s x ≡ Some id) ⊎ (length s.symbols ≡ id) → place_here s x ≡ Some id
    by (inl g) = g
    by (inr g) = never (sym (local g) ∙ l)

further_follows : (s : State) (name : List ℕ) (k : Known) (more : ℕ) → IsSound s → IsNumbered k → is_local k.class ≡ false → ((n : ℕ) → Unnamed s.tags s.symbols n → (n < s.count) ⊎ (s.count + more ≤ n) → is_of n k.of ≡ false) → has_elements s.tags k.of ≡ true
    → Follows s (further s name k (s.count + more))
further_follows s name k more h i c e a =
    record {
      extends = further_extends s name k more h i e a;
      here = λ x id g. named_append s.inner (name, length s.symbols) x id g;
      before = λ x id g l. pushed_before s name k x id c g l;
    }

pub declared_extends : (s : State) (name : List ℕ) (k : Known) → IsSound s → IsNumbered k → IsNamed s k.of → has_elements s.tags k.of ≡ true → Extends s (declared s name k)
declared_extends s name k h i e a = subst (λ c. Extends s (further s name k c)) (add-zero s.count) (further_extends s name k 0 h i (λ n u l. e n u) a)

pub declared_follows : (s : State) (name : List ℕ) (k : Known) → IsSound s → IsNumbered k → is_local k.class ≡ false → IsNamed s k.of → has_elements s.tags k.of ≡ true → Follows s (declared s name k)
declared_follows s name k h i c e a = subst (λ c. Follows s (further s name k c)) (add-zero s.count) (further_follows s name k 0 h i c (λ n u l. e n u) a)

-- a tag is given the next number
pub tag_follows : (s : State) (line : ℕ) (tag : List ℕ) (of : CType) (v : Option ℤ) → IsSound s → ((n : ℕ) → (n == s.count) ≡ false → is_of n of ≡ false) → has_elements s.tags of ≡ true → Follows s (with_tag s line tag of v).state
tag_follows s line tag of v h e a = further_follows s (tag_key tag) (tagged line (level_of s) of v) 1 h tt refl (λ n u l. e n (other n l)) a
  where
    other : (n : ℕ) → (n < s.count) ⊎ (s.count + 1 ≤ n) → (n == s.count) ≡ false
    other n (inl l) = grind (arith, nat_tests)
    other n (inr l) = grind (arith, nat_tests)

-- another symbol in a place, of the same structure or union, if it is of one
pub replaced_sound : (s : State) (id : ℕ) (k : Known) → IsSound s → IsNumbered k → StaysOther (known_at s id) k → IsOld s k.of → IsSound (replaced s id k)
replaced_sound s id k h i o e =
    record {
      fields = h.fields;
      once = h.once;
      sizes = h.sizes;
      arrays = all_set (λ (k : Known). has_elements s.tags k.of ≡ true) s.symbols id k nothing_known h.arrays e.1;
      enumerators = all_set IsNumbered s.symbols id k nothing_known h.enumerators i;
      names = subst (λ n. AreBelow n s.inner) (sym (length-set s.symbols id k)) h.names;
      scopes = subst (λ n. AreAllBelow n s.outer) (sym (length-set s.symbols id k)) h.scopes;
      links = subst (λ n. AreBelow n s.links) (sym (length-set s.symbols id k)) h.links;
      linked = λ x j g. set_related StaysOther s.symbols id k nothing_known (λ x e. e) o j (h.linked x j g);
      fresh = λ n l. unnamed_set s.tags s.symbols id k n (h.fresh n l) (e.0 n l);
    }

pub replaced_follows : (s : State) (id : ℕ) (k : Known) → IsSound s → IsNumbered k → StaysOther (known_at s id) k → is_local k.class ≡ false → StaysKnown (known_at s id) k → has_elements s.tags k.of ≡ true → Follows s (replaced s id k)
replaced_follows s id k h i o c e a =
    record {
      extends =
          record {
            sound = replaced_sound s id k h i o (λ n l. let u = h.fresh n l in same_of n k.of (known_at s id).of e ∙ u.unmentioned id, a);
            count = omega arith;
            symbols = rw (length-set s.symbols id k) (omega arith);
            known = λ j l. set_related StaysKnown s.symbols id k nothing_known (λ x. refl) e j;
            classes = λ j l. set_related StaysOther s.symbols id k nothing_known (λ x e. e) o j;
            locals = λ j l. set_related StaysLocal s.symbols id k nothing_known (λ x e. refl) (λ l. never (sym l ∙ c)) j;
            tags = same_grows s.tags;
            apart = λ n a. apart n a.0;
          };
      here = λ name id e. e;
      before = λ name id e c. e;
    }
  where
    apart : (n : ℕ) → Unnamed s.tags s.symbols n → Unnamed s.tags (slice_set s.symbols id k) n
    apart n u = unnamed_set s.tags s.symbols id k n u (same_of n k.of (known_at s id).of e ∙ u.unmentioned id)

-- a scope opened, and closed behind what stands in it
pub all_below_push : (n : ℕ) (ss : List (List (List ℕ × ℕ))) (s : List (List ℕ × ℕ)) → AreAllBelow n ss → AreBelow n s → AreAllBelow n (ss ++ s ∷ [])
all_below_push n [] s h k = (k, tt)
all_below_push n (x ∷ ss) s h k = (h.0, all_below_push n ss s h.1 k)

pub entered_sound : (s : State) → IsSound s → IsSound (entered s)
entered_sound s h =
    record {
      fields = h.fields;
      once = h.once;
      sizes = h.sizes;
      arrays = h.arrays;
      enumerators = h.enumerators;
      names = tt;
      scopes = all_below_push (length s.symbols) s.outer s.inner h.scopes h.names;
      links = h.links;
      linked = h.linked;
      fresh = h.fresh;
    }

-- the scopes around are as they were, behind more symbols
pub left_sound : (s t : State) → IsSound s → IsSound t → length s.symbols ≤ length t.symbols → IsSound (left s.outer s.inner t)
left_sound s t h g l =
    record {
      fields = g.fields;
      once = g.once;
      sizes = g.sizes;
      arrays = g.arrays;
      enumerators = g.enumerators;
      names = below_more (length s.symbols) (length t.symbols) l s.inner h.names;
      scopes = all_below_more (length s.symbols) (length t.symbols) l s.outer h.scopes;
      links = g.links;
      linked = g.linked;
      fresh = g.fresh;
    }

pub left_follows : (s t : State) → IsSound s → Extends (entered s) t → Follows s (left s.outer s.inner t)
left_follows s t h f =
    record {
      extends =
          record {
            sound = left_sound s t h f.sound f.symbols;
            count = f.count;
            symbols = f.symbols;
            known = f.known;
            classes = f.classes;
            locals = f.locals;
            tags = f.tags;
            apart = f.apart;
          };
      here = λ name id e. e;
      before = λ name id e c. e;
    }
