-- Structures and unions are completed once: between the brace and the node of one that is open, no other has its number.
use Rattle.std.proofs.Common.{◌≡◌, ◌⊎◌, ℕ, ◌+◌, ◌<◌, ◌≤◌, true, false, not, ◌||◌, List, ◌∷◌, length, leb, refl, sym, ap, subst, ◌∙◌, inl, inr, arith, lt_of_lt_of_le}
use Rattle.std.specs.Prelude.{◌==◌, Option, Some, None}
use Rattle.std.proofs.lemmas.Bool.Decides.{leb_tells, nat_tests}
use Rattle.c_ast.specs.declared.specifier.RecordKind.{RecordKind}
use Rattle.c_types.specs.BitFields.{are_fields, have_fields}
use Rattle.c_types.specs.CType.{CType}
use Rattle.c_types.specs.Layout.{MemberType}
use Rattle.c_types.specs.Members.{is_defined}
use Rattle.c_meaning.specs.Constraints.{fault_at}
use Rattle.c_meaning.specs.Nodes.{Typing}
use Rattle.c_meaning.specs.Nodes as node
use Rattle.c_meaning.specs.State.{Known, State, counted, known_at, level_of, nothing_known, place_here}
use Rattle.c_meaning.specs.TypeConstraints.{is_defined_record, is_of_kind, is_other_record}
use Rattle.c_meaning.specs.TypeRows.{completed, is_union, number_of, opened, opened_at, record_type, tag_key, tagged, with_tag}
use Rattle.c_fits.specs.Sound.{AreSized, Follows, IsApart, IsNamed, IsSound, StaysKnown, Unnamed, which}
use Rattle.c_fits.proofs.lemmas.Kinds.{elements_of_record, is_of_record, kind_of_record, number_of_record, own_number, same_kind, same_number}
use Rattle.c_fits.proofs.lemmas.Booleans.{and_true, not_false, or_false, or_left, or_right}
use Rattle.c_fits.proofs.lemmas.Growing.{elements_stay, more_grows, then_grows}
use Rattle.c_fits.proofs.lemmas.Constraints.{unbroken}
use Rattle.c_fits.proofs.lemmas.Lists.{last_below, named_below, named_last, seam}
use Rattle.c_fits.proofs.lemmas.Following.{counted_follows, same_follows, tag_follows}

-- the number of what is open between two places
pub record IsOpen (s t : State) (number : ℕ) : Type 0 where
  pub undefined : is_defined t.tags number ≡ false
  pub other : (n : ℕ) → IsApart s t n → (n == number) ≡ false
  pub below : number < t.count

pub completed_follows : (s t : State) (k : RecordKind) (number : ℕ) (ms : List MemberType) → Follows s t → IsOpen s t number → IsSound s → are_fields ms ≡ true → AreSized t.tags ms → Follows s (completed t k number ms)
completed_follows s t k number ms f o h e z =
    record {
      extends =
          record {
            sound =
                record {
                  fields = and_true (are_fields ms) (have_fields t.tags) e f.sound.fields;
                  once = (o.undefined, f.sound.once);
                  sizes = (z, f.sound.sizes);
                  arrays = λ id. elements_stay t.tags (record { number = number; is_union = is_union k; members = ms } ∷ t.tags) (more_grows t.tags (record { number = number; is_union = is_union k; members = ms }) o.undefined) (known_at t id).of (f.sound.arrays id);
                  enumerators = f.sound.enumerators;
                  names = f.sound.names;
                  scopes = f.sound.scopes;
                  links = f.sound.links;
                  linked = f.sound.linked;
                  fresh = λ n l. defined n (f.sound.fresh n l) (later n l);
                };
            count = f.count;
            symbols = f.symbols;
            known = f.known;
            classes = f.classes;
            locals = f.locals;
            tags = then_grows s.tags t.tags (record { number = number; is_union = is_union k; members = ms } ∷ t.tags) f.tags (more_grows t.tags (record { number = number; is_union = is_union k; members = ms }) o.undefined);
            apart = λ n a. defined n (f.apart n a) (o.other n a);
          };
      here = f.here;
      before = f.before;
    }
  where
    later : (n : ℕ) → t.count ≤ n → (n == number) ≡ false
    later n l = let b = o.below in grind (arith, nat_tests, b)

    defined : (n : ℕ) → Unnamed t.tags t.symbols n → (n == number) ≡ false → Unnamed (record { number = number; is_union = is_union k; members = ms } ∷ t.tags) t.symbols n
    defined n u d = record { undefined = or_false (n == number) (is_defined t.tags n) d u.undefined; unmentioned = u.unmentioned }

-- a type of this number has its name now
pub completed_named : (t : State) (k : RecordKind) (number : ℕ) (ms : List MemberType) → IsNamed (completed t k number ms) (record_type k number)
completed_named t k number ms n u = is_of_record k n number ∙ or_left (n == number) (is_defined t.tags n) u.undefined

-- ---- what is opened

pub opened_follows : (s : State) (line : ℕ) (k : RecordKind) (tag : Option (List ℕ)) → IsSound s → Follows s (opened s line k tag).state
opened_follows s line k None h = counted_follows s h
opened_follows s line k (Some tag) h = by (place_here s (tag_key tag))
  where
    by : (o : Option ℕ) → Follows s (opened_at s line k tag o).state
    by (Some id) = same_follows s h
    by None = tag_follows s line tag (record_type k s.count) None h (λ n e. is_of_record k n s.count ∙ e) (elements_of_record s.tags k s.count)

-- a new number is of nothing else
new_number : (s t : State) (n : ℕ) → s.count + 1 ≤ t.count → (n < s.count) ⊎ (t.count ≤ n) → (n == s.count) ≡ false
new_number s t n l (inl m) = grind (arith, nat_tests)
new_number s t n l (inr m) = grind (arith, nat_tests)

open_untagged : (s t : State) → IsSound s → Follows (counted s) t → IsOpen s t s.count
open_untagged s t h f =
    let u = f.apart s.count (h.fresh s.count (omega arith), inl (omega arith)) in
    record {
      undefined = u.undefined;
      other = λ n a. new_number s t n f.count a.1;
      below = lt_of_lt_of_le (omega arith) f.count;
    }

-- ---- under a tag

-- what the node of the record tests of its tag
abbrev Misuses : State → RecordKind → Option ℕ → Type 0
Misuses t k o = (is_other_record t k o || is_defined_record t o) ≡ false

abbrev type_at : State → ℕ → CType
type_at s id = (known_at s id).of

-- a symbol that the node of a record finds under its tag is a structure or union of this kind
is_kind : (t : State) (k : RecordKind) (id : ℕ) → Misuses t k (Some id) → is_of_kind k (type_at t id) ≡ true
is_kind t k id m = not_false (is_of_kind k (type_at t id)) (or_left (not (is_of_kind k (type_at t id))) (is_defined t.tags (number_of (type_at t id))) m)

is_undefined : (t : State) (k : RecordKind) (id : ℕ) → Misuses t k (Some id) → is_defined t.tags (number_of (type_at t id)) ≡ false
is_undefined t k id m = or_right (not (is_of_kind k (type_at t id))) (is_defined t.tags (number_of (type_at t id))) m

-- the tag was declared before
open_found : (s t : State) (k : RecordKind) (id : ℕ) → IsSound s → Follows s t → StaysKnown (known_at s id) (known_at t id) → Misuses t k (Some id) → IsOpen s t (number_of (known_at s id).of)
open_found s t k id h f e m =
    record {
      undefined = ap (is_defined t.tags) (sym (same_number k (type_at t id) (type_at s id) e (is_kind t k id m) kind)) ∙ is_undefined t k id m;
      other = λ n a. sym (own_number k (type_at s id) kind n) ∙ a.0.unmentioned id;
      below = below (leb_tells s.count (number_of (type_at s id)));
    }
  where
    kind : is_of_kind k (type_at s id) ≡ true
    kind = sym (same_kind k (type_at t id) (type_at s id) e) ∙ is_kind t k id m

    mentioned : (s.count ≤ number_of (type_at s id)) → (number_of (type_at s id) == number_of (type_at s id)) ≡ false
    mentioned l = let u = h.fresh (number_of (type_at s id)) l in sym (own_number k (type_at s id) kind (number_of (type_at s id))) ∙ u.unmentioned id

    below : ((leb s.count (number_of (type_at s id)) ≡ true) × (s.count ≤ number_of (type_at s id))) ⊎ ((leb s.count (number_of (type_at s id)) ≡ false) × (number_of (type_at s id) < s.count)) → number_of (type_at s id) < t.count
    below (inl l) = let g = mentioned l.1 in grind (arith, nat_tests, g)
    below (inr l) = lt_of_lt_of_le l.1 f.count

-- the tag is new
open_new : (s t : State) (line : ℕ) (k : RecordKind) (tag : List ℕ) → Follows (with_tag s line tag (record_type k s.count) None).state t → Misuses t k (Some (length s.symbols))
    → which (type_at t (length s.symbols)) ≡ which (record_type k s.count) → IsOpen s t (number_of (record_type k s.count))
open_new s t line k tag f m e =
    subst (IsOpen s t) (sym (number_of_record k s.count))
    (record {
      undefined = ap (is_defined t.tags) (sym (number_of_record k s.count) ∙ sym (same_number k (type_at t (length s.symbols)) (record_type k s.count) e (is_kind t k (length s.symbols) m) (kind_of_record k s.count))) ∙ is_undefined t k (length s.symbols) m;
      other = λ n a. new_number s t n f.count a.1;
      below = lt_of_lt_of_le (omega arith) f.count;
    })

open_tagged : (s t : State) (line : ℕ) (k : RecordKind) (tag : List ℕ) (o : Option ℕ) → IsSound s → place_here s (tag_key tag) ≡ o → Follows (opened_at s line k tag o).state t → Misuses t k (place_here t (tag_key tag))
    → IsOpen s t (number_of (opened_at s line k tag o).of)
open_tagged s t line k tag (Some id) h e f m =
    let l = named_below (length s.symbols) s.inner (tag_key tag) id h.names e in
    open_found s t k id h f (f.known id l) (subst (Misuses t k) (f.here (tag_key tag) id e) m)
open_tagged s t line k tag None h e f m =
    let g = subst (Misuses t k) (f.here (tag_key tag) (length s.symbols) (named_last s.inner (tag_key tag) (length s.symbols) e)) m in
    open_new s t line k tag f g
    (f.known (length s.symbols) (last_below s.symbols (tagged line (level_of s) (record_type k s.count) None)) ∙ ap (λ (k : Known). which k.of) (seam s.symbols (tagged line (level_of s) (record_type k s.count) None) nothing_known))

pub open_is : (s t : State) (line : ℕ) (k : RecordKind) (tag : Option (List ℕ)) (ms : List MemberType) → IsSound s → Follows (opened s line k tag).state t
    → fault_at t line (Typing (node.Record k tag (number_of (opened s line k tag).of) ms)) ≡ None → IsOpen s t (number_of (opened s line k tag).of)
open_is s t line k None ms h f e = subst (IsOpen s t) (sym (number_of_record k s.count)) (open_untagged s t h f)
open_is s t line k (Some tag) ms h f e =
    open_tagged s t line k tag (place_here s (tag_key tag)) h refl f (unbroken t line (Typing (node.Record k (Some tag) (number_of (opened s line k (Some tag)).of) ms)) e 8)
