-- Members so far, and their names.
use Rattle.std.proofs.Common.{◌≡◌, ℕ, ◌<◌, List, [], ◌∷◌, ◌++◌, refl, sym, ap, ◌∙◌}
use Rattle.std.specs.Prelude.{Bool, true, false, ◌||◌, Option, Some, None, Vec}
use Rattle.std.specs.declared.alloc.Global.{Global}
use Rattle.std.specs.Cmp.Lexicographic.{same_text}
use Rattle.std.specs.List.{list_any}
use Rattle.std.specs.Str.{bytes_eq}
use Rattle.indexmap.specs.IndexSet.{insert_key}
use Rattle.c_types.specs.declared.type_form.Member.{Member}
use Rattle.c_types.specs.CType.{CType}
use Rattle.c_types.specs.Layout.{MemberType}
use Rattle.c_types.specs.Table.{AreMembersBelow, member_types, type_in}
use Rattle.c_meaning.specs.Nodes as node
use Rattle.c_meaning.specs.State.{State}
use Rattle.c_meaning.specs.TypeConstraints.{has_name, repeats_member}
use Rattle.c_meaning.specs.Values.{CoreTree}
use Rattle.c_check_expr.specs.MemberNames.{AreNamed, has_member, is_repeated}

-- ---- names

or_false : (b : Bool) → b ≡ (b || false)
or_false true = refl
or_false false = refl

or_last : (a b c : Bool) → (a || (b || c)) ≡ ((a || b) || c)
or_last true b c = refl
or_last false b c = refl

has_member-append : (ms : List Member) (m : Member) (name : List ℕ) → has_member (ms ++ m ∷ []) name ≡ (has_member ms name || bytes_eq name m.name)
has_member-append [] m name = sym (or_false (bytes_eq name m.name))
has_member-append (x ∷ ms) m name = ap (λ b. bytes_eq name x.name || b) (has_member-append ms m name) ∙ or_last (bytes_eq name x.name) (has_member ms name) (bytes_eq name m.name)

any-append : (p : Vec ℕ Global → Bool) (ks : List (Vec ℕ Global)) (k : Vec ℕ Global) → list_any p (ks ++ k ∷ []) ≡ (list_any p ks || p k)
any-append p [] k = sym (or_false (p k))
any-append p (q ∷ ks) k = ap (λ b. p q || b) (any-append p ks k) ∙ or_last (p q) (list_any p ks) (p k)

abbrev same_key : Vec ℕ Global → Vec ℕ Global → Bool
same_key a b = bytes_eq a.items b.items

-- a name that is there isn't added again
pub named_push : (ks : List (Vec ℕ Global)) (ms : List Member) (k : Vec ℕ Global) (m : Member) → AreNamed ks ms → k.items ≡ m.name → AreNamed (insert_key same_key ks k) (ms ++ m ∷ [])
named_push ks ms k m h e = record { same = λ name. by name (list_any (same_key k) ks) refl ∙ sym (has_member-append ms m name) }
  where
    here : (name : List ℕ) (b : Bool) → bytes_eq name m.name ≡ b → has_member ms m.name ≡ true → has_member ms name ≡ (has_member ms name || b)
    here name false g i = or_false (has_member ms name)
    here name true g i = (let n : name ≡ m.name = same_text name m.name (sym g) in rw (ap (has_member ms) n ∙ i) refl)

    by : (name : List ℕ) (b : Bool) → list_any (same_key k) ks ≡ b → list_any (λ q. bytes_eq name q.items) (insert_key same_key ks k) ≡ (has_member ms name || bytes_eq name m.name)
    by name true g =
        let i : has_member ms m.name ≡ true = sym (ap (has_member ms) e) ∙ sym (h.same k.items) ∙ g in
        rw g (h.same name ∙ here name (bytes_eq name m.name) refl i)
    by name false g = rw g (any-append (λ q. bytes_eq name q.items) ks k ∙ ap (λ b. b || bytes_eq name k.items) (h.same name) ∙ ap (λ n. has_member ms name || bytes_eq name n) e)

has_name_seen : (ts : List CType) (ms : List Member) (name : List ℕ) → has_member ms name ≡ has_name (member_types ts ms) name
has_name_seen ts [] name = refl
has_name_seen ts (m ∷ ms) name = ap (λ b. bytes_eq name m.name || b) (has_name_seen ts ms name)

pub repeats_seen : (s : State) (ts : List CType) (ms : List Member) (name : Option (List ℕ)) (of : CType) (width : Option CoreTree) → is_repeated ms name ≡ repeats_member s (node.Field (member_types ts ms) name of width)
repeats_seen s ts ms (Some name) of width = has_name_seen ts ms name
repeats_seen s ts ms None of width = refl

-- ---- one more

pub member_types-append : (ts : List CType) (ms : List Member) (m : Member) → member_types ts (ms ++ m ∷ []) ≡ member_types ts ms ++ record { name = m.name; of = type_in ts m.of; width = m.width } ∷ []
member_types-append ts [] m = refl
member_types-append ts (x ∷ ms) m = ap (λ (xs : List MemberType). record { name = x.name; of = type_in ts x.of; width = x.width } ∷ xs) (member_types-append ts ms m)

pub members_below-append : (n : ℕ) (ms : List Member) (m : Member) → AreMembersBelow n ms → m.of < n → AreMembersBelow n (ms ++ m ∷ [])
members_below-append n [] m b h = (h, tt)
members_below-append n (x ∷ ms) m b h = (b.0, members_below-append n ms m b.1 h)
