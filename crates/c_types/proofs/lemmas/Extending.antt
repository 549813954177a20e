-- Laws of what grows: a table that another extends has as many forms at most, a further member stands
-- below where its type does, and members are fields with a further one.
use Rattle.std.proofs.Common.{◌≡◌, ℕ, ◌<◌, ◌≤◌, List, [], ◌∷◌, ◌++◌, length, sym, ap, subst, arith}
use Rattle.std.specs.Prelude.{◌&&◌, Bool, Err, Ok, OnOk, Result, false, true}
use Rattle.std.proofs.lemmas.List.{length-append}
use Rattle.c_types.specs.declared.type_form.Member.{Member}
use Rattle.c_types.specs.BitFields.{are_fields, is_field}
use Rattle.c_types.specs.Layout.{MemberType}
use Rattle.c_types.specs.Table.{AreMembersBelow, Extends, Table}

pub extends_longer : (a b : Table) → Extends a b → length a.forms ≤ length b.forms
extends_longer a b h = omega (arith, ap length h.forms.1, length-append a.forms h.forms.0)

pub members_push : (n : ℕ) (ms : List Member) (m : Member) → AreMembersBelow n ms → m.of < n → AreMembersBelow n (ms ++ m ∷ [])
members_push n [] m h l = (l, tt)
members_push n (x ∷ ms) m h l = (h.0, members_push n ms m h.1 l)

pub members_pushed : {E : Type 0} (r : Result (Unit {0}) E) (old new : List Member) (m : Member) → OnOk r (new ≡ old ++ m ∷ []) → OnOk r ((n : ℕ) → AreMembersBelow n old → m.of < n → AreMembersBelow n new)
members_pushed (Ok u) old new m e = λ n h l. subst (AreMembersBelow n) (sym e) (members_push n old m h l)
members_pushed (Err x) old new m e = tt

pub fields_push : (ms : List MemberType) (m : MemberType) → are_fields ms ≡ true → is_field m.name m.of m.width ≡ true → are_fields (ms ++ m ∷ []) ≡ true
fields_push [] m h l = ap (λ b. b && true) l
fields_push (x ∷ ms) m h l = by (is_field x.name x.of x.width) (are_fields ms) (are_fields (ms ++ m ∷ [])) h (λ k. fields_push ms m k l)
  where
    by : (a b c : Bool) → (a && b) ≡ true → (b ≡ true → c ≡ true) → (a && c) ≡ true
    by true b c e f = f e
    by false b c e f = e
