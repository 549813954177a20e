-- What stays when a table grows: checked expressions, and the types that they name.
use Rattle.std.proofs.Common.{◌≡◌, ℕ, ◌<◌, ◌≤◌, List, [], ◌++◌, length, refl, sym, ap, ◌∙◌, append_assoc, arith}
use Rattle.std.proofs.lemmas.List.{append-nil, length-append}
use Rattle.std.specs.Prelude.{is_some}
use Rattle.c_types.specs.declared.type_form.TypeForm.{TypeForm}
use Rattle.c_types.specs.declared.extent.Extent.{Extent}
use Rattle.c_types.specs.Layout.{Tag}
use Rattle.c_types.specs.Table.{Table, Completed, Extends, Grows, type_at, tags}
use Rattle.c_meaning.specs.CoreTrees.{CoreOf, Core, CoresOf, NoCore, Cores, IsIn, AreIn, seen, all_seen, type_of}

pub longer : (old new : Table) → Extends old new → length old.forms ≤ length new.forms
longer old new h = omega (arith, ap length h.forms.1, length-append old.forms h.forms.0)

mutual
  pub seen_stays : (old new : Table) → Extends old new → (c : CoreOf ℕ) → IsIn (length old.forms) c → seen (type_at new) c ≡ seen (type_at old) c
  seen_stays old new h (Core what of line kids) i = rw (h.types_stay of i.0, all_stay old new h kids i.1) refl

  pub all_stay : (old new : Table) → Extends old new → (cs : CoresOf ℕ) → AreIn (length old.forms) cs → all_seen (type_at new) cs ≡ all_seen (type_at old) cs
  all_stay old new h NoCore i = refl
  all_stay old new h (Cores c cs) i = rw (seen_stays old new h c i.0, all_stay old new h cs i.1) refl

mutual
  pub in_more : (n m : ℕ) → n ≤ m → (c : CoreOf ℕ) → IsIn n c → IsIn m c
  in_more n m l (Core what of line kids) i = (let b = i.0 in omega arith, all_in_more n m l kids i.1)

  pub all_in_more : (n m : ℕ) → n ≤ m → (cs : CoresOf ℕ) → AreIn n cs → AreIn m cs
  all_in_more n m l NoCore i = tt
  all_in_more n m l (Cores c cs) i = (in_more n m l c i.0, all_in_more n m l cs i.1)

pub in_later : (old new : Table) → Extends old new → (c : CoreOf ℕ) → IsIn (length old.forms) c → IsIn (length new.forms) c
in_later old new h c i = in_more (length old.forms) (length new.forms) (longer old new h) c i

pub all_in_later : (old new : Table) → Extends old new → (cs : CoresOf ℕ) → AreIn (length old.forms) cs → AreIn (length new.forms) cs
all_in_later old new h cs i = all_in_more (length old.forms) (length new.forms) (longer old new h) cs i

-- its own type stands in the table
pub type_in_table : (n : ℕ) (c : CoreOf ℕ) → IsIn n c → type_of c < n
type_in_table n (Core what of line kids) i = i.0

pub type_seen : {T U : Type 0} (known : T → U) (c : CoreOf T) → type_of (seen known c) ≡ known (type_of c)
type_seen known (Core what of line kids) = refl

-- ---- tables that grow

pub extends_on : (a b c : Table) → Extends a b → Extends b c → Extends a c
extends_on a b c h k =
    let n = longer a b h in
    record {
      forms = (h.forms.0 ++ k.forms.0, k.forms.1 ∙ ap (λ (fs : List TypeForm). fs ++ k.forms.0) h.forms.1 ∙ append_assoc a.forms h.forms.0 k.forms.0);
      completed = (h.completed.0 ++ k.completed.0, k.completed.1 ∙ ap (λ (cs : List Completed). cs ++ k.completed.0) h.completed.1 ∙ append_assoc a.completed h.completed.0 k.completed.0);
      types_stay = λ id l. k.types_stay id (omega (arith, l, n)) ∙ h.types_stay id l;
      tags_stay = (k.tags_stay.0 ++ h.tags_stay.0, k.tags_stay.1 ∙ ap (λ (ts : List Tag). k.tags_stay.0 ++ ts) h.tags_stay.1 ∙ sym (append_assoc k.tags_stay.0 h.tags_stay.0 (tags a)));
      sizes_stay = λ n s. k.sizes_stay n (ap (λ (e : Extent). is_some e.size) (h.sizes_stay n s) ∙ s) ∙ h.sizes_stay n s;
    }

pub extends_itself : (t : Table) → Extends t t
extends_itself t = record { forms = ([], sym (append-nil t.forms)); completed = ([], sym (append-nil t.completed)); types_stay = λ id l. refl; tags_stay = ([], refl); sizes_stay = λ n s. refl }

pub grows_itself : (t : Table) → Grows t t
grows_itself t = record { extends = extends_itself t; completed = refl; tags_same = refl; count_same = refl }

pub grows_on : (a b c : Table) → Grows a b → Grows b c → Grows a c
grows_on a b c h k =
    record {
      extends = extends_on a b c h.extends k.extends;
      completed = k.completed ∙ h.completed;
      tags_same = k.tags_same ∙ h.tags_same;
      count_same = k.count_same ∙ h.count_same;
    }

-- ---- symbols
