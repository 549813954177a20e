use Rattle.std.proofs.Common.{◌≡◌, ◌++◌, [], List, ℕ, true, sym, ap, subst, ◌∙◌}
use Rattle.std.specs.Prelude.{None, Vec, is_some}
use Rattle.std.specs.Map.{lookup}
use Rattle.std.specs.Str.{bytes_eq}
use Rattle.std.specs.declared.alloc.Global.{Global}
use Rattle.indexmap.proofs.CallerLemmas.{insert_entry-new}
use Rattle.c_types.specs.Facts.{noted}
use Rattle.c_types.specs.Keeps.{place_named}
use Rattle.c_types.proofs.Keys.{none_of}
use Rattle.c_types.proofs.Noting.{no_items, noted_again, noted_nameless, noted_new}
use Rattle.c_types.proofs.layout.note.Goals.{then-is_empty-via-then-is_empty, then-is_empty-via-else-is_empty+then-contains_key}
use Rattle.c_types.proofs.layout.note.Goals as goal

pub returns-then-is_empty : goal.returns-then-is_empty
returns-then-is_empty c = λ asked n. (
    let m = c.args.places.now in
    let name = c.args.member.now.name in
    elim c.then-is_empty.branch [
      | then-is_empty-via-then-is_empty w ↦
          let e : name ≡ [] = sym c.as_slice-name.ensures ∙ no_items c.as_slice-name.result.now (sym c.is_empty.ensures ∙ w.if-is_empty.true) in
          subst (λ (k : List ℕ). place_named m asked ≡ noted k c.args.place asked (place_named m asked)) (sym e) (noted_nameless c.args.place asked (place_named m asked) n)
      | then-is_empty-via-else-is_empty+then-contains_key w ↦
          let h : is_some (place_named m c.as_slice-name.result.now) ≡ true = sym w.contains_key.ensures ∙ w.if-contains_key.true in
          noted_again m.entries name c.args.place asked (subst (λ (k : List ℕ). is_some (place_named m k) ≡ true) c.as_slice-name.ensures h)
    ])

pub returns : goal.returns
returns c = λ asked n. (
    let m = c.args.places.now in
    let v = c.extend_from_slice.new.self in
    let s = c.as_slice-name.result.now in
    let name = c.args.member.now.name in
    let j : v.items ≡ s = c.in_ok-extend_from_slice.ensures.items ∙ ap (λ (xs : List ℕ). xs ++ s) c.new-copy.ensures.items in
    let i : v.items ≡ name = j ∙ c.as_slice-name.ensures in
    let a : lookup (λ (k : Vec ℕ Global). bytes_eq v.items k.items) m.entries ≡ None = ap (λ (n : List ℕ). lookup (λ (k : Vec ℕ Global). bytes_eq n k.items) m.entries) j ∙ none_of _ (sym c.if-contains_key.false ∙ c.contains_key.ensures) in
    ap (lookup (λ (k : Vec ℕ Global). bytes_eq asked k.items)) (c.in_ok-insert.ensures.entries ∙ insert_entry-new _ m v c.args.place a) ∙ noted_new m.entries v name c.args.place asked i)
