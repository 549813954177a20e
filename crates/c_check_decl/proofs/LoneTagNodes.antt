-- A tag that stands alone: what is told at its node, and what it makes known.
use Rattle.std.proofs.Common.{◌≡◌, ℕ, List, refl, sym, ap, ◌∙◌}
use Rattle.std.specs.Prelude.{true, false, Some, None}
use Rattle.c_ast.specs.declared.specifier.RecordKind.{RecordKind}
use Rattle.c_symbols.specs.Scoping.{Scoping}
use Rattle.c_types.specs.CType.{CType}
use Rattle.c_types.specs.Table.{Table}
use Rattle.c_meaning.specs.Constraints.{Breaks}
use Rattle.c_meaning.specs.Declarations.{AloneTag}
use Rattle.c_meaning.specs.Declaring.{alone, at_decl}
use Rattle.c_meaning.specs.State.{State, counted, declared, known_at, level_of, place_here}
use Rattle.c_meaning.specs.TypeConstraints.{is_of_kind}
use Rattle.c_meaning.specs.TypeRows.{record_type, tag_key, tagged}
use Rattle.c_meaning.specs.Typing.{Bad, Fine, Outcome}
use Rattle.c_check_expr.specs.Known.{state_of}
use Rattle.c_check_decl.specs.LoneTags.{lone_tag_in}
use Rattle.c_check_decl.proofs.DeclNodes.{decl_breaks, decl_fine}

abbrev pub at_alone : State → ℕ → RecordKind → List ℕ → Outcome CType
at_alone s line k tag = at_decl s line (AloneTag k tag) (alone s line k tag).state (alone s line k tag).of

pub lone_tag_is : (s : Scoping) (a : Table) (line : ℕ) (k : RecordKind) (tag : List ℕ) → lone_tag_in s a line k tag ≡ at_alone (state_of s a) line k tag
unfolding lone_tag_in
lone_tag_is s a line k tag = refl

pub alone_new : (s n : State) (line : ℕ) (k : RecordKind) (tag : List ℕ) (of : CType) → place_here s (tag_key tag) ≡ None → n ≡ declared (counted s) (tag_key tag) (tagged line (level_of s) of None) → of ≡ record_type k s.count → at_alone s line k tag ≡ Fine n of
alone_new s n line k tag of h e o =
    let t = alone s line k tag in
    decl_fine s line (AloneTag k tag) t.state t.of (rw h refl) ∙ rw (h, e, o) refl

pub alone_known : (s : State) (line : ℕ) (k : RecordKind) (tag : List ℕ) (id : ℕ) (of : CType) → place_here s (tag_key tag) ≡ Some id → of ≡ (known_at s id).of → is_of_kind k of ≡ true → at_alone s line k tag ≡ Fine s of
alone_known s line k tag id of h o i =
    let t = alone s line k tag in
    decl_fine s line (AloneTag k tag) t.state t.of (rw (h, sym (ap (is_of_kind k) o) ∙ i) refl) ∙ rw (h, o) refl

pub alone_other : (s : State) (line : ℕ) (k : RecordKind) (tag : List ℕ) (id : ℕ) (of : CType) → place_here s (tag_key tag) ≡ Some id → of ≡ (known_at s id).of → is_of_kind k of ≡ false → at_alone s line k tag ≡ Bad (Breaks 8 line)
alone_other s line k tag id of h o i =
    let t = alone s line k tag in
    decl_breaks s line (AloneTag k tag) t.state t.of 8 (rw (h, sym (ap (is_of_kind k) o) ∙ i) refl)
