use Rattle.std.proofs.Common.{inl, inr, map, refl}
use Rattle.c_ast.specs.declared.expr.SpecifierForm.TheVariants as specifier_form
use Rattle.c_ast.specs.Seen.{enumerator_seen, member_seen}
use Rattle.c_ast.proofs.lemmas.SeenTypes.{form_basic, form_enum, form_enum_tag, form_named, form_qualifier, form_record, form_storage}
use Rattle.c_ast.specs.Trees as tree
use Rattle.c_ast.specs.Views.{enumerators_of, members_of}
use Rattle.c_check_decl.proofs.LoneRecords.{not_one, one_other, one_tag}
use Rattle.c_check_decl.proofs.own_specifiers.lone_record.Goals as goal

pub returns-then-list-ne1-clause-none : goal.returns-then-list-ne1-clause-none
returns-then-list-ne1-clause-none c = not_one c.args.list.now c.if-list-ne1.true

pub returns-in-RecordTag-clause-some : goal.returns-in-RecordTag-clause-some
returns-in-RecordTag-clause-some c = one_tag c.args.list.now c.index-list-0.result c.index-list-0-in-RecordTag.result c.in-RecordTag.kind c.in-RecordTag.tag c.as_slice.result.now c.if-list-ne1.false c.in-RecordTag.is c.as_slice.ensures

pub returns-in-Storage-clause-none : goal.returns-in-Storage-clause-none
returns-in-Storage-clause-none c =
    let other = one_other c.args.list.now c.index-list-0.result in
    elim c.in-Storage.is [
      | inl x ↦ other (specifier_form.Storage x.0) (λ line. tree.Stored line x.0) c.if-list-ne1.false x.1 (form_storage x.0) (λ line. refl)
      | inr h ↦ elim h [
        | inl x ↦ other (specifier_form.Qualifier x.0) (λ line. tree.Qualified line x.0) c.if-list-ne1.false x.1 (form_qualifier x.0) (λ line. refl)
        | inr h ↦ elim h [
          | inl x ↦ other (specifier_form.Basic x.0) (λ line. tree.Basic line x.0) c.if-list-ne1.false x.1 (form_basic x.0) (λ line. refl)
          | inr h ↦ elim h [
            | inl x ↦ other (specifier_form.Record x.0 x.1 x.2) (λ line. tree.Record line x.0 x.1 (members_of (map member_seen x.2))) c.if-list-ne1.false x.3 (form_record x.0 x.1 x.2) (λ line. refl)
            | inr h ↦ elim h [
              | inl x ↦ other (specifier_form.Enum x.0 x.1 x.2) (λ line. tree.Enum line x.0 (enumerators_of (map enumerator_seen x.1)) x.2) c.if-list-ne1.false x.3 (form_enum x.0 x.1 x.2) (λ line. refl)
              | inr h ↦ elim h [
                | inl x ↦ other (specifier_form.EnumTag x.0) (λ line. tree.EnumTag line x.0) c.if-list-ne1.false x.1 (form_enum_tag x.0) (λ line. refl)
                | inr x ↦ other (specifier_form.Named x.0) (λ line. tree.NamedType line x.0) c.if-list-ne1.false x.1 (form_named x.0) (λ line. refl)
              ]
            ]
          ]
        ]
      ]
    ]
