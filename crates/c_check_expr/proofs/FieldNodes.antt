-- What is told at the node of a member.
use Rattle.std.proofs.Common.{◌≡◌, refl}
use Rattle.std.specs.Prelude.{true, false, Some, None}
use Rattle.c_meaning.specs.Constraints.{constraints, first_broken}
use Rattle.c_meaning.specs.Nodes.{TypeNode, Typing}
use Rattle.c_meaning.specs.Nodes as node
use Rattle.c_meaning.specs.State.{State}
use Rattle.c_meaning.specs.TypeConstraints.{is_bad_field, repeats_member}
use Rattle.std.specs.Prelude.{ℕ, List, Option}
use Rattle.c_types.specs.CType.{CType}
use Rattle.c_types.specs.Layout.{MemberType}
use Rattle.c_meaning.specs.Types.{has_size}
use Rattle.c_meaning.specs.Values.{CoreTree}

module _ (s : State) (before : List MemberType) (name : Option (List ℕ)) (of : CType) (width : Option CoreTree) where
  abbrev field : TypeNode
  field = node.Field before name of width

  pub name_broken : repeats_member s field ≡ true → first_broken constraints s (Typing field) ≡ Some 9
  name_broken r = rw (r, repeats_member) refl

  pub object_broken : repeats_member s field ≡ false → has_size s.tags of ≡ false → first_broken constraints s (Typing field) ≡ Some 10
  object_broken r o = rw (r, o, repeats_member) refl

  pub width_broken : repeats_member s field ≡ false → has_size s.tags of ≡ true → is_bad_field s field ≡ true → first_broken constraints s (Typing field) ≡ Some 11
  width_broken r o b = rw (r, o, b, repeats_member, is_bad_field) refl

  pub none_broken : repeats_member s field ≡ false → has_size s.tags of ≡ true → is_bad_field s field ≡ false → first_broken constraints s (Typing field) ≡ None
  none_broken r o b = rw (r, o, b, repeats_member, is_bad_field) refl
