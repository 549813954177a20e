-- Roots of operations: none is a label, and none names one.
use Rattle.std.specs.Prelude.{ℕ, ℤ, Bool, true, false}
use Rattle.lcc_base.specs.declared.order.Order.{Order}
use Rattle.objects.specs.declared.width.Width.{Width}
use Rattle.objects.specs.declared.width.Width.TheVariants as width
use Rattle.op_forest.specs.declared.suffix.Suffix.{Suffix}
use Rattle.op_forest.specs.declared.suffix.Suffix.TheVariants.{C, S, I, U, P, B, V}
use Rattle.c_meaning.specs.Scalars.{scalar_of}
use Rattle.c_runs.specs.Places.{Spot}
use Rattle.c_rows_agree.specs.Places.{word_stored, stored_by, stored_as}
use Rattle.c_rows_agree.specs.Templates.{Template, Root}
use Rattle.c_rows_agree.specs.Typed.{Typed, as_p}
use Rattle.lowered_forms.specs.Accesses.{written_by, copy_root}
use Rattle.lowered_forms.specs.Calls.{call_stored}
use Rattle.lowered_blocks.specs.Known.{IsNoLabel}
use Rattle.lowered_blocks.proofs.lemmas.PlainTemplates.{IsPlainSym, IsPlain, IsPlainValue, as_p_in, narrow_in, written_left, written_right}

pub record IsPlainRoot (r : Root) : Type 0 where
  pub op : IsNoLabel r.head.operator.op
  pub symbol : IsPlainSym r.head.sym
  pub left : IsPlain r.left
  pub right : IsPlain r.right

word_plain : (s : Suffix) (a t : Template) → IsPlain a → IsPlain t → IsPlainRoot (word_stored s a t)
word_plain C a t f g = record { op = tt; symbol = tt; left = f; right = g }
word_plain S a t f g = record { op = tt; symbol = tt; left = f; right = g }
word_plain I a t f g = record { op = tt; symbol = tt; left = f; right = g }
word_plain U a t f g = record { op = tt; symbol = tt; left = f; right = g }
word_plain P a t f g = record { op = tt; symbol = tt; left = f; right = g }
word_plain B a t f g = record { op = tt; symbol = tt; left = f; right = g }
word_plain V a t f g = record { op = tt; symbol = tt; left = f; right = g }

stored_by_plain : (w : Width) (a : Template) (b : Typed) → IsPlain a → IsPlainValue b → IsPlainRoot (stored_by w a b)
stored_by_plain width.One a b f g = record { op = tt; symbol = tt; left = f; right = narrow_in b.suffix C b.tree g }
stored_by_plain width.Two a b f g = record { op = tt; symbol = tt; left = f; right = narrow_in b.suffix S b.tree g }
stored_by_plain width.Four a b f g = word_plain b.suffix a b.tree f g

pub stored_plain : (w : Width) (a b : Typed) → IsPlainValue a → IsPlainValue b → IsPlainRoot (stored_as w a b)
stored_plain w a b f g = stored_by_plain w (as_p a) b (as_p_in a.suffix a.tree f) g

pub written_plain : (field shared : Bool) (order : Order) (x : Spot) (p v : Typed) → IsPlainValue p → IsPlainValue v → IsPlainRoot (written_by field shared order x p v)
written_plain true shared order x p v f g = record { op = tt; symbol = tt; left = written_left true shared order x p v f; right = written_right true shared order x p v f g }
written_plain false shared order x p v f g = stored_plain (scalar_of x.of).width p v f g

pub copy_plain : (size align : ℕ) (to from : Typed) → IsPlainValue to → IsPlainValue from → IsPlainRoot (copy_root size align to from)
copy_plain size align to from f g = record { op = tt; symbol = tt; left = as_p_in to.suffix to.tree f; right = as_p_in from.suffix from.tree g }

pub call_plain : (z : ℤ) (f : Typed) → IsPlainValue f → IsPlainRoot (call_stored z f)
call_plain z f h = record { op = tt; symbol = tt; left = tt; right = as_p_in f.suffix f.tree h }
