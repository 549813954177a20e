-- Structures assigned.
use Rattle.std.proofs.Common.{◌≡◌, ◌∙◌, ℕ, sym, ap}
use Rattle.std.specs.Prelude.{Option, Some, None, Result as Checked, Ok}
use Rattle.lcc_base.specs.declared.cause.Cause.{Cause}
use Rattle.objects.specs.declared.purpose.Purpose.TheVariants.{Assignment}
use Rattle.objects.specs.declared.value.Value.{Value}
use Rattle.objects.specs.Accesses.{read_cause, if_none}
use Rattle.objects.specs.Copies.{copied}
use Rattle.c_types.specs.CType.{CType}
use Rattle.c_runs.specs.Worlds.{World, objects}
use Rattle.c_runs.specs.Outcomes.{if_fine, stores, undefined}
use Rattle.c_runs.specs.Places.{align_of, size_of}
use Rattle.c_runs.specs.Calls.{Setting}
use Rattle.c_runs.specs.Expressions.{assigned_whole}

-- the same cause by the type's size and alignment
of_type : (s : Setting) (of : CType) (from : Value) (w : World) (size alignment : ℕ) (cause : Option Cause)
    → size ≡ size_of s.unit.tags of → alignment ≡ align_of s.unit.tags of
    → read_cause (objects w) from size alignment ≡ cause → read_cause (objects w) from (size_of s.unit.tags of) (align_of s.unit.tags of) ≡ cause
of_type s of from w size alignment cause is_size is_alignment h =
    sym (ap (λ (n : ℕ). read_cause (objects w) from n alignment) is_size ∙ ap (λ (n : ℕ). read_cause (objects w) from (size_of s.unit.tags of) n) is_alignment) ∙ h

-- one whose source can't be read
pub unreadable_ends : (s : Setting) (of : CType) (from_line line : ℕ) (to from : Value) (k : ℕ) (w : World) (size alignment : ℕ) (cause : Cause)
    → size ≡ size_of s.unit.tags of → alignment ≡ align_of s.unit.tags of
    → read_cause (objects w) from size alignment ≡ Some cause
    → assigned_whole s of from_line line to from k w ≡ undefined cause from_line w
unreadable_ends s of from_line line to from k w size alignment cause is_size is_alignment h =
    let g = of_type s of from w size alignment (Some cause) is_size is_alignment h in
    ap (λ (c : Option Cause). if_fine (if_none c (let r : Checked Value Cause = Ok from in r)) from_line w (λ v. stores (copied Assignment (objects w) v to (size_of s.unit.tags of) (align_of s.unit.tags of)) to line k w)) g

-- and one whose source can
pub readable_stores : (s : Setting) (of : CType) (from_line line : ℕ) (to from : Value) (k : ℕ) (w : World) (size alignment : ℕ)
    → size ≡ size_of s.unit.tags of → alignment ≡ align_of s.unit.tags of
    → read_cause (objects w) from size alignment ≡ None
    → assigned_whole s of from_line line to from k w ≡ stores (copied Assignment (objects w) from to size alignment) to line k w
readable_stores s of from_line line to from k w size alignment is_size is_alignment h =
    let g = of_type s of from w size alignment None is_size is_alignment h in
    ap (λ (c : Option Cause). if_fine (if_none c (let r : Checked Value Cause = Ok from in r)) from_line w (λ v. stores (copied Assignment (objects w) v to (size_of s.unit.tags of) (align_of s.unit.tags of)) to line k w)) g
    ∙ sym
    (ap (λ (n : ℕ). stores (copied Assignment (objects w) from to n alignment) to line k w) is_size
    ∙ ap (λ (n : ℕ). stores (copied Assignment (objects w) from to (size_of s.unit.tags of) n) to line k w) is_alignment)
