-- Walks over the specifiers of a definition, which may have none.
use Rattle.std.proofs.Common.{◌≡◌, ℕ, ◌<◌, List, [], length, refl, sym, ap, ◌∙◌}
use Rattle.std.specs.Prelude.{true, false, Some, None, Result, Ok, Err, IsErrAnd}
use Rattle.c_ast.specs.declared.expr.Specifiers.{Specifiers as SpecifiersValue, out-Specifiers}
use Rattle.c_ast.specs.Seen.{specifiers_seen}
use Rattle.c_ast.proofs.lemmas.SeenTypes.{specifiers_parts}
use Rattle.c_symbols.specs.Scoping.{Scoping}
use Rattle.c_types.specs.CType.{CType, Int, basic}
use Rattle.c_types.specs.Table.{Table, type_at}
use Rattle.c_meaning.specs.Constraints.{Breaks}
use Rattle.c_meaning.specs.Declarations.{DeclNode, Outside, decl_constraints, decl_fault, is_inner_class}
use Rattle.c_meaning.specs.Declaring.{at_decl, at_outside, line_of}
use Rattle.c_meaning.specs.NodeConstraints.{first_of}
use Rattle.c_meaning.specs.State.{State}
use Rattle.c_meaning.specs.Typing.{Bad, Fine, then_do}
use Rattle.c_values.specs.declared.check_fault.CheckFault.{CheckFault}
use Rattle.c_values.specs.declared.check_fault.CheckFault.TheVariants.{Constraint}
use Rattle.c_check_expr.specs.declared.parts.Specified.{Specified}
use Rattle.c_check_expr.specs.Known.{AreSymbolsIn, state_of}
use Rattle.c_check_expr.specs.Kept.{keeps_itself}
use Rattle.c_check_expr.specs.PartsSeen.{specified_seen}
use Rattle.c_check_expr.specs.TypedIn.{specifiers_in}
use Rattle.c_check_expr.proofs.lemmas.Walking.{first_stops, walk_as, walk_then}
use Rattle.c_check_expr.specs.Walks.{IsSpecifiedIn, Walks}
use Rattle.c_check_function.specs.FunctionsSeen.{result_in}

decl_breaks : {T : Type 0} (s : State) (line : ℕ) (n : DeclNode) (behind : State) (t : T) (k : ℕ) → first_of decl_constraints s n ≡ Some k → at_decl s line n behind t ≡ Bad (Breaks k line)
unfolding decl_fault
decl_breaks s line n behind t k b = rw b refl

decl_fine : {T : Type 0} (s : State) (line : ℕ) (n : DeclNode) (behind : State) (t : T) → first_of decl_constraints s n ≡ None → at_decl s line n behind t ≡ Fine behind t
unfolding decl_fault
decl_fine s line n behind t b = rw b refl

-- ---- no specifiers

pub result_none : (s : Scoping) (a : Table) (b : Specified) → AreSymbolsIn (length a.forms) s.symbols → b.classes ≡ [] → type_at a b.of ≡ basic Int → b.of < length a.forms → Walks specified_seen IsSpecifiedIn (result_in s a None) s a s a (Ok b)
unfolding result_in
result_none s a b i e h l =
    record {
      ok = sym (ap (λ (cs : List _). Fine (state_of s a) (record { classes = cs; of = type_at a b.of })) e ∙ ap (λ (t : CType). Fine (state_of s a) (record { classes = []; of = t })) h);
      err = tt;
      within = l;
      keeps = keeps_itself s a i;
    }

-- ---- specifiers

result_is : (s : Scoping) (a : Table) (v : SpecifiersValue) → result_in s a (Some (specifiers_seen v)) ≡ then_do (specifiers_in s a (specifiers_seen v)) (λ m b. at_outside true m (line_of (specifiers_seen v)) b)
unfolding result_in specifiers_in
result_is s a v = refl

pub result_stops : (s u : Scoping) (a b : Table) (v : SpecifiersValue) (e : CheckFault) (r : Result Specified CheckFault) → IsErrAnd r (λ d. d ≡ e) → Walks specified_seen IsSpecifiedIn (specifiers_in s a (specifiers_seen v)) s a u b (Err e)
    → Walks specified_seen IsSpecifiedIn (result_in s a (Some (specifiers_seen v))) s a u b r
result_stops s u a b v e r h w = walk_as _ _ (result_is s a v) (first_stops specified_seen IsSpecifiedIn (specifiers_in s a (specifiers_seen v)) (λ m b. at_outside true m (line_of (specifiers_seen v)) b) r h w)

module _ (s u : Scoping) (a b : Table) (v : SpecifiersValue) (base : Specified) (w : Walks specified_seen IsSpecifiedIn (specifiers_in s a (specifiers_seen v)) s a u b (Ok base)) where
  goes : (r : Result Specified CheckFault) → Walks specified_seen IsSpecifiedIn (at_outside true (state_of u b) (line_of (specifiers_seen v)) (specified_seen b base)) u b u b r → Walks specified_seen IsSpecifiedIn (result_in s a (Some (specifiers_seen v))) s a u b r
  goes r x = walk_as _ _ (result_is s a v) (walk_then specified_seen IsSpecifiedIn (specifiers_in s a (specifiers_seen v)) (λ m b. at_outside true m (line_of (specifiers_seen v)) b) s u u a b b base r w x)

  pub result_breaks : is_inner_class base.classes ≡ true → Walks specified_seen IsSpecifiedIn (result_in s a (Some (specifiers_seen v))) s a u b (Err (Constraint 3 (out-Specifiers v).line))
  result_breaks h =
      goes (Err (Constraint 3 (out-Specifiers v).line))
      (record {
        ok = tt;
        err = ap (λ l. at_outside true (state_of u b) l (specified_seen b base)) (ap line_of (specifiers_parts v)) ∙ decl_breaks (state_of u b) (out-Specifiers v).line (Outside base.classes) (state_of u b) (specified_seen b base) 3 (rw h refl);
        within = tt;
        keeps = keeps_itself u b w.keeps.symbols;
      })

  pub result_goes : is_inner_class base.classes ≡ false → Walks specified_seen IsSpecifiedIn (result_in s a (Some (specifiers_seen v))) s a u b (Ok base)
  result_goes h =
      goes (Ok base)
      (record { ok = decl_fine (state_of u b) (line_of (specifiers_seen v)) (Outside base.classes) (state_of u b) (specified_seen b base) (rw h refl); err = tt; within = w.within; keeps = keeps_itself u b w.keeps.symbols })
