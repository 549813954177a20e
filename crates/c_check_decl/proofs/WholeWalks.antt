-- A declared name behind its initialiser: its constraints, what it declares, and what is known of it from there on.
use Rattle.std.proofs.Common.{◌≡◌, ℕ, Bool, Option, Some, None, length, sym, ap, ◌∙◌}
use Rattle.std.specs.Prelude.{Ok, Err, is_some}
use Rattle.c_ast.specs.Trees.{InitialiserTree}
use Rattle.c_symbols.specs.Scoping.{Scoping}
use Rattle.c_types.specs.CType.{CType}
use Rattle.c_types.specs.Table.{Table}
use Rattle.c_meaning.specs.Declarations.{Declares as DeclaresTrees, Whole, decl_constraints, declares, with_whole}
use Rattle.c_meaning.specs.Declaring.{at_whole}
use Rattle.c_meaning.specs.NodeConstraints.{first_of}
use Rattle.c_meaning.specs.Typing.{Outcome, Fine}
use Rattle.c_values.specs.declared.check_fault.CheckFault.TheVariants.{Constraint}
use Rattle.c_check_expr.specs.Keeps.{Keeps}
use Rattle.c_check_expr.specs.Kept.{keeps_itself}
use Rattle.c_check_expr.specs.Known.{AreSymbolsIn, state_of}
use Rattle.c_check_expr.specs.Walks.{Walks}
use Rattle.c_initialisers.specs.declared.filled.Filled.{Filled}
use Rattle.c_check_decl.specs.declared.declares.Declares.{Declares}
use Rattle.c_check_decl.specs.declared.naming.Naming.{Naming}
use Rattle.c_check_decl.specs.Declares.{AreDeclaredIn, declares_in, maybe_filled_in}
use Rattle.c_check_decl.proofs.lemmas.DeclaresStay.{declares_later, declares_stay}
use Rattle.c_check_decl.specs.Named.{naming_in}
use Rattle.c_check_decl.proofs.DeclNodes.{decl_breaks, decl_fine}
use Rattle.c_check_decl.proofs.WholeDeclares.{is_some_filled}

module _ (s : Scoping) (a : Table) (line own place : ℕ) (of : CType) (n : Naming) (i : Option InitialiserTree) (f : Option Filled) (b : Bool) (is : b ≡ is_some f) where
  abbrev outcome : Outcome DeclaresTrees
  outcome = at_whole (state_of s a) line own place of (naming_in a n) i (maybe_filled_in a f)

  same : is_some (maybe_filled_in a f) ≡ b
  same = is_some_filled a f ∙ sym is

  same_fault : first_of decl_constraints (state_of s a) (Whole (naming_in a n) (is_some (maybe_filled_in a f))) ≡ first_of decl_constraints (state_of s a) (Whole (naming_in a n) b)
  same_fault = ap (λ x. first_of decl_constraints (state_of s a) (Whole (naming_in a n) x)) same

  pub whole_stops : (k : ℕ) → AreSymbolsIn (length a.forms) s.symbols → Some k ≡ first_of decl_constraints (state_of s a) (Whole (naming_in a n) b) → Walks declares_in AreDeclaredIn outcome s a s a (Err (Constraint k own))
  whole_stops k l h = record {
    ok = tt;
    err = decl_breaks (state_of s a) own (Whole (naming_in a n) (is_some (maybe_filled_in a f))) _ _ k (same_fault ∙ sym h);
    within = tt;
    keeps = keeps_itself s a l;
  }

  pub whole_goes : (u : Scoping) (d : Table) (v : Declares) → None ≡ first_of decl_constraints (state_of s a) (Whole (naming_in a n) b) → declares_in a v ≡ declares (state_of s a) line place of (naming_in a n) i (maybe_filled_in a f) → AreDeclaredIn (length a.forms) v
      → state_of u d ≡ with_whole (state_of s a) (naming_in a n) b → Keeps s a u d → Walks declares_in AreDeclaredIn outcome s a u d (Ok v)
  whole_goes u d v h e w g k =
      let behind = ap (with_whole (state_of s a) (naming_in a n)) same ∙ sym g in
      let what = sym e ∙ sym (declares_stay a d k.extends v w) in
      record {
        ok = decl_fine (state_of s a) own (Whole (naming_in a n) (is_some (maybe_filled_in a f))) _ _ (same_fault ∙ sym h)
            ∙ ap (λ m. Fine m (declares (state_of s a) line place of (naming_in a n) i (maybe_filled_in a f))) behind
            ∙ ap (Fine (state_of u d)) what;
        err = tt;
        within = declares_later a d k.extends v w;
        keeps = k;
      }
