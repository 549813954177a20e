-- The walk over one external declaration: a function's definition or a declaration, and what the unit has behind it.
use Rattle.std.proofs.Common.{◌≡◌, ℕ, length, refl, sym, ap, ◌∙◌}
use Rattle.std.specs.Prelude.{Result, Ok, Err, IsErrAnd}
use Rattle.std.specs.Global.{Box}
use Rattle.c_ast.specs.SeenUnits.{declaration_seen}
use Rattle.c_ast.specs.Trees.{DeclarationTree, Declares as DeclaresTree}
use Rattle.c_ast.specs.declared.statement.Declaration.{Declaration}
use Rattle.c_ast.specs.declared.unit.External.{External}
use Rattle.c_ast.specs.declared.unit.ExternalForm.TheVariants as form
use Rattle.c_ast.specs.declared.unit.FunctionDefinition.{FunctionDefinition}
use Rattle.c_symbols.specs.Scoping.{Scoping}
use Rattle.c_types.specs.Table.{Table}
use Rattle.c_meaning.specs.Declarations.{Declares as DeclaresTrees}
use Rattle.c_meaning.specs.State.{State}
use Rattle.c_meaning.specs.Typing.{Outcome, Fine, then_do}
use Rattle.c_values.specs.declared.check_fault.CheckFault.{CheckFault}
use Rattle.c_check_expr.specs.Known.{AreSymbolsIn, state_of}
use Rattle.c_check_expr.proofs.lemmas.Walking.{first_stops, walk_as, walk_none}
use Rattle.c_check_expr.proofs.lemmas.WalkLists.{then_then}
use Rattle.c_check_expr.specs.Walks.{Walks}
use Rattle.c_check_decl.specs.declared.declares.Declares.{Declares}
use Rattle.c_check_decl.specs.Declares.{AreDeclaredIn, declares_in}
use Rattle.c_check_decl.specs.DeclaredIn.{declaration_in}
use Rattle.c_check_function.specs.declared.function_definitions.Defines.{Defines}
use Rattle.c_check_function.specs.Defined.{AreDefinedIn, DefinesTrees, FunctionSyntax, defines_in, function_in, function_seen, made_of}
use Rattle.c_units.specs.Externals.{Parts, with_declared}
use Rattle.c_units.specs.Functions.{typed_function}
use Rattle.c_unit_parts.specs.declared.UnitParts.{UnitParts}
use Rattle.c_unit_parts.specs.PartsIn.{ArePartsIn, parts_in}
use Rattle.c_check_unit.specs.ExternalsIn.{external_form_seen, external_in, external_seen, function_tree, with_defined}
use Rattle.c_check_unit.proofs.WithParts.{parts_later, parts_stay}

abbrev defined : Parts → State → DefinesTrees → Outcome Parts
defined u m d = Fine m (with_defined u d)

abbrev declared : Parts → State → DeclaresTrees → Outcome Parts
declared u m d = Fine m (with_declared u d)

function_is : (s : Scoping) (a : Table) (u : Parts) (line : ℕ) (f : FunctionSyntax) → external_in s a u (function_tree line f) ≡ then_do (function_in s a line f) (defined u)
unfolding external_in function_in
function_is s a u line f = sym (then_then (typed_function (state_of s a) line f.specifiers f.declarator f.parameters f.body) (λ m g. Fine m (made_of g)) (defined u))

declaration_is : (s : Scoping) (a : Table) (u : Parts) (line : ℕ) (d : DeclarationTree) → external_in s a u (DeclaresTree line d) ≡ then_do (declaration_in s a d) (declared u)
unfolding external_in declaration_in
declaration_is s a u line d = refl

module _ (s : Scoping) (a : Table) (p : UnitParts) (e : External) where
  -- ---- a function's definition

  module _ (f : Box FunctionDefinition) (g : FunctionDefinition) (is : e.form ≡ form.Function f) (at : g ≡ f.value) where
    tree_is : external_in s a (parts_in a p) (external_seen e) ≡ then_do (function_in s a e.line (function_seen g)) (defined (parts_in a p))
    tree_is =
        ap (λ x. external_in s a (parts_in a p) (external_form_seen x e.line)) is
        ∙ ap (λ (x : FunctionDefinition). external_in s a (parts_in a p) (function_tree e.line (function_seen x))) (sym at)
        ∙ function_is s a (parts_in a p) e.line (function_seen g)

    pub function_stops : (u : Scoping) (b : Table) (c : CheckFault) (r : Result UnitParts CheckFault) → IsErrAnd r (λ x. x ≡ c) → Walks defines_in AreDefinedIn (function_in s a e.line (function_seen g)) s a u b (Err c) → Walks parts_in ArePartsIn (external_in s a (parts_in a p) (external_seen e)) s a u b r
    function_stops u b c r h w = walk_as _ _ tree_is (first_stops parts_in ArePartsIn (function_in s a e.line (function_seen g)) (defined (parts_in a p)) r h w)

    pub function_goes : (u : Scoping) (b : Table) (d : Defines) (q : UnitParts) → ArePartsIn (length a.forms) p → Walks defines_in AreDefinedIn (function_in s a e.line (function_seen g)) s a u b (Ok d)
        → ((t : Table) → parts_in t q ≡ with_defined (parts_in t p) (defines_in t d)) → ((n : ℕ) → ArePartsIn n p → AreDefinedIn n d → ArePartsIn n q) → Walks parts_in ArePartsIn (external_in s a (parts_in a p) (external_seen e)) s a u b (Ok q)
    function_goes u b d q i h k l =
        walk_as _ _ tree_is
        (record {
          ok = ap (λ o. then_do o (defined (parts_in a p))) h.ok
              ∙ ap (λ v. Fine (state_of u b) (with_defined v (defines_in b d))) (sym (parts_stay a b h.keeps.extends p i))
              ∙ ap (Fine (state_of u b)) (sym (k b));
          err = tt;
          within = l (length b.forms) (parts_later a b h.keeps.extends p i) h.within;
          keeps = h.keeps;
        })

  -- ---- a declaration

  module _ (x : Declaration) (is : e.form ≡ form.Declaration x) where
    declares_tree : external_in s a (parts_in a p) (external_seen e) ≡ then_do (declaration_in s a (declaration_seen x)) (declared (parts_in a p))
    declares_tree = ap (λ y. external_in s a (parts_in a p) (external_form_seen y e.line)) is ∙ declaration_is s a (parts_in a p) e.line (declaration_seen x)

    pub declaration_stops : (u : Scoping) (b : Table) (c : CheckFault) (r : Result UnitParts CheckFault) → IsErrAnd r (λ x. x ≡ c) → Walks declares_in AreDeclaredIn (declaration_in s a (declaration_seen x)) s a u b (Err c) → Walks parts_in ArePartsIn (external_in s a (parts_in a p) (external_seen e)) s a u b r
    declaration_stops u b c r h w = walk_as _ _ declares_tree (first_stops parts_in ArePartsIn (declaration_in s a (declaration_seen x)) (declared (parts_in a p)) r h w)

    pub declaration_goes : (u : Scoping) (b : Table) (d : Declares) (q : UnitParts) → ArePartsIn (length a.forms) p → Walks declares_in AreDeclaredIn (declaration_in s a (declaration_seen x)) s a u b (Ok d)
        → ((t : Table) → parts_in t q ≡ with_declared (parts_in t p) (declares_in t d)) → ((n : ℕ) → ArePartsIn n p → AreDeclaredIn n d → ArePartsIn n q) → Walks parts_in ArePartsIn (external_in s a (parts_in a p) (external_seen e)) s a u b (Ok q)
    declaration_goes u b d q i h k l =
        walk_as _ _ declares_tree
        (record {
          ok = ap (λ o. then_do o (declared (parts_in a p))) h.ok
              ∙ ap (λ v. Fine (state_of u b) (with_declared v (declares_in b d))) (sym (parts_stay a b h.keeps.extends p i))
              ∙ ap (Fine (state_of u b)) (sym (k b));
          err = tt;
          within = l (length b.forms) (parts_later a b h.keeps.extends p i) h.within;
          keeps = h.keeps;
        })

  -- ---- a lone `;`

  pub empty_goes : e.form ≡ form.Empty → AreSymbolsIn (length a.forms) s.symbols → ArePartsIn (length a.forms) p → Walks parts_in ArePartsIn (external_in s a (parts_in a p) (external_seen e)) s a s a (Ok p)
  unfolding external_in
  empty_goes is i w = walk_as _ _ (ap (λ y. external_in s a (parts_in a p) (external_form_seen y e.line)) is) (walk_none parts_in ArePartsIn s a p i w)
