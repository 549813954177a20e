-- The specifiers of a declaration: nothing but a tag, and storage classes at file scope.
use Rattle.std.proofs.Common.{◌≡◌, ◌≢◌, ℕ, List, [], ◌∷◌, length, map, refl, sym, ap, ◌∙◌, subst, arith}
use Rattle.std.specs.Prelude.{Bool, true, false, Result, Ok, Err, IsErrAnd}
use Rattle.c_ast.specs.declared.expr.Specifiers.{Specifiers as SpecifiersValue, out-Specifiers}
use Rattle.c_ast.specs.declared.specifier.RecordKind.{RecordKind}
use Rattle.c_ast.specs.declared.statement.InitDeclarator.{InitDeclarator}
use Rattle.c_ast.specs.Seen.{specifier_seen, specifiers_seen}
use Rattle.c_ast.proofs.lemmas.SeenTypes.{specifiers_parts}
use Rattle.c_ast.specs.SeenUnits.{init_seen}
use Rattle.c_ast.specs.Trees.{InitTree, SpecifierTrees, NoSpecifiers, Specifiers, SpecifiersTree}
use Rattle.c_ast.specs.Trees as tree
use Rattle.c_ast.specs.Views.{specifier_list_of}
use Rattle.c_symbols.specs.Scoping.{Scoping}
use Rattle.c_types.specs.Table.{Table}
use Rattle.c_meaning.specs.Constraints.{Breaks}
use Rattle.c_meaning.specs.Declarations.{Outside, is_inner_class}
use Rattle.c_meaning.specs.Declaring.{at_outside, line_of, typed_alone, typed_lone}
use Rattle.c_meaning.specs.Linkage.{is_outside}
use Rattle.c_meaning.specs.State.{State}
use Rattle.c_meaning.specs.TypeRows as rows
use Rattle.c_meaning.specs.Typing.{Bad, Fine, Outcome, then_do, typed_specifiers}
use Rattle.c_values.specs.declared.check_fault.CheckFault.{CheckFault}
use Rattle.c_values.specs.declared.check_fault.CheckFault.TheVariants.{Constraint}
use Rattle.c_check_expr.specs.declared.parts.Specified.{Specified}
use Rattle.c_check_expr.specs.Known.{state_of}
use Rattle.c_check_expr.specs.Kept.{keeps_itself}
use Rattle.c_check_expr.specs.PartsSeen.{specified_seen}
use Rattle.c_check_expr.specs.TypedIn.{specifiers_in}
use Rattle.c_check_expr.proofs.lemmas.Walking.{first_stops, walk_as, walk_then}
use Rattle.c_check_expr.specs.Walks.{IsSpecifiedIn, Walks}
use Rattle.c_check_decl.specs.DeclaredIn.{inside_in, own_specifiers_in}
use Rattle.c_check_decl.specs.LoneTags.{is_lone_tag}
use Rattle.c_check_decl.proofs.DeclNodes.{decl_breaks, decl_fine}

-- ---- before declarators, and with nothing behind them

pub inside_rest : (s : Scoping) (a : Table) (specs : SpecifiersTree) (i : InitTree) (is : List InitTree) → inside_in s a specs (i ∷ is) ≡ specifiers_in s a specs
unfolding inside_in specifiers_in
inside_rest s a specs i is = refl

inside_tag : (s : Scoping) (a : Table) (line l : ℕ) (k : RecordKind) (tag : List ℕ) → inside_in s a (tree.Specified line (Specifiers (tree.RecordTag l k tag) NoSpecifiers)) [] ≡ typed_alone (state_of s a) line l k tag
unfolding inside_in
inside_tag s a line l k tag = refl

pub inside_alone : (s : Scoping) (a : Table) (v : SpecifiersValue) (l : ℕ) (k : RecordKind) (tag : List ℕ) → specifier_list_of (map specifier_seen (out-Specifiers v).list) ≡ Specifiers (tree.RecordTag l k tag) NoSpecifiers
    → inside_in s a (specifiers_seen v) [] ≡ typed_alone (state_of s a) (out-Specifiers v).line l k tag
inside_alone s a v l k tag h = ap (λ t. inside_in s a t []) (specifiers_parts v ∙ ap (tree.Specified (out-Specifiers v).line) h) ∙ inside_tag s a (out-Specifiers v).line l k tag

typed_other : (s : State) (line : ℕ) (ss : SpecifierTrees) → is_lone_tag ss ≡ false → typed_lone s (tree.Specified line ss) ≡ typed_specifiers s (tree.Specified line ss)
typed_other s line NoSpecifiers h = refl
typed_other s line (Specifiers (tree.Stored l class) ss) h = refl
typed_other s line (Specifiers (tree.Qualified l qualifier) ss) h = refl
typed_other s line (Specifiers (tree.Basic l word) ss) h = refl
typed_other s line (Specifiers (tree.Record l k tag ms) ss) h = refl
typed_other s line (Specifiers (tree.RecordTag l k tag) NoSpecifiers) h = absurd (cc)
typed_other s line (Specifiers (tree.RecordTag l k tag) (Specifiers x ss)) h = refl
typed_other s line (Specifiers (tree.Enum l tag es comma) ss) h = refl
typed_other s line (Specifiers (tree.EnumTag l tag) ss) h = refl
typed_other s line (Specifiers (tree.NamedType l x) ss) h = refl

inside_others : (s : Scoping) (a : Table) (line : ℕ) (ss : SpecifierTrees) → is_lone_tag ss ≡ false → inside_in s a (tree.Specified line ss) [] ≡ specifiers_in s a (tree.Specified line ss)
unfolding inside_in specifiers_in
inside_others s a line ss h = typed_other (state_of s a) line ss h

pub inside_other : (s : Scoping) (a : Table) (v : SpecifiersValue) → is_lone_tag (specifier_list_of (map specifier_seen (out-Specifiers v).list)) ≡ false → inside_in s a (specifiers_seen v) [] ≡ specifiers_in s a (specifiers_seen v)
inside_other s a v h = subst (λ t. inside_in s a t [] ≡ specifiers_in s a t) (sym (specifiers_parts v)) (inside_others s a (out-Specifiers v).line (specifier_list_of (map specifier_seen (out-Specifiers v).list)) h)

-- ---- as the walk goes

module _ (s u : Scoping) (a b : Table) (v : SpecifiersValue) (r : Result Specified CheckFault) where
  pub inside_more : (ds : List InitDeclarator) → length ds ≢ 0 → Walks specified_seen IsSpecifiedIn (specifiers_in s a (specifiers_seen v)) s a u b r → Walks specified_seen IsSpecifiedIn (inside_in s a (specifiers_seen v) (map init_seen ds)) s a u b r
  inside_more [] h w = absurd (h refl)
  inside_more (d ∷ ds) h w = walk_as (specifiers_in s a (specifiers_seen v)) (inside_in s a (specifiers_seen v) (map init_seen (d ∷ ds))) (inside_rest s a (specifiers_seen v) (init_seen d) (map init_seen ds)) w

  pub inside_none : (ds : List InitDeclarator) (o : Outcome rows.Specified) → length ds ≡ 0 → inside_in s a (specifiers_seen v) [] ≡ o → Walks specified_seen IsSpecifiedIn o s a u b r → Walks specified_seen IsSpecifiedIn (inside_in s a (specifiers_seen v) (map init_seen ds)) s a u b r
  inside_none [] o h e w = walk_as o (inside_in s a (specifiers_seen v) []) e w
  inside_none (d ∷ ds) o h e w = absurd (omega arith)

-- ---- at file scope

-- the line of specifiers
line_seen : (v : SpecifiersValue) → line_of (specifiers_seen v) ≡ (out-Specifiers v).line
line_seen v = ap line_of (specifiers_parts v)

own_is : (s : Scoping) (a : Table) (v : SpecifiersValue) (is : List InitTree) → own_specifiers_in s a (specifiers_seen v) is ≡ then_do (inside_in s a (specifiers_seen v) is) (λ m b. at_outside (is_outside m) m (line_of (specifiers_seen v)) b)
unfolding own_specifiers_in inside_in
own_is s a v is = refl

outside_breaks : (m : State) (line : ℕ) (b : rows.Specified) (outside : Bool) → outside ≡ true → is_inner_class b.classes ≡ true → at_outside outside m line b ≡ Bad (Breaks 3 line)
outside_breaks m line b true o h = decl_breaks m line (Outside b.classes) m b 3 (rw h refl)
outside_breaks m line b false o h = absurd (cc)

-- fine are other storage classes there, and all elsewhere
outside_fine : (m : State) (line : ℕ) (b : rows.Specified) (outside : Bool) → is_inner_class b.classes ≡ false → at_outside outside m line b ≡ Fine m b
outside_fine m line b true h = decl_fine m line (Outside b.classes) m b (rw h refl)
outside_fine m line b false h = refl

inside_fine : (m : State) (line : ℕ) (b : rows.Specified) (outside : Bool) → outside ≡ false → at_outside outside m line b ≡ Fine m b
inside_fine m line b true o = absurd (cc)
inside_fine m line b false o = refl

module _ (s u : Scoping) (a b : Table) (v : SpecifiersValue) (is : List InitTree) (base : Specified) (w : Walks specified_seen IsSpecifiedIn (inside_in s a (specifiers_seen v) is) s a u b (Ok base)) where
  own_goes : (r : Result Specified CheckFault) → Walks specified_seen IsSpecifiedIn (at_outside (is_outside (state_of u b)) (state_of u b) (line_of (specifiers_seen v)) (specified_seen b base)) u b u b r
      → Walks specified_seen IsSpecifiedIn (own_specifiers_in s a (specifiers_seen v) is) s a u b r
  own_goes r x =
      walk_as (then_do (inside_in s a (specifiers_seen v) is) (λ m b. at_outside (is_outside m) m (line_of (specifiers_seen v)) b)) (own_specifiers_in s a (specifiers_seen v) is) (own_is s a v is)
      (walk_then specified_seen IsSpecifiedIn (inside_in s a (specifiers_seen v) is) (λ m b. at_outside (is_outside m) m (line_of (specifiers_seen v)) b) s u u a b b base r w x)

  pub own_breaks : is_outside (state_of u b) ≡ true → is_inner_class base.classes ≡ true → Walks specified_seen IsSpecifiedIn (own_specifiers_in s a (specifiers_seen v) is) s a u b (Err (Constraint 3 (out-Specifiers v).line))
  own_breaks o h =
      own_goes (Err (Constraint 3 (out-Specifiers v).line))
      (record {
        ok = tt;
        err = ap (λ l. at_outside (is_outside (state_of u b)) (state_of u b) l (specified_seen b base)) (line_seen v) ∙ outside_breaks (state_of u b) (out-Specifiers v).line (specified_seen b base) (is_outside (state_of u b)) o h;
        within = tt;
        keeps = keeps_itself u b w.keeps.symbols;
      })

  own_fine : at_outside (is_outside (state_of u b)) (state_of u b) (line_of (specifiers_seen v)) (specified_seen b base) ≡ Fine (state_of u b) (specified_seen b base) → Walks specified_seen IsSpecifiedIn (own_specifiers_in s a (specifiers_seen v) is) s a u b (Ok base)
  own_fine h = own_goes (Ok base) (record { ok = h; err = tt; within = w.within; keeps = keeps_itself u b w.keeps.symbols })

  pub own_outer : is_inner_class base.classes ≡ false → Walks specified_seen IsSpecifiedIn (own_specifiers_in s a (specifiers_seen v) is) s a u b (Ok base)
  own_outer h = own_fine (outside_fine (state_of u b) (line_of (specifiers_seen v)) (specified_seen b base) (is_outside (state_of u b)) h)

  pub own_inner : is_outside (state_of u b) ≡ false → Walks specified_seen IsSpecifiedIn (own_specifiers_in s a (specifiers_seen v) is) s a u b (Ok base)
  own_inner o = own_fine (inside_fine (state_of u b) (line_of (specifiers_seen v)) (specified_seen b base) (is_outside (state_of u b)) o)

pub own_stops : (s u : Scoping) (a b : Table) (v : SpecifiersValue) (is : List InitTree) (e : CheckFault) (r : Result Specified CheckFault) → IsErrAnd r (λ d. d ≡ e) → Walks specified_seen IsSpecifiedIn (inside_in s a (specifiers_seen v) is) s a u b (Err e)
    → Walks specified_seen IsSpecifiedIn (own_specifiers_in s a (specifiers_seen v) is) s a u b r
own_stops s u a b v is e r h w =
    walk_as (then_do (inside_in s a (specifiers_seen v) is) (λ m b. at_outside (is_outside m) m (line_of (specifiers_seen v)) b)) (own_specifiers_in s a (specifiers_seen v) is) (own_is s a v is)
    (first_stops specified_seen IsSpecifiedIn (inside_in s a (specifiers_seen v) is) (λ m b. at_outside (is_outside m) m (line_of (specifiers_seen v)) b) r h w)
