-- Specifiers of declarations, and all laws of typing's steps and names together.
use Rattle.std.proofs.Common.{◌≡◌, ℕ, Bool, true, false, List, [], ◌∷◌}
use Rattle.c_ast.specs.Trees.{SpecifiersTree, RecordTag, NoSpecifiers, Specifiers, InitTree}
use Rattle.c_ast.specs.Trees as tree
use Rattle.c_meaning.specs.Declaring.{line_of}
use Rattle.c_meaning.specs.DeclaringRelation.{IsOutside, TypesInside, TypesLone, TypesOwnSpecifiers}
use Rattle.c_meaning.specs.Linkage.{is_outside}
use Rattle.c_meaning.specs.State.{State}
use Rattle.c_meaning.specs.TypeRows.{Specified}
use Rattle.c_tree_names.specs.Names.{SpecifiersNames}
use Rattle.c_typing_steps.specs.Laws.{StepLaws}
use Rattle.c_typing_steps.specs.Steps.{Steps, Go, Alone}
use Rattle.c_typing_steps.proofs.lemmas.Initialisers.{maybe_initialiser_names, maybe_initialiser_steps}
use Rattle.c_typing_steps.proofs.lemmas.NamesWalk.{expr_names}
use Rattle.c_typing_steps.proofs.lemmas.Walk.{declarator_steps, expr_steps, specifiers_steps, stay, to}

lone_steps : (s : State) (specs : SpecifiersTree) (u : State) (b : Specified) → SpecifiersNames specs → TypesLone s specs u b → Steps s u
lone_steps s (tree.Specified line (Specifiers (RecordTag l k tag) NoSpecifiers)) u b n h = Go (to (Alone s l k tag) h.2.1.0) (stay h.3.1.0)
lone_steps s specs u b n h = specifiers_steps s specs u b n h

inside_steps : (s : State) (specs : SpecifiersTree) (is : List InitTree) (u : State) (b : Specified) → SpecifiersNames specs → TypesInside s specs is u b → Steps s u
inside_steps s specs [] u b n h = lone_steps s specs u b n h
inside_steps s specs (i ∷ is) u b n h = specifiers_steps s specs u b n h

outside_stays : (o : Bool) (s : State) (line : ℕ) (b : Specified) (u : State) (c : Specified) → IsOutside o s line b u c → s ≡ u
outside_stays true s line b u c h = h.1.0
outside_stays false s line b u c h = h.0

own_steps : (s : State) (specs : SpecifiersTree) (is : List InitTree) (u : State) (b : Specified) → SpecifiersNames specs → TypesOwnSpecifiers s specs is u b → Steps s u
own_steps s specs is u b n h = to (inside_steps s specs is h.0 h.1 n h.2) (outside_stays (is_outside h.0) h.0 (line_of specs) h.1 u b h.3)

-- the laws of this crate
pub step_laws : StepLaws
step_laws =
    record {
      expressions = λ s u e c n h. expr_steps s e u c n h;
      specifiers = λ s u specs b n h. specifiers_steps s specs u b n h;
      declarators = λ s u d p n h. declarator_steps s d u p n h;
      own = λ s u specs is b n h. own_steps s specs is u b n h;
      inside = λ s u specs is b n h. inside_steps s specs is u b n h;
      initialisers = λ s u o i f n h. maybe_initialiser_steps s o i u f n h;
      names = λ s u e c n h. expr_names s e u c n h;
      stored = λ s u o i f n h. maybe_initialiser_names s o i u f n h;
    }
