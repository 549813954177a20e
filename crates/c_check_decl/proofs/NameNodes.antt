-- The declarator of a declared name: its constraints, its type, and what is known behind it.
use Rattle.std.proofs.Common.{◌≡◌, ℕ, refl, sym, ap, ◌∙◌, subst}
use Rattle.std.specs.Prelude.{Option, Some, None}
use Rattle.c_meaning.specs.Constraints.{Breaks, Fault, Passes, fault_at}
use Rattle.c_meaning.specs.Declarations.{Name, Naming, decl_constraints}
use Rattle.c_meaning.specs.Declaring.{at_decl, first_class, naming}
use Rattle.c_meaning.specs.Linkage.{with_name_of}
use Rattle.c_meaning.specs.NodeConstraints.{first_of}
use Rattle.c_meaning.specs.Nodes.{Node, Typing}
use Rattle.c_meaning.specs.Nodes as node
use Rattle.c_meaning.specs.State.{State}
use Rattle.c_meaning.specs.TypeRows.{Specified, formed, name_or_empty}
use Rattle.c_meaning.specs.Typing.{Bad, Declared, Fine, Outcome, Shaped, at, shaped, then_do, unless}
use Rattle.c_values.specs.declared.check_fault.CheckFault.{CheckFault}
use Rattle.c_values.specs.declared.check_fault.CheckFault.TheVariants.{Constraint, Limit, Memory}
use Rattle.c_check_expr.specs.AtNode.{Tells}
use Rattle.c_check_decl.specs.DeclaredIn.{named_at}
use Rattle.c_check_decl.proofs.DeclNodes.{decl_breaks, decl_fine}

-- ---- a node, with whatever is behind it

pub same_fine : {T U : Type 0} (s x y z : State) (line : ℕ) (n : Node) (t v : T) (u : U) → at s line n x t ≡ Fine y v → at s line n z u ≡ Fine z u
same_fine s x y z line n t v u h = by (fault_at s line n) h
  where
    by : (f : Option Fault) → unless f x t ≡ Fine y v → unless f z u ≡ Fine z u
    by None e = refl
    by (Some f) e = absurd (cc)

-- what is fine is what stands behind it
pub behind_fine : {T : Type 0} (s x y : State) (line : ℕ) (n : Node) (t v : T) → at s line n x t ≡ Fine y v → t ≡ v
behind_fine s x y line n t v h = by (fault_at s line n) h
  where
    by : (f : Option Fault) → unless f x t ≡ Fine y v → t ≡ v
    by None e = cc
    by (Some f) e = absurd (cc)

same_bad : {T U : Type 0} (f : Option Fault) (g : Fault) (x z : State) (t : T) (u : U) → unless f x t ≡ Bad g → unless f z u ≡ Bad g
same_bad None g x z t u e = absurd (cc)
same_bad (Some f) g x z t u e = let h : f ≡ g = cc in ap Bad h

pub same_told : {T U : Type 0} (s x z : State) (line : ℕ) (n : Node) (t : T) (u : U) (e : CheckFault) → Tells e (at s line n x t) → Tells e (at s line n z u)
same_told s x z line n t u (Constraint k l) h = same_bad (fault_at s line n) (Breaks k l) x z t u h
same_told s x z line n t u (Limit w l) h = same_bad (fault_at s line n) (Passes w l) x z t u h
same_told s x z line n t u Memory h = tt

-- ---- a declared name

abbrev pub named_of : State → Specified → Declared → Naming
named_of s b p = naming s (first_class b.classes) (name_or_empty p.name) (formed b.of p.steps)

-- the type that the declarator forms
abbrev pub shape_node : Specified → Declared → Node
shape_node b p = Typing (node.Declarator b.of p.steps)

abbrev pub at_shape : State → Specified → Declared → Outcome Shaped
at_shape s b p = at s p.line (shape_node b p) s (shaped p.name (formed b.of p.steps))

abbrev in_force : State → ℕ → Naming → State
in_force s line n = with_name_of s line n.class n.linkage n.name n.of

abbrev typed_named : ℕ → Specified → State → Declared → Outcome Naming
typed_named line b s p = at s p.line (shape_node b p) (in_force s line (named_of s b p)) (named_of s b p)

module _ (s : State) (line : ℕ) (b : Specified) (p : Declared) where
  named_is : named_at s line b p ≡ then_do (at_decl s p.line (Name (named_of s b p)) s p) (typed_named line b)
  unfolding named_at
  named_is = refl

  module _ (n : Naming) (same : named_of s b p ≡ n) where
    pub named_breaks : (k : ℕ) → first_of decl_constraints s (Name n) ≡ Some k → named_at s line b p ≡ Bad (Breaks k p.line)
    named_breaks k h = named_is ∙ ap (λ o. then_do o (typed_named line b)) (decl_breaks s p.line (Name (named_of s b p)) s p k (ap (λ x. first_of decl_constraints s (Name x)) same ∙ h))

    named_typed : first_of decl_constraints s (Name n) ≡ None → named_at s line b p ≡ typed_named line b s p
    named_typed h = named_is ∙ ap (λ o. then_do o (typed_named line b)) (decl_fine s p.line (Name (named_of s b p)) s p (ap (λ x. first_of decl_constraints s (Name x)) same ∙ h))

    pub named_told : (e : CheckFault) → first_of decl_constraints s (Name n) ≡ None → Tells e (at_shape s b p) → Tells e (named_at s line b p)
    named_told e h t =
        subst (λ o. Tells e o) (sym (named_typed h)) (same_told s s (in_force s line (named_of s b p)) p.line (shape_node b p) (shaped p.name (formed b.of p.steps)) (named_of s b p) e t)

    pub named_fine : (u y : State) (v : Shaped) → first_of decl_constraints s (Name n) ≡ None → at_shape s b p ≡ Fine y v → u ≡ in_force s line n → named_at s line b p ≡ Fine u n
    named_fine u y v h k e =
        named_typed h ∙ same_fine s s y (in_force s line (named_of s b p)) p.line (shape_node b p) (shaped p.name (formed b.of p.steps)) v (named_of s b p) k
        ∙ ap (λ (x : Naming). Fine (in_force s line x) x) same ∙ ap (λ x. Fine x n) (sym e)
