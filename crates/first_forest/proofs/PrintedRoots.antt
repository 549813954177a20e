-- The roots of the statements that print, one statement more at a time.
use Rattle.std.proofs.Common.{◌≡◌, ℕ, ◌+◌, ◌<◌, List, [], ◌∷◌, ◌++◌, length, take, get_or, map, sym, ap, ◌∙◌, subst}
use Rattle.std.specs.List.{flat_map}
use Rattle.std.proofs.lemmas.List.{take_more, map-append}
use Rattle.std.proofs.lemmas.Grind.{flat_map-append}
use Rattle.first_form.specs.declared.expression.Expression.{Expression}
use Rattle.first_form.specs.Expression.{expression_of}
use Rattle.op_forest.specs.Nodes.{Node}
use Rattle.first_forest.specs.FirstForest.{print_roots}

-- the roots of these
abbrev pub printed : List Expression → List Node
printed es = flat_map print_roots (map expression_of es)

printed_append : (es fs : List Expression) → printed (es ++ fs) ≡ printed es ++ printed fs
printed_append es fs = ap (flat_map print_roots) (map-append expression_of es fs) ∙ flat_map-append print_roots (map expression_of es) (map expression_of fs)

one_print : (es : List Expression) (i : ℕ) (d : Expression) → i < length es → printed (take i es) ++ print_roots (expression_of (get_or es i d)) ≡ printed (take (i + 1) es)
one_print es i d h = sym (ap printed (take_more es i d h) ∙ printed_append (take i es) (get_or es i d ∷ []))

pub more_printed : (es items : List Expression) (i : ℕ) (e : Expression) (before after : List Node) → items ≡ es → i < length items → e ≡ get_or items i e → before ≡ printed (take i es) → after ≡ before ++ print_roots (expression_of e) → after ≡ printed (take (i + 1) es)
more_printed es items i e before after same h at b a =
    let within : i < length es = subst (λ (l : List Expression). i < length l) same h in
    let is : e ≡ get_or es i e = at ∙ ap (λ (l : List Expression). get_or l i e) same in
    let one = one_print es i e within in
    a ∙ ap (λ (r : List Node). r ++ print_roots (expression_of e)) b ∙ ap (λ x. printed (take i es) ++ print_roots (expression_of x)) is ∙ one
