-- How many parts an expression has that is seen as a tree.
use Rattle.std.specs.Prelude.{◌≡◌, ◌≢◌, ℕ, false, List, [], ◌∷◌, length}
use Rattle.std.proofs.Common.{ap, sym}
use Rattle.c_meaning.specs.declared.core_expr.CoreKind.{CoreKind}
use Rattle.c_meaning.specs.CoreTrees.{CoreOf, Core, cores_of, kids_of}
use Rattle.c_eval.specs.Forms.{has_one, has_two, has_three}

pub not_one : (e : CoreOf ℕ) (what : CoreKind) (of line : ℕ) (kids slice : List (CoreOf ℕ)) → Core what of line (cores_of kids) ≡ e → slice ≡ kids → length slice ≢ 1 → has_one (kids_of e) ≡ false
not_one e what of line [] slice v s h = sym (ap (λ x. has_one (kids_of x)) v)
not_one e what of line (a ∷ []) slice v s h = absurd (h (ap length s))
not_one e what of line (a ∷ b ∷ cs) slice v s h = sym (ap (λ x. has_one (kids_of x)) v)

pub not_two : (e : CoreOf ℕ) (what : CoreKind) (of line : ℕ) (kids slice : List (CoreOf ℕ)) → Core what of line (cores_of kids) ≡ e → slice ≡ kids → length slice ≢ 2 → has_two (kids_of e) ≡ false
not_two e what of line [] slice v s h = sym (ap (λ x. has_two (kids_of x)) v)
not_two e what of line (a ∷ []) slice v s h = sym (ap (λ x. has_two (kids_of x)) v)
not_two e what of line (a ∷ b ∷ []) slice v s h = absurd (h (ap length s))
not_two e what of line (a ∷ b ∷ c ∷ cs) slice v s h = sym (ap (λ x. has_two (kids_of x)) v)

pub not_three : (e : CoreOf ℕ) (what : CoreKind) (of line : ℕ) (kids slice : List (CoreOf ℕ)) → Core what of line (cores_of kids) ≡ e → slice ≡ kids → length slice ≢ 3 → has_three (kids_of e) ≡ false
not_three e what of line [] slice v s h = sym (ap (λ x. has_three (kids_of x)) v)
not_three e what of line (a ∷ []) slice v s h = sym (ap (λ x. has_three (kids_of x)) v)
not_three e what of line (a ∷ b ∷ []) slice v s h = sym (ap (λ x. has_three (kids_of x)) v)
not_three e what of line (a ∷ b ∷ c ∷ []) slice v s h = absurd (h (ap length s))
not_three e what of line (a ∷ b ∷ c ∷ d ∷ ds) slice v s h = sym (ap (λ x. has_three (kids_of x)) v)
