use Rattle.std.proofs.Common.{◌≡◌, ◌++◌, ◌∷◌, [], List, ℕ, Bool, true, false, sym, ap, subst, ◌∙◌}
use Rattle.std.specs.Prelude.{if◌then◌else◌}
use Rattle.c_meaning.specs.Units.{is_same_among}
use Rattle.c_wholes.specs.TextLists.{texts_in}
use Rattle.c_wholes.proofs.OnceLists.{among_texts, texts_push}
use Rattle.c_wholes.proofs.texts.Texts.note.Goals as goal

pub returns-then-contains : goal.returns-then-contains
returns-then-contains c =
    let now = c.args.self.now in
    let text = c.args.text.now in
    let h : is_same_among text now ≡ true =
    subst (λ (ts : List (List ℕ)). is_same_among text ts ≡ true) c.self.view_is
    (sym (among_texts c.self.inside.texts.keys text) ∙ sym c.contains.ensures ∙ c.if-contains.true) in
    sym (ap (λ (b : Bool). if b then now else now ++ text ∷ []) h)

pub returns : goal.returns
returns c =
    let now = c.args.self.now in
    let text = c.args.text.now in
    let keys = c.self.inside.texts.keys in
    let v = c.extend_from_slice.new.self in
    let i : v.items ≡ text = c.in_ok-extend_from_slice.ensures.items ∙ ap (λ (xs : List ℕ). xs ++ text) c.new-copy.ensures.items in
    let n : is_same_among text (texts_in keys) ≡ false = sym (among_texts keys text) ∙ sym c.contains.ensures ∙ c.if-contains.false in
    let m = among_texts keys v.items ∙ ap (λ (xs : List ℕ). is_same_among xs (texts_in keys)) i ∙ n in
    let all = c.in_ok-insert.ensures.keys ∙ ap (λ (b : Bool). if b then keys else keys ++ v ∷ []) m in
    ap texts_in all ∙ texts_push keys v ∙ ap (λ (xs : List ℕ). texts_in keys ++ xs ∷ []) i
    ∙ ap (λ (ts : List (List ℕ)). ts ++ text ∷ []) c.self.view_is
    ∙ sym (ap (λ (b : Bool). if b then now else now ++ text ∷ []) (subst (λ (ts : List (List ℕ)). is_same_among text ts ≡ false) c.self.view_is n))
