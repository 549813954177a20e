-- Labels that are added one after another.
use Rattle.std.proofs.Common.{◌≡◌, ◌≤◌, ◌+◌, ℕ, List, [], ◌∷◌, ◌++◌, length, map, take, drop, ◌-◌, Option, Some, None, refl, sym, ap, ◌∙◌, subst, append_assoc, arith}
use Rattle.std.specs.Prelude.{IfNone}
use Rattle.std.proofs.lemmas.List.{append-nil, map-append, take_rest}
use Rattle.asm_lines.specs.declared.token.Token.{Token}
use Rattle.asm_lines.specs.Statements.{IsLabelled}
use Rattle.asm_lines.specs.Tokens.{Spaced, views}
use Rattle.asm_text.specs.declared.place.Place.{Place}
use Rattle.asm_text.specs.FirstFault.{HasDouble}
use Rattle.asm_text.specs.LabelsTaken.{TakesLabels}
use Rattle.asm_text.specs.Lines.{AreLabels, NoLabel}
use Rattle.asm_text.specs.Made.{Made, label_at, next_place, with_labels}
use Rattle.asm_text.specs.Makes.{AreNew, IsNew, label_names}
use Rattle.asm_text.specs.Program.{MLabel}

-- ---- labels at the front of tokens

-- the labels that were found, and those to come
abbrev pub Leads : (all rest : List Spaced) → List (List ℕ) → Type 0
Leads all rest found = (more : List (List ℕ)) (end : List Spaced) → AreLabels rest more end → AreLabels all (found ++ more) end

leads_more : (all rest behind : List Spaced) (found : List (List ℕ)) (name : List ℕ) → IsLabelled rest name behind → Leads all rest found → Leads all behind (found ++ name ∷ [])
leads_more all rest behind found name h k = λ more end a.
    let P : List (List ℕ) → Type 0 = λ l. AreLabels all l end in
    subst P (sym (append_assoc found (name ∷ []) more)) (k (name ∷ more) end (behind, h, a))

leads_end : (all rest : List Spaced) (found : List (List ℕ)) → Leads all rest found → AreLabels all found rest
leads_end all rest found k = let P : List (List ℕ) → Type 0 = λ l. AreLabels all l rest in subst P (append-nil found) (k [] rest refl)

-- a label is two tokens
pub label_long : (ts : List Token) (name : List ℕ) (rest : List Spaced) → IsLabelled (views ts) name rest → 2 ≤ length ts
label_long [] name rest h = absurd h
label_long (t ∷ []) name rest h = absurd h
label_long (t ∷ u ∷ ts) name rest h = omega arith

-- ---- new names

new_more : (before names : List (List ℕ)) (name : List ℕ) → AreNew before names → IsNew (before ++ names) name → AreNew before (names ++ name ∷ [])
new_more before [] name h k = let P : List (List ℕ) → Type 0 = λ l. IsNew l name in (subst P (append-nil before) k, tt)
new_more before (n ∷ names) name h k =
    let P : List (List ℕ) → Type 0 = λ l. IsNew l name in
    (h.0, new_more (before ++ n ∷ []) names name h.1 (subst P (sym (append_assoc before (n ∷ []) names)) k))

new_last : (before names : List (List ℕ)) (name : List ℕ) → AreNew before (names ++ name ∷ []) → IsNew (before ++ names) name
new_last before [] name h = let P : List (List ℕ) → Type 0 = λ l. IsNew l name in subst P (sym (append-nil before)) h.0
new_last before (n ∷ names) name h =
    let P : List (List ℕ) → Type 0 = λ l. IsNew l name in
    subst P (append_assoc before (n ∷ []) names) (new_last (before ++ n ∷ []) names name h.1)

names_back : (place : Place) (names : List (List ℕ)) → label_names (map (label_at place) names) ≡ names
names_back place [] = refl
names_back place (n ∷ names) = ap (λ (ns : List (List ℕ)). n ∷ ns) (names_back place names)

names_added : (m : Made) (names : List (List ℕ)) → label_names (with_labels m names).labels ≡ label_names m.labels ++ names
names_added m names =
    let place = next_place m.section m.code m.datums in
    map-append (λ (l : MLabel). l.name) m.labels (map (label_at place) names) ∙ ap (λ (ns : List (List ℕ)). label_names m.labels ++ ns) (names_back place names)

labels_more : (m : Made) (names : List (List ℕ)) (name : List ℕ) → with_labels (with_labels m names) (name ∷ []) ≡ with_labels m (names ++ name ∷ [])
labels_more m names name =
    let place = next_place m.section m.code m.datums in
    ap (λ (l : List MLabel). record m { labels = l }) (append_assoc m.labels (map (label_at place) names) (label_at place name ∷ []) ∙ ap (λ (l : List MLabel). m.labels ++ l) (sym (map-append (label_at place) names (name ∷ []))))

-- ---- the loop

-- labels that were found at the front make this
pub record FoundLabels (m : Made) (all rest : List Spaced) (now : Made) : Type 0 where
  pub names : List (List ℕ)
  pub leads : Leads all rest names
  pub new : AreNew (label_names m.labels) names
  pub made : now ≡ with_labels m names

-- none are
pub found_none : (m : Made) (all : List Spaced) → FoundLabels m all all m
found_none m all = record {
  names = [];
  leads = λ more end a. a;
  new = tt;
  made = ap (λ (l : List MLabel). record m { labels = l }) (sym (append-nil m.labels));
}

-- the name is new among them
new_here : (m now : Made) (names : List (List ℕ)) (name : List ℕ) → now ≡ with_labels m names → IsNew (label_names now.labels) name → IsNew (label_names m.labels ++ names) name
new_here m now names name e h = let P : List (List ℕ) → Type 0 = λ l. IsNew l name in subst P (ap (λ (x : Made). label_names x.labels) e ∙ names_added m names) h

-- one more is
pub found_more : (m : Made) (all rest behind : List Spaced) (now next : Made) (name : List ℕ) → IsLabelled rest name behind → IsNew (label_names now.labels) name → next ≡ with_labels now (name ∷ []) → FoundLabels m all rest now → FoundLabels m all behind next
found_more m all rest behind now next name h new e f = record {
  names = f.names ++ name ∷ [];
  leads = leads_more all rest behind f.names name h f.leads;
  new = new_more (label_names m.labels) f.names name f.new (new_here m now f.names name f.made new);
  made = e ∙ ap (λ x. with_labels x (name ∷ [])) f.made ∙ labels_more m f.names name;
}

-- the next stands twice
pub found_double : (m : Made) (all rest behind : List Spaced) (now : Made) (name : List ℕ) → IsLabelled rest name behind → (IsNew (label_names now.labels) name → ⊥) → FoundLabels m all rest now → HasDouble m all
found_double m all rest behind now name h old f =
    let P : List (List ℕ) → Type 0 = λ l. IsNew l name in
    (f.names ++ name ∷ [], behind, leads_end all behind (f.names ++ name ∷ []) (leads_more all rest behind f.names name h f.leads), λ a. old (subst P (sym (ap (λ (x : Made). label_names x.labels) f.made ∙ names_added m f.names)) (new_last (label_names m.labels) f.names name a)))

-- no other stands there
pub found_all : (m : Made) (all rest : List Spaced) (now : Made) → NoLabel rest → FoundLabels m all rest now → TakesLabels m all rest now
found_all m all rest now h f = record {
  names = f.names;
  labels = leads_end all rest f.names f.leads;
  last = h;
  new = f.new;
  made = f.made;
}

-- the tokens behind a label, as a slice of them
pub label_rest : (ts : List Token) → views (take (length ts - 2) (drop 2 ts)) ≡ views (drop 2 ts)
label_rest ts = ap views (take_rest ts 2)

pub none_there : {A : Type 0} (o : Option A) (P : Type 0) → ((x : A) → o ≡ Some x → ⊥) → IfNone o P → P
none_there None P n h = h
none_there (Some x) P n h = absurd (n x refl)
