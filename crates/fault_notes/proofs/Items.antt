-- What was written of an array of texts.
use Rattle.std.proofs.Common.{◌≡◌, ℕ, List, [], ◌∷◌, ◌++◌, refl, sym, ap, ◌∙◌, append_assoc}
use Rattle.std.specs.List.{flat_map}
use Rattle.json.specs.Token.{Token}
use Rattle.json.specs.Tree.{json_tokens, items_tokens}
use Rattle.fault_notes.specs.Printed.{text_json, text_items}

abbrev texts_tokens : List (List ℕ) → List Token
texts_tokens texts = flat_map (λ text. json_tokens (text_json text)) texts

items_of : (texts : List (List ℕ)) → items_tokens (text_items texts)
    ≡ texts_tokens texts ++ (Token.end_array ∷ [])
items_of [] = refl
items_of (text ∷ texts) = ap (λ ts. json_tokens (text_json text) ++ ts) (items_of texts)

pub array_written : (old begun filled new : List Token) (texts : List (List ℕ)) → begun
    ≡ old ++ (Token.begin_array ∷ []) → filled
    ≡ begun ++ flat_map (λ text. json_tokens (text_json text)) texts → new
    ≡ filled ++ (Token.end_array ∷ []) → new
    ≡ old ++ (Token.begin_array ∷ items_tokens (text_items texts))
array_written old begun filled new texts begins fills ends =
    ends ∙ ap (λ ts. ts ++ (Token.end_array ∷ [])) fills
    ∙ append_assoc begun (texts_tokens texts) (Token.end_array ∷ [])
    ∙ ap (λ ts. begun ++ ts) (sym (items_of texts))
    ∙ ap (λ ts. ts ++ items_tokens (text_items texts)) begins
    ∙ append_assoc old (Token.begin_array ∷ []) (items_tokens (text_items texts))
