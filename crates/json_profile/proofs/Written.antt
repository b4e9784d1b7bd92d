-- What was written of a tree, and the tokens that are left.
use Rattle.std.proofs.Common.{◌≡◌, ℕ, ◌+◌, [], ◌∷◌, ◌++◌, List, Some, refl, sym, ap, ◌∙◌, append_assoc}
use Rattle.json.specs.Token.{Token}
use Rattle.json.specs.Tree.{json_tokens, items_tokens, members_tokens}
use Rattle.path_tree.specs.Plain.{Plain, dict, list, text, long, undef}
use Rattle.path_tree.specs.Plain as plain
use Rattle.path_tree.specs.Find.{kind_of, child_count, key_at, child_at}
use Rattle.path_tree.specs.declared.kind.Kind.TheVariants as kind
use Rattle.path_tree.proofs.Children.{all_fields, all_items, dict_end, dict_step, list_end, list_step}
use Rattle.json_profile.specs.Json.{json, items_json, fields_json}
use Rattle.json_profile.specs.Children.{fields_tokens, children_tokens}

-- where the tokens of a container stand
pub dict_tokens : (t : Plain) → kind_of t ≡ kind.Dict → json_tokens (json t)
    ≡ Token.begin_object ∷ fields_tokens 0 t
dict_tokens (dict fs) is =
    ap (λ gs. Token.begin_object ∷ members_tokens (fields_json gs)) (sym (all_fields fs))
dict_tokens (list ts) is = cc
dict_tokens (text bs) is = cc
dict_tokens (long z) is = cc
dict_tokens (plain.boolean b) is = cc
dict_tokens undef is = cc
dict_tokens plain.null is = cc

pub list_tokens : (t : Plain) → kind_of t ≡ kind.List → json_tokens (json t)
    ≡ Token.begin_array ∷ children_tokens 0 t
list_tokens (list ts) is =
    ap (λ us. Token.begin_array ∷ items_tokens (items_json us)) (sym (all_items ts))
list_tokens (dict fs) is = cc
list_tokens (text bs) is = cc
list_tokens (long z) is = cc
list_tokens (plain.boolean b) is = cc
list_tokens undef is = cc
list_tokens plain.null is = cc

-- what was written, and the tokens that are left
pub part_written : (old new part more all : List Token) → new ≡ old ++ part → all ≡ part ++ more
    → new ++ more ≡ old ++ all
part_written old new part more all e f =
    ap (λ ts. ts ++ more) e ∙ append_assoc old part more ∙ ap (λ ts. old ++ ts) (sym f)

pub field_written : (old mid new part more all : List Token) (t : Token) → mid ≡ old ++ t ∷ [] → new
    ≡ mid ++ part → all ≡ t ∷ (part ++ more) → new ++ more ≡ old ++ all
field_written old mid new part more all t e f g =
    part_written mid new part more (part ++ more) f refl
    ∙ part_written old mid (t ∷ []) (part ++ more) all e g

pub field_tokens : (t c : Plain) (i : ℕ) (k : List ℕ) → kind_of t ≡ kind.Dict → key_at i t ≡ Some k
    → child_at i t ≡ Some c → fields_tokens i t ≡ Token.key
    k ∷ (json_tokens (json c) ++ fields_tokens (i + 1) t)
field_tokens t c i k is key child =
    ap (λ fs. members_tokens (fields_json fs)) (dict_step t i k c is key child)

pub item_tokens : (t c : Plain) (i : ℕ) → kind_of t ≡ kind.List → child_at i t ≡ Some c
    → children_tokens i t ≡ json_tokens (json c) ++ children_tokens (i + 1) t
item_tokens t c i is child = ap (λ ts. items_tokens (items_json ts)) (list_step t i c is child)

pub dict_closed : (t : Plain) (n : ℕ) (old new : List Token) → kind_of t ≡ kind.Dict → n
    ≡ child_count t → new ≡ old ++ Token.end_object ∷ [] → new ≡ old ++ fields_tokens n t
dict_closed t n old new is count e =
    e ∙ ap (λ fs. old ++ members_tokens (fields_json fs)) (sym (dict_end t n is count))

pub list_closed : (t : Plain) (n : ℕ) (old new : List Token) → kind_of t ≡ kind.List → n
    ≡ child_count t → new ≡ old ++ Token.end_array ∷ [] → new ≡ old ++ children_tokens n t
list_closed t n old new is count e =
    e ∙ ap (λ ts. old ++ items_tokens (items_json ts)) (sym (list_end t n is count))
