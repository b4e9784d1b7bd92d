-- The definitions on written values.
use Rattle.std.proofs.Common.{◌≡◌, [], ◌∷◌, Ok, Err, true, false, pos, negsuc, codes, refl}
use Rattle.std.specs.Prelude.{⊤}
use Rattle.regex.proofs.OnLiterals.{regex_on_literals}
use Rattle.regex.specs.Replace.{replaced_by}
use Rattle.regex_hir.specs.Find.{find_str, first_from, matches_from, slot_of}
use Rattle.regex_hir.specs.Looks.{holds, holds_between}
use Rattle.regex_hir.specs.Re.{attempt, rounds}
use Rattle.regex_hir.specs.Text.{byte_before, char_at, char_before, has_bytes_at, is_boundary}
use Rattle.path_tree.specs.Plain.{boolean, item, list, long, no_items, text}
use Rattle.path_tree.specs.declared.refused.Refused.TheVariants.{BadArgument, BadPattern}
use Rattle.builtins_patterns.specs.Calls.{match_of, matches_of, replace_of, split_of}

-- what is unfolded to search a written text
unfoldable searches : ⊤
unfolding regex_on_literals replaced_by find_str first_from matches_from slot_of holds holds_between
    attempt rounds byte_before char_at char_before has_bytes_at is_boundary
searches = tt

no_pattern : match_of (text (codes "a") ∷ text (codes "(?=a)") ∷ []) ≡ Err BadPattern
unfolding searches
no_pattern = refl

a_match : match_of (text (codes "xab") ∷ text (codes "a(b|c)$") ∷ []) ≡ Ok (boolean true)
unfolding searches
a_match = refl

no_match : match_of (text (codes "xab") ∷ text (codes "^a") ∷ []) ≡ Ok (boolean false)
unfolding searches
no_match = refl

-- the second group takes no part
the_groups : matches_of (text (codes "xb") ∷ text (codes "(x)(a)?(b)") ∷ [])
    ≡ Ok (list (item (text (codes "xb")) (item (text (codes "x"))
    (item (text []) (item (text (codes "b")) no_items)))))
unfolding searches
the_groups = refl

no_groups : matches_of (text (codes "x") ∷ text (codes "a") ∷ []) ≡ Ok (list no_items)
unfolding searches
no_groups = refl

three_pieces : split_of (text (codes ",") ∷ text (codes "a,,b") ∷ [])
    ≡ Ok (list (item (text (codes "a")) (item (text []) (item (text (codes "b")) no_items))))
unfolding searches
three_pieces = refl

the_last_is_empty : split_of (text (codes ",") ∷ text (codes "a,") ∷ [])
    ≡ Ok (list (item (text (codes "a")) (item (text []) no_items)))
unfolding searches
the_last_is_empty = refl

at_most_two : split_of (text (codes ",") ∷ long (pos 2) ∷ text (codes "a,,b") ∷ [])
    ≡ Ok (list (item (text (codes "a")) (item (text (codes ",b")) no_items)))
unfolding searches
at_most_two = refl

no_limit : split_of (text (codes ",") ∷ long (negsuc 0) ∷ text (codes "a,b") ∷ [])
    ≡ Ok (list (item (text (codes "a")) (item (text (codes "b")) no_items)))
unfolding searches
no_limit = refl

-- an empty match that touches the match before it is passed over
empty_matches : replace_of (text (codes "b?") ∷ text (codes "-") ∷ text (codes "ab") ∷ [])
    ≡ Ok (text (codes "-a-"))
unfolding searches
empty_matches = refl

a_template : replace_of (text (codes "(a)(?<n>b)") ∷ text (codes "${n}$1$$$9") ∷ text
    (codes "xabx") ∷ []) ≡ Ok (text (codes "xba$x"))
unfolding searches
a_template = refl

kinds_before_the_pattern : replace_of (text (codes "(") ∷ text [] ∷ long (pos 1) ∷ [])
    ≡ Err BadArgument
kinds_before_the_pattern = refl
