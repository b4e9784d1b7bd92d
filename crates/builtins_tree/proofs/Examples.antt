-- The definitions on written values.
use Rattle.std.proofs.Common.{◌≡◌, [], ◌∷◌, Ok, Err, pos, negsuc, codes, refl}
use Rattle.std.specs.Str.{chars}
use Rattle.path_tree.specs.Plain.{Plain, dict, list, text, long, undef, null, item, no_items, field, no_fields}
use Rattle.path_tree.specs.declared.refused.Refused.TheVariants.{BadArgument, BadIndex}
use Rattle.builtins_tree.specs.Dicts.{dict_of}
use Rattle.builtins_tree.specs.Lists.{append_of}
use Rattle.builtins_tree.specs.Merges.{merge_of}
use Rattle.builtins_tree.specs.Reads.{key_of}
use Rattle.builtins_tree.specs.Searches.{index_of}
use Rattle.builtins_tree.specs.Splices.{splice_of}

abbrev three : Plain
three = list (item (long (pos 1)) (item (long (pos 2)) (item (long (pos 3)) no_items)))

a_splice_past_its_end : splice_of (three ∷ long (pos 1) ∷ long (pos 3) ∷ []) ≡ Err BadIndex
a_splice_past_its_end = refl

a_splice : splice_of (three ∷ long (pos 1) ∷ long (pos 1) ∷ list
    (item (text (codes "a")) no_items) ∷ []) ≡ Ok
    (list (item (long (pos 1)) (item (text (codes "a")) (item (long (pos 3)) no_items))))
a_splice = refl

a_splice_of_a_text : splice_of (text (codes "abcd") ∷ long (pos 1) ∷ long (pos 2) ∷ text
    (codes "x") ∷ []) ≡ Ok (text (codes "axd"))
unfolding chars lib.Utf8.encode
a_splice_of_a_text = refl

a_dict : dict_of (text (codes "b") ∷ long (pos 1) ∷ text (codes "a") ∷ long (pos 2) ∷ text
    (codes "b") ∷ long (pos 3) ∷ [])
    ≡ Ok (dict (field (codes "a") (long (pos 2)) (field (codes "b") (long (pos 3)) no_fields)))
a_dict = refl

an_odd_dict : dict_of (text (codes "b") ∷ []) ≡ Err BadArgument
an_odd_dict = refl

a_null_before_a_bad_key : dict_of (text (codes "1a") ∷ null ∷ []) ≡ Err BadArgument
a_null_before_a_bad_key = refl

a_bad_key : dict_of (text (codes "1a") ∷ undef ∷ []) ≡ Err BadIndex
a_bad_key = refl

a_key_twice : merge_of (dict (field (codes "a") undef no_fields) ∷ dict
    (field (codes "a") undef no_fields) ∷ []) ≡ Err BadArgument
a_key_twice = refl

a_place : index_of (text (codes "b") ∷ text (codes "abcb") ∷ long (pos 2) ∷ []) ≡ Ok (long (pos 3))
unfolding chars lib.Utf8.encode
a_place = refl

no_place : index_of (long (pos 7) ∷ three ∷ []) ≡ Ok (long (negsuc 0))
no_place = refl

an_appended_item : append_of (three ∷ text (codes "a") ∷ [])
    ≡ Ok (list (item (long (pos 1)) (item (long (pos 2))
    (item (long (pos 3)) (item (text (codes "a")) no_items)))))
an_appended_item = refl

an_appended_null : append_of (undef ∷ null ∷ []) ≡ Err BadArgument
an_appended_null = refl

a_key : key_of (dict (field (codes "a") undef (field (codes "b") undef no_fields)) ∷ long
    (pos 1) ∷ []) ≡ Ok (text (codes "b"))
a_key = refl

no_key : key_of (dict no_fields ∷ long (negsuc 0) ∷ []) ≡ Err BadIndex
no_key = refl

an_index_in_a_dict : index_of (long (pos 2) ∷ dict
    (field (codes "a") (long (pos 1)) (field (codes "b") (long (pos 2)) no_fields)) ∷ [])
    ≡ Ok (text (codes "b"))
an_index_in_a_dict = refl

an_empty_text_at_the_end : index_of (text (codes "") ∷ text (codes "ab") ∷ long (pos 2) ∷ [])
    ≡ Ok (long (pos 2))
unfolding chars lib.Utf8.encode
an_empty_text_at_the_end = refl

joined_lists : merge_of (list (item undef no_items) ∷ three ∷ [])
    ≡ Ok (list (item undef (item (long (pos 1)) (item (long (pos 2))
    (item (long (pos 3)) no_items)))))
joined_lists = refl
