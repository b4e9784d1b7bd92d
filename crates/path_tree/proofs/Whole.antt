-- A put keeps that containers hold no null, and that keys rise.
use Rattle.std.proofs.Common.{◌≡◌, ℕ, zero, suc, true, List, Some, None, refl, ap, ◌∙◌}
use Rattle.std.specs.Ordering.{nat_cmp, match_ordering, ordering_reverse}
use Rattle.std.specs.Cmp.Lexicographic.{slice_cmp, nat_list_cmp_total}
use Rattle.std.specs.declared.cmp.Ordering.{Ordering}
use Rattle.std.specs.declared.cmp.Ordering.TheVariants.{Less, Equal, Greater}
use Rattle.path_tree.specs.Grammar.{is_key}
use Rattle.path_tree.specs.Plain.{Plain, dict, list, undef, Items, no_items, item, Fields, no_fields, field, AreItems, AreFields, IsBefore}
use Rattle.path_tree.specs.Find.{find_field}
use Rattle.path_tree.specs.Put.{put_field, put_item}
use Rattle.path_tree.specs.Kept.{IsInside}

undef_inside : IsInside undef
undef_inside = record { some = λ e. cc; whole = tt }

pub items_put : (i : ℕ) (t : Plain) (ts : Items) → IsInside t → AreItems ts
    → AreItems (put_item i t ts)
items_put zero t no_items h a = (h.some, h.whole, tt)
items_put zero t (item u us) h a = (h.some, h.whole, a.2)
items_put (suc i) t no_items h a = (undef_inside.some, tt, items_put i t no_items h tt)
items_put (suc i) t (item u us) h a = (a.0, a.1, items_put i t us h a.2)

before_at : (l k m : List ℕ) (t u : Plain) (fs : Fields) (o : Ordering) → slice_cmp nat_cmp l k
    ≡ Less → slice_cmp nat_cmp l m ≡ Less → IsBefore l
    (match_ordering o (field k t (field m u fs)) (field m t fs) (field m u (put_field k t fs)))
before_at l k m t u fs Less h b = h
before_at l k m t u fs Equal h b = b
before_at l k m t u fs Greater h b = b

before_put : (l k : List ℕ) (t : Plain) (fs : Fields) → slice_cmp nat_cmp l k ≡ Less → IsBefore l fs
    → IsBefore l (put_field k t fs)
before_put l k t no_fields h b = h
before_put l k t (field m u fs) h b = before_at l k m t u fs (slice_cmp nat_cmp k m) h b

module _ (k l : List ℕ) (t u : Plain) (fs : Fields) (h : IsInside t)
    (a : AreFields (field l u fs)) where
  at_field : (o : Ordering) → slice_cmp nat_cmp k l ≡ o
      → (match_ordering o None (Some u) (find_field k fs) ≡ None → is_key k ≡ true)
      → ((find_field k fs ≡ None → is_key k ≡ true) → AreFields (put_field k t fs))
      → AreFields (match_ordering o (field k t (field l u fs)) (field l t fs)
      (field l u (put_field k t fs)))
  at_field Less is key ih = (key refl, h.some, h.whole, is, a)
  at_field Equal is key ih = (a.0, h.some, h.whole, a.3, a.4)
  at_field Greater is key ih = (
    a.0,
    a.1,
    a.2,
    before_put l k t fs (nat_list_cmp_total.antisymm l k ∙ ap ordering_reverse is)
        a.3,
    ih key,
  )

-- a key that is new has to be one
pub fields_put : (k : List ℕ) (t : Plain) (fs : Fields) → (find_field k fs ≡ None → is_key k ≡ true)
    → IsInside t → AreFields fs → AreFields (put_field k t fs)
fields_put k t no_fields key h a = (key refl, h.some, h.whole, tt, tt)
fields_put k t (field l u fs) key h a =
    at_field k l t u fs h a (slice_cmp nat_cmp k l) refl key (λ f. fields_put k t fs f h a.4)

pub list_inside : (ts : Items) → AreItems ts → IsInside (list ts)
list_inside ts a = record { some = λ e. cc; whole = a }

pub dict_inside : (fs : Fields) → AreFields fs → IsInside (dict fs)
dict_inside fs a = record { some = λ e. cc; whole = a }

pub ruleset whole_lemmas = (items_put, list_inside, dict_inside)
