-- A code of trees: a tree is kept as the list of its parts, each container after its items.
use Rattle.std.specs.Prelude.{◌≡◌, ◌⊎◌, ℕ, ℤ, zero, suc, Bool, List, [], ◌∷◌}
use Rattle.std.proofs.Common.{refl, ◌∙◌, inl, inr}
use Rattle.std.specs.Coded.{Coded, code_by, coded_ℕ, coded_ℤ, coded_bool, coded_list, coded⊎}
use Rattle.path_tree.specs.Plain.{Plain, dict, list, text, long, boolean, undef, null, Items, no_items, item, Fields, no_fields, field}

abbrev Token : Type 0
Token = List ℕ ⊎ (ℤ ⊎ (Bool ⊎ ℕ))

pub data Part : Type 0 where
  tree : Plain → Part
  items : Items → Part
  fields : Fields → Part

abbrev mutual
  parts : Plain → List Token → List Token
  parts (dict fs) r = parts_fields fs (inr (inr (inr 0)) ∷ r)
  parts (list ts) r = parts_items ts (inr (inr (inr 1)) ∷ r)
  parts (text bs) r = inl bs ∷ r
  parts (long z) r = inr (inl z) ∷ r
  parts (boolean b) r = inr (inr (inl b)) ∷ r
  parts undef r = inr (inr (inr 2)) ∷ r
  parts null r = inr (inr (inr 3)) ∷ r

  parts_items : Items → List Token → List Token
  parts_items no_items r = inr (inr (inr 4)) ∷ r
  parts_items (item t ts) r = parts t (parts_items ts (inr (inr (inr 5)) ∷ r))

  parts_fields : Fields → List Token → List Token
  parts_fields no_fields r = inr (inr (inr 6)) ∷ r
  parts_fields (field k t fs) r = inl k ∷ parts t (parts_fields fs (inr (inr (inr 7)) ∷ r))

abbrev close_dict : List Part → List Part
close_dict (fields fs ∷ s) = tree (dict fs) ∷ s
close_dict s = s

abbrev close_list : List Part → List Part
close_list (items ts ∷ s) = tree (list ts) ∷ s
close_list s = s

abbrev add_item : List Part → List Part
add_item (items ts ∷ tree t ∷ s) = items (item t ts) ∷ s
add_item s = s

abbrev add_field : List Part → List Part
add_field (fields fs ∷ tree t ∷ tree (text k) ∷ s) = fields (field k t fs) ∷ s
add_field s = s

abbrev act : ℕ → List Part → List Part
act zero s = close_dict s
act (suc zero) s = close_list s
act (suc (suc zero)) s = tree undef ∷ s
act (suc (suc (suc zero))) s = tree null ∷ s
act (suc (suc (suc (suc zero)))) s = items no_items ∷ s
act (suc (suc (suc (suc (suc zero))))) s = add_item s
act (suc (suc (suc (suc (suc (suc zero)))))) s = fields no_fields ∷ s
act (suc (suc (suc (suc (suc (suc (suc n))))))) s = add_field s

abbrev run : List Token → List Part → List Part
run [] s = s
run (inl bs ∷ r) s = run r (tree (text bs) ∷ s)
run (inr (inl z) ∷ r) s = run r (tree (long z) ∷ s)
run (inr (inr (inl b)) ∷ r) s = run r (tree (boolean b) ∷ s)
run (inr (inr (inr n)) ∷ r) s = run r (act n s)

abbrev first : List Part → Plain
first (tree t ∷ s) = t
first s = null

abbrev tokens : Plain → List Token
tokens t = parts t []

abbrev tree_of : List Token → Plain
tree_of r = first (run r [])

mutual
  run_parts : (t : Plain) (r : List Token) (s : List Part) → run (parts t r) s ≡ run r (tree t ∷ s)
  run_parts (dict fs) r s = run_fields fs (inr (inr (inr 0)) ∷ r) s
  run_parts (list ts) r s = run_items ts (inr (inr (inr 1)) ∷ r) s
  run_parts (text bs) r s = refl
  run_parts (long z) r s = refl
  run_parts (boolean b) r s = refl
  run_parts undef r s = refl
  run_parts null r s = refl

  run_items : (ts : Items) (r : List Token) (s : List Part) → run (parts_items ts r) s
      ≡ run r (items ts ∷ s)
  run_items no_items r s = refl
  run_items (item t ts) r s =
      run_parts t (parts_items ts (inr (inr (inr 5)) ∷ r)) s ∙ run_items ts (inr (inr (inr 5)) ∷ r)
      (tree t ∷ s)

  run_fields : (fs : Fields) (r : List Token) (s : List Part) → run (parts_fields fs r) s
      ≡ run r (fields fs ∷ s)
  run_fields no_fields r s = refl
  run_fields (field k t fs) r s =
      run_parts t (parts_fields fs (inr (inr (inr 7)) ∷ r)) (tree (text k) ∷ s) ∙ run_fields fs
      (inr (inr (inr 7)) ∷ r) (tree t ∷ tree (text k) ∷ s)

pub tree_of-tokens : (t : Plain) → tree_of (tokens t) ≡ t
tree_of-tokens t = Prim.rw (run_parts t [] []) refl

abbrev pub plain_code : Coded Plain
plain_code =
    code_by (List Token)
    (coded_list (coded⊎ (coded_list coded_ℕ)
    (coded⊎ coded_ℤ (coded⊎ coded_bool coded_ℕ)))) tokens tree_of tree_of-tokens
