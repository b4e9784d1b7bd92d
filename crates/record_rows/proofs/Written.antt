-- What was written of a tree, and what is left.
use Rattle.std.proofs.Common.{◌≡◌, ℕ, ◌+◌, [], ◌∷◌, ◌++◌, List, Some, Result, Ok, Err, OnOk, map, sym, ap, ◌∙◌, append_assoc, true, refl}
use Rattle.std.specs.Int.{w32, w64, to_be_bytes}
use Rattle.std.proofs.lemmas.List.{append-nil}
use Rattle.path_tree.specs.Plain.{Plain, dict, list, text, long, undef}
use Rattle.path_tree.specs.Plain as plain
use Rattle.path_tree.specs.Find.{kind_of, child_count, key_at, child_at}
use Rattle.path_tree.specs.declared.kind.Kind.TheVariants as kind
use Rattle.path_tree.proofs.Children.{all_fields, all_items, dict_end, dict_step, list_end, list_step}
use Rattle.record_rows.specs.Forms as forms
use Rattle.record_rows.specs.Trees.{tree_spelled, fields_spelled, items_spelled}
use Rattle.record_rows.specs.Writing.{fields_left, items_left}
use Rattle.record_rows.specs.Fields.{directories, header}
use mathlib.Core.Logic.{inr}
use Rattle.record_rows.specs.Rows.{Give, is_kept, file_row, object_row, header_in, header_row, rows_of}
use Rattle.record_rows.specs.declared.format.Format.TheVariants.{Third}
use Rattle.kept_state.specs.Stored.{Stored}
use Rattle.kept_state.specs.declared.kept.KeptFile.{KeptFile}
use Rattle.kept_state.specs.declared.kept.KeptObject.{KeptObject}
use Rattle.stored_rows.specs.declared.row.StoredRow.{StoredRow}

pub on_ok : {T E : Type 0} {P Q : Type 0} (r : Result T E) → (P → Q) → OnOk r P → OnOk r Q
on_ok (Ok t) f p = f p
on_ok (Err e) f p = p

-- where the children of a container stand
dict_spelled : (t : Plain) → kind_of t ≡ kind.Dict → tree_spelled t
    ≡ (6 ∷ to_be_bytes w32 (child_count t)) ++ fields_left 0 t
dict_spelled (dict fs) is =
    ap (λ gs. (6 ∷ to_be_bytes w32 (child_count (dict fs))) ++ fields_spelled gs)
    (sym (all_fields fs))
dict_spelled (list ts) is = cc
dict_spelled (text bs) is = cc
dict_spelled (long z) is = cc
dict_spelled (plain.boolean b) is = cc
dict_spelled undef is = cc
dict_spelled plain.null is = cc

list_spelled : (t : Plain) → kind_of t ≡ kind.List → tree_spelled t
    ≡ (5 ∷ to_be_bytes w32 (child_count t)) ++ items_left 0 t
list_spelled (list ts) is =
    ap (λ us. (5 ∷ to_be_bytes w32 (child_count (list ts))) ++ items_spelled us)
    (sym (all_items ts))
list_spelled (dict fs) is = cc
list_spelled (text bs) is = cc
list_spelled (long z) is = cc
list_spelled (plain.boolean b) is = cc
list_spelled undef is = cc
list_spelled plain.null is = cc

part_written : (old new part more all : List ℕ) → new ≡ old ++ part → all ≡ part ++ more → new
    ++ more ≡ old ++ all
part_written old new part more all e f =
    ap (λ ts. ts ++ more) e ∙ append_assoc old part more ∙ ap (λ ts. old ++ ts) (sym f)

-- the head of a container was written
begun : (old mid new count left all : List ℕ) (b : ℕ) → mid ≡ old ++ b ∷ [] → new ≡ mid ++ count
    → all ≡ (b ∷ count) ++ left → new ++ left ≡ old ++ all
begun old mid new count left all b e f g =
    part_written old new (b ∷ count) left all (f ∙ ap (λ m. m ++ count) e
    ∙ append_assoc old (b ∷ []) count) g

pub dict_begun : (t : Plain) (old mid new : List ℕ) → kind_of t ≡ kind.Dict → mid ≡ old ++ 6 ∷ []
    → new ≡ mid ++ to_be_bytes w32 (child_count t) → new ++ fields_left 0 t ≡ old ++ tree_spelled t
dict_begun t old mid new is e f =
    begun old mid new (to_be_bytes w32 (child_count t)) (fields_left 0 t) (tree_spelled t) 6 e f
    (dict_spelled t is)

pub list_begun : (t : Plain) (old mid new : List ℕ) → kind_of t ≡ kind.List → mid ≡ old ++ 5 ∷ []
    → new ≡ mid ++ to_be_bytes w32 (child_count t) → new ++ items_left 0 t ≡ old ++ tree_spelled t
list_begun t old mid new is e f =
    begun old mid new (to_be_bytes w32 (child_count t)) (items_left 0 t) (tree_spelled t) 5 e f
    (list_spelled t is)

pub field_written : (t c : Plain) (i : ℕ) (k old mid new : List ℕ) → kind_of t ≡ kind.Dict
    → key_at i t ≡ Some k → child_at i t ≡ Some c → mid ≡ old ++ forms.text.spell k → new ≡ mid
    ++ tree_spelled c → new ++ fields_left (i + 1) t ≡ old ++ fields_left i t
field_written t c i k old mid new is key child e f =
    part_written old new (forms.text.spell k ++ tree_spelled c) (fields_left (i + 1) t)
    (fields_left i t) (f ∙ ap (λ m. m ++ tree_spelled c) e
    ∙ append_assoc old (forms.text.spell k) (tree_spelled c))
    (ap fields_spelled (dict_step t i k c is key child))

pub item_written : (t c : Plain) (i : ℕ) (old new : List ℕ) → kind_of t ≡ kind.List → child_at i t
    ≡ Some c → new ≡ old ++ tree_spelled c → new ++ items_left (i + 1) t ≡ old ++ items_left i t
item_written t c i old new is child e =
    part_written old new (tree_spelled c) (items_left (i + 1) t) (items_left i t) e
    (ap items_spelled (list_step t i c is child))

pub dict_closed : (t : Plain) (n : ℕ) (new : List ℕ) → kind_of t ≡ kind.Dict → n ≡ child_count t
    → new ≡ new ++ fields_left n t
dict_closed t n new is count =
    sym (ap (λ fs. new ++ fields_spelled fs) (dict_end t n is count) ∙ append-nil new)

pub list_closed : (t : Plain) (n : ℕ) (new : List ℕ) → kind_of t ≡ kind.List → n ≡ child_count t
    → new ≡ new ++ items_left n t
list_closed t n new is count =
    sym (ap (λ ts. new ++ items_spelled ts) (list_end t n is count) ∙ append-nil new)

-- the files' rows, the header and the objects' rows
pub rows_written : (s : Stored) (fs : List KeptFile) (os : List KeptObject) (h : StoredRow)
    (none one two all : List StoredRow) → none ≡ [] → one ≡ none ++ map (file_row s.counter) fs → h
    ≡ header_row (header_in Third s) → two ≡ one ++ h ∷ [] → all ≡ two
    ++ map (object_row Third s.counter) os → fs ≡ s.files → os ≡ s.objects → all ≡ rows_of s
rows_written s fs os h none one two all is_none is_one is_head is_two is_all files objects =
    is_all
    ∙ ap (λ t. t ++ map (object_row Third s.counter) os) is_two
    ∙ append_assoc one (h ∷ []) (map (object_row Third s.counter) os)
    ∙ ap (λ o. o ++ h ∷ map (object_row Third s.counter) os)
    (is_one ∙ ap (λ n. n ++ map (file_row s.counter) fs) is_none)
    ∙ ap (λ gs. map (file_row s.counter) gs ++ h ∷ map (object_row Third s.counter) os) files
    ∙ ap (λ k. map (file_row s.counter) s.files ++ k ∷ map (object_row Third s.counter) os) is_head
    ∙ ap (λ ps. map (file_row s.counter) s.files ++ header_row (header_in Third s) ∷ map
    (object_row Third s.counter) ps) objects

-- five parts behind others
all_behind : (old x a b c d : List ℕ) → ((((old ++ x) ++ a) ++ b) ++ c) ++ d ≡ old
    ++ (x ++ (a ++ (b ++ (c ++ d))))
all_behind old x a b c d =
    append_assoc (((old ++ x) ++ a) ++ b) c d ∙ append_assoc ((old ++ x) ++ a) b (c ++ d)
    ∙ append_assoc (old ++ x) a (b ++ (c ++ d)) ∙ append_assoc old x (a ++ (b ++ (c ++ d)))

-- the five parts of a header
pub header_written : (s : Stored) (dirs : List (List ℕ)) (old m0 m1 m2 m3 new : List ℕ) → m0 ≡ old
    ++ 3 ∷ [] → m1 ≡ m0 ++ to_be_bytes w64 s.counter → m2 ≡ m1
    ++ to_be_bytes w64 s.limits.max_iteration → m3 ≡ m2 ++ to_be_bytes w64 s.limits.max_recursion
    → dirs ≡ s.dirs → new ≡ m3 ++ directories.spell dirs → new ≡ old
    ++ header.spell (header_in Third s)
header_written s dirs old m0 m1 m2 m3 new e0 e1 e2 e3 same e =
    let a : List ℕ = to_be_bytes w64 s.counter in
    let b : List ℕ = to_be_bytes w64 s.limits.max_iteration in
    let c : List ℕ = to_be_bytes w64 s.limits.max_recursion in
    e
    ∙ ap (λ m. m ++ directories.spell dirs) (e3 ∙ ap (λ m. m ++ c)
    (e2 ∙ ap (λ m. m ++ b) (e1 ∙ ap (λ m. m ++ a) e0)))
    ∙ all_behind old (3 ∷ []) a b c (directories.spell dirs)
    ∙ ap (λ ds. old ++ ((3 ∷ []) ++ (a ++ (b ++ (c ++ directories.spell ds))))) same

pub rows_give : (s : Stored) (rows : List StoredRow) → rows ≡ rows_of s → is_kept Third s ≡ true
    → Give rows s
rows_give s rows e kept = inr (Third, s, record { kept = kept; rows_are = e }, refl)
