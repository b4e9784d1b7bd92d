-- Lists that are walked, a step at a time.
use Rattle.std.proofs.Common.{◌≡◌, ◌∙◌, ap, sym, refl, ℕ, zero, suc, ◌+◌, ◌-◌, ◌<◌, ◌≤◌, true, ◌&&◌, List, [], ◌∷◌, ◌++◌, length, drop, get_or, arith}
use Rattle.std.specs.Borrow.{Bor}
use Rattle.std.specs.List.{list_all}
use Rattle.std.proofs.lemmas.List.{drop_more}
use Rattle.path_tree.specs.Plain.{Plain, dict, list, text, long, boolean, undef, null, Items, no_items, item}
use Rattle.path_tree.specs.Find.{child_at, child_count, item_at, item_count}
use Rattle.path_tree.specs.Lists.{items_in}
use Rattle.pan_ast.specs.declared.syntax.Item.{Item as RItem}
use Rattle.pan_ast.specs.declared.types.Field.{Field as RField}
use Rattle.pan_ast.specs.Seen.{item_seen}
use Rattle.pan_ast.specs.TypesSeen.{field_seen, fields_seen}
use Rattle.questions.specs.Contents.{Answers}
use Rattle.questions.specs.Run.{Meter, then}
use Rattle.dml_meaning.specs.Values.{is_list}
use Rattle.template_meaning.specs.Program.{Site, Program, Inside}
use Rattle.template_meaning.specs.Statements.{is_prefix, list_items, default_run, defaults_run}
use Rattle.template_meaning.specs.WrittenDefaults.{field_defaults, fields_defaults}
use Rattle.plain_statements.specs.Prefixes.{prefix_at}
use Rattle.plain_statements.specs.Seen.{items_at}

-- the fields of a record
pub fields_more : (fs : List RField) (i : ℕ) (x : RField) → i < length fs → x ≡ get_or fs i x
    → fields_defaults (fields_seen (drop i fs)) ≡ field_defaults (field_seen x)
    ++ fields_defaults (fields_seen (drop (i + 1) fs))
fields_more fs i x h is_x =
    ap (λ xs. fields_defaults (fields_seen xs)) (drop_more fs i x h
    ∙ ap (λ y. y ∷ drop (i + 1) fs) (sym is_x))

-- the items of defaults
pub defaults_more : (site : Site) (n : Inside) (is : List (Bor RItem)) (i : ℕ) (x : Bor RItem)
    (done : List Plain) (o : Answers) (s : Program) (m : Meter) → i < length is → x ≡ get_or is i x
    → defaults_run site n (items_at (drop i is)) done o s m
    ≡ then (default_run site n (item_seen x.now) o s m)
    (λ t. defaults_run site n (items_at (drop (i + 1) is)) (done ++ t ∷ []) o)
unfolding defaults_run
defaults_more site n is i x done o s m h is_x =
    ap (λ xs. defaults_run site n (items_at xs) done o s m)
    (drop_more is i x h ∙ ap (λ y. y ∷ drop (i + 1) is) (sym is_x))

-- the items of a list
all_more : (ts : Items) (i : ℕ) → i < item_count ts → list_all is_prefix (drop i (items_in ts))
    ≡ (prefix_at (item_at i ts) && list_all is_prefix (drop (i + 1) (items_in ts)))
all_more no_items i h = absurd (omega arith)
all_more (item t ts) zero h = refl
all_more (item t ts) (suc i) h = let e : suc i + 1 ≡ suc (i + 1) = omega arith in
    rw e (all_more ts i (omega arith))

all_done : (ts : Items) (i : ℕ) → item_count ts ≤ i → list_all is_prefix (drop i (items_in ts))
    ≡ true
all_done no_items zero h = refl
all_done no_items (suc i) h = refl
all_done (item t ts) zero h = absurd (omega arith)
all_done (item t ts) (suc i) h = all_done ts i (omega arith)

pub prefix_more : (v : Plain) (i : ℕ) → is_list v ≡ true → i < child_count v
    → list_all is_prefix (drop i (list_items v)) ≡ (prefix_at (child_at i v)
    && list_all is_prefix (drop (i + 1) (list_items v)))
prefix_more (list ts) i h k = all_more ts i k
prefix_more (dict fs) i h k = absurd cc
prefix_more (text bs) i h k = absurd cc
prefix_more (long z) i h k = absurd cc
prefix_more (boolean b) i h k = absurd cc
prefix_more undef i h k = absurd cc
prefix_more null i h k = absurd cc

pub prefix_done : (v : Plain) (i : ℕ) → is_list v ≡ true → child_count v ≤ i
    → list_all is_prefix (drop i (list_items v)) ≡ true
prefix_done (list ts) i h k = all_done ts i k
prefix_done (dict fs) i h k = absurd cc
prefix_done (text bs) i h k = absurd cc
prefix_done (long z) i h k = absurd cc
prefix_done (boolean b) i h k = absurd cc
prefix_done undef i h k = absurd cc
prefix_done null i h k = absurd cc

pub ruleset prefixes = (prefix_more, prefix_done)
