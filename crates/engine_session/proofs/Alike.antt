-- Registers that tell the same of impact name the same objects and files.
use Rattle.std.proofs.Common.{◌≡◌, ℕ, List, [], ◌∷◌, ◌++◌, ◌||◌, ◌&&◌, Bool, not, map, refl, sym, ap, ap₂, ◌∙◌}
use std.Path.{fun_ext}
use Rattle.std.specs.Prelude.{bytes_eq, codes, nat_eq}
use Rattle.std.specs.List.{list_any, filter, ends_with}
use Rattle.load_path.specs.declared.picture.PictureFile.{PictureFile}
use Rattle.pan_impact.specs.declared.register.Entry.{Entry}
use Rattle.pan_impact.specs.Levels.{reached_in}
use Rattle.pan_impact.specs.Touched.{templates_of, is_hit, is_of, hits_in, reads_in, hits, reads, names_in, touched_in}
use Rattle.pan_impact.specs.Unused.{is_hit_by_any, unused_in}
use Rattle.questions.specs.declared.key.Key.{Key}
use Rattle.questions.specs.declared.key.Key.TheVariants.{File, Under}
use Rattle.read_sets.specs.declared.trace.Item.{Item}
use Rattle.engine_session.specs.Registers.{seen_item, seen_entry, seen_in}

abbrev Seen : Type 0
Seen = List ℕ × List (Key × Bool)

module _ (file : List ℕ) (dirs : List (List ℕ)) where
  abbrev is_hit_seen : Key × Bool → Bool
  is_hit_seen (File name, gone) = bytes_eq name file
  is_hit_seen (Under object terms, gone) =
      gone && list_any (bytes_eq file) (templates_of dirs object)

  hit_seen : (k : Key) (n : ℕ) → is_hit file dirs k n ≡ is_hit_seen (k, nat_eq n 0)
  hit_seen (File name) n = refl
  hit_seen (Under object terms) n = refl

  hits_items : (items : List Item) → hits_in file dirs items
      ≡ list_any is_hit_seen (map seen_item items)
  hits_items [] = refl
  hits_items (i ∷ items) = ap₂ (λ a b. a || b) (hit_seen i.key i.number) (hits_items items)

  abbrev hits_name : List Seen → List ℕ → Bool
  hits_name seen name = list_any (λ (s : Seen). bytes_eq name s.0 && list_any is_hit_seen s.1) seen

  hits_entries : (entries : List Entry) (name : List ℕ) → hits entries file dirs name
      ≡ hits_name (seen_in entries) name
  hits_entries [] name = refl
  hits_entries (e ∷ entries) name =
      ap₂ (λ a b. (bytes_eq name e.name && a) || b) (hits_items e.items) (hits_entries entries name)

  abbrev hits_any : List Seen → Bool
  hits_any seen = list_any (λ (s : Seen). list_any is_hit_seen s.1) seen

  any_entries : (entries : List Entry) → is_hit_by_any entries dirs file
      ≡ hits_any (seen_in entries)
  any_entries [] = refl
  any_entries (e ∷ entries) = ap₂ (λ a b. a || b) (hits_items e.items) (any_entries entries)

reads_items : (object : List ℕ) (items : List Item) → reads_in object items
    ≡ list_any (λ (q : Key × Bool). is_of object q.0) (map seen_item items)
reads_items object [] = refl
reads_items object (i ∷ items) = ap (λ b. is_of object i.key || b) (reads_items object items)

abbrev reads_name : List Seen → List ℕ → List ℕ → Bool
reads_name seen name object =
    list_any (λ (s : Seen). bytes_eq name s.0 && list_any (λ (q : Key × Bool). is_of object q.0)
    s.1) seen

reads_entries : (entries : List Entry) (file : List ℕ) (dirs : List (List ℕ)) (name object : List ℕ)
    → reads entries file dirs name object ≡ reads_name (seen_in entries) name object
reads_entries [] file dirs name object = refl
reads_entries (e ∷ entries) file dirs name object =
    ap₂ (λ a b. (bytes_eq name e.name && a) || b) (reads_items object e.items)
    (reads_entries entries file dirs name object)

names_seen : (entries : List Entry) → names_in entries ≡ map (λ (s : Seen). s.0) (seen_in entries)
names_seen [] = refl
names_seen (e ∷ entries) = ap (λ ns. e.name ∷ ns) (names_seen entries)

abbrev touched_seen : List Seen → List ℕ → List (List ℕ) → List (List ℕ)
touched_seen seen file dirs =
    reached_in (hits_name file dirs seen) (reads_name seen) (map (λ (s : Seen). s.0) seen)

touched_entries : (entries : List Entry) (file : List ℕ) (dirs : List (List ℕ))
    → touched_in entries file dirs ≡ touched_seen (seen_in entries) file dirs
touched_entries entries file dirs =
    ap (λ h. reached_in h (reads entries file dirs) (names_in entries))
    (fun_ext (λ n. hits_entries file dirs entries n))
    ∙ ap (λ r. reached_in (hits_name file dirs (seen_in entries)) r (names_in entries))
    (fun_ext (λ n. fun_ext (λ o. reads_entries entries file dirs n o)))
    ∙ ap (reached_in (hits_name file dirs (seen_in entries)) (reads_name (seen_in entries)))
    (names_seen entries)

pub same_names : (a b : List Entry) → seen_in a ≡ seen_in b → names_in a ≡ names_in b
same_names a b same = names_seen a ∙ ap (map (λ (s : Seen). s.0)) same ∙ sym (names_seen b)

pub same_touched : (a b : List Entry) → seen_in a ≡ seen_in b
    → (file : List ℕ) (dirs : List (List ℕ)) → touched_in a file dirs ≡ touched_in b file dirs
same_touched a b same file dirs =
    touched_entries a file dirs ∙ ap (λ seen. touched_seen seen file dirs) same
    ∙ sym (touched_entries b file dirs)

pub same_unused : (a b : List Entry) → seen_in a ≡ seen_in b
    → (dirs : List (List ℕ)) (files : List PictureFile) → unused_in a dirs files
    ≡ unused_in b dirs files
same_unused a b same dirs files =
    ap (λ (test : PictureFile → Bool). map (λ (f : PictureFile). f.name)
    (filter (λ (f : PictureFile). ends_with nat_eq f.name (codes ".pan") && not (test f))
    files))
    (fun_ext (λ (f : PictureFile). any_entries f.name dirs a ∙ ap (hits_any f.name dirs) same
    ∙ sym (any_entries f.name dirs b)))

-- one more
pub seen_more : (old : List Entry) (e : Entry) → seen_in (old ++ e ∷ []) ≡ seen_in old
    ++ seen_entry e ∷ []
seen_more [] e = refl
seen_more (d ∷ old) e = ap (λ s. seen_entry d ∷ s) (seen_more old e)
