-- No name stands twice in the site.
use Rattle.std.proofs.Common.{◌≡◌, ℕ, Bool, true, false, List, [], ◌∷◌, ◌||◌, ◌&&◌, not, map, codes, refl, ap, ap₂, ◌∙◌}
use Rattle.std.specs.Prelude.{bytes_eq}
use Rattle.load_path.specs.Pictures.{is_below, begins_above, is_rising}
use Rattle.load_path.specs.declared.picture.PictureFile.{PictureFile}
use Rattle.load_path.proofs.Order.{below_chain, above_differs}
use Rattle.outside.specs.Pictures.{has_name, are_distinct, are_pictures}
use Rattle.outside.specs.declared.source.MemFile.{MemFile}
use Rattle.demo_pictures.specs.Demo.{next_number, port_of, common_text, machine_text, demo_picture}
use Rattle.demo.specs.Pictures.{file_of, replaced, touched, port_after, demo_pictures}

first_true : (a b : Bool) → a && b ≡ true → a ≡ true
first_true true b is = refl
first_true false b is = cc

second_true : (a b : Bool) → a && b ≡ true → b ≡ true
second_true true b is = is
second_true false b is = cc

begins_on : (n : List ℕ) (f : PictureFile) (fs : List PictureFile) → is_below n f.name ≡ true
    → begins_above f.name fs ≡ true → begins_above n fs ≡ true
begins_on n f [] p q = refl
begins_on n f (g ∷ gs) p q = below_chain n f.name g.name p q

no_name : (n : List ℕ) (fs : List PictureFile) → begins_above n fs ≡ true → is_rising fs ≡ true
    → has_name n (map file_of fs) ≡ false
no_name n [] p q = refl
no_name n (f ∷ fs) p q =
    ap (λ b. b || has_name n (map file_of fs)) (above_differs f.name n p)
    ∙ no_name n fs (begins_on n f fs p (first_true _ _ q)) (second_true _ _ q)

rising_distinct : (fs : List PictureFile) → is_rising fs ≡ true → are_distinct (map file_of fs)
    ≡ true
rising_distinct [] q = refl
rising_distinct (f ∷ fs) q =
    ap (λ b. not b && are_distinct (map file_of fs))
    (no_name f.name fs (first_true _ _ q) (second_true _ _ q))
    ∙ rising_distinct fs (second_true _ _ q)

-- another text leaves the names
same_names : (name text n : List ℕ) (fs : List MemFile) → has_name n (replaced name text fs)
    ≡ has_name n fs
same_names name text n [] = refl
same_names name text n (f ∷ fs) = ap (λ b. bytes_eq f.name n || b) (same_names name text n fs)

same_distinct : (name text : List ℕ) (fs : List MemFile) → are_distinct (replaced name text fs)
    ≡ are_distinct fs
same_distinct name text [] = refl
same_distinct name text (f ∷ fs) =
    ap₂ (λ a b. not a && b) (same_names name text f.name fs) (same_distinct name text fs)

four : (a b c d : List MemFile) → are_distinct a ≡ true → are_distinct b ≡ true → are_distinct c
    ≡ true → are_distinct d ≡ true → are_pictures (a ∷ b ∷ c ∷ d ∷ []) ≡ true
four a b c d p q r s = ap₂ (λ x y. x && y) p (ap₂ (λ x y. x && y) q
    (ap₂ (λ x y. x && y) r (ap (λ x. x && true) s)))

more_edits : (first : List MemFile) (n t m u k v : List ℕ) → are_distinct first ≡ true
    → are_pictures (first ∷ replaced n t first ∷ replaced m u (replaced n t first) ∷ replaced k v
    (replaced m u (replaced n t first)) ∷ []) ≡ true
more_edits first n t m u k v p =
    let q = same_distinct n t first ∙ p in
    let r = same_distinct m u (replaced n t first) ∙ q in
    let s = same_distinct k v (replaced m u (replaced n t first)) ∙ r in
    four first (replaced n t first) (replaced m u (replaced n t first))
    (replaced k v (replaced m u (replaced n t first))) p q r s

pub pictures_distinct : (count start : ℕ) → is_rising (demo_picture count start) ≡ true
    → are_pictures (demo_pictures count start) ≡ true
pictures_distinct count start q =
    more_edits (map file_of (demo_picture count start)) _ _ _ _ _ _
    (rising_distinct (demo_picture count start) q)

-- the site, and what is made of it by three texts
abbrev sites : List MemFile → List ℕ → List ℕ → List ℕ → List (List MemFile)
sites a t u v = a ∷ replaced (codes "h0.pan") t a ∷ replaced (codes "h0.pan") u
    (replaced (codes "h0.pan") t a) ∷ replaced (codes "site/common.pan") v
    (replaced (codes "h0.pan") u (replaced (codes "h0.pan") t a)) ∷ []

pub pictures_are : (count start port : ℕ) (picture : List PictureFile) (t u v : List ℕ)
    (a b c d : List MemFile) (made : List (List MemFile)) → made ≡ a ∷ b ∷ c ∷ d ∷ [] → picture
    ≡ demo_picture count start → port ≡ port_of (next_number start) → t
    ≡ touched (machine_text 0 port) → u ≡ touched (machine_text 0 (port_after port)) → v
    ≡ touched common_text → a ≡ map file_of picture → b ≡ replaced (codes "h0.pan") t a → c
    ≡ replaced (codes "h0.pan") u b → d ≡ replaced (codes "site/common.pan") v c → made
    ≡ demo_pictures count start
pictures_are count start port picture t u v a b c d made em ep eport et eu ev ea eb ec ed =
    em
    ∙ ap (λ x. a ∷ b ∷ c ∷ x ∷ []) ed
    ∙ ap (λ x. a ∷ b ∷ x ∷ replaced (codes "site/common.pan") v x ∷ []) ec
    ∙ ap (λ x. a ∷ x ∷ replaced (codes "h0.pan") u x ∷ replaced (codes "site/common.pan") v
    (replaced (codes "h0.pan") u x) ∷ []) eb
    ∙ ap (λ x. sites x t u v) ea
    ∙ ap (λ x. sites (map file_of picture) x u v) et
    ∙ ap (λ x. sites (map file_of picture) (touched (machine_text 0 port)) x v) eu
    ∙ ap (λ x. sites (map file_of picture) (touched (machine_text 0 port))
    (touched (machine_text 0 (port_after port))) x) ev
    ∙ ap (λ p. sites (map file_of picture) (touched (machine_text 0 p))
    (touched (machine_text 0 (port_after p))) (touched common_text)) eport
    ∙ ap (λ q. sites (map file_of q) (touched (machine_text 0 (port_of (next_number start))))
    (touched (machine_text 0 (port_after (port_of (next_number start))))) (touched common_text))
    ep
