-- What is known of the shelf.
use Rattle.std.proofs.Common.{◌≡◌, ℕ, Bool, true, false, List, Option, Some, None, IfSome, is_some, if◌then◌else◌, refl, sym, ap, ◌∙◌, subst}
use Rattle.std.specs.Prelude.{bytes_eq}
use Rattle.std.specs.HashMap.{get}
use Rattle.std.proofs.lemmas.Bool.{true≢false}
use Rattle.std.proofs.lemmas.Slice.Eq.{bytes_eq-Decides}
use Rattle.outside.specs.Cells.{Cell, with_content, Sets}
use Rattle.publication.specs.declared.publisher.Known.{Known}
use Rattle.publication.specs.declared.publisher.Known.TheVariants.{Unread, Holds}
use Rattle.publication.specs.declared.publisher.Publisher.{Publisher}
use Rattle.publication.specs.OwnNames.{is_own}
use Rattle.publication.specs.Published.{Knows, Allows, Holding}

known_at : (bytes : List ℕ) (c : Cell) (k : Option Known) → Holding bytes k → IfSome c (Allows k)
    → c ≡ with_content (Some bytes) c
known_at bytes None k holding allows = refl
known_at bytes (Some content) None holding allows = absurd holding
known_at bytes (Some content) (Some Unread) holding allows = absurd holding
known_at bytes (Some content) (Some (Holds b)) holding allows =
    ap (λ d. Some d) (allows ∙ ap (λ d. Some d) holding)

known_by : (p : Publisher) (cell : List ℕ → Cell) (name bytes n : List ℕ) (b : Bool) → is_own name
    ≡ true → Knows p cell → Holding bytes (get bytes_eq p.own name) → bytes_eq name n ≡ b → cell n
    ≡ (if b then with_content (Some bytes) (cell n) else cell n)
known_by p cell name bytes n true own knows holding is =
    let e : name ≡ n = (bytes_eq-Decides name n).0 is in
    known_at bytes (cell n) (get bytes_eq p.own n)
    (subst (λ m. Holding bytes (get bytes_eq p.own m)) e holding)
    (knows n (sym (ap is_own e) ∙ own))
known_by p cell name bytes n false own knows holding is = refl

-- a name that is known to hold the bytes has them
pub known_holds : (p : Publisher) (cell : List ℕ → Cell) (name bytes : List ℕ) → is_own name ≡ true
    → Knows p cell → Holding bytes (get bytes_eq p.own name) → Sets cell name (Some bytes) cell
known_holds p cell name bytes own knows holding n =
    known_by p cell name bytes n (bytes_eq name n) own knows holding refl

absent_by : (k : Option Known) (c : Cell) → is_some k ≡ false
    → IfSome c (Allows k) → IfSome c (λ content. content ≡ None)
absent_by None None none allows = tt
absent_by None (Some content) none allows = allows
absent_by (Some k) c none allows = absurd (true≢false none)

-- a name of which nothing is known is absent
pub known_absent : (p : Publisher) (cell : List ℕ → Cell) (name : List ℕ) → is_own name ≡ true
    → Knows p cell → is_some (get bytes_eq p.own name) ≡ false
    → IfSome (cell name) (λ content. content ≡ None)
known_absent p cell name own knows none =
    absent_by (get bytes_eq p.own name) (cell name) none (knows name own)
