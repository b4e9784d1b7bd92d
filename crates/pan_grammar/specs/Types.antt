-- Types, in the form of Grammar.
use Rattle.std.specs.Prelude.{◌≡◌, ◌≢◌, ℕ, suc, ℤ, neg_ℤ, Bool, true, false, ◌||◌, List, [], ◌∷◌, Option, Some, None}
use Rattle.path_tree.specs.Grammar.{is_key}
use Rattle.pan_ast.specs.declared.sort.Sort.{Sort}
use Rattle.pan_ast.specs.declared.sort.Sort.TheVariants as sorts
use Rattle.pan_ast.specs.declared.token.Token.{Token}
use Rattle.pan_ast.specs.declared.place.Place.{Place}
use Rattle.pan_ast.specs.declared.types.Bounds.{Bounds}
use Rattle.pan_ast.specs.declared.types.Suffix.{Suffix}
use Rattle.pan_ast.specs.declared.types.Suffix.TheVariants as suffixes
use Rattle.pan_ast.specs.Sorts.{sort, at, is_type_name}
use Rattle.pan_ast.specs.Syntax.{Item}
use Rattle.pan_ast.specs.Types.{FullType, Full, TypeForm, Formed, Head, Field, fields_of}
use Rattle.pan_ast.specs.Types as trees
use Rattle.pan_grammar.specs.Grammar.{Tokens, number, IsItem}

-- ---- the trees of the grammar's lines

abbrev pub bounds : Place → Option ℤ → Option ℤ → Bounds
bounds p low high = record { place = p; low = low; high = high }

abbrev pub named : Token → Option Bounds → Head
named t b = trees.Named t.value t.place b

abbrev pub recorded : Bool → List Field → Head
recorded extensible fs = trees.Record extensible (fields_of fs)

-- the field of a key k, required where the sign c after it is `:`
abbrev pub own : Token → Token → FullType → Field
own k c f = trees.Own k.value k.place (at sorts.Colon (sort c)) f

abbrev pub included : Token → Token → Field
included i n = trees.Include i.place n.value n.place

-- ":" | "?"
abbrev pub is_mark : Sort → Bool
is_mark s = at sorts.Colon s || at sorts.Question s

-- what a Suffix begins with
abbrev pub is_suffix : Sort → Bool
is_suffix s = at sorts.OpenBracket s || (at sorts.OpenBrace s || at sorts.Star s)

-- ---- the lines

-- Signed = [ "-" ] Int
pub data IsSigned : Tokens → ℤ → Tokens → Type 0 where
  a_number : {t : Token} {rest : Tokens} → sort t ≡ sorts.Int → IsSigned (t ∷ rest) (number t) rest
  a_negative : {m t : Token} {rest : Tokens}
      → sort m ≡ sorts.Minus → sort t ≡ sorts.Int → IsSigned (m ∷ t ∷ rest) (neg_ℤ (number t)) rest

-- what stands after the first Signed n of Bounds that begin at p; n alone means exactly n
pub data IsHigh (p : Place) (n : ℤ) : Tokens → Bounds → Tokens → Type 0 where
  exactly : {rest : Tokens} → IsHigh p n rest (bounds p (Some n) (Some n)) rest
  at_least : {r : Token} {rest : Tokens} → sort r ≡ sorts.Range
      → IsHigh p n (r ∷ rest) (bounds p (Some n) None) rest
  from_to : {r : Token} {ts rest : Tokens} {m : ℤ}
      → sort r ≡ sorts.Range → IsSigned ts m rest → IsHigh p n (r
      ∷ ts) (bounds p (Some n) (Some m)) rest

-- Bounds = Signed [ ".." [ Signed ] ] | ".." Signed
pub data IsBounds : Tokens → Bounds → Tokens → Type 0 where
  from_low : {t : Token} {ts ts1 rest : Tokens} {n : ℤ} {b : Bounds}
      → IsSigned (t ∷ ts) n ts1 → IsHigh t.place n ts1 b rest → IsBounds (t ∷ ts) b rest
  at_most : {r : Token} {ts rest : Tokens} {n : ℤ}
      → sort r ≡ sorts.Range → IsSigned ts n rest → IsBounds (r
      ∷ ts) (bounds r.place None (Some n)) rest

-- A part in brackets that is left out is not followed by the token that it would begin with; after
-- a type such a token can be nothing else.

-- [ Bounds ] and a sign that closes
pub data IsRange (close : Sort) : Tokens → Option Bounds → Tokens → Type 0 where
  no_range : {k : Token} {rest : Tokens} → sort k ≡ close → IsRange close (k ∷ rest) None rest
  a_range : {k : Token} {ts rest : Tokens} {b : Bounds}
      → IsBounds ts b (k ∷ rest) → sort k ≡ close → IsRange close ts (Some b) rest

-- [ "(" Bounds ")" ]
pub data IsBounded : Tokens → Option Bounds → Tokens → Type 0 where
  unbounded : {t : Token} {ts : Tokens} → sort t ≢ sorts.Open → IsBounded (t ∷ ts) None (t ∷ ts)
  bounded : {o k : Token} {ts rest : Tokens} {b : Bounds}
      → sort o ≡ sorts.Open → IsBounds ts b (k ∷ rest) → sort k ≡ sorts.Close
      → IsBounded (o ∷ ts) (Some b) rest

-- { Suffix }
-- Suffix = "[" [ Bounds ] "]" | "{" [ Bounds ] "}" | "*"
pub data IsSuffixes : Tokens → List Suffix → Tokens → Type 0 where
  no_suffix : {t : Token} {ts : Tokens} → is_suffix (sort t) ≡ false
      → IsSuffixes (t ∷ ts) [] (t ∷ ts)
  a_list : {o : Token} {ts ts1 rest : Tokens} {b : Option Bounds} {ss : List Suffix}
      → sort o ≡ sorts.OpenBracket → IsRange sorts.CloseBracket ts b ts1 → IsSuffixes ts1 ss rest
      → IsSuffixes (o ∷ ts) (suffixes.List b ∷ ss) rest
  a_dict : {o : Token} {ts ts1 rest : Tokens} {b : Option Bounds} {ss : List Suffix}
      → sort o ≡ sorts.OpenBrace → IsRange sorts.CloseBrace ts b ts1 → IsSuffixes ts1 ss rest
      → IsSuffixes (o ∷ ts) (suffixes.Dict b ∷ ss) rest
  a_link : {l : Token} {ts rest : Tokens} {ss : List Suffix}
      → sort l ≡ sorts.Star → IsSuffixes ts ss rest → IsSuffixes (l ∷ ts) (suffixes.Link ∷ ss) rest

-- { "," Text } ")"
pub data IsTexts : Tokens → List (List ℕ) → Tokens → Type 0 where
  no_text : {k : Token} {rest : Tokens} → sort k ≡ sorts.Close → IsTexts (k ∷ rest) [] rest
  a_text : {c t : Token} {ts rest : Tokens} {xs : List (List ℕ)}
      → sort c ≡ sorts.Comma → sort t ≡ sorts.Text → IsTexts ts xs rest
      → IsTexts (c ∷ t ∷ ts) (t.value ∷ xs) rest

module _ (May : ℕ → Tokens → Type 0) where
  -- [ w Item ], for a sign or a word w
  pub data IsOption (w : Sort) : ℕ → Tokens → Option Item → Tokens → Type 0 where
    absent : {d : ℕ} {t : Token} {ts : Tokens} → sort t ≢ w → IsOption w d (t ∷ ts) None (t ∷ ts)
    present : {d : ℕ} {t : Token} {ts rest : Tokens} {i : Item}
        → sort t ≡ w → IsItem May d ts i rest → IsOption w d (t ∷ ts) (Some i) rest

  mutual
    -- FullType = Type [ "=" Item ] [ "with" Item ]; the Type does not hold the Items
    pub data IsFull : ℕ → Tokens → FullType → Tokens → Type 0 where
      a_full : {d : ℕ} {ts ts1 ts2 rest : Tokens} {f : TypeForm} {e w : Option Item}
          → IsType d ts f ts1 → IsOption sorts.Assign d ts1 e ts2 → IsOption sorts.With d ts2 w rest
          → IsFull d ts (Full f e w) rest

    -- Type = ( TypeName [ "(" Bounds ")" ] | Record | Choice ) { Suffix }
    -- Record = [ "extensible" ] "{" { Field } "}"; it begins where its Type does, and the Type
    -- holds it
    -- Choice = "choice" "(" Text { "," Text } ")"
    pub data IsType : ℕ → Tokens → TypeForm → Tokens → Type 0 where
      a_named : {d : ℕ} {t : Token} {ts ts1 rest : Tokens} {b : Option Bounds} {ss : List Suffix}
          → May (suc d) (t ∷ ts) → is_type_name (sort t) ≡ true → IsBounded ts b ts1
          → IsSuffixes ts1 ss rest
          → IsType d (t ∷ ts) (Formed (named t b) ss) rest
      a_record : {d : ℕ} {t : Token} {ts ts1 rest : Tokens} {fs : List Field} {ss : List Suffix}
          → May (suc d) (t ∷ ts) → May (suc (suc d)) (t ∷ ts) → sort t ≡ sorts.OpenBrace
          → IsFields (suc (suc d)) ts fs ts1 → IsSuffixes ts1 ss rest
          → IsType d (t ∷ ts) (Formed (recorded false fs) ss) rest
      an_extensible : {d : ℕ} {t o : Token} {ts ts1 rest : Tokens} {fs : List Field}
          {ss : List Suffix}
          → May (suc d) (t ∷ o ∷ ts) → May (suc (suc d)) (t ∷ o ∷ ts) → sort t ≡ sorts.Extensible
          → sort o ≡ sorts.OpenBrace → IsFields (suc (suc d)) ts fs ts1 → IsSuffixes ts1 ss rest
          → IsType d (t ∷ o ∷ ts) (Formed (recorded true fs) ss) rest
      a_choice : {d : ℕ} {t o x : Token} {ts ts1 rest : Tokens} {xs : List (List ℕ)}
          {ss : List Suffix}
          → May (suc d) (t ∷ o ∷ x ∷ ts) → sort t ≡ sorts.Choice → sort o ≡ sorts.Open
          → sort x ≡ sorts.Text
          → IsTexts ts xs ts1 → IsSuffixes ts1 ss rest
          → IsType d (t ∷ o ∷ x ∷ ts) (Formed (trees.Choice (x.value ∷ xs)) ss) rest

    -- { Field } "}"
    -- Field = Text ( ":" | "?" ) FullType | "include" TypeName, where the Text is a key
    pub data IsFields : ℕ → Tokens → List Field → Tokens → Type 0 where
      no_field : {d : ℕ} {t : Token} {rest : Tokens} → sort t ≡ sorts.CloseBrace
          → IsFields d (t ∷ rest) [] rest
      own_field : {d : ℕ} {k c : Token} {ts ts1 rest : Tokens} {f : FullType} {fs : List Field}
          → sort k ≡ sorts.Text → is_key k.value ≡ true → is_mark (sort c) ≡ true
          → IsFull d ts f ts1
          → IsFields d ts1 fs rest → IsFields d (k ∷ c ∷ ts) (own k c f ∷ fs) rest
      include_field : {d : ℕ} {i n : Token} {ts rest : Tokens} {fs : List Field}
          → sort i ≡ sorts.Include → is_type_name (sort n) ≡ true → IsFields d ts fs rest
          → IsFields d (i ∷ n ∷ ts) (included i n ∷ fs) rest
