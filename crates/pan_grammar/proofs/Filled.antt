-- The tokens that fill a state complete it. What begins in them may be as deep as it likes.
use Rattle.std.proofs.Common.{◌≡◌, ◌≢◌, ℕ, zero, suc, length, ◌≤◌, arith, true, List, [], ◌∷◌, ◌++◌, Some, None, refl, sym, ◌∙◌, inl, inr}
use Rattle.std.proofs.lemmas.Bool.{and_parts}
use Rattle.pan_ast.specs.declared.sort.Sort.{Sort}
use Rattle.pan_ast.specs.declared.sort.Sort.TheVariants as sorts
use Rattle.pan_ast.specs.declared.template.TemplateKind.TheVariants as kinds
use Rattle.pan_ast.specs.declared.types.Suffix.{Suffix}
use Rattle.pan_ast.specs.Syntax.{Item, Node}
use Rattle.pan_ast.specs.Syntax as nodes
use Rattle.pan_ast.specs.Types.{FullType, Full, Formed, Head}
use Rattle.pan_ast.specs.Types as types
use Rattle.pan_ast.specs.Templates.{Statement, Template}
use Rattle.pan_ast.specs.Templates as statements
use Rattle.pan_grammar.specs.Grammar.{Tokens, NotElse, joined, block, plain, name, called, inside, index, number, IsItem, a_chain, IsChain, a_unary, a_line, tail_ends, a_primary, suffix_ends, a_literal, closed, no_item, no_arg, args_end}
use Rattle.pan_grammar.specs.Types.{bounds, named, recorded, own, a_number, exactly, from_low, no_range, IsBounded, unbounded, IsSuffixes, no_suffix, no_text, IsOption, absent, a_full, a_named, no_field}
use Rattle.pan_grammar.specs.Templates.{stated, conditional, Header, template, of_path, text_included, no_statement, is_named, ordinary}
use Rattle.pan_grammar.specs.States.{FullStack, StatementType, InField, Hole, StatementItem, AfterEquals, AfterWith, Parts, Last, Further, MayElse, ItemStack, Out, InBlock, InParts, InReference, InIndex, InParens, InCall, NodeStack, Chained, Signed, First, Operand, AName, State, Start, Takes, Statements, FinalRead, IncludeRead, NeedFull, NameRead, TextsOpen, FieldsOpen, HasHead, NeedSigned, NeedBounds, HasLow, RangeRead, RangeOpen, NeedItem, NeedUnary, BlockOpen, WordRead, ItemWord, HasReference, CallOpen, HasItem, HasPrimary, HasNode, Done}
use Rattle.pan_grammar.specs.Depths.{full_holders, holders}
use Rattle.pan_grammar.specs.Waiting.{one, that, no_else, IsChainFrom, from_unary, from_line, PartsGo, StatementsWait, StatementEnds, FullWaits, HeadWaits, HoleWaits, ItemWaits, NodeWaits, Completes}
use Rattle.path_tree.specs.Grammar.{is_name}
use Rattle.pan_grammar.proofs.Fill.{an_int, a_text_token, a_name_token, a_word, an_end, the_template, a_semicolon, an_equals, a_close_brace, sort_an_int, sort_a_text_token, sort_a_name_token, sort_a_word, sort_an_end, sort_the_template, sort_a_semicolon, sort_an_equals, sort_a_close_brace, sort_a_close, sort_a_close_bracket, divides, close_by, closes_by, sample, sample_fits, zero_node, full_fill, hole_fill, parts_fill, item_fill, node_fill, fill, not_else}

name_fits : is_name a_name_token.value ≡ true
unfolding sample
name_fits = (and_parts _ _ (sample_fits AName)).1

module _ (May : ℕ → Tokens → Type 0) (m : ℕ) (free : (d : ℕ) (ts : Tokens) → length ts ≤ m → May d
    ts) where
  -- ---- a number is a chain of each level, and an item

  zero_chain : (d l : ℕ) (rest : Tokens) → IsChain May d l (an_int ∷ rest) zero_node rest
  zero_chain d zero rest = a_unary (a_primary (a_literal (rw sort_an_int refl)) suffix_ends)
  zero_chain d (suc l) rest = a_line (zero_chain d l rest) tail_ends

  from_self : {d : ℕ} (l : ℕ) (x : Node) (ts : Tokens) → IsChainFrom May d l x ts x ts
  from_self zero x ts = from_unary
  from_self (suc l) x ts = from_line (from_self l x ts) tail_ends

  zero_item : (d : ℕ) (rest : Tokens) → length (an_int ∷ rest) ≤ m
      → IsItem May d (an_int ∷ rest) (plain zero_node) rest
  zero_item d rest h = a_chain (free (suc d) (an_int ∷ rest) h) (zero_chain (suc d) 9 rest)

  -- ---- statements and types

  nothing_more : (h : Header) (ss : List Statement)
      → StatementsWait May h ss (an_end ∷ []) (template h (ss ++ []))
  nothing_more h ss = ([], no_statement sort_an_end, refl)

  ended : (h : Header) (ss : List Statement) (x : Statement)
      → StatementEnds May h ss x (a_semicolon ∷ an_end ∷ []) (template h ((ss ++ x ∷ []) ++ []))
  ended h ss x = (an_end ∷ [], one sort_a_semicolon, nothing_more h (ss ++ x ∷ []))

  -- what fills a FullStack begins with one of two signs
  first_of : (s : FullStack) (P : Tokens → Type 0) → P (a_semicolon ∷ an_end ∷ [])
      → ((r : FullStack) → P (a_close_brace ∷ full_fill r)) → P (full_fill s)
  unfolding full_fill
  first_of (StatementType h ss make) P a b = a
  first_of (InField k c x fs s) P a b = b s

  no_option : (w : Sort) (d : ℕ) (s : FullStack) → sorts.Semicolon ≢ w → sorts.CloseBrace ≢ w
      → IsOption May w d (full_fill s) None (full_fill s)
  no_option w d s a b = first_of s (λ ts. IsOption May w d ts None ts)
      (absent (λ e. a (sym sort_a_semicolon ∙ e))) (λ r. absent
      (λ e. b (sym sort_a_close_brace ∙ e)))

  no_list : (s : FullStack) → IsSuffixes (full_fill s) [] (full_fill s)
  no_list s = first_of s (λ ts. IsSuffixes ts [] ts) (no_suffix (rw sort_a_semicolon refl))
      (λ r. no_suffix (rw sort_a_close_brace refl))

  no_bounds : (s : FullStack) → IsBounded (full_fill s) None (full_fill s)
  no_bounds s =
      first_of s (λ ts. IsBounded ts None ts) (unbounded
      (λ e. let k : sorts.Semicolon ≡ sorts.Open = sym sort_a_semicolon ∙ e in absurd cc))
      (λ r. unbounded (λ e. let k : sorts.CloseBrace ≡ sorts.Open = sym sort_a_close_brace ∙ e in
      absurd cc))

  head_goes : (a : Head) (ss : List Suffix) (s : FullStack) (z : Template)
      → FullWaits May s (Full (Formed a (ss ++ [])) None None) (full_fill s) z
      → HeadWaits May a ss s (full_fill s) z
  head_goes a ss s z w = (
    [],
    full_fill s,
    no_list s,
    (
      None,
      None,
      full_fill s,
      full_fill s,
      no_option sorts.Assign
          (full_holders s) s (λ e. cc) (λ e. cc),
      no_option sorts.With (full_holders s) s (λ e. cc)
          (λ e. cc),
      w,
    ),
  )

  full_filled : (s : FullStack) (f : FullType) → (z : Template) × FullWaits May s f (full_fill s) z
  unfolding full_fill
  full_filled (StatementType h ss make) f =
      (template h ((ss ++ make f ∷ []) ++ []), ended h ss (make f))
  full_filled (InField k c x fs s) f =
      let a = recorded x (fs ++ own k c f ∷ []) in
      let g = full_filled s (Full (Formed a ([] ++ [])) None None) in
      (g.0, ([], full_fill s, no_field sort_a_close_brace, head_goes a [] s g.0 g.1))

  head_filled : (a : Head) (ss : List Suffix) (s : FullStack) → (z : Template)
      × HeadWaits May a ss s (full_fill s) z
  head_filled a ss s = let g = full_filled s (Full (Formed a (ss ++ [])) None None) in
      (g.0, head_goes a ss s g.0 g.1)

  hole_filled : (o : Hole) (i : Item) → (z : Template) × HoleWaits May o i (hole_fill o) z
  unfolding hole_fill
  hole_filled (StatementItem h ss make) i =
      (template h ((ss ++ make i ∷ []) ++ []), ended h ss (make i))
  hole_filled (AfterEquals a s) i = let g = full_filled s (Full a (Some i) None) in
      (g.0, (None, full_fill s, no_option sorts.With (full_holders s) s (λ e. cc) (λ e. cc), g.1))
  hole_filled (AfterWith a d s) i = full_filled s (Full a d (Some i))

  -- ---- items

  parts_filled : (d : ℕ) (Waits : Item → Tokens → Template → Type 0) (go : Item → Tokens)
      → ((j : Item) → length (go j) ≤ m → (z : Template) × Waits j (go j) z)
      → ((j : Item) → NotElse (go j))
      → (parts : Parts) (i : Item) → length (parts_fill parts i go) ≤ m → (z : Template)
      × PartsGo May d (λ j r. Waits j r z) parts i (parts_fill parts i go)
  unfolding parts_fill
  parts_filled d Waits go f not_else_at (Last make) i h = f (make i) h
  parts_filled d Waits go f not_else_at (Further k next) i h =
      let g = parts_filled d Waits go f not_else_at (next i) (plain zero_node) (omega arith) in
      let r = parts_fill (next i) (plain zero_node) go in
      (g.0, (plain zero_node, an_int ∷ r, r, one (divides k), zero_item d r (omega arith), g.1))
  parts_filled d Waits go f not_else_at (MayElse make) i h = let g = f (make i None) h in
      (g.0, (None, go (make i None), no_else (not_else_at (make i None)), g.1))

  mutual
    unfolding item_fill node_fill

    item_filled : (s : ItemStack) (i : Item) → length (item_fill s i) ≤ m → (z : Template)
        × ItemWaits May s i (item_fill s i) z
    item_filled (Out o) i h = hole_filled o i
    item_filled (InBlock p is s) i h = let x = block p (is ++ i ∷ []) in let g =
        item_filled s x (omega arith) in (g.0, ([], item_fill s x, closed sort_a_close_brace, g.1))
    item_filled (InParts parts s) i h =
        parts_filled (suc (holders s)) (λ j r z. ItemWaits May s j r z) (λ j. item_fill s j)
        (λ j q. item_filled s j q) (λ j. not_else s j) parts i h
    item_filled (InReference f is x s) i h =
        let y = index x i in
        let g = item_filled s (plain y) (omega arith) in
        let r = item_fill s (plain y) in
        (g.0, (r, one sort_a_close_bracket, inl (y, y, r, r, suffix_ends, from_self 9 y r, g.1)))
    item_filled (InIndex x n) i h = let y = index x i in let g = node_filled n y (omega arith) in
        (g.0, (y, node_fill n y, node_fill n y, one sort_a_close_bracket, suffix_ends, g.1))
    item_filled (InParens p n) i h = let y = inside p i in let g = node_filled n y (omega arith) in
        (g.0, (y, node_fill n y, node_fill n y, one sort_a_close, suffix_ends, g.1))
    item_filled (InCall f is n) i h = let y = called f (is ++ i ∷ []) in let g =
        node_filled n y (omega arith) in
        (g.0, ([], y, node_fill n y, node_fill n y, args_end sort_a_close, suffix_ends, g.1))

    node_filled : {l : ℕ} (n : NodeStack l) (x : Node) → length (node_fill n x) ≤ m → (z : Template)
        × NodeWaits May n x (node_fill n x) z
    node_filled (Chained s) x h = item_filled s (plain x) h
    node_filled (Signed op p n) x h = node_filled n (nodes.Unary p op x) h
    node_filled (First n) x h = let g = node_filled n x h in
        (g.0, (x, node_fill n x, tail_ends, g.1))
    node_filled (Operand op a n) x h = let g = node_filled n (joined op a x) h in
        (g.0, (joined op a x, node_fill n (joined op a x), tail_ends, g.1))

  -- ---- all states

  pub filled : (σ : State) → length (fill σ) ≤ m → (z : Template) × Completes May σ (fill σ) z
  unfolding fill
  filled Start h =
      let q : Header = record {
        kind = kinds.Ordinary;
        place = the_template.place;
        name =
            a_name_token;
      } in (
        template q [],
        ordinary sort_the_template (is_named sort_a_name_token name_fits
            sort_a_semicolon (no_statement sort_an_end)),
      )
  filled (Takes w next) h = let g = filled (next (sample w)) (omega (arith, h)) in
      (g.0, (sample w, fill (next (sample w)), that (sample_fits w), g.1))
  filled (Statements q ss) h = (template q (ss ++ []), nothing_more q ss)
  filled (FinalRead p q ss) h =
      let x = stated p (statements.Assign true a_text_token.value (conditional an_equals)
      (plain zero_node)) in (
        template q ((ss ++ x ∷ []) ++ []),
        (
          x,
          an_end ∷ [],
          of_path sort_a_text_token
              (rw sort_an_equals refl) (zero_item 0 (a_semicolon ∷ an_end ∷ []) (omega (arith, h)))
              sort_a_semicolon,
          nothing_more q (ss ++ x ∷ []),
        ),
      )
  filled (IncludeRead p q ss) h =
      let i = plain (nodes.Text a_text_token.place a_text_token.value) in (
        template q ((ss ++ stated p (statements.Include i) ∷ []) ++ []),
        (
          i,
          a_semicolon ∷ an_end ∷ [],
          text_included (free 1 _ h) sort_a_text_token,
          ended q ss
              (stated p (statements.Include i)),
        ),
      )
  filled (NeedFull s) h =
      let a = Formed (named a_word None) [] in
      let g = full_filled s (Full a None None) in (
        g.0,
        (
          Full a None None,
          full_fill s,
          a_full (a_named (free _ _ h) (rw sort_a_word refl) (no_bounds s) (no_list s))
              (no_option sorts.Assign (full_holders s) s (λ e. cc) (λ e. cc))
              (no_option sorts.With (full_holders s) s (λ e. cc) (λ e. cc)),
          g.1,
        ),
      )
  filled (NameRead n s) h = let g = head_filled (named n None) [] s in
      (g.0, (None, full_fill s, no_bounds s, g.1))
  filled (TextsOpen xs s) h = let g = head_filled (types.Choice (xs ++ [])) [] s in
      (g.0, ([], full_fill s, no_text sort_a_close, g.1))
  filled (FieldsOpen x fs s) h = let g = head_filled (recorded x (fs ++ [])) [] s in
      (g.0, ([], full_fill s, no_field sort_a_close_brace, g.1))
  filled (HasHead a ss s) h = head_filled a ss s
  filled (NeedSigned next) h = let g = filled (next (number an_int)) (omega (arith, h)) in
      (g.0, (number an_int, fill (next (number an_int)), a_number sort_an_int, g.1))
  filled (NeedBounds c next) h =
      let b = bounds an_int.place (Some (number an_int)) (Some (number an_int)) in
      let g = filled (next b) (omega (arith, h)) in (
        g.0,
        (
          b,
          close_by c ∷ fill (next b),
          fill (next b),
          from_low (a_number sort_an_int) exactly,
          one (closes_by c),
          g.1,
        ),
      )
  filled (HasLow c p n next) h = let b = bounds p (Some n) (Some n) in let g =
      filled (next b) (omega (arith, h)) in
      (g.0, (b, close_by c ∷ fill (next b), fill (next b), exactly, one (closes_by c), g.1))
  filled (RangeRead c p n next) h = let b = bounds p (Some n) None in let g =
      filled (next b) (omega (arith, h)) in (g.0, inl (fill (next b), one (closes_by c), g.1))
  filled (RangeOpen c next) h = let g = filled (next None) (omega (arith, h)) in
      (g.0, (None, fill (next None), no_range (closes_by c), g.1))
  filled (NeedItem s) h = let i = plain zero_node in let g = item_filled s i (omega (arith, h)) in
      (g.0, (i, item_fill s i, zero_item (holders s) (item_fill s i) h, g.1))
  filled (NeedUnary n) h = let g = node_filled n zero_node (omega (arith, h)) in (
    g.0,
    (
      zero_node,
      node_fill n zero_node,
      a_primary (a_literal (rw sort_an_int refl))
          suffix_ends,
      g.1,
    ),
  )
  filled (BlockOpen p is s) h = let i = block p (is ++ []) in let g =
      item_filled s i (omega (arith, h)) in
      (g.0, ([], item_fill s i, no_item sort_a_close_brace, g.1))
  filled (WordRead f n) h = let g = node_filled n (name f) h in
      (g.0, inr (name f, node_fill n (name f), suffix_ends, g.1))
  filled (ItemWord f s) h = let r = item_fill s (plain (name f)) in let g =
      item_filled s (plain (name f)) h in
      (g.0, inr (inl (name f, name f, r, r, suffix_ends, from_self 9 (name f) r, g.1)))
  filled (HasReference f is x s) h = let r = item_fill s (plain x) in let g =
      item_filled s (plain x) h in (g.0, inl (x, x, r, r, suffix_ends, from_self 9 x r, g.1))
  filled (CallOpen f n) h = let y = called f [] in let g = node_filled n y (omega (arith, h)) in
      (g.0, ([], y, node_fill n y, node_fill n y, no_arg sort_a_close, suffix_ends, g.1))
  filled (HasItem i s) h = item_filled s i h
  filled (HasPrimary x n) h = let g = node_filled n x h in
      (g.0, (x, node_fill n x, suffix_ends, g.1))
  filled (HasNode x n) h = node_filled n x h
  filled (Done z) h = (z, (refl, refl))
