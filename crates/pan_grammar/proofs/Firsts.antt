-- Where the first token of an item leads, and where that of a full type does.
use Rattle.std.proofs.Common.{◌≡◌, ◌≢◌, zero, Bool, true, false, [], Some, refl, ◌∙◌, inl, inr}
use Rattle.path_tree.specs.declared.operators.UnaryOp.{UnaryOp}
use Rattle.pan_ast.specs.declared.sort.Sort.{Sort}
use Rattle.pan_ast.specs.declared.sort.Sort.TheVariants as sorts
use Rattle.pan_ast.specs.declared.token.Token.{Token}
use Rattle.pan_ast.specs.Sorts.{sort, is_plain}
use Rattle.pan_grammar.specs.Grammar.{literal, unary_of}
use Rattle.pan_grammar.specs.States.{ItemStack, NodeStack, Chained, Signed, InParens, down, State, NeedItem, NeedUnary, BlockOpen, ItemWord, WordRead, HasPrimary}
use Rattle.pan_grammar.specs.Depths.{item_start}
use Rattle.pan_grammar.specs.Machine.{when_that, if_read, while_read, for_read, foreach_read, unary_at, item_at}
use Rattle.pan_grammar.proofs.Tests.{differs, taken, passed, that_cases, miss, when_cases, some_taken, none_passed, some_cases, some_only}
use Rattle.pan_grammar.proofs.Follow.{bare_start, bare_not_plain, literal_bare, sign_bare, sign_no_literal, plain_no_literal, bare_item, plain_item}

pub unary_word : (t : Token) (n : NodeStack zero) → is_plain (sort t) ≡ true → unary_at t n
    ≡ Some (WordRead t n)
unary_word t n e = none_passed (literal (sort t) t) _ _ (plain_no_literal (sort t) t e)
    ∙ taken (is_plain (sort t)) _ _ e

pub unary_sign : (t : Token) (n : NodeStack zero) (op : UnaryOp) → unary_of (sort t) ≡ Some op
    → unary_at t n ≡ Some (NeedUnary (Signed op t.place n))
unary_sign t n op e =
    none_passed (literal (sort t) t) _ _ (sign_no_literal (sort t) t op e)
    ∙ (passed (is_plain (sort t)) _ _ (bare_not_plain (sort t) (sign_bare (sort t) op e))
    ∙ (miss sorts.Open (sort t) _ _ not_open ∙ some_taken (unary_of (sort t)) _ _ op e)) where
      not_open : sort t ≢ sorts.Open
      not_open q = let k : unary_of sorts.Open ≡ Some op = rw q at e in absurd cc

-- none of the words and the brace by which an item is told from a chain
abbrev pub NotQuoted : Sort → Type 0
NotQuoted x = (x ≢ sorts.OpenBrace) × (x ≢ sorts.If) × (x ≢ sorts.While) × (x ≢ sorts.For)
    × (x ≢ sorts.Foreach)

pub item_else : (t : Token) (s : ItemStack) → NotQuoted (sort t) → item_at t s
    ≡ when_that (is_plain (sort t)) (ItemWord t s) (unary_at t (down 9 (Chained s)))
item_else t s q = miss sorts.OpenBrace (sort t) _ _ q.0 ∙ miss sorts.If (sort t) _ _ q.1
    ∙ miss sorts.While (sort t) _ _ q.2 ∙ miss sorts.For (sort t) _ _ q.3
    ∙ miss sorts.Foreach (sort t) _ _ q.4

item_at_other : (t : Token) (s : ItemStack) (P : Sort → Bool) → P sorts.OpenBrace ≡ false
    → P sorts.If ≡ false → P sorts.While ≡ false → P sorts.For ≡ false → P sorts.Foreach ≡ false
    → P (sort t) ≡ true
    → item_at t s ≡ when_that (is_plain (sort t)) (ItemWord t s) (unary_at t (down 9 (Chained s)))
item_at_other t s P b1 b2 b3 b4 b5 h =
    item_else t s (
      differs P (sort t) sorts.OpenBrace h b1,
      differs P (sort t) sorts.If h b2,
      differs P (sort t) sorts.While h b3,
      differs P (sort t) sorts.For h b4,
      differs P (sort t)
          sorts.Foreach h b5,
    )

pub item_word : (t : Token) (s : ItemStack) → is_plain (sort t) ≡ true → item_at t s
    ≡ Some (ItemWord t s)
item_word t s e = item_at_other t s is_plain refl refl refl refl refl e
    ∙ taken (is_plain (sort t)) _ _ e

pub item_bare : (t : Token) (s : ItemStack) → bare_start (sort t) ≡ true → item_at t s
    ≡ unary_at t (down 9 (Chained s))
item_bare t s e = item_at_other t s bare_start refl refl refl refl refl e
    ∙ passed (is_plain (sort t)) _ _ (bare_not_plain (sort t) e)

unary_first : (t : Token) (n : NodeStack zero) (y : State) → unary_at t n ≡ Some y
    → item_start (sort t) ≡ true
unary_first t n y e =
    elim (some_cases (literal (sort t) t) (λ x. HasPrimary x n) _ y e) [
      | inl h ↦ bare_item (sort t) (literal_bare (sort t) t h.0 h.1).0
      | inr k ↦ elim (that_cases (is_plain (sort t)) (WordRead t n) _ y k.1) [
        | inl h ↦ plain_item (sort t) h.0
        | inr k ↦ elim (when_cases sorts.Open (sort t) (NeedItem (InParens t.place n)) _ y k.1) [
          | inl h ↦ rw h.0 refl
          | inr k ↦ let h = some_only (unary_of (sort t)) (λ op. NeedUnary (Signed op t.place n)) y
              k.1 in bare_item (sort t) (sign_bare (sort t) h.0 h.1)
        ]
      ]
    ]

pub item_first : (t : Token) (s : ItemStack) (y : State) → item_at t s ≡ Some y
    → item_start (sort t) ≡ true
item_first t s y e =
    elim (when_cases sorts.OpenBrace (sort t) (BlockOpen t.place [] s) _ y e) [
      | inl h ↦ rw h.0 refl
      | inr k ↦ elim (when_cases sorts.If (sort t) (if_read t.place s) _ y k.1) [
        | inl h ↦ rw h.0 refl
        | inr k ↦ elim (when_cases sorts.While (sort t) (while_read t.place s) _ y k.1) [
          | inl h ↦ rw h.0 refl
          | inr k ↦ elim (when_cases sorts.For (sort t) (for_read t.place s) _ y k.1) [
            | inl h ↦ rw h.0 refl
            | inr k ↦ elim (when_cases sorts.Foreach (sort t) (foreach_read t.place s) _ y k.1) [
              | inl h ↦ rw h.0 refl
              | inr k ↦ elim (that_cases (is_plain (sort t)) (ItemWord t s) _ y k.1) [
                | inl h ↦ plain_item (sort t) h.0
                | inr k ↦ unary_first t (down 9 (Chained s)) y k.1
              ]
            ]
          ]
        ]
      ]
    ]

-- ---- with the tables item_start and full_start

-- ---- at the limit of nesting
