-- What is read back is formatted to itself, and keeps what the file says.
use Rattle.std.proofs.Common.{◌≡◌, ◌∙◌, ℕ, Bool, true, false, cond, List, length, map, Result, Ok, Err, refl, sym, ap, subst}
use Rattle.std.specs.Prelude.{nat_lt}
use Rattle.std.proofs.lemmas.List.Elements.{All-contains_itself}
use Rattle.base.specs.declared.limits.TheConstants.{MAX_FILE_BYTES}
use Rattle.pan_ast.specs.declared.fault.Fault.{Fault}
use Rattle.pan_ast.specs.declared.token.Token.{Token}
use Rattle.pan_ast.specs.Templates.{Template}
use Rattle.pan_lexer.specs.Lexed.{lexed_file}
use Rattle.pan_lexer.specs.Skipped.{kept}
use Rattle.pan_lexer.specs.declared.pieces.Piece.{Piece}
use Rattle.pan_lexer.proofs.Files.{spelled_file}
use Rattle.pan_lexer.proofs.Skipping.{spelled_kept}
use Rattle.pan_grammar.specs.Faults.{DeepInLast, ParsesWhere}
use Rattle.pan_grammar.specs.Machine.{Bad, Deep, Stop, run}
use Rattle.pan_grammar.specs.Parsed.{answer_of, parsed}
use Rattle.pan_grammar.specs.States.{Start}
use Rattle.pan_grammar.proofs.Runs.{parse_complete, parse_low}
use Rattle.pan_format.specs.Formatted.{TooLong, formatted, laid_out, of_tokens, within_limit}
use Rattle.pan_format.specs.Layout.{layout}
use Rattle.pan_format.specs.Notes.{ends, notes}
use Rattle.format_laws.specs.Again.{IsReadBack, Keeps}
use Rattle.format_laws.proofs.Settled.{chosen_read_back}

parsed_of : (ts : List Token) (z : Template) → ParsesWhere (DeepInLast 0) ts z → parsed ts ≡ Ok z
parsed_of ts z h = ap answer_of (parse_complete ts z h)

parses_by : (ts : List Token) (z : Template) → parsed ts ≡ Ok z → ParsesWhere (DeepInLast 0) ts z
parses_by ts z e = by (run ts Start) refl e where
  by : (r : Result Template Stop) → run ts Start ≡ r → answer_of r ≡ Ok z
      → ParsesWhere (DeepInLast 0) ts z
  by (Ok y) q h = let same : y ≡ z = cc in subst (ParsesWhere (DeepInLast 0) ts) same
      (parse_low ts y q)
  by (Err (Bad b)) q h = absurd cc
  by (Err (Deep b)) q h = absurd cc

formatted_again : (file text : List ℕ) (z : Template) (noted : List (List ℕ))
    → IsReadBack file text z noted → formatted file text ≡ within_limit text
formatted_again file text z noted r =
    let lexed = (spelled_file file text r.tokens).1 (r.pieces, r.spelled) in
    let pieces = spelled_kept file text r.tokens r.pieces r.spelled in
    ap (of_tokens text) lexed ∙ ap (laid_out text r.tokens) (parsed_of r.tokens r.template r.parses)
    ∙ ap (λ (ps : List Piece). within_limit (layout r.template (ends r.tokens)
    (notes text ps))) pieces ∙ ap within_limit r.settled

is_whole : (whole text : List ℕ) → within_limit whole ≡ Ok text → whole ≡ text
is_whole whole text e = by (nat_lt MAX_FILE_BYTES (length whole)) e where
  by : (b : Bool) → cond b (Err TooLong) (Ok whole) ≡ Ok text → whole ≡ text
  by true h = absurd cc
  by false h = cc

abbrev KeptWithin : List ℕ → List ℕ → List ℕ → Type 0
KeptWithin file bytes text = Keeps file bytes text × (within_limit text ≡ Ok text)

keeps : (file bytes text : List ℕ) → formatted file bytes ≡ Ok text → KeptWithin file bytes text
keeps file bytes text e = by (lexed_file file bytes) refl e where
  parsed_to : (ts : List Token) → lexed_file file bytes ≡ Ok ts → (r : Result Template Fault)
      → parsed ts ≡ r → laid_out bytes ts r ≡ Ok text → KeptWithin file bytes text
  parsed_to ts l (Ok z) p h =
      let sp = (spelled_file file bytes ts).0 l in
      let parses = parses_by ts z p in
      let noted = notes bytes (kept sp.0) in
      let back = chosen_read_back file bytes ts sp.0 z (ends ts) noted sp.1 parses
      (All-contains_itself noted) in
      let whole = layout z (ends ts) noted in
      let fits : within_limit whole ≡ Ok text =
      sym (ap (λ (ps : List Piece). within_limit (layout z (ends ts) (notes bytes ps)))
      (spelled_kept file bytes ts sp.0 sp.1)) ∙ h in
      let same = is_whole whole text fits in (
        record {
          tokens = ts;
          pieces = sp.0;
          template = z;
          spelled = sp.1;
          parses = parses;
          read_back = subst (λ (t : List ℕ). IsReadBack file t z (map (λ n. n.text) noted)) same
              back;
        },
        subst (λ (t : List ℕ). within_limit t ≡ Ok text) same fits,
      )
  parsed_to ts l (Err f) p h = absurd cc

  by : (r : Result (List Token) Fault) → lexed_file file bytes ≡ r → of_tokens bytes r ≡ Ok text
      → KeptWithin file bytes text
  by (Ok ts) l h = parsed_to ts l (parsed ts) refl h
  by (Err f) l h = absurd cc

pub formatting_kept : (file bytes text : List ℕ) → formatted file bytes ≡ Ok text
    → Keeps file bytes text
formatting_kept file bytes text e = (keeps file bytes text e).0

pub settled_again : (file bytes text : List ℕ) → formatted file bytes ≡ Ok text
    → formatted file text ≡ Ok text
settled_again file bytes text e =
    let k = keeps file bytes text e in
    formatted_again file text k.0.template (map (λ n. n.text) (notes bytes (kept k.0.pieces)))
    k.0.read_back ∙ k.1
