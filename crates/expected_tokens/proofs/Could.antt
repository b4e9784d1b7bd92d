-- Whether a token could follow others, by how a reading of both ends.
use Rattle.std.proofs.Common.{◌≡◌, ℕ, length, Bool, true, false, [], ◌∷◌, ◌++◌, Option, Some, None, Result, Ok, Err, refl, sym, ap, subst, append_assoc, ◌∙◌}
use Rattle.pan_ast.specs.Detail.{fault_at}
use Rattle.pan_ast.specs.declared.fault.Code.TheVariants.{BadSyntax, TooDeep}
use Rattle.pan_ast.specs.declared.fault.Code.{Code}
use Rattle.pan_ast.specs.declared.fault.Fault.{Fault}
use Rattle.pan_ast.specs.declared.place.Place.{Place}
use Rattle.pan_ast.specs.declared.token.Token.{Token}
use Rattle.pan_ast.specs.Sorts.{EndsInEnd}
use Rattle.pan_ast.specs.Templates.{Template}
use Rattle.pan_grammar.specs.Grammar.{Tokens}
use Rattle.pan_grammar.specs.States.{Done, State, Start}
use Rattle.pan_grammar.specs.Machine.{Bad, Deep, Stop, and_run, at_end, over, run, step}
use Rattle.pan_grammar.specs.Depths.{opens}
use Rattle.pan_grammar.specs.Faults.{IsViable}
use Rattle.pan_grammar.specs.Parsed.{answer_of, parsed}
use Rattle.pan_parser.proofs.Whole.{bad_some}
use Rattle.expected_tokens.specs.Candidates.{sample}
use Rattle.expected_tokens.specs.Following.{Begins, CouldFollow}
use Rattle.expected_tokens.specs.declared.candidate.Candidate.{Candidate}
use Rattle.expected_tokens.specs.declared.candidate.Candidate.TheVariants.{End}
use Rattle.expected_tokens.proofs.Reading.{Stands, stands, taken, viable}

pub standing : (before : Tokens) → Begins before → Stands before Start
standing before b = stands before b.1 Start b.0 b.2 b.3 b.4

-- the place of the fault that an answer is
abbrev place_told : Place → Result Template Fault → Place
place_told other (Ok z) = other
place_told other (Err f) = f.place

-- the code of the fault that an answer is
abbrev code_told : Result Template Fault → Code
code_told (Ok z) = TooDeep
code_told (Err f) = f.code

not_both : (p q : Place) (answer : Result Template Fault) → answer ≡ Err (fault_at TooDeep q)
    → answer ≡ Err (fault_at BadSyntax p) → ⊥
not_both p q answer deep bad =
    let c : TooDeep ≡ BadSyntax = ap code_told (sym deep ∙ bad) in absurd cc

at_end_never : (y : State) (t : Token) (ts : Tokens) → at_end y ≡ Err (Bad (t ∷ ts)) → ⊥
at_end_never (Done z) t ts e = absurd cc
at_end_never _ t ts e = absurd cc

at_end_not_deep : (y : State) (ts : Tokens) → at_end y ≡ Err (Deep ts) → ⊥
at_end_not_deep (Done z) ts e = absurd cc
at_end_not_deep _ ts e = absurd cc

module _ (before : Tokens) (p nowhere : Place) (c : Candidate) where
  abbrev pub next : Token
  next = sample p c

  abbrev pub end : Token
  end = sample nowhere End

  -- what is read
  abbrev pub tried : Tokens
  tried = (before ++ next ∷ []) ++ end ∷ []

  ends : EndsInEnd tried
  ends = (before ++ next ∷ [], end, refl, refl)

  reads : (s : Stands before Start) → run tried Start ≡ run (next ∷ end ∷ []) s.behind
  reads s = subst (λ (x : Tokens). run x Start ≡ run (next ∷ end ∷ []) s.behind)
      (sym (append_assoc before (next ∷ []) (end ∷ []))) (s.reads (next ∷ end ∷ []))

  -- a reading that does not stop at the token
  pub could : Begins before → (parsed tried ≡ Err (fault_at BadSyntax p) → ⊥)
      → CouldFollow before p c
  could b stays = by (step s.behind next) refl where
    s : Stands before Start
    s = standing before b

    by : (o : Option State) → step s.behind next ≡ o → CouldFollow before p c
    by (Some y) h = viable before s next y h
    by None h =
        let r : run tried Start ≡ Err (Bad (next ∷ end ∷ [])) = reads s ∙ rw h refl in
        absurd (stays (ap answer_of r))

  -- a reading that stops there
  pub could_not : (nowhere ≡ p → ⊥) → Begins before → parsed tried ≡ Err (fault_at BadSyntax p)
      → CouldFollow before p c → ⊥
  could_not far b stops v = by (step s.behind next) refl (over (opens s.behind next)) refl where
    s : Stands before Start
    s = standing before b

    -- behind the End
    last : (y : State) → run tried Start ≡ at_end y → ⊥
    last y r = on (at_end y) refl r where
      on : (e : Result Template Stop) → at_end y ≡ e → run tried Start ≡ e → ⊥
      on (Ok z) k q = let w : Ok z ≡ Err (fault_at BadSyntax p) = sym (ap answer_of q) ∙ stops in
          absurd cc
      on (Err (Bad [])) k q = bad_some tried [] ends q refl
      on (Err (Bad (t ∷ ts))) k q = at_end_never y t ts k
      on (Err (Deep ts)) k q = at_end_not_deep y ts k

    by : (o : Option State) → step s.behind next ≡ o → (d : Bool) → over (opens s.behind next) ≡ d
        → ⊥
    by None h d k = taken before s next v h
    by (Some y) h true k =
        let r : run tried Start ≡ Err (Deep (next ∷ end ∷ [])) = reads s ∙ rw (h, k) refl in
        not_both p p (parsed tried) (ap answer_of r) stops
    by (Some y) h false k = on (step y end) refl (over (opens y end)) refl where
      on : (o : Option State) → step y end ≡ o → (d : Bool) → over (opens y end) ≡ d → ⊥
      on None h' d k' =
          let r : run tried Start ≡ Err (Bad (end ∷ [])) = reads s ∙ rw (h, k, h') refl in
          let w : Err (fault_at BadSyntax nowhere) ≡ Err (fault_at BadSyntax p) =
          sym (ap answer_of r) ∙ stops in
          far (ap (place_told p) w)
      on (Some y') h' true k' =
          let r : run tried Start ≡ Err (Deep (end ∷ [])) = reads s ∙ rw (h, k, h', k') refl in
          not_both p nowhere (parsed tried) (ap answer_of r) stops
      on (Some y') h' false k' = last y' (reads s ∙ rw (h, k, h', k') refl)
