-- The laws of the fields of rows.
use Rattle.std.proofs.Common.{◌≡◌, ℕ, ◌⊎◌, Bool, true, false, cond, List, [], ◌∷◌, length, Option, Some, None, refl, sym, ap, ◌∙◌, inl, inr}
use Rattle.std.specs.Prelude.{find, ◌==◌, nat_le, nat_lt}
use Rattle.std.proofs.lemmas.Bool.{eqb-true}
use Rattle.base.specs.declared.limits.TheConstants.{MAX_FILE_BYTES}
use Rattle.load_path.specs.declared.picture.Content.{Content}
use Rattle.load_path.specs.declared.picture.Content.TheVariants.{Bytes, TooLong}
use Rattle.pan_ast.specs.declared.fault.Code.{Code}
use Rattle.pan_ast.specs.declared.fault.Code.TheVariants as code
use Rattle.pan_ast.specs.declared.fault.Fault.{Fault}
use Rattle.pan_ast.specs.Codes.{code_number}
use Rattle.path_tree.specs.Grammar.{is_key, is_name}
use Rattle.path_tree.specs.declared.path.Term.{Term}
use Rattle.path_tree.specs.declared.path.Term.TheVariants as term
use Rattle.questions.specs.declared.key.Key.{Key}
use Rattle.questions.specs.declared.key.Key.TheVariants.{File, Under}
use Rattle.kept_state.specs.declared.limits.TheConstants.{MAX_INDEX, MAX_TERMS}
use Rattle.load_path.specs.declared.limits.TheConstants.{MAX_ITERATIONS, MAX_RECURSION}
use Rattle.record_rows.specs.declared.format.Format.{Format}
use Rattle.record_rows.specs.declared.format.Format.TheVariants.{First, Second, Third}
use Rattle.record_rows.specs.Forms.{one_of, number32, number64, bytes_form, list, text}
use Rattle.record_rows.specs.Fields.{is_asked, file_text, name_text, term_of, of_term, a_term, terms, key_of, of_key, key, no_terms, of_no_terms, has_no_terms, whole_key, key_in, item_of, of_item, is_item, item_in, is_trace, trace_in, all_codes, code_by, place_number, is_detail, place_of, of_place, place, fault_of, of_fault, fault, verdict_of, of_verdict, verdict, content_of, of_content, content, format_number, all_formats, format_by, is_counter, is_limit, is_directory, are_directories, header_of, of_header, header}
use Rattle.record_rows.proofs.Laws.{IsForm, some_is, is_nothing, is_one_of, is_number32, is_number64, is_bytes_form, is_only, is_seen_as, is_seen_where, is_pair, is_either, is_list, is_text}

-- what is found passes the test
pub find_passes : {X : Type 0} (test : X → Bool) (xs : List X) (x : X) → find test xs ≡ Some x
    → test x ≡ true
find_passes {X} test [] x e = absurd (let clash : ◌≡◌ {A = Option X} None (Some x) = e in cc)
find_passes {X} test (y ∷ ys) x e = at (find_passes test ys x) (test y) refl e
  where
    at : (find test ys ≡ Some x → test x ≡ true) → (b : Bool) → test y ≡ b
        → cond b (Some y) (find test ys) ≡ Some x → test x ≡ true
    at later true is e = ap test (sym (some_is y x e)) ∙ is
    at later false is e = later e

-- ---- names, keys and items

pub is_file_text : IsForm file_text
is_file_text = is_only is_asked text is_text

pub is_name_text : IsForm name_text
is_name_text = is_only is_name text is_text

pub is_term : IsForm a_term
is_term = is_seen_as term_of of_term _ back forth
    (is_either _ _ (is_only is_key text is_text) (is_only (λ i. nat_le i MAX_INDEX) number32
    is_number32))
  where
    back : (x : List ℕ ⊎ ℕ) → of_term (term_of x) ≡ x
    back (inl k) = refl
    back (inr i) = refl

    forth : (t : Term) → term_of (of_term t) ≡ t
    forth (term.Key k) = refl
    forth (term.Index i) = refl

pub are_terms : IsForm terms
are_terms = is_only (λ ts. nat_le (length ts) MAX_TERMS) (list a_term) (is_list a_term is_term)

key_back : (x : List ℕ ⊎ (List ℕ × List Term)) → of_key (key_of x) ≡ x
key_back (inl f) = refl
key_back (inr p) = refl

key_forth : (k : Key) → key_of (of_key k) ≡ k
key_forth (File f) = refl
key_forth (Under p ts) = refl

pub is_key_form : IsForm key
is_key_form = is_seen_as key_of of_key _ key_back key_forth
    (is_either _ _ is_file_text (is_pair _ _ is_name_text are_terms))

pub is_whole_key : IsForm whole_key
is_whole_key = is_seen_as key_of of_key _ key_back key_forth
    (is_either _ _ is_file_text (is_seen_where has_no_terms no_terms of_no_terms name_text
    (λ x. refl) (λ x. refl) forth is_name_text))
  where
    forth : (p : List ℕ × List Term) → has_no_terms p ≡ true → no_terms (of_no_terms p) ≡ p
    forth (o, []) e = refl
    forth (o, t ∷ ts) e = absurd (let clash : false ≡ true = e in cc)

pub is_key_in : (format : Format) → IsForm (key_in format)
is_key_in First = is_whole_key
is_key_in Second = is_key_form
is_key_in Third = is_key_form

pub is_item_in : (format : Format) (counter : ℕ) → IsForm (item_in format counter)
is_item_in format counter =
    is_only (is_item counter) _ (is_seen_as item_of of_item _ (λ x. refl) (λ x. refl)
    (is_pair _ _ (is_key_in format) is_number64))

pub is_trace_in : (format : Format) (counter : ℕ) → IsForm (trace_in format counter)
is_trace_in format counter = is_only is_trace _ (is_list _ (is_item_in format counter))

-- ---- faults

code_found : (c : Code) → code_by (code_number c) ≡ Some c
code_found code.BadCharacter = refl
code_found code.NotUtf8 = refl
code_found code.OpenText = refl
code_found code.Double = refl
code_found code.IntegerTooLarge = refl
code_found code.BadSyntax = refl
code_found code.TooDeep = refl
code_found code.TypeClash = refl
code_found code.Overflow = refl
code_found code.ZeroDivisor = refl
code_found code.BadArgument = refl
code_found code.BadPattern = refl
code_found code.BadIndex = refl
code_found code.TooLarge = refl
code_found code.Final = refl
code_found code.BadPath = refl
code_found code.GlobalChange = refl
code_found code.NoVariable = refl
code_found code.NoFunction = refl
code_found code.Iterations = refl
code_found code.CallDepth = refl
code_found code.WorkSpent = refl
code_found code.UserError = refl
code_found code.NotBoolean = refl
code_found code.SelfChange = refl
code_found code.NoPath = refl
code_found code.NoObject = refl
code_found code.ForeignFailed = refl
code_found code.Circular = refl
code_found code.NoType = refl
code_found code.Redefined = refl
code_found code.BadRange = refl
code_found code.WrongType = refl
code_found code.OutOfRange = refl
code_found code.MissingField = refl
code_found code.ExtraField = refl
code_found code.FalseTest = refl
code_found code.FalseValid = refl
code_found code.UndefLeft = refl
code_found code.NoBoundPath = refl
code_found code.NoTemplate = refl
code_found code.WrongKind = refl
code_found code.WrongStatement = refl
code_found code.WrongTemplate = refl
code_found code.IncludeDepth = refl
code_found code.FileTooLong = refl

pub is_code : IsForm (one_of code_number code_by)
is_code = is_one_of code_number code_by code_found
    (λ n c e. sym (eqb-true (code_number c) n (find_passes (λ d. code_number d == n) all_codes c
    e)))

pub is_place_number : IsForm place_number
is_place_number = is_only (λ n. nat_lt 0 n) number32 is_number32

pub is_place : IsForm place
is_place = is_seen_as place_of of_place _ (λ x. refl) (λ p. refl)
    (is_pair _ _ is_file_text (is_pair _ _ is_place_number is_place_number))

pub is_fault : IsForm fault
is_fault = is_seen_as fault_of of_fault _ (λ x. refl) (λ f. refl)
    (is_pair _ _ is_code (is_pair _ _ is_place (is_only is_detail text is_text)))

pub is_verdict : IsForm verdict
is_verdict = is_seen_as verdict_of of_verdict _ back forth (is_either _ _ is_nothing is_fault)
  where
    back : (x : Unit {0} ⊎ Fault) → of_verdict (verdict_of x) ≡ x
    back (inl x) = refl
    back (inr f) = refl

    forth : (v : Option Fault) → verdict_of (of_verdict v) ≡ v
    forth None = refl
    forth (Some f) = refl

-- ---- files

pub is_content : IsForm content
is_content = is_seen_as content_of of_content _ back forth
    (is_either _ _ is_nothing (is_only (λ bytes. nat_le (length bytes) MAX_FILE_BYTES) bytes_form
    is_bytes_form))
  where
    back : (x : Unit {0} ⊎ List ℕ) → of_content (content_of x) ≡ x
    back (inl x) = refl
    back (inr bytes) = refl

    forth : (c : Content) → content_of (of_content c) ≡ c
    forth TooLong = refl
    forth (Bytes bytes) = refl

-- ---- the header

format_found : (f : Format) → format_by (format_number f) ≡ Some f
format_found First = refl
format_found Second = refl
format_found Third = refl

pub is_format : IsForm (one_of format_number format_by)
is_format = is_one_of format_number format_by format_found
    (λ n f e. sym (eqb-true (format_number f) n (find_passes (λ g. format_number g == n) all_formats
    f e)))

pub is_header : IsForm header
is_header = is_seen_as header_of of_header _ (λ x. refl) (λ h. refl)
    (is_pair _ _ is_format (is_pair _ _ (is_only is_counter number64 is_number64)
    (is_pair _ _ (is_only (is_limit MAX_ITERATIONS) number64 is_number64)
    (is_pair _ _ (is_only (is_limit MAX_RECURSION) number64 is_number64)
    (is_only are_directories _ (is_list _ (is_only is_directory text is_text)))))))
