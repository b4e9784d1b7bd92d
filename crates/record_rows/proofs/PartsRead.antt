-- Parts that are read one behind the other.
use Rattle.std.proofs.Common.{◌≡◌, ℕ, Bool, true, false, cond, ◌&&◌, List, [], ◌∷◌, length, Some, None, refl, sym, ap, ◌∙◌}
use Rattle.std.specs.Prelude.{◌==◌}
use Rattle.std.specs.Int.{w64}
use Rattle.std.proofs.lemmas.Bool.{eqb-true}
use Rattle.std.proofs.lemmas.List.{nil_from_length}
use Rattle.load_path.specs.declared.limits.TheConstants.{MAX_ITERATIONS, MAX_RECURSION}
use Rattle.record_rows.specs.declared.format.Format.{Format}
use Rattle.record_rows.specs.Forms.{◌>>=◌, number_at, pair, if_passes, if_ended, is_empty, whole}
use Rattle.record_rows.specs.Fields.{Header, built, verdict, trace_in, format_form, counter_number, limit_number, directories, header}
use Rattle.record_rows.specs.Rows.{ObjectParts, are_object_parts, object_parts}
use Rattle.record_rows.specs.Reading.{object_with, object_by, whole_object}

ended : {X : Type 0} (x : X) (rest : List ℕ) → rest ≡ [] → if_ended (x, rest) ≡ Some x
ended {X} x rest e = ap (λ r. if_ended (x, r)) e

not_ended : {X : Type 0} (x : X) (rest : List ℕ) → (rest ≡ [] → ⊥) → if_ended (x, rest) ≡ None
not_ended x [] h = absurd (h refl)
not_ended x (b ∷ bs) h = refl

pub no_rest : (rest : List ℕ) → (length rest == 0) ≡ true → rest ≡ []
no_rest rest e = nil_from_length rest (eqb-true (length rest) 0 e)

pub some_rest : (rest : List ℕ) → (length rest == 0) ≡ false → rest ≡ [] → ⊥
some_rest rest e is = let clash : true ≡ false = sym (ap (λ r. length r == 0) is) ∙ e in cc

-- an object's parts, one behind the other
pub record ObjectRead (format : Format) (counter : ℕ) (bytes : List ℕ) (p : ObjectParts)
    (rest : List ℕ) : Type 0 where
  pub r1 : List ℕ
  pub r2 : List ℕ
  pub r3 : List ℕ
  pub number : number_at w64 bytes ≡ Some (p.number, r1)
  pub built_is : built.read r1 ≡ Some (p.built, r2)
  pub build_reads : (trace_in format counter).read r2 ≡ Some (p.build_reads, r3)
  pub checked : (pair verdict (trace_in format counter)).read r3
      ≡ Some ((p.verdict, p.check_reads), rest)

object_read : (format : Format) (counter : ℕ) (bytes : List ℕ) (p : ObjectParts) (rest : List ℕ)
    → ObjectRead format counter bytes p rest → (object_parts format counter).read bytes
    ≡ if_passes (are_object_parts counter) (p, rest)
object_read format counter bytes p rest o =
    rw (o.number, o.built_is, o.build_reads, o.checked) refl

if_whole : (name : List ℕ) (p : ObjectParts) (rest : List ℕ) (b : Bool)
    → (cond b (Some (p, rest)) None >>= if_ended) >>= (λ q. Some (object_with name q))
    ≡ cond (b && is_empty rest) (Some (object_with name p)) None
if_whole name p [] true = refl
if_whole name p (x ∷ xs) true = refl
if_whole name p rest false = refl

pub object_whole : (format : Format) (counter : ℕ) (name bytes : List ℕ) (p : ObjectParts)
    (rest : List ℕ) → ObjectRead format counter bytes p rest → object_by format counter name bytes
    ≡ whole_object counter (object_with name p) rest
object_whole format counter name bytes p rest o =
    ap (λ r. (r >>= if_ended) >>= λ q. Some (object_with name q))
    (object_read format counter bytes p rest o)
    ∙ if_whole name p rest (are_object_parts counter p)

-- a header's
pub record HeaderRead (bytes : List ℕ) (h : Header) (rest : List ℕ) : Type 0 where
  pub r1 : List ℕ
  pub r2 : List ℕ
  pub r3 : List ℕ
  pub r4 : List ℕ
  pub format : format_form.read bytes ≡ Some (h.format, r1)
  pub counter : counter_number.read r1 ≡ Some (h.counter, r2)
  pub iterations : (limit_number MAX_ITERATIONS).read r2 ≡ Some (h.limits.max_iteration, r3)
  pub recursion : (limit_number MAX_RECURSION).read r3 ≡ Some (h.limits.max_recursion, r4)
  pub dirs : directories.read r4 ≡ Some (h.dirs, rest)

header_read : (bytes : List ℕ) (h : Header) (rest : List ℕ) → HeaderRead bytes h rest
    → header.read bytes ≡ Some (h, rest)
header_read bytes h rest o = rw (o.format, o.counter, o.iterations, o.recursion, o.dirs) refl

pub header_done : (bytes : List ℕ) (h : Header) (rest : List ℕ) → HeaderRead bytes h rest → rest
    ≡ [] → whole header bytes ≡ Some h
header_done bytes h rest o e =
    ap (λ r. r >>= if_ended) (header_read bytes h rest o) ∙ ended h rest e

pub header_long : (bytes : List ℕ) (h : Header) (rest : List ℕ) → HeaderRead bytes h rest
    → (rest ≡ [] → ⊥) → whole header bytes ≡ None
header_long bytes h rest o e =
    ap (λ r. r >>= if_ended) (header_read bytes h rest o) ∙ not_ended h rest e
