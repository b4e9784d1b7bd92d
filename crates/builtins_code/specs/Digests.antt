-- Digests of texts: MD5 (RFC 1321), SHA-1 and SHA-2 (FIPS 180-4), as the crates md5, sha1 and sha2
-- define them.
use Rattle.std.specs.Prelude.{ℕ, List, [], ◌∷◌, Option, Some, None, Result, Err, codes, bytes_eq, if◌then◌else◌}
use Rattle.hex.specs.Hex.{encode_lower}
use Rattle.md5.specs.Md5.{md5}
use Rattle.sha1.specs.Sha1.{sha1}
use Rattle.sha2.specs.Sha256.{sha224, sha256}
use Rattle.sha2.specs.Sha512.{sha384, sha512}
use Rattle.base.specs.Answers.{given}
use Rattle.path_tree.specs.Plain.{Plain, text}
use Rattle.path_tree.specs.Values.{text_value}
use Rattle.path_tree.specs.declared.refused.Refused.{Refused}
use Rattle.path_tree.specs.declared.refused.Refused.TheVariants.{BadArgument}

abbrev pub algorithms : List (List ℕ × (List ℕ → List ℕ))
algorithms =
    (codes "MD5", md5) ∷ (codes "SHA", sha1) ∷ (codes "SHA1", sha1) ∷ (codes "SHA-1", sha1)
    ∷ (codes "SHA-224", sha224) ∷ (codes "SHA-256", sha256) ∷ (codes "SHA-384", sha384)
    ∷ (codes "SHA-512", sha512) ∷ []

abbrev pub algorithm_in : List (List ℕ × (List ℕ → List ℕ)) → List ℕ → Option (List ℕ → List ℕ)
algorithm_in [] name = None
algorithm_in (entry ∷ entries) name =
    if bytes_eq name entry.0 then Some entry.1 else algorithm_in entries name

-- the algorithm of a name
abbrev pub algorithm : List ℕ → Option (List ℕ → List ℕ)
algorithm name = algorithm_in algorithms name

-- digest(a, t): the digest of the bytes of t by the algorithm a, in lower-case hexadecimal
abbrev pub digest_of : List Plain → Result Plain Refused
digest_of (text a ∷ text t ∷ []) =
    given BadArgument (algorithm a) (λ f. text_value (encode_lower (f t)))
digest_of _ = Err BadArgument
