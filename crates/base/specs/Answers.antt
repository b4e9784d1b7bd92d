-- A call's answer beside what a definition gives: the same value, or the same refusal. Want of
-- memory is free.
use Rattle.std.specs.Prelude.{◌≡◌, Option, Some, None, Result, Ok, Err, IfSome}

-- value: what an answer is to the definition; refusal: what an error is to it, None where memory
-- was wanting
abbrev pub Gives : {A B E F : Type 0} → (A → B) → (E → Option F) → Result A E → Result B F → Type 0
Gives value refusal (Ok x) given = given ≡ Ok (value x)
Gives value refusal (Err e) given = IfSome (refusal e) (λ f. given ≡ Err f)

-- in a definition: goes on with what there is, and is refused where there is nothing
abbrev pub given : {A B F : Type 0} → F → Option A → (A → Result B F) → Result B F
given refused None next = Err refused
given refused (Some x) next = next x
