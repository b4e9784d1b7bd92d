-- A program as the definitions see it.
use Rattle.std.proofs.Common.{◌≡◌, ℕ, List, [], None}
use Rattle.path_tree.specs.Plain.{dict, no_fields}
use Rattle.assign_rules.specs.Profiles.{ProfileValue}
use Rattle.type_defs.specs.Names.{Defined}
use std.Path.{fun_ext}

-- what names stand for is the same where each name stands for the same
pub same_types : (f g : Defined) → ((n : List ℕ) → f n ≡ g n) → f ≡ g
same_types f g h = fun_ext h

-- nothing was made yet
pub fresh_profile : (p : ProfileValue) → p.tree ≡ dict no_fields → p.finals ≡ [] → p.log ≡ [] → p
    ≡ record { tree = dict no_fields; finals = []; log = [] }
fresh_profile p a b c = λ i. record { tree = a i; finals = b i; log = c i }

pub no_types : (f : Defined) → ((n : List ℕ) → f n ≡ None) → f ≡ (λ name. None)
no_types f h = fun_ext h

pub ruleset fresh = (fresh_profile, no_types)
