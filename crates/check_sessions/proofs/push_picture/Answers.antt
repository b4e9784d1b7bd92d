use Rattle.std.proofs.Common.{◌≡◌, true, false, List, [], ◌∷◌, ◌++◌, refl, subst, sym, ap, ◌∙◌, rules, ◌&&◌, Bool}
use Rattle.outside.specs.Pictures.{are_distinct, are_pictures}
use Rattle.outside.specs.declared.source.MemFile.{MemFile}
use Rattle.check_sessions.proofs.push_picture.Goals as goal

both : (a b : Bool) → (a && b) ≡ true → b ≡ true
both true b e = e
both false b e = cc

first : (a b : Bool) → (a && b) ≡ true → a ≡ true
first true b e = refl
first false b e = cc

one_more : (ps : List (List MemFile)) (p : List MemFile) → are_pictures ps ≡ true → are_distinct p
    ≡ true → are_pictures (ps ++ p ∷ []) ≡ true
one_more [] p all last = ap (λ b. b && true) last
one_more (q ∷ ps) p all last =
    let rest = one_more ps p (both (are_distinct q) (are_pictures ps) all) last in
    ap (λ b. b && are_pictures (ps ++ p ∷ [])) (first (are_distinct q) (are_pictures ps) all) ∙ rest

pub returns : goal.returns
returns c =
    let distinct : are_distinct c.args.files.items ≡ true = search rules in
    let pushed : c.push.new.self.items ≡ c.args.pictures.now.items ++ c.args.files.items ∷ [] =
    search rules in
    ap are_pictures pushed ∙ one_more c.args.pictures.now.items c.args.files.items c.requires
    distinct
