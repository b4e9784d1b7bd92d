use Rattle.std.proofs.Common.{◌≡◌, ℕ, subst, Result, Ok, Err, IfOk}
use Rattle.read_index.specs.Reached.{has, reads_some, AreAll}
use Rattle.read_index.proofs.Chains.{names_reached}
use Rattle.read_index.proofs.Joining.{reaching}
use Rattle.read_index.proofs.index.Index.reached.Goals as goal

weaker : {A E : Type 0} (r : Result A E) (P Q : A → Type 0) → ((a : A) → P a → Q a) → IfOk r P
    → IfOk r Q
weaker (Ok a) P Q h p = h a p
weaker (Err e) P Q h p = tt

pub returns : goal.returns
returns c =
    let ks = c.args.self.now.keys.keys in
    let f = c.in_ok-found.found.keys in
    let h = subst (λ ns. (n : ℕ) → has n f ≡ reads_some ks ns n c.args.moved.now)
    c.deref.ensures.value c.in_ok-found.ensures in
    let a = subst (λ ns. AreAll ns f c.add_all.new.found.keys) c.deref-2.ensures.value
    c.in_ok-add_all.ensures in
    weaker c.names_of.result _ _ (λ names named. reaching ks c.args.self.now.nodes.items
    c.args.self.now.readers c.args.moved.now names.items
    (names_reached ks c.args.self.now.nodes.items c.args.moved.now f c.add_all.new.found.keys
    names.items h a named)) c.names_of.ensures
