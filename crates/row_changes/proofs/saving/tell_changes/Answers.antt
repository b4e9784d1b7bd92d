use Rattle.std.proofs.Common.{◌≡◌, true, ap, ◌∙◌}
use Rattle.std.specs.Prelude.{Result, Ok, Err, IfErr}
use Rattle.outside.specs.declared.error.StoreError.{StoreError}
use Rattle.outside.specs.declared.error.StoreError.TheVariants.{Failed}
use Rattle.row_changes.specs.Differing.{gone_from, set_from, is_nothing}
use Rattle.row_changes.proofs.Same.{nothing_where_same}
use Rattle.row_changes.proofs.saving.tell_changes.Goals as goal

failed_where : {T P : Type 0} → (P → ⊥) → (r : Result T StoreError)
    → IfErr r (λ e. e ≡ Failed → P → ⊥)
failed_where none (Ok x) = tt
failed_where none (Err e) = λ failed p. none p

pub returns-clause-same : goal.returns-clause-same
returns-clause-same g c = λ is.
    let nothing : is_nothing (gone_from c.args.last.now c.args.wanted.now)
    (set_from c.args.last.now c.args.wanted.now) ≡ true =
    nothing_where_same c.args.last.now c.args.wanted.now c.requires.last_rises is in
    let gone : c.in_ok-changes.changes.gone.items ≡ gone_from c.args.last.now c.args.wanted.now =
    c.in_ok-changes.ensures.gone in
    let set : c.in_ok-changes.changes.set.items ≡ set_from c.args.last.now c.args.wanted.now =
    c.in_ok-changes.ensures.set in
    let told : is_nothing c.in_ok-changes.changes.gone.items c.in_ok-changes.changes.set.items
    ≡ true = ap (λ k. is_nothing k c.in_ok-changes.changes.set.items) gone
    ∙ ap (λ k. is_nothing (gone_from c.args.last.now c.args.wanted.now) k) set ∙ nothing in
    let clash : c.is_empty.result ≡ true = c.is_empty.ensures ∙ told in
    absurd (cc c.if-is_empty.false)

-- a call was made, so something differs
pub returns-clause-differ : goal.returns-clause-differ
returns-clause-differ g c = failed_where (λ is. clash is) c.replace.result
  where
    clash : c.args.last.now ≡ c.args.wanted.now → ⊥
    clash is =
        let nothing : is_nothing (gone_from c.args.last.now c.args.wanted.now)
        (set_from c.args.last.now c.args.wanted.now) ≡ true =
        nothing_where_same c.args.last.now c.args.wanted.now c.requires.last_rises is in
        let told : is_nothing c.in_ok-changes.changes.gone.items c.in_ok-changes.changes.set.items
        ≡ true = ap (λ k. is_nothing k c.in_ok-changes.changes.set.items)
        c.in_ok-changes.ensures.gone
        ∙ ap (λ k. is_nothing (gone_from c.args.last.now c.args.wanted.now) k)
        c.in_ok-changes.ensures.set ∙ nothing in
        let was : c.is_empty.result ≡ true = c.is_empty.ensures ∙ told in
        absurd (cc c.if-is_empty.false)
