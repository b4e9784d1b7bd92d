use Rattle.std.proofs.Common.{◌≡◌, if◌then◌else◌, true, false, Some, ◌+◌, drop, sym, ap, ◌∙◌, arith}
use Rattle.std.specs.Str.{bytes_eq}
use Rattle.path_tree.specs.Find.{find_field}
use Rattle.path_tree.specs.View.{fields_of}
use Rattle.path_tree.proofs.Scans.{scan_more}
use Rattle.path_tree.proofs.tree.dicts.scanned.Goals as goal

pub returns-then-spells : goal.returns-then-spells
returns-then-spells c =
    let es = c.args.entries.now in
    let i = c.entries.entry-index in
    let e = c.entry-item.result in
    let test : bytes_eq e.key c.args.key.now ≡ true = sym c.spells.ensures ∙ c.if-spells.true in
    sym (ap (λ b. if b then Some e.value else find_field c.args.key.now (fields_of (drop (i + 1)
    es))) test)
    ∙ sym (scan_more es i e c.args.key.now c.requires (omega (arith, c.entries-test.true))
    c.entry-item.is)
    ∙ c.entries.invariant

pub entries-preserved : goal.entries-preserved
entries-preserved c =
    let es = c.args.entries.now in
    let i = c.entries.entry-index in
    let e = c.entry-item.result in
    let test : bytes_eq e.key c.args.key.now ≡ false = sym c.spells.ensures ∙ c.if-spells.false in
    sym (ap (λ b. if b then Some e.value else find_field c.args.key.now (fields_of (drop (i + 1)
    es))) test)
    ∙ sym (scan_more es i e c.args.key.now c.requires (omega (arith, c.entries-test.true))
    c.entry-item.is)
    ∙ c.entries.invariant
